-- What is read is what is written.
use Rattle.std.proofs.Common.{◌≡◌, ℕ, zero, suc, ◌+◌, ◌*◌, ◌/◌, ◌%◌, ◌^◌, ◌<◌, ◌≤◌, Bool, true, false, cond, ltb, leb, List, [], ◌∷◌, ◌++◌, length, sym, refl, ap, ◌∙◌, ap₂, arith}
use Rattle.std.specs.List.{AllByRecursion}
use Rattle.std.proofs.lemmas.List.{append_assoc, append-nil}
use Rattle.std.proofs.lemmas.Bool.{ltb-true, leb-true}
use Rattle.model.specs.Declarations.{Declarations, TableDeclaration}
use Rattle.model.specs.Action.{Operand, Field, Number, Action, Set, Add}
use Rattle.model.specs.Table.{Pattern, Entry}
use Rattle.model.specs.Version.{Edit}
use Rattle.update.specs.Decoded.{Fault, TooWide, TooManyActions, NoField, NotItsField, Decoded, Taken, Refused, Then}
use Rattle.update.specs.Numbers.{half_at, word_at}
use Rattle.update.specs.Decoding.{among, is_there, field_at, operand_by, operand_at, change_by, settable_at, action_at, actions_at, fitting_at, pattern_at, patterns_at, count_at, entry_at, entries_at}
use Rattle.encoding.specs.Encoded.{half, word, operand_bytes, action_bytes, actions_bytes, pattern_bytes, patterns_bytes, entry_bytes, entries_bytes}
use Rattle.encoding.specs.WellFormed.{Fits, PatternFits, PatternsFit, FieldThere, Settable, OperandFits, ActionFits, EntryFits}
use Rattle.encoding.specs.RoundTrip.{Byte}

-- a reader has taken something fine from the front of bytes, and the update was taken with it
pub record Took {A : Type 0} (bytes : A → List ℕ) (Fine : A → Type 0) (bs : List ℕ) (k : Then A) (gs : List Edit) : Type 0 where
  pub value : A
  pub behind : ℕ
  pub rest : List ℕ
  pub split : bs ≡ bytes value ++ rest
  pub small : AllByRecursion Byte rest
  pub fine : Fine value
  pub on : k value behind rest ≡ Taken gs

pub refused : {A : Type 0} (f : Fault) (gs : List Edit) → Refused f ≡ Taken gs → A
refused f gs e = let z : ◌≡◌ {A = ℕ} 0 1 = cc in absurd (omega arith)

-- a test was passed
pub record Passed (b : Bool) (x : Decoded) (gs : List Edit) : Type 0 where
  pub yes_so : b ≡ true
  pub on : x ≡ Taken gs

pub passed : (b : Bool) (x : Decoded) (f : Fault) (gs : List Edit) → cond b x (Refused f) ≡ Taken gs → Passed b x gs
passed true x f gs e = record { yes_so = refl; on = e }
passed false x f gs e = refused f gs e

half_again : (a b : ℕ) → b < 256 → half (a * 256 + b) ≡ a ∷ (b ∷ [])
half_again a b h =
    let p : (a * 256 + b) / 256 ≡ a = omega arith in
    let q : (a * 256 + b) % 256 ≡ b = omega arith in
    cc

word_again : (a b c d : ℕ) → b < 256 → c < 256 → d < 256 → word (((a * 256 + b) * 256 + c) * 256 + d) ≡ a ∷ (b ∷ (c ∷ (d ∷ [])))
word_again a b c d h i j =
    let p : (((a * 256 + b) * 256 + c) * 256 + d) / 65536 ≡ a * 256 + b = omega arith in
    let q : (((a * 256 + b) * 256 + c) * 256 + d) % 65536 ≡ c * 256 + d = omega arith in
    ap₂ (λ (m n : ℕ). half m ++ half n) p q ∙ ap₂ (λ (xs ys : List ℕ). xs ++ ys) (half_again a b h) (half_again c d j)

pub half_back : (at : ℕ) (bs : List ℕ) (k : Then ℕ) (gs : List Edit) → AllByRecursion Byte bs → half_at at bs k ≡ Taken gs → Took half (λ n. n < 65536) bs k gs
half_back at [] k gs s e = refused _ gs e
half_back at (a ∷ []) k gs s e = refused _ gs e
half_back at (a ∷ (b ∷ bs)) k gs s e = record {
  value = a * 256 + b;
  behind = at + 2;
  rest = bs;
  split = ap (λ (xs : List ℕ). xs ++ bs) (sym (half_again a b s.1.0));
  small = s.1.1;
  fine = omega (arith, s.0, s.1.0);
  on = e;
}

word_back : (at : ℕ) (bs : List ℕ) (k : Then ℕ) (gs : List Edit) → AllByRecursion Byte bs → word_at at bs k ≡ Taken gs → Took word (λ n. n < 2 ^ 32) bs k gs
word_back at [] k gs s e = refused _ gs e
word_back at (a ∷ []) k gs s e = refused _ gs e
word_back at (a ∷ (b ∷ [])) k gs s e = refused _ gs e
word_back at (a ∷ (b ∷ (c ∷ []))) k gs s e = refused _ gs e
word_back at (a ∷ (b ∷ (c ∷ (d ∷ bs)))) k gs s e = record {
  value = ((a * 256 + b) * 256 + c) * 256 + d;
  behind = at + 4;
  rest = bs;
  split = ap (λ (xs : List ℕ). xs ++ bs) (sym (word_again a b c d s.1.0 s.1.1.0 s.1.1.1.0));
  small = s.1.1.1.1;
  fine = omega (arith, s.0, s.1.0, s.1.1.0, s.1.1.1.0);
  on = e;
}

abbrev pub single : ℕ → List ℕ
single n = n ∷ []

field_back : (d : Declarations) (at : ℕ) (bs : List ℕ) (k : Then ℕ) (gs : List Edit) → AllByRecursion Byte bs → field_at d at bs k ≡ Taken gs → Took single (FieldThere d) bs k gs
field_back d at [] k gs s e = refused _ gs e
field_back d at (f ∷ bs) k gs s e =
    let p = passed (is_there d f) (k f (at + 1) bs) (NoField at) gs e in
    record { value = f; behind = at + 1; rest = bs; split = refl; small = s.1; fine = record { there = p.yes_so; one_byte = s.0 }; on = p.on }

settable_back : (t : TableDeclaration) (at : ℕ) (bs : List ℕ) (k : Then ℕ) (gs : List Edit) → AllByRecursion Byte bs → settable_at t at bs k ≡ Taken gs → Took single (Settable t) bs k gs
settable_back t at [] k gs s e = refused _ gs e
settable_back t at (f ∷ bs) k gs s e =
    let p = passed (among f t.sets) (k f (at + 1) bs) (NotItsField at) gs e in
    record { value = f; behind = at + 1; rest = bs; split = refl; small = s.1; fine = record { may_set = p.yes_so; one_byte = s.0 }; on = p.on }

operand_by_lem : (d : Declarations) (from kind at : ℕ) (bs : List ℕ) (k : Then Operand) (gs : List Edit) → AllByRecursion Byte bs → operand_by d from kind at bs k ≡ Taken gs →
    Took operand_bytes (OperandFits d) (kind ∷ bs) k gs
operand_by_lem d from zero at bs k gs s e =
    let r = word_back at bs (λ n. k (Number n)) gs s e in
    record { value = Number r.value; behind = r.behind; rest = r.rest; split = ap (λ (xs : List ℕ). 0 ∷ xs) r.split; small = r.small; fine = r.fine; on = r.on }
operand_by_lem d from (suc zero) at bs k gs s e =
    let r = field_back d at bs (λ f. k (Field f)) gs s e in
    record { value = Field r.value; behind = r.behind; rest = r.rest; split = ap (λ (xs : List ℕ). 1 ∷ xs) r.split; small = r.small; fine = r.fine; on = r.on }
operand_by_lem d from (suc (suc kind)) at bs k gs s e = refused _ gs e

operand_back : (d : Declarations) (at : ℕ) (bs : List ℕ) (k : Then Operand) (gs : List Edit) → AllByRecursion Byte bs → operand_at d at bs k ≡ Taken gs → Took operand_bytes (OperandFits d) bs k gs
operand_back d at [] k gs s e = refused _ gs e
operand_back d at (b ∷ bs) k gs s e = operand_by_lem d at b (at + 1) bs k gs s.1 e

-- the field and the operand of an action
record Aims (d : Declarations) (t : TableDeclaration) (change : ℕ → Operand → Action) (bs : List ℕ) (k : Then Action) (gs : List Edit) : Type 0 where
  field : ℕ
  operand : Operand
  behind : ℕ
  rest : List ℕ
  split : bs ≡ field ∷ (operand_bytes operand ++ rest)
  small : AllByRecursion Byte rest
  settable : Settable t field
  fits : OperandFits d operand
  on : k (change field operand) behind rest ≡ Taken gs

aims : (d : Declarations) (t : TableDeclaration) (change : ℕ → Operand → Action) (at : ℕ) (bs : List ℕ) (k : Then Action) (gs : List Edit) → AllByRecursion Byte bs →
    settable_at t at bs (λ f behind rest. operand_at d behind rest (λ o. k (change f o))) ≡ Taken gs → Aims d t change bs k gs
aims d t change at bs k gs s e =
    let r = settable_back t at bs (λ f behind rest. operand_at d behind rest (λ o. k (change f o))) gs s e in
    let o = operand_back d r.behind r.rest (λ o. k (change r.value o)) gs r.small r.on in
    record {
      field = r.value;
      operand = o.value;
      behind = o.behind;
      rest = o.rest;
      split = r.split ∙ ap (λ (xs : List ℕ). r.value ∷ xs) o.split;
      small = o.small;
      settable = r.fine;
      fits = o.fine;
      on = o.on;
    }

action_by : (d : Declarations) (t : TableDeclaration) (from kind at : ℕ) (bs : List ℕ) (k : Then Action) (gs : List Edit) → AllByRecursion Byte bs →
    change_by from kind (λ change behind rest. settable_at t behind rest (λ f behind2 rest2. operand_at d behind2 rest2 (λ o. k (change f o)))) at bs ≡ Taken gs →
    Took action_bytes (ActionFits d t) (kind ∷ bs) k gs
action_by d t from zero at bs k gs s e = refused _ gs e
action_by d t from (suc zero) at bs k gs s e =
    let r = aims d t Set at bs k gs s e in
    record { value = Set r.field r.operand; behind = r.behind; rest = r.rest; split = ap (λ (xs : List ℕ). 1 ∷ xs) r.split; small = r.small; fine = (r.settable, r.fits); on = r.on }
action_by d t from (suc (suc zero)) at bs k gs s e =
    let r = aims d t Add at bs k gs s e in
    record { value = Add r.field r.operand; behind = r.behind; rest = r.rest; split = ap (λ (xs : List ℕ). 2 ∷ xs) r.split; small = r.small; fine = (r.settable, r.fits); on = r.on }
action_by d t from (suc (suc (suc kind))) at bs k gs s e = refused _ gs e

action_back : (d : Declarations) (t : TableDeclaration) (at : ℕ) (bs : List ℕ) (k : Then Action) (gs : List Edit) → AllByRecursion Byte bs → action_at d t at bs k ≡ Taken gs → Took action_bytes (ActionFits d t) bs k gs
action_back d t at [] k gs s e = refused _ gs e
action_back d t at (b ∷ bs) k gs s e = action_by d t at b (at + 1) bs k gs s.1 e

-- a list of so many, behind those that were taken before
pub record Many {A : Type 0} (bytes : List A → List ℕ) (Fine : List A → Type 0) (n : ℕ) (done : List A) (bs : List ℕ) (k : Then (List A)) (gs : List Edit) : Type 0 where
  pub values : List A
  pub count : length values ≡ n
  pub behind : ℕ
  pub rest : List ℕ
  pub split : bs ≡ bytes values ++ rest
  pub small : AllByRecursion Byte rest
  pub fine : Fine values
  pub on : k (done ++ values) behind rest ≡ Taken gs

pub none_more : {A : Type 0} (done : List A) (k : Then (List A)) (at : ℕ) (bs : List ℕ) (gs : List Edit) → k done at bs ≡ Taken gs → k (done ++ []) at bs ≡ Taken gs
none_more {A} done k at bs gs e = ap (λ (xs : List A). k xs at bs) (append-nil done) ∙ e

pub one_more : {A : Type 0} (done : List A) (x : A) (xs : List A) (k : Then (List A)) (at : ℕ) (bs : List ℕ) (gs : List Edit) → k ((done ++ (x ∷ [])) ++ xs) at bs ≡ Taken gs → k (done ++ (x ∷ xs)) at bs ≡ Taken gs
one_more {A} done x xs k at bs gs e = ap (λ (ys : List A). k ys at bs) (sym (append_assoc done (x ∷ []) xs)) ∙ e

pub together : (bs xs rest ys more : List ℕ) → bs ≡ xs ++ rest → rest ≡ ys ++ more → bs ≡ (xs ++ ys) ++ more
together bs xs rest ys more e f = e ∙ (ap (λ (zs : List ℕ). xs ++ zs) f ∙ sym (append_assoc xs ys more))

actions_back : (d : Declarations) (t : TableDeclaration) (n : ℕ) (done : List Action) (at : ℕ) (bs : List ℕ) (k : Then (List Action)) (gs : List Edit) → AllByRecursion Byte bs →
    actions_at d t n done at bs k ≡ Taken gs → Many actions_bytes (AllByRecursion (ActionFits d t)) n done bs k gs
unfolding actions_at
actions_back d t zero done at bs k gs s e = record { values = []; count = refl; behind = at; rest = bs; split = refl; small = s; fine = tt; on = none_more done k at bs gs e }
actions_back d t (suc n) done at bs k gs s e =
    let r = action_back d t at bs (λ a behind rest. actions_at d t n (done ++ (a ∷ [])) behind rest k) gs s e in
    let m = actions_back d t n (done ++ (r.value ∷ [])) r.behind r.rest k gs r.small r.on in
    record {
      values = r.value ∷ m.values;
      count = ap suc m.count;
      behind = m.behind;
      rest = m.rest;
      split = together bs (action_bytes r.value) r.rest (actions_bytes m.values) m.rest r.split m.split;
      small = m.small;
      fine = (r.fine, m.fine);
      on = one_more done r.value m.values k m.behind m.rest gs m.on;
    }

fitting_back : (width at : ℕ) (bs : List ℕ) (k : Then ℕ) (gs : List Edit) → AllByRecursion Byte bs → fitting_at width at bs k ≡ Taken gs → Took word (Fits width) bs k gs
fitting_back width at bs k gs s e =
    let r = word_back at bs (λ x behind rest. cond (ltb x (2 ^ width)) (k x behind rest) (Refused (TooWide at))) gs s e in
    let p = passed (ltb r.value (2 ^ width)) (k r.value r.behind r.rest) (TooWide at) gs r.on in
    record {
      value = r.value;
      behind = r.behind;
      rest = r.rest;
      split = r.split;
      small = r.small;
      fine = record { within = ltb-true r.value (2 ^ width) p.yes_so; four_bytes = r.fine };
      on = p.on;
    }

pattern_back : (width at : ℕ) (bs : List ℕ) (k : Then Pattern) (gs : List Edit) → AllByRecursion Byte bs → pattern_at width at bs k ≡ Taken gs → Took pattern_bytes (PatternFits width) bs k gs
pattern_back width at bs k gs s e =
    let r = fitting_back width at bs (λ v behind rest. fitting_at width behind rest (λ m. k (record { value = v; mask = m }))) gs s e in
    let m = fitting_back width r.behind r.rest (λ m. k (record { value = r.value; mask = m })) gs r.small r.on in
    record {
      value = record { value = r.value; mask = m.value };
      behind = m.behind;
      rest = m.rest;
      split = together bs (word r.value) r.rest (word m.value) m.rest r.split m.split;
      small = m.small;
      fine = record { value = r.fine; mask = m.fine };
      on = m.on;
    }

patterns_back : (d : Declarations) (fs : List ℕ) (done : List Pattern) (at : ℕ) (bs : List ℕ) (k : Then (List Pattern)) (gs : List Edit) → AllByRecursion Byte bs →
    patterns_at d fs done at bs k ≡ Taken gs → Many patterns_bytes (PatternsFit d fs) (length fs) done bs k gs
unfolding patterns_at PatternsFit
patterns_back d [] done at bs k gs s e = record { values = []; count = refl; behind = at; rest = bs; split = refl; small = s; fine = tt; on = none_more done k at bs gs e }
patterns_back d (f ∷ fs) done at bs k gs s e =
    let r = pattern_back (d.width f) at bs (λ w behind rest. patterns_at d fs (done ++ (w ∷ [])) behind rest k) gs s e in
    let m = patterns_back d fs (done ++ (r.value ∷ [])) r.behind r.rest k gs r.small r.on in
    record {
      values = r.value ∷ m.values;
      count = ap suc m.count;
      behind = m.behind;
      rest = m.rest;
      split = together bs (pattern_bytes r.value) r.rest (patterns_bytes m.values) m.rest r.split m.split;
      small = m.small;
      fine = (r.fine, m.fine);
      on = one_more done r.value m.values k m.behind m.rest gs m.on;
    }

count_back : (at : ℕ) (bs : List ℕ) (k : Then ℕ) (gs : List Edit) → AllByRecursion Byte bs → count_at at bs k ≡ Taken gs → Took single (λ n. n ≤ 4) bs k gs
count_back at [] k gs s e = refused _ gs e
count_back at (n ∷ bs) k gs s e =
    let p = passed (leb n 4) (k n (at + 1) bs) (TooManyActions at) gs e in
    record { value = n; behind = at + 1; rest = bs; split = refl; small = s.1; fine = leb-true n 4 p.yes_so; on = p.on }

entry_split : (bs ps rest : List ℕ) (n m : ℕ) (left xs more : List ℕ) → m ≡ n → bs ≡ ps ++ rest → rest ≡ n ∷ left → left ≡ xs ++ more → bs ≡ (ps ++ (m ∷ xs)) ++ more
entry_split bs ps rest n m left xs more q e f g =
    e ∙ (ap (λ (zs : List ℕ). ps ++ zs) (f ∙ ap₂ (λ (i : ℕ) (zs : List ℕ). i ∷ zs) (sym q) g) ∙ sym (append_assoc ps (m ∷ xs) more))

entry_back : (d : Declarations) (t : TableDeclaration) (at : ℕ) (bs : List ℕ) (k : Then Entry) (gs : List Edit) → AllByRecursion Byte bs → entry_at d t at bs k ≡ Taken gs → Took entry_bytes (EntryFits d t) bs k gs
entry_back d t at bs k gs s e =
    let p = patterns_back d t.looks [] at bs (λ ps behind rest. count_at behind rest (λ n behind2 rest2. actions_at d t n [] behind2 rest2 (λ xs. k (record { patterns = ps; actions = xs })))) gs s e in
    let c = count_back p.behind p.rest (λ n behind2 rest2. actions_at d t n [] behind2 rest2 (λ xs. k (record { patterns = p.values; actions = xs }))) gs p.small p.on in
    let m = actions_back d t c.value [] c.behind c.rest (λ xs. k (record { patterns = p.values; actions = xs })) gs c.small c.on in
    record {
      value = record { patterns = p.values; actions = m.values };
      behind = m.behind;
      rest = m.rest;
      split = entry_split bs (patterns_bytes p.values) p.rest c.value (length m.values) c.rest (actions_bytes m.values) m.rest m.count p.split c.split m.split;
      small = m.small;
      fine = record { patterns = p.fine; few_actions = omega (arith, m.count, c.fine); actions = m.fine };
      on = m.on;
    }

pub entries_back : (d : Declarations) (t : TableDeclaration) (n : ℕ) (done : List Entry) (at : ℕ) (bs : List ℕ) (k : Then (List Entry)) (gs : List Edit) → AllByRecursion Byte bs →
    entries_at d t n done at bs k ≡ Taken gs → Many entries_bytes (AllByRecursion (EntryFits d t)) n done bs k gs
unfolding entries_at
entries_back d t zero done at bs k gs s e = record { values = []; count = refl; behind = at; rest = bs; split = refl; small = s; fine = tt; on = none_more done k at bs gs e }
entries_back d t (suc n) done at bs k gs s e =
    let r = entry_back d t at bs (λ a behind rest. entries_at d t n (done ++ (a ∷ [])) behind rest k) gs s e in
    let m = entries_back d t n (done ++ (r.value ∷ [])) r.behind r.rest k gs r.small r.on in
    record {
      values = r.value ∷ m.values;
      count = ap suc m.count;
      behind = m.behind;
      rest = m.rest;
      split = together bs (entry_bytes r.value) r.rest (entries_bytes m.values) m.rest r.split m.split;
      small = m.small;
      fine = (r.fine, m.fine);
      on = one_more done r.value m.values k m.behind m.rest gs m.on;
    }
