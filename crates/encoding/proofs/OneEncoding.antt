-- An update that is read is well formed, and its bytes are those that are written for it.
use Rattle.std.proofs.Common.{◌≡◌, ℕ, zero, suc, ◌+◌, ◌<◌, ◌≤◌, Bool, true, false, cond, ltb, leb, List, [], ◌∷◌, ◌++◌, length, sym, refl, ap, ◌∙◌, subst, ap₂, arith}
use Rattle.std.specs.List.{AllByRecursion}
use Rattle.std.proofs.lemmas.List.{append_assoc, append-nil}
use Rattle.std.proofs.lemmas.Bool.{ltb-true, leb-true}
use Rattle.model.specs.Declarations.{Declarations, TableDeclaration}
use Rattle.model.specs.Table.{Entry}
use Rattle.model.specs.Version.{Edit, Replace}
use Rattle.update.specs.Decoded.{Fault, TooManyEntries, NoTable, TableTwice, Decoded, Taken, Refused, Then}
use Rattle.update.specs.Decoding.{among, named, entries_at, table_at, size_at, edit_at, edits_at, wholly}
use Rattle.encoding.specs.Encoded.{half, entries_bytes, edit_bytes, edits_bytes}
use Rattle.encoding.specs.WellFormed.{Given, EditFits, Apart}
use Rattle.encoding.specs.RoundTrip.{Byte, Read, OneEncoding}
use Rattle.encoding.proofs.Backwards.{Took, Many, refused, passed, half_back, single, none_more, one_more, together, entries_back}

-- a table that is there and was not named before
record Fresh (tables : ℕ) (before : List Edit) (t : ℕ) : Type 0 where
  declared : t < tables
  one_byte : t < 256
  apart : among t (named before) ≡ false

record Failed (b : Bool) (x : Decoded) (gs : List Edit) : Type 0 where
  no_so : b ≡ false
  on : x ≡ Taken gs

failed : (b : Bool) (x : Decoded) (f : Fault) (gs : List Edit) → cond b (Refused f) x ≡ Taken gs → Failed b x gs
failed true x f gs e = refused f gs e
failed false x f gs e = record { no_so = refl; on = e }

table_back : (tables : ℕ) (before : List Edit) (at : ℕ) (bs : List ℕ) (k : Then ℕ) (gs : List Edit) → AllByRecursion Byte bs → table_at tables before at bs k ≡ Taken gs → Took single (Fresh tables before) bs k gs
table_back tables before at [] k gs s e = refused _ gs e
table_back tables before at (t ∷ bs) k gs s e =
    let p = passed (ltb t tables) (cond (among t (named before)) (Refused (TableTwice at)) (k t (at + 1) bs)) (NoTable at) gs e in
    let q = failed (among t (named before)) (k t (at + 1) bs) (TableTwice at) gs p.on in
    record {
      value = t;
      behind = at + 1;
      rest = bs;
      split = refl;
      small = s.1;
      fine = record { declared = ltb-true t tables p.yes_so; one_byte = s.0; apart = q.no_so };
      on = q.on;
    }

record Sized (t : TableDeclaration) (n : ℕ) : Type 0 where
  few : n ≤ t.lines
  two_bytes : n < 65536

size_back : (t : TableDeclaration) (at : ℕ) (bs : List ℕ) (k : Then ℕ) (gs : List Edit) → AllByRecursion Byte bs → size_at t at bs k ≡ Taken gs → Took half (Sized t) bs k gs
size_back t at bs k gs s e =
    let r = half_back at bs (λ n behind rest. cond (leb n t.lines) (k n behind rest) (Refused (TooManyEntries at))) gs s e in
    let p = passed (leb r.value t.lines) (k r.value r.behind r.rest) (TooManyEntries at) gs r.on in
    record {
      value = r.value;
      behind = r.behind;
      rest = r.rest;
      split = r.split;
      small = r.small;
      fine = record { few = leb-true r.value t.lines p.yes_so; two_bytes = r.fine };
      on = p.on;
    }

-- an edit was taken
record Edits (d : Declarations) (tables : ℕ) (before : List Edit) (bs : List ℕ) (k : Then Edit) (gs : List Edit) : Type 0 where
  table : ℕ
  entries : List Entry
  behind : ℕ
  rest : List ℕ
  split : bs ≡ edit_bytes (Replace table entries) ++ rest
  small : AllByRecursion Byte rest
  apart : among table (named before) ≡ false
  given : Given d tables table entries
  on : k (Replace table entries) behind rest ≡ Taken gs

edit_split : (bs : List ℕ) (t : ℕ) (rest : List ℕ) (n m : ℕ) (left xs more : List ℕ) → m ≡ n → bs ≡ t ∷ rest → rest ≡ half n ++ left → left ≡ xs ++ more → bs ≡ (t ∷ (half m ++ xs)) ++ more
edit_split bs t rest n m left xs more q e f g =
    e ∙ (ap (λ (zs : List ℕ). t ∷ zs) (f ∙ ap₂ (λ (i : ℕ) (zs : List ℕ). half i ++ zs) (sym q) g) ∙ ap (λ (zs : List ℕ). t ∷ zs) (sym (append_assoc (half m) xs more)))

edit_back : (d : Declarations) (tables : ℕ) (before : List Edit) (at : ℕ) (bs : List ℕ) (k : Then Edit) (gs : List Edit) → AllByRecursion Byte bs → edit_at d tables before at bs k ≡ Taken gs → Edits d tables before bs k gs
edit_back d tables before at bs k gs s e =
    let r = table_back tables before at bs (λ t behind rest. size_at (d.table t) behind rest (λ n behind2 rest2. entries_at d (d.table t) n [] behind2 rest2 (λ es. k (Replace t es)))) gs s e in
    let c = size_back (d.table r.value) r.behind r.rest (λ n behind2 rest2. entries_at d (d.table r.value) n [] behind2 rest2 (λ es. k (Replace r.value es))) gs r.small r.on in
    let m = entries_back d (d.table r.value) c.value [] c.behind c.rest (λ es. k (Replace r.value es)) gs c.small c.on in
    record {
      table = r.value;
      entries = m.values;
      behind = m.behind;
      rest = m.rest;
      split = edit_split bs r.value r.rest c.value (length m.values) c.rest (entries_bytes m.values) m.rest m.count r.split c.split m.split;
      small = m.small;
      apart = r.fine.apart;
      given = record {
        declared = r.fine.declared;
        one_byte = r.fine.one_byte;
        few = omega (arith, m.count, c.fine.few);
        two_bytes = omega (arith, m.count, c.fine.two_bytes);
        entries = m.fine;
      };
      on = m.on;
    }

record AllFit (d : Declarations) (tables : ℕ) (before gs : List Edit) : Type 0 where
  apart : Apart before gs
  each : AllByRecursion (EditFits d tables) gs

edits_back : (d : Declarations) (tables n : ℕ) (done : List Edit) (at : ℕ) (bs : List ℕ) (k : Then (List Edit)) (gs : List Edit) → AllByRecursion Byte bs →
    edits_at d tables n done at bs k ≡ Taken gs → Many edits_bytes (AllFit d tables done) n done bs k gs
unfolding edits_at Apart
edits_back d tables zero done at bs k gs s e =
    record { values = []; count = refl; behind = at; rest = bs; split = refl; small = s; fine = record { apart = tt; each = tt }; on = none_more done k at bs gs e }
edits_back d tables (suc n) done at bs k gs s e =
    let r = edit_back d tables done at bs (λ g behind rest. edits_at d tables n (done ++ (g ∷ [])) behind rest k) gs s e in
    let g : Edit = Replace r.table r.entries in
    let m = edits_back d tables n (done ++ (g ∷ [])) r.behind r.rest k gs r.small r.on in
    record {
      values = g ∷ m.values;
      count = ap suc m.count;
      behind = m.behind;
      rest = m.rest;
      split = together bs (edit_bytes g) r.rest (edits_bytes m.values) m.rest r.split m.split;
      small = m.small;
      fine = record { apart = (r.apart, m.fine.apart); each = (r.given, m.fine.each) };
      on = one_more done g m.values k m.behind m.rest gs m.on;
    }

taken_same : (fs gs : List Edit) → Taken fs ≡ Taken gs → fs ≡ gs
taken_same fs gs e = cc

-- nothing is left over
record Whole (gs hs : List Edit) (rest : List ℕ) : Type 0 where
  same : hs ≡ gs
  none : rest ≡ []

whole : (gs hs : List Edit) (at : ℕ) (rest : List ℕ) → wholly hs at rest ≡ Taken gs → Whole gs hs rest
whole gs hs at [] e = record { same = taken_same hs gs e; none = refl }
whole gs hs at (b ∷ bs) e = refused _ gs e

well : (d : Declarations) (tables n : ℕ) (bs : List ℕ) (hs : List Edit) → n < 256 → length hs ≡ n → bs ≡ edits_bytes hs → AllFit d tables [] hs → Read d tables (n ∷ bs) hs
well d tables n bs hs b c e f = record {
  well_formed = record { few = omega arith; apart = f.apart; each = f.each };
  same_bytes = ap₂ (λ (i : ℕ) (zs : List ℕ). i ∷ zs) c (sym e);
}

pub one_encoding : OneEncoding
one_encoding d tables [] gs s e = refused _ gs e
one_encoding d tables (n ∷ bs) gs s e =
    let m = edits_back d tables n [] 1 bs wholly gs s.1 e in
    let w = whole gs m.values m.behind m.rest m.on in
    let f : bs ≡ edits_bytes m.values = m.split ∙ (ap (λ (zs : List ℕ). edits_bytes m.values ++ zs) w.none ∙ append-nil (edits_bytes m.values)) in
    subst (λ (hs : List Edit). Read d tables (n ∷ bs) hs) w.same (well d tables n bs m.values s.0 m.count f m.fine)
