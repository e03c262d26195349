-- Fields and operands that are read are spelt.
use Rattle.std.proofs.Common.{◌≡◌, ℕ, ◌^◌, ◌<◌, true, List, ◌∷◌, length, is_some, Some, Option, sym, refl, ap, ◌∙◌, subst}
use Rattle.model.specs.Action as action
use Rattle.token.specs.declared.token.Sign.TheVariants.{Dot}
use Rattle.token.specs.Tokens.{Word, Number, Mark, Token}
use Rattle.source.specs.Names.{find_in}
use Rattle.source.specs.State.{Seen, Purpose, Operates, Goal}
use Rattle.source.specs.Steps.{is_sign, number_of}
use Rattle.source.specs.Bodies.{settle}
use Rattle.source.specs.Using.{header_for, field_for, has_room_for, field_named, past}
use Rattle.source.specs.Reading as reading
use Rattle.grammar.specs.Syntax as syntax
use Rattle.grammar.specs.Syntax.{Reference, Bare, Dotted, Literal, Content}
use Rattle.grammar.specs.Spelling as spelling
use Rattle.grammar.specs.Spelling.{Piece, Fits}
use Rattle.grammar.specs.Lookup.{Known, the, in_header, GoodValue}
use Rattle.grammar.specs.Statements.{operand}
use Rattle.grammar.proofs.Going.{stands_for}
use Rattle.grammar.proofs.Taking.{After, refuses, next, is_sign_lem, took_if, took_word, took_number, took_known, next_word, put, less}
use Rattle.grammar.proofs.TakingItem.{is_known, is_the, fewer}

-- a field, and the token behind it
pub record ReferenceRead (u : Purpose) (d : Seen) (ts : List Token) (g : Seen) : Type 0 where
  pub reference : Reference
  pub token : Token
  pub rest : List Token
  pub known : Known (stands_for u d.names reference)
  pub has_room_lem : has_room_for u d ≡ true
  pub spelt : (js : List Piece) → Fits js (token ∷ rest) → Fits (spelling.reference reference js) ts
  pub less : length rest < length ts
  pub takes : After (past u (the (stands_for u d.names reference)) d token) rest g

bare_read : (u : Purpose) (d g : Seen) (w : List ℕ) (m : ℕ) (x y : Token) (ts xs ys : List Token) → ts ≡ x ∷ xs → x.kind ≡ Word w → xs ≡ y ∷ ys →
    field_for u d.names w ≡ Some m → has_room_for u d ≡ true → After (past u m d y) ys g → ReferenceRead u d ts g
bare_read u d g w m x y ts xs ys e c f i r a =
    record {
      reference = Bare w;
      token = y;
      rest = ys;
      known = is_known _ m i;
      has_room_lem = r;
      spelt = λ js h. put e c (subst (Fits js) (sym f) h);
      less = fewer _ _ _ (less f) (less e);
      takes = subst (λ (q : ℕ). After (past u q d y) ys g) (sym (is_the _ m i)) a;
    }

dotted_read : (u : Purpose) (d g : Seen) (w v : List ℕ) (k m : ℕ) (x y z a : Token) (ts xs ys zs us : List Token) → ts ≡ x ∷ xs → x.kind ≡ Word w → xs ≡ y ∷ ys → y.kind ≡ Mark Dot →
    ys ≡ z ∷ zs → z.kind ≡ Word v → zs ≡ a ∷ us → header_for u d.names w ≡ Some k → find_in d.names.fields k v ≡ Some m → has_room_for u d ≡ true →
    After (past u m d a) us g → ReferenceRead u d ts g
dotted_read u d g w v k m x y z a ts xs ys zs us e c f i j l o h n r s =
    let t : stands_for u d.names (Dotted w v) ≡ Some m = ap (λ (q : Option ℕ). in_header d.names.fields q v) h ∙ n in
    record {
      reference = Dotted w v;
      token = a;
      rest = us;
      known = is_known _ m t;
      has_room_lem = r;
      spelt = λ js q. put e c (put f i (put j l (subst (Fits js) (sym o) q)));
      less = fewer _ _ _ (less o) (fewer _ _ _ (less j) (fewer _ _ _ (less f) (less e)));
      takes = subst (λ (q : ℕ). After (past u q d a) us g) (sym (is_the _ m t)) s;
    }

pub reference_read : (u : Purpose) (d g : Seen) (ts : List Token) (x : Token) (xs : List Token) → ts ≡ x ∷ xs → After (field_named u d x) xs g → ReferenceRead u d ts g
reference_read u d g ts x xs e a =
    took_word x _ a (λ w c s. next refl s (λ y ys f s. took_if (is_sign Dot y.kind) s
    (λ k s. took_known x.at (header_for u d.names w) _ s (λ h i s. took_if (has_room_for u d) s
    (λ r s. next_word refl (λ z. refl) s (λ z zs v j l s. took_known z.at (find_in d.names.fields h v) _ s (λ m n s.
    next refl s (λ b us o s. dotted_read u d g w v h m x y z b ts xs ys zs us e c f (is_sign_lem Dot y.kind k) j l o i n r s))))
    (λ r s. refuses s)))
    (λ k s. took_known x.at (field_for u d.names w) _ s (λ m i s. took_if (has_room_for u d) s
    (λ r s. bare_read u d g w m x y ts xs ys e c f i r s)
    (λ r s. refuses s)))))

-- an operand, and the token behind it
pub record ValueRead (o : Goal) (d : Seen) (ts : List Token) (g : Seen) : Type 0 where
  pub value : syntax.Value
  pub token : Token
  pub rest : List Token
  pub good : GoodValue d.names value
  pub spelt : (js : List Piece) → Fits js (token ∷ rest) → Fits (spelling.value value js) ts
  pub less : length rest < length ts
  pub takes : After (settle o (operand d.names value) d token) rest g

literal_read : (o : Goal) (d g : Seen) (m : ℕ) (x y : Token) (ts xs ys : List Token) → ts ≡ x ∷ xs → x.kind ≡ Number m → m < 2 ^ 32 → xs ≡ y ∷ ys →
    After (settle o (action.Number m) d y) ys g → ValueRead o d ts g
literal_read o d g m x y ts xs ys e c l f a =
    record {
      value = Literal m;
      token = y;
      rest = ys;
      good = l;
      spelt = λ js h. put e c (subst (Fits js) (sym f) h);
      less = fewer _ _ _ (less f) (less e);
      takes = a;
    }

content_read : (o : Goal) (d g : Seen) (ts : List Token) → ReferenceRead (Operates o) d ts g → ValueRead o d ts g
content_read o d g ts r =
    record {
      value = Content r.reference;
      token = r.token;
      rest = r.rest;
      good = r.known;
      spelt = r.spelt;
      less = r.less;
      takes = r.takes;
    }

pub value_read : (o : Goal) (d g : Seen) (ts : List Token) (x : Token) (xs : List Token) → ts ≡ x ∷ xs → After (reading.operand o d x) xs g → ValueRead o d ts g
value_read o d g ts x xs e a =
    took_if (is_some (number_of x.kind)) a
    (λ n s. took_number x _ s (λ m c l s. next refl s (λ y ys f s. literal_read o d g m x y ts xs ys e c l f s)))
    (λ n s. content_read o d g ts (reference_read (Operates o) d g ts x xs e s))
