-- Bytes that come later do not change what was whole.
use Rattle.std.proofs.Common.{ℕ, ltb, List, [], ◌∷◌, ◌++◌, length, take, drop, sym, refl, ap, ◌∙◌, append_assoc}
use Rattle.std.proofs.lemmas.Bool.{cond_both}
use Rattle.frames.specs.declared.kind.Kind.{Kind}
use Rattle.frames.specs.declared.opening.Opening.{Opening}
use Rattle.frames.specs.declared.opening.Opening.TheVariants as opening
use Rattle.frames.specs.Laws.{kind_byte, Followed, Lasting}
use Rattle.frames.specs.Reading.{Read, Whole, Cut, number, length_bytes, behind_length, behind_kind, opens, opened}
use Rattle.frames.proofs.Parts.{Parts, parts_at, parts_whole, kind_opens}

-- the parts of a frame stay, and what follows it grows
parts_more : (k : Kind) (body rest bs more : List ℕ) → Parts k body rest bs → Parts k body (rest ++ more) (bs ++ more)
parts_more k body rest bs more p =
    record {
      field = p.field;
      long = p.long;
      says = p.says;
      is = ap (λ xs. xs ++ more) p.is ∙ ap (λ xs. kind_byte k ∷ xs) (append_assoc p.field (body ++ rest) more ∙ ap (λ xs. p.field ++ xs) (append_assoc body rest more));
    }

framed_more : (k : Kind) (bs more : List ℕ) → Followed (behind_kind k bs) more (behind_kind k (bs ++ more))
framed_more k bs more =
    let w : ℕ = length_bytes k in
    let n : ℕ = number (take w bs) in
    let d : List ℕ = drop w bs in
    let same : Read → Type 0 = λ r. Followed r more (behind_kind k (bs ++ more)) in
    cond_both (ltb (length bs) w) (Cut k) (behind_length k n d) same (λ _. tt) (λ long.
    cond_both (ltb (length d) n) (Cut k) (Whole k (take n d) (drop n d)) same (λ _. tt) (λ holds.
    sym (kind_opens k (bs ++ more)) ∙ parts_whole k (take n d) (drop n d ++ more) (kind_byte k ∷ (bs ++ more)) (parts_more k (take n d) (drop n d) (kind_byte k ∷ bs) more (parts_at (kind_byte k) k bs refl long holds))))

opened_more : (o : Opening) (bs more : List ℕ) → Followed (opened o bs) more (opened o (bs ++ more))
opened_more (opening.Framed k) bs more = framed_more k bs more
opened_more opening.Pause bs more = refl
opened_more opening.Unknown bs more = refl

pub lasting : Lasting
lasting [] more = tt
lasting (b ∷ bs) more = opened_more (opens b) bs more
