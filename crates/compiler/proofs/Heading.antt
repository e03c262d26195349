-- Headers one after the other.
use Rattle.std.proofs.Common.{◌≡◌, ℕ, suc, ◌+◌, ◌-◌, ◌<◌, ◌≤◌, List, [], ◌∷◌, ◌++◌, map, Option, sym, refl, ap, ◌∙◌, arith}
use Rattle.std.proofs.lemmas.List.{map_push, append_assoc, append-nil}
use Rattle.program.specs.declared.headers.Header as plain
use Rattle.packet.specs.Header as packet
use Rattle.packet.specs.Stands.{header_of}
use Rattle.source.specs.Names.{entries_of}
use Rattle.source.specs.State.{Seen}
use Rattle.source.specs.Stands.{choices_of as choices_seen}
use Rattle.source.specs.declared.name.Named.{Named}
use Rattle.source.specs.declared.seen.Choice.{Choice}
use Rattle.compiler.specs.Packaging.{header, headers_from, choices_of, if_after}

pub header_is : (first first' count count' by by' : ℕ) (choices choices' : List packet.Choice) → first ≡ first' → count ≡ count' → by ≡ by' → choices ≡ choices' →
    ◌≡◌ {A = packet.Header} (record { first = first; count = count; by = by; choices = choices }) (record { first = first'; count = count'; by = by'; choices = choices' })
header_is a a' b b' c c' d d' p q r s = λ i. record { first = p i; count = q i; by = r i; choices = s i }

pub same_choices : (h : ℕ) (by by' : Option ℕ) (hs hs' : List (Named 8)) (cs cs' : List Choice) → by ≡ by' → hs ≡ hs' → cs ≡ cs' →
    if_after by (choices_of (entries_of hs) h (choices_seen cs)) ≡ if_after by' (choices_of (entries_of hs') h (choices_seen cs'))
same_choices h by by' hs hs' cs cs' p q r = λ i. if_after (p i) (choices_of (entries_of (q i)) h (choices_seen (r i)))

next_header_lem : (d : Seen) (h n : ℕ) → headers_from d h (suc n) ≡ header d h ∷ headers_from d (h + 1) n
unfolding headers_from
next_header_lem d h n = refl

no_header : (d : Seen) (h : ℕ) → headers_from d h 0 ≡ []
unfolding headers_from
no_header d h = refl

-- one header more is made
pub headed : (d : Seen) (n k : ℕ) (xs ys : List plain.Header) (x : plain.Header) (all : List packet.Header) → k < n → header_of x ≡ header d k → ys ≡ xs ++ (x ∷ []) →
    map header_of xs ++ headers_from d k (n - k) ≡ all → map header_of ys ++ headers_from d (k + 1) (n - (k + 1)) ≡ all
headed d n k xs ys x all l is pushed before =
    let rest = headers_from d (k + 1) (n - (k + 1)) in
    let left : n - k ≡ suc (n - (k + 1)) = omega arith in
    ap (λ (zs : List plain.Header). map header_of zs ++ rest) pushed
    ∙ (ap (λ (zs : List packet.Header). zs ++ rest) (map_push header_of xs x)
    ∙ (append_assoc (map header_of xs) (header_of x ∷ []) rest
    ∙ (ap (λ (z : packet.Header). map header_of xs ++ (z ∷ rest)) is
    ∙ (ap (λ (zs : List packet.Header). map header_of xs ++ zs) (sym (ap (headers_from d k) left ∙ next_header_lem d k (n - (k + 1))))
    ∙ before))))

pub all_headed : (d : Seen) (n k : ℕ) (xs : List plain.Header) (all : List packet.Header) → n ≤ k →
    map header_of xs ++ headers_from d k (n - k) ≡ all → map header_of xs ≡ all
all_headed d n k xs all l before =
    let none : n - k ≡ 0 = omega arith in
    sym (append-nil (map header_of xs)) ∙ (ap (λ (zs : List packet.Header). map header_of xs ++ zs) (sym (ap (headers_from d k) none ∙ no_header d k)) ∙ before)
