-- The searches for names: of a header or a table, of a field in one header, and of the only field of a name.
use Rattle.std.proofs.Common.{zero, suc, MatchOption, arith, ◌≡◌, ℕ, ◌+◌, ◌<◌, ◌≤◌, Bool, true, false, cond, ◌&&◌, eqb, List, [], ◌∷◌, map, length, get_or, drop, is_some, Some, None, Option, sym, refl, ap, ◌∙◌}
use Rattle.std.specs.Str.{bytes_eq}
use Rattle.std.proofs.lemmas.List.{drop_more, drop_all}
use Rattle.std.proofs.lemmas.Bool.{false≢true}
use Rattle.program.specs.Stands.{FieldNo}
use Rattle.source.specs.declared.name.FieldName.{FieldName}
use Rattle.source.specs.Names.{Entry, find, find_in, only_behind, name_of, field_of, number_of}

find_at : {X : Type 0} (of : X → Entry) (xs : List X) (w : List ℕ) (k : ℕ) (x : X) → k < length xs → x ≡ get_or xs k x →
    find (map of (drop k xs)) w ≡ cond (bytes_eq (of x).name w) (Some (of x).number) (find (map of (drop (k + 1) xs)) w)
unfolding find
find_at of xs w k x h e = rw (drop_more xs k x h, ← e) refl

pub find_end : {X : Type 0} (of : X → Entry) (xs : List X) (w : List ℕ) (k : ℕ) → length xs ≤ k → find (map of (drop k xs)) w ≡ None
unfolding find
find_end of xs w k h = rw (drop_all k xs h) refl

pub find_hit : {X : Type 0} (of : X → Entry) (xs : List X) (w : List ℕ) (k : ℕ) (x : X) → k < length xs → x ≡ get_or xs k x → true ≡ bytes_eq (of x).name w →
    find (map of (drop k xs)) w ≡ Some (of x).number
find_hit of xs w k x h e t = find_at of xs w k x h e ∙ ap (λ (b : Bool). cond b (Some (of x).number) (find (map of (drop (k + 1) xs)) w)) (sym t)

pub find_miss : {X : Type 0} (of : X → Entry) (xs : List X) (w : List ℕ) (k : ℕ) (x : X) → k < length xs → x ≡ get_or xs k x → false ≡ bytes_eq (of x).name w →
    find (map of (drop (k + 1) xs)) w ≡ find (map of (drop k xs)) w
find_miss of xs w k x h e t = sym (find_at of xs w k x h e ∙ ap (λ (b : Bool). cond b (Some (of x).number) (find (map of (drop (k + 1) xs)) w)) (sym t))

-- the library's word for the first field of a name in one header is ours
abbrev pub is_of : ℕ → List ℕ → FieldName → Bool
is_of h w f = eqb f.header.at h && bytes_eq (name_of f.name) w

-- up to an index there is none, and the first that there is, with its number
abbrev pub NoneBelow : ℕ → List ℕ → List FieldName → ℕ → Type 0
NoneBelow h w fs n = (k : ℕ) (d : FieldName) → k < n → is_of h w (get_or fs k d) ≡ false

abbrev pub FirstAt : ℕ → List ℕ → List FieldName → FieldNo → Type 0
FirstAt h w fs n = (i : ℕ) × ((i < length fs) × (((d : FieldName) → (is_of h w (get_or fs i d) ≡ true) × (n ≡ (get_or fs i d).no)) × NoneBelow h w fs i))

in_none : (fs : List FieldName) (h : ℕ) (w : List ℕ) → NoneBelow h w fs (length fs) → find_in (map field_of fs) h w ≡ None
unfolding find_in
in_none [] h w n = refl
in_none (f ∷ fs) h w n =
    ap (λ (t : Bool). cond t (Some f.no.at) (find_in (map field_of fs) h w)) (n 0 f (omega arith)) ∙ in_none fs h w (λ k d l. n (suc k) d (omega (arith, l)))

in_some : (fs : List FieldName) (h : ℕ) (w : List ℕ) (n : FieldNo) (i : ℕ) → i < length fs → ((d : FieldName) → (is_of h w (get_or fs i d) ≡ true) × (n ≡ (get_or fs i d).no)) → NoneBelow h w fs i →
    find_in (map field_of fs) h w ≡ Some n.at
unfolding find_in
in_some [] h w n i l e b = absurd (omega arith)
in_some (f ∷ fs) h w n zero l e b =
    ap (λ (t : Bool). cond t (Some f.no.at) (find_in (map field_of fs) h w)) (e f).0 ∙ ap (λ (m : FieldNo). Some m.at) (sym (e f).1)
in_some (f ∷ fs) h w n (suc i) l e b =
    ap (λ (t : Bool). cond t (Some f.no.at) (find_in (map field_of fs) h w)) (b 0 f (omega arith)) ∙ in_some fs h w n i (omega arith) e (λ k d m. b (suc k) d (omega (arith, m)))

pub found_in : (fs : List FieldName) (h : ℕ) (w : List ℕ) (r : Option FieldNo) → MatchOption r (NoneBelow h w fs (length fs)) (FirstAt h w fs) → number_of r ≡ find_in (map field_of fs) h w
found_in fs h w None m = sym (in_none fs h w m)
found_in fs h w (Some n) m = sym (in_some fs h w n m.0 m.1.0 m.1.1.0 m.1.1.1)

none_at : (fs : List FieldName) (w : List ℕ) (k : ℕ) (x : FieldName) → k < length fs → x ≡ get_or fs k x →
    only_behind None (map field_of (drop k fs)) w ≡ cond (bytes_eq (name_of x.name) w) (only_behind (Some x.no.at) (map field_of (drop (k + 1) fs)) w) (only_behind None (map field_of (drop (k + 1) fs)) w)
unfolding only_behind
none_at fs w k x l e = rw (drop_more fs k x l, ← e) refl

some_at : (n : ℕ) (fs : List FieldName) (w : List ℕ) (k : ℕ) (x : FieldName) → k < length fs → x ≡ get_or fs k x →
    only_behind (Some n) (map field_of (drop k fs)) w ≡ cond (bytes_eq (name_of x.name) w) None (only_behind (Some n) (map field_of (drop (k + 1) fs)) w)
unfolding only_behind
some_at n fs w k x l e = rw (drop_more fs k x l, ← e) refl

pub only_miss : (found : Option FieldNo) (fs : List FieldName) (w : List ℕ) (k : ℕ) (x : FieldName) → k < length fs → x ≡ get_or fs k x → false ≡ bytes_eq (name_of x.name) w →
    only_behind (number_of found) (map field_of (drop (k + 1) fs)) w ≡ only_behind (number_of found) (map field_of (drop k fs)) w
only_miss None fs w k x l e t = sym (none_at fs w k x l e ∙ ap (λ (b : Bool). cond b (only_behind (Some x.no.at) (map field_of (drop (k + 1) fs)) w) (only_behind None (map field_of (drop (k + 1) fs)) w)) (sym t))
only_miss (Some n) fs w k x l e t = sym (some_at n.at fs w k x l e ∙ ap (λ (b : Bool). cond b None (only_behind (Some n.at) (map field_of (drop (k + 1) fs)) w)) (sym t))

pub only_first : (found : Option FieldNo) (fs : List FieldName) (w : List ℕ) (k : ℕ) (x : FieldName) → is_some found ≡ false → k < length fs → x ≡ get_or fs k x → true ≡ bytes_eq (name_of x.name) w →
    only_behind (Some x.no.at) (map field_of (drop (k + 1) fs)) w ≡ only_behind (number_of found) (map field_of (drop k fs)) w
only_first None fs w k x z l e t = sym (none_at fs w k x l e ∙ ap (λ (b : Bool). cond b (only_behind (Some x.no.at) (map field_of (drop (k + 1) fs)) w) (only_behind None (map field_of (drop (k + 1) fs)) w)) (sym t))
only_first (Some n) fs w k x z l e t = absurd (false≢true (sym z))

pub only_second : (found : Option FieldNo) (fs : List FieldName) (w : List ℕ) (k : ℕ) (x : FieldName) → is_some found ≡ true → k < length fs → x ≡ get_or fs k x → true ≡ bytes_eq (name_of x.name) w →
    only_behind (number_of found) (map field_of (drop k fs)) w ≡ None
only_second None fs w k x z l e t = absurd (false≢true z)
only_second (Some n) fs w k x z l e t = some_at n.at fs w k x l e ∙ ap (λ (b : Bool). cond b None (only_behind (Some n.at) (map field_of (drop (k + 1) fs)) w)) (sym t)

pub only_end : (found : Option FieldNo) (fs : List FieldName) (w : List ℕ) (k : ℕ) → length fs ≤ k → only_behind (number_of found) (map field_of (drop k fs)) w ≡ number_of found
unfolding only_behind
only_end None fs w k l = rw (drop_all k fs l) refl
only_end (Some n) fs w k l = rw (drop_all k fs l) refl
