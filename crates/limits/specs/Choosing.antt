-- Limits on the first header and on the choices behind headers.
use Rattle.std.specs.Prelude.{◌≡◌, ℕ, ◌+◌, ◌^◌, ◌<◌, ◌≤◌, true, cond, ◌⊎◌, List, [], ◌∷◌, length, is_some, Some, None, Option, ◌==◌, slice_index_or}
use Rattle.std.specs.List.{AllByRecursion}
use Rattle.source.specs.Names.{Entry, Field, find}
use Rattle.source.specs.State.{Next, Ends, Header, Later, Never, Choice, Routes}

-- a first header is named, one of so many
pub record Starts (first : Option ℕ) (headers : ℕ) : Type 0 where
  pub header : ℕ
  pub is : first ≡ Some header
  pub below : header < headers

-- one of the fields has this number, and is of this header
unfoldable pub Owns : (header number : ℕ) → List Field → Type 0
Owns h n [] = ⊥
Owns h n (f ∷ fs) = ((f.header ≡ h) × (f.number ≡ n)) ⊎ Owns h n fs

-- how many choices a header has
unfoldable pub choices_of : ℕ → List Choice → ℕ
choices_of h [] = 0
choices_of h (c ∷ cs) = cond (c.header == h) 1 0 + choices_of h cs

-- a number that comes behind the header h, and is one of so many
pub record Behind (h headers k : ℕ) : Type 0 where
  pub above : h < k
  pub below : k < headers

-- a header that was named before it was declared is declared, behind the header h
pub record NamedBehind (h : ℕ) (hs : List Entry) (w : List ℕ) : Type 0 where
  pub header : ℕ
  pub is : find hs w ≡ Some header
  pub behind : Behind h (length hs) header

-- what is chosen behind the header h is the end, or a header behind it
abbrev pub Follows : ℕ → List Entry → Next → Type 0
Follows h hs Ends = Unit {0}
Follows h hs (Header k) = Behind h (length hs) k
Follows h hs (Later w at) = NamedBehind h hs w
Follows h hs (Never at) = ⊥

-- the choosing header is there and has a choosing field
pub record ChoiceLimits (hs : List Entry) (by : List (Option ℕ)) (c : Choice) : Type 0 where
  pub small : c.value < 2 ^ 32
  pub there : c.header < length hs
  pub chooses : is_some (slice_index_or by c.header None) ≡ true
  pub follows : Follows c.header hs c.next

pub record RouteLimits (hs : List Entry) (fs : List Field) (r : Routes) : Type 0 where
  pub starts : Starts r.first (length hs)
  -- the choosing field of a header is one of its own
  pub eight : length r.by ≡ 8
  pub own : (h f : ℕ) → slice_index_or r.by h None ≡ Some f → Owns h f fs
  pub few : (h : ℕ) → choices_of h r.choices ≤ 8
  pub choices : AllByRecursion (ChoiceLimits hs r.by) r.choices
