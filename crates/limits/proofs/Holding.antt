-- The limits hold of every program that is read.
use Rattle.std.proofs.Common.{◌≡◌, ℕ, zero, suc, ◌<◌, ◌≤◌, true, cond, List, [], ◌∷◌, length, get_or, replicate, is_some, Some, None, Option, sym, refl, arith}
use Rattle.std.specs.List.{AllByRecursion}
use Rattle.std.proofs.lemmas.Bool.{false≢true}
use Rattle.token.specs.Tokens.{tokens}
use Rattle.source.specs.State.{Next, Ends, Header, Later, Never, Choice, Item, nothing}
use Rattle.source.specs.Names.{Entry, find}
use Rattle.source.specs.Reading.{missing, or_else, unnamed}
use Rattle.limits.specs.Numbering.{Numbered, FieldsNumbered, Rising}
use Rattle.limits.specs.Naming.{Apart, FieldsApart}
use Rattle.limits.specs.Bits.{bits_of}
use Rattle.limits.specs.Choosing.{Starts, choices_of, NamedBehind, Follows, ChoiceLimits}
use Rattle.limits.specs.Doing.{RowLimits}
use Rattle.limits.specs.Limits.{LimitsHold}
use Rattle.limits.proofs.Rows.{none_some, found_entry}
use Rattle.limits.proofs.Tracing.{Chained}
use Rattle.limits.proofs.OnPaths.{once}
use Rattle.limits.proofs.Sound.{FirstBelow, Fits, ChoiceSound, State, Held}
use Rattle.limits.proofs.Keeping.{keeps}
use Rattle.limits.proofs.Words.{tokens_proper}
use Rattle.limits.proofs.Ending.{tokens_end, AtEnd, run_keeps}

zeros : (n f : ℕ) → ◌≡◌ {A = ℕ} (get_or (replicate n 0) f 0) 0
zeros zero f = refl
zeros (suc n) zero = refl
zeros (suc n) (suc f) = zeros n f

nobody : {A : Type 0} (n h f : ℕ) → get_or (replicate n None) h None ≡ Some f → A
nobody zero h f e = none_some f e
nobody (suc n) zero f e = none_some f e
nobody (suc n) (suc h) f e = nobody n h f e

narrow : (f : ℕ) → get_or (8 ∷ replicate 63 0) f 0 ≤ 32
narrow zero = omega arith
narrow (suc f) = omega (arith, zeros 63 f)

others : (f : ℕ) → 0 < f → ◌≡◌ {A = ℕ} (get_or (8 ∷ replicate 63 0) f 0) 0
others zero h = absurd (omega arith)
others (suc f) h = zeros 63 f

at_first : Held Item nothing
unfolding Numbered FieldsNumbered Rising Apart FieldsApart bits_of choices_of RowLimits Chained
at_first = record {
  state = record {
    names = record {
      headers = record { few = omega arith; numbered = tt; names = tt; apart = tt };
      fields = record { few = omega arith; numbered = tt; rising = tt; names = tt; apart = tt };
      tables = record { few = omega arith; numbered = tt; names = tt; apart = tt };
      widths = record { each = refl; narrow = narrow; out = refl; others = others };
    };
    tables = record { few_looks = omega arith; few_sets = omega arith; looks_there = tt; sets_there = tt; declared = tt };
    routes = record { first = tt; eight = refl; own = λ h f e. nobody 8 h f e; few = λ h. omega arith; choices = tt };
    body = record { rows = tt; blocks = tt };
  };
  phase = record { shaped = record { wide = λ f low high. absurd (omega arith); whole = λ h b. absurd (omega arith) }; all_declared = refl; at_rest = record { shut = refl; trace = record { mark = λ i. 0; now = refl; each = record { at = λ i b. absurd (omega arith) }; chain = tt } } };
}

starts_at : (o : Option ℕ) (count : ℕ) → is_some o ≡ true → FirstBelow o count → Starts o count
starts_at (Some h) count e b = record { header = h; is = refl; below = b }
starts_at None count e b = absurd (false≢true e)

named_behind : (h : ℕ) (hs : List Entry) (w : List ℕ) (at : ℕ) (o : Option ℕ) → Numbered 0 hs → find hs w ≡ o → Fits h hs (Later w at) → cond (is_some o) None (Some at) ≡ None → NamedBehind h hs w
named_behind h hs w at (Some k) n e f q = record { header = k; is = e; behind = record { above = f k e; below = found_entry k hs w n e } }
named_behind h hs w at None n e f q = none_some at (sym q)

-- where no choice is left without its header
follows : (h : ℕ) (hs : List Entry) (x : Next) → Numbered 0 hs → Fits h hs x → missing hs x ≡ None → Follows h hs x
follows h hs Ends n f e = tt
follows h hs (Header k) n f e = f
follows h hs (Later w at) n f e = named_behind h hs w at (find hs w) n refl f e
follows h hs (Never at) n f e = none_some at (sym e)

none_else : (a b : Option ℕ) → or_else a b ≡ None → (a ≡ None) × (b ≡ None)
none_else (Some n) b e = none_some n (sym e)
none_else None b e = (refl, e)

all_follow : (hs : List Entry) (by : List (Option ℕ)) (cs : List Choice) → Numbered 0 hs → AllByRecursion (ChoiceSound hs by) cs → unnamed hs cs ≡ None → AllByRecursion (ChoiceLimits hs by) cs
unfolding unnamed
all_follow hs by [] n a e = tt
all_follow hs by (c ∷ cs) n a e =
    let p = none_else (missing hs c.next) (unnamed hs cs) e in
    (record { small = a.0.small; there = a.0.there; chooses = a.0.chooses; follows = follows c.header hs c.next n a.0.fits p.0 }, all_follow hs by cs n a.1 p.1)

pub limits_hold : LimitsHold
limits_hold source d r =
    let end : AtEnd Held Item d = run_keeps Held keeps (tokens source) (tokens_end 0 0 source) (tokens_proper 0 0 source) Item nothing d at_first r in
    let s : State d = end.held.state in
    record {
      headers = s.names.headers;
      fields = s.names.fields;
      tables = s.names.tables;
      widths = s.names.widths;
      wide = end.held.phase.shaped.wide;
      whole = end.held.phase.shaped.whole;
      all_declared = end.held.phase.all_declared;
      each_declared = s.tables.declared;
      routes = record {
        starts = starts_at d.routes.first (length d.names.headers) end.complete_there.starts s.routes.first;
        eight = s.routes.eight;
        own = s.routes.own;
        few = s.routes.few;
        choices = all_follow d.names.headers d.routes.by d.routes.choices s.names.headers.numbered s.routes.choices end.complete_there.named;
      };
      rows = s.body.rows;
      begun = end.complete_there.begun;
      once = once d.body.end d.body.rows d.body.applied [] end.held.phase.at_rest.trace;
      all_closed = end.held.phase.at_rest.shut;
    }
