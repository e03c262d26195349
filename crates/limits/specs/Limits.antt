-- The limits that hold of every program that is read.
use Rattle.std.specs.Prelude.{◌≡◌, ℕ, ◌+◌, ◌<◌, true, List, [], length}
use Rattle.std.specs.List.{AllByRecursion}
use Rattle.source.specs.State.{Seen}
use Rattle.source.specs.Reading.{taken, read_source}
use Rattle.limits.specs.Naming.{EntryLimits, FieldLimits, WidthLimits, Wide}
use Rattle.limits.specs.Bits.{bits_of, WholeBytes}
use Rattle.limits.specs.Tabling.{TableLimits}
use Rattle.limits.specs.Choosing.{RouteLimits}
use Rattle.limits.specs.Doing.{RowLimits}
use Rattle.limits.specs.Once.{paths_through, Once}

pub record Limits (d : Seen) : Type 0 where
  pub headers : EntryLimits 8 d.names.headers
  pub fields : FieldLimits (length d.names.headers) d.names.fields
  pub tables : EntryLimits 32 d.names.tables
  pub widths : WidthLimits (length d.names.fields) d.names.widths
  pub wide : Wide (length d.names.fields) d.names.widths
  -- each header is whole bytes
  pub whole : (h : ℕ) → h < length d.names.headers → WholeBytes (bits_of d.names.fields d.names.widths h)
  -- as many tables are declared as are named
  pub all_declared : length d.tables.declared ≡ length d.names.tables
  pub each_declared : AllByRecursion (TableLimits (length d.names.fields + 1)) d.tables.declared
  pub routes : RouteLimits d.names.headers d.names.fields d.routes
  pub rows : RowLimits (length d.names.fields + 1) (length d.names.tables) (length d.body.rows) 0 d.body.rows
  pub once : Once [] (paths_through d.body.end d.body.rows)
  -- `do` was read, and no block is left open
  pub begun : d.body.begun ≡ true
  pub all_closed : d.body.blocks ≡ []

abbrev pub LimitsHold : Type 0
LimitsHold = (source : List ℕ) (d : Seen) → read_source source ≡ taken d → Limits d
