-- What the items of a source declare.
use Rattle.std.specs.Prelude.{ℕ, true, false, List, [], ◌∷◌, replicate, Some, None, Option}
use Rattle.model.specs.Declarations.{TableDeclaration}
use Rattle.source.specs.State.{Names, Routes, Row, Body, Seen}

-- the statements of `do` in a row, the tables that some path applies (as the bits of a number), and the offset of its `}`
pub record Done : Type 0 where
  pub rows : List Row
  pub applied : ℕ
  pub end : ℕ

pub record Program : Type 0 where
  pub names : Names
  pub routes : Routes
  pub tables : List TableDeclaration
  pub done : Option Done

-- before the first item: the only field is `out`, of 8 bits
abbrev pub empty : Program
empty = record {
  names = record { headers = []; fields = []; widths = 8 ∷ replicate 63 0; tables = [] };
  routes = record { first = None; by = replicate 8 None; choices = [] };
  tables = [];
  done = None;
}

abbrev pub body_of : Option Done → Body
body_of None = record { rows = []; blocks = []; applied = 0; begun = false; end = 0 }
body_of (Some b) = record { rows = b.rows; blocks = []; applied = b.applied; begun = true; end = b.end }

-- a program as the reader gives it: no list of a table and no block is under way
abbrev pub seen : Program → Seen
seen p = record {
  names = p.names;
  routes = p.routes;
  tables = record { looks = []; sets = []; declared = p.tables };
  body = body_of p.done;
}
