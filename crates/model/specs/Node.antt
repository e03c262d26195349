-- Nodes: a program laid out in a row, each node on a stage of the pipeline.
use Rattle.std.specs.Prelude.{ℕ, Bool, true, false, ◌||◌, List, nat_lt, slice_index_or}
use Rattle.model.specs.Action.{Test, Action}

-- what a node does, and at which index of the row the packet goes on
pub data Does : Type 0 where
  Halt : Does
  Look : (table next : ℕ) → Does
  Ask : Test → (next-yes next-no : ℕ) → Does
  Do : Action → (next : ℕ) → Does

pub record Node : Type 0 where
  pub stage : ℕ
  pub does : Does

abbrev pub node : ℕ → Does → Node
node s d = record { stage = s; does = d }

abbrev pub halt : Node
halt = node 0 Halt

-- behind the row there are only halts
abbrev pub node_at : List Node → ℕ → Node
node_at ns i = slice_index_or ns i halt

abbrev pub halts : Does → Bool
halts Halt = true
halts (Look n i) = false
halts (Ask c i j) = false
halts (Do a i) = false

abbrev pub looks : Does → Bool
looks Halt = false
looks (Look n i) = true
looks (Ask c i j) = false
looks (Do a i) = false

-- a halt needs no stage; any other node stands on one of the k stages
abbrev pub in_place : ℕ → Node → Bool
in_place k n = halts n.does || nat_lt n.stage k
