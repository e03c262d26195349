-- The node of a step, and how high the stages of a row are.
use Rattle.std.specs.Prelude.{◌≡◌, ℕ, ◌+◌, ◌<◌, ◌≤◌, Bool, true, false, List, [], ◌∷◌, ◌++◌, length}
use Rattle.model.specs.Node as node
use Rattle.model.specs.Placement.{limited, table_from, beyond}
use Rattle.model.specs.Stopping.{Lowest, noted}
use Rattle.program.specs.declared.node.Node.{Node}
use Rattle.program.specs.Stands.{test_of, action_of, nodes_of}
use Rattle.placement.specs.declared.branch.Point.{Point}
use Rattle.placement.specs.declared.step.Step.{Step}
use Rattle.placement.specs.declared.step.StepKind.{StepKind}
use Rattle.placement.specs.declared.step.StepKind.TheVariants.{End, Act, Apply, If}

-- the node of a step behind a row; s: the stage of the node before on the path; changed: was something changed on it
abbrev pub node_for : List Node → ℕ → Bool → StepKind → node.Node
node_for row s changed End = node.node 0 node.Halt
node_for row s changed (Act a next) = node.node (limited false (nodes_of row) s) (node.Do (action_of a) (length row + 1))
node_for row s changed (Apply t next) = node.node (limited true (nodes_of row) (table_from s changed)) (node.Look t.at (length row + 1))
node_for row s changed (If c yes-path no-path) = node.node (limited false (nodes_of row) s) (node.Ask (test_of c) (length row + 1) 0)

-- no stage is higher than there are nodes: each node goes at most one stage further than all before it
abbrev pub Low : List Node → Type 0
Low row = beyond (nodes_of row) ≤ length row + 1

-- the node of a step at a point is appended to a row that has room for it: its stage, the row then, and what is noted then
pub record Appended (row : List Node) (w : Lowest) (step : Step) (p : Point) (stage : ℕ) (all : List Node) (v : Lowest) : Type 0 where
  pub fits : length row < 512
  pub is_stage : stage ≡ (node_for row p.stage p.changed step.kind).stage
  pub low : stage ≤ length row + 1
  pub is_row : nodes_of all ≡ nodes_of row ++ (node_for row p.stage p.changed step.kind ∷ [])
  pub is_noted : v ≡ noted 12 w (node_for row p.stage p.changed step.kind) step.offset
