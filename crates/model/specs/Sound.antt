-- When a row of nodes is a sound layout of a program, whoever made it: what may be relied on of a placement.
use Rattle.std.specs.Prelude.{◌≡◌, ℕ, suc, ◌<◌, ◌≤◌, List, length}
use Rattle.model.specs.Action.{Test, Action}
use Rattle.model.specs.Paths.{Paths, Stop, Apply, Branch, Act}
use Rattle.model.specs.Node.{Node, Halt, Look, Ask, Do, node_at}

-- Lays k ns i s t x: from index i on, the row ns lays out the paths x on stages below k. Next nodes stand later in the row; stages never fall along a path;
-- and no table stands on a stage on which something was already changed on its path. s: the lowest stage for the next node; t: the lowest for the next table.
pub data Lays (k : ℕ) (ns : List Node) : ℕ → ℕ → ℕ → Paths → Type 0 where
  stops : {i s t o : ℕ} → (node_at ns i).does ≡ Halt → Lays k ns i s t (Stop o)
  applies : {i s t o n j : ℕ} {x : Paths} → (node_at ns i).does ≡ Look n j →
      s ≤ (node_at ns i).stage → t ≤ (node_at ns i).stage → (node_at ns i).stage < k → i < length ns → i < j →
      Lays k ns j (node_at ns i).stage (suc (node_at ns i).stage) x → Lays k ns i s t (Apply o n x)
  branches : {i s t o j l : ℕ} {c : Test} {x y : Paths} → (node_at ns i).does ≡ Ask c j l →
      s ≤ (node_at ns i).stage → (node_at ns i).stage < k → i < length ns → i < j → i < l →
      Lays k ns j (node_at ns i).stage t x → Lays k ns l (node_at ns i).stage t y → Lays k ns i s t (Branch o c x y)
  acts : {i s t o j : ℕ} {a : Action} {x : Paths} → (node_at ns i).does ≡ Do a j →
      s ≤ (node_at ns i).stage → (node_at ns i).stage < k → i < length ns → i < j →
      Lays k ns j (node_at ns i).stage (suc (node_at ns i).stage) x → Lays k ns i s t (Act o a x)

-- a row that lays out a whole program: from its first node on, with nothing changed yet
abbrev pub Layout : ℕ → List Node → Paths → Type 0
Layout k ns x = Lays k ns 0 0 0 x
