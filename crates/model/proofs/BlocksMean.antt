-- Blocks done from top to bottom mean what their tree of paths means.
use Rattle.std.proofs.Common.{◌≡◌, true, false, cond, refl, ◌∙◌}
use Rattle.model.specs.Packet.{Packet}
use Rattle.model.specs.Declarations.{Declarations}
use Rattle.model.specs.Action.{passes, act}
use Rattle.model.specs.Table.{Tables}
use Rattle.model.specs.Paths.{Paths, Stop}
use Rattle.model.specs.Meaning.{means, apply}
use Rattle.model.specs.Blocks.{Block, Done, Table, Single, If, paths_of, done}
use Rattle.model.specs.Promises.{BlocksMean}

-- the paths of a block and what is behind it mean the block, and then what is behind it
pub means_behind : (d : Declarations) (b : Block) (x : Paths) (t : Tables) (p : Packet) → means d (paths_of b x) t p ≡ means d x t (done d b t p)
unfolding means paths_of done
means_behind d Done x t p = refl
means_behind d (Table o n rest) x t p = means_behind d rest x t (apply d t n p p)
means_behind d (Single o a rest) x t p = means_behind d rest x t (act d a p)
means_behind d (If o c one two rest) x t p =
    elim (passes c p) as (λ z. cond z (means d (paths_of one (paths_of rest x)) t p) (means d (paths_of two (paths_of rest x)) t p)
    ≡ means d x t (done d rest t (cond z (done d one t p) (done d two t p)))) [
      | true ↦ means_behind d one (paths_of rest x) t p ∙ means_behind d rest x t (done d one t p)
      | false ↦ means_behind d two (paths_of rest x) t p ∙ means_behind d rest x t (done d two t p)
    ]

pub blocks_mean : BlocksMean
unfolding means
blocks_mean d b end t p = means_behind d b (Stop end) t p
