use Rattle.std.proofs.Common.{ℕ, ap, ◌∙◌}
use lib.Bits.{bit_or}
use Rattle.std.proofs.lemmas.Nat.{one_shl}
use Rattle.packet.specs.Stands.{present_of}
use Rattle.packet.proofs.Presences.{with_is}
use Rattle.packet.proofs.presence.with.Goals as goal

pub returns : goal.returns
returns c =
    ap (λ (k : ℕ). present_of (bit_or c.args.present k)) (one_shl c.args.number 8 c.requires) ∙ with_is c.args.present c.args.number
