use Rattle.std.proofs.Common.{ℕ, ◌+◌, ◌%◌, ◌^◌, ap, ◌∙◌, ap₂}
use Rattle.model.specs.Packet.{put}
use Rattle.program.specs.Stands.{over}
use Rattle.program.proofs.acting.act.Goals as goal

pub returns-in-Set : goal.returns-in-Set
returns-in-Set c base =
    rw c.in-Set.is
    (c.set.ensures base
    ∙ ap (λ (z : ℕ). put c.in-Set.field.at z (over c.args.fields.now base))
    (c.low_bits.ensures ∙ ap₂ (λ (x w : ℕ). x % (2 ^ w)) (c.value-x.ensures base) c.get.ensures))

pub returns-in-Add : goal.returns-in-Add
returns-in-Add c base =
    rw c.in-Add.is
    (c.set-in-Add.ensures base
    ∙ ap (λ (z : ℕ). put c.in-Add.field.at z (over c.args.fields.now base))
    (c.low_bits-in-Add.ensures
    ∙ ap₂ (λ (x w : ℕ). x % (2 ^ w)) (ap₂ (λ (a b : ℕ). a + b) (c.get-in-Add.ensures base) (c.value.ensures base)) c.get-in-Add-2.ensures))
