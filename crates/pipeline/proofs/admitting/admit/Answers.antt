use Rattle.std.proofs.Common.{◌≡◌, ℕ, ◌-◌, List, ◌++◌, length, take, drop, refl, ap, ◌∙◌}
use Rattle.std.proofs.lemmas.List.{take_at}
use Rattle.program.specs.Stands.{over}
use Rattle.model.specs.Packet.{besides}
use Rattle.pipeline.proofs.admitting.admit.Goals as goal

-- what was copied is what stands in front
copied : (l p rest : List ℕ) → l ≡ p → take (length p) (l ++ rest) ≡ p
copied l p rest e = ap (λ (z : List ℕ). take (length p) (z ++ rest)) e ∙ take_at p rest (length p) refl

pub returns : goal.returns
returns c = record {
  packet = ap (λ (l : List ℕ). over c.args.incoming.fields.now (besides c.args.incoming.present l))
      (copied c.copy_from_slice.new.self c.args.incoming.payload.now (drop (length c.args.incoming.payload.now - 0) c.args.stored.now.packet.payload.bytes) c.copy_from_slice.ensures.after);
  version = refl;
}
