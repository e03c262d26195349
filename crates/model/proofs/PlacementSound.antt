-- Placement is sound: the promise put together from its parts.
use Rattle.model.specs.Paths.{Paths}
use Rattle.model.specs.Placement.{unlimited, limited}
use Rattle.model.specs.Promises.{PlacementSound, PlacementIsSound}
use Rattle.std.proofs.Common.{le_refl}
use Rattle.model.proofs.Room.{first_room}
use Rattle.model.proofs.Soundness.{laid_sound}
use Rattle.model.proofs.NeverFull.{rule_fits}
use Rattle.model.proofs.Agree.{rules_agree}
use Rattle.model.proofs.Suffices.{one_more_suffices}

rule_sound : (x : Paths) → PlacementSound x
rule_sound x = record {
  plain_sound = λ k w. laid_sound unlimited (λ table placed s. le_refl s) k x w;
  sound = λ k w. laid_sound limited (λ table placed s. (first_room table placed s).not_before) k x w;
  never_full = rule_fits x;
  agree = rules_agree x;
  suffices = one_more_suffices x;
}

pub placement_is_sound : PlacementIsSound
placement_is_sound = (rule_sound, first_room)
