-- The places of slots.
use Rattle.std.specs.Prelude.{ℕ, List, map}
use Rattle.pipeline.specs.declared.slot.Slot.{Slot}

abbrev pub place_of : Slot → ℕ
place_of x = x.place.at

abbrev pub places_of : List Slot → List ℕ
places_of xs = map place_of xs
