-- What a pipeline of the code stands for: a pipeline of the model whose versions are told apart by one bit.
use Rattle.std.specs.Prelude.{Bool, List, ◌∷◌, Ok, Err, Result}
use Rattle.model.specs.Packet as packet
use Rattle.model.specs.Answer as answer
use Rattle.model.specs.Pipeline as model
use Rattle.pipeline.specs.Slots.{place_of}
use Rattle.pipeline.specs.Stands.{versions_of, stored_in, slot_of, slots_of}
use Rattle.pipeline.specs.declared.answer.OldPacketUnderWay.{OldPacketUnderWay}
use Rattle.pipeline.specs.declared.loaded.Loaded.{Loaded}
use Rattle.pipeline.specs.declared.pipeline.Pipeline.{Pipeline}

abbrev pub pipeline_of : Pipeline → model.Pipeline Bool
pipeline_of p = record {
  slots = slots_of (stored_in p.store) p.slots.row;
  versions = versions_of p.versions;
  newest = p.versions.newest;
}

-- the program that runs
abbrev pub loaded_of : Pipeline → Loaded
loaded_of p = p.versions.loaded

-- the packet at the spare place
abbrev pub spare_of : Pipeline → packet.Packet
spare_of p = (stored_in p.store (place_of p.spare)).packet

-- what has left in the last step
abbrev pub departed_of : Pipeline → List packet.Departure
departed_of p = model.departing (slot_of (stored_in p.store) p.spare)

-- a pipeline whose slots have all been worked on and moved on by one, behind x
abbrev pub shifted : model.Slot Bool → model.Pipeline Bool → model.Pipeline Bool
shifted x c = record {
  slots = x ∷ model.but_last (model.worked c.versions 0 c.slots);
  versions = c.versions;
  newest = c.newest;
}

abbrev pub answer_of : Result (Unit {0}) OldPacketUnderWay → answer.UpdateAnswer
answer_of (Ok u) = answer.Taken
answer_of (Err e) = answer.OldPacketUnderWay
