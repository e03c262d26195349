-- What the pipeline's values stand for in the model. Every function is total.
use Rattle.std.specs.Prelude.{ℕ, ◌-◌, Bool, false, cond, List, map, length, take, Some, None, Option, vec_items, ◌==◌, slice_index, slice_index_or}
use Rattle.std.specs.Bool.{beq}
use Rattle.model.specs.Packet as packet
use Rattle.model.specs.Stage.{Transit}
use Rattle.model.specs.Version as model_version
use Rattle.model.specs.Pipeline as model
use Rattle.program.specs.Stands.{over, declarations_of, nodes_of}
use Rattle.table.specs.Stands.{tables_of}
use Rattle.table.specs.declared.store.Tables.{Tables}
use Rattle.pipeline.specs.declared.loaded.Loaded.{Loaded}
use Rattle.pipeline.specs.declared.packet.Incoming.{Incoming}
use Rattle.pipeline.specs.declared.packet.Payload.{Payload}
use Rattle.pipeline.specs.declared.packet.Packet.{Packet}
use Rattle.pipeline.specs.declared.packet.Stored.{Stored}
use Rattle.pipeline.specs.declared.slot.Slot.{Slot}
use Rattle.pipeline.specs.declared.store.Store.{Store}
use Rattle.pipeline.specs.declared.versions.Version.{Version}
use Rattle.pipeline.specs.declared.versions.Versions.{Versions}
use Rattle.pipeline.specs.Slots.{place_of}

-- a packet at a node
abbrev pub transit : packet.Packet → ℕ → Transit
transit p i = record { packet = p; at = i }

-- the newest version of a program, or the one before
abbrev pub version_of : Loaded → Tables → Bool → model_version.Version
version_of l t newest = record { declarations = declarations_of l.declarations; nodes = nodes_of (vec_items l.nodes); tables = tables_of t newest }

abbrev pub version_at : Version → model_version.Version
version_at v = version_of v.loaded.now v.tables.now v.newest

-- versions by their bit
abbrev pub versions_of : Versions → Bool → model_version.Version
versions_of vs v = version_of vs.loaded vs.tables (beq v vs.newest)

-- behind the 64 fields of a program: field 64 says which headers are there, 65 how long the payload is, and from 66 on it stands byte by byte
abbrev pub besides : ℕ → List ℕ → packet.Packet
besides present bytes f = cond (f == 64) present (cond (f == 65) (length bytes) (slice_index bytes (f - 66)))

abbrev pub payload_of : Payload → packet.Packet
payload_of p = besides p.present (take p.length p.bytes)

abbrev pub packet_of : Packet → packet.Packet
packet_of p = over p.fields (payload_of p.payload)

abbrev pub incoming_of : Incoming → packet.Packet
incoming_of p = over p.fields.now (besides p.present p.payload.now)

-- a packet and its version
pub record View : Type 0 where
  pub packet : packet.Packet
  pub version : Bool

abbrev pub view_of : Stored → View
view_of s = record { packet = packet_of s.packet; version = s.version }

abbrev pub nothing : View
nothing = record { packet = λ f. 0; version = false }

-- the store, place by place
abbrev pub store_of : List Stored → ℕ → View
store_of ss j = slice_index_or (map view_of ss) j nothing

abbrev pub stored_in : Store → ℕ → View
stored_in s = store_of (vec_items s.all)

abbrev pub held : View → Option ℕ → model.Slot Bool
held v None = model.Free
held v (Some n) = model.Holds (transit v.packet n) v.version

abbrev pub slot_of : (ℕ → View) → Slot → model.Slot Bool
slot_of s x = held (s (place_of x)) x.node

abbrev pub slots_of : (ℕ → View) → List Slot → List (model.Slot Bool)
slots_of s xs = map (slot_of s) xs

-- a program with all tables empty
abbrev pub empty_version : Loaded → model_version.Version
empty_version l = record { declarations = declarations_of l.declarations; nodes = nodes_of (vec_items l.nodes); tables = model_version.empty }
