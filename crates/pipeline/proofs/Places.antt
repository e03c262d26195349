-- The store: what a write at one place makes of it, and the work of a stage on a slot's packet at its place.
use Rattle.std.proofs.Common.{◌≡◌, ℕ, ◌<◌, List, map, length, get_or, set, vec_items, Some, sym, ap, ◌∙◌, subst, ap₂}
use Rattle.std.proofs.lemmas.List.{get_or-map, length-map, map-set, get_or-set_same, get_or-set_other}
use Rattle.model.specs.Packet as packet
use Rattle.model.specs.Version as model_version
use Rattle.model.specs.Stage.{Transit, on_stage}
use Rattle.model.specs.Pipeline as model
use Rattle.program.specs.Stands.{over, node_of}
use Rattle.program.specs.declared.field.Fields.{Fields}
use Rattle.pipeline.specs.Stands.{transit, version_at, versions_of, payload_of, packet_of, View, view_of, nothing, store_of, held}
use Rattle.pipeline.specs.declared.loaded.Loaded.{Loaded}
use Rattle.pipeline.specs.declared.packet.Stored.{Stored}
use Rattle.pipeline.specs.declared.versions.Version.{Version}
use Rattle.pipeline.specs.declared.versions.Versions.{Versions}

pub store_at : (ss : List Stored) (i : ℕ) (d : Stored) → i < length ss → store_of ss i ≡ view_of (get_or ss i d)
store_at ss i d h = get_or-map view_of ss i d nothing h

pub store_set_same : (ss : List Stored) (i : ℕ) (x : Stored) → i < length ss → store_of (set ss i x) i ≡ view_of x
store_set_same ss i x h =
    ap (λ (l : List View). get_or l i nothing) (map-set view_of ss i x) ∙ get_or-set_same (map view_of ss) i (view_of x) nothing (subst (λ (n : ℕ). i < n) (sym (length-map ss view_of)) h)

pub store_set_other : (ss : List Stored) (i j : ℕ) (x : Stored) → (j ≡ i → ⊥) → store_of (set ss i x) j ≡ store_of ss j
store_set_other ss i j x ne = ap (λ (l : List View). get_or l j nothing) (map-set view_of ss i x) ∙ get_or-set_other (map view_of ss) i j (view_of x) nothing ne

-- a stored packet with other fields
abbrev pub with_fields : Stored → Fields → Stored
with_fields s x = record { packet = record { fields = x; payload = s.packet.payload }; version = s.version }

-- what a stage has done to the fields at a place, by the packet's own version, it has done to the slot's packet
pub slot_worked : (vs : Versions) (v : Version) (s node next : ℕ) (ss : List Stored) (at : ℕ) (old : Stored) (x : Fields) →
    at < length ss → old ≡ get_or ss at old → v.loaded.now ≡ vs.loaded → version_at v ≡ versions_of vs old.version →
    ((base : packet.Packet) → transit (over x base) next
    ≡ on_stage (length (vec_items v.loaded.now.nodes)) (version_at v) s (over old.packet.fields base) (transit (over old.packet.fields base) node)) →
    held (store_of (set ss at (with_fields old x)) at) (Some next) ≡ model.worked_slot (versions_of vs) s (held (store_of ss at) (Some node))
slot_worked vs v s node next ss at old x h is program own done =
    ap (λ (w : View). held w (Some next)) (store_set_same ss at (with_fields old x) h)
    ∙ ap (λ (u : Transit). model.Holds u old.version) (done (payload_of old.packet.payload))
    ∙ ap₂ (λ (n : ℕ) (w : model_version.Version). model.Holds (on_stage n w s (packet_of old.packet) (transit (packet_of old.packet) node)) old.version)
    (ap (λ (l : Loaded). length (vec_items l.nodes)) program ∙ sym (length-map (vec_items vs.loaded.nodes) node_of)) own
    ∙ ap (λ (w : View). model.worked_slot (versions_of vs) s (held w (Some node))) (sym (store_at ss at old h ∙ ap view_of (sym is)))
