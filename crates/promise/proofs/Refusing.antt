-- A frame that is refused leaves the switch as it was.
use Rattle.std.proofs.Common.{◌≡◌, ℕ, ◌<◌, Bool, true, false, cond, List, ◌∷◌, ◌++◌, get_or, refl, ap, ◌∙◌, arith}
use Rattle.std.proofs.lemmas.List.{append_assoc}
use Rattle.model.specs.Version.{Edit}
use Rattle.model.specs.Pipeline as pipe
use Rattle.model.specs.Pipeline.{Pipeline, one_bit, takes, renewed, leaves, advance}
use Rattle.packet.specs.Contents.{code}
use Rattle.packet.specs.declared.parsed.Refused as packet
use Rattle.packet.specs.declared.parsed.Refused.TheVariants.{EndsWithinHeader, TooLong}
use Rattle.update.specs.Decoded as decoded
use Rattle.compiler.specs.Compiling.{Compiled, Accepted, Refused, compiled}
use Rattle.stream.specs.Answering.{Mode, Unloaded, Running, Stopped, decode, brings, refusal, load_writes, loaded, update_writes, updated, writes, next, answers}
use Rattle.stream.specs.Frames.{Frame, Source, Update, Packet, Pause}
use Rattle.stream.specs.Machines.{pipeline}
use Rattle.stream.specs.Writing.{told, refused, sent_all}
use Rattle.promise.specs.Refusals.{Told, NotTakenApart, unloaded, running, RefusedSource, RefusedUpdate, RefusedPacket}

-- an answer with the code 0 is no refusal
not_taken : (c o : ℕ) → 0 < c → told 0 0 ≡ told c o → ⊥
not_taken c o some e =
    let zero-code : 0 ≡ c = ap (λ (l : List ℕ). get_or l 1 0) e in
    omega (arith, some, zero-code)

not_loaded : (k : Compiled) (c o : ℕ) → 0 < c → load_writes k ≡ told c o → loaded pipeline k ≡ Unloaded
not_loaded (Accepted p ns) c o some e = absurd (not_taken c o some e)
not_loaded (Refused x y) c o some e = refl

not_renewed : (s : Pipeline Bool) (gs : List Edit) (b : Bool) (c o : ℕ) → 0 < c → cond b (told 0 0) (told 12 0) ≡ told c o → cond b (renewed one_bit gs s) s ≡ s
not_renewed s gs true c o some e = absurd (not_taken c o some e)
not_renewed s gs false c o some e = refl

not_updated : (s : Pipeline Bool) (d : decoded.Decoded) (c o : ℕ) → 0 < c → update_writes (takes one_bit s) d ≡ told c o → updated pipeline s d ≡ s
not_updated s (decoded.Taken gs) c o some e = not_renewed s gs (takes one_bit s) c o some e
not_updated s (decoded.Refused f) c o some e = refl

source_stays : (mode : Mode (Pipeline Bool)) (body : List ℕ) → Told mode (Source body) → next pipeline mode (Source body) ≡ mode
source_stays Unloaded body t = not_loaded (compiled body) t.code t.offset t.some t.answer
source_stays (Running f s) body t = refl
source_stays Stopped body t = refl

update_stays : (mode : Mode (Pipeline Bool)) (body : List ℕ) → Told mode (Update body) → next pipeline mode (Update body) ≡ mode
update_stays Unloaded body t = refl
update_stays (Running f s) body t = ap (λ (c : Pipeline Bool). Running f c) (not_updated s (decode f body) t.code t.offset t.some t.answer)
update_stays Stopped body t = refl

pub refused_source : RefusedSource
unfolding answers
refused_source mode body later t = ap (λ (a : Mode (Pipeline Bool)). writes pipeline mode (Source body) ++ answers pipeline a later) (source_stays mode body t)

pub refused_update : RefusedUpdate
unfolding answers
refused_update mode body later t = ap (λ (a : Mode (Pipeline Bool)). writes pipeline mode (Update body) ++ answers pipeline a later) (update_stays mode body t)

six : (e : packet.Refused) → code e ≡ 6
six EndsWithinHeader = refl
six TooLong = refl

packet_refused : {mode : Mode (Pipeline Bool)} {body : List ℕ} {code : ℕ} (later : List Frame) → NotTakenApart mode body code →
    answers pipeline mode (Packet body ∷ later) ≡ refused code ++ answers pipeline mode (Pause ∷ later)
unfolding answers
packet_refused later (unloaded body) = refl
packet_refused later (running f s body e is) =
    (λ i. (refusal (is i) ++ sent_all f (leaves s)) ++ answers pipeline (Running f (advance (brings (is i)) s)) later)
    ∙ (append_assoc (refused (code e)) (sent_all f (leaves s)) (answers pipeline (Running f (advance pipe.Idle s)) later)
    ∙ ap (λ (n : ℕ). refused n ++ (sent_all f (leaves s) ++ answers pipeline (Running f (advance pipe.Idle s)) later)) (six e))

pub refused_packet : RefusedPacket
refused_packet mode body c later r = packet_refused later r
