-- The pipeline and what is meant, side by side.
use Rattle.std.proofs.Common.{◌≡◌, ℕ, Bool, true, false, List, [], ◌∷◌, ◌++◌, sym, refl, ap, ◌∙◌}
use Rattle.std.proofs.lemmas.Bool.{false≢true}
use Rattle.model.specs.Packet.{Departure}
use Rattle.model.specs.Node.{Node}
use Rattle.model.specs.Pipeline as pipe
use Rattle.model.specs.Pipeline.{Pipeline, Event, Step, Arrival, Idle, one_bit, run}
use Rattle.model.specs.Sound.{Layout}
use Rattle.model.specs.Stopping.{Verdict, placement}
use Rattle.model.specs.Stopping as stopping
use Rattle.model.proofs.Promised.{placed_sound, next_promised, answer_promised}
use Rattle.source.specs.Reading.{Outcome, taken, refused}
use Rattle.update.specs.Decoded as decoded
use Rattle.compiler.specs.Program.{Program, paths_of}
use Rattle.compiler.specs.Compiling.{Compiled, Accepted, Refused, placed, after_reading, compiled}
use Rattle.compiler.specs.Packaging.{packaged}
use Rattle.source.specs.Reading.{read_source}
use Rattle.stream.specs.Frames.{Frame, Source, Update, Packet, Pause, Unknown, Starved}
use Rattle.stream.specs.Writing.{sent_all}
use Rattle.stream.specs.Answering.{Mode, Unloaded, Running, Stopped, decode, take_apart, brings, refusal, loaded, update_writes, updated, writes, next}
use Rattle.stream.specs.Machines.{first_version, pipeline, Past, twelve_later}

-- a pipeline after the events of a past
pub data Same : Mode (Pipeline Bool) → Mode Past → Type 0 where
  unloaded : Same Unloaded Unloaded
  running : (p : Program) (ns : List Node) → Layout 12 ns (paths_of p) → (es : List Event) →
      Same (Running p.format (run one_bit 12 (first_version p ns) es)) (Running p.format (record { program = p; events = es }))
  stopped : Same Stopped Stopped

abbrev is_accepted : Compiled → Bool
is_accepted (Accepted p ns) = true
is_accepted (Refused c o) = false

-- a source that is taken was placed
accepted_verdict : (q p : Program) (ns : List Node) (v : Verdict) → placed q v ≡ Accepted p ns → (q ≡ p) × (v ≡ stopping.Placed ns)
accepted_verdict q p ns (stopping.Placed row) e = (cc, cc)
accepted_verdict q p ns (stopping.Refused o) e = absurd (false≢true (ap is_accepted e))

accepted_placed : (o : Outcome) (p : Program) (ns : List Node) → after_reading o ≡ Accepted p ns → placement 12 512 (paths_of p) ≡ stopping.Placed ns
accepted_placed (taken d) p ns e =
    let both = accepted_verdict (packaged d) p ns (placement 12 512 (paths_of (packaged d))) e in
    ap (λ (q : Program). placement 12 512 (paths_of q)) (sym both.0) ∙ both.1
accepted_placed (refused f) p ns e = absurd (false≢true (ap is_accepted e))

loaded_same : (body : List ℕ) (c : Compiled) → compiled body ≡ c → Same (loaded pipeline c) (loaded twelve_later c)
unfolding run
loaded_same body (Accepted p ns) e = running p ns (placed_sound (paths_of p) ns (accepted_placed (read_source body) p ns e)) []
loaded_same body (Refused c o) e = unloaded

updated_same : (p : Program) (ns : List Node) → Layout 12 ns (paths_of p) → (es : List Event) (d : decoded.Decoded) →
    Same (Running p.format (updated pipeline (run one_bit 12 (first_version p ns) es) d)) (Running p.format (updated twelve_later (record { program = p; events = es }) d))
unfolding run
updated_same p ns lays es (decoded.Taken gs) = running p ns lays (pipe.Update gs ∷ es)
updated_same p ns lays es (decoded.Refused f) = running p ns lays es

stepped_same : (p : Program) (ns : List Node) → Layout 12 ns (paths_of p) → (es : List Event) (a : Arrival) →
    Same (Running p.format (pipeline.after (Step a) (run one_bit 12 (first_version p ns) es))) (Running p.format (twelve_later.after (Step a) (record { program = p; events = es })))
unfolding run
stepped_same p ns lays es a = running p ns lays (Step a ∷ es)

pub next_same : {a : Mode (Pipeline Bool)} {b : Mode Past} → Same a b → (f : Frame) → Same (next pipeline a f) (next twelve_later b f)
next_same unloaded (Source body) = loaded_same body (compiled body) refl
next_same unloaded (Update body) = unloaded
next_same unloaded (Packet body) = unloaded
next_same unloaded Pause = unloaded
next_same unloaded Unknown = stopped
next_same unloaded Starved = unloaded
next_same (running p ns lays es) (Source body) = running p ns lays es
next_same (running p ns lays es) (Update body) = updated_same p ns lays es (decode p.format body)
next_same (running p ns lays es) (Packet body) = stepped_same p ns lays es (brings (take_apart p.format body))
next_same (running p ns lays es) Pause = stepped_same p ns lays es Idle
next_same (running p ns lays es) Unknown = stopped
next_same (running p ns lays es) Starved = running p ns lays es
next_same stopped f = stopped

pub writes_same : {a : Mode (Pipeline Bool)} {b : Mode Past} → Same a b → (f : Frame) → writes pipeline a f ≡ writes twelve_later b f
writes_same unloaded (Source body) = refl
writes_same unloaded (Update body) = refl
writes_same unloaded (Packet body) = refl
writes_same unloaded Pause = refl
writes_same unloaded Unknown = refl
writes_same unloaded Starved = refl
writes_same (running p ns lays es) (Source body) = refl
writes_same (running p ns lays es) (Update body) =
    ap (λ (b : Bool). update_writes b (decode p.format body)) (answer_promised p.format.declarations (paths_of p) ns lays es)
writes_same (running p ns lays es) (Packet body) =
    ap (λ (xs : List Departure). refusal (take_apart p.format body) ++ sent_all p.format xs) (next_promised p.format.declarations (paths_of p) ns lays es)
writes_same (running p ns lays es) Pause =
    ap (λ (xs : List Departure). sent_all p.format xs) (next_promised p.format.declarations (paths_of p) ns lays es)
writes_same (running p ns lays es) Unknown = refl
writes_same (running p ns lays es) Starved = refl
writes_same stopped f = refl
