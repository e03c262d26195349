-- One packet leaves: its frame alone goes out.
use Rattle.std.proofs.Common.{ℕ, List, ◌++◌, drop, sym, ap, ◌∙◌}
use Rattle.std.proofs.lemmas.List.{append-nil}
use Rattle.model.specs.Packet.{Packet, Departure}
use Rattle.compiler.specs.Stands.{format_of}
use Rattle.pipeline.specs.Stands.{packet_of}
use Rattle.pipeline.specs.declared.loaded.Loaded.{Loaded}
use Rattle.stream.specs.Writing.{sent, sent_all}
use Rattle.switch.specs.Stands.{running_format}
use Rattle.switch.proofs.running.Running.leave.Goals as goal

pub returns-in-Some-clause-writes : goal.returns-in-Some-clause-writes
returns-in-Some-clause-writes c =
    let rest : List ℕ = drop c.send.result c.args.out.now in
    let p : Packet = packet_of c.in-Some.packet.now in
    let of : Loaded → List ℕ = λ l. sent (format_of c.args.self.now.headers l.declarations) (record { port = p 0; packet = p }) in
    c.send.ensures.writes
    ∙ ap (λ (l : Loaded). of l ++ rest) c.loaded-loaded.ensures
    ∙ ap (λ (l : List ℕ). l ++ rest) (sym (append-nil _))
    ∙ ap (λ (ds : List Departure). sent_all (running_format c.args.self.now) ds ++ rest) (sym c.in-Some.ensures)
