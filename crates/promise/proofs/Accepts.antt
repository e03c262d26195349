-- Sources that are taken are those of the grammar that the rule places.
use Rattle.std.proofs.Common.{◌≡◌, ℕ, List, get_or, refl, ap, ◌∙◌, arith}
use Rattle.model.specs.Stopping as stopping
use Rattle.model.specs.Stopping.{Placed, placement}
use Rattle.source.specs.Faults.{answer_of}
use Rattle.source.specs.Reading.{Outcome, taken, refused, read_source}
use Rattle.source.specs.State.{Seen}
use Rattle.source.specs.declared.fault.Fault.{Fault}
use Rattle.source.specs.declared.fault.Fault.TheVariants.{Unawaited, Name, Range, Header, Depth, Twice, Count, Memory}
use Rattle.grammar.proofs.Reading.{reads_the_grammar}
use Rattle.compiler.specs.Program.{paths_of}
use Rattle.compiler.specs.Packaging.{packaged}
use Rattle.compiler.specs.Compiling.{placed, after_reading}
use Rattle.stream.specs.Answering.{load_writes}
use Rattle.stream.specs.Writing.{told}
use Rattle.promise.specs.Accepting.{Placeable, TakenIfPlaceable}

-- the code of an answer
told_code : (c o : ℕ) → told c o ≡ told 0 0 → c ≡ 0
told_code c o e = ap (λ (l : List ℕ). get_or l 1 0) e

-- no fault has the code 0
coded : (f : Fault) → (answer_of f).code ≡ 0 → ⊥
coded (Unawaited at) e = omega (arith, e)
coded (Name at) e = omega (arith, e)
coded (Range at) e = omega (arith, e)
coded (Header at) e = omega (arith, e)
coded (Depth at) e = omega (arith, e)
coded (Twice at) e = omega (arith, e)
coded (Count at) e = omega (arith, e)
coded Memory e = omega (arith, e)

by_verdict : (source : List ℕ) (d : Seen) → read_source source ≡ taken d → (v : stopping.Verdict) → placement 12 512 (paths_of (packaged d)) ≡ v →
    load_writes (placed (packaged d) v) ≡ told 0 0 → Placeable source
by_verdict source d reads (Placed row) is answer = record { program = d; says = (reads_the_grammar source d).0 reads; nodes = row; placed = is }
by_verdict source d reads (stopping.Refused o) is answer =
    let ten : 10 ≡ 0 = told_code 10 o answer in
    absurd (omega (arith, ten))

by_outcome : (source : List ℕ) (o : Outcome) → read_source source ≡ o → load_writes (after_reading o) ≡ told 0 0 → Placeable source
by_outcome source (taken d) reads answer = by_verdict source d reads (placement 12 512 (paths_of (packaged d))) refl answer
by_outcome source (refused f) reads answer = absurd (coded f (told_code (answer_of f).code (answer_of f).offset answer))

pub taken_if_placeable : TakenIfPlaceable
taken_if_placeable source = (
  by_outcome source (read_source source) refl,
  λ p. ap (λ (o : Outcome). load_writes (after_reading o)) ((reads_the_grammar source p.program).1 p.says)
      ∙ ap (λ (v : stopping.Verdict). load_writes (placed (packaged p.program) v)) p.placed,
)
