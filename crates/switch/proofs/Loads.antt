-- A source that is refused, over plain values.
use Rattle.std.proofs.Common.{◌≡◌, ℕ, List, ◌++◌, drop, sym, refl, ap, ◌∙◌, inl, inr}
use Rattle.compiler.specs.Compiling.{Refused, compiled}
use Rattle.compiler.specs.Refusals.{answer_of, Refuses}
use Rattle.compiler.specs.declared.refusal.Refusal.{Refusal}
use Rattle.compiler.specs.declared.refusal.Refusal.TheVariants.{Unread, Unplaced, Memory}
use Rattle.stream.specs.Answering.{Unloaded, loaded, load_writes, writes, next}
use Rattle.stream.specs.Frames.{Frame, Source, Starved}
use Rattle.stream.specs.Machines.{pipeline}
use Rattle.stream.specs.Writing.{told}
use Rattle.switch.specs.Starving.{Done}

refused_load : (body out out' : List ℕ) (code offset r c o : ℕ) → compiled body ≡ Refused c o → code ≡ c → offset ≡ o → out' ≡ told code offset ++ drop r out →
    (g : Frame) × Done (Source body) g × (out' ≡ writes pipeline Unloaded g ++ drop r out) × (Unloaded ≡ next pipeline Unloaded g)
refused_load body out out' code offset r c o is ce oe wrote = (
  Source body,
  inl refl,
  wrote ∙ ((λ i. told (ce i) (oe i) ++ drop r out) ∙ ap (λ (l : List ℕ). l ++ drop r out) (ap load_writes (sym is))),
  ap (loaded pipeline) (sym is),
)

pub load_refused : (refusal : Refusal) (body out out' : List ℕ) (code offset r : ℕ) → Refuses refusal (compiled body) → ◌≡◌ {A = ℕ × ℕ} (code, offset) (answer_of refusal) →
    out' ≡ told code offset ++ drop r out →
    (g : Frame) × Done (Source body) g × (out' ≡ writes pipeline Unloaded g ++ drop r out) × (Unloaded ≡ next pipeline Unloaded g)
load_refused (Unread f) body out out' code offset r is answers wrote =
    refused_load body out out' code offset r (answer_of (Unread f)).0 (answer_of (Unread f)).1 is (ap (λ (x : ℕ × ℕ). x.0) answers) (ap (λ (x : ℕ × ℕ). x.1) answers) wrote
load_refused (Unplaced p) body out out' code offset r is answers wrote =
    refused_load body out out' code offset r 10 p is (ap (λ (x : ℕ × ℕ). x.0) answers) (ap (λ (x : ℕ × ℕ). x.1) answers) wrote
load_refused Memory body out out' code offset r is answers wrote =
    (Starved, inr (refl, tt), wrote ∙ (λ i. told (answers i).0 (answers i).1 ++ drop r out), refl)
