-- Frames of a program that runs, over plain values.
use Rattle.std.proofs.Common.{◌≡◌, ℕ, ◌+◌, ◌-◌, Bool, true, false, cond, List, [], ◌++◌, length, take, drop, Ok, Err, sym, refl, ap, ◌∙◌, inl, inr, arith}
use borrow.Rule.Slice.PartMut.{put_mid}
use Rattle.std.proofs.lemmas.List.{append_assoc, append-nil, take_at, drop_at, drop_all, drop-drop, length-drop}
use Rattle.model.specs.Packet.{Departure}
use Rattle.model.specs.Pipeline.{Pipeline, Arrival, Comes, Idle, advance}
use Rattle.packet.specs.Contents.{Contents, code}
use Rattle.packet.specs.Carrying.{carried}
use Rattle.packet.specs.declared.parsed.Refused as packet
use Rattle.compiler.specs.Program.{Format}
use Rattle.model.specs.Answer.{UpdateAnswer, answered, code_of}
use Rattle.model.specs.Version.{Edit}
use Rattle.model.specs.Pipeline.{Update, one_bit, takes, event}
use Rattle.update.specs.Answers.{answer_of}
use Rattle.update.specs.Decoded as decoded
use Rattle.update.specs.Stands.{Refuses}
use Rattle.update.specs.declared.fault.Fault.{Fault}
use Rattle.update.specs.declared.fault.Fault.TheVariants.{RunsOut, LeftOver, NoAction, NoOperand, NoField, TooWide, NoTable, TableTwice, TooManyEntries, TooManyActions, NotItsField, NoMemory}
use Rattle.stream.specs.Answering.{Running, take_apart, brings, refusal, decode, told_fault, update_writes, updated, writes, next}
use Rattle.stream.specs.Frames as frames
use Rattle.stream.specs.Frames.{Frame, Starved}
use Rattle.stream.specs.Machines.{pipeline}
use Rattle.stream.specs.Writing.{sent_all, refused, told}
use Rattle.switch.specs.Starving.{Done}

pub comes_writes : (f f' : Format) (body : List ℕ) (k : Contents) (xs ys : List Departure) (out out' : List ℕ) (r : ℕ) →
    take_apart f body ≡ Ok k → f' ≡ f → xs ≡ ys → out' ≡ sent_all f' xs ++ drop r out → out' ≡ (refusal (take_apart f body) ++ sent_all f ys) ++ drop r out
comes_writes f f' body k xs ys out out' r parses same leaves wrote =
    wrote ∙ (λ i. (refusal (sym parses i) ++ sent_all (same i) (leaves i)) ++ drop r out)

pub comes_next : (f f' : Format) (body : List ℕ) (k : Contents) (a : Arrival) (c c' : Pipeline Bool) →
    take_apart f body ≡ Ok k → f' ≡ f → a ≡ Comes (carried k) → c' ≡ advance a c → Running f' c' ≡ Running f (advance (brings (take_apart f body)) c)
comes_next f f' body k a c c' parses same is does =
    (λ i. Running (same i) (does i)) ∙ ap (λ (b : Arrival). Running f (advance b c)) (is ∙ ap brings (sym parses))

-- what is written behind what stands at the front
pub written_behind : (first second out mid last : List ℕ) (n r : ℕ) → n ≡ length first → mid ≡ first ++ drop n out → last ≡ second ++ drop r (drop n mid) →
    put_mid n (length mid - n) mid last ≡ (first ++ second) ++ drop (n + r) out
written_behind first second out mid last n r count is wrote =
    let front : take n mid ≡ first = ap (take n) is ∙ take_at first (drop n out) n (sym count) in
    let back : drop n mid ≡ drop n out = ap (drop n) is ∙ drop_at first (drop n out) n (sym count) in
    let gone : drop (length mid - n) (drop n mid) ≡ [] = drop_all (length mid - n) (drop n mid) (omega (arith, length-drop n mid)) in
    let tail : last ≡ second ++ drop (n + r) out = wrote ∙ ap (λ (l : List ℕ). second ++ l) (ap (drop r) back ∙ drop-drop r n out) in
    (λ i. front i ++ (tail i ++ gone i))
    ∙ (ap (λ (l : List ℕ). first ++ l) (append-nil (second ++ drop (n + r) out))
    ∙ sym (append_assoc first second (drop (n + r) out)))

pub refused_writes : (f f' : Format) (body : List ℕ) (e : packet.Refused) (xs ys : List Departure) (out mid last : List ℕ) (told n r : ℕ) →
    take_apart f body ≡ Err e → f' ≡ f → xs ≡ ys → told ≡ code e → n ≡ 2 → mid ≡ refused told ++ drop n out → last ≡ sent_all f' xs ++ drop r (drop n mid) →
    put_mid n (length mid - n) mid last ≡ (refusal (take_apart f body) ++ sent_all f ys) ++ drop (n + r) out
refused_writes f f' body e xs ys out mid last told n r parses same leaves coded count is wrote =
    written_behind (refused told) (sent_all f' xs) out mid last n r count is wrote
    ∙ ((λ i. (refused (coded i) ++ sent_all (same i) (leaves i)) ++ drop (n + r) out)
    ∙ ap (λ (l : List ℕ). (l ++ sent_all f ys) ++ drop (n + r) out) (ap refusal (sym parses)))

pub refused_next : (f f' : Format) (body : List ℕ) (e : packet.Refused) (c c' : Pipeline Bool) →
    take_apart f body ≡ Err e → f' ≡ f → c' ≡ advance Idle c → Running f' c' ≡ Running f (advance (brings (take_apart f body)) c)
refused_next f f' body e c c' parses same does =
    (λ i. Running (same i) (does i)) ∙ ap (λ (b : Arrival). Running f (advance b c)) (ap brings (sym parses))

-- a well-formed update is answered by whether it is taken
told_taken : (b : Bool) → told (code_of (answered b)) 0 ≡ cond b (told 0 0) (told 12 0)
told_taken true = refl
told_taken false = refl

pub update_writes_lem : (f : Format) (body : List ℕ) (gs : List Edit) (a : UpdateAnswer) (b : Bool) (out out' : List ℕ) (r : ℕ) →
    decode f body ≡ decoded.Taken gs → a ≡ answered b → out' ≡ told (code_of a) 0 ++ drop r out → out' ≡ update_writes b (decode f body) ++ drop r out
update_writes_lem f body gs a b out out' r reads is wrote =
    wrote ∙ ap (λ (l : List ℕ). l ++ drop r out) (ap (λ (u : UpdateAnswer). told (code_of u) 0) is ∙ (told_taken b ∙ ap (update_writes b) (sym reads)))

pub update_next : (f f' : Format) (body : List ℕ) (gs : List Edit) (c c' : Pipeline Bool) →
    decode f body ≡ decoded.Taken gs → f' ≡ f → c' ≡ event one_bit (Update gs) c → Running f' c' ≡ Running f (updated pipeline c (decode f body))
update_next f f' body gs c c' reads same does =
    (λ i. Running (same i) (does i)) ∙ ap (λ (d : decoded.Decoded). Running f (updated pipeline c d)) (sym reads)

-- a fault of an update: there was no memory, or the definition refuses so too
pub data Faulty (fault : Fault) (d : decoded.Decoded) : Type 0 where
  starved : fault ≡ NoMemory → Faulty fault d
  faulty : (g : decoded.Fault) → d ≡ decoded.Refused g → told_fault g ≡ told (answer_of fault).0 (answer_of fault).1 → Faulty fault d

pub refuses_faulty : (fault : Fault) (d : decoded.Decoded) → Refuses fault d → Faulty fault d
refuses_faulty (RunsOut o) d e = faulty (decoded.RunsOut o) e refl
refuses_faulty (LeftOver o) d e = faulty (decoded.LeftOver o) e refl
refuses_faulty (NoAction o) d e = faulty (decoded.NoAction o) e refl
refuses_faulty (NoOperand o) d e = faulty (decoded.NoOperand o) e refl
refuses_faulty (NoField o) d e = faulty (decoded.NoField o) e refl
refuses_faulty (TooWide o) d e = faulty (decoded.TooWide o) e refl
refuses_faulty (NoTable o) d e = faulty (decoded.NoTable o) e refl
refuses_faulty (TableTwice o) d e = faulty (decoded.TableTwice o) e refl
refuses_faulty (TooManyEntries o) d e = faulty (decoded.TooManyEntries o) e refl
refuses_faulty (TooManyActions o) d e = faulty (decoded.TooManyActions o) e refl
refuses_faulty (NotItsField o) d e = faulty (decoded.NotItsField o) e refl
refuses_faulty NoMemory d e = starved refl

-- what is done about an update that was not taken
pub faulty_done : (f : Format) (body : List ℕ) (c : Pipeline Bool) (fault : Fault) (code offset : ℕ) (out out' : List ℕ) (r : ℕ) → Faulty fault (decode f body) →
    code ≡ (answer_of fault).0 → offset ≡ (answer_of fault).1 → out' ≡ told code offset ++ drop r out →
    (g : Frame) × Done (frames.Update body) g × (out' ≡ writes pipeline (Running f c) g ++ drop r out) × (Running f c ≡ next pipeline (Running f c) g)
faulty_done f body c fault code offset out out' r (starved is) ce oe wrote =
    (Starved, inr (refl, tt), wrote ∙ (λ i. told ((ce ∙ ap (λ (x : Fault). (answer_of x).0) is) i) ((oe ∙ ap (λ (x : Fault). (answer_of x).1) is) i) ++ drop r out), refl)
faulty_done f body c fault code offset out out' r (faulty g reads same) ce oe wrote = (
  frames.Update body,
  inl refl,
  wrote ∙ ((λ i. told (ce i) (oe i) ++ drop r out) ∙ ap (λ (l : List ℕ). l ++ drop r out) (sym same ∙ ap (update_writes (takes one_bit c)) (sym reads))),
  ap (λ (d : decoded.Decoded). Running f (updated pipeline c d)) (sym reads),
)
