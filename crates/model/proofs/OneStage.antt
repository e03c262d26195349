-- One stage, for one packet: if what is left to do from stage s on means a goal, then so does what is left from the next stage on, after the work of stage s.
use Rattle.std.proofs.Common.{◌≡◌, ℕ, zero, suc, ◌+◌, ◌≤◌, true, false, cond, ◌&&◌, eqb, List, length, sym, refl, subst, ⊎_elim, zero-le, arith}
use Rattle.std.proofs.lemmas.Bool.{eq-eqb, ne_eqb, cases_eq}
use Rattle.model.specs.Packet.{Packet}
use Rattle.model.specs.Action.{passes, act}
use Rattle.model.specs.Paths.{Paths, Stop, Apply, Branch, Act}
use Rattle.model.specs.Meaning.{means, apply}
use Rattle.model.specs.Node.{Node, Does, Halt, Look, Ask, Do, node_at, halts}
use Rattle.model.specs.Version.{Version}
use Rattle.model.specs.Stage.{Transit, moved, on_stage}
use Rattle.model.specs.Sound.{Lays}

-- the laws of a stage, for whatever a node does

-- a node of this stage is done, and the packet goes on
pub stage_goes : (turns : ℕ) (v : Version) (s : ℕ) (seen : Packet) (u : Transit) (d : Does) → (node_at v.nodes u.at).does ≡ d → halts d ≡ false → (node_at v.nodes u.at).stage ≡ s →
    on_stage (suc turns) v s seen u ≡ on_stage turns v s seen (moved v seen d u)
unfolding on_stage
stage_goes turns v s seen u d is h e = rw (eq-eqb (node_at v.nodes u.at).stage s e, is, h) refl

-- a node of another stage is left
pub stage_leaves : (turns : ℕ) (v : Version) (s : ℕ) (seen : Packet) (u : Transit) → ((node_at v.nodes u.at).stage ≡ s → ⊥) → on_stage turns v s seen u ≡ u
unfolding on_stage
stage_leaves zero v s seen u ne = refl
stage_leaves (suc turns) v s seen u ne = rw (ne_eqb (node_at v.nodes u.at).stage s ne) refl

-- at a halt nothing is done
pub stage_halts : (turns : ℕ) (v : Version) (s : ℕ) (seen : Packet) (u : Transit) → (node_at v.nodes u.at).does ≡ Halt → on_stage turns v s seen u ≡ u
unfolding on_stage
stage_halts zero v s seen u is = refl
stage_halts (suc turns) v s seen u is =
    rw is (elim (eqb (node_at v.nodes u.at).stage s) as (λ z. cond (z && false) (on_stage turns v s seen (moved v seen Halt u)) u ≡ u) [ true ↦ refl | false ↦ refl ])

-- what is left to do of a packet from stage s on: paths that are laid out from its node on, nothing of which was changed on this stage, and which mean the goal
pub record Ready (k : ℕ) (v : Version) (s : ℕ) (goal : Packet) (u : Transit) : Type 0 where
  pub paths : Paths
  pub lays : Lays k v.nodes u.at s 0 paths
  pub same : means v.declarations paths v.tables u.packet ≡ goal

-- past the last stage nothing is left
pub all_done : {k : ℕ} {v : Version} {goal : Packet} {u : Transit} → Ready k v k goal u → u.packet ≡ goal
unfolding means
all_done {k} {v} {goal} {u} r = go r.paths r.lays r.same
  where
    go : (x : Paths) → Lays k v.nodes u.at k 0 x → means v.declarations x v.tables u.packet ≡ goal → u.packet ≡ goal
    go (Stop o) l e = e
    go (Apply o n x) (Lays.applies is h1 h2 h3 h4 h5 more) e = absurd (omega arith)
    go (Branch o c x y) (Lays.branches is h1 h2 h3 h4 h5 more1 more2) e = absurd (omega arith)
    go (Act o a x) (Lays.acts is h1 h2 h3 h4 more) e = absurd (omega arith)

-- what may stand behind a change may stand where nothing was changed
lower : {k : ℕ} {ns : List Node} {i s t : ℕ} {x : Paths} → Lays k ns i s t x → Lays k ns i s 0 x
lower (Lays.stops is) = Lays.stops is
lower (Lays.applies is h1 h2 h3 h4 h5 more) = Lays.applies is h1 zero-le h3 h4 h5 more
lower (Lays.branches is h1 h2 h3 h4 h5 more1 more2) = Lays.branches is h1 h2 h3 h4 h5 (lower more1) (lower more2)
lower (Lays.acts is h1 h2 h3 h4 more) = Lays.acts is h1 h2 h3 h4 more

module _ (k : ℕ) (v : Version) (s : ℕ) (seen goal : Packet) where
  abbrev Next : Transit → Type 0
  Next u = Ready k v (suc s) goal u

  -- the key: as long as a table may still stand on this stage (t ≤ s), the packet is as it came to the stage
  pub stage_work : {i l t : ℕ} {x : Paths} → Lays k v.nodes i l t x → (turns : ℕ) (p : Packet) → s ≤ l → (t ≤ s → p ≡ seen) → length v.nodes ≤ turns + i →
      means v.declarations x v.tables p ≡ goal → Next (on_stage turns v s seen (record { packet = p; at = i }))
  unfolding means
  stage_work {i} (Lays.stops {o = o} is) turns p hs hp ht e =
      subst Next (sym (stage_halts turns v s seen (record { packet = p; at = i }) is)) (record { paths = Stop o; lays = Lays.stops is; same = e })
  stage_work {i} (Lays.applies {o = o} {n = n} {j = j} {x = x} is h1 h2 h3 h4 h5 more) zero p hs hp ht e = absurd (omega arith)
  stage_work {i} (Lays.applies {o = o} {n = n} {j = j} {x = x} is h1 h2 h3 h4 h5 more) (suc turns) p hs hp ht e =
      ⊎_elim
      (λ (here : (node_at v.nodes i).stage ≡ s).
      subst Next (sym (stage_goes turns v s seen (record { packet = p; at = i }) (Look n j) is refl here))
      (stage_work more turns (apply v.declarations v.tables n seen p) (omega arith) (λ bad. absurd (omega arith)) (omega arith)
      (subst (λ (z : Packet). means v.declarations x v.tables (apply v.declarations v.tables n z p) ≡ goal) (hp (omega arith)) e)))
      (λ (away : (node_at v.nodes i).stage ≡ s → ⊥).
      subst Next (sym (stage_leaves (suc turns) v s seen (record { packet = p; at = i }) away))
      (record { paths = Apply o n x; lays = Lays.applies is (omega arith) zero-le h3 h4 h5 more; same = e }))
      (cases_eq (node_at v.nodes i).stage s)
  stage_work {i} (Lays.branches {o = o} {j = j} {l = l2} {c = c} {x = x} {y = y} is h1 h2 h3 h4 h5 more1 more2) zero p hs hp ht e = absurd (omega arith)
  stage_work {i} (Lays.branches {t = t} {o = o} {j = j} {l = l2} {c = c} {x = x} {y = y} is h1 h2 h3 h4 h5 more1 more2) (suc turns) p hs hp ht e =
      ⊎_elim
      (λ (here : (node_at v.nodes i).stage ≡ s).
      subst Next (sym (stage_goes turns v s seen (record { packet = p; at = i }) (Ask c j l2) is refl here))
      ((elim (passes c p) as (λ z. cond z (means v.declarations x v.tables p) (means v.declarations y v.tables p) ≡ goal →
      Next (on_stage turns v s seen (record { packet = p; at = cond z j l2 }))) [
        | true ↦ λ e1. stage_work more1 turns p (omega arith) hp (omega arith) e1
        | false ↦ λ e1. stage_work more2 turns p (omega arith) hp (omega arith) e1
      ]) e))
      (λ (away : (node_at v.nodes i).stage ≡ s → ⊥).
      subst Next (sym (stage_leaves (suc turns) v s seen (record { packet = p; at = i }) away))
      (record { paths = Branch o c x y; lays = Lays.branches is (omega arith) h2 h3 h4 h5 (lower more1) (lower more2); same = e }))
      (cases_eq (node_at v.nodes i).stage s)
  stage_work {i} (Lays.acts {o = o} {j = j} {a = a} {x = x} is h1 h2 h3 h4 more) zero p hs hp ht e = absurd (omega arith)
  stage_work {i} (Lays.acts {o = o} {j = j} {a = a} {x = x} is h1 h2 h3 h4 more) (suc turns) p hs hp ht e =
      ⊎_elim
      (λ (here : (node_at v.nodes i).stage ≡ s).
      subst Next (sym (stage_goes turns v s seen (record { packet = p; at = i }) (Do a j) is refl here))
      (stage_work more turns (act v.declarations a p) (omega arith) (λ bad. absurd (omega arith)) (omega arith) e))
      (λ (away : (node_at v.nodes i).stage ≡ s → ⊥).
      subst Next (sym (stage_leaves (suc turns) v s seen (record { packet = p; at = i }) away))
      (record { paths = Act o a x; lays = Lays.acts is (omega arith) h2 h3 h4 more; same = e }))
      (cases_eq (node_at v.nodes i).stage s)
