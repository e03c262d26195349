-- How the marks of a row go on as statements are added and blocks end.
use Rattle.std.proofs.Common.{◌≡◌, ℕ, ◌+◌, ◌-◌, ◌^◌, ◌<◌, false, List, [], ◌∷◌, ◌++◌, length, set, sym, refl, ap, ◌∙◌, subst, subst₂, inl, inr, arith}
use lib.Bits.{bit_or}
use Rattle.std.proofs.lemmas.List.{length_push, length-set}
use Rattle.model.specs.Action.{Action, Test}
use Rattle.source.specs.State.{Act, Apply, If, Skip, Row, Fork, Detour, Block, Do, Yes, No}
use Rattle.source.specs.Bodies.{row, holds, insert}
use Rattle.limits.proofs.Sets.{Sub, sub_refl, sub_trans, sub_left, sub_right, inserted}
use Rattle.limits.proofs.Tracing.{Marked, Remarks, unchanged, put, put_here, put_other, one_further, more_at_end, Among, among_first, among_more, among_others, Each, each_remarked, each_pushed, each_put, ForkMarked, DetourMarked, Chained, chain_top, chain_remarked, pending, Trace}

-- one row more, with the tables v behind it
new_now : (mark : ℕ → ℕ) (n m v : ℕ) → m ≡ n + 1 → put mark (n + 1) v m ≡ v
new_now mark n m v e = ap (put mark (n + 1) v) e ∙ put_here mark (n + 1) v

new_each : (pend : List ℕ) (mark : ℕ → ℕ) (rows : List Row) (r : Row) (v : ℕ) → Each pend mark (length rows) rows → Marked (put mark (length rows + 1) v) (length rows + 1) (length rows) r.doing →
    Each pend (put mark (length rows + 1) v) (length (rows ++ r ∷ [])) (rows ++ r ∷ [])
new_each pend mark rows r v h k =
    let l : length (rows ++ r ∷ []) ≡ length rows + 1 = length_push rows r in
    let new : ℕ → ℕ = put mark (length rows + 1) v in
    each_pushed pend new (length (rows ++ r ∷ [])) rows r (each_remarked pend mark new (length rows) (length (rows ++ r ∷ [])) rows (one_further mark (length rows) v) (omega arith) (omega arith) h)
    (inr (subst (λ (m : ℕ). Marked new m (length rows) r.doing) (sym l) k))

new_chain : (mark : ℕ → ℕ) (rows : List Row) (r : Row) (a v : ℕ) (bs : List Block) → Sub a v → Chained mark (length rows) a bs → Chained (put mark (length rows + 1) v) (length (rows ++ r ∷ [])) v bs
new_chain mark rows r a v bs s c =
    chain_top (put mark (length rows + 1) v) (length (rows ++ r ∷ [])) a v bs s
    (chain_remarked mark (put mark (length rows + 1) v) (length rows) (length (rows ++ r ∷ [])) a bs (one_further mark (length rows) v) (omega (arith, length_push rows r)) c)

-- what stands at the last row, and behind it
new_here : (mark : ℕ → ℕ) (n a v : ℕ) → mark n ≡ a → put mark (n + 1) v n ≡ a
new_here mark n a v e = put_other mark (n + 1) v n (λ q. omega arith) ∙ e

new_step : (mark : ℕ → ℕ) (n a v : ℕ) → mark n ≡ a → Sub a v → Sub (put mark (n + 1) v n) (put mark (n + 1) v (n + 1))
new_step mark n a v e s = subst₂ Sub (sym (new_here mark n a v e)) (sym (put_here mark (n + 1) v)) s

pub act_traced : (pend : List ℕ) (rows : List Row) (a : ℕ) (bs : List Block) (at : ℕ) (x : Action) → Trace pend rows a bs → Trace pend (rows ++ row at (Act x) ∷ []) a bs
act_traced pend rows a bs at x t = record {
  mark = put t.mark (length rows + 1) a;
  now = new_now t.mark (length rows) (length (rows ++ row at (Act x) ∷ [])) a (length_push rows (row at (Act x)));
  each = new_each pend t.mark rows (row at (Act x)) a t.each (new_step t.mark (length rows) a a t.now (sub_refl a));
  chain = new_chain t.mark rows (row at (Act x)) a a bs (sub_refl a) t.chain;
}

pub apply_traced : (pend : List ℕ) (rows : List Row) (a : ℕ) (bs : List Block) (at x : ℕ) → holds a x ≡ false → Trace pend rows a bs → Trace pend (rows ++ row at (Apply x) ∷ []) (insert a x) bs
apply_traced pend rows a bs at x h t =
    let v : ℕ = insert a x in
    let s : Sub a v = sub_left a (2 ^ x) in
    record {
      mark = put t.mark (length rows + 1) v;
      now = new_now t.mark (length rows) (length (rows ++ row at (Apply x) ∷ [])) v (length_push rows (row at (Apply x)));
      each = new_each pend t.mark rows (row at (Apply x)) v t.each
          (ap (λ (y : ℕ). holds y x) (new_here t.mark (length rows) a v t.now) ∙ h, (new_step t.mark (length rows) a v t.now s, ap (λ (y : ℕ). holds y x) (put_here t.mark (length rows + 1) v) ∙ inserted a x));
      chain = new_chain t.mark rows (row at (Apply x)) a v bs s t.chain;
    }

pub if_traced : (pend : List ℕ) (rows : List Row) (a : ℕ) (bs : List Block) (at : ℕ) (c : Test) → Trace pend rows a bs →
    Trace pend (rows ++ row at (If c 0) ∷ []) a (Yes (record { index = length rows; offset = at; test = c; before = a }) ∷ bs)
unfolding Chained
if_traced pend rows a bs at c t =
    let step = new_step t.mark (length rows) a a t.now (sub_refl a) in
    let zero-on : length rows + 1 ≡ length rows + 1 + 0 = omega arith in
    record {
      mark = put t.mark (length rows + 1) a;
      now = new_now t.mark (length rows) (length (rows ++ row at (If c 0) ∷ [])) a (length_push rows (row at (If c 0)));
      each = new_each pend t.mark rows (row at (If c 0)) a t.each
          (step, (omega arith, subst (λ (j : ℕ). Sub (put t.mark (length rows + 1) a (length rows)) (put t.mark (length rows + 1) a j)) zero-on step));
      chain = (
        record {
          there = omega (arith, length_push rows (row at (If c 0)));
          is = new_here t.mark (length rows) a a t.now;
          inner = subst (λ (x : ℕ). Sub a x) (sym (put_here t.mark (length rows + 1) a)) (sub_refl a);
          below = sub_refl a;
        },
        new_chain t.mark rows (row at (If c 0)) a a bs (sub_refl a) t.chain,
      );
    }

-- behind a yes block: the if's tables, and those of the blocks around it
pub record ForkTrace (pend : List ℕ) (rows : List Row) (a : ℕ) (bs : List Block) (f : Fork) : Type 0 where
  pub trace : Trace pend rows a bs
  pub fork : ForkMarked trace.mark (length rows) a f
  pub outer : Chained trace.mark (length rows) f.before bs

pub yes_closed : (pend : List ℕ) (rows : List Row) (a : ℕ) (bs : List Block) (f : Fork) (at : ℕ) (c : Test) → Trace pend rows a (Yes f ∷ bs) → ForkTrace pend (set rows f.index (row at (If c (length rows - f.index - 1)))) a bs f
unfolding Chained
yes_closed pend rows a bs f at c t =
    let r : Row = row at (If c (length rows - f.index - 1)) in
    let l : length (set rows f.index r) ≡ length rows = length-set rows f.index r in
    let fm : ForkMarked t.mark (length rows) a f = t.chain.0 in
    let jump : f.index + 1 + (length rows - f.index - 1) ≡ length rows = omega (arith, fm.there) in
    let first : Sub (t.mark f.index) (t.mark (f.index + 1)) = subst (λ (x : ℕ). Sub x (t.mark (f.index + 1))) (sym fm.is) fm.inner in
    let last : Sub (t.mark f.index) (t.mark (f.index + 1 + (length rows - f.index - 1))) = subst₂ Sub (sym fm.is) (sym (ap t.mark jump ∙ t.now)) fm.below in
    let again : Chained t.mark (length (set rows f.index r)) f.before bs = chain_remarked t.mark t.mark (length rows) (length (set rows f.index r)) f.before bs (unchanged t.mark (length rows)) (omega arith) t.chain.1 in
    record {
      trace = record {
        mark = t.mark;
        now = ap t.mark l ∙ t.now;
        each = each_put pend pend t.mark t.mark (length rows) (length (set rows f.index r)) rows f.index r (unchanged t.mark (length rows)) (omega arith) refl fm.there (λ i h k. k) (first, (omega arith, last)) t.each;
        chain = chain_top t.mark (length (set rows f.index r)) f.before a bs fm.below again;
      };
      fork = record { there = omega (arith, fm.there); is = fm.is; inner = fm.inner; below = fm.below };
      outer = again;
    }

pub no_closed : (pend : List ℕ) (rows : List Row) (a : ℕ) (bs : List Block) (d : Detour) (at : ℕ) → Trace (d.index ∷ pend) rows a (No d ∷ bs) → Trace pend (set rows d.index (row at (Skip (length rows - d.index - 1)))) (bit_or d.applied a) bs
unfolding Chained
no_closed pend rows a bs d at t =
    let r : Row = row at (Skip (length rows - d.index - 1)) in
    let v : ℕ = bit_or d.applied a in
    let l : length (set rows d.index r) ≡ length rows = length-set rows d.index r in
    let dm : DetourMarked t.mark (length rows) a t.chain.0 d = t.chain.1 in
    let new : ℕ → ℕ = put t.mark (length rows) v in
    let jump : d.index + 1 + (length rows - d.index - 1) ≡ length rows = omega (arith, dm.there) in
    let more : Remarks t.mark new (length rows) = more_at_end t.mark (length rows) v (subst (λ (x : ℕ). Sub x v) (sym t.now) (sub_right d.applied a)) in
    let skip : Sub (new d.index) (new (d.index + 1 + (length rows - d.index - 1))) =
    subst₂ Sub (sym (more.same d.index dm.there ∙ dm.is)) (sym (ap new jump ∙ put_here t.mark (length rows) v)) (sub_left d.applied a) in
    record {
      mark = new;
      now = ap new l ∙ put_here t.mark (length rows) v;
      each = each_put (d.index ∷ pend) pend t.mark new (length rows) (length (set rows d.index r)) rows d.index r more (omega arith) refl dm.there (λ i h k. among_others d.index pend i h k) (omega arith, skip) t.each;
      chain = chain_top new (length (set rows d.index r)) t.chain.0 v bs (sub_trans t.chain.0 a v dm.below (sub_right d.applied a))
          (chain_remarked t.mark new (length rows) (length (set rows d.index r)) t.chain.0 bs more (omega arith) t.chain.2);
    }

-- behind `else`: the skip, whose no block is to come
pub record DetourTrace (pend : List ℕ) (rows : List Row) (a : ℕ) (bs : List Block) (d : Detour) : Type 0 where
  pub trace : Trace (d.index ∷ pend) rows a bs
  pub there : d.index < length rows
  pub is : trace.mark d.index ≡ d.applied

pub no_opened : (pend : List ℕ) (rows : List Row) (a : ℕ) (bs : List Block) (d : Detour) → DetourTrace pend rows a bs d → Trace (d.index ∷ pend) rows a (No d ∷ bs)
unfolding Chained
no_opened pend rows a bs d t = record {
  mark = t.trace.mark;
  now = t.trace.now;
  each = t.trace.each;
  chain = (a, record { there = t.there; is = t.is; below = sub_refl a }, t.trace.chain);
}

pub else_traced : (pend : List ℕ) (rows : List Row) (a : ℕ) (bs : List Block) (f : Fork) (at : ℕ) (c : Test) (o : ℕ) → ForkTrace pend rows a bs f →
    DetourTrace pend (set rows f.index (row at (If c (length rows - f.index))) ++ row o (Skip 0) ∷ []) f.before bs (record { index = length rows; offset = o; applied = a })
else_traced pend rows a bs f at c o t =
    let r : Row = row at (If c (length rows - f.index)) in
    let rs : List Row = set rows f.index r in
    let l : length rs ≡ length rows = length-set rows f.index r in
    let m : length (rs ++ row o (Skip 0) ∷ []) ≡ length rs + 1 = length_push rs (row o (Skip 0)) in
    let mark : ℕ → ℕ = t.trace.mark in
    let new : ℕ → ℕ = put t.trace.mark (length rows + 1) f.before in
    let further : Remarks mark new (length rows) = one_further mark (length rows) f.before in
    let jump : f.index + 1 + (length rows - f.index) ≡ length rows + 1 = omega (arith, t.fork.there) in
    let here : new f.index ≡ f.before = further.same f.index t.fork.there ∙ t.fork.is in
    let first : Sub (new f.index) (new (f.index + 1)) =
    subst (λ (x : ℕ). Sub x (new (f.index + 1))) (sym here) (sub_trans f.before (mark (f.index + 1)) (new (f.index + 1)) t.fork.inner (further.grows (f.index + 1) (omega (arith, t.fork.there)))) in
    let last : Sub (new f.index) (new (f.index + 1 + (length rows - f.index))) = subst₂ Sub (sym here) (sym (ap new jump ∙ put_here mark (length rows + 1) f.before)) (sub_refl f.before) in
    let written : Each (length rows ∷ pend) new (length (rs ++ row o (Skip 0) ∷ [])) rs =
    each_put pend (length rows ∷ pend) mark new (length rows) (length (rs ++ row o (Skip 0) ∷ [])) rows f.index r further (omega arith) refl t.fork.there (λ i h k. among_more (length rows) pend i k)
    (first, (omega arith, last)) t.trace.each in
    record {
      trace = record {
        mark = new;
        now = new_now mark (length rows) (length (rs ++ row o (Skip 0) ∷ [])) f.before (omega arith);
        each = each_pushed (length rows ∷ pend) new (length (rs ++ row o (Skip 0) ∷ [])) rs (row o (Skip 0)) written (inl (subst (λ (j : ℕ). Among (length rows ∷ pend) j) (sym l) (among_first (length rows) pend)));
        chain = chain_remarked mark new (length rows) (length (rs ++ row o (Skip 0) ∷ [])) f.before bs further (omega arith) t.outer;
      };
      there = omega arith;
      is = new_here mark (length rows) a f.before t.trace.now;
    }

-- the block of `do` begins and ends
pub do_opened : (rows : List Row) (a : ℕ) (bs : List Block) → bs ≡ [] → Trace [] rows a [] → Trace (pending (Do ∷ bs)) rows a (Do ∷ bs)
unfolding pending Chained
do_opened rows a bs e t = subst (λ (cs : List Block). Trace (pending (Do ∷ cs)) rows a (Do ∷ cs)) (sym e) (record { mark = t.mark; now = t.now; each = t.each; chain = tt })

pub do_closed : (rows : List Row) (a : ℕ) (bs : List Block) → bs ≡ [] → Trace (pending (Do ∷ bs)) rows a (Do ∷ bs) → Trace [] rows a []
unfolding pending Chained
do_closed rows a bs e t =
    let s : Trace (pending (Do ∷ [])) rows a (Do ∷ []) = subst (λ (cs : List Block). Trace (pending (Do ∷ cs)) rows a (Do ∷ cs)) e t in
    record { mark = s.mark; now = s.now; each = s.each; chain = tt }

-- a yes block leaves no skip open, and a no block one
pub yes_in : (f : Fork) (bs : List Block) (rows : List Row) (a : ℕ) → Trace (pending bs) rows a (Yes f ∷ bs) → Trace (pending (Yes f ∷ bs)) rows a (Yes f ∷ bs)
unfolding pending
yes_in f bs rows a t = t

pub unyes : (f : Fork) (bs : List Block) (rows : List Row) (a : ℕ) → Trace (pending (Yes f ∷ bs)) rows a (Yes f ∷ bs) → Trace (pending bs) rows a (Yes f ∷ bs)
unfolding pending
unyes f bs rows a t = t

pub no_in : (d : Detour) (bs : List Block) (rows : List Row) (a : ℕ) → Trace (d.index ∷ pending bs) rows a (No d ∷ bs) → Trace (pending (No d ∷ bs)) rows a (No d ∷ bs)
unfolding pending
no_in d bs rows a t = t

pub unno : (d : Detour) (bs : List Block) (rows : List Row) (a : ℕ) → Trace (pending (No d ∷ bs)) rows a (No d ∷ bs) → Trace (d.index ∷ pending bs) rows a (No d ∷ bs)
unfolding pending
unno d bs rows a t = t
