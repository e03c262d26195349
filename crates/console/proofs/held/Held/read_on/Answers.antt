-- What was read is what stands behind what was held.
use Rattle.std.proofs.Common.{◌≡◌, ◌≤◌, ◌+◌, ℕ, List, ◌++◌, length, drop, take, vec_items, sym, ap, subst, ◌∙◌, arith}
use Rattle.std.proofs.lemmas.List.{drop-take, length-take-le, take_at}
use Rattle.std.specs.Io.KnownBytes.{Consumes}
use Rattle.console.specs.Holding.{held_bytes}
use Rattle.console.proofs.held.Held.read_on.Goals as goal

-- behind the first f of a buffer whose elements are now ws
behind : (k f n len : ℕ) (ws zs : List ℕ) → k ≡ f → length ws ≡ len → drop k (take (f + n) (take len (ws ++ zs))) ≡ take n (drop f ws)
behind k f n len ws zs h l =
    ap (λ i. drop i (take (f + n) (take len (ws ++ zs)))) h ∙ (ap (λ ys. drop f (take (f + n) ys)) (take_at ws zs len l) ∙ drop-take f n ws)

pub returns-clause-came : goal.returns-clause-came
returns-clause-came g c =
    let w = c.make_room.new.self in
    let f : w.filled ≤ length (vec_items w.buffer) = omega (arith, w.within, w.buffer.ok.0) in
    let k : length (held_bytes c.args.self.now) ≡ w.filled = ap length (sym c.make_room.ensures.bytes) ∙ length-take-le w.filled (vec_items w.buffer) f in
    let l : length c.read_at.new.buffer ≡ w.buffer.len = omega (arith, c.as_mut_slice.ensures.len, c.read_at.auto.buffer) in
    subst (Consumes (g.R.Read.remaining c.args.input.now) (g.R.Read.remaining c.read_at.new.input))
    (sym (behind (length (held_bytes c.args.self.now)) w.filled c.in_ok-came.came w.buffer.len c.read_at.new.buffer _ k l)) (c.in_ok-came.ensures.came)
