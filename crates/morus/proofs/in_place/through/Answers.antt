-- A whole block at a time, two a turn, and an odd one; then the last part.
use Rattle.std.proofs.Common.{◌≡◌, ◌+◌, ◌-◌, ◌*◌, ◌/◌, length, arith}
use Rattle.morus.proofs.Blockwise.{Going, done_on, gone}
use Rattle.morus.proofs.in_place.through.Goals.{then-blocks-eq1, else-blocks-eq1}
use Rattle.morus.proofs.in_place.through.Goals as goal

pub loop-k-preserved : goal.loop-k-preserved
loop-k-preserved g c =
    let v = c.loop-k.invariant in
    let one : Going g.D.Direction.after c.args.s c.args.mc.now c.whole-st.result c.whole-st.new.mc (64 * c.loop-k.k + 32) =
    done_on 32 v (omega (arith, v.same)) (omega (arith, v.same)) c.whole-st.ensures in
    let e : 64 * (c.loop-k.k + 1) ≡ 64 * c.loop-k.k + 32 + 32 = omega arith in
    rw e (done_on 32 one (omega (arith, one.same)) (omega (arith, one.same)) c.whole-st-in-loop-k.ensures)

pub returns-then-mc-ne0 : goal.returns-then-mc-ne0
returns-then-mc-ne0 g c =
    let n = length c.args.mc.now in
    let v : Going g.D.Direction.after c.args.s c.args.mc.now c.if-blocks-eq1.st c.if-blocks-eq1.mc (32 * (n / 32)) =
    elim c.if-blocks-eq1.branch [
      | then-blocks-eq1 w ↦
          let e : 64 * c.loop-k.k ≡ 32 * (n / 32 - 1) = omega (arith, w.if-blocks-eq1.true) in
          let e' : 32 * (n / 32) ≡ 32 * (n / 32 - 1) + 32 = omega (arith, w.if-blocks-eq1.true) in
          let u = rw e at c.loop-k.invariant in
          rw (w.mc-is, w.st-is, e') (done_on 32 u (omega (arith, u.same)) (omega (arith, u.same)) w.whole-st-then-blocks-eq1.ensures)
      | else-blocks-eq1 w ↦
          let e : 64 * c.loop-k.k ≡ 32 * (n / 32) = omega (arith, w.if-blocks-eq1.false) in
          rw (w.mc-is, w.st-is) (rw e at c.loop-k.invariant)
    ] in
    let all = done_on (length c.if-blocks-eq1.mc - 32 * (n / 32)) v (omega (arith, v.same)) (omega (arith, v.same)) c.last-st.ensures in
    let r = gone all (omega (arith, v.same)) in
    record { state = r.0; bytes = r.1 }

pub returns-else-mc-ne0 : goal.returns-else-mc-ne0
returns-else-mc-ne0 g c =
    let n = length c.args.mc.now in
    let v : Going g.D.Direction.after c.args.s c.args.mc.now c.if-blocks-eq1.st c.if-blocks-eq1.mc (32 * (n / 32)) =
    elim c.if-blocks-eq1.branch [
      | then-blocks-eq1 w ↦
          let e : 64 * c.loop-k.k ≡ 32 * (n / 32 - 1) = omega (arith, w.if-blocks-eq1.true) in
          let e' : 32 * (n / 32) ≡ 32 * (n / 32 - 1) + 32 = omega (arith, w.if-blocks-eq1.true) in
          let u = rw e at c.loop-k.invariant in
          rw (w.mc-is, w.st-is, e') (done_on 32 u (omega (arith, u.same)) (omega (arith, u.same)) w.whole-st-then-blocks-eq1.ensures)
      | else-blocks-eq1 w ↦
          let e : 64 * c.loop-k.k ≡ 32 * (n / 32) = omega (arith, w.if-blocks-eq1.false) in
          rw (w.mc-is, w.st-is) (rw e at c.loop-k.invariant)
    ] in
    let r = gone v (omega (arith, v.same)) in
    record { state = r.0; bytes = r.1 }
