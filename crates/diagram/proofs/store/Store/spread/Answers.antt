-- Marking on from the last node down. Assumes nothing.
use Rattle.std.proofs.Common.{◌≡◌, ℕ, ◌+◌, ◌-◌, ◌<◌, subst, arith}
use Rattle.diagram.specs.Collecting.{ClosedFrom}
use Rattle.diagram.proofs.Marking.{reached_start, both_closed, both_still, both_inside, both_reached}
use Rattle.diagram.proofs.store.Store.spread.Goals as goal

pub loop-i-init : goal.loop-i-init
loop-i-init c = record {
  closed = λ k j l lk. absurd (omega arith);
  more = λ k m. m;
  inside = c.requires.inside;
  reached = reached_start c.args.self.now c.args.marks.now;
}

pub loop-i-preserved-then-marks-i : goal.loop-i-preserved-then-marks-i
loop-i-preserved-then-marks-i c =
    let s = c.args.self.now in
    let i : ℕ = c.loop-i.i - 1 in
    let m₀ = c.loop-i.marks in
    let m₁ = c.mark.new.marks in
    let m₂ = c.mark-then-marks-i.new.marks in
    let inv = c.loop-i.invariant in
    let l : i < s.linked = omega (arith, c.loop-i-test.true) in
    let e : c.loop-i.i ≡ i + 1 = omega (arith, c.loop-i-test.true) in
    let is = c.if-marks-i.true in
    let low = c.mark.ensures in
    let high = c.mark-then-marks-i.ensures in
    record {
      closed = both_closed s i l m₀ m₁ m₂ is low high (subst (λ (n : ℕ). ClosedFrom s m₀ n) e inv.closed);
      more = λ k h. both_still s i l m₀ m₁ m₂ is low high k (inv.more k h);
      inside = both_inside s i l m₀ m₁ m₂ is low high inv.inside;
      reached = both_reached s i l m₀ m₁ m₂ is low high c.args.marks.now inv.reached;
    }
