-- A marked node is copied, and at the end each has its copy. Assumes nothing.
use Rattle.std.proofs.Common.{◌≡◌, ℕ, ◌<◌, Option, subst, arith}
use Rattle.std.specs.Prelude.{MatchOption}
use Rattle.model.specs.declared.node.Ref.{Ref}
use Rattle.model.specs.Stages.{Stage}
use Rattle.diagram.specs.Stores.{nodes_of, joined, Lacks, Stands}
use Rattle.diagram.specs.Collecting.{FromMarked}
use Rattle.diagram.proofs.Copies.{kept_more, kept_skip}
use Rattle.diagram.proofs.store.Store.keep.Goals as goal
use Rattle.diagram.proofs.store.Store.keep.Goals.{then-marks-i, else-marks-i}

pub loop-i-preserved : goal.loop-i-preserved
loop-i-preserved c =
    let old = c.args.self.now in
    let s = c.loop-i.self in
    let marks = c.args.marks.now in
    let i : ℕ = c.loop-i.i in
    let k = c.loop-i.invariant in
    let l : i < old.linked = omega arith in
    elim c.if-marks-i.branch [
      | then-marks-i w ↦
          let m = w.join.ensures in
          let at : Stage = joined s (nodes_of old i).place w.moved-low.result w.moved-high.result in
          let stands : Stands w.join.new.self (nodes_of old i).place at w.unwrap.result =
          subst (λ (o : Option Ref). MatchOption o (Lacks w.join.new.self at) (λ x. Stands w.join.new.self (nodes_of old i).place at x))
          w.unwrap.ensures m.value in
          rw (w.self-is, w.end-is, w.to-is)
          (kept_more old marks c.requires.closed c.empty.new.self.cap s c.loop-i.end c.loop-i.to i l k
          w.if-marks-i.true w.moved-low.result w.moved-high.result w.moved-low.ensures w.moved-high.ensures
          w.join.new.self w.join.new.end w.unwrap.result m.level m.grows m.one m.new stands (omega (arith, old.sound.fits)))
      | else-marks-i w ↦
          rw (w.self-is, w.end-is, w.to-is)
          (kept_skip old marks c.requires.closed c.empty.new.self.cap s c.loop-i.end c.loop-i.to i l k w.if-marks-i.false)
    ]

pub returns-clause-only : goal.returns-clause-only
returns-clause-only c =
    let old = c.args.self.now in
    let e : c.loop-i.i ≡ old.linked = omega (arith, c.loop-i-test.false, c.loop-i.auto.i-end) in
    subst (λ (n : ℕ). FromMarked old c.loop-i.self c.args.marks.now n) e c.loop-i.invariant.only
