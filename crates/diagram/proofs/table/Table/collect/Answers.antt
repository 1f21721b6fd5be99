-- What is left is what the roots reach. Assumes nothing.
use Rattle.std.proofs.Common.{get_or, sym, subst, arith}
use Rattle.model.specs.declared.node.Ref.TheVariants.{Code}
use Rattle.diagram.specs.Tables.{Collected}
use Rattle.diagram.proofs.Reduces.{under_more}
use Rattle.diagram.proofs.Gathers.{collected}
use Rattle.diagram.proofs.table.Table.collect.Goals as goal

pub returns : goal.returns
returns c = (
  c.if-not-refer.ensures,
  subst (Collected c.args.self.now _ c.args.roots.now c.move_all.new.roots) (sym c.count.ensures)
      (collected c.args.self.now _ c.trim.new.self c.mark_all-marks.result c.spread.new.marks c.keep-to.result
      c.args.roots.now c.move_all.new.roots c.trim.ensures.nodes c.trim.ensures.level c.trim.ensures.cap
      c.keep-to.ensures.level c.keep-to.ensures.cap
      (λ j l. under_more c.args.self.now.end.at c.trim.new.self.linked (get_or c.args.roots.now j (Code 0)) (omega (arith, c.trim.ensures.level)) (c.if-not-refer.ensures j l))
      c.mark_all-marks.ensures c.spread.ensures.more c.spread.ensures.reached c.keep-to.ensures.copied c.keep-to.ensures.only
      c.move_all.ensures),
)
