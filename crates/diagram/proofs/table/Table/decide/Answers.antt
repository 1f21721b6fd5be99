-- The walk gives the value, and its tests. Assumes nothing.
use Rattle.std.proofs.Common.{sym, ◌∙◌, subst, zero-add}
use Rattle.diagram.specs.Tables.{Tests}
use Rattle.diagram.specs.Walks.{row_of}
use Rattle.diagram.proofs.Reduces.{under_more}
use Rattle.diagram.proofs.Walked.{tests_so}
use Rattle.diagram.proofs.table.Table.decide.Goals as goal

pub returns : goal.returns
returns c =
    let t = c.args.self.now in
    let row = row_of c.args.bits.now in (
      c.in_ok-check.ensures,
      c.decide.ensures.code,
      subst (Tests t c.args.r row) (sym (c.decide.ensures.tests ∙ zero-add _))
          (tests_so t.store c.args.r (under_more t.end.at t.store.linked c.args.r t.kept c.in_ok-check.ensures) row),
    )
