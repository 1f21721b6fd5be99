-- The walk gives the largest number of tests. Assumes nothing.
use Rattle.std.proofs.Common.{ℕ, None, Option, sym, subst}
use Rattle.diagram.specs.Tables.{Deepest}
use Rattle.diagram.proofs.Fills.{get_or_filled}
use Rattle.diagram.proofs.Reduces.{under_more}
use Rattle.diagram.proofs.Walked.{depth_so}
use Rattle.diagram.proofs.table.Table.depth.Goals as goal

pub depth-requires-clause-noted : goal.depth-requires-clause-noted
depth-requires-clause-noted c = λ k m h. absurd (let e = get_or_filled {A = Option ℕ} 2048 k None in cc)

pub returns : goal.returns
returns c =
    let t = c.args.self.now in
    let d = depth_so t.store c.args.r (under_more t.end.at t.store.linked c.args.r t.kept c.in_ok-check.ensures) in (
      c.in_ok-check.ensures,
      subst (Deepest t c.args.r) (sym c.depth.ensures.value) (record { most = d.0; some = d.1.0; reached = d.1.1 }),
    )
