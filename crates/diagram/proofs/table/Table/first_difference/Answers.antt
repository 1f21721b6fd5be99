-- Different references differ first at the bits that are written. Assumes nothing.
use Rattle.std.proofs.Common.{◌≡◌, rules}
use Rattle.diagram.proofs.Reduces.{under_more}
use Rattle.diagram.proofs.Told.{told_apart_at, told_least}
use Rattle.diagram.proofs.table.Table.first_difference.Goals as goal

pub returns : goal.returns
returns c =
    let t = c.args.self.now in
    let ka = under_more t.end.at t.store.linked c.args.a t.kept c.in_ok-check.ensures in
    let kb = under_more t.end.at t.store.linked c.args.b t.kept c.in_ok-check-2.ensures in
    let n : c.args.a ≡ c.args.b → ⊥ = search rules in (
      c.in_ok-check.ensures,
      c.in_ok-check-2.ensures,
      (
        n,
        told_apart_at t.store c.args.a c.args.b ka kb c.differ.new.bits c.differ.ensures.row n,
        told_least t.store c.args.a c.args.b ka kb c.differ.new.bits c.differ.ensures.row,
      ),
    )
