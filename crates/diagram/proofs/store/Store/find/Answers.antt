-- Where a node is not the one, those before it in its bucket are left. Assumes nothing.
use Rattle.std.proofs.Common.{◌≡◌, Some, subst, rules}
use Rattle.diagram.specs.Nodes.{table_of}
use Rattle.diagram.proofs.Chains.{Left, left_next}
use Rattle.diagram.proofs.store.Store.find.Goals as goal

pub loop-at-preserved : goal.loop-at-preserved
loop-at-preserved c =
    let s = c.args.self.now in
    let w : Left s.nodes s.linked c.args.n (Some c.in-Some.i) = subst (Left s.nodes s.linked c.args.n) c.in-Some.is c.loop-at.invariant in
    let other : table_of s.nodes c.in-Some.i ≡ c.args.n → ⊥ = search rules in
    rw c.node-at-in-Some.ensures (left_next s.nodes s.linked c.args.n c.in-Some.i _ w other (s.sound.nexts c.in-Some.i w.within))
