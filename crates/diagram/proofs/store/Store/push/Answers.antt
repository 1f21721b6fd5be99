-- The index with one node more. Assumes nothing.
use Rattle.std.proofs.Common.{arith}
use Rattle.diagram.proofs.Chains.{push_sound}
use Rattle.diagram.proofs.store.Store.push.Goals as goal

pub invariant_of-self-clause-sound : goal.invariant_of-self-clause-sound
invariant_of-self-clause-sound c =
    let s = c.args.self.now in
    push_sound s.nodes s.head s.next s.linked c.args.b c.args.n c.to.result s.sound (omega (arith, s.capped))
    (omega arith) (omega arith) (omega arith) c.requires.here c.requires.small c.requires.good c.requires.fresh c.to.ensures
