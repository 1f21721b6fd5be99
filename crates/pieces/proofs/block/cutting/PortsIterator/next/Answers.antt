-- The block from the first port on comes. Assumes nothing.
use Rattle.std.proofs.Common.{◌∙◌, arith}
use Rattle.std.proofs.lemmas.Grind.{common_steps}
use Rattle.pieces.proofs.Cuts.{between_none, between_more}
use Rattle.pieces.proofs.Yielding.{block_facts}
use Rattle.pieces.proofs.block.cutting.PortsIterator.next.Goals as goal

pub returns-then-self-clause-steps : goal.returns-then-self-clause-steps
returns-then-self-clause-steps c = let none = between_none _ _ c.if-self.true in (none, none)

pub invariant_of-block : goal.invariant_of-block
invariant_of-block c =
    let f = block_facts _ _ _ c.if-self.false c.args.self.now.inside c.largest_exponent.ensures in
    record { small = f.0; multiple = f.1; inside = f.2 }

pub returns-clause-steps : goal.returns-clause-steps
returns-clause-steps c =
    let s = c.args.self.now in
    between_more s.at s.end c.if-self.false ∙ rw (c.size.ensures, c.largest_exponent.ensures)

pub returns-clause-goes : goal.returns-clause-goes
returns-clause-goes c = grind (arith, common_steps, returns-clause-steps c)
