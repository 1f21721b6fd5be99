-- What the blocks of a test are, and that those of neq are no more than ports. Assumes nothing.
use Rattle.std.proofs.Common.{◌+◌, length, ap, arith, length-append}
use Rattle.pieces.proofs.Covers.{blocks_stand}
use Rattle.pieces.proofs.Cuts.{length_between}
use Rattle.pieces.proofs.block.Blocks.of.Goals as goal

pub returns-in-Neq-clause-few : goal.returns-in-Neq-clause-few
returns-in-Neq-clause-few c =
    let n = c.in-Neq.n in
    simp length-append (omega (arith, ap length c.new.ensures, ap length c.new-in-Neq.ensures, length_between 0 n, length_between (n + 1) 65536))

pub returns-in-Any-clause-stands : goal.returns-in-Any-clause-stands
returns-in-Any-clause-stands c = blocks_stand c.args.test

pub returns-in-Eq-clause-stands : goal.returns-in-Eq-clause-stands
returns-in-Eq-clause-stands c = blocks_stand c.args.test

pub returns-in-Neq-clause-stands : goal.returns-in-Neq-clause-stands
returns-in-Neq-clause-stands c = blocks_stand c.args.test

pub returns-in-Lt-clause-stands : goal.returns-in-Lt-clause-stands
returns-in-Lt-clause-stands c = blocks_stand c.args.test

pub returns-in-Gt-clause-stands : goal.returns-in-Gt-clause-stands
returns-in-Gt-clause-stands c = blocks_stand c.args.test

pub returns-in-Range-clause-stands : goal.returns-in-Range-clause-stands
returns-in-Range-clause-stands c = blocks_stand c.args.test
