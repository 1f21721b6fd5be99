-- Where the destination has no block, no source block has a piece. Assumes nothing.
use Rattle.std.proofs.Common.{sym, ◌∙◌}
use Rattle.pieces.proofs.Yielding.{no_pieces}
use Rattle.pieces.proofs.piece.parting.PiecesIterator.next.Goals as goal

pub returns-in_err-to-in-None-clause-steps : goal.returns-in_err-to-in-None-clause-steps
returns-in_err-to-in-None-clause-steps c =
    let none = sym c.of-self.ensures.left ∙ c.in_err-to-in-None.ensures.steps.0 in
    rw c.from_residual-in_err-to-in-None.ensures (no_pieces _ _ _ _ _ c.in-None.ensures.steps.0 none, no_pieces _ _ _ _ _ c.in_err-to-in-None.ensures.steps.1 none)
