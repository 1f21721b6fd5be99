-- What the pieces of a line are. Assumes nothing.
use Rattle.acl.specs.Shapes.{shape}
use Rattle.pieces.proofs.Covers.{pieces_stand}
use Rattle.pieces.proofs.piece.Pieces.of.Goals as goal

pub returns-clause-stands : goal.returns-clause-stands
returns-clause-stands c = pieces_stand (shape c.args.line)
