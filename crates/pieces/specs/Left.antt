-- Blocks and pieces of the code, and those that are still to come. Assumes nothing.
use Rattle.std.specs.Prelude.{List, ◌++◌, map}
use Rattle.acl.specs.Shapes.{shape}
use Rattle.pieces.specs.declared.block.Block.{Block}
use Rattle.pieces.specs.declared.block.Ports.{Ports}
use Rattle.pieces.specs.declared.block.Blocks.{Blocks}
use Rattle.pieces.specs.declared.piece.Piece.{Piece}
use Rattle.pieces.specs.declared.piece.Pieces.{Pieces}
use Rattle.pieces.specs.Blocks.{BlockShape, between, blocks}
use Rattle.pieces.specs.Pieces.{PieceShape, piece_of, crossed}

-- the contents of a block
abbrev pub block_shape : Block → BlockShape
block_shape b = record { start = b.start; exponent = b.exponent }

-- the contents of a piece
abbrev pub piece_shape : Piece → PieceShape
piece_shape p = record { line = shape p.line; from = block_shape p.from; to = block_shape p.to }

-- the blocks to come of a range of ports
abbrev pub ports_left : Ports → List BlockShape
ports_left s = between s.at s.end

-- the blocks to come of a port test: those of the first range, and then of the second
abbrev pub blocks_left : Blocks → List BlockShape
blocks_left s = ports_left s.first ++ ports_left s.second

-- the pieces to come: those of the current source block, and then of the source blocks to come
abbrev pub pieces_left : Pieces → List PieceShape
pieces_left s =
    map (piece_of (shape s.line) (block_shape s.from)) (blocks_left s.destinations)
    ++ crossed (shape s.line) (blocks_left s.sources) (blocks s.line.destination.ports)
