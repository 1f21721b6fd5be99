-- The pieces of a line, and which headers are in one. Assumes nothing.
use Rattle.std.specs.Prelude.{◌≡◌, ℕ, ◌+◌, Bool, true, ◌&&◌, List, [], ◌∷◌, ◌++◌, map}
use Rattle.acl.specs.Bits.{alike}
use Rattle.acl.specs.Terms.{protocol_fits}
use Rattle.acl.specs.Shapes.{Shape}
use Rattle.acl.specs.Fits.{line_fits}
use Rattle.acl.specs.Headers.{wide, worth}
use Rattle.acl.specs.declared.header.Header.{Header}
use Rattle.pieces.specs.Blocks.{BlockShape, in_block, blocks}

-- A piece: a line with one block of its source ports and one of its destination ports.
pub record PieceShape : Type 0 where
  pub line : Shape
  pub from : BlockShape
  pub to : BlockShape

-- what a line asks of a header besides its ports
abbrev pub fits_but_ports : Shape → Header → Bool
fits_but_ports l h =
    protocol_fits l.protocol h.protocol
    && (alike 32 l.source.wildcard h.source l.source.address
    && alike 32 l.destination.wildcard h.destination l.destination.address)

-- the header is in the piece
abbrev pub in_piece : PieceShape → Header → Bool
in_piece p h = fits_but_ports p.line h && (in_block p.from h.source_port && in_block p.to h.destination_port)

-- the piece of a line for two blocks
abbrev pub piece_of : Shape → BlockShape → BlockShape → PieceShape
piece_of l f t = record { line = l; from = f; to = t }

-- each source block upwards, and for each the destination blocks upwards
abbrev pub crossed : Shape → List BlockShape → List BlockShape → List PieceShape
crossed l [] ts = []
crossed l (f ∷ fs) ts = map (piece_of l f) ts ++ crossed l fs ts

-- the pieces of a line
unfoldable pub pieces : Shape → List PieceShape
pieces l = crossed l (blocks l.source.ports) (blocks l.destination.ports)

-- how many of the pieces have the header
abbrev pub held_by : List PieceShape → Header → ℕ
held_by [] h = 0
held_by (p ∷ ps) h = worth (in_piece p h) + held_by ps h

-- What the pieces of a line are: a header that the line fits is in one of them, and any other in none.
abbrev pub PiecesStand : Shape → Type 0
PiecesStand l = (h : Header) → wide h ≡ true → held_by (pieces l) h ≡ worth (line_fits l h)
