-- A piece, turned into what it asks of each bit of a header, and so of each place. Assumes nothing.
use Rattle.std.specs.Prelude.{◌≡◌, ℕ, ◌-◌, ◌<◌, Bool, true, false, List, get_or, slice_index_or, Some, None}
use Rattle.acl.specs.declared.terms.Protocol.{Protocol}
use Rattle.acl.specs.declared.terms.Protocol.TheVariants.{Any, Number}
use Rattle.acl.specs.declared.header.Header.{Header}
use Rattle.acl.specs.Headers.{header_bit, wide, width}
use Rattle.model.specs.Rows.{Bits}
use Rattle.model.specs.Laying.{Ask, in_from}
use Rattle.orders.specs.Meanings.{OrderMeaning, by_place, header_at}
use Rattle.pieces.specs.Blocks.{size_of}
use Rattle.pieces.specs.Pieces.{PieceShape, in_piece}

-- the protocol that is wanted, and its ignored bits
abbrev pub wanted_protocol : Protocol → ℕ
wanted_protocol Any = 0
wanted_protocol (Number n) = n

abbrev pub ignored_protocol : Protocol → ℕ
ignored_protocol Any = 255
ignored_protocol (Number n) = 0

-- the bits that a piece wants, as a header
abbrev pub wanted_of : PieceShape → Header
wanted_of p = record {
  source = p.line.source.address;
  destination = p.line.destination.address;
  protocol = wanted_protocol p.line.protocol;
  source_port = p.from.start;
  destination_port = p.to.start;
}

-- and those that it ignores: a block of 2 ^ e ports ignores the last e bits
abbrev pub ignored_of : PieceShape → Header
ignored_of p = record {
  source = p.line.source.wildcard;
  destination = p.line.destination.wildcard;
  protocol = ignored_protocol p.line.protocol;
  source_port = size_of p.from - 1;
  destination_port = size_of p.to - 1;
}

-- what is asked of a bit that is ignored or not, and wanted to be this one
abbrev pub ask_for : Bool → Bool → Ask
ask_for true b = None
ask_for false b = Some b

-- what a piece asks of bit b of a header
abbrev pub ask_of : PieceShape → ℕ → Ask
ask_of p b = ask_for (header_bit (ignored_of p) b) (header_bit (wanted_of p) b)

-- A piece turned to places by an order: at each place stands what it asks of the bit there, and a header is in the
-- piece exactly when its bits by place are as they are asked for.
pub record Turned (o : OrderMeaning) (p : PieceShape) (asks : List Ask) : Type 0 where
  pub each : (q : ℕ) → q < width → slice_index_or asks q None ≡ ask_of p (o.bit_at q)
  pub headers : (h : Header) → wide h ≡ true → in_piece p h ≡ in_from (λ q. get_or asks q None) width 0 (by_place o (header_bit h))
  pub rows : (v : Bits) → in_piece p (header_at o v) ≡ in_from (λ q. get_or asks q None) width 0 v
