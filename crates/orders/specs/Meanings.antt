-- What an order of a header's bits means, and which header is before another. Assumes nothing.
use Rattle.acl.specs.declared.header.Header.{Header}
use Rattle.acl.specs.Headers.{header_bit, header_of, width}
use Rattle.model.specs.Rows.{Bits, First}
pub use Rattle.orders.specs.Laws.{OrderMeaning, LawfulOrder}
use Rattle.orders.specs.declared.order.Order as order

-- the meaning of an order of the code
abbrev pub order_of : {O : Type 0} → order.Ghosts O → O → OrderMeaning
order_of g o = record { bit_at = g.bits o; place_of = g.places o }

-- a row of bits as the order tests them, and back
abbrev pub by_place : OrderMeaning → Bits → Bits
by_place o u p = u (o.bit_at p)

abbrev pub by_number : OrderMeaning → Bits → Bits
by_number o v b = v (o.place_of b)

-- the header with these bits, by place
abbrev pub header_at : OrderMeaning → Bits → Header
header_at o v = header_of (by_number o v)

-- one header is before another if it has 0 at the first place where they differ
abbrev pub Before : OrderMeaning → Header → Header → Type 0
Before o g h = First width (by_place o (header_bit g)) (by_place o (header_bit h))
