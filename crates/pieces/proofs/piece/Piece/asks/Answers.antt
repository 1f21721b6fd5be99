-- The asks of a piece by place. Assumes nothing.
use Rattle.std.proofs.Common.{None, rules}
use Rattle.orders.specs.Meanings.{order_of}
use Rattle.orders.proofs.Calls.{filled_by}
use Rattle.pieces.specs.Asks.{ask_of}
use Rattle.pieces.specs.Left.{piece_shape}
use Rattle.pieces.proofs.Turning.{turned}
use Rattle.pieces.proofs.piece.Piece.asks.Goals as goal

pub returns : goal.returns
returns g c =
    let o = c.args.order.now in
    let p = c.args.self in
    turned (order_of g.O.Order o) (g.met.O.Order.laws o)
    (piece_shape p)
    (record {
      narrow = p.line.protocol_width;
      from = record { small = p.from.small; multiple = p.from.multiple; inside = p.from.inside };
      to = record { small = p.to.small; multiple = p.to.multiple; inside = p.to.inside };
    })
    c.from_fn.result
    (λ q l. filled_by (λ k. ask_of (piece_shape p) (g.O.Order.bits o k)) (λ x y f d. search rules) c.from_fn.result c.from_fn.ensures.items q None l)
