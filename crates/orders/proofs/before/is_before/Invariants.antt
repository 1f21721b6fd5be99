-- At each turn the two headers agree at all places so far. Assumes nothing.
use Rattle.acl.specs.Headers.{header_bit}
use Rattle.model.specs.Rows.{AgreeBelow}
use Rattle.orders.specs.Meanings.{order_of, by_place}
use Rattle.orders.proofs.before.is_before.Given as goal

abbrev pub invariant-loop-place : goal.invariant-loop-place
invariant-loop-place g l =
    AgreeBelow l.place (by_place (order_of g.O.Order l.order) (header_bit l.one)) (by_place (order_of g.O.Order l.order) (header_bit l.other))
