-- The first place where two headers differ decides which is before. Assumes nothing.
use Rattle.std.proofs.Common.{rules, below_more}
use Rattle.acl.specs.Headers.{header_bit, width}
use Rattle.orders.specs.Meanings.{order_of, by_place}
use Rattle.orders.proofs.Befores.{differ_here}
use Rattle.orders.proofs.before.is_before.Goals as goal

-- the bits at this place are the same
pub loop-place-preserved : goal.loop-place-preserved
loop-place-preserved g c = below_more _ _ c.loop-place.invariant (search rules)

-- they differ, and decide
pub returns-then-here-bit : goal.returns-then-here-bit
returns-then-here-bit g c =
    let o = order_of g.O.Order c.args.order.now in
    differ_here width (by_place o (header_bit c.args.one)) (by_place o (header_bit c.args.other)) c.loop-place.place c.loop-place-test.true
    c.loop-place.invariant c.bit-here.result (search rules) (search rules)
