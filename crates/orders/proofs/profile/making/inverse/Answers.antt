-- A list is turned round number by number, and refused at one that stands twice. Assumes nothing.
use Rattle.std.proofs.Common.{rules, arith}
use Rattle.acl.specs.Headers.{width}
use Rattle.orders.proofs.Inverse.{Partial, none_yet, one_more, whole}
use Rattle.orders.proofs.profile.making.inverse.Goals as goal

pub loop-place-init : goal.loop-place-init
loop-place-init c = none_yet c.args.list.now

pub loop-place-preserved : goal.loop-place-preserved
loop-place-preserved c = one_more c.args.list.now c.loop-place.taken c.loop-place.places c.loop-place.place c.from-bit.result c.loop-place.invariant (search rules) (search rules) (search rules)

pub returns : goal.returns
returns c =
    let t : Partial c.args.list.now c.loop-place.taken c.loop-place.places width = search rules in
    (whole c.args.list.now c.loop-place.taken c.loop-place.places (omega arith) t, t.back)
