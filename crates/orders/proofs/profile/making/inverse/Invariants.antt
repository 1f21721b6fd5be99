-- At each turn the numbers so far are taken and have their places stored. Assumes nothing.
use Rattle.orders.proofs.Inverse.{Partial}
use Rattle.orders.proofs.profile.making.inverse.Given as goal

abbrev pub invariant-loop-place : goal.invariant-loop-place
invariant-loop-place l = Partial l.list l.taken l.places l.place
