-- When a shelf can be made. Assumes nothing.
use Rattle.std.specs.Prelude.{ℕ, cond, Ok, Err, Result, nat_le}
use Rattle.acl.specs.declared.refusal.Refusal.{Refusal}
use Rattle.acl.specs.declared.refusal.Refusal.TheVariants.{TooManyNodes}

-- a shelf has at most 2,048 nodes
abbrev pub nodes_checked : ℕ → Result (Unit {0}) Refusal
nodes_checked n = cond (nat_le n 2048) (Ok tt) (Err TooManyNodes)
