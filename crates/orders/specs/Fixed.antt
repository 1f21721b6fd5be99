-- The orders that are given by formula. Assumes nothing.
use Rattle.std.specs.Prelude.{ℕ, ◌+◌, ◌-◌, ◌*◌, ◌/◌, ◌%◌, cond, ◌==◌, nat_lt}
use Rattle.acl.specs.Headers.{width}

-- plain: bit p at place p
abbrev pub straight : ℕ → ℕ
straight p = cond (nat_lt p width) p width

-- woven: source bit k at place 2k, destination bit 32 + k at place 2k + 1, for k from 0 to 31; bit p at place p from 64 on
abbrev pub woven_place : ℕ → ℕ
woven_place b = cond (nat_lt b 32) (2 * b) (cond (nat_lt b 64) (2 * (b - 32) + 1) (straight b))

-- so an even place below 64 tests the source, an odd one the destination
abbrev pub woven_bit : ℕ → ℕ
woven_bit p = cond (nat_lt p 64) (cond (p % 2 == 0) (p / 2) (32 + p / 2)) (straight p)
