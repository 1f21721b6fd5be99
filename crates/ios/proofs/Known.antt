-- The list number that is known is one that lists have. Assumes nothing.
use Rattle.std.proofs.Common.{◌≡◌, ℕ, Some, None, Option}
use Rattle.ios.specs.declared.family.Family.{Family}
use Rattle.ios.specs.Parsing.{family_of}

-- the list number that is known is one that lists have
abbrev pub Known : Option ℕ → Type 0
Known None = Unit {0}
Known (Some n) = (f : Family) × (family_of n ≡ Some f)
