-- What a kind of verdict means, and its laws. This file names no kind of the code, since the trait's own file imports
-- it. Assumes nothing.
use Rattle.std.specs.Prelude.{◌≡◌, ℕ, ◌≤◌}
use Rattle.kinds.specs.declared.heard.Heard.{Heard}

-- a kind's meaning: the verdict of a line, the verdict at the end of a list, and a verdict's code
pub record KindMeaning (V : Type 0) : Type 0 where
  pub of_line : Heard → V
  pub at_end : V
  pub code : V → ℕ

-- its laws: a code is at most 4,095, and two verdicts are equal where their codes are
pub record LawfulKind {V : Type 0} (k : KindMeaning V) : Type 0 where
  pub small : (v : V) → k.code v ≤ 4095
  pub apart : (u v : V) → k.code u ≡ k.code v → u ≡ v
