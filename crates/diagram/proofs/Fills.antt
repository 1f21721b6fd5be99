-- A row filled with one thing reads as that thing everywhere. Assumes nothing.
use Rattle.std.proofs.Common.{◌≡◌, ℕ, ◌<◌, ◌≤◌, get_or, replicate, All, None, ap, arith}
use Rattle.std.proofs.lemmas.List.Elements.{All-replicate}
use native.Mathlib.Decide.{dec_lt}
use lib.ListN.{length-replicate, get_or-replicate, get_or-eq_default}
use Rattle.diagram.specs.declared.store.Made.{Made}
use Rattle.diagram.specs.Stores.{unmade, made_in}

-- also past its end, where it is what is read there
pub get_or_filled : {A : Type 0} (n k : ℕ) (a : A) → get_or (replicate n a) k a ≡ a
get_or_filled {A = A} n k a = go (dec_lt k n)
  where
    go : Dec (k < n) → get_or (replicate n a) k a ≡ a
    go (yes l) = get_or-replicate n k a a l
    go (no l) = get_or-eq_default (replicate n a) a {n = k} (omega (arith, length-replicate n a))

-- a row of nodes over which nothing was made has no round later than any,
pub unmade_early : (n r : ℕ) → All (λ (m : Made). m.round ≤ r) (replicate n unmade)
unmade_early n r = All-replicate (λ (m : Made). m.round ≤ r) n unmade (omega arith)

-- and nothing of round 1
pub unmade_untold : (n k : ℕ) → made_in 1 (get_or (replicate n unmade) k unmade) ≡ None
unmade_untold n k = ap (made_in 1) (get_or_filled n k unmade)
