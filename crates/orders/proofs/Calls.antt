-- Arrays that `from_fn` makes by a closure that changes nothing. Assumes nothing.
use Rattle.std.proofs.Common.{◌≡◌, ℕ, zero, suc, ◌+◌, ◌<◌, ◌≤◌, List, get_or, ap, sym, ◌∙◌, subst, arith}
use native.Mathlib.Decide.{ℕ_discrete}
use denote.Param.Members.{Mut, Called}
use Rattle.std.specs.Array.{IsFromFnResult, IsFromFnResultFrom}

module _ {F B : Type 0} {g : Mut F (ℕ × Unit {0}) B} {f : F} (v : ℕ → B) (call : (i : ℕ) (y : B) (q : F) → Called g f (i, tt) y q → (y ≡ v i) × (q ≡ f)) (ys : List B) where
  filled_from : (n i : ℕ) → IsFromFnResultFrom g f ys i n → (k : ℕ) (d : B) → i ≤ k → k < i + n → get_or ys k d ≡ v k
  filled_from zero i e k d l h = absurd (omega arith)
  filled_from (suc n) i (q, y, at, gives, rest) k d l h = go (ℕ_discrete k i) (filled_from n (i + 1) (subst (λ (p : F). IsFromFnResultFrom g p ys (i + 1) n) s.1 rest) k d)
    where
      s : (y ≡ v i) × (q ≡ f)
      s = call i y q gives

      go : Dec (k ≡ i) → (i + 1 ≤ k → k < i + 1 + n → get_or ys k d ≡ v k) → get_or ys k d ≡ v k
      go (yes e) next = ap (λ (j : ℕ). get_or ys j d) e ∙ at.1 d ∙ s.0 ∙ ap v (sym e)
      go (no e) next = next (omega arith) (omega arith)

  -- at each index it holds what the closure gives there
  pub filled_by : {n : ℕ} → IsFromFnResult g f ys n → (k : ℕ) (d : B) → k < n → get_or ys k d ≡ v k
  filled_by {n} r k d h = filled_from n 0 r.each k d (omega arith) (omega arith)
