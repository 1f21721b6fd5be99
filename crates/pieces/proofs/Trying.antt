-- One try for a block's exponent after another, from the largest down. Assumes nothing.
use Rattle.std.proofs.Common.{◌≡◌, ℕ, zero, suc, ◌+◌, ◌-◌, ◌<◌, ◌≤◌, Bool, true, false, cond, ◌⊎◌, Option, Some, None, IfSome, MatchOption, refl, ap, sym, subst, ◌∙◌, inl, inr, arith}
use Rattle.std.proofs.lemmas.Bool.{cases_lt}
use Rattle.std.specs.Option.{option_map, unwrap_or}
use Rattle.pieces.specs.Blocks.{goes, largest}

-- exponents at which no block can start are passed over
passed : (n e a c : ℕ) → e ≤ n → ((k : ℕ) → e < k → k ≤ n → goes k a c ≡ false) → largest n a c ≡ largest e a c
unfolding largest
passed zero e a c l none = let z : 0 ≡ e = omega arith in ap (λ k. largest k a c) z
passed (suc n) e a c l none = go (cases_lt e (suc n)) (λ s. passed n e a c s (λ k f t. none k f (omega arith)))
  where
    go : (e < suc n) ⊎ (suc n ≤ e) → (e ≤ n → largest n a c ≡ largest e a c) → largest (suc n) a c ≡ largest e a c
    go (inl s) below = ap (λ b. cond b (suc n) (largest n a c)) (none (suc n) s (omega arith)) ∙ below (omega arith)
    go (inr s) below = let same : suc n ≡ e = omega arith in ap (λ k. largest k a c) same

-- one at which a block can start is the largest
found : (e a c : ℕ) → goes e a c ≡ true → largest e a c ≡ e
unfolding largest
found zero a c g = refl
found (suc e) a c g = ap (λ b. cond b (suc e) (largest e a c)) g

-- a run of tries from n down, by the number that is tried at each place
module _ (n a c : ℕ) (at : ℕ → Option ℕ) (len : ℕ) (down : (k : ℕ) → k < len → option_map (λ y. y) (at k) ≡ Some (n - k)) where
  number : (k : ℕ) → k < len → at k ≡ Some (n - k)
  number k l = same (at k) (down k l)
    where
      same : (o : Option ℕ) → option_map (λ y. y) o ≡ Some (n - k) → o ≡ Some (n - k)
      same None e = e
      same (Some x) e = e

  -- the numbers tried before place i are those above n - i
  above : (i : ℕ) → i ≤ len → i ≤ n → ((k : ℕ) → k < i → IfSome (at k) (λ x. goes x a c ≡ false)) → (k : ℕ) → n - i < k → k ≤ n → goes k a c ≡ false
  above i l m miss k f t =
      let at_k : n - (n - k) ≡ k = omega arith in
      let fails : goes (n - (n - k)) a c ≡ false = subst (λ o. IfSome o (λ x. goes x a c ≡ false)) (number (n - k) (omega arith)) (miss (n - k) (omega arith)) in
      ap (λ x. goes x a c) (sym at_k) ∙ fails

  -- the first at which a block can start is the largest exponent; where there is none down to 1, that is 0
  pub first_found : (r : Option ℕ) (whole : Bool) → len ≤ n → (whole ≡ true → len ≡ n)
      → MatchOption r ((whole ≡ true) × ((k : ℕ) → IfSome (at k) (λ x. goes x a c ≡ false)))
      (λ e. (i : ℕ) × (len ≡ i + 1) × (at i ≡ Some e) × (goes e a c ≡ true) × ((k : ℕ) → k < i → IfSome (at k) (λ x. goes x a c ≡ false)))
      → unwrap_or r 0 ≡ largest n a c
  unfolding largest
  first_found None whole few all h = sym (passed n 0 a c (omega arith) (λ k f t. above n (omega (arith, all h.0)) (omega arith) (λ j l. h.1 j) k (omega arith) t))
  first_found (Some e) whole few all h =
      let is : Some e ≡ Some (n - h.0) = sym h.2 ∙ number h.0 (omega arith) in
      let same : e ≡ n - h.0 = cc in
      sym (passed n e a c (omega arith) (λ k f t. above h.0 (omega arith) (omega arith) h.4 k (omega arith) t) ∙ found e a c h.3)
