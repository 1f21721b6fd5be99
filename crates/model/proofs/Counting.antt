-- Counting: a count is one number, and tells at most n from more than n. Assumes nothing.
use mathlib.Core.Path.{◌≡◌, refl, sym, ap, ◌∙◌, subst}
use mathlib.Core.Logic.{inl, inr, ◌≢◌, ◌↔◌}
use mathlib.Core.List.{List, [], ◌∷◌}
use Prim.Native.Nat.{ℕ, suc, ◌≤◌, ◌<◌, zero-le}
use native.Mathlib.Decide.{dec_le, dec_lt}
use native.Mathlib.Omega.{arith}
use lib.ListN.{length}
use Rattle.model.specs.Sets.{◌∈◌, Distinct, CountIs, AtMost, MoreThan}
use Rattle.model.specs.Parts.{Part}
use Rattle.model.specs.Stands.{Counting}

module _ {A : Type 0} where
  -- the list with one standing of x left out
  left_out : (x : A) (ys : List A) → x ∈ ys → List A
  left_out x [] h = absurd h
  left_out x (y ∷ ys) (inl e) = ys
  left_out x (y ∷ ys) (inr h) = y ∷ left_out x ys h

  -- it is shorter by one
  left_out_length : (x : A) (ys : List A) (h : x ∈ ys) → length ys ≡ suc (length (left_out x ys h))
  unfolding left_out
  left_out_length x [] h = absurd h
  left_out_length x (y ∷ ys) (inl e) = refl
  left_out_length x (y ∷ ys) (inr h) = ap suc (left_out_length x ys h)

  -- and keeps all else
  left_out_keeps : (x : A) (ys : List A) (h : x ∈ ys) (z : A) → z ≢ x → z ∈ ys → z ∈ left_out x ys h
  unfolding left_out
  left_out_keeps x [] h z n m = absurd h
  left_out_keeps x (y ∷ ys) (inl e) z n (inl d) = absurd (n (d ∙ sym e))
  left_out_keeps x (y ∷ ys) (inl e) z n (inr m) = m
  left_out_keeps x (y ∷ ys) (inr h) z n (inl d) = inl d
  left_out_keeps x (y ∷ ys) (inr h) z n (inr m) = inr (left_out_keeps x ys h z n m)

  -- a list of different things, all of which stand in another, is no longer than it
  pub no_longer : (xs ys : List A) → Distinct xs → ((x : A) → x ∈ xs → x ∈ ys) → length xs ≤ length ys
  no_longer [] ys d sub = zero-le
  no_longer (x ∷ xs) ys d sub =
      let h : x ∈ ys = sub x (inl refl) in
      let shorter : length xs ≤ length (left_out x ys h) =
      no_longer xs (left_out x ys h) d.1
      (λ z m. left_out_keeps x ys h z (λ e. d.0 (subst (λ v. v ∈ xs) e m)) (sub z (inr m))) in
      omega (arith, left_out_length x ys h)

  -- a family with more than n members does not have at most n
  pub pigeonhole : {S : A → Type 0} {n : ℕ} → MoreThan n S → AtMost n S → ⊥
  pigeonhole m a = omega (arith, no_longer m.members a.members m.distinct (λ x h. a.all x (m.only x h)))

  -- a count is one number
  pub count_unique : {S : A → Type 0} {m n : ℕ} → CountIs S m → CountIs S n → m ≡ n
  count_unique c d =
      let there = no_longer c.members d.members c.distinct (λ x h. (d.exact x).0 ((c.exact x).1 h)) in
      let back = no_longer d.members c.members d.distinct (λ x h. (c.exact x).0 ((d.exact x).1 h)) in
      omega (arith, c.number, d.number)

  -- a family has at most n members if its count is at most n
  pub count_few : {S : A → Type 0} {m n : ℕ} → CountIs S m → m ≤ n → AtMost n S
  count_few c h = record { members = c.members; all = λ x. (c.exact x).0; few = omega (arith, c.number) }

  -- it has more than n members if its count is more than n
  pub count_many : {S : A → Type 0} {m n : ℕ} → CountIs S m → n < m → MoreThan n S
  count_many c h = record { members = c.members; distinct = c.distinct; only = λ x. (c.exact x).1; many = omega (arith, c.number) }

  -- at most n members, exactly if the count is at most n
  pub few_by_count : {S : A → Type 0} (c n : ℕ) → CountIs S c → AtMost n S ↔ (c ≤ n)
  few_by_count {S} c n k = (λ a. go a (dec_le c n), count_few k)
    where
      go : AtMost n S → Dec (c ≤ n) → c ≤ n
      go a (yes h) = h
      go a (no h) = absurd (pigeonhole (count_many k (omega arith)) a)

  -- more than n members, exactly if the count is more than n
  pub many_by_count : {S : A → Type 0} (c n : ℕ) → CountIs S c → MoreThan n S ↔ (n < c)
  many_by_count {S} c n k = (λ m. go m (dec_lt n c), count_many k)
    where
      go : MoreThan n S → Dec (n < c) → n < c
      go m (yes h) = h
      go m (no h) = absurd (pigeonhole m (count_few k (omega arith)))

  -- a family with the same members has the same count
  pub count_moves : {S R : A → Type 0} {n : ℕ} → ((x : A) → R x ↔ S x) → CountIs S n → CountIs R n
  count_moves e c = record {
    members = c.members;
    distinct = c.distinct;
    exact = λ x. (λ h. (c.exact x).0 ((e x).0 h), λ h. (e x).1 ((c.exact x).1 h));
    number = c.number;
  }

-- all this of families of parts
pub counting : (S : Part → Type 0) → Counting S
counting S = record {
  not_both = λ n m a. pigeonhole m a;
  one_count = λ c d. count_unique;
  few = few_by_count;
  many = many_by_count;
}
