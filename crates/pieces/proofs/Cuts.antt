-- A range of ports is cut from the low end into the largest blocks. Assumes nothing.
use Rattle.std.proofs.Common.{◌≡◌, ℕ, zero, suc, ◌+◌, ◌-◌, ◌%◌, ◌^◌, ◌<◌, ◌≤◌, Bool, true, false, cond, ◌&&◌, eqb, ltb, leb, ◌⊎◌, List, [], ◌∷◌, ◌++◌, length, sym, refl, ap, ◌∙◌, inl, inr, append-nil, arith, pow_pos, pow_mono}
use native.Mathlib.Nat.{mod-one}
use Rattle.std.proofs.lemmas.Bool.{ltb-true, ltb-false, leb-true, eqb-true, lt-ltb, le-ltb, le-leb, eq-eqb, cases_lt, and_parts, both_ways}
use Rattle.std.proofs.lemmas.Bool.Decides.{nat_tests}
use Rattle.acl.specs.Headers.{worth}
use Rattle.pieces.specs.Blocks.{BlockShape, goes, largest, block_from, cut, between, holding, RisingFrom, Largest, CutInto, done, more}

-- what a block that can start at a keeps: it starts at a multiple of its size, and stays below c
pub goes_facts : (e a c : ℕ) → goes e a c ≡ true → (a % 2 ^ e ≡ 0) × (a + 2 ^ e ≤ c)
goes_facts e a c h =
    let p = and_parts (eqb (a % 2 ^ e) 0) (leb (a + 2 ^ e) c) h in
    (eqb-true (a % 2 ^ e) 0 p.0, leb-true (a + 2 ^ e) c p.1)

-- and the other way
pub goes_when : (e a c : ℕ) → a % 2 ^ e ≡ 0 → a + 2 ^ e ≤ c → goes e a c ≡ true
goes_when e a c m l = rw (eq-eqb (a % 2 ^ e) 0 m, le-leb (a + 2 ^ e) c l)

-- the exponent is no more than the one tried first
pub largest_low : (e a c : ℕ) → largest e a c ≤ e
unfolding largest
largest_low zero a c = omega arith
largest_low (suc e) a c = go (goes (suc e) a c) (largest_low e a c)
  where
    go : (b : Bool) → largest e a c ≤ e → cond b (suc e) (largest e a c) ≤ suc e
    go true l = omega arith
    go false l = omega arith

-- the block starts at a multiple of its size
pub largest_multiple : (e a c : ℕ) → a % 2 ^ largest e a c ≡ 0
unfolding largest
largest_multiple zero a c = mod-one a
largest_multiple (suc e) a c = go (goes (suc e) a c) refl (largest_multiple e a c)
  where
    go : (b : Bool) → goes (suc e) a c ≡ b → a % 2 ^ largest e a c ≡ 0 → a % 2 ^ (cond b (suc e) (largest e a c)) ≡ 0
    go true x ih = (goes_facts (suc e) a c x).0
    go false x ih = ih

-- the block stays below c
pub largest_inside : (e a c : ℕ) → a < c → a + 2 ^ largest e a c ≤ c
unfolding largest
largest_inside zero a c h = omega arith
largest_inside (suc e) a c h = go (goes (suc e) a c) refl (largest_inside e a c h)
  where
    go : (b : Bool) → goes (suc e) a c ≡ b → a + 2 ^ largest e a c ≤ c → a + 2 ^ (cond b (suc e) (largest e a c)) ≤ c
    go true x ih = (goes_facts (suc e) a c x).1
    go false x ih = ih

-- no exponent up to e that can start at a is larger
pub largest_most : (e a c d : ℕ) → d ≤ e → goes d a c ≡ true → d ≤ largest e a c
unfolding largest
largest_most zero a c d l h = l
largest_most (suc e) a c d l h = go (goes (suc e) a c) refl (cases_lt d (suc e)) (λ s. largest_most e a c d s h)
  where
    go : (b : Bool) → goes (suc e) a c ≡ b → (d < suc e) ⊎ (suc e ≤ d) → (d ≤ e → d ≤ largest e a c) → d ≤ cond b (suc e) (largest e a c)
    go true x s ih = l
    go false x (inl s) ih = ih (omega arith)
    go false x (inr s) ih =
        let same : d ≡ suc e = omega arith in
        absurd (both_ways (goes (suc e) a c) x (ap (λ k. goes k a c) (sym same) ∙ h))

-- a block below 65536 has an exponent of at most 16
pub exponent_low : (d n : ℕ) → n + 2 ^ d ≤ 65536 → d ≤ 16
exponent_low d n h = go (cases_lt 16 d)
  where
    go : (16 < d) ⊎ (d ≤ 16) → d ≤ 16
    go (inl l) = let p : 2 ^ 17 ≤ 2 ^ d = pow_mono l in absurd (omega arith)
    go (inr l) = l

-- up to 65536 the exponent found is the largest of all
pub is_largest : (a c : ℕ) → a < c → c ≤ 65536 → Largest a c (largest 16 a c)
is_largest a c l h = record {
  can = goes_when (largest 16 a c) a c (largest_multiple 16 a c) (largest_inside 16 a c l);
  most = λ d g. largest_most 16 a c d (exponent_low d a (omega (arith, (goes_facts d a c g).1))) g;
}

-- an empty range has no blocks
pub cut_none : (n a c : ℕ) → c ≤ a → cut n a c ≡ []
unfolding cut
cut_none zero a c h = refl
cut_none (suc n) a c h = rw (le-ltb a c h)

-- how many blocks may come does not matter, if there are enough
pub cut_enough : (n m a c : ℕ) → c ≤ a + n → c ≤ a + m → cut n a c ≡ cut m a c
unfolding cut
cut_enough zero m a c h k = sym (cut_none m a c (omega arith))
cut_enough (suc n) zero a c h k = cut_none (suc n) a c (omega arith)
cut_enough (suc n) (suc m) a c h k =
    let p = pow_pos (largest 16 a c) in
    ap (λ bs. cond (ltb a c) (block_from a c ∷ bs) []) (cut_enough n m (a + 2 ^ largest 16 a c) c (omega arith) (omega arith))

-- the range from a on below c is empty where c is not above a
pub between_none : (a c : ℕ) → c ≤ a → between a c ≡ []
unfolding between
between_none a c h = cut_none (c - a) a c h

-- and otherwise begins with the largest block, after which the rest is cut
pub between_more : (a c : ℕ) → a < c → between a c ≡ block_from a c ∷ between (a + 2 ^ largest 16 a c) c
unfolding between cut
between_more a c h =
    let p = pow_pos (largest 16 a c) in
    cut_enough (c - a) (suc (c - a)) a c (omega arith) (omega arith)
    ∙ ap (λ b. cond b (block_from a c ∷ cut (c - a) (a + 2 ^ largest 16 a c) c) []) (lt-ltb a c h)
    ∙ ap (λ bs. block_from a c ∷ bs) (cut_enough (c - a) (c - (a + 2 ^ largest 16 a c)) (a + 2 ^ largest 16 a c) c (omega arith) (omega arith))

-- an induction over the ranges that end at c: what holds of no blocks, and of one more before the rest, holds of all
module _ (c : ℕ) (P : ℕ → List BlockShape → Type 0) (none : (a : ℕ) → c ≤ a → P a [])
    (next : (a : ℕ) → a < c → a + 2 ^ largest 16 a c ≤ c → (bs : List BlockShape) → P (a + 2 ^ largest 16 a c) bs → P a (block_from a c ∷ bs)) where
  -- with any number of blocks that is enough
  by_cut : (n a : ℕ) → c ≤ a + n → P a (cut n a c)
  unfolding cut
  by_cut zero a h = none a (omega arith)
  by_cut (suc n) a h = go (ltb a c) refl (by_cut n (a + 2 ^ largest 16 a c) (omega (arith, pow_pos (largest 16 a c))))
    where
      go : (b : Bool) → ltb a c ≡ b → P (a + 2 ^ largest 16 a c) (cut n (a + 2 ^ largest 16 a c) c) → P a (cond b (block_from a c ∷ cut n (a + 2 ^ largest 16 a c) c) [])
      go true x ih = let l = ltb-true a c x in next a l (largest_inside 16 a c l) (cut n (a + 2 ^ largest 16 a c) c) ih
      go false x ih = none a (ltb-false a c x)

  -- and with that of the ports
  pub by_blocks : (a : ℕ) → P a (between a c)
  unfolding between
  by_blocks a = by_cut (c - a) a (omega arith)

-- a range has no more blocks than ports
pub length_between : (a c : ℕ) → length (between a c) ≤ c - a
length_between a c = by_blocks c (λ k bs. length bs ≤ c - k) (λ k l. omega arith) (λ k l m bs r. omega (arith, pow_pos (largest 16 k c))) a

-- each block is the largest
pub cut_into : (a c : ℕ) → c ≤ 65536 → CutInto a c (between a c)
cut_into a c h = by_blocks c (λ k bs. CutInto k c bs) (λ k l. done l) (λ k l m bs r. more l (is_largest k c l h) r) a

-- the port is in the range from a on below c
abbrev pub in_range : ℕ → ℕ → ℕ → Bool
in_range a c n = leb a n && ltb n c

-- no port is in an empty range
range_empty : (a c n : ℕ) → c ≤ a → in_range a c n ≡ false
range_empty a c n h = grind (arith, nat_tests)

-- two ranges that meet make one
range_join : (a b c n : ℕ) → a ≤ b → b ≤ c → worth (in_range a b n) + worth (in_range b c n) ≡ worth (in_range a c n)
range_join a b c n h k = grind (arith, nat_tests)

-- each port of a range is in one of its blocks, and any other in none
pub holding_between : (a c n : ℕ) → holding (between a c) n ≡ worth (leb a n && ltb n c)
holding_between a c n =
    by_blocks c (λ k bs. holding bs n ≡ worth (in_range k c n))
    (λ k l. sym (ap worth (range_empty k c n l)))
    (λ k l m bs e. ap (λ t. worth (in_range k (k + 2 ^ largest 16 k c) n) + t) e ∙ range_join k (k + 2 ^ largest 16 k c) c n (omega arith) m)
    a

-- blocks that rise from k on rise from a lower number on
pub rising_low : (a k : ℕ) (bs : List BlockShape) → a ≤ k → RisingFrom k bs → RisingFrom a bs
rising_low a k [] h r = tt
rising_low a k (b ∷ bs) h r = (omega (arith, r.0), r.1)

-- the blocks of a range rise and end at c at most: blocks that rise from c or later on can follow
pub between_rising : (a c k : ℕ) (bs : List BlockShape) → a ≤ k → c ≤ k → RisingFrom k bs → RisingFrom a (between a c ++ bs)
between_rising a c k bs h l r =
    by_blocks c (λ j cs. j ≤ k → RisingFrom j (cs ++ bs))
    (λ j x y. rising_low j k bs y r)
    (λ j x y cs f z. (omega arith, f (omega arith)))
    a h

-- the blocks of a range rise
pub rising_between : (a c : ℕ) → RisingFrom a (between a c)
rising_between a c = rw append-nil at (between_rising a c (a + c) [] (omega arith) (omega arith) tt)
