-- A list turned round as far as a place. Assumes nothing.
use Rattle.std.proofs.Common.{◌≡◌, ℕ, ◌+◌, ◌<◌, ◌≢◌, Bool, true, false, List, length, get_or, set, replicate, sym, refl, ap, ◌∙◌, arith, length-set, get_or-set_other, get_or-set_same, below_more}
use mathlib.Core.Bool.{false≢true}
use Rattle.std.proofs.lemmas.List.{get_or-replicate}
use native.Mathlib.Decide.{ℕ_discrete}
use Rattle.acl.specs.Headers.{width}
use Rattle.std.proofs.lemmas.Bool.{lt-ltb}
use Rattle.orders.specs.Perms.{EachOnce, Undoes, read_at}
use Rattle.orders.proofs.Onto.{each_stands}

-- each of the first n numbers of a list is below 104 and taken, and its place is stored; no other number is taken
pub record Partial (xs : List ℕ) (taken : List Bool) (places : List ℕ) (n : ℕ) : Type 0 where
  pub wide : length taken ≡ width
  pub size : length places ≡ width
  pub below : (q : ℕ) → q < n → get_or xs q 0 < width
  pub held : (q : ℕ) → q < n → get_or taken (get_or xs q 0) false ≡ true
  pub back : (q : ℕ) → q < n → get_or places (get_or xs q 0) 0 ≡ q
  pub from : (b : ℕ) → b < width → get_or taken b false ≡ true → (p : ℕ) × ((p < n) × (get_or xs p 0 ≡ b))

pub none_yet : (xs : List ℕ) → Partial xs (replicate width false) (replicate width 0) 0
none_yet xs = record {
  wide = refl;
  size = refl;
  below = λ q h. absurd (omega arith);
  held = λ q h. absurd (omega arith);
  back = λ q h. absurd (omega arith);
  from = λ b h e. absurd (false≢true (sym (get_or-replicate width b false false h) ∙ e));
}

-- one more number that is not taken
pub one_more : (xs : List ℕ) (taken : List Bool) (places : List ℕ) (n b : ℕ) → Partial xs taken places n → get_or xs n 0 ≡ b → b < width → get_or taken b false ≡ false
    → Partial xs (set taken b true) (set places b n) (n + 1)
one_more xs taken places n b t e l free = record {
  wide = length-set taken b true ∙ t.wide;
  size = length-set places b n ∙ t.size;
  below = below_more _ n t.below (rw e l);
  held = below_more _ n (λ q h. get_or-set_other taken b (get_or xs q 0) true false (apart q h) ∙ t.held q h) (rw e marked);
  back = below_more _ n
      (λ q h. get_or-set_other places b (get_or xs q 0) n 0 (apart q h) ∙ t.back q h)
      (rw e (get_or-set_same places b n 0 (omega (arith, t.size))));
  from = λ a h. at a h (ℕ_discrete a b);
}
  where
    marked : get_or (set taken b true) b false ≡ true
    marked = get_or-set_same taken b true false (omega (arith, t.wide))

    apart : (q : ℕ) → q < n → get_or xs q 0 ≢ b
    apart q h f = false≢true (sym free ∙ ap (λ (a : ℕ). get_or taken a false) (sym f) ∙ t.held q h)

    at : (a : ℕ) → a < width → Dec (a ≡ b) → get_or (set taken b true) a false ≡ true → (p : ℕ) × ((p < n + 1) × (get_or xs p 0 ≡ a))
    at a h (yes y) f = (n, (omega arith, e ∙ sym y))
    at a h (no y) f = let s = t.from a h (sym (get_or-set_other taken b a true false y) ∙ f) in (s.0, (omega (arith, s.1.0), s.1.1))

-- 104 numbers below 104 whose places are stored are each of them once
pub whole : (xs : List ℕ) (taken : List Bool) (places : List ℕ) → length xs ≡ width → Partial xs taken places width → EachOnce xs
whole xs taken places long t = record { long = long; below = t.below; stands = each_stands width xs long t.below single; single = single }
  where
    single : (p q : ℕ) → p < width → q < width → get_or xs p 0 ≡ get_or xs q 0 → p ≡ q
    single p q h k e = sym (t.back p h) ∙ ap (λ (n : ℕ). get_or places n 0) e ∙ t.back q k

-- the places of such a list and a copy of it undo each other
pub turned : (xs bits places : List ℕ) → EachOnce xs → ((p : ℕ) → p < width → get_or places (get_or xs p 0) 0 ≡ p) → ((p : ℕ) → p < width → get_or bits p 0 ≡ get_or xs p 0) → Undoes bits places
turned xs bits places e back copied p h =
    let s = e.stands p h in
    let here = ap (λ (n : ℕ). get_or places n 0) (sym s.1.1) ∙ back s.0 s.1.0 in (
      rw (copied p h) (e.below p h),
      rw here s.1.0,
      rw (copied p h) (back p h),
      ap (λ (n : ℕ). get_or bits n 0) here ∙ copied s.0 s.1.0 ∙ s.1.1,
    )

-- below the width a stored list answers what it holds
pub read_low : (xs : List ℕ) (p : ℕ) → p < width → read_at xs p ≡ get_or xs p 0
read_low xs p h = rw (lt-ltb p width h)
