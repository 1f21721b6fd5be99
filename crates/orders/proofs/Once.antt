-- The two ways to say that a list holds each number once. Assumes nothing.
use Rattle.std.proofs.Common.{◌≡◌, ℕ, zero, suc, ◌+◌, ◌<◌, ◌≤◌, true, eqb, List, length, get_or, sym, refl, ap, ◌∙◌, add-one, arith}
use native.Mathlib.Decide.{dec_lt}
use Rattle.std.specs.List.{list_any, remove}
use Rattle.std.proofs.lemmas.Bool.{eq-eqb}
use Rattle.std.proofs.lemmas.List.Edits.{length-remove, get_or-remove_below, get_or-remove_above}
use Rattle.std.proofs.lemmas.List.Folds.{list_any_at}
use Rattle.std.proofs.lemmas.Map.Steps.{le-length_from_below}
use Rattle.acl.specs.Headers.{width}
use Rattle.orders.specs.Perms.{HoldsOnce, EachOnce}

pub shortly : (xs : List ℕ) → EachOnce xs → HoldsOnce xs
shortly xs e = record {
  long = e.long;
  once = λ b h. let s = e.stands b h in (s.0, (s.1.0, s.1.1, λ q l f. e.single q s.0 l s.1.0 (f ∙ sym s.1.1)));
}

module _ (xs : List ℕ) (t : HoldsOnce xs) where
  -- without a number from 104 on, the list has each number below 104 still
  stays : (p : ℕ) → p < width → width ≤ get_or xs p 0 → (b k : ℕ) → b < width → k < width → get_or xs k 0 ≡ b → list_any (eqb b) (remove xs p) ≡ true
  stays p h high b k l m e = go k m e (dec_lt k p) (dec_lt p k)
    where
      shorter : length (remove xs p) + 1 ≡ width
      shorter = length-remove xs p (omega (arith, t.long)) ∙ t.long

      at : (i : ℕ) → i + 1 < width → get_or (remove xs p) i 0 ≡ b → list_any (eqb b) (remove xs p) ≡ true
      at i m e = list_any_at (eqb b) (remove xs p) i 0 (omega (arith, shorter)) (eq-eqb b (get_or (remove xs p) i 0) (sym e))

      go : (k : ℕ) → k < width → get_or xs k 0 ≡ b → Dec (k < p) → Dec (p < k) → list_any (eqb b) (remove xs p) ≡ true
      go k m e (yes y) d = at k (omega arith) (get_or-remove_below xs p 0 k y (omega (arith, t.long)) ∙ e)
      go zero m e (no n) (yes y) = absurd (omega arith)
      go (suc k) m e (no n) (yes y) =
          let after : get_or xs (k + 1) 0 ≡ b = rw add-one e in
          at k (omega arith) (get_or-remove_above xs p 0 k (omega arith) (omega (arith, t.long)) ∙ after)
      go k m e (no n) (no y) = let z : k ≡ p = omega arith in absurd (omega (arith, ap (λ (i : ℕ). get_or xs i 0) z))

  low : (p : ℕ) → p < width → get_or xs p 0 < width
  low p h = go (dec_lt (get_or xs p 0) width)
    where
      go : Dec (get_or xs p 0 < width) → get_or xs p 0 < width
      go (yes l) = l
      go (no n) =
          absurd (omega (
            arith,
            length-remove xs p (omega (arith, t.long)),
            t.long,
            le-length_from_below (remove xs p) width (λ b l. let s = t.once b l in stays p h (omega arith) b s.0 l s.1.0 s.1.1),
          ))

  pub at_length : EachOnce xs
  at_length = record {
    long = t.long;
    below = low;
    stands = λ b h. let s = t.once b h in (s.0, (s.1.0, s.1.1));
    single = λ p q hp hq e. let s = (t.once (get_or xs q 0) (low q hq)).1.2 in s p hp e ∙ sym (s q hq refl);
  }
