-- Marks: of one reference, of several, and of what marked nodes refer to. Assumes nothing.
use Rattle.std.proofs.Common.{◌≡◌, ℕ, ◌+◌, ◌<◌, ◌≤◌, Bool, true, false, ◌⊎◌, List, length, get_or, set, replicate, sym, ap, ◌∙◌, subst, inl, inr, arith, get_or-set_other, get_or-set_same}
use mathlib.Core.Bool.{false≢true}
use native.Mathlib.Decide.{ℕ_discrete}
use Rattle.acl.specs.Headers.{width}
use Rattle.model.specs.declared.node.Ref.{Ref}
use Rattle.model.specs.declared.node.Ref.TheVariants.{Code, Node as At}
use Rattle.model.specs.Diagram.{top, Reached}
use Rattle.model.proofs.Tests.{reached_root, reached_on}
use Rattle.diagram.specs.declared.store.Store.{Store}
use Rattle.diagram.specs.Nodes.{Under}
use Rattle.diagram.specs.Stores.{nodes_of}
use Rattle.diagram.specs.Collecting.{IsMarked, Marks, ClosedFrom, MarksReached}
use Rattle.diagram.proofs.Fills.{get_or_filled}

-- setting the mark of a node marks it and no other
pub marked : (r : Ref) (i : ℕ) (old : List Bool) → r ≡ At i → i < length old → Marks r old (set old i true)
marked r i old e l = record {
  still = λ k m. still k m (ℕ_discrete k i);
  here = λ k q. here k (same k (sym q ∙ e));
  only = λ k m. only k m (ℕ_discrete k i);
}
  where
    same : (k : ℕ) → At k ≡ At i → k ≡ i
    same k z = cc z

    here : (k : ℕ) → k ≡ i → IsMarked (set old i true) k
    here k p = ap (λ j. get_or (set old i true) j false) p ∙ get_or-set_same old i true false l

    still : (k : ℕ) → IsMarked old k → Dec (k ≡ i) → IsMarked (set old i true) k
    still k m (yes p) = here k p
    still k m (no p) = get_or-set_other old i k true false p ∙ m

    only : (k : ℕ) → IsMarked (set old i true) k → Dec (k ≡ i) → IsMarked old k ⊎ (r ≡ At k)
    only k m (yes p) = inr (e ∙ ap At (sym p))
    only k m (no p) = inl (sym (get_or-set_other old i k true false p) ∙ m)

-- marks of the first i references
pub record MarksTo (roots : List Ref) (new : List Bool) (i : ℕ) : Type 0 where
  pub here : (j k : ℕ) → j < i → get_or roots j (Code 0) ≡ At k → IsMarked new k
  pub only : (k : ℕ) → IsMarked new k → (j : ℕ) × (j < i) × (get_or roots j (Code 0) ≡ At k)

-- at first nothing is marked
pub marks_none : (roots : List Ref) → MarksTo roots (replicate 2048 false) 0
marks_none roots = record {
  here = λ j k l q. absurd (omega arith);
  only = λ k m. absurd (false≢true (sym (get_or_filled 2048 k false) ∙ m));
}

-- what is marked is reached from itself
pub reached_start : (s : Store) (marks : List Bool) → MarksReached s marks marks
reached_start s marks k m = (k, m, reached_root (nodes_of s) k)

-- the two references of the marked node i are marked
module _ (s : Store) (i : ℕ) (l : i < s.linked) (m₀ m₁ m₂ : List Bool) (is : IsMarked m₀ i)
    (low : Marks (nodes_of s i).low m₀ m₁) (high : Marks (nodes_of s i).high m₁ m₂) where
  -- the node refers to j
  abbrev Child : ℕ → Type 0
  Child j = ((nodes_of s i).low ≡ At j) ⊎ ((nodes_of s i).high ≡ At j)

  -- what is marked then was marked before, or the node refers to it
  both_only : (k : ℕ) → IsMarked m₂ k → IsMarked m₀ k ⊎ Child k
  both_only k h = go (high.only k h)
    where
      go₁ : IsMarked m₀ k ⊎ ((nodes_of s i).low ≡ At k) → IsMarked m₀ k ⊎ Child k
      go₁ (inl h) = inl h
      go₁ (inr q) = inr (inl q)

      go : IsMarked m₁ k ⊎ ((nodes_of s i).high ≡ At k) → IsMarked m₀ k ⊎ Child k
      go (inl h) = go₁ (low.only k h)
      go (inr q) = inr (inr q)

  -- what was marked still is
  pub both_still : (k : ℕ) → IsMarked m₀ k → IsMarked m₂ k
  both_still k h = high.still k (low.still k h)

  -- it refers to earlier nodes
  child_earlier : (k : ℕ) → Child k → k < i
  child_earlier k (inl q) = subst (λ (r : Ref). Under i r) q (s.sound.good i l).low_under
  child_earlier k (inr q) = subst (λ (r : Ref). Under i r) q (s.sound.good i l).high_under

  -- no node from e on is marked
  pub both_inside : ((k : ℕ) → IsMarked m₀ k → k < s.linked) → (k : ℕ) → IsMarked m₂ k → k < s.linked
  both_inside old k h = go (both_only k h)
    where
      go : IsMarked m₀ k ⊎ Child k → k < s.linked
      go (inl h) = old k h
      go (inr q) = omega (arith, child_earlier k q)

  -- what the node refers to is marked
  child_marked : (k : ℕ) → Child k → IsMarked m₂ k
  child_marked k (inl q) = high.still k (low.here k q)
  child_marked k (inr q) = high.here k q

  -- and what comes after it stays closed
  pub both_closed : ClosedFrom s m₀ (i + 1) → ClosedFrom s m₂ i
  both_closed c k j lt lk h q = go (ℕ_discrete k i)
    where
      old : i + 1 ≤ k → IsMarked m₀ k ⊎ Child k → IsMarked m₂ j
      old more (inl h) = both_still j (c k j more lk h q)
      old more (inr p) = absurd (omega (arith, child_earlier k p))

      go : Dec (k ≡ i) → IsMarked m₂ j
      go (yes p) = child_marked j (subst (λ n. ((nodes_of s n).low ≡ At j) ⊎ ((nodes_of s n).high ≡ At j)) p q)
      go (no p) = old (omega arith) (both_only k h)

  -- what is marked is still reached from what was marked at first
  pub both_reached : (start : List Bool) → MarksReached s start m₀ → MarksReached s start m₂
  both_reached start old k h = go (both_only k h)
    where
      Back : Type 0
      Back = (m : ℕ) × IsMarked start m × Reached (nodes_of s) (At m) k

      on : Child k → ((m : ℕ) × IsMarked start m × Reached (nodes_of s) (At m) i) → Back
      on (inl q) (m, hm, r) =
          (m, hm, reached_on (nodes_of s) (At m) i false k r q (subst (λ (x : Ref). (nodes_of s i).place < top width (nodes_of s) x) q (s.sound.good i l).low_later))
      on (inr q) (m, hm, r) =
          (m, hm, reached_on (nodes_of s) (At m) i true k r q (subst (λ (x : Ref). (nodes_of s i).place < top width (nodes_of s) x) q (s.sound.good i l).high_later))

      go : IsMarked m₀ k ⊎ Child k → Back
      go (inl h) = old k h
      go (inr q) = on q (old i is)
