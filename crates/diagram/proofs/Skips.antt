-- Laying place by place: places with nothing to do are passed over, and at a place the two branches are laid. Assumes nothing.
use Rattle.std.proofs.Common.{◌≡◌, ℕ, zero, suc, ◌+◌, ◌-◌, ◌<◌, ◌≤◌, Bool, true, false, Some, None, IsNone, cond, ◌&&◌, get_or, min, sym, refl, ap, ◌∙◌, add-zero, suc-add, zero-add, arith}
use mathlib.Core.Path.{fun_ext}
use mathlib.Core.Bool.{false≢true}
use Rattle.acl.specs.Headers.{width}
use Rattle.model.specs.declared.node.Ref.{Ref}
use Rattle.model.specs.declared.node.Ref.TheVariants.{Code}
use Rattle.model.specs.Rows.{Bits}
use Rattle.model.specs.Diagram.{top}
use Rattle.model.specs.Laying.{Ask, meets, in_from}
use Rattle.model.proofs.Diagram.{value_from, value_leaf}
use Rattle.diagram.specs.declared.cube.Cube.{Cube}
use Rattle.diagram.specs.declared.store.Store.{Store}
use Rattle.diagram.specs.Nodes.{Under}
use Rattle.diagram.specs.Cubes.{asked}
use Rattle.diagram.specs.Stores.{nodes_of, value_in, Grows, Fits, Stands, joined, laid_from, Branches}
use Rattle.diagram.specs.Layings.{Next}
use Rattle.diagram.proofs.Growing.{value_grows}
use Rattle.diagram.proofs.Reduces.{reduced}

-- where nothing is asked every bit will do
met : (a : Ask) (b : Bool) → IsNone a → meets a b ≡ true
met None b e = refl
met (Some c) b e = absurd (false≢true (sym e))

module _ (q : ℕ → Ask) where
  -- what a piece asks of d places goes by the bits there
  in_agree : (d p : ℕ) (u v : Bits) → ((z : ℕ) → p ≤ z → u z ≡ v z) → in_from q d p u ≡ in_from q d p v
  in_agree zero p u v h = refl
  in_agree (suc d) p u v h =
      ap (λ b. meets (q p) b && in_from q d (suc p) u) (h p (omega arith))
      ∙ ap (λ b. meets (q p) (v p) && b) (in_agree d (suc p) u v (λ z a. h z (omega arith)))

  -- places at which nothing is asked may be left out
  in_quiet : (d e p : ℕ) (v : Bits) → ((z : ℕ) → p ≤ z → z < p + d → IsNone (q z)) → in_from q (d + e) p v ≡ in_from q e (p + d) v
  in_quiet zero e p v h = ap (λ n. in_from q n p v) (zero-add e) ∙ ap (λ n. in_from q e n v) (sym (add-zero p))
  in_quiet (suc d) e p v h =
      let on : suc p + d ≡ p + suc d = omega arith in
      ap (λ n. in_from q n p v) (suc-add d e)
      ∙ ap (λ b. b && in_from q (d + e) (suc p) v) (met (q p) (v p) (h p (omega arith) (omega arith)))
      ∙ in_quiet d e (suc p) v (λ z a b. h z (omega arith) (omega arith))
      ∙ ap (λ n. in_from q e n v) on

  -- so a piece may be laid from the next place on at which something is asked
  in_skip : (from p : ℕ) (v : Bits) → from ≤ p → p ≤ width → ((z : ℕ) → from ≤ z → z < p → IsNone (q z))
      → in_from q (width - from) from v ≡ in_from q (width - p) p v
  in_skip from p v l m h =
      let all : width - from ≡ (p - from) + (width - p) = omega arith in
      let here : from + (p - from) ≡ p = omega arith in
      ap (λ n. in_from q n from v) all ∙ in_quiet (p - from) (width - p) from v (λ z a b. h z a (omega arith)) ∙ ap (λ n. in_from q (width - p) n v) here

  -- one place, and then the rest
  in_step : (p : ℕ) (v : Bits) → p < width → in_from q (width - p) p v ≡ (meets (q p) (v p) && in_from q (width - (p + 1)) (p + 1) v)
  in_step p v l =
      let some : width - p ≡ suc (width - (p + 1)) = omega arith in
      let on : suc p ≡ p + 1 = omega arith in
      ap (λ n. in_from q n p v) some ∙ ap (λ n. meets (q p) (v p) && in_from q (width - (p + 1)) n v) on

-- what a piece makes of the two sides of a place
sides : (a : Ask) (b F : Bool) (c h l : ℕ)
    → cond (meets a b && F) c (cond b h l) ≡ cond b (cond (meets a true) (cond F c h) h) (cond (meets a false) (cond F c l) l)
sides None true F c h l = refl
sides None false F c h l = refl
sides (Some true) true F c h l = refl
sides (Some true) false F c h l = refl
sides (Some false) true F c h l = refl
sides (Some false) false F c h l = refl

module _ (c : Cube) (s : Store) where
  -- what the piece asks
  abbrev q : ℕ → Ask
  q = asked c.asks

  -- places with nothing to do are passed over
  pub laid_skip : (from : ℕ) (f : Ref) (p : ℕ) → Next s c from f p → laid_from c s from f ≡ laid_from c s p f
  laid_skip from f p n = fun_ext (λ v. ap (λ b. cond b c.code (value_in s f v)) (in_skip q from p v n.onward n.inside n.quiet))

  -- past the last place the piece is its code
  pub laid_end : (p : ℕ) (f : Ref) → width ≤ p → (v : Bits) → laid_from c s p f v ≡ c.code
  laid_end p f l v = let none : width - p ≡ 0 = omega arith in ap (λ n. cond (in_from q n p v) c.code (value_in s f v)) none

  -- what is laid over a branch, or the branch itself where the piece asks for the other bit
  abbrev pub way : ℕ → Bool → Ref → Bits → ℕ
  way p b r v = cond (meets (q p) b) (laid_from c s (p + 1) r v) (value_in s r v)

  -- at a place the piece is laid over the two branches
  pub laid_branch : (p : ℕ) (f low high : Ref) → p < width → Branches s p f low high
      → (v : Bits) → laid_from c s p f v ≡ cond (v p) (way p true high v) (way p false low v)
  laid_branch p f low high l b v =
      ap (λ n. cond (in_from q (width - p) p v) c.code n) (b.is v)
      ∙ ap (λ i. cond i c.code (joined s p low high v)) (in_step q p v l)
      ∙ sides (q p) (v p) (in_from q (width - (p + 1)) (p + 1) v) c.code (value_in s high v) (value_in s low v)

  -- what is laid over a branch does not go by the bits up to the place
  pub laid_later : (p : ℕ) (r : Ref) → p < width → Fits s (p + 1) r
      → (u v : Bits) → ((z : ℕ) → p < z → u z ≡ v z) → laid_from c s (p + 1) r u ≡ laid_from c s (p + 1) r v
  laid_later p r l f u v h =
      ap (λ b. cond b c.code (value_in s r u)) (in_agree q (width - (p + 1)) (p + 1) u v (λ z m. h z (omega arith)))
      ∙ ap (λ n. cond (in_from q (width - (p + 1)) (p + 1) v) c.code n)
      (value_from (reduced s) (width - (p + 1)) (p + 1) (omega arith) u v r f.under f.later (λ z m. h z (omega arith)))

  -- a code stands for what is laid past the last place
  pub end_stands : (p : ℕ) (f : Ref) → p ≤ width → width ≤ p → Stands s p (laid_from c s p f) (Code c.code)
  end_stands p f l m = record { fits = record { under = tt; later = l }; is = λ v. value_leaf (reduced s) c.code v ∙ sym (laid_end p f m v) }

-- and the piece laid over it is the same
pub laid_grows : (c : Cube) (s t : Store) (p : ℕ) (f : Ref) → Grows s t → Under s.linked f
    → laid_from c t p f ≡ laid_from c s p f
laid_grows c s t p f g u = fun_ext (λ v. ap (λ n. cond (in_from (asked c.asks) (width - p) p v) c.code n) (value_grows s t g f u v))

-- the next place is the earlier of the one at which the piece asks something and the one that the reference tests
pub next_is : (s : Store) (c : Cube) (from : ℕ) (f : Ref) (p : ℕ) → from < width → Fits s from f
    → p ≡ min (get_or c.next from 0) (top width (nodes_of s) f) → Next s c from f p
next_is s c from f p l h e = record {
  onward = omega (arith, c.onward from l, h.later);
  inside = omega (arith, c.inside from l);
  quiet = λ z a b. c.quiet from z a (omega arith);
  fits = record { under = h.under; later = omega arith };
}
