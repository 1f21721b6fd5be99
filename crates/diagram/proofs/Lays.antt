-- What is laid over the branches makes what is laid over the whole, with the same new nodes and the same lack. Assumes nothing.
use Rattle.std.proofs.Common.{◌≡◌, ℕ, ◌+◌, ◌<◌, ◌≤◌, Bool, true, false, cond, Some, None, Option, refl, sym, ap, ◌∙◌, subst, MatchOption, arith}
use Rattle.acl.specs.Headers.{width}
use Rattle.model.specs.declared.node.Ref.{Ref}
use Rattle.model.specs.declared.node.Ref.TheVariants.{Code}
use Rattle.model.specs.Rows.{Bits}
use Rattle.model.specs.Parts.{Part, PartOf}
use Rattle.model.specs.Stages.{Stage}
use Rattle.model.specs.Laying.{meets}
use Rattle.diagram.specs.declared.guard.End.{End}
use Rattle.diagram.specs.declared.cube.Cube.{Cube}
use Rattle.diagram.specs.declared.store.Store.{Store}
use Rattle.diagram.specs.declared.store.Notes.{Notes}
use Rattle.diagram.specs.Cubes.{asked}
use Rattle.diagram.specs.Nodes.{Under}
use Rattle.diagram.specs.Stores.{value_in, Grows, Fits, New, Stands, Lacks, joined, laid_from, Branches, Noted}
use Rattle.diagram.specs.Layings.{Next}
use Rattle.diagram.proofs.Reduces.{under_more}
use Rattle.diagram.proofs.Skips.{laid_skip, laid_branch, laid_later, laid_grows, way, end_stands}
use Rattle.diagram.proofs.Subparts.{sub_part, new_sub, lacks_sub, new_trans}
use Rattle.diagram.proofs.Growing.{fits_less, fits_grows, value_grows, grows_refl, grows_trans, new_none}

-- a reference stands from an earlier place on
pub stands_less : (s : Store) (p p' : ℕ) (g : Stage) (x : Ref) → p ≤ p' → Stands s p' g x → Stands s p g x
stands_less s p p' g x l h = record { fits = fits_less s p p' x l h.fits; is = h.is }

module _ (c : Cube) (s : Store) where
  -- what stands at the next place stands at the place before
  pub skip_stands : (t : Store) (from : ℕ) (f : Ref) (p : ℕ) (x : Ref) → Next s c from f p
      → Stands t p (laid_from c s p f) x → Stands t from (laid_from c s from f) x
  skip_stands t from f p x n h =
      subst (λ g. Stands t from g x) (sym (laid_skip c s from f p n)) (stands_less t from p (laid_from c s p f) x n.onward h)

  -- the same for what is new,
  pub skip_new : (t : Store) (from : ℕ) (f : Ref) (p : ℕ) → Next s c from f p → New s t (laid_from c s p f) → New s t (laid_from c s from f)
  skip_new t from f p n h = subst (New s t) (sym (laid_skip c s from f p n)) h

  -- and for a lack
  pub skip_lacks : (t : Store) (from : ℕ) (f : Ref) (p : ℕ) → Next s c from f p → Lacks t (laid_from c s p f) → Lacks t (laid_from c s from f)
  skip_lacks t from f p n h = subst (Lacks t) (sym (laid_skip c s from f p n)) h

  -- where the next place is past the last, it is the code
  pub skip_end : (from : ℕ) (f : Ref) → Next s c from f width → Stands s from (laid_from c s from f) (Code c.code)
  skip_end from f n = skip_stands s from f width (Code c.code) n (end_stands c s width f (omega arith) (omega arith))

  -- the way on from p by the bit d is done, from the store t to u: x stands for what is made of the branch r
  pub record Way (p : ℕ) (f : Ref) (d : Bool) (r : Ref) (t u : Store) (e : End) (n : Notes) (x : Ref) : Type 0 where
    pub level : e.at ≡ u.linked
    pub grows : Grows t u
    pub noted : Noted u c n
    pub new : New t u (laid_from c s p f)
    pub fits : Fits u (p + 1) x
    pub is : (v : Bits) → value_in u x v ≡ way c s p d r v

  -- both are done: x and y stand for what is made of the branches
  pub record Both (p : ℕ) (f : Ref) (u : Store) (e : End) (n : Notes) (x y : Ref) : Type 0 where
    pub level : e.at ≡ u.linked
    pub grows : Grows s u
    pub noted : Noted u c n
    pub new : New s u (laid_from c s p f)
    pub under : Under u.linked f
    pub low : Fits u (p + 1) x
    pub high : Fits u (p + 1) y
    pub laid : (v : Bits) → joined u p x y v ≡ laid_from c u p f v

  module _ {p : ℕ} {f low high : Ref} (l : p < width) (b : Branches s p f low high) where
    -- the branch by the bit d
    abbrev pub branch : Bool → Ref
    branch d = cond d high low

    branch_fits : (d : Bool) → Fits s (p + 1) (branch d)
    branch_fits true = b.high_fits
    branch_fits false = b.low_fits

    -- what is laid over it in a store that has grown
    branch_grows : (t : Store) (d : Bool) → Grows s t → laid_from c t (p + 1) (branch d) ≡ laid_from c s (p + 1) (branch d)
    branch_grows t d g = laid_grows c s t (p + 1) (branch d) g (branch_fits d).under

    -- what is made of a branch where the piece asks for its bit, and where not
    way_is : (d m : Bool) (v : Bits) → meets (asked c.asks p) d ≡ m
        → cond m (laid_from c s (p + 1) (branch d) v) (value_in s (branch d) v) ≡ way c s p d (branch d) v
    way_is d m v e = sym (ap (λ k. cond k (laid_from c s (p + 1) (branch d) v) (value_in s (branch d) v)) e)

    -- where the bit is d, the whole is what is made of that branch
    laid_at : (d : Bool) (v : Bits) → v p ≡ d → laid_from c s p f v ≡ way c s p d (branch d) v
    laid_at d v e = laid_branch c s p f low high l b v ∙ ap (λ k. cond k (way c s p true high v) (way c s p false low v)) e ∙ by d
      where
        by : (d : Bool) → cond d (way c s p true high v) (way c s p false low v) ≡ way c s p d (branch d) v
        by true = refl
        by false = refl

    -- so parts of what is laid over a branch are parts of the whole,
    branch_sub : (d : Bool) → meets (asked c.asks p) d ≡ true → (x : Part) → PartOf (laid_from c s (p + 1) (branch d)) x → PartOf (laid_from c s p f) x
    branch_sub d m =
        sub_part (laid_from c s p f) (laid_from c s (p + 1) (branch d)) p d (laid_later c s p (branch d) l (branch_fits d))
        (λ v e. laid_at d v e ∙ sym (way_is d true v m))

    -- its new nodes are new nodes of the whole,
    pub branch_new : (t u : Store) (d : Bool) → Grows s t → meets (asked c.asks p) d ≡ true → New t u (laid_from c t (p + 1) (branch d))
        → New t u (laid_from c s p f)
    branch_new t u d g m h =
        new_sub t u (laid_from c s p f) (laid_from c s (p + 1) (branch d)) (branch_sub d m) (subst (New t u) (branch_grows t d g) h)

    -- and what it lacks, the whole lacks
    pub branch_lacks : (t u : Store) (d : Bool) → Grows s t → meets (asked c.asks p) d ≡ true → Lacks u (laid_from c t (p + 1) (branch d))
        → Lacks u (laid_from c s p f)
    branch_lacks t u d g m h =
        lacks_sub u (laid_from c s p f) (laid_from c s (p + 1) (branch d)) (branch_sub d m) (subst (Lacks u) (branch_grows t d g) h)

    -- what laying the branch gives
    abbrev pub Laid : Bool → Store → Store → End → Notes → Ref → Type 0
    Laid d t u e n x = record {
      level : e.at ≡ u.linked;
      grows : Grows t u;
      noted : Noted u c n;
      new : New t u (laid_from c t (p + 1) (branch d));
      value : Stands u (p + 1) (laid_from c t (p + 1) (branch d)) x;
    }

    -- where the piece asks for the bit, the branch is laid,
    pub way_laid : {t u : Store} {e : End} {n : Notes} {x : Ref} (d : Bool) → Grows s t → meets (asked c.asks p) d ≡ true → Laid d t u e n x
        → Way p f d (branch d) t u e n x
    way_laid {t = t} {u = u} d g m h = record {
      level = h.level;
      grows = h.grows;
      noted = h.noted;
      new = branch_new t u d g m h.new;
      fits = h.value.fits;
      is = λ v. h.value.is v ∙ ap (λ k. k v) (branch_grows t d g) ∙ way_is d true v m;
    }

    -- and else it stays
    pub way_kept : {t : Store} {e : End} {n : Notes} (d : Bool) → Grows s t → meets (asked c.asks p) d ≡ false → e.at ≡ t.linked → Noted t c n
        → Way p f d (branch d) t t e n (branch d)
    way_kept {t = t} d g m v h = record {
      level = v;
      grows = grows_refl t;
      noted = h;
      new = new_none t (laid_from c s p f);
      fits = fits_grows s t (p + 1) (branch d) g (branch_fits d);
      is = λ v. value_grows s t g (branch d) (branch_fits d).under v ∙ way_is d false v m;
    }

    -- the two ways together
    pub both : {t u : Store} {d e : End} {m n : Notes} {x y : Ref} → Under s.linked f → Way p f false low s t d m x → Way p f true high t u e n y
        → Both p f u e n x y
    both {t = t} {u = u} {x = x} {y = y} under a z =
        let g = grows_trans s t u a.grows z.grows in
        record {
          level = z.level;
          grows = g;
          noted = z.noted;
          new = new_trans s t u (laid_from c s p f) z.grows a.new z.new;
          under = under_more s.linked u.linked f g.more under;
          low = fits_grows t u (p + 1) x z.grows a.fits;
          high = z.fits;
          laid = λ v.
              ap (λ k. cond (v p) (value_in u y v) k) (value_grows t u z.grows x a.fits.under v ∙ a.is v)
              ∙ ap (λ k. cond (v p) k (way c s p false low v)) (z.is v)
              ∙ sym (laid_branch c s p f low high l b v) ∙ sym (ap (λ h. h v) (laid_grows c s u p f g under));
        }

  -- what is new after `close` is new for the whole laying: t before `close`, u after
  pub closed_new : (t u : Store) (from : ℕ) (f : Ref) (p : ℕ) → Grows s t → Grows t u → Under s.linked f
      → Next s c from f p → New s t (laid_from c s p f) → New t u (laid_from c t p f) → New s u (laid_from c s from f)
  closed_new t u from f p g h under n a b =
      skip_new u from f p n (new_trans s t u (laid_from c s p f) h a (subst (New t u) (laid_grows c s t p f g under) b))

  -- and what `close` answers is the answer of the laying
  pub closed_value : (o : Option Ref) (t u : Store) (from : ℕ) (f : Ref) (p : ℕ) → Grows s t → Under s.linked f
      → Next s c from f p → MatchOption o (Lacks u (laid_from c t p f)) (λ x. Stands u p (laid_from c t p f) x)
      → MatchOption o (Lacks u (laid_from c s from f)) (λ x. Stands u from (laid_from c s from f) x)
  closed_value (Some x) t u from f p g under n k = skip_stands u from f p x n (subst (λ h. Stands u p h x) (laid_grows c s t p f g under) k)
  closed_value None t u from f p g under n k = skip_lacks u from f p n (subst (Lacks u) (laid_grows c s t p f g under) k)
