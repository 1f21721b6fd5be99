-- Copies of old nodes in a store. Assumes nothing.
use Rattle.std.proofs.Common.{◌≡◌, ℕ, suc, ◌+◌, ◌-◌, ◌<◌, ◌≤◌, Bool, true, false, cond, List, length, get_or, set, sym, refl, ap, ◌∙◌, subst, inl, inr, arith, length-set, get_or-set_other, get_or-set_same}
use mathlib.Core.Path.{fun_ext}
use mathlib.Core.Bool.{false≢true}
use native.Mathlib.Decide.{ℕ_discrete, dec_le}
use Rattle.acl.specs.Headers.{width}
use Rattle.model.specs.declared.node.Ref.{Ref}
use Rattle.model.specs.declared.node.Ref.TheVariants.{Code, Node as At}
use Rattle.model.specs.declared.node.Node.{Node}
use Rattle.model.specs.Rows.{Bits}
use Rattle.model.specs.Stages.{Stage}
use Rattle.model.specs.Parts.{PartOf}
use Rattle.model.specs.Diagram.{top, part_at}
use Rattle.model.proofs.Diagram.{step_at, value_leaf, value_on}
use Rattle.diagram.specs.declared.guard.End.{End}
use Rattle.diagram.specs.declared.store.Store.{Store}
use Rattle.diagram.specs.Nodes.{Under}
use Rattle.diagram.specs.Stores.{nodes_of, value_in, Grows, Fits, New, Stands, joined}
use Rattle.diagram.specs.Collecting.{IsMarked, ClosedFrom, moved_to, Copied, CopiedTo, FromMarked}
use Rattle.diagram.proofs.Reduces.{reduced}
use Rattle.diagram.proofs.Growing.{fits_less, fits_grows, value_grows, part_grows}

-- what is copied stays copied in the grown store
pub copied_grows : (old s t : Store) (r x : Ref) → Grows s t → Copied old s r x → Copied old t r x
copied_grows old s t r x g c = record {
  fits = fits_grows s t (top width (nodes_of old) r) x g c.fits;
  is = λ v. value_grows s t g x c.fits.under v ∙ c.is v;
}

-- x stands in s for r of the old nodes, after place p
pub record Went (old s : Store) (p : ℕ) (r x : Ref) : Type 0 where
  pub fits : Fits s (p + 1) x
  pub is : (v : Bits) → value_in s x v ≡ value_in old r v

module _ (old s : Store) (marks : List Bool) (to : List Ref) (i : ℕ)
    (copied : CopiedTo old s marks to i) where
  -- where a reference of node i went
  went_ref : (p : ℕ) (r : Ref) → Under i r → p < top width (nodes_of old) r → ((j : ℕ) → r ≡ At j → IsMarked marks j) → Went old s p r (moved_to to r)
  went_ref p (Code c) u l m = record {
    fits = record { under = tt; later = omega arith };
    is = λ v. value_leaf (reduced s) c v ∙ sym (value_leaf (reduced old) c v);
  }
  went_ref p (At j) u l m =
      let d = copied j u (m j refl) in
      record { fits = fits_less s (p + 1) (nodes_of old j).place (get_or to j (Code 0)) (omega arith) d.fits; is = d.is }

  module _ (l : i < old.linked) (is : IsMarked marks i) (closed : ClosedFrom old marks 0) where
    -- the copy of its low reference
    pub went_low : Went old s (nodes_of old i).place (nodes_of old i).low (moved_to to (nodes_of old i).low)
    went_low =
        let g = old.sound.good i l in
        went_ref (nodes_of old i).place (nodes_of old i).low g.low_under g.low_later (λ j q. closed i j (omega arith) l is (inl q))

    -- the copy of its high reference
    pub went_high : Went old s (nodes_of old i).place (nodes_of old i).high (moved_to to (nodes_of old i).high)
    went_high =
        let g = old.sound.good i l in
        went_ref (nodes_of old i).place (nodes_of old i).high g.high_under g.high_later (λ j q. closed i j (omega arith) l is (inr q))

-- an old node goes high or low by the bit at its place
pub old_value : (old : Store) (i : ℕ) → i < old.linked → (v : Bits)
    → value_in old (At i) v
    ≡ cond (v (nodes_of old i).place) (value_in old (nodes_of old i).high v) (value_in old (nodes_of old i).low v)
old_value old i l v =
    let placed : p < width = (old.sound.good i l).placed in
    value_on (reduced old) (width - suc p) p (omega arith) v (At i) l (omega arith)
    ∙ ap (λ r. value_in old r v) (step_at (nodes_of old) p (v p) i refl) ∙ go (v p)
  where
    p : ℕ
    p = (nodes_of old i).place

    go : (b : Bool)
        → value_in old (cond b (nodes_of old i).high (nodes_of old i).low) v
        ≡ cond b (value_in old (nodes_of old i).high v) (value_in old (nodes_of old i).low v)
    go true = refl
    go false = refl

-- the copies of its two references, joined at its place, have its value
pub joined_is : (old s : Store) (i : ℕ) → i < old.linked → (low high : Ref)
    → Went old s (nodes_of old i).place (nodes_of old i).low low
    → Went old s (nodes_of old i).place (nodes_of old i).high high
    → joined s (nodes_of old i).place low high ≡ value_in old (At i)
joined_is old s i l low high wl wh = fun_ext (λ v.
    ap (λ k. cond (v p) k (value_in s low v)) (wh.is v)
    ∙ ap (λ k. cond (v p) (value_in old (nodes_of old i).high v) k) (wl.is v)
    ∙ sym (old_value old i l v))
  where
    p : ℕ
    p = (nodes_of old i).place

-- so what stands for the joined copies is a copy of the node
pub copied_made : (old t : Store) (i : ℕ) (g : Stage) (x : Ref) → g ≡ value_in old (At i)
    → Stands t (nodes_of old i).place g x → Copied old t (At i) x
copied_made old t i g x e h = record { fits = h.fits; is = λ v. h.is v ∙ ap (λ f. f v) e }

-- one copy more
pub copied_more : (old s t : Store) (marks : List Bool) (to : List Ref) (i : ℕ) (x : Ref) → Grows s t → i < length to
    → CopiedTo old s marks to i → Copied old t (At i) x → CopiedTo old t marks (set to i x) (i + 1)
copied_more old s t marks to i x g l c d k lk m = go (ℕ_discrete k i)
  where
    go : Dec (k ≡ i) → Copied old t (At k) (get_or (set to i x) k (Code 0))
    go (yes p) =
        subst (λ (j : ℕ). Copied old t (At j) (get_or (set to i x) j (Code 0))) (sym p)
        (subst (λ (r : Ref). Copied old t (At i) r) (sym (get_or-set_same to i x (Code 0) l)) d)
    go (no p) =
        subst (λ (r : Ref). Copied old t (At k) r) (sym (get_or-set_other to i k x (Code 0) p))
        (copied_grows old s t (At k) (get_or to k (Code 0)) g (c k (omega arith) m))

-- a node that is not marked needs no copy
pub copied_skip : (old s : Store) (marks : List Bool) (to : List Ref) (i : ℕ) → get_or marks i false ≡ false
    → CopiedTo old s marks to i → CopiedTo old s marks to (i + 1)
copied_skip old s marks to i z c k lk m = go (ℕ_discrete k i)
  where
    go : Dec (k ≡ i) → Copied old s (At k) (get_or to k (Code 0))
    go (yes p) = absurd (false≢true (sym z ∙ ap (λ (j : ℕ). get_or marks j false) (sym p) ∙ m))
    go (no p) = c k (omega arith) m

-- every node more is a part of the node that is copied
pub only_more : (old s t : Store) (marks : List Bool) (i : ℕ) (g : Stage) → Grows s t
    → g ≡ value_in old (At i) → IsMarked marks i → New s t g
    → FromMarked old s marks i → FromMarked old t marks (i + 1)
only_more old s t marks i g gr e m new f j lj = go (dec_le (suc j) s.linked)
  where
    go : Dec (j < s.linked) → (k : ℕ) × (k < i + 1) × IsMarked marks k × PartOf (value_in old (At k)) (part_at width (nodes_of t) j)
    go (yes l) =
        let (k, lk, mk, part) = f j l in
        (k, omega arith, mk, subst (PartOf (value_in old (At k))) (sym (part_grows s t gr j l)) part)
    go (no n) = (i, omega arith, m, subst (λ f. PartOf f (part_at width (nodes_of t) j)) e (new j (omega arith) lj))

-- what is a part of a marked node below i is one of a node below i + 1
pub only_skip : (old s : Store) (marks : List Bool) (i : ℕ) → FromMarked old s marks i → FromMarked old s marks (i + 1)
only_skip old s marks i f j l = let (k, lk, mk, part) = f j l in (k, omega arith, mk, part)

-- the marked nodes before i are copied, and nothing else is in the store
pub record Kept (old : Store) (marks : List Bool) (cap : ℕ) (s : Store) (end : End) (to : List Ref) (i : ℕ) : Type 0 where
  pub level : end.at ≡ s.linked
  pub cap_same : s.cap ≡ cap
  pub few : s.linked ≤ i
  pub long : length to ≡ 2048
  pub copied : CopiedTo old s marks to i
  pub only : FromMarked old s marks i

module _ (old : Store) (marks : List Bool) (closed : ClosedFrom old marks 0) (cap : ℕ)
    (s : Store) (end : End) (to : List Ref) (i : ℕ) (l : i < old.linked) (k : Kept old marks cap s end to i) where
  -- a node that is not marked is passed over
  pub kept_skip : get_or marks i false ≡ false → Kept old marks cap s end to (i + 1)
  kept_skip z = record {
    level = k.level;
    cap_same = k.cap_same;
    few = omega (arith, k.few);
    long = k.long;
    copied = copied_skip old s marks to i z k.copied;
    only = only_skip old s marks i k.only;
  }

  -- and the copies of a marked node's references are joined to its copy
  pub kept_more : IsMarked marks i → (low high : Ref) → low ≡ moved_to to (nodes_of old i).low → high ≡ moved_to to (nodes_of old i).high
      → (t : Store) (end' : End) (x : Ref) → end'.at ≡ t.linked → Grows s t → t.linked ≤ s.linked + 1
      → New s t (joined s (nodes_of old i).place low high) → Stands t (nodes_of old i).place (joined s (nodes_of old i).place low high) x
      → i < 2048 → Kept old marks cap t end' (set to i x) (i + 1)
  kept_more is low high el eh t end' x level g one new stands few = record {
    level = level;
    cap_same = g.cap ∙ k.cap_same;
    few = omega (arith, one, k.few);
    long = length-set to i x ∙ k.long;
    copied = copied_more old s t marks to i x g (omega (arith, k.long)) k.copied (copied_made old t i at x same stands);
    only = only_more old s t marks i at g same is new k.only;
  }
    where
      n : Node
      n = nodes_of old i

      at : Stage
      at = joined s n.place low high

      went_l : Went old s n.place n.low low
      went_l = subst (λ (r : Ref). Went old s n.place n.low r) (sym el) (went_low old s marks to i k.copied l is closed)

      went_h : Went old s n.place n.high high
      went_h = subst (λ (r : Ref). Went old s n.place n.high r) (sym eh) (went_high old s marks to i k.copied l is closed)

      same : at ≡ value_in old (At i)
      same = joined_is old s i l low high went_l went_h
