-- What fits is not full, and what prunes is not stuck. Assumes nothing.
use Rattle.std.proofs.Common.{ℕ, List, [], ◌∷◌, map, reverse, inl, inr}
use mathlib.Core.List.{reverse_aux}
use Rattle.acl.specs.declared.line.Line.{Line}
use Rattle.model.specs.Parts.{Part}
use Rattle.model.specs.Rulings.{without, PrunedFrom}
use Rattle.model.proofs.Families.{lines_not_both}
use Rattle.orders.specs.Meanings.{OrderMeaning}
use Rattle.kinds.specs.Kinds.{KindMeaning}
use Rattle.stages.specs.Lists.{ruling, end_code, layers_of, Fits, Full}
use Rattle.book.specs.Books.{Book, Held, HeldWith}
use Rattle.book.specs.Answers.{PrunesTo, Stuck, IdleFull, IdleFits, PruneFull}

module _ (o : OrderMeaning) {V : Type 0} (k : KindMeaning V) (n : ℕ) (S : Part → Type 0) where
  -- a list that fits is not full
  pub not_both : (xs : List Line) → Fits o k n S xs → ¬ Full o k n S xs
  not_both xs f v = lines_not_both n S (end_code k) (map (layers_of o k) xs) f v

  -- a pruning whose tried lists all fit is a pruning
  pub prunes : (front kept out : List Line) → PrunesTo o k n S front kept out → PrunedFrom (ruling k) front kept out
  prunes [] kept out p = p
  prunes (x ∷ front) kept out (f, inl p) = inl (p.0, prunes front kept out p.1)
  prunes (x ∷ front) kept out (f, inr p) = inr (p.0, prunes front (x ∷ kept) out p.1)

  -- such a pruning is not stuck
  pub not_stuck : (front kept out : List Line) → PrunesTo o k n S front kept out → ¬ Stuck o k n S front kept
  not_stuck [] kept out p s = s
  not_stuck (x ∷ front) kept out (f, p) (inl v) = not_both (reverse_aux front kept) f v
  not_stuck (x ∷ front) kept out (f, inl p) (inr (g, inl s)) = not_stuck front kept out p.1 s.1
  not_stuck (x ∷ front) kept out (f, inl p) (inr (g, inr s)) = s.0 p.0
  not_stuck (x ∷ front) kept out (f, inr p) (inr (g, inl s)) = p.0 s.0
  not_stuck (x ∷ front) kept out (f, inr p) (inr (g, inr s)) = not_stuck front (x ∷ kept) out p.1 s.1

module _ {V : Type 0} (b : Book V) (xs : List Line) where
  -- an idle test that fits is not full
  pub idle_apart : (i : ℕ) → IdleFits b xs i → ¬ IdleFull b xs i
  idle_apart i f (inl v) = not_both b.order b.kind b.size (Held b) xs f.0 v
  idle_apart i f (inr v) = not_both b.order b.kind b.size (HeldWith b xs) (without xs i) f.1 v

  -- a pruning that fits and has an outcome is not full
  pub prune_apart : (ys : List Line) → Fits b.order b.kind b.size (Held b) xs
      → PrunesTo b.order b.kind b.size (HeldWith b xs) (reverse xs) [] ys → ¬ PruneFull b xs
  prune_apart ys f p (inl v) = not_both b.order b.kind b.size (Held b) xs f v
  prune_apart ys f p (inr v) = not_stuck b.order b.kind b.size (HeldWith b xs) (reverse xs) [] ys p v
