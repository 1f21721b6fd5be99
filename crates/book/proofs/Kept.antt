-- The book's answers keep the promises. Assumes nothing.
use Rattle.std.proofs.Common.{◌≡◌, ℕ, ◌<◌, ◌≤◌, Bool, true, false, ◌≢◌, ◌⊎◌, ◌↔◌, List, [], reverse, length, Some, None, Ok, Err, Option, Result, subst, subst₂, inl, inr, arith}
use Rattle.acl.specs.declared.header.Header.{Header}
use Rattle.acl.specs.declared.line.Line.{Line}
use Rattle.acl.specs.declared.refusal.Refusal.{Refusal}
use Rattle.acl.specs.declared.refusal.Refusal.TheVariants.{NoRoom}
use Rattle.model.specs.Rulings.{Alike, Idle}
use Rattle.model.proofs.Pruning.{pruning_stands}
use Rattle.stages.specs.Lists.{ruling, Full}
use Rattle.book.specs.Books.{Slot, empty, holds, Book, Held, HeldWith}
use Rattle.book.specs.Answers.{Taken, Listed, FirstDiffers, LoadSays, DecideSays, CompareSays, IdleFull, IdleSays, PruneFull, PruneSays}
use Rattle.book.specs.Promises.{Compared, Tested, Pruning, Decided, Promised}
use Rattle.book.proofs.Apart.{not_both, prunes, idle_apart, prune_apart}

module _ {V : Type 0} (b : Book V) where
  -- a load is refused for want of room exactly when the list is full
  load_kept : (s : ℕ) (xs : List Line) (r : Result ℕ Refusal) → s ≤ 15 → b.slot s ≡ empty → length xs ≤ 1024 → LoadSays b s xs r
      → (r ≡ Err NoRoom) ↔ Full b.order b.kind b.size (Held b) xs
  unfolding LoadSays
  load_kept s xs r h free len (inl (l, e)) = absurd (omega arith)
  load_kept s xs r h free len (inr (n, inl (t, e))) = absurd (subst Taken free t)
  load_kept s xs r h free len (inr (n, inr (m, inl (l, e)))) = absurd (omega arith)
  load_kept s xs r h free len (inr (n, inr (m, inr (l, inl (v, e))))) = (λ d. v, λ d. e)
  load_kept s xs r h free len (inr (n, inr (m, inr (l, inr (f, (c, e, i)))))) =
      (λ d. absurd (cc), λ v. absurd (not_both b.order b.kind b.size (Held b) xs f v))

  -- a loaded list decides a header
  decide_kept : (s : ℕ) (h : Header) (xs : List Line) (r : Result (ℕ × ℕ) Refusal) → s ≤ 15 → b.slot s ≡ holds xs → DecideSays b s h r → Decided b xs h r
  unfolding DecideSays
  decide_kept s h xs r l e (inl (m, d)) = absurd (omega arith)
  decide_kept s h xs r l e (inr (m, d)) = subst (λ c. Listed c (λ ys a. Decided b ys h a) r) e d

  -- what is said of two loaded lists
  abbrev Compares : Slot → Slot → Result (Option Header) Refusal → Type 0
  Compares c d =
      Listed c (λ xs. Listed d
      (λ ys r.
      (Alike (ruling b.kind) xs ys × (r ≡ Ok None))
      ⊎ ((h : Header) × (r ≡ Ok (Some h)) × FirstDiffers b.order b.kind xs ys h)))

  -- two lists are compared as promised
  compared : (xs ys : List Line) (r : Result (Option Header) Refusal) → Compares (holds xs) (holds ys) r → Compared b xs ys r
  compared xs ys r (inl (al, e)) = record { equal_exactly = (λ d. al, λ d. e); otherwise = λ n. absurd (n e) }
  compared xs ys r (inr (h, e, d)) = record {
    equal_exactly = (λ q. absurd (cc), λ al. absurd (d.here (al h d.real)));
    otherwise = λ n. (h, e, d);
  }

  -- and so are two loaded slots
  compare_kept : (s t : ℕ) (xs ys : List Line) (r : Result (Option Header) Refusal) → s ≤ 15 → t ≤ 15 → b.slot s ≡ holds xs → b.slot t ≡ holds ys
      → CompareSays b s t r → Compared b xs ys r
  unfolding CompareSays
  compare_kept s t xs ys r hs ht es et (inl (inl l, e)) = absurd (omega arith)
  compare_kept s t xs ys r hs ht es et (inl (inr l, e)) = absurd (omega arith)
  compare_kept s t xs ys r hs ht es et (inr (n, c)) = compared xs ys r (subst₂ (λ u v. Compares u v r) es et c)

  -- a yes or a no on a line is as promised
  tested : (xs : List Line) (i : ℕ) (r : Result Bool Refusal)
      → (Idle (ruling b.kind) xs i × (r ≡ Ok true)) ⊎ (¬ Idle (ruling b.kind) xs i × (r ≡ Ok false)) → (r ≢ Err NoRoom) × Tested b xs i r
  tested xs i r (inl (y, e)) =
      (λ d. cc, record { idle_exactly = (λ q. y, λ q. e); otherwise = λ q. absurd (q e) })
  tested xs i r (inr (y, e)) = (
    λ d. cc,
    record {
      idle_exactly = (λ q. absurd (cc), λ q. absurd (y q));
      otherwise = λ q. e;
    },
  )

  -- an idle test is refused for want of room exactly when it is full, and otherwise as promised
  idle_kept : (xs : List Line) (i : ℕ) (r : Result Bool Refusal) → length xs ≤ 1024 → i < length xs → IdleSays b xs i r
      → ((r ≡ Err NoRoom) ↔ IdleFull b xs i) × (r ≢ Err NoRoom → Tested b xs i r)
  unfolding IdleSays
  idle_kept xs i r h m (inl (l, e)) = absurd (omega arith)
  idle_kept xs i r h m (inr (n, inl (l, e))) = absurd (omega arith)
  idle_kept xs i r h m (inr (n, inr (l, inl (v, e)))) = ((λ d. v, λ d. e), λ d. absurd (d e))
  idle_kept xs i r h m (inr (n, inr (l, inr (f, g)))) =
      let t = tested xs i r g in
      ((λ d. absurd (t.0 d), λ v. absurd (idle_apart b xs i f v)), λ d. t.1)

  -- a pruning is refused for want of room exactly when it is full, and otherwise as promised
  prune_kept : (xs m : List Line) (r : Result ℕ Refusal) (m' : List Line) → length xs ≤ 1024 → length xs ≤ length m → PruneSays b xs m r m'
      → ((r ≡ Err NoRoom) ↔ PruneFull b xs) × (r ≢ Err NoRoom → Pruning b xs m r m')
  unfolding PruneSays
  prune_kept xs m r m' h k (inl (l, e), w) = absurd (omega arith)
  prune_kept xs m r m' h k (inr (n, inl (l, e)), w) = absurd (omega arith)
  prune_kept xs m r m' h k (inr (n, inr (l, inl (v, e))), w) = ((λ d. v, λ d. e), λ d. absurd (d e))
  prune_kept xs m r m' h k (inr (n, inr (l, inr (f, (ys, p, e, c)))), w) = (
    (λ d. absurd (cc), λ v. absurd (prune_apart b xs ys f p v)),
    λ d.
        let t = pruning_stands (ruling b.kind) xs ys (prunes b.order b.kind b.size (HeldWith b xs) (reverse xs) [] ys p) in
        record { kept = ys; answer = e; memory = c; alike = t.alike; none_idle = t.none_idle },
  )

  -- the promises are kept
  pub promises_kept : Promised b
  promises_kept = record {
    load = load_kept;
    decide = decide_kept;
    compare = compare_kept;
    idle = idle_kept;
    prune = prune_kept;
  }
