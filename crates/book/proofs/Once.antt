-- Two answers to one call from one book are equal. Assumes nothing.
use Rattle.std.proofs.Common.{◌≡◌, ℕ, ◌≤◌, true, false, ◌⊎◌, List, [], ◌++◌, reverse, length, drop, Some, None, Ok, Err, Result, sym, ap, ◌∙◌, subst, inl, inr, arith}
use Rattle.acl.specs.declared.header.Header.{Header}
use Rattle.acl.specs.declared.line.Line.{Line}
use Rattle.acl.specs.declared.refusal.Refusal.{Refusal}
use Rattle.acl.specs.declared.refusal.Refusal.TheVariants.{NoSlot, SlotTaken, TooManyLines, NoRoom, NoLine, ShortMemory}
use Rattle.acl.specs.Headers.{width}
use Rattle.model.specs.Rulings.{verdict, Alike, Idle}
use Rattle.model.proofs.Counting.{count_unique}
use Rattle.model.proofs.Tests.{tally_unique}
use Rattle.model.proofs.Pruning.{one_outcome}
use Rattle.orders.specs.Meanings.{LawfulOrder}
use Rattle.stages.specs.Lists.{ruling}
use Rattle.book.specs.Books.{Slot, empty, holds, Book, with_slot, Held, HeldWith}
use Rattle.book.specs.Answers.{Check, Room, Listed, CountsHeld, FirstDiffers, PrunesTo, LoadSays, ClearSays, DecideSays, DepthSays, CompareSays, IdleSays, KeptWhole, PruneSays}
use Rattle.book.specs.Promises.{AnswersOnce}
use Rattle.book.proofs.Firsts.{first_unique}
use Rattle.book.proofs.Apart.{not_both, prunes, idle_apart, prune_apart}

-- G holds of every answer of P and every answer of Q
abbrev Both : {A : Type 0} → (Result A Refusal → Result A Refusal → Type 0) → (P Q : Result A Refusal → Type 0) → Type 0
Both {A} G P Q = (r r' : Result A Refusal) → P r → Q r' → G r r'

-- any two answers of P are equal
abbrev Once : {A : Type 0} → (Result A Refusal → Type 0) → Type 0
Once P = Both (λ r r'. r ≡ r') P P

-- where G holds of two answers that are the same refusal
module _ {A : Type 0} (G : Result A Refusal → Result A Refusal → Type 0) (refused : (e : Refusal) (r r' : Result A Refusal) → r ≡ Err e → r' ≡ Err e → G r r') where
  -- two answers past a check: both are its refusal, or both come from what is next
  check_both : (bad : Type 0) (e : Refusal) (P Q : Result A Refusal → Type 0) → Both G P Q → Both G (Check bad e P) (Check bad e Q)
  check_both bad e P Q u r r' (inl x) (inl y) = refused e r r' x.1 y.1
  check_both bad e P Q u r r' (inl x) (inr y) = absurd (y.0 x.0)
  check_both bad e P Q u r r' (inr x) (inl y) = absurd (x.0 y.0)
  check_both bad e P Q u r r' (inr x) (inr y) = u r r' x.1 y.1

  -- and so past the check for room
  room_both : (full fits : Type 0) (P Q : Result A Refusal → Type 0)
      → ((r : Result A Refusal) → full → fits → P r → ⊥) → ((r : Result A Refusal) → full → fits → Q r → ⊥)
      → Both G P Q → Both G (Room full fits P) (Room full fits Q)
  room_both full fits P Q p q u r r' (inl x) (inl y) = refused NoRoom r r' x.1 y.1
  room_both full fits P Q p q u r r' (inl x) (inr y) = absurd (q r' x.0 y.0 y.1)
  room_both full fits P Q p q u r r' (inr x) (inl y) = absurd (p r y.0 x.0 x.1)
  room_both full fits P Q p q u r r' (inr x) (inr y) = u r r' x.1 y.1

module _ {A : Type 0} where
  -- equal refusals are equal answers
  same_refusal : (e : Refusal) (r r' : Result A Refusal) → r ≡ Err e → r' ≡ Err e → r ≡ r'
  same_refusal e r r' x y = x ∙ sym y

  -- answers past a check are unique if what is next is
  check_once : (bad : Type 0) (e : Refusal) (P : Result A Refusal → Type 0) → Once P → Once (Check bad e P)
  check_once bad e P u = check_both (λ r r'. r ≡ r') same_refusal bad e P P u

  -- and so past the check for room, if what is full does not fit
  room_once : (full fits : Type 0) (P : Result A Refusal → Type 0) → (fits → ¬ full) → Once P → Once (Room full fits P)
  room_once full fits P n u = room_both (λ r r'. r ≡ r') same_refusal full fits P P (λ r v f x. n f v) (λ r v f x. n f v) u

  -- and so for a slot's list
  listed_once : (c : Slot) (P : List Line → Result A Refusal → Type 0) → ((xs : List Line) → Once (P xs)) → Once (Listed c P)
  listed_once empty P u r r' x y = x ∙ sym y
  listed_once (holds xs) P u r r' x y = u xs r r' x y

-- the count of the held parts is unique
counted_once : {V : Type 0} (b : Book V) → Once (CountsHeld b)
counted_once b r r' (m, e, c) (n, d, g) = e ∙ ap Ok (count_unique c g) ∙ sym d

-- so is a yes or a no
tested_once : (P : Type 0) → Once (λ r. (P × (r ≡ Ok true)) ⊎ (¬ P × (r ≡ Ok false)))
tested_once P r r' (inl x) (inl y) = x.1 ∙ sym y.1
tested_once P r r' (inl x) (inr y) = absurd (y.0 x.0)
tested_once P r r' (inr x) (inl y) = absurd (x.0 y.0)
tested_once P r r' (inr x) (inr y) = x.1 ∙ sym y.1

module _ {V : Type 0} (b : Book V) where
  -- the answer of load is unique
  load_once : (s : ℕ) (xs : List Line) → Once (LoadSays b s xs)
  unfolding LoadSays
  load_once s xs =
      check_once _ NoSlot _ (check_once _ SlotTaken _ (check_once _ TooManyLines _
      (room_once _ _ _ (not_both b.order b.kind b.size (Held b) xs) (counted_once (with_slot b s (holds xs))))))

  -- so is that of clear
  clear_once : (s : ℕ) → Once (ClearSays b s)
  unfolding ClearSays
  clear_once s = check_once _ NoSlot _ (listed_once (b.slot s) _ (λ xs. counted_once (with_slot b s empty)))

  -- of decide
  decide_once : (s : ℕ) (h : Header) → Once (DecideSays b s h)
  unfolding DecideSays
  decide_once s h =
      check_once _ NoSlot _ (listed_once (b.slot s) _ (λ xs r r' (m, e, t) (n, d, u).
      e ∙ ap (λ i. Ok (b.kind.code (verdict (ruling b.kind) xs h), i)) (tally_unique _ width m n t u) ∙ sym d))

  -- of depth
  depth_once : (s : ℕ) → Once (DepthSays b s)
  unfolding DepthSays
  depth_once s =
      check_once _ NoSlot _ (listed_once (b.slot s) _ (λ xs r r' (m, e, t) (n, d, u).
      let x : m ≤ n = u.most t.some m t.real t.reached in
      let y : n ≤ m = t.most u.some n u.real u.reached in
      let z : m ≡ n = omega arith in
      e ∙ ap Ok z ∙ sym d))

  -- of a comparison of two lists
  compared_once : LawfulOrder width b.order → (xs ys : List Line)
      → Once (λ r. (Alike (ruling b.kind) xs ys × (r ≡ Ok None)) ⊎ ((h : Header) × (r ≡ Ok (Some h)) × FirstDiffers b.order b.kind xs ys h))
  compared_once laws xs ys r r' (inl (x, e)) (inl (y, d)) = e ∙ sym d
  compared_once laws xs ys r r' (inl (x, e)) (inr (g, d, z)) = absurd (z.here (x g z.real))
  compared_once laws xs ys r r' (inr (g, d, z)) (inl (x, e)) = absurd (z.here (x g z.real))
  compared_once laws xs ys r r' (inr (g, d, z)) (inr (h, e, y)) =
      d ∙ ap (λ f. Ok (Some f)) (first_unique b.order laws b.kind xs ys g h z y) ∙ sym e

  -- of compare
  compare_once : LawfulOrder width b.order → (s t : ℕ) → Once (CompareSays b s t)
  unfolding CompareSays
  compare_once laws s t =
      check_once _ NoSlot _ (listed_once (b.slot s) _ (λ xs. listed_once (b.slot t) _ (λ ys. compared_once laws xs ys)))

  -- of an idle test
  idle_once : (xs : List Line) (i : ℕ) → Once (IdleSays b xs i)
  unfolding IdleSays
  idle_once xs i =
      check_once _ TooManyLines _ (check_once _ NoLine _
      (room_once _ _ _ (idle_apart b xs i) (tested_once (Idle (ruling b.kind) xs i))))

  -- of a pruning, with the memory after
  prune_once : (xs m m' m'' : List Line) (r r' : Result ℕ Refusal) → PruneSays b xs m r m' → PruneSays b xs m r' m'' → (r ≡ r') × (m' ≡ m'')
  unfolding PruneSays
  prune_once xs m m' m'' r r' (x, p) (y, q) =
      check_both G refused _ TooManyLines _ _ (check_both G refused _ ShortMemory _ _
      (room_both G refused _ _ _ _ (λ a v f (ys, t, e, d). prune_apart b xs ys f t v) (λ a v f (ys, t, e, d). prune_apart b xs ys f t v) pruned)) r r' x y p q
    where
      G : Result ℕ Refusal → Result ℕ Refusal → Type 0
      G a c = KeptWhole b a m m' → KeptWhole b c m m'' → (a ≡ c) × (m' ≡ m'')

      refused : (e : Refusal) (a c : Result ℕ Refusal) → a ≡ Err e → c ≡ Err e → G a c
      refused e a c i j s t = (i ∙ sym j, subst (λ z. KeptWhole b z m m') i s ∙ sym (subst (λ z. KeptWhole b z m m'') j t))

      pruned : Both G
          (λ a. (ys : List Line) × PrunesTo b.order b.kind b.size (HeldWith b xs) (reverse xs) [] ys × (a ≡ Ok (length ys)) × (m' ≡ ys ++ drop (length ys) m))
          (λ a. (ys : List Line) × PrunesTo b.order b.kind b.size (HeldWith b xs) (reverse xs) [] ys × (a ≡ Ok (length ys)) × (m'' ≡ ys ++ drop (length ys) m))
      pruned a c (ys, t, e, d) (zs, u, f, g) s v =
          let w = one_outcome (ruling b.kind) (reverse xs) [] zs ys
          (prunes b.order b.kind b.size (HeldWith b xs) (reverse xs) [] zs u)
          (prunes b.order b.kind b.size (HeldWith b xs) (reverse xs) [] ys t) in
          (e ∙ ap (λ l. Ok (length l)) w ∙ sym f, d ∙ ap (λ l. l ++ drop (length l) m) w ∙ sym g)

  -- the answers are unique
  pub answers_once : LawfulOrder width b.order → AnswersOnce b
  answers_once laws = record {
    load = load_once;
    clear = clear_once;
    decide = decide_once;
    depth = depth_once;
    compare = compare_once laws;
    idle = idle_once;
    prune = λ xs m r r' m' m'' x y. prune_once xs m m' m'' r r' x y;
  }
