-- What is promised of the book's answers, in words of headers, verdicts and parts. Assumes nothing.
use Rattle.std.specs.Prelude.{◌≡◌, ℕ, ◌<◌, ◌≤◌, Bool, true, false, ◌≢◌, ◌↔◌, List, ◌++◌, length, drop, Some, None, Ok, Err, Option, Result}
use Rattle.acl.specs.declared.header.Header.{Header}
use Rattle.acl.specs.declared.line.Line.{Line}
use Rattle.acl.specs.declared.refusal.Refusal.{Refusal}
use Rattle.acl.specs.declared.refusal.Refusal.TheVariants.{NoRoom}
use Rattle.acl.specs.Headers.{header_bit, wide, width}
use Rattle.model.specs.Rulings.{verdict, without, Idle}
use Rattle.orders.specs.Meanings.{LawfulOrder, by_place}
use Rattle.stages.specs.Lists.{ruling, Full}
use Rattle.book.specs.Books.{empty, holds, Book, Held}
use Rattle.book.specs.Answers.{Tests, FirstDiffers, LoadSays, ClearSays, DecideSays, DepthSays, CompareSays, IdleFull, IdleSays, PruneFull, PruneSays}

module _ {V : Type 0} (b : Book V) where
  -- The answers are unique: two answers to one call from one book are equal.
  pub record AnswersOnce : Type 0 where
    pub load : (s : ℕ) (xs : List Line) (r r' : Result ℕ Refusal) → LoadSays b s xs r → LoadSays b s xs r' → r ≡ r'
    pub clear : (s : ℕ) (r r' : Result ℕ Refusal) → ClearSays b s r → ClearSays b s r' → r ≡ r'
    pub decide : (s : ℕ) (h : Header) (r r' : Result (ℕ × ℕ) Refusal) → DecideSays b s h r → DecideSays b s h r' → r ≡ r'
    pub depth : (s : ℕ) (r r' : Result ℕ Refusal) → DepthSays b s r → DepthSays b s r' → r ≡ r'
    pub compare : (s t : ℕ) (r r' : Result (Option Header) Refusal) → CompareSays b s t r → CompareSays b s t r' → r ≡ r'
    pub idle : (xs : List Line) (i : ℕ) (r r' : Result Bool Refusal) → IdleSays b xs i r → IdleSays b xs i r' → r ≡ r'
    pub prune : (xs m : List Line) (r r' : Result ℕ Refusal) (m' m'' : List Line)
        → PruneSays b xs m r m' → PruneSays b xs m r' m'' → (r ≡ r') × (m' ≡ m'')

  -- Two loaded slots are reported equal exactly when no header gets different verdicts from the lists loaded there;
  -- otherwise the reported header does, and every header before it in the order gets equal ones.
  pub record Compared (xs ys : List Line) (r : Result (Option Header) Refusal) : Type 0 where
    pub equal_exactly : (r ≡ Ok None) ↔ ((h : Header) → wide h ≡ true → verdict (ruling b.kind) xs h ≡ verdict (ruling b.kind) ys h)
    pub otherwise : r ≢ Ok None → (h : Header) × (r ≡ Ok (Some h)) × FirstDiffers b.order b.kind xs ys h

  -- An idle test that is not refused calls its line idle exactly when the list without it gives every header the old
  -- verdict.
  pub record Tested (xs : List Line) (i : ℕ) (r : Result Bool Refusal) : Type 0 where
    pub idle_exactly : (r ≡ Ok true) ↔ ((h : Header) → wide h ≡ true → verdict (ruling b.kind) (without xs i) h ≡ verdict (ruling b.kind) xs h)
    pub otherwise : r ≢ Ok true → r ≡ Ok false

  -- A pruned list gives every header the old verdict, none of its lines is idle, and memory past it is as before.
  pub record Pruning (xs m : List Line) (r : Result ℕ Refusal) (m' : List Line) : Type 0 where
    pub kept : List Line
    pub answer : r ≡ Ok (length kept)
    pub memory : m' ≡ kept ++ drop (length kept) m
    pub alike : (h : Header) → wide h ≡ true → verdict (ruling b.kind) kept h ≡ verdict (ruling b.kind) xs h
    pub none_idle : (i : ℕ) → i < length kept → ¬ Idle (ruling b.kind) kept i

  -- For a loaded list, decide gives every header the verdict of first match and the count of bits tested.
  abbrev pub Decided : List Line → Header → Result (ℕ × ℕ) Refusal → Type 0
  Decided xs h r =
      (n : ℕ) × (r ≡ Ok (b.kind.code (verdict (ruling b.kind) xs h), n)) × Tests b.order b.kind xs (by_place b.order (header_bit h)) n

  -- Where the other checks pass, a call is refused for want of room exactly when the count of parts at some piece exceeds
  -- the table.
  pub record Promised : Type 0 where
    pub load : (s : ℕ) (xs : List Line) (r : Result ℕ Refusal) → s ≤ 15 → b.slot s ≡ empty → length xs ≤ 1024 → LoadSays b s xs r
        → (r ≡ Err NoRoom) ↔ Full b.order b.kind b.size (Held b) xs
    pub decide : (s : ℕ) (h : Header) (xs : List Line) (r : Result (ℕ × ℕ) Refusal) → s ≤ 15 → b.slot s ≡ holds xs → DecideSays b s h r → Decided xs h r
    pub compare : (s t : ℕ) (xs ys : List Line) (r : Result (Option Header) Refusal) → s ≤ 15 → t ≤ 15 → b.slot s ≡ holds xs → b.slot t ≡ holds ys
        → CompareSays b s t r → Compared xs ys r
    pub idle : (xs : List Line) (i : ℕ) (r : Result Bool Refusal) → length xs ≤ 1024 → i < length xs → IdleSays b xs i r
        → ((r ≡ Err NoRoom) ↔ IdleFull b xs i) × (r ≢ Err NoRoom → Tested xs i r)
    pub prune : (xs m : List Line) (r : Result ℕ Refusal) (m' : List Line) → length xs ≤ 1024 → length xs ≤ length m → PruneSays b xs m r m'
        → ((r ≡ Err NoRoom) ↔ PruneFull b xs) × (r ≢ Err NoRoom → Pruning xs m r m')

-- so it is for every book with a lawful order
pub record BookStands {V : Type 0} (b : Book V) : Type 0 where
  pub once : AnswersOnce b
  pub promised : Promised b

abbrev pub BooksStand : Type 0 → Type 0
BooksStand V = (b : Book V) → LawfulOrder width b.order → BookStands b
