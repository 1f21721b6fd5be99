-- What the book answers to each call: the refusals in the sequence of their checks, and otherwise what the subject says.
-- Assumes nothing.
use Rattle.std.specs.Prelude.{◌≡◌, ℕ, ◌<◌, ◌≤◌, Bool, true, false, ◌≢◌, ◌⊎◌, List, [], ◌∷◌, ◌++◌, reverse, length, drop, Some, None, Ok, Err, Option, Result}
use mathlib.Core.List.{reverse_aux}
use Rattle.acl.specs.declared.header.Header.{Header}
use Rattle.acl.specs.declared.line.Line.{Line}
use Rattle.acl.specs.declared.refusal.Refusal.{Refusal}
use Rattle.acl.specs.declared.refusal.Refusal.TheVariants.{NoSlot, SlotTaken, SlotEmpty, TooManyLines, NoRoom, NoLine, ShortMemory}
use Rattle.acl.specs.Headers.{header_bit, wide, width}
use Rattle.model.specs.Rows.{Bits}
use Rattle.model.specs.Sets.{CountIs, Tally}
use Rattle.model.specs.Parts.{Part, Matters, fixed}
use Rattle.model.specs.Rulings.{verdict, Alike, without, Idle}
use Rattle.orders.specs.Meanings.{OrderMeaning, by_place, Before}
use Rattle.kinds.specs.Kinds.{KindMeaning}
use Rattle.stages.specs.Lists.{ruling, last_stage, Fits, Full}
use Rattle.book.specs.Books.{Slot, empty, holds, Book, with_slot, Held, HeldWith}

-- a check: its refusal where it fails, and otherwise what comes next
abbrev pub Check : {A : Type 0} → Type 0 → Refusal → (Result A Refusal → Type 0) → Result A Refusal → Type 0
Check bad e next r = (bad × (r ≡ Err e)) ⊎ (¬ bad × next r)

-- the check for room: refused where there is too little, and otherwise what comes next
abbrev pub Room : {A : Type 0} → Type 0 → Type 0 → (Result A Refusal → Type 0) → Result A Refusal → Type 0
Room full fits next r = (full × (r ≡ Err NoRoom)) ⊎ (fits × next r)

-- the slot is empty, or what comes next for its list
abbrev pub Listed : {A : Type 0} → Slot → (List Line → Result A Refusal → Type 0) → Result A Refusal → Type 0
Listed empty next r = r ≡ Err SlotEmpty
Listed (holds xs) next r = next xs r

-- the slot holds a list
abbrev pub Taken : Slot → Type 0
Taken empty = ⊥
Taken (holds xs) = Unit {0}

-- the answer is the count of the held parts of this book
abbrev pub CountsHeld : {V : Type 0} → Book V → Result ℕ Refusal → Type 0
CountsHeld b r = (n : ℕ) × (r ≡ Ok n) × CountIs (Held b) n

module _ (o : OrderMeaning) {V : Type 0} (k : KindMeaning V) where
  -- a row of bits by place is put to n tests: the places at which what its earlier bits leave is a part
  abbrev pub Tests : List Line → Bits → ℕ → Type 0
  Tests xs v n = Tally (λ p. Matters p (fixed p v (last_stage o k xs))) width n

  -- n is the largest number of tests of any header
  pub record Deepest (xs : List Line) (n : ℕ) : Type 0 where
    pub some : Header
    pub real : wide some ≡ true
    pub reached : Tests xs (by_place o (header_bit some)) n
    pub most : (h : Header) (m : ℕ) → wide h ≡ true → Tests xs (by_place o (header_bit h)) m → m ≤ n

  -- the first header with different verdicts
  pub record FirstDiffers (xs ys : List Line) (h : Header) : Type 0 where
    pub real : wide h ≡ true
    pub here : verdict (ruling k) xs h ≢ verdict (ruling k) ys h
    pub before : (g : Header) → wide g ≡ true → Before o g h → verdict (ruling k) xs g ≡ verdict (ruling k) ys g

  -- Pruning, where each list that is tried fits over S: `front` has the lines not yet tried, last first, and `kept` those
  -- kept so far.
  module _ (n : ℕ) (S : Part → Type 0) where
    abbrev pub PrunesTo : List Line → List Line → List Line → Type 0
    PrunesTo [] kept out = out ≡ kept
    PrunesTo (x ∷ front) kept out =
        Fits o k n S (reverse_aux front kept)
        × ((Alike (ruling k) (reverse_aux front kept) (reverse_aux front (x ∷ kept)) × PrunesTo front kept out)
        ⊎ (¬ Alike (ruling k) (reverse_aux front kept) (reverse_aux front (x ∷ kept)) × PrunesTo front (x ∷ kept) out))

    -- some list that is tried does not fit
    abbrev pub Stuck : List Line → List Line → Type 0
    Stuck [] kept = ⊥
    Stuck (x ∷ front) kept =
        Full o k n S (reverse_aux front kept)
        ⊎ (Fits o k n S (reverse_aux front kept)
        × ((Alike (ruling k) (reverse_aux front kept) (reverse_aux front (x ∷ kept)) × Stuck front kept)
        ⊎ (¬ Alike (ruling k) (reverse_aux front kept) (reverse_aux front (x ∷ kept)) × Stuck front (x ∷ kept))))

module _ {V : Type 0} (b : Book V) where
  -- load a list into a slot
  unfoldable pub LoadSays : ℕ → List Line → Result ℕ Refusal → Type 0
  LoadSays s xs =
      Check (15 < s) NoSlot
      (Check (Taken (b.slot s)) SlotTaken
      (Check (1024 < length xs) TooManyLines
      (Room (Full b.order b.kind b.size (Held b) xs) (Fits b.order b.kind b.size (Held b) xs)
      (CountsHeld (with_slot b s (holds xs))))))

  -- clear a slot
  unfoldable pub ClearSays : ℕ → Result ℕ Refusal → Type 0
  ClearSays s = Check (15 < s) NoSlot (Listed (b.slot s) (λ xs. CountsHeld (with_slot b s empty)))

  -- decide a header in a slot: the verdict's code, and the tests made
  unfoldable pub DecideSays : ℕ → Header → Result (ℕ × ℕ) Refusal → Type 0
  DecideSays s h =
      Check (15 < s) NoSlot
      (Listed (b.slot s)
      (λ xs r. (n : ℕ) × (r ≡ Ok (b.kind.code (verdict (ruling b.kind) xs h), n)) × Tests b.order b.kind xs (by_place b.order (header_bit h)) n))

  -- the depth of a slot
  unfoldable pub DepthSays : ℕ → Result ℕ Refusal → Type 0
  DepthSays s = Check (15 < s) NoSlot (Listed (b.slot s) (λ xs r. (n : ℕ) × (r ≡ Ok n) × Deepest b.order b.kind xs n))

  -- compare two slots: equal, or the first header with different verdicts
  unfoldable pub CompareSays : ℕ → ℕ → Result (Option Header) Refusal → Type 0
  CompareSays s t =
      Check ((15 < s) ⊎ (15 < t)) NoSlot
      (Listed (b.slot s) (λ xs. Listed (b.slot t)
      (λ ys r.
      (Alike (ruling b.kind) xs ys × (r ≡ Ok None))
      ⊎ ((h : Header) × (r ≡ Ok (Some h)) × FirstDiffers b.order b.kind xs ys h))))

  -- what an idle test asks of the table, one way and the other
  abbrev pub IdleFull : List Line → ℕ → Type 0
  IdleFull xs i =
      Full b.order b.kind b.size (Held b) xs ⊎ Full b.order b.kind b.size (HeldWith b xs) (without xs i)

  abbrev pub IdleFits : List Line → ℕ → Type 0
  IdleFits xs i =
      Fits b.order b.kind b.size (Held b) xs × Fits b.order b.kind b.size (HeldWith b xs) (without xs i)

  -- whether a line is idle
  unfoldable pub IdleSays : List Line → ℕ → Result Bool Refusal → Type 0
  IdleSays xs i =
      Check (1024 < length xs) TooManyLines
      (Check (length xs ≤ i) NoLine
      (Room (IdleFull xs i) (IdleFits xs i)
      (λ r. (Idle (ruling b.kind) xs i × (r ≡ Ok true)) ⊎ (¬ Idle (ruling b.kind) xs i × (r ≡ Ok false)))))

  -- what a pruning asks of the table
  abbrev pub PruneFull : List Line → Type 0
  PruneFull xs =
      Full b.order b.kind b.size (Held b) xs ⊎ Stuck b.order b.kind b.size (HeldWith b xs) (reverse xs) []

  -- line memory after a refused pruning is as before
  abbrev pub KeptWhole : Result ℕ Refusal → List Line → List Line → Type 0
  KeptWhole (Ok n) memory memory' = Unit {0}
  KeptWhole (Err e) memory memory' = memory' ≡ memory

  -- prune a list into line memory: the number of lines kept, and the memory after: the kept lines over its front
  unfoldable pub PruneSays : List Line → List Line → Result ℕ Refusal → List Line → Type 0
  PruneSays xs memory r memory' =
      Check (1024 < length xs) TooManyLines
      (Check (length memory < length xs) ShortMemory
      (Room (PruneFull xs) (Fits b.order b.kind b.size (Held b) xs)
      (λ r.
      (ys : List Line) × PrunesTo b.order b.kind b.size (HeldWith b xs) (reverse xs) [] ys × (r ≡ Ok (length ys))
      × (memory' ≡ ys ++ drop (length ys) memory)))) r
      × KeptWhole r memory memory'
