-- Parts of a stage, and when a list fits over a set of parts. Assumes nothing.
use Rattle.std.specs.Prelude.{◌≡◌, ◌⊎◌, ◌≢◌, true, false, List, [], ◌∷◌, ℕ, ◌<◌}
use Rattle.model.specs.Rows.{Bits, splice, put}
use Rattle.model.specs.Sets.{◌∈◌, CountIs, AtMost, Either}
use Rattle.model.specs.Stages.{Stage, Layer, lay, last_of}

-- what remains of a stage when the bits before p are fixed as in u: a function of the bits at p and after
abbrev pub fixed : ℕ → Bits → Stage → Stage
fixed p u s v = s (splice p u v)

-- changing the bit at p alone can change the verdict
pub record Matters (p : ℕ) (s : Stage) : Type 0 where
  pub at : Bits
  pub changes : s (put p false at) ≢ s (put p true at)

-- A place and a function of the bits at and after it. Two parts are the same if both are.
pub record Part : Type 0 where
  pub place : ℕ
  pub left : Stage

-- x is a part of s
pub record PartOf (s : Stage) (x : Part) : Type 0 where
  pub fixing : Bits
  pub is : x.left ≡ fixed x.place fixing s
  pub matters : Matters x.place x.left

-- x is a part of one of these stages
pub record PartOfSome (stages : List Stage) (x : Part) : Type 0 where
  pub stage : Stage
  pub one : stage ∈ stages
  pub part : PartOf stage x

-- at a piece: the set, the stage before and the stage after, together
abbrev pub AtPiece : (Part → Type 0) → Stage → Layer → Part → Type 0
AtPiece S s l = Either S (Either (PartOf s) (PartOf (lay l s)))

-- N is the number of nodes, and S the set of parts
module _ (n : ℕ) (S : Part → Type 0) where
  -- at each of these pieces there are at most n parts
  abbrev pub FitPieces : Stage → List Layer → Type 0
  FitPieces s [] = Unit {0}
  FitPieces s (l ∷ ls) = AtMost n (AtPiece S s l) × FitPieces (lay l s) ls

  -- at some of them the count of parts exceeds n
  abbrev pub OverPieces : Stage → List Layer → Type 0
  OverPieces s [] = ⊥
  OverPieces s (l ∷ ls) = ((c : ℕ) × CountIs (AtPiece S s l) c × (n < c)) ⊎ OverPieces (lay l s) ls

  -- the list fits over S: at each piece there are at most n parts
  abbrev pub FitOver : ℕ → List (List Layer) → Type 0
  FitOver end [] = Unit {0}
  FitOver end (x ∷ xs) = FitOver end xs × FitPieces (last_of end xs) x

  -- it does not: at some piece the count of parts exceeds n
  abbrev pub Overfull : ℕ → List (List Layer) → Type 0
  Overfull end [] = ⊥
  Overfull end (x ∷ xs) = Overfull end xs ⊎ OverPieces (last_of end xs) x
