-- Stages of a list: what the lines taken so far say of each header. Assumes nothing.
use Rattle.std.specs.Prelude.{◌≡◌, Bool, cond, List, [], ◌∷◌, ℕ}
use Rattle.model.specs.Rows.{Bits, AgreeBelow}

-- A stage: the code of each header's verdict, by the header's bits as the order tests them.
abbrev pub Stage : Type 0
Stage = Bits → ℕ

-- A piece as it is laid: which headers are in it, and the code that they get.
pub record Layer : Type 0 where
  pub holds : Bits → Bool
  pub code : ℕ

-- the stage that a piece makes of the one before: the line's verdict in the piece, and the old one elsewhere
abbrev pub lay : Layer → Stage → Stage
lay l s v = cond (l.holds v) l.code (s v)

-- the pieces of one line, the first one first
abbrev pub lay_all : List Layer → Stage → Stage
lay_all [] s = s
lay_all (l ∷ ls) s = lay_all ls (lay l s)

-- The last stage of a list, given the pieces of each line and the code at the end of the list. Stage 0 gives
-- every header the end verdict, and lines are taken from last to first.
abbrev pub last_of : ℕ → List (List Layer) → Stage
last_of end [] = λ v. end
last_of end (x ∷ xs) = lay_all x (last_of end xs)

-- only the bits below w count
abbrev pub Reads : {A : Type 0} → ℕ → (Bits → A) → Type 0
Reads w f = (u v : Bits) → AgreeBelow w u v → f u ≡ f v

-- every piece that is laid looks at the bits below w alone
abbrev pub AllRead : ℕ → List Layer → Type 0
AllRead w [] = Unit {0}
AllRead w (l ∷ ls) = Reads w l.holds × AllRead w ls

-- and so in each of a list's lines
abbrev pub LinesRead : ℕ → List (List Layer) → Type 0
LinesRead w [] = Unit {0}
LinesRead w (x ∷ xs) = AllRead w x × LinesRead w xs
