-- What a step of reading does to the words of a text line, by the grammar. Assumes nothing.
use Rattle.std.proofs.Common.{◌≡◌, ℕ, ◌≤◌, List, [], ◌∷◌, ◌++◌, map, Ok, decimal}
use Rattle.words.specs.Words.{Spanned, bytes_of}
use Rattle.words.specs.Cursor.{Rest, rest_by, place_by, Step}

-- a form of one word
pub record One {A : Type 0} (R : List ℕ → A → Type 0) (ws : List (List ℕ)) (a : A) : Type 0 where
  pub word : List ℕ
  pub only : ws ≡ word ∷ []
  pub text : R word a

-- the decimal of a number from low to high
pub record NumberText (low high : ℕ) (w : List ℕ) (n : ℕ) : Type 0 where
  pub bytes : w ≡ decimal n
  pub least : low ≤ n
  pub most : n ≤ high

-- the first of the words ws, if there is one, and then others
abbrev pub headed : List Spanned → List Spanned → List Spanned
headed [] more = []
headed (w ∷ ws) more = w ∷ more

-- a step took the first words of ws, which have the form R of a, and left r; and so it does whatever follows the next word
pub record Took {A : Type 0} (R : List (List ℕ) → A → Type 0) (step : Rest → Step A) (z : ℕ) (ws : List Spanned) (a : A) (r : Rest) : Type 0 where
  pub used : List Spanned
  pub left : List Spanned
  pub split : ws ≡ used ++ left
  pub rest : r ≡ rest_by z left
  pub text : R (map bytes_of used) a
  pub same : (more : List Spanned) → step (rest_by z (used ++ headed left more)) ≡ Ok (a, rest_by z (headed left more))

-- a step stopped at column c, and the words before it begin something of the form R; and it takes nothing that begins
-- with them and the word there
pub record Began {A D : Type 0} (R : List (List ℕ) → A → Type 0) (step : Rest → Step D) (z : ℕ) (ws : List Spanned) (c : ℕ) : Type 0 where
  pub before : List Spanned
  pub after : List Spanned
  pub split : ws ≡ before ++ after
  pub column : c ≡ place_by z after
  pub more : List (List ℕ)
  pub value : A
  pub text : R (map bytes_of before ++ more) value
  pub worst : (others : List Spanned) (p : D × Rest) → step (rest_by z (before ++ headed after others)) ≡ Ok p → ⊥
