-- When a word is a keyword, and when it opens a comment. Assumes nothing.
use Rattle.std.specs.Prelude.{ℕ, Bool, false, List, [], ◌∷◌, ◌==◌}
use Rattle.std.specs.Str.{bytes_eq}

-- a word is a keyword that has the same bytes
abbrev pub named : List ℕ → List ℕ → Bool
named w k = bytes_eq w k

-- a word that begins with ! opens a comment
abbrev pub comment : List ℕ → Bool
comment [] = false
comment (b ∷ bs) = b == 33
