-- What `tidy` owes: the same list, in a form that it leaves as it is. Assumes nothing.
use Rattle.std.specs.Prelude.{◌≡◌, ℕ, List, [], Ok}
use Rattle.ios.specs.declared.outcome.Reading.{Reading}
use Rattle.ios.specs.Reading.{read_of, text_of, reading}
use Rattle.writer.specs.Back.{number_back}
use Rattle.writer.specs.Writing.{write_of}
use Rattle.tidying.specs.Output.{tidied_of}

-- an input is tidied if it is read and its canonical text is not too long
pub record Tidies (input : List ℕ) (r : Reading) : Type 0 where
  pub length : ℕ
  pub read : read_of input 1024 ≡ Ok r
  pub written : write_of (text_of input).lines r.number 65536 ≡ Ok length

-- the same list, in a form that stays
pub record TidiedStands : Type 0 where
  -- the output reads as the same list; a list without lines leaves no number
  pub same : (input : List ℕ) (r : Reading) → Tidies input r
      → (read_of (tidied_of input) 1024 ≡ Ok (reading (number_back (text_of input).lines r.number) r.count)) × ((text_of (tidied_of input)).lines ≡ (text_of input).lines)
  -- tidied once more, it stays as it is
  pub again : (input : List ℕ) (r : Reading) → Tidies input r → tidied_of (tidied_of input) ≡ tidied_of input
  -- a list without lines prints nothing
  pub nothing : (input : List ℕ) (r : Reading) → read_of input 1024 ≡ Ok r → (text_of input).lines ≡ [] → tidied_of input ≡ []
