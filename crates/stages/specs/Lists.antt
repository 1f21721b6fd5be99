-- Lists of lines: their verdicts, their stages and their parts, under an order and a kind. Assumes nothing.
use Rattle.std.specs.Prelude.{ℕ, List, map}
use Rattle.acl.specs.declared.header.Header.{Header}
use Rattle.acl.specs.declared.line.Line.{Line}
use Rattle.acl.specs.Headers.{wide}
use Rattle.acl.specs.Shapes.{shape}
use Rattle.acl.specs.Fits.{line_fits}
use Rattle.model.specs.Rulings.{Ruling}
use Rattle.model.specs.Stages.{Stage, Layer, last_of}
use Rattle.model.specs.Parts.{Part, PartOf, FitOver, Overfull}
use Rattle.orders.specs.Meanings.{OrderMeaning, header_at}
use Rattle.kinds.specs.Kinds.{KindMeaning, heard_of}
use Rattle.pieces.specs.Pieces.{PieceShape, in_piece, pieces}

module _ {V : Type 0} (k : KindMeaning V) where
  -- what lists decide by: headers are five numbers of their widths, a line fits as it says, and the kind has the verdicts
  abbrev pub ruling : Ruling Header Line V
  ruling = record {
    real = wide;
    fits = λ x h. line_fits (shape x) h;
    says = λ x. k.of_line (heard_of x);
    at_end = k.at_end;
  }

  -- the code of a line's verdict, and of the verdict at the end of a list
  abbrev pub line_code : Line → ℕ
  line_code x = k.code (k.of_line (heard_of x))

  abbrev pub end_code : ℕ
  end_code = k.code k.at_end

-- a piece as it is laid: the headers in it, by their bits as the order tests them, and the code that they get
abbrev pub layer_of : OrderMeaning → ℕ → PieceShape → Layer
layer_of o c p = record { holds = λ v. in_piece p (header_at o v); code = c }

module _ (o : OrderMeaning) {V : Type 0} (k : KindMeaning V) where
  -- the pieces of a line as they are laid
  abbrev pub layers_of : Line → List Layer
  layers_of x = map (layer_of o (line_code k x)) (pieces (shape x))

  -- the last stage of a list
  abbrev pub last_stage : List Line → Stage
  last_stage xs = last_of (end_code k) (map layers_of xs)

  -- the parts of a list are those of its last stage
  abbrev pub PartsOf : List Line → Part → Type 0
  PartsOf xs = PartOf (last_stage xs)

  module _ (n : ℕ) (S : Part → Type 0) where
    -- a list fits over a set of parts: at each piece, that set, the stage before and the stage after have together at
    -- most n parts
    abbrev pub Fits : List Line → Type 0
    Fits xs = FitOver n S (end_code k) (map layers_of xs)

    -- or it does not: at some piece the count of them exceeds n
    abbrev pub Full : List Line → Type 0
    Full xs = Overfull n S (end_code k) (map layers_of xs)
