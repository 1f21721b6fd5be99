-- The last stage of a list is first match. Assumes nothing.
use Rattle.std.proofs.Common.{◌≡◌, ℕ, ◌+◌, Bool, true, false, cond, List, [], ◌∷◌, map, sym, refl, ap, ◌∙◌, ap₂, arith}
use Rattle.acl.specs.declared.header.Header.{Header}
use Rattle.acl.specs.declared.line.Line.{Line}
use Rattle.acl.specs.Headers.{header_bit, wide, width, worth}
use Rattle.acl.specs.Shapes.{shape}
use Rattle.acl.specs.Fits.{line_fits}
use Rattle.acl.proofs.Rows.{made_wide}
use Rattle.model.specs.Rows.{Bits}
use Rattle.model.specs.Rulings.{verdict}
use Rattle.model.specs.Stages.{Stage, lay_all, Reads, AllRead, LinesRead}
use Rattle.orders.specs.Meanings.{OrderMeaning, LawfulOrder, by_place, by_number, header_at}
use Rattle.kinds.specs.Kinds.{KindMeaning, heard_of}
use Rattle.pieces.specs.Pieces.{PieceShape, in_piece, pieces, held_by}
use Rattle.pieces.proofs.Covers.{pieces_stand}
use Rattle.stages.specs.Lists.{ruling, line_code, layer_of, layers_of, last_stage}
use Rattle.stages.specs.Stands.{StagesStand, AlikeStands}
use Rattle.stages.proofs.Rounds.{row_agree, header_back}

-- the header is in some of the pieces
abbrev some_in : List PieceShape → Header → Bool
some_in [] h = false
some_in (p ∷ ps) h = cond (in_piece p h) true (some_in ps h)

-- it is in some of them where it is in one, and in none where it is in none
some_held : (ps : List PieceShape) (h : Header) (b : Bool) → held_by ps h ≡ worth b → some_in ps h ≡ b
some_held [] h true e = absurd (omega arith)
some_held [] h false e = refl
some_held (p ∷ ps) h b e = go (in_piece p h) b e (some_held ps h b)
  where
    go : (c d : Bool) → worth c + held_by ps h ≡ worth d → (held_by ps h ≡ worth d → some_in ps h ≡ d) → cond c true (some_in ps h) ≡ d
    go true true f ih = refl
    go true false f ih = absurd (omega arith)
    go false d f ih = ih (omega arith)

-- all pieces of a line, laid one after another: its code where one of them has the header
laid : (o : OrderMeaning) (c : ℕ) (ps : List PieceShape) (s : Stage) (v : Bits)
    → lay_all (map (layer_of o c) ps) s v ≡ cond (some_in ps (header_at o v)) c (s v)
laid o c [] s v = refl
laid o c (p ∷ ps) s v =
    laid o c ps (λ u. cond (in_piece p (header_at o u)) c (s u)) v ∙ swap (some_in ps (header_at o v)) (in_piece p (header_at o v)) (s v)
  where
    swap : (a b : Bool) (z : ℕ) → cond a c (cond b c z) ≡ cond (cond b true a) c z
    swap true true z = refl
    swap true false z = refl
    swap false true z = refl
    swap false false z = refl

module _ (o : OrderMeaning) {V : Type 0} (k : KindMeaning V) where
  -- the last stage at a row of bits is the verdict of its header
  pub stage_row : (xs : List Line) (v : Bits) → last_stage o k xs v ≡ k.code (verdict (ruling k) xs (header_at o v))
  stage_row [] v = refl
  stage_row (x ∷ xs) v =
      laid o (line_code k x) (pieces (shape x)) (last_stage o k xs) v
      ∙ ap₂ (λ b n. cond b (line_code k x) n)
      (some_held (pieces (shape x)) h (line_fits (shape x) h) (pieces_stand (shape x) h (made_wide (by_number o v)))) (stage_row xs v)
      ∙ out (line_fits (shape x) h) (k.of_line (heard_of x)) (verdict (ruling k) xs h)
    where
      h : Header
      h = header_at o v

      out : (b : Bool) (u z : V) → cond b (k.code u) (k.code z) ≡ k.code (cond b u z)
      out true u z = refl
      out false u z = refl

  module _ (laws : LawfulOrder width o) where
    -- and of a header the verdict
    pub stage_header : (xs : List Line) (h : Header) → wide h ≡ true → last_stage o k xs (by_place o (header_bit h)) ≡ k.code (verdict (ruling k) xs h)
    stage_header xs h w = stage_row xs (by_place o (header_bit h)) ∙ ap (λ g. k.code (verdict (ruling k) xs g)) (header_back o laws h w)

    -- it looks at the header's bits alone
    pub stage_reads : (xs : List Line) → Reads width (last_stage o k xs)
    stage_reads xs u v same =
        stage_row xs u ∙ ap (λ g. k.code (verdict (ruling k) xs g)) (row_agree o laws u v same) ∙ sym (stage_row xs v)

    -- so does each piece that is laid
    pieces_read : (c : ℕ) (ps : List PieceShape) → AllRead width (map (layer_of o c) ps)
    pieces_read c [] = tt
    pieces_read c (p ∷ ps) = (λ u v same. ap (in_piece p) (row_agree o laws u v same), pieces_read c ps)

    pub lines_read : (xs : List Line) → LinesRead width (map (layers_of o k) xs)
    lines_read [] = tt
    lines_read (x ∷ xs) = (pieces_read (line_code k x) (pieces (shape x)), lines_read xs)

-- the last stage is first match
pub stages_stand : {V : Type 0} (k : KindMeaning V) → StagesStand k
stages_stand k o laws xs = record {
  headers = stage_header o k laws xs;
  rows = stage_row o k xs;
  reads = stage_reads o k laws xs;
}

-- lists are alike exactly where their last stages are the same
pub alike_stands : {V : Type 0} (k : KindMeaning V) → ((u v : V) → k.code u ≡ k.code v → u ≡ v) → AlikeStands k
alike_stands k apart o laws xs ys = (
  λ same v. stage_row o k xs v ∙ ap k.code (same (header_at o v) (made_wide (by_number o v))) ∙ sym (stage_row o k ys v),
  λ same h w. apart (verdict (ruling k) xs h) (verdict (ruling k) ys h)
      (sym (stage_header o k laws xs h w) ∙ same (by_place o (header_bit h)) ∙ stage_header o k laws ys h w),
)
