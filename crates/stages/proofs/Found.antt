-- The line that is found decides. Assumes nothing.
use Rattle.std.proofs.Common.{◌≡◌, Bool, true, false, cond, List, [], ◌∷◌, map, Some, None, Option, MatchOption, ap, ◌∙◌}
use Rattle.acl.specs.declared.header.Header.{Header}
use Rattle.acl.specs.declared.line.Line.{Line}
use Rattle.acl.specs.Shapes.{shape}
use Rattle.acl.specs.Fits.{line_fits, first_match, found_shape}
use Rattle.model.specs.Rulings.{verdict}
use Rattle.kinds.specs.Kinds.{KindMeaning, heard_of}
use Rattle.kinds.specs.Same.{heard_same}
use Rattle.stages.specs.Lists.{ruling}

-- lines with the same contents are heard alike
heard_alike : (x y : Line) → shape x ≡ shape y → heard_of x ≡ heard_of y
heard_alike x y e = heard_same (heard_of x) (heard_of y) (ap (λ s. s.action) e) (ap (λ s. s.number) e)

module _ {V : Type 0} (k : KindMeaning V) where
  -- the line that is found decides, or the end where none is
  pub found_decides : (xs : List Line) (h : Header) (o : Option Line) (v : V) → found_shape o ≡ first_match (map shape xs) h
      → MatchOption o (v ≡ k.at_end) (λ l. v ≡ k.of_line (heard_of l)) → v ≡ verdict (ruling k) xs h
  found_decides [] h None v e d = d
  found_decides [] h (Some l) v e d = absurd (cc)
  found_decides (x ∷ xs) h o v e d = go (line_fits (shape x) h) o e d (found_decides xs h o v)
    where
      go : (b : Bool) (o : Option Line) → found_shape o ≡ cond b (Some (shape x)) (first_match (map shape xs) h)
          → MatchOption o (v ≡ k.at_end) (λ l. v ≡ k.of_line (heard_of l))
          → (found_shape o ≡ first_match (map shape xs) h → MatchOption o (v ≡ k.at_end) (λ l. v ≡ k.of_line (heard_of l)) → v ≡ verdict (ruling k) xs h)
          → v ≡ cond b (k.of_line (heard_of x)) (verdict (ruling k) xs h)
      go true None e d ih = absurd (cc)
      go true (Some l) e d ih = let s : shape l ≡ shape x = cc in d ∙ ap k.of_line (heard_alike l x s)
      go false o e d ih = ih e d
