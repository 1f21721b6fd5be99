-- One step of a walk over the lines. Assumes nothing.
use Rattle.std.proofs.Common.{◌≡◌, ℕ, ◌+◌, ◌<◌, ◌≤◌, true, false, cond, List, map, length, get_or, drop, Some, None, sym, ap, ◌∙◌, add-one, drop-cons}
use Rattle.std.proofs.lemmas.List.{drop_all}
use Rattle.acl.specs.declared.header.Header.{Header}
use Rattle.acl.specs.declared.line.Line.{Line}
use Rattle.acl.specs.Shapes.{shape}
use Rattle.acl.specs.Fits.{line_fits, first_match}

-- after i lines: the first match is that of the lines from i on, and is none where no line is left
pub record Walked (ls : List Line) (h : Header) (i : ℕ) : Type 0 where
  pub rest : first_match (map shape ls) h ≡ first_match (map shape (drop i ls)) h
  pub none : length ls ≤ i → None ≡ first_match (map shape ls) h

-- from line i on, the first match is line i where it fits, and otherwise that of the lines after it
pub at : (ls : List Line) (i : ℕ) (h : Header) (x : Line) → x ≡ get_or ls i x → i < length ls → first_match (map shape (drop i ls)) h ≡ cond (line_fits (shape x) h) (Some (shape x)) (first_match (map shape (drop (i + 1) ls)) h)
at ls i h x is lt = rw (add-one, drop-cons ls i x lt, ← is)

-- line i does not fit
pub skips : (ls : List Line) (i : ℕ) (h : Header) (x : Line) → x ≡ get_or ls i x → i < length ls → false ≡ line_fits (shape x) h → first_match (map shape (drop i ls)) h ≡ first_match (map shape (drop (i + 1) ls)) h
skips ls i h x is lt no-fit = at ls i h x is lt ∙ ap (λ b. cond b (Some (shape x)) (first_match (map shape (drop (i + 1) ls)) h)) (sym no-fit)

-- line i fits
pub takes : (ls : List Line) (i : ℕ) (h : Header) (x : Line) → x ≡ get_or ls i x → i < length ls → true ≡ line_fits (shape x) h → first_match (map shape (drop i ls)) h ≡ Some (shape x)
takes ls i h x is lt fit = at ls i h x is lt ∙ ap (λ b. cond b (Some (shape x)) (first_match (map shape (drop (i + 1) ls)) h)) (sym fit)

-- the first of the two facts gives the other
pub walked : (ls : List Line) (h : Header) (i : ℕ) → first_match (map shape ls) h ≡ first_match (map shape (drop i ls)) h → Walked ls h i
walked ls h i rest = record { rest = rest; none = λ ge. sym (rest ∙ ap (λ l. first_match (map shape l) h) (drop_all i ls ge)) }
