-- One more line of a list: what its text gains, and whether a standard list can hold it. Assumes nothing.
use Rattle.std.proofs.Common.{◌≡◌, ℕ, ◌+◌, ◌<◌, Bool, true, false, cond, ◌&&◌, List, [], ◌∷◌, ◌++◌, map, length, get_or, take, sym, ap, refl, ◌∙◌, append_assoc, append-nil}
use Rattle.std.proofs.lemmas.List.{take_more}
use Rattle.std.specs.List.{list_all}
use Rattle.acl.specs.declared.line.Line.{Line}
use Rattle.acl.specs.Shapes.{shape}
use Rattle.ios.specs.declared.family.Family.{Family}
use Rattle.writer.specs.Canon.{line_bytes, list_bytes}
use Rattle.writer.specs.Writing.{standard_line, all_standard}

list_append : (n : ℕ) (f : Family) (ls : List Line) (x : Line) → list_bytes n f (map shape (ls ++ (x ∷ []))) ≡ list_bytes n f (map shape ls) ++ line_bytes n f (shape x)
list_append n f [] x = append-nil (line_bytes n f (shape x))
list_append n f (l ∷ ls) x = ap (λ bs. line_bytes n f (shape l) ++ bs) (list_append n f ls x) ∙ sym (append_assoc (line_bytes n f (shape l)) (list_bytes n f (map shape ls)) (line_bytes n f (shape x)))

-- the text of the lines up to line i
pub list_more : (n : ℕ) (f : Family) (ls : List Line) (i : ℕ) (x : Line) → x ≡ get_or ls i x → i < length ls → list_bytes n f (map shape (take i ls)) ++ line_bytes n f (shape x) ≡ list_bytes n f (map shape (take (i + 1) ls))
list_more n f ls i x is lt = sym (ap (λ l. list_bytes n f (map shape l)) (take_more ls i x lt ∙ ap (λ y. take i ls ++ (y ∷ [])) (sym is)) ∙ list_append n f (take i ls) x)

both : (a b c : Bool) → b ≡ c → (a && b) ≡ cond a c false
both true b c e = e
both false b c e = refl

-- a standard list can hold all lines where it can hold each
pub each_standard : (ls : List Line) → list_all (λ l. standard_line (shape l)) ls ≡ all_standard (map shape ls)
each_standard [] = refl
each_standard (l ∷ ls) = both (standard_line (shape l)) _ _ (each_standard ls)
