-- The reader's loops over the text lines. Assumes nothing.
use Rattle.std.proofs.Common.{◌≡◌, ℕ, zero, suc, ◌+◌, ◌-◌, ◌<◌, ◌≤◌, List, [], ◌∷◌, ◌++◌, map, length, take, drop, set, Some, Ok, Option, Result, sym, refl, ap, ◌∙◌, arith}
use Rattle.acl.specs.declared.line.Line.{Line}
use Rattle.acl.specs.Shapes.{Shape, shape}
use Rattle.words.specs.Lines.{text_lines}
use Rattle.ios.specs.declared.entry.Entry.{Entry}
use Rattle.ios.specs.declared.outcome.Fault.{Fault}
use Rattle.ios.specs.declared.outcome.Reading.{Reading}
use Rattle.ios.specs.declared.state.State.{State}
use Rattle.ios.specs.Entries.{entry_shape, numbered}
use Rattle.ios.specs.Reading.{Text, scan, text_of, counted_by, counted, over}
use Rattle.ios.specs.Folding.{stepped, Steps}

-- what is still to be read in a state, with these bytes left
abbrev pub on_from : State → List ℕ → Text
on_from s left = scan (s.line + 1) s.count s.known (text_lines left)

-- one step goes on from there
step_on : (before after : State) (left more bytes : List ℕ) (r : Result (Option Entry) Fault)
    → text_lines left ≡ bytes ∷ text_lines more → Steps before after bytes r → on_from before left ≡ stepped r after.count (on_from after more)
step_on before after left more bytes r cut s =
    ap (scan (before.line + 1) before.count before.known) cut
    ∙ s.text (λ n m. scan (before.line + 1 + 1) m n (text_lines more))
    ∙ ap (λ t. stepped r after.count (scan (t + 1) after.count after.known (text_lines more))) (sym s.line)

-- a text's answer, where k lines stand before the rest of it
abbrev pub counted_on : ℕ → Text → Result Reading Fault
counted_on k t = counted_by t.known (k + length t.lines) t.fault

-- the first pass: the answer is that of the rest, after the lines so far
pub record Counting (text : List ℕ) (s : State) (left : List ℕ) : Type 0 where
  pub bound : s.line + length left ≤ length text
  pub few : s.count ≤ 1024
  pub same : counted (text_of text) ≡ counted_on s.count (on_from s left)

-- a line written at the end of the front leaves the rest to be written
over_at : (m : List Line) (k : ℕ) (x : Line) (ss : List Shape) → k < length m
    → take k (map shape m) ++ over (shape x ∷ ss) (drop k (map shape m)) ≡ take (suc k) (map shape (set m k x)) ++ over ss (drop (suc k) (map shape (set m k x)))
over_at [] k x ss lt = absurd (omega arith)
over_at (y ∷ ys) zero x ss lt = refl
over_at (y ∷ ys) (suc k) x ss lt = ap (λ l. shape y ∷ l) (over_at ys k x ss (omega arith))

-- the second pass: the front of memory is written, and the rest is still to come
pub record Filling (text : List ℕ) (old : List Shape) (room : ℕ) (s : State) (left : List ℕ) (m : List Line) : Type 0 where
  pub bound : s.line + length left ≤ length text
  pub few : s.count ≤ 1024
  pub fits : s.count + length (on_from s left).lines ≤ room
  pub so_far : over (text_of text).lines old ≡ take s.count (map shape m) ++ over (on_from s left).lines (drop s.count (map shape m))

pub filling_some : (text : List ℕ) (old : List Shape) (room : ℕ) (before after : State) (left more bytes : List ℕ) (m : List Line) (e : Entry) (x : Line)
    → Filling text old room before left m → text_lines left ≡ bytes ∷ text_lines more → length more < length left → Steps before after bytes (Ok (Some e))
    → length m ≡ room → shape x ≡ numbered after.count (entry_shape e) → Filling text old room after more (set m (after.count - 1) x)
filling_some text old room before after left more bytes m e x h cut less s same is =
    let k = before.count in
    let rest = (on_from after more).lines in
    let on : (on_from before left).lines ≡ shape x ∷ rest = ap (λ t. t.lines) (step_on before after left more bytes (Ok (Some e)) cut s) ∙ ap (λ y. y ∷ rest) (sym is) in
    let at : k ≡ after.count - 1 = omega (arith, s.count) in
    let next : suc k ≡ after.count = omega (arith, s.count) in
    record {
      bound = omega (arith, h.bound, s.line);
      few = s.few;
      fits = omega (arith, h.fits, ap length on, s.count);
      so_far = h.so_far
          ∙ ap (λ ls. take k (map shape m) ++ over ls (drop k (map shape m))) on
          ∙ over_at m k x rest (omega (arith, h.fits, ap length on, same))
          ∙ ap (λ j. take j (map shape (set m k x)) ++ over rest (drop j (map shape (set m k x)))) next
          ∙ ap (λ j. take after.count (map shape (set m j x)) ++ over rest (drop after.count (map shape (set m j x)))) at;
    }
