-- What a pen writes into text memory, and what it counts. Assumes nothing.
use Rattle.std.specs.Prelude.{◌≡◌, ℕ, ◌+◌, ◌≤◌, ◌^◌, ◌-◌, List, [], ◌∷◌, ◌++◌, length, min}
use lib.Seq.{paste}
use Rattle.acl.specs.Shapes.{Shape}
use Rattle.ios.specs.declared.family.Family.{Family}
use Rattle.ios.specs.declared.family.Family.TheVariants.{Standard, Extended}
use Rattle.writer.specs.declared.pen.Pen.{Pen}
use Rattle.writer.specs.Canon.{network_words, port_words, protocol_word}

-- a count, as far as a `usize` goes
abbrev pub counted : ℕ → ℕ
counted n = min n (2 ^ 64 - 1)

-- bs was counted, and where memory has the room for all of it, written at the pen's place
pub record Wrote (old : Pen) (bs : List ℕ) (new : Pen) : Type 0 where
  pub same : new.memory.ghost_name ≡ old.memory.ghost_name
  pub count : counted new.at ≡ counted (old.at + length bs)
  pub written : old.at + length bs ≤ length old.memory.now → (new.at ≡ old.at + length bs) × (new.memory.now ≡ paste old.memory.now old.at bs (length bs))

-- words with a space before each
abbrev pub words : List (List ℕ) → List ℕ
words [] = []
words (w ∷ ws) = (32 ∷ w) ++ words ws

-- words were written, each after a space
pub record WroteWords (old : Pen) (ws : List (List ℕ)) (new : Pen) : Type 0 where
  pub wrote : Wrote old (words ws) new

-- the words between a line's action and its log
abbrev pub term_words : Family → Shape → List (List ℕ)
term_words Standard l = network_words l.source
term_words Extended l = protocol_word l.protocol ∷ (network_words l.source ++ (port_words l.source.ports ++ (network_words l.destination ++ port_words l.destination.ports)))
