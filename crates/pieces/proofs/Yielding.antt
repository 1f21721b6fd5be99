-- Blocks that come one after another. Assumes nothing.
use Rattle.std.proofs.Common.{◌≡◌, ℕ, ◌+◌, ◌%◌, ◌^◌, ◌<◌, ◌≤◌, List, [], ◌++◌, map, ap, ◌∙◌, ap₂, arith}
use Rattle.std.proofs.lemmas.List.{append-nil}
use Rattle.pieces.specs.Blocks.{BlockShape, largest, between}
use Rattle.acl.specs.Shapes.{Shape}
use Rattle.pieces.specs.Pieces.{piece_of, crossed}
use Rattle.pieces.proofs.Covers.{crossed_none}
use Rattle.pieces.proofs.Cuts.{largest_low, largest_multiple, largest_inside, between_none}

-- with a range without ports after it, a range has the same blocks
pub single : (a c b d : ℕ) → d ≤ b → between a c ++ between b d ≡ between a c
single a c b d h = ap (λ bs. between a c ++ bs) (between_none b d h) ∙ append-nil (between a c)

-- what every block keeps
pub block_facts : (a c e : ℕ) → a < c → c ≤ 65536 → e ≡ largest 16 a c → (e ≤ 16) × (a % 2 ^ e ≡ 0) × (a + 2 ^ e ≤ 65536)
block_facts a c e h k is = (
  rw is (largest_low 16 a c),
  ap (λ n. a % 2 ^ n) is ∙ largest_multiple 16 a c,
  rw is (omega (arith, largest_inside 16 a c h)),
)

-- where the destination has no block, no piece is left
pub no_pieces : (l : Shape) (f : BlockShape) (fs ds ts : List BlockShape) → ds ≡ [] → ts ≡ [] → map (piece_of l f) ds ++ crossed l fs ts ≡ []
no_pieces l f fs ds ts e d = ap₂ (λ a b. map (piece_of l f) a ++ crossed l fs b) e d ∙ crossed_none l fs
