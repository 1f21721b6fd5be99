-- The blocks that a port test is cut into. Assumes nothing.
use Rattle.std.specs.Prelude.{◌≡◌, ℕ, zero, suc, ◌+◌, ◌-◌, ◌%◌, ◌^◌, ◌<◌, ◌≤◌, Bool, true, cond, ◌&&◌, List, [], ◌∷◌, ◌++◌, ◌==◌, nat_le, nat_lt}
use Rattle.acl.specs.declared.terms.PortTest.{PortTest}
use Rattle.acl.specs.declared.terms.PortTest.TheVariants.{Any, Eq, Neq, Lt, Gt, Range}
use Rattle.acl.specs.Terms.{port_fits, ports_narrow}
use Rattle.acl.specs.Headers.{worth}

-- A block: 2 ^ exponent ports from start on.
pub record BlockShape : Type 0 where
  pub start : ℕ
  pub exponent : ℕ

-- how many ports a block has
abbrev pub size_of : BlockShape → ℕ
size_of b = 2 ^ b.exponent

-- the port is in the block
abbrev pub in_block : BlockShape → ℕ → Bool
in_block b n = nat_le b.start n && nat_lt n (b.start + size_of b)

-- a block of 2 ^ e ports can start at a: at a multiple of its size, and staying below c
abbrev pub goes : ℕ → ℕ → ℕ → Bool
goes e a c = a % 2 ^ e == 0 && nat_le (a + 2 ^ e) c

-- the largest exponent up to e of a block that can start at a and stays below c
unfoldable pub largest : ℕ → ℕ → ℕ → ℕ
largest zero a c = 0
largest (suc e) a c = cond (goes (suc e) a c) (suc e) (largest e a c)

-- the block from a on, below c: no block has more than all 65,536 ports
abbrev pub block_from : ℕ → ℕ → BlockShape
block_from a c = record { start = a; exponent = largest 16 a c }

-- the blocks of the ports from a up to, and without, c; there are no more than n
unfoldable pub cut : ℕ → ℕ → ℕ → List BlockShape
cut zero a c = []
cut (suc n) a c = cond (nat_lt a c) (block_from a c ∷ cut n (a + 2 ^ largest 16 a c) c) []

-- the same, where the number of ports bounds that of the blocks
unfoldable pub between : ℕ → ℕ → List BlockShape
between a c = cut (c - a) a c

-- the blocks of a port test: those of its range, or for neq of the range below and then of the range above
unfoldable pub blocks : PortTest → List BlockShape
blocks Any = between 0 65536
blocks (Eq n) = between n (n + 1)
blocks (Neq n) = between 0 n ++ between (n + 1) 65536
blocks (Lt n) = between 0 n
blocks (Gt n) = between (n + 1) 65536
blocks (Range a b) = between a (b + 1)

-- how many of the blocks have the port
abbrev pub holding : List BlockShape → ℕ → ℕ
holding [] n = 0
holding (b ∷ bs) n = worth (in_block b n) + holding bs n

-- each block starts where the one before it ends, or later; the first at a or later
abbrev pub RisingFrom : ℕ → List BlockShape → Type 0
RisingFrom a [] = Unit {0}
RisingFrom a (b ∷ bs) = (a ≤ b.start) × RisingFrom (b.start + size_of b) bs

-- e is the largest exponent of all that can start at a and stay below c
pub record Largest (a c e : ℕ) : Type 0 where
  pub can : goes e a c ≡ true
  pub most : (d : ℕ) → goes d a c ≡ true → d ≤ e

-- the ports from a up to, and without, c are cut from the low end, each block the largest
pub data CutInto : ℕ → ℕ → List BlockShape → Type 0 where
  done : {a c : ℕ} → c ≤ a → CutInto a c []
  more : {a c e : ℕ} {bs : List BlockShape} → a < c → Largest a c e → CutInto (a + 2 ^ e) c bs
      → CutInto a c (record { start = a; exponent = e } ∷ bs)

-- the blocks of a test, in these words: its range is cut so, or for neq the range below and then the range above
abbrev pub TestCut : PortTest → List BlockShape → Type 0
TestCut Any bs = CutInto 0 65536 bs
TestCut (Eq n) bs = CutInto n (n + 1) bs
TestCut (Neq n) bs = (below : List BlockShape) × (above : List BlockShape) × (bs ≡ below ++ above) × CutInto 0 n below × CutInto (n + 1) 65536 above
TestCut (Lt n) bs = CutInto 0 n bs
TestCut (Gt n) bs = CutInto (n + 1) 65536 bs
TestCut (Range a b) bs = CutInto a (b + 1) bs

-- What the blocks of a test are: a port that the test fits is in one block, and any other in none; they stand in
-- rising sequence; and each range is cut from its low end into largest blocks.
pub record BlocksStand (t : PortTest) : Type 0 where
  pub exact : (n : ℕ) → n < 65536 → holding (blocks t) n ≡ worth (port_fits t n)
  pub rising : RisingFrom 0 (blocks t)
  pub cut_so : ports_narrow t ≡ true → TestCut t (blocks t)
