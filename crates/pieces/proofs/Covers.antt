-- The blocks of a port test hold the ports that it fits, and the pieces of a line the headers that it fits. Assumes nothing.
use Rattle.std.proofs.Common.{◌≡◌, ℕ, ◌+◌, ◌*◌, ◌<◌, Bool, true, false, cond, not, ◌&&◌, eqb, ltb, leb, List, [], ◌∷◌, ◌++◌, map, sym, refl, ap, ◌∙◌, add_assoc, add-mul, zero-add, mul-add, arith}
use Rattle.std.proofs.lemmas.Bool.Decides.{nat_tests}
use Rattle.acl.specs.Bits.{alike}
use Rattle.acl.specs.Headers.{worth}
use Rattle.std.proofs.lemmas.Bool.{ltb-true}
use Rattle.acl.specs.Terms.{port_fits, ports_narrow, protocol_fits}
use Rattle.acl.specs.Shapes.{Shape}
use Rattle.acl.specs.declared.header.Header.{Header}
use Rattle.acl.specs.declared.terms.PortTest.{PortTest}
use Rattle.acl.specs.declared.terms.PortTest.TheVariants.{Any, Eq, Neq, Lt, Gt, Range}
use Rattle.acl.proofs.Rows.{widths}
use Rattle.pieces.specs.Blocks.{BlockShape, in_block, between, blocks, holding, RisingFrom, TestCut, BlocksStand}
use Rattle.pieces.specs.Pieces.{PieceShape, fits_but_ports, in_piece, piece_of, crossed, pieces, held_by, PiecesStand}
use Rattle.pieces.proofs.Cuts.{in_range, holding_between, between_rising, rising_low, rising_between, cut_into}

-- the counts of two lists of blocks add up
pub holding_append : (bs cs : List BlockShape) (n : ℕ) → holding (bs ++ cs) n ≡ holding bs n + holding cs n
holding_append [] cs n = sym (zero-add (holding cs n))
holding_append (b ∷ bs) cs n = ap (λ k. worth (in_block b n) + k) (holding_append bs cs n) ∙ sym (add_assoc (worth (in_block b n)) (holding bs n) (holding cs n))

-- the range of all ports
any_range : (n : ℕ) → n < 65536 → in_range 0 65536 n ≡ true
any_range n l = grind (arith, nat_tests)

-- the range of one port
eq_range : (m n : ℕ) → in_range m (m + 1) n ≡ eqb n m
eq_range m n = grind (arith, nat_tests)

-- the range below a port
lt_range : (m n : ℕ) → in_range 0 m n ≡ ltb n m
lt_range m n = grind (arith, nat_tests)

-- the range above a port
gt_range : (m n : ℕ) → n < 65536 → in_range (m + 1) 65536 n ≡ ltb m n
gt_range m n l = grind (arith, nat_tests)

-- the range from one port to another
range_range : (a b n : ℕ) → in_range a (b + 1) n ≡ cond (leb a n) (leb n b) false
range_range a b n = grind (arith, nat_tests)

-- a port is below or above another exactly when it is not that one
neq_ranges : (m n : ℕ) → worth (ltb n m) + worth (ltb m n) ≡ worth (not (eqb n m))
neq_ranges m n = grind (arith, nat_tests)

-- a port that the test fits is in one of its blocks, and any other in none
pub blocks_exact : (t : PortTest) (n : ℕ) → n < 65536 → holding (blocks t) n ≡ worth (port_fits t n)
unfolding blocks
blocks_exact Any n l = holding_between 0 65536 n ∙ ap worth (any_range n l)
blocks_exact (Eq m) n l = holding_between m (m + 1) n ∙ ap worth (eq_range m n)
blocks_exact (Neq m) n l =
    holding_append (between 0 m) (between (m + 1) 65536) n
    ∙ ap (λ k. k + holding (between (m + 1) 65536) n) (holding_between 0 m n ∙ ap worth (lt_range m n))
    ∙ ap (λ k. worth (ltb n m) + k) (holding_between (m + 1) 65536 n ∙ ap worth (gt_range m n l))
    ∙ neq_ranges m n
blocks_exact (Lt m) n l = holding_between 0 m n ∙ ap worth (lt_range m n)
blocks_exact (Gt m) n l = holding_between (m + 1) 65536 n ∙ ap worth (gt_range m n l)
blocks_exact (Range a b) n l = holding_between a (b + 1) n ∙ ap worth (range_range a b n)

-- the blocks of a range rise from 0 on
from_zero : (a c : ℕ) → RisingFrom 0 (between a c)
from_zero a c = rising_low 0 a (between a c) (omega arith) (rising_between a c)

-- the blocks of a test rise
pub blocks_rising : (t : PortTest) → RisingFrom 0 (blocks t)
unfolding blocks
blocks_rising Any = from_zero 0 65536
blocks_rising (Eq m) = from_zero m (m + 1)
blocks_rising (Neq m) = between_rising 0 m (m + 1) (between (m + 1) 65536) (omega arith) (omega arith) (rising_between (m + 1) 65536)
blocks_rising (Lt m) = from_zero 0 m
blocks_rising (Gt m) = from_zero (m + 1) 65536
blocks_rising (Range a b) = from_zero a (b + 1)

-- the upper end of a narrow range
upper : (a b : ℕ) → cond (ltb a 65536) (ltb b 65536) false ≡ true → b < 65536
upper a b e = grind (arith, nat_tests)

-- each range is cut into largest blocks
pub blocks_cut : (t : PortTest) → ports_narrow t ≡ true → TestCut t (blocks t)
unfolding blocks
blocks_cut Any e = cut_into 0 65536 (omega arith)
blocks_cut (Eq m) e = cut_into m (m + 1) (omega (arith, ltb-true m 65536 e))
blocks_cut (Neq m) e =
    (between 0 m, between (m + 1) 65536, refl, cut_into 0 m (omega (arith, ltb-true m 65536 e)), cut_into (m + 1) 65536 (omega arith))
blocks_cut (Lt m) e = cut_into 0 m (omega (arith, ltb-true m 65536 e))
blocks_cut (Gt m) e = cut_into (m + 1) 65536 (omega arith)
blocks_cut (Range a b) e = cut_into a (b + 1) (omega (arith, upper a b e))

-- the blocks of a test are as they should be
pub blocks_stand : (t : PortTest) → BlocksStand t
blocks_stand t = record { exact = blocks_exact t; rising = blocks_rising t; cut_so = blocks_cut t }

-- with no destination block there is no piece
pub crossed_none : (l : Shape) (fs : List BlockShape) → crossed l fs [] ≡ []
crossed_none l [] = refl
crossed_none l (f ∷ fs) = crossed_none l fs

-- the counts of two lists of pieces add up
pub held_append : (ps qs : List PieceShape) (h : Header) → held_by (ps ++ qs) h ≡ held_by ps h + held_by qs h
held_append [] qs h = sym (zero-add (held_by qs h))
held_append (p ∷ ps) qs h = ap (λ k. worth (in_piece p h) + k) (held_append ps qs h) ∙ sym (add_assoc (worth (in_piece p h)) (held_by ps h) (held_by qs h))

-- the pieces of one source block that have the header
pub held_map : (l : Shape) (f : BlockShape) (ts : List BlockShape) (h : Header)
    → held_by (map (piece_of l f) ts) h ≡ worth (fits_but_ports l h) * (worth (in_block f h.source_port) * holding ts h.destination_port)
held_map l f [] h = none (worth (fits_but_ports l h)) (worth (in_block f h.source_port))
  where
    none : (x y : ℕ) → 0 ≡ x * (y * 0)
    none x y = omega arith
held_map l f (t ∷ ts) h =
    ap (λ k. worth (in_piece (piece_of l f t) h) + k) (held_map l f ts h)
    ∙ spread (fits_but_ports l h) (in_block f h.source_port) (in_block t h.destination_port) (holding ts h.destination_port)
  where
    spread : (a b c : Bool) (k : ℕ) → worth (a && (b && c)) + worth a * (worth b * k) ≡ worth a * (worth b * (worth c + k))
    spread true true c k = omega arith
    spread true false c k = omega arith
    spread false b c k = omega arith

-- the pieces of all source blocks that have the header
pub held_crossed : (l : Shape) (fs ts : List BlockShape) (h : Header)
    → held_by (crossed l fs ts) h ≡ worth (fits_but_ports l h) * (holding fs h.source_port * holding ts h.destination_port)
held_crossed l [] ts h = none (worth (fits_but_ports l h)) (holding ts h.destination_port)
  where
    none : (x y : ℕ) → 0 ≡ x * (0 * y)
    none x y = omega arith
held_crossed l (f ∷ fs) ts h =
    held_append (map (piece_of l f) ts) (crossed l fs ts) h
    ∙ ap (λ k. k + held_by (crossed l fs ts) h) (held_map l f ts h)
    ∙ ap (λ k. worth (fits_but_ports l h) * (worth (in_block f h.source_port) * holding ts h.destination_port) + k) (held_crossed l fs ts h)
    ∙ join (worth (fits_but_ports l h)) (worth (in_block f h.source_port)) (holding fs h.source_port) (holding ts h.destination_port)
  where
    join : (x y z k : ℕ) → x * (y * k) + x * (z * k) ≡ x * ((y + z) * k)
    join x y z k = sym (mul-add x (y * k) (z * k)) ∙ ap (λ n. x * n) (sym (add-mul y z k))

-- a header that the line fits is in one of its pieces, and any other in none
pub pieces_stand : (l : Shape) → PiecesStand l
unfolding pieces
pieces_stand l h w =
    held_crossed l (blocks l.source.ports) (blocks l.destination.ports) h
    ∙ ap (λ k. worth (fits_but_ports l h) * (k * holding (blocks l.destination.ports) h.destination_port))
    (blocks_exact l.source.ports h.source_port (widths h w).from)
    ∙ ap (λ k. worth (fits_but_ports l h) * (worth (port_fits l.source.ports h.source_port) * k))
    (blocks_exact l.destination.ports h.destination_port (widths h w).to)
    ∙ together (protocol_fits l.protocol h.protocol)
    (alike 32 l.source.wildcard h.source l.source.address)
    (alike 32 l.destination.wildcard h.destination l.destination.address)
    (port_fits l.source.ports h.source_port)
    (port_fits l.destination.ports h.destination_port)
  where
    together : (p s d f t : Bool) → worth (p && (s && d)) * (worth f * worth t) ≡ worth (cond p (cond (cond s f false) (cond d t false) false) false)
    together true true true true true = refl
    together true true true true false = refl
    together true true true false t = omega arith
    together true true false true t = omega arith
    together true true false false t = omega arith
    together true false d f t = omega arith
    together false s d f t = omega arith
