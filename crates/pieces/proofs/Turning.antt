-- A piece turned to places by an order holds exactly its headers. Assumes nothing.
use Rattle.std.proofs.Common.{◌≡◌, ℕ, zero, suc, ◌+◌, ◌-◌, ◌%◌, ◌^◌, ◌<◌, ◌≤◌, true, ◌&&◌, List, None, get_or, sym, refl, ap, ◌∙◌, ap₂, arith, pow_pos}
use native.Mathlib.Decide.{dec_lt}
use Rattle.std.proofs.lemmas.Bool.{and_parts, and_from}
use Rattle.acl.specs.Bits.{alike}
use Rattle.acl.specs.Headers.{header_bit, wide, width}
use Rattle.acl.specs.Terms.{protocol_narrow, protocol_fits}
use Rattle.acl.specs.declared.header.Header.{Header}
use Rattle.acl.proofs.Rows.{at_source, at_destination, at_protocol, at_source_port, at_destination_port, widths, settled, made_wide}
use Rattle.model.specs.Rows.{Bits}
use Rattle.model.specs.Laying.{Ask, meets, in_from}
use Rattle.orders.specs.Meanings.{OrderMeaning, LawfulOrder, by_place, by_number, header_at}
use Rattle.pieces.specs.Blocks.{BlockShape, size_of, in_block}
use Rattle.pieces.specs.Pieces.{PieceShape, in_piece}
use Rattle.pieces.specs.Asks.{wanted_of, ignored_of, ask_for, ask_of, Turned}
use Rattle.pieces.proofs.Fields.{same_bool, field_there, field_back, protocol_alike, block_alike}

-- a block starts at a multiple of its size and stays among the ports
pub record Aligned (b : BlockShape) : Type 0 where
  pub small : b.exponent ≤ 16
  pub multiple : b.start % 2 ^ b.exponent ≡ 0
  pub inside : b.start + 2 ^ b.exponent ≤ 65536

-- what is known of every piece
pub record Sound (p : PieceShape) : Type 0 where
  pub narrow : protocol_narrow p.line.protocol ≡ true
  pub from : Aligned p.from
  pub to : Aligned p.to

-- the row has what is asked at each of the d places from p on
pub in_all : (q : ℕ → Ask) (d p : ℕ) (v : Bits) → in_from q d p v ≡ true → (z : ℕ) → p ≤ z → z < p + d → meets (q z) (v z) ≡ true
in_all q zero p v e z a l = absurd (omega arith)
in_all q (suc d) p v e z a l = go (dec_lt p z) (in_all q d (suc p) v parts.1 z)
  where
    parts : (meets (q p) (v p) ≡ true) × (in_from q d (suc p) v ≡ true)
    parts = and_parts (meets (q p) (v p)) (in_from q d (suc p) v) e

    go : Dec (p < z) → (suc p ≤ z → z < suc p + d → meets (q z) (v z) ≡ true) → meets (q z) (v z) ≡ true
    go (yes m) later = later m (omega arith)
    go (no n) later = let here : z ≡ p = omega arith in ap (λ i. meets (q i) (v i)) here ∙ parts.0

-- and back
pub all_in : (q : ℕ → Ask) (d p : ℕ) (v : Bits) → ((z : ℕ) → p ≤ z → z < p + d → meets (q z) (v z) ≡ true) → in_from q d p v ≡ true
all_in q zero p v h = refl
all_in q (suc d) p v h =
    and_from (meets (q p) (v p)) (in_from q d (suc p) v) (h p (omega arith) (omega arith))
    (all_in q d (suc p) v (λ z a l. h z (omega arith) (omega arith)))

-- it goes by these places alone
pub in_agree : (q : ℕ → Ask) (d p : ℕ) (u v : Bits) → ((z : ℕ) → p ≤ z → z < p + d → u z ≡ v z) → in_from q d p u ≡ in_from q d p v
in_agree q zero p u v h = refl
in_agree q (suc d) p u v h =
    ap₂ (λ b r. meets (q p) b && r) (h p (omega arith) (omega arith)) (in_agree q d (suc p) u v (λ z a l. h z (omega arith) (omega arith)))

-- a port of 16 bits is in an aligned block exactly when it is like the start but for the last bits
port_alike : (b : BlockShape) → Aligned b → (x : ℕ) → x < 2 ^ 16 → in_block b x ≡ alike 16 (size_of b - 1) x b.start
port_alike b al x l = block_alike 16 b.exponent b.start x al.small al.multiple (omega (arith, pow_pos b.exponent)) l

-- each field of a header is the wanted one, but for the ignored bits
record Alike (g n h : Header) : Type 0 where
  source : alike 32 g.source h.source n.source ≡ true
  destination : alike 32 g.destination h.destination n.destination ≡ true
  protocol : alike 8 g.protocol h.protocol n.protocol ≡ true
  from : alike 16 g.source_port h.source_port n.source_port ≡ true
  to : alike 16 g.destination_port h.destination_port n.destination_port ≡ true

-- fields that are alike have each bit as it is asked for
bits_there : (g n h : Header) → Alike g n h → (b : ℕ) → b < width → meets (ask_for (header_bit g b) (header_bit n b)) (header_bit h b) ≡ true
bits_there g n h a b l = go (dec_lt b 32) (dec_lt b 64) (dec_lt b 72) (dec_lt b 88)
  where
    go : Dec (b < 32) → Dec (b < 64) → Dec (b < 72) → Dec (b < 88) → meets (ask_for (header_bit g b) (header_bit n b)) (header_bit h b) ≡ true
    go (yes m) x y z = field_there (λ r. r.source) 0 32 (λ r i f t. at_source r i t) g n h a.source b (omega arith) m
    go (no k) (yes m) y z = field_there (λ r. r.destination) 32 32 at_destination g n h a.destination b (omega arith) m
    go (no k) (no i) (yes m) z = field_there (λ r. r.protocol) 64 8 at_protocol g n h a.protocol b (omega arith) m
    go (no k) (no i) (no j) (yes m) = field_there (λ r. r.source_port) 72 16 at_source_port g n h a.from b (omega arith) m
    go (no k) (no i) (no j) (no o) = field_there (λ r. r.destination_port) 88 16 at_destination_port g n h a.to b (omega arith) l

-- and back
bits_back : (g n h : Header) → ((b : ℕ) → b < width → meets (ask_for (header_bit g b) (header_bit n b)) (header_bit h b) ≡ true) → Alike g n h
bits_back g n h all = record {
  source = field_back (λ r. r.source) 0 32 (λ r i f t. at_source r i t) g n h (λ b f t. all b (omega arith));
  destination = field_back (λ r. r.destination) 32 32 at_destination g n h (λ b f t. all b (omega arith));
  protocol = field_back (λ r. r.protocol) 64 8 at_protocol g n h (λ b f t. all b (omega arith));
  from = field_back (λ r. r.source_port) 72 16 at_source_port g n h (λ b f t. all b (omega arith));
  to = field_back (λ r. r.destination_port) 88 16 at_destination_port g n h (λ b f t. all b (omega arith));
}

module _ (p : PieceShape) (s : Sound p) (h : Header) (w : wide h ≡ true) where
  -- the protocol fits, and each port is in its block, exactly when the field is alike
  protocol_is : protocol_fits p.line.protocol h.protocol ≡ alike 8 (ignored_of p).protocol h.protocol (wanted_of p).protocol
  protocol_is = protocol_alike p.line.protocol s.narrow h.protocol (widths h w).protocol

  from_is : in_block p.from h.source_port ≡ alike 16 (ignored_of p).source_port h.source_port (wanted_of p).source_port
  from_is = port_alike p.from s.from h.source_port (widths h w).from

  to_is : in_block p.to h.destination_port ≡ alike 16 (ignored_of p).destination_port h.destination_port (wanted_of p).destination_port
  to_is = port_alike p.to s.to h.destination_port (widths h w).to

  -- the fields of a header in a piece are alike
  piece_alike : in_piece p h ≡ true → Alike (ignored_of p) (wanted_of p) h
  piece_alike e =
      let halves = and_parts _ _ e in
      let others = and_parts _ _ halves.0 in
      let addresses = and_parts _ _ others.1 in
      let ports = and_parts _ _ halves.1 in
      record {
        source = addresses.0;
        destination = addresses.1;
        protocol = sym protocol_is ∙ others.0;
        from = sym from_is ∙ ports.0;
        to = sym to_is ∙ ports.1;
      }

  -- and back
  alike_piece : Alike (ignored_of p) (wanted_of p) h → in_piece p h ≡ true
  alike_piece a =
      and_from _ _
      (and_from _ _ (protocol_is ∙ a.protocol) (and_from _ _ a.source a.destination))
      (and_from _ _ (from_is ∙ a.from) (to_is ∙ a.to))

  -- each bit of a header in a piece is as the piece asks
  pub piece_there : in_piece p h ≡ true → (b : ℕ) → b < width → meets (ask_of p b) (header_bit h b) ≡ true
  piece_there e = bits_there (ignored_of p) (wanted_of p) h (piece_alike e)

  -- and back
  pub piece_back : ((b : ℕ) → b < width → meets (ask_of p b) (header_bit h b) ≡ true) → in_piece p h ≡ true
  piece_back all = alike_piece (bits_back (ignored_of p) (wanted_of p) h all)

-- at each place stands what the piece asks of the bit there
module _ (o : OrderMeaning) (law : LawfulOrder width o) (p : PieceShape) (s : Sound p) (q : ℕ → Ask) (each : (z : ℕ) → z < width → q z ≡ ask_of p (o.bit_at z)) where
  -- a header is in the piece exactly when its bits by place are as they are asked for
  headers_turned : (h : Header) → wide h ≡ true → in_piece p h ≡ in_from q width 0 (by_place o (header_bit h))
  headers_turned h w = same_bool (in_piece p h) (in_from q width 0 (by_place o (header_bit h))) there back
    where
      there : in_piece p h ≡ true → in_from q width 0 (by_place o (header_bit h)) ≡ true
      there e =
          all_in q width 0 (by_place o (header_bit h))
          (λ z a l. let m : z < width = omega arith in
          ap (λ k. meets k (header_bit h (o.bit_at z))) (each z m) ∙ piece_there p s h w e (o.bit_at z) (law.bit_within z m))

      back : in_from q width 0 (by_place o (header_bit h)) ≡ true → in_piece p h ≡ true
      back e =
          piece_back p s h w
          (λ b l. let z : ℕ = o.place_of b in let m : z < width = law.place_within b l in
          ap (λ i. meets (ask_of p i) (header_bit h i)) (sym (law.bit_of_place b l))
          ∙ ap (λ k. meets k (header_bit h (o.bit_at z))) (sym (each z m))
          ∙ in_all q width 0 (by_place o (header_bit h)) e z (omega arith) (omega arith))

  -- and so is the header that a row by place makes
  rows_turned : (v : Bits) → in_piece p (header_at o v) ≡ in_from q width 0 v
  rows_turned v =
      headers_turned (header_at o v) (made_wide (by_number o v))
      ∙ in_agree q width 0 (by_place o (header_bit (header_at o v))) v
      (λ z a l. let m : z < width = omega arith in settled (by_number o v) (o.bit_at z) (law.bit_within z m) ∙ ap v (law.place_of_bit z m))

-- a piece turned to places by an order holds exactly its headers
pub turned : (o : OrderMeaning) → LawfulOrder width o → (p : PieceShape) → Sound p → (asks : List Ask)
    → ((q : ℕ) → q < width → get_or asks q None ≡ ask_of p (o.bit_at q)) → Turned o p asks
turned o law p s asks each = record {
  each = each;
  headers = headers_turned o law p s (λ q. get_or asks q None) each;
  rows = rows_turned o law p s (λ q. get_or asks q None) each;
}
