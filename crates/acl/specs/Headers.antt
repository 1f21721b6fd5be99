-- The bits of a header. Assumes nothing.
use Rattle.std.specs.Prelude.{◌≡◌, ℕ, zero, suc, ◌+◌, ◌-◌, ◌*◌, ◌^◌, ◌<◌, Bool, true, false, cond, ◌&&◌, ◌==◌, nat_lt}
use Rattle.acl.specs.Bits.{bit}
use Rattle.acl.specs.declared.header.Header.{Header}

-- bit k of n, counted from the low end, is 1
abbrev pub low_bit : ℕ → ℕ → Bool
low_bit k n = bit k n == 1

-- bits 0–31 are the source, 32–63 the destination, 64–71 the protocol, 72–87 the source port and
-- 88–103 the destination port, each field from its top bit
abbrev pub header_bit : Header → ℕ → Bool
header_bit h i =
    cond (nat_lt i 32) (low_bit (31 - i) h.source)
    (cond (nat_lt i 64) (low_bit (63 - i) h.destination)
    (cond (nat_lt i 72) (low_bit (71 - i) h.protocol)
    (cond (nat_lt i 88) (low_bit (87 - i) h.source_port)
    (cond (nat_lt i 104) (low_bit (103 - i) h.destination_port) false))))

-- a header has 104 bits
abbrev pub width : ℕ
width = 104

-- five numbers of a header's widths: 32, 32, 8, 16 and 16 bits
abbrev pub wide : Header → Bool
wide h =
    nat_lt h.source (2 ^ 32)
    && (nat_lt h.destination (2 ^ 32)
    && (nat_lt h.protocol (2 ^ 8)
    && (nat_lt h.source_port (2 ^ 16)
    && nat_lt h.destination_port (2 ^ 16))))

-- a bit's worth
abbrev pub worth : Bool → ℕ
worth false = 0
worth true = 1

-- the number that the k bits from s on make, top bit first
unfoldable pub number_at : (ℕ → Bool) → ℕ → ℕ → ℕ
number_at u s zero = 0
number_at u s (suc k) = 2 * number_at u s k + worth (u (s + k))

-- the header with these bits
abbrev pub header_of : (ℕ → Bool) → Header
header_of u = record {
  source = number_at u 0 32;
  destination = number_at u 32 32;
  protocol = number_at u 64 8;
  source_port = number_at u 72 16;
  destination_port = number_at u 88 16;
}

-- Headers and settings of 104 bits are one to one: each setting is that of a header, and each header has its own.
pub record BitsStand : Type 0 where
  pub settled : (u : ℕ → Bool) (b : ℕ) → b < width → header_bit (header_of u) b ≡ u b
  pub header : (u : ℕ → Bool) → wide (header_of u) ≡ true
  pub own : (h : Header) → wide h ≡ true → header_of (header_bit h) ≡ h
