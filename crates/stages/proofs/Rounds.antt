-- From headers to places and back. Assumes nothing.
use Rattle.std.proofs.Common.{◌≡◌, ℕ, zero, suc, ◌+◌, ◌*◌, true, refl, ap, ◌∙◌, ap₂, arith}
use Rattle.acl.specs.declared.header.Header.{Header}
use Rattle.acl.specs.Headers.{header_bit, header_of, number_at, worth, wide, width}
use Rattle.acl.proofs.Rows.{own}
use Rattle.model.specs.Rows.{Bits, AgreeBelow}
use Rattle.orders.specs.Meanings.{OrderMeaning, LawfulOrder, by_place, by_number, header_at}

-- a number goes by its own bits
number_agree : (u v : Bits) (s k : ℕ) → AgreeBelow (s + k) u v → number_at u s k ≡ number_at v s k
unfolding number_at
number_agree u v s zero h = refl
number_agree u v s (suc k) h =
    ap₂ (λ n b. 2 * n + worth b) (number_agree u v s k (λ q l. h q (omega arith))) (h (s + k) (omega arith))

-- a header goes by its own bits
pub header_agree : (u v : Bits) → AgreeBelow width u v → header_of u ≡ header_of v
header_agree u v h = λ i. record {
  source = number_agree u v 0 32 (λ q l. h q (omega arith)) i;
  destination = number_agree u v 32 32 (λ q l. h q (omega arith)) i;
  protocol = number_agree u v 64 8 (λ q l. h q (omega arith)) i;
  source_port = number_agree u v 72 16 (λ q l. h q (omega arith)) i;
  destination_port = number_agree u v 88 16 (λ q l. h q (omega arith)) i;
}

module _ (o : OrderMeaning) (laws : LawfulOrder width o) where
  -- rows that agree below the width make the same header
  pub row_agree : (u v : Bits) → AgreeBelow width u v → header_at o u ≡ header_at o v
  row_agree u v h = header_agree (by_number o u) (by_number o v) (λ b l. h (o.place_of b) (laws.place_within b l))

  -- a header's bits by place make the header again
  pub header_back : (h : Header) → wide h ≡ true → header_at o (by_place o (header_bit h)) ≡ h
  header_back h w =
      header_agree (by_number o (by_place o (header_bit h))) (header_bit h) (λ b l. ap (header_bit h) (laws.bit_of_place b l))
      ∙ own h w
