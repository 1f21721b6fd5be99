use Rattle.std.proofs.Common.{◌≡◌, ℕ, ◌/◌, ◌%◌, ◌<◌, ◌^◌, List, [], ◌∷◌, ◌++◌, get_or, decimal, refl, ap, arith}
use Rattle.writer.specs.Canon.{dotted}
use Rattle.writer.proofs.Overs.{same, two}
use Rattle.writer.proofs.token.AddressToken.put.Goals as goal

dotted_bytes : (a : ℕ) (bytes : List ℕ) → a < 2 ^ 32 → bytes ≡ (a / 16777216 % 256) ∷ (a / 65536 % 256) ∷ (a / 256 % 256) ∷ (a % 256) ∷ []
    → decimal (get_or bytes 0 0) ++ (46 ∷ (decimal (get_or bytes 1 0) ++ (46 ∷ (decimal (get_or bytes 2 0) ++ (46 ∷ decimal (get_or bytes 3 0)))))) ≡ dotted a
dotted_bytes a bytes h e = rw e (ap (λ n. decimal n ++ (46 ∷ (decimal (a / 65536 % 256) ++ (46 ∷ (decimal (a / 256 % 256) ++ (46 ∷ decimal (a % 256))))))) (omega arith))

pub returns : goal.returns
returns c = same (dotted_bytes c.args.self.0 c.to_be_bytes.result (omega arith) c.to_be_bytes.ensures)
    (two c.number.ensures (two c.text.ensures (two c.number-2.ensures (two c.text-2.ensures (two c.number-3.ensures (two c.text-3.ensures c.number-4.ensures refl) refl) refl) refl) refl) refl)
