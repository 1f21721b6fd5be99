-- What holds of the stages and parts of every list, under every order and kind. Assumes nothing.
use Rattle.std.specs.Prelude.{◌≡◌, ℕ, true, ◌⊎◌, ◌↔◌, List, map}
use Rattle.acl.specs.declared.header.Header.{Header}
use Rattle.acl.specs.declared.line.Line.{Line}
use Rattle.acl.specs.Headers.{header_bit, wide, width}
use Rattle.model.specs.Rows.{Bits}
use Rattle.model.specs.Sets.{CountIs}
use Rattle.model.specs.Rulings.{verdict, Alike}
use Rattle.model.specs.Stages.{Reads}
use Rattle.model.specs.Parts.{PartOfSome}
use Rattle.orders.specs.Meanings.{OrderMeaning, LawfulOrder, by_place, header_at}
use Rattle.kinds.specs.Kinds.{KindMeaning}
use Rattle.stages.specs.Lists.{ruling, last_stage, Fits, Full}

-- The last stage of a list is first match: it gives every header the code of its verdict, and looks at the header's
-- bits alone.
pub record FirstMatch (o : OrderMeaning) {V : Type 0} (k : KindMeaning V) (xs : List Line) : Type 0 where
  pub headers : (h : Header) → wide h ≡ true → last_stage o k xs (by_place o (header_bit h)) ≡ k.code (verdict (ruling k) xs h)
  pub rows : (v : Bits) → last_stage o k xs v ≡ k.code (verdict (ruling k) xs (header_at o v))
  pub reads : Reads width (last_stage o k xs)

-- so it is for every lawful order and every list
abbrev pub StagesStand : {V : Type 0} → KindMeaning V → Type 0
StagesStand k = (o : OrderMeaning) → LawfulOrder width o → (xs : List Line) → FirstMatch o k xs

-- Two lists give every header the same verdict exactly when their last stages are the same.
abbrev pub AlikeStands : {V : Type 0} → KindMeaning V → Type 0
AlikeStands k =
    (o : OrderMeaning) → LawfulOrder width o → (xs ys : List Line)
    → Alike (ruling k) xs ys ↔ ((v : Bits) → last_stage o k xs v ≡ last_stage o k ys v)

-- The parts of some lists have a count, and over them every list fits or is overfull, and never both.
pub record Counted (o : OrderMeaning) {V : Type 0} (k : KindMeaning V) (held : List (List Line)) : Type 0 where
  pub count : ℕ
  pub is : CountIs (PartOfSome (map (last_stage o k) held)) count
  pub either : (n : ℕ) (xs : List Line)
      → Fits o k n (PartOfSome (map (last_stage o k) held)) xs ⊎ Full o k n (PartOfSome (map (last_stage o k) held)) xs
  pub not_both : (n : ℕ) (xs : List Line)
      → Fits o k n (PartOfSome (map (last_stage o k) held)) xs → ¬ Full o k n (PartOfSome (map (last_stage o k) held)) xs

-- so it is for every lawful order and all lists
abbrev pub FitsStand : {V : Type 0} → KindMeaning V → Type 0
FitsStand k = (o : OrderMeaning) → LawfulOrder width o → (held : List (List Line)) → Counted o k held
