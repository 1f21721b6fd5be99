-- Tests and depth from a node on, by those of its two ways. Assumes nothing.
use Rattle.std.proofs.Common.{◌≡◌, ℕ, zero, suc, ◌+◌, ◌-◌, ◌<◌, ◌≤◌, max, Bool, true, false, cond, eqb, sym, refl, ap, ◌∙◌, add-zero, arith, eq-eqb, ne_eqb}
use Rattle.model.specs.Rows.{Bits}
use Rattle.model.specs.declared.node.Ref.{Ref}
use Rattle.model.specs.declared.node.Ref.TheVariants.{Code, Node as At}
use Rattle.model.specs.Diagram.{Table, top, step, value, Known, Reduced, tests_from, deep_from}
use Rattle.model.proofs.Diagram.{step_at, step_off, value_on}

module _ (w : ℕ) (t : Table) where
  -- a place that is not tested counts nothing
  tests_past : (d p : ℕ) (row : Bits) (r : Ref) → p < top w t r → tests_from w t (suc d) p row r ≡ tests_from w t d (suc p) row r
  unfolding tests_from
  tests_past d p row r h =
      ap (λ b. cond b 1 0 + tests_from w t d (suc p) row (step t p (row p) r)) (ne_eqb (top w t r) p (omega arith))
      ∙ ap (λ a. 0 + tests_from w t d (suc p) row a) (step_off w t p (row p) r (omega arith))
      ∙ omega arith

  -- so tests may be counted from any place up to the one that is tested
  pub tests_from_lem : (p d : ℕ) → p + d ≡ w → (row : Bits) (r : Ref) → p ≤ top w t r → tests_from w t w 0 row r ≡ tests_from w t d p row r
  tests_from_lem zero d e row r h = ap (λ n. tests_from w t n 0 row r) (let x : w ≡ d = omega arith in x)
  tests_from_lem (suc p) d e row r h = tests_from_lem p (suc d) (omega arith) row r (omega arith) ∙ tests_past d p row r h

  -- a code tests nothing
  pub tests_code : (row : Bits) (c : ℕ) → tests_from w t w 0 row (Code c) ≡ 0
  unfolding tests_from
  tests_code row c = tests_from_lem w 0 (add-zero w) row (Code c) (omega arith)

  -- a place that is not tested makes nothing deeper
  deep_past : (d p : ℕ) (r : Ref) → p < top w t r → deep_from w t (suc d) p r ≡ deep_from w t d (suc p) r
  unfolding deep_from
  deep_past d p r h =
      ap (λ b. cond b 1 0 + max (deep_from w t d (suc p) (step t p false r)) (deep_from w t d (suc p) (step t p true r))) (ne_eqb (top w t r) p (omega arith))
      ∙ ap (λ a. 0 + max (deep_from w t d (suc p) a) (deep_from w t d (suc p) (step t p true r))) (step_off w t p false r (omega arith))
      ∙ ap (λ a. 0 + max (deep_from w t d (suc p) r) (deep_from w t d (suc p) a)) (step_off w t p true r (omega arith))
      ∙ omega arith

  -- so depth may be counted from any place up to the one that is tested
  pub deep_from_lem : (p d : ℕ) → p + d ≡ w → (r : Ref) → p ≤ top w t r → deep_from w t w 0 r ≡ deep_from w t d p r
  deep_from_lem zero d e r h = ap (λ n. deep_from w t n 0 r) (let x : w ≡ d = omega arith in x)
  deep_from_lem (suc p) d e r h = deep_from_lem p (suc d) (omega arith) r (omega arith) ∙ deep_past d p r h

  -- a code has no depth
  pub deep_code : (c : ℕ) → deep_from w t w 0 (Code c) ≡ 0
  unfolding deep_from
  deep_code c = deep_from_lem w 0 (add-zero w) (Code c) (omega arith)

  -- there are no more tests than places
  deep_few : (d p : ℕ) (r : Ref) → deep_from w t d p r ≤ d
  unfolding deep_from
  deep_few zero p r = omega arith
  deep_few (suc d) p r = go (eqb (top w t r) p) (deep_few d (suc p) (step t p false r)) (deep_few d (suc p) (step t p true r))
    where
      go : (b : Bool) → deep_from w t d (suc p) (step t p false r) ≤ d → deep_from w t d (suc p) (step t p true r) ≤ d
          → cond b 1 0 + max (deep_from w t d (suc p) (step t p false r)) (deep_from w t d (suc p) (step t p true r)) ≤ suc d
      go true x y = omega arith
      go false x y = omega arith

  -- none of them is before the place that a reference tests
  pub deep_small : (r : Ref) → top w t r ≤ w → deep_from w t w 0 r + top w t r ≤ w
  deep_small r h =
      let d : ℕ = w - top w t r in
      let e : top w t r + d ≡ w = omega arith in
      omega (arith, deep_from_lem (top w t r) d e r (omega arith), deep_few d (top w t r) r)

module _ {w : ℕ} {In : ℕ → Type 0} {t : Table} (red : Reduced w In t) where
  -- the way on by a bit tests a later place
  pub way_later : (i : ℕ) (b : Bool) → In i → (t i).place < top w t (cond b (t i).high (t i).low)
  way_later i true k = red.high_later i k
  way_later i false k = red.low_later i k

  -- a node's value is that of its way on
  pub value_way : (i : ℕ) → In i → (row : Bits) → value w t (At i) row ≡ value w t (cond (row (t i).place) (t i).high (t i).low) row
  value_way i k row =
      let d : ℕ = w - suc (t i).place in
      let l : (t i).place < w = red.place_low i k in
      let e : (t i).place + suc d ≡ w = omega arith in
      value_on red d (t i).place e row (At i) k (omega arith)
      ∙ ap (λ a. value w t a row) (step_at t (t i).place (row (t i).place) i refl)

  -- a node makes one test more than its way on
  pub tests_way : (i : ℕ) → In i → (row : Bits)
      → tests_from w t w 0 row (At i) ≡ 1 + tests_from w t w 0 row (cond (row (t i).place) (t i).high (t i).low)
  unfolding tests_from
  tests_way i k row =
      let d : ℕ = w - suc (t i).place in
      let l : (t i).place < w = red.place_low i k in
      let e : (t i).place + suc d ≡ w = omega arith in
      let e' : suc (t i).place + d ≡ w = omega arith in
      let p : ℕ = (t i).place in
      let on : Ref = cond (row p) (t i).high (t i).low in
      tests_from_lem w t p (suc d) e row (At i) (omega arith)
      ∙ ap (λ b. cond b 1 0 + tests_from w t d (suc p) row (step t p (row p) (At i))) (eq-eqb p p refl)
      ∙ ap (λ a. 1 + tests_from w t d (suc p) row a) (step_at t p (row p) i refl)
      ∙ ap (λ n. 1 + n) (sym (tests_from_lem w t (suc p) d e' row on (way_later i (row p) k)))

  -- a node is one deeper than the deeper of its two ways
  pub deep_way : (i : ℕ) → In i → deep_from w t w 0 (At i) ≡ 1 + max (deep_from w t w 0 (t i).low) (deep_from w t w 0 (t i).high)
  unfolding deep_from
  deep_way i k =
      let d : ℕ = w - suc (t i).place in
      let l : (t i).place < w = red.place_low i k in
      let e : (t i).place + suc d ≡ w = omega arith in
      let e' : suc (t i).place + d ≡ w = omega arith in
      let p : ℕ = (t i).place in
      deep_from_lem w t p (suc d) e (At i) (omega arith)
      ∙ ap (λ b. cond b 1 0 + max (deep_from w t d (suc p) (step t p false (At i))) (deep_from w t d (suc p) (step t p true (At i)))) (eq-eqb p p refl)
      ∙ ap (λ a. 1 + max (deep_from w t d (suc p) a) (deep_from w t d (suc p) (step t p true (At i)))) (step_at t p false i refl)
      ∙ ap (λ a. 1 + max (deep_from w t d (suc p) (t i).low) (deep_from w t d (suc p) a)) (step_at t p true i refl)
      ∙ ap (λ n. 1 + max n (deep_from w t d (suc p) (t i).high)) (sym (deep_from_lem w t (suc p) d e' (t i).low (red.low_later i k)))
      ∙ ap (λ n. 1 + max (deep_from w t w 0 (t i).low) n) (sym (deep_from_lem w t (suc p) d e' (t i).high (red.high_later i k)))

  -- a known reference tests a place, or stands past the last
  pub top_most : (r : Ref) → Known In r → top w t r ≤ w
  top_most (Code c) k = omega arith
  top_most (At i) k = omega (arith, red.place_low i k)
