-- Notes stay right while nodes are added and notes are taken. Assumes nothing.
use Rattle.std.proofs.Common.{◌≡◌, ℕ, ◌<◌, Bool, true, false, cond, nat_eq, List, length, get_or, set, Option, Some, None, sym, ap, ◌∙◌, subst, arith, get_or-set_other, get_or-set_same}
use native.Mathlib.Decide.{ℕ_discrete}
use Rattle.model.specs.declared.node.Ref.{Ref}
use Rattle.model.specs.declared.node.Ref.TheVariants.{Node as At}
use Rattle.model.specs.Stages.{Stage}
use Rattle.diagram.specs.declared.cube.Cube.{Cube}
use Rattle.diagram.specs.declared.store.Store.{Store}
use Rattle.diagram.specs.declared.store.Past.{Past}
use Rattle.diagram.specs.declared.store.Notes.{Notes}
use Rattle.diagram.specs.Nodes.{Under}
use Rattle.diagram.specs.Stores.{nodes_of, Grows, Stands, laid_from, unmade, made_in, Noted, Note}
use Rattle.diagram.proofs.Reduces.{under_more}
use Rattle.diagram.proofs.Growing.{fits_grows, value_grows}
use Rattle.diagram.proofs.Skips.{laid_grows}

-- what a reference stands for, it stands for in a store that has grown
pub stands_grows : (s t : Store) (p : ℕ) (g : Stage) (x : Ref) → Grows s t → Stands s p g x → Stands t p g x
stands_grows s t p g x h k = record {
  fits = fits_grows s t p x h k.fits;
  is = λ v. value_grows s t h x k.fits.under v ∙ k.is v;
}

-- what holds of all that is read in a row still does when more is put there of which it holds
put_kept : {A B : Type 0} (P : ℕ → A → Type 0) (read : B → Option A) (d : B) (l : List B) (i : ℕ) (b : B) → i < length l
    → ((a : A) → read b ≡ Some a → P i a)
    → ((k : ℕ) (a : A) → read (get_or l k d) ≡ Some a → P k a)
    → (k : ℕ) (a : A) → read (get_or (set l i b) k d) ≡ Some a → P k a
put_kept P read d l i b m here old k a e = go (ℕ_discrete k i)
  where
    go : Dec (k ≡ i) → P k a
    go (yes z) =
        subst (λ j. P j a) (sym z)
        (here a (ap read (sym (get_or-set_same l i b d m)) ∙ ap (λ j. read (get_or (set l i b) j d)) (sym z) ∙ e))
    go (no z) = old k a (ap read (sym (get_or-set_other l i k b d z)) ∙ e)

-- what is read where only x can be is x
only : {A : Type 0} (b : Bool) (x a : A) → cond b (Some x) None ≡ Some a → x ≡ a
only true x a e = cc e
only false x a e = absurd (cc e)

module _ (c : Cube) where
  -- so a note stays right,
  pub note_grows : (s t : Store) (p : ℕ) (f x : Ref) → Grows s t → Under s.linked f → Note s c p f x → Note t c p f x
  note_grows s t p f x g u n =
      subst (λ h. Stands t p h x) (sym (laid_grows c s t p f g u)) (stands_grows s t p (laid_from c s p f) x g n)

  -- and all of them
  pub noted_grows : (s t : Store) (n : Notes) → Grows s t → Noted s c n → Noted t c n
  noted_grows s t n g h = record {
    made = λ k x e.
        let l = (h.made k x e).0 in (
          omega (arith, g.more),
          subst (λ m. Stands t m.place (laid_from c t m.place (At k)) x) (sym (g.same k l))
              (note_grows s t (nodes_of s k).place (At k) x g l (h.made k x e).1),
        );
    past = λ p e z.
        let u = (h.past p e z).0 in
        (under_more s.linked t.linked e.over g.more u, note_grows s t p e.over e.made g u (h.past p e z).1);
  }

  -- y is a right note for node k
  abbrev Kept : Store → ℕ → Ref → Type 0
  Kept s k y = (k < s.linked) × Stands s (nodes_of s k).place (laid_from c s (nodes_of s k).place (At k)) y

  -- e is a right note past place k
  abbrev Left : Store → ℕ → Past → Type 0
  Left s k e = Under s.linked e.over × Stands s k (laid_from c s k e.over) e.made

  -- a note at a node's own place
  pub note_node : (s : Store) (n : Notes) (p i : ℕ) (f x : Ref) → Noted s c n → f ≡ At i → (nodes_of s i).place ≡ p
      → Under s.linked f → Note s c p f x → i < length n.made → (later : _)
      → Noted s c (record { made = set n.made i (record { round = n.round; made = x }); past = n.past; round = n.round; no_later = later })
  note_node s n p i f x h ef ep u m l later = record {
    made = put_kept (Kept s) (made_in n.round) unmade n.made i (record { round = n.round; made = x }) l
        (λ a e. subst (Kept s i) (only (nat_eq n.round n.round) x a e) here) h.made;
    past = h.past;
  }
    where
      here : Kept s i x
      here = (
        subst (Under s.linked) ef u,
        subst (λ r. Stands s (nodes_of s i).place (laid_from c s (nodes_of s i).place r) x) ef
            (subst (λ o. Stands s o (laid_from c s o f) x) (sym ep) m),
      )

  -- and one at another place
  pub note_past : (s : Store) (n : Notes) (p : ℕ) (f f' x : Ref) → Noted s c n → f' ≡ f → Under s.linked f → Note s c p f x
      → p < length n.past → (later : _)
      → Noted s c (record { made = n.made; past = set n.past p (Some (record { over = f'; made = x })); round = n.round; no_later = later })
  note_past s n p f f' x h o u m l later = record {
    made = h.made;
    past = put_kept (Left s) (λ y. y) None n.past p (Some new) l (λ a e. (let z : new ≡ a = cc e in subst (Left s p) z here)) h.past;
  }
    where
      new : Past
      new = record { over = f'; made = x }

      here : Left s p new
      here = subst (λ r. Under s.linked r × Stands s p (laid_from c s p r) x) (sym o) (u, m)
