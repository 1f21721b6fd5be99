-- The theorems, each in the words of the definitions. Assumes nothing.
use Rattle.std.specs.Prelude.{◌≡◌, ◌⊎◌, ◌≢◌, ◌↔◌, List, map, ℕ, ◌<◌, ◌≤◌, length}
use Rattle.model.specs.Rows.{Bits, First}
use Rattle.model.specs.Sets.{◌∈◌, CountIs, AtMost, MoreThan}
use Rattle.model.specs.Stages.{Stage, Layer, Reads, LinesRead}
use Rattle.model.specs.Parts.{Part, PartOf, PartOfSome, AtPiece, FitOver, Overfull}
use Rattle.model.specs.declared.node.Ref.{Ref}
use Rattle.model.specs.Diagram.{Table, value, Known, Reduced, Reached, ReachedFrom, part_at, first_from}
use Rattle.model.specs.Rulings.{Ruling, Alike, Idle, Pruned}

-- Two references: equal values make them the same; different ones differ at a row that is computed, and at no row
-- before it.
pub record ToldApart (w : ℕ) (t : Table) (a b : Ref) : Type 0 where
  pub same : ((v : Bits) → value w t a v ≡ value w t b v) → a ≡ b
  pub differ : a ≢ b → value w t a (first_from t w 0 a b) ≢ value w t b (first_from t w 0 a b)
  pub least : (v : Bits) → First w v (first_from t w 0 a b) → value w t a v ≡ value w t b v

-- so it is over every reduced, ordered table of n nodes without twins
abbrev pub ReferencesStand : Type 0
ReferencesStand =
    (w n : ℕ) (t : Table) → Reduced w (λ i. i < n) t
    → (a b : Ref) → Known (λ i. i < n) a → Known (λ i. i < n) b → ToldApart w t a b

-- The nodes that a reference reaches and the parts of its function: one to one, by `part_at`.
pub record NodesAreParts (w : ℕ) (t : Table) (r : Ref) : Type 0 where
  pub a_part : (i : ℕ) → Reached t r i → PartOf (value w t r) (part_at w t i)
  pub a_node : (x : Part) → PartOf (value w t r) x → (i : ℕ) × Reached t r i × (x ≡ part_at w t i)
  pub one_node : (i j : ℕ) → Reached t r i → Reached t r j → part_at w t i ≡ part_at w t j → i ≡ j

-- So nodes are counted as parts: the nodes that some references reach are as many as the parts of their functions.
pub record NodesCount (w : ℕ) (t : Table) (roots : List Ref) (c : ℕ) : Type 0 where
  pub there : CountIs (ReachedFrom t roots) c → CountIs (PartOfSome (map (value w t) roots)) c
  pub back : CountIs (PartOfSome (map (value w t) roots)) c → CountIs (ReachedFrom t roots) c

-- both, of a table of n nodes
pub record NodesStand (w n : ℕ) (t : Table) : Type 0 where
  pub parts : (r : Ref) → Known (λ i. i < n) r → NodesAreParts w t r
  pub counts : (roots : List Ref) → ((r : Ref) → r ∈ roots → Known (λ i. i < n) r) → (c : ℕ) → NodesCount w t roots c

-- so it is over every reduced, ordered table without twins
abbrev pub AllNodesStand : Type 0
AllNodesStand = (w n : ℕ) (t : Table) → Reduced w (λ i. i < n) t → NodesStand w n t

-- Families of parts. More than n excludes at most n, and a count decides between the two.
pub record Counting (S : Part → Type 0) : Type 0 where
  pub not_both : (n : ℕ) → MoreThan n S → ¬ AtMost n S
  pub one_count : (c d : ℕ) → CountIs S c → CountIs S d → c ≡ d
  pub few : (c n : ℕ) → CountIs S c → AtMost n S ↔ (c ≤ n)
  pub many : (c n : ℕ) → CountIs S c → MoreThan n S ↔ (n < c)

-- Every family that a fit speaks of has a count: the parts of finitely many stages, and of the stages before and after a piece.
pub record PieceCounts (stages : List Stage) (s : Stage) (l : Layer) : Type 0 where
  pub count : ℕ
  pub is : CountIs (AtPiece (PartOfSome stages) s l) count
  pub counting : Counting (AtPiece (PartOfSome stages) s l)

-- a list fits, or is overfull by a count, and never both
pub record FitsOrNot (n : ℕ) (S : Part → Type 0) (end : ℕ) (xs : List (List Layer)) : Type 0 where
  pub either : FitOver n S end xs ⊎ Overfull n S end xs
  pub not_both : FitOver n S end xs → ¬ Overfull n S end xs

-- all this of the parts of finitely many stages that look at w bits
pub record CountsStand (w : ℕ) (stages : List Stage) : Type 0 where
  pub counted : (c : ℕ) × CountIs (PartOfSome stages) c
  pub counting : Counting (PartOfSome stages)
  pub at_piece : (s : Stage) (l : Layer) → Reads w s → Reads w l.holds → PieceCounts stages s l
  pub fits : (n end : ℕ) (xs : List (List Layer)) → LinesRead w xs → FitsOrNot n (PartOfSome stages) end xs

-- so it is for all such stages
abbrev pub AllCountsStand : Type 0
AllCountsStand = (w : ℕ) (stages : List Stage) → ((s : Stage) → s ∈ stages → Reads w s) → CountsStand w stages

-- Pruning from the last line to the first: the list that is left gives every header the old verdict, none of its
-- lines is idle, and it is the only one.
pub record PrunedWell {H L V : Type 0} (r : Ruling H L V) (xs out : List L) : Type 0 where
  pub alike : Alike r out xs
  pub none_idle : (i : ℕ) → i < length out → ¬ Idle r out i
  pub only : (other : List L) → Pruned r xs other → other ≡ out

-- so it is for every list
abbrev pub PruningStands : {H L V : Type 0} → Ruling H L V → Type 0
PruningStands {L = L} r = (xs out : List L) → Pruned r xs out → PrunedWell r xs out
