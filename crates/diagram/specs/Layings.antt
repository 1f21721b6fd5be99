-- The next place at which a laying has something to do. Assumes nothing.
use Rattle.std.specs.Prelude.{ℕ, ◌<◌, ◌≤◌, IsNone}
use Rattle.acl.specs.Headers.{width}
use Rattle.model.specs.declared.node.Ref.{Ref}
use Rattle.diagram.specs.declared.cube.Cube.{Cube}
use Rattle.diagram.specs.declared.store.Store.{Store}
use Rattle.diagram.specs.Cubes.{asked}
use Rattle.diagram.specs.Stores.{Fits}

-- p is not before `from`, the piece asks nothing from there up to p, and f tests no place before p; p is at most 104
pub record Next (s : Store) (c : Cube) (from : ℕ) (f : Ref) (p : ℕ) : Type 0 where
  pub onward : from ≤ p
  pub inside : p ≤ width
  pub quiet : (z : ℕ) → from ≤ z → z < p → IsNone (asked c.asks z)
  pub fits : Fits s p f
