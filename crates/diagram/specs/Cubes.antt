-- A piece as it is laid. This file names no struct with a ghost field. Assumes nothing.
use Rattle.std.specs.Prelude.{ℕ, ◌<◌, ◌≤◌, List, slice_index, slice_index_or, None, IsNone}
use Rattle.model.specs.Laying.{Ask}
use Rattle.acl.specs.Headers.{width}

-- what is asked at a place; nothing past the last
abbrev pub asked : List Ask → ℕ → Ask
asked asks p = slice_index_or asks p None

-- `next` has for each place the next one, itself included, at which something is asked, or 104: it is not before the place,
abbrev pub Onward : List ℕ → Type 0
Onward next = (p : ℕ) → p < width → p ≤ slice_index next p

-- not past 104,
abbrev pub Inside : List ℕ → Type 0
Inside next = (p : ℕ) → p < width → slice_index next p ≤ width

-- and between the two nothing is asked
abbrev pub Quiet : List Ask → List ℕ → Type 0
Quiet asks next = (p z : ℕ) → p ≤ z → z < slice_index next p → IsNone (asked asks z)
