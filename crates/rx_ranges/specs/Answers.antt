-- The ranges of a condition on an index: how many of its parts are used, and the cover of the condition's tree on these.
use Rattle.std.specs.Prelude.{◌≡◌, ◌<◌, ◌≤◌, ℕ, Bool, true, List, [], ◌∷◌, map, take, length, Some, None, slice_get}
use Rattle.rx_value.specs.declared.ranges.KeyRange.{KeyRange}
use Rattle.rx_value.specs.declared.shapes.Column.{Column}
use Rattle.rx_value.specs.declared.shapes.Part.{Part}
use Rattle.rx_value.specs.Spans.{whole_span}
use Rattle.rx_tree.specs.Tree as trees
use Rattle.rx_cond.specs.Tree.{Tree}
use Rattle.rx_regions.specs.Cans.{can_be}
use Rattle.rx_cover.specs.Cover.{cover}
use Rattle.rx_sets.specs.Sets.{IsTreeOf}
use Rattle.rx_ranges.specs.Subterms.{AreSmall}

-- a column may be NULL; so may one that isn't there
abbrev pub may_be_null : List Column → ℕ → Bool
may_be_null columns c = elim (slice_get columns c) [ Some column ↦ column.nullable | None ↦ true ]

-- of each part, whether it may be NULL
abbrev pub nullables : List Column → List Part → List Bool
nullables columns parts = map (λ part. may_be_null columns part.column) parts

-- of each part, whether it falls
abbrev pub fallings : List Part → List Bool
fallings parts = map (λ part. part.descending) parts

-- on the first p parts the condition and all signed conditions under it have trees of no more items than the limit
abbrev pub Fits : List Column → List Part → ℕ → Tree → ℕ → Type 0
Fits columns parts limit t p = AreSmall (nullables columns (take p parts)) (take p parts) limit true t

-- The parts used are the first p: the most that fit, or none where no number of parts fits.
pub record ArePartsUsed (columns : List Column) (parts : List Part) (limit : ℕ) (t : Tree) (p : ℕ) : Type 0 where
  pub there : p ≤ length parts
  pub fits : 0 < p → Fits columns parts limit t p
  pub most : (q : ℕ) → p < q → q ≤ length parts → Fits columns parts limit t q → ⊥

-- ranges are the cover of the tree of where the condition can be true, on the first p parts
pub record IsCover (columns : List Column) (parts : List Part) (t : Tree) (p : ℕ) (list : List KeyRange) : Type 0 where
  pub tree : trees.Tree
  pub of : IsTreeOf (nullables columns (take p parts)) (can_be true t (take p parts)) tree
  pub is : list ≡ cover (nullables columns (take p parts)) (fallings (take p parts)) tree

-- the one range that is the whole first part as a span
abbrev pub whole_list : List Column → List Part → List KeyRange
whole_list columns [] = []
whole_list columns (part ∷ more) = record { points = []; last = Some (whole_span (may_be_null columns part.column)) } ∷ []

-- What is known of a condition on an index: no number of parts fits, or all keys may be asked for, or only those in ranges on the first parts.
pub data Answer : Type 0 where
  no_parts : Answer
  whole : Answer
  ranges : ℕ → List KeyRange → Answer

-- these many parts are used, at least one, and these ranges are the cover
pub record IsUsed (columns : List Column) (parts : List Part) (limit : ℕ) (t : Tree) (p : ℕ) (list : List KeyRange) : Type 0 where
  pub some : 0 < p
  pub used : ArePartsUsed columns parts limit t p
  pub cover : IsCover columns parts t p list

-- what is known of a condition on an index of these parts, over these columns and under this limit of items
abbrev pub IsAnswer : List Column → List Part → ℕ → Tree → Answer → Type 0
IsAnswer columns parts limit t no_parts = ArePartsUsed columns parts limit t 0
IsAnswer columns parts limit t whole = (p : ℕ) × IsUsed columns parts limit t p (whole_list columns parts)
IsAnswer columns parts limit t (ranges p list) = IsUsed columns parts limit t p list × (list ≡ whole_list columns parts → ⊥)
