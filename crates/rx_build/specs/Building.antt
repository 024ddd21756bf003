-- What is known of a condition on an index as the code has it.
use Rattle.std.specs.Prelude.{◌≡◌, ◌≤◌, ℕ, max, true, List, length, Option, Some, None}
use Rattle.std.specs.List.{list_any}
use Rattle.rx_value.specs.declared.values.Value.{Value}
use Rattle.rx_value.specs.declared.ranges.KeyRange.{KeyRange}
use Rattle.rx_value.specs.declared.shapes.Column.{Column}
use Rattle.rx_value.specs.declared.shapes.Part.{Part}
use Rattle.rx_value.specs.declared.shapes.Schema.{Schema}
use Rattle.rx_value.specs.Shape.{FitsRow}
use Rattle.rx_value.specs.Keys.{key_of, holds}
use Rattle.rx_tree.specs.Tree as trees
use Rattle.rx_cond.specs.declared.conds.Tri.TheVariants.{T}
use Rattle.rx_cond.specs.Tree.{Tree, truth_at}
use Rattle.rx_regions.specs.Cans.{can_be}
use Rattle.rx_regions.specs.Texts.{ComparesUtf8, cuts}
use Rattle.rx_cover.specs.Cover.{cover, are_rising}
use Rattle.rx_sets.specs.Sets.{IsTreeOf}
use Rattle.rx_ranges.specs.Subterms.{AreSmall}
use Rattle.rx_ranges.specs.Answers as ranged
use Rattle.rx_ranges.specs.Answers.{nullables, fallings, ArePartsUsed, IsUsed, no_parts, whole, ranges}
use Rattle.rx_build.specs.declared.answers.Answer.{Answer}
use Rattle.rx_build.specs.declared.answers.Answer.TheVariants.{Whole, NoParts, Ranges}

-- an answer of the code as plain data
abbrev pub answer_of : Answer → ranged.Answer
answer_of Whole = whole
answer_of NoParts = no_parts
answer_of (Ranges parts list) = ranges parts list

-- the condition fits on all of these parts, and ranges are the cover of its tree on them
pub record AreRangesOn (columns : List Column) (parts : List Part) (limit : ℕ) (t : Tree) (list : List KeyRange) : Type 0 where
  pub fits : AreSmall (nullables columns parts) parts limit true t
  pub tree : trees.Tree
  pub of : IsTreeOf (nullables columns parts) (can_be true t parts) tree
  pub is : list ≡ cover (nullables columns parts) (fallings parts) tree

-- there are ranges on all of these parts, or the condition doesn't fit on them
abbrev pub IsAttempt : List Column → List Part → ℕ → Tree → Option (List KeyRange) → Type 0
IsAttempt columns parts limit t (Some list) = AreRangesOn columns parts limit t list
IsAttempt columns parts limit t None = AreSmall (nullables columns parts) parts limit true t → ⊥

-- the number of the parts used and the ranges on them, or none where no number of parts fits
abbrev pub IsMost : List Column → List Part → ℕ → Tree → Option (ℕ × List KeyRange) → Type 0
IsMost columns parts limit t (Some found) = IsUsed columns parts limit t found.0 found.1
IsMost columns parts limit t None = ArePartsUsed columns parts limit t 0

-- where there are ranges, they rise and are disjoint, each before the next
abbrev pub DoRise : List Part → ranged.Answer → Type 0
DoRise parts (ranges p list) = are_rising (fallings parts) list ≡ true
DoRise parts _ = Unit {0}

-- Where there are ranges, the key of each row that fits the schema and makes the condition true is in one of them. If a part has a prefix length,
-- the texts that the condition compares by an operator have to be UTF-8.
abbrev pub DoKeep : Schema → List Part → Tree → ranged.Answer → Type 0
DoKeep schema parts t (ranges p list) =
    (row : List Value) → (cuts parts ≡ true → ComparesUtf8 t) → FitsRow schema row → truth_at t row ≡ T → list_any (λ r. holds r (key_of parts row)) list ≡ true
DoKeep schema parts t _ = Unit {0}

-- where there are ranges, they are no more than this limit of items, or one
abbrev pub AreFew : ℕ → ranged.Answer → Type 0
AreFew limit (ranges p list) = length list ≤ max 1 limit
AreFew limit _ = Unit {0}
