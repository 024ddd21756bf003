-- What is known of a condition on an index by what came of its first parts.
use Rattle.std.proofs.Common.{ℕ, ◌<◌, ◌≤◌, List, take, length}
use Rattle.rx_value.specs.declared.ranges.KeyRange.{KeyRange}
use Rattle.rx_value.specs.declared.shapes.Column.{Column}
use Rattle.rx_value.specs.declared.shapes.Part.{Part}
use Rattle.rx_cond.specs.Tree.{Tree}
use Rattle.rx_ranges.specs.Answers.{Fits, IsUsed}
use Rattle.rx_build.specs.Building.{AreRangesOn}

-- no more parts than the first p fit
abbrev pub NoMoreFit : List Column → List Part → ℕ → Tree → ℕ → Type 0
NoMoreFit columns parts limit t p = (q : ℕ) → p < q → q ≤ length parts → Fits columns parts limit t q → ⊥

-- where the first parts have ranges and no more parts fit, these are used
pub used_on : (columns : List Column) (parts : List Part) (limit : ℕ) (t : Tree) (p : ℕ) (list : List KeyRange) → 0 < p → p ≤ length parts → AreRangesOn columns (take p parts) limit t list → NoMoreFit columns parts limit t p → IsUsed columns parts limit t p list
used_on columns parts limit t p list some there on most = record {
  some = some;
  used = record { there = there; fits = λ h. on.fits; most = most };
  cover = record { tree = on.tree; of = on.of; is = on.is };
}
