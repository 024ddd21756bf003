-- A condition within a limit of items has no more ranges than the limit.
use Rattle.std.proofs.Common.{◌≤◌, ℕ, List, length, arith}
use Rattle.rx_value.specs.declared.ranges.KeyRange.{KeyRange}
use Rattle.rx_value.specs.declared.shapes.Column.{Column}
use Rattle.rx_value.specs.declared.shapes.Part.{Part}
use Rattle.rx_cond.specs.Tree.{Tree}
use Rattle.rx_ranges.specs.Answers.{IsAnswer, ranges}
use Rattle.rx_build.proofs.Few.{used_few}

-- an answer that is ranges has no more of them than the limit, which isn't above the most
pub few_ranges : (columns : List Column) (parts : List Part) (limit most : ℕ) (t : Tree) (p : ℕ) (list : List KeyRange) → limit ≤ most → 1 ≤ most
    → IsAnswer columns parts limit t (ranges p list) → length list ≤ most
few_ranges columns parts limit most t p list low some (is, not) = omega (arith, used_few columns parts limit t p list is, low, some)
