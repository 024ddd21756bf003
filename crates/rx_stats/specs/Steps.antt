-- The numbers of the first parts.
use Rattle.std.specs.Prelude.{◌≡◌, ℕ, ◌+◌, ◌<◌, List, length}
use Rattle.std.proofs.Common.{get_or}
use Rattle.rx_value.specs.declared.values.Value.{Value}
use Rattle.rx_value.specs.declared.shapes.Part.{Part}
use Rattle.rx_stats.specs.Computed.{IsPerKey}

-- the numbers of the first parts so far
pub record AreNumbersTo (parts : List Part) (rows : List (List Value)) (count : ℕ) (numbers : List ℕ) : Type 0 where
  pub as_many : length numbers ≡ count
  pub each : (i : ℕ) → i < count → IsPerKey parts (i + 1) rows (get_or numbers i 0)
