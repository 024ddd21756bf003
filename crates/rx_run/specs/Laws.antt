-- Which rows candidates hand out.
use Rattle.std.specs.Prelude.{◌≡◌, ℕ, Bool, true, false, if◌then◌else◌, List, [], ◌∷◌, map, length, None, All}
use Rattle.std.specs.List.{list_any, range_with_len}
use Rattle.rx_value.specs.declared.values.Value.{Value}
use Rattle.rx_value.specs.declared.values.Value.TheVariants.{Null}
use Rattle.rx_value.specs.declared.ranges.KeyRange.{KeyRange}
use Rattle.rx_value.specs.declared.shapes.Part.{Part}
use Rattle.rx_value.specs.declared.shapes.Schema.{Schema}
use Rattle.rx_value.specs.Keys.{column_value}
use Rattle.rx_cost.specs.declared.candidates.Kind.TheVariants.{Intersect}
use Rattle.rx_cost.specs.declared.candidates.Role.{Role}
use Rattle.rx_cost.specs.declared.candidates.Role.TheVariants.{Scan as InRanges}
use Rattle.rx_cost.specs.declared.candidates.Scan.{Scan}
use Rattle.rx_cost.specs.declared.candidates.Candidate.{Candidate}
use Rattle.rx_estimate.specs.Estimates.{parts_in}
use Rattle.rx_run.specs.Made.{has_whole}

-- ranges read in a role are of an index that has the whole column
abbrev pub shows_in_role : Role → List Part → ℕ → Bool
shows_in_role InRanges parts column = list_any (has_whole column) parts
shows_in_role _ parts column = false

-- a scan shows a column: its ranges are read, and the index has the whole column
abbrev pub shows_column : Schema → ℕ → Scan → Bool
shows_column schema column scan = shows_in_role scan.role (parts_in schema scan.index) column

-- one of scans shows a column
abbrev pub has_column : Schema → List Scan → ℕ → Bool
has_column schema scans column = list_any (shows_column schema column) scans

-- a row as scans show it: NULL in every column that none of them shows
abbrev pub shown_row : Schema → List Scan → List Value → List Value
shown_row schema scans row = map (λ column. if has_column schema scans column then column_value column row else Null) (range_with_len 0 (length row))

-- no range, or one with a point for each of these parts and no span
abbrev pub AreOfOneKey : List Part → List KeyRange → Type 0
AreOfOneKey parts [] = Unit {0}
AreOfOneKey parts (range ∷ []) = (range.last ≡ None) × (length range.points ≡ length parts)
AreOfOneKey parts _ = ⊥

-- An intersection that reads no row: its scans are of one member, and those whose ranges are read have no more than one key each.
pub record IsShown (schema : Schema) (candidate : Candidate) : Type 0 where
  pub kind : candidate.kind ≡ Intersect
  pub entries : candidate.index_only ≡ true
  pub member : ℕ
  pub members : All (λ scan. scan.member ≡ member) candidate.scans
  pub keys : All (λ scan. scan.role ≡ InRanges → AreOfOneKey (parts_in schema scan.index) scan.ranges) candidate.scans
