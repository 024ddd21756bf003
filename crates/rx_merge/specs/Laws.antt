-- Which rows merges hand out.
use Rattle.std.specs.Prelude.{◌≡◌, Bool, true, List, map, All}
use Rattle.rx_value.specs.declared.values.Value.{Value}
use Rattle.rx_index.specs.declared.indexed.Indexed.{Indexed}
use Rattle.rx_index.specs.Entries.{row_at, parts_at}
use Rattle.rx_cost.specs.declared.candidates.Scan.{Scan}
use Rattle.rx_cost.specs.declared.candidates.Candidate.{Candidate}
use Rattle.rx_scan.specs.Visits.{is_primary}
use Rattle.rx_scan.specs.Laws.{is_in_ranges, AreById}
use Rattle.rx_merge.specs.Merged.{passes_member, merged_ids}

-- the key of a row is in one of the ranges of a scan
abbrev pub is_in_scan : Indexed → List Value → Scan → Bool
is_in_scan t row scan = is_in_ranges (parts_at t scan.index) scan.ranges row

-- the keys of a row are in ranges of all scans of one of the members
abbrev pub is_in_member : Indexed → List Scan → List Value → Bool
is_in_member t scans row = passes_member (is_in_scan t row) scans

-- the rows with the ids that a candidate hands out, in that order
abbrev pub merged_rows : Candidate → Indexed → List (List Value)
merged_rows candidate t = map (row_at t.rows) (merged_ids candidate t)

-- rows stand by the primary key where a scan is of it, since its places are read as ids
abbrev pub AreByIdWhereRead : Candidate → Indexed → Type 0
AreByIdWhereRead candidate t = All (λ scan. is_primary t.schema scan.index ≡ true → AreById t) candidate.scans
