-- Which rows table scans, index scans and range scans hand out, in whatever order.
use Rattle.std.specs.Prelude.{◌≡◌, Bool, true, false, not, ◌&&◌, List, filter, map, All}
use Rattle.std.specs.List.{list_any}
use Rattle.rx_value.specs.declared.values.Value.{Value}
use Rattle.rx_value.specs.declared.ranges.KeyRange.{KeyRange}
use Rattle.rx_value.specs.declared.shapes.Part.{Part}
use Rattle.rx_value.specs.declared.shapes.Schema.{Schema}
use Rattle.rx_value.specs.Keys.{key_of, holds}
use Rattle.rx_index.specs.declared.indexed.Indexed.{Indexed}
use Rattle.rx_index.specs.Entries.{parts_at, IsInIdOrder}
use Rattle.rx_cost.specs.declared.candidates.Kind.{Kind}
use Rattle.rx_cost.specs.declared.candidates.Kind.TheVariants.{Index, Range}
use Rattle.rx_cost.specs.declared.candidates.Candidate.{Candidate}
use Rattle.rx_scan.specs.Handed.{seen_row, AreWhole}
use Rattle.rx_scan.specs.Visits.{index_of, ranges_of, is_primary}

-- the key of a row is in one of the ranges
abbrev pub is_in_ranges : List Part → List KeyRange → List Value → Bool
is_in_ranges parts ranges row = list_any (λ range. holds range (key_of parts row)) ranges

-- the rows by id whose keys are in one of the ranges
abbrev pub rows_in_ranges : List Part → List KeyRange → List (List Value) → List (List Value)
rows_in_ranges parts ranges rows = filter (is_in_ranges parts ranges) rows

-- rows as a query sees them that names the parts of an index alone, where they are read as entries
abbrev pub rows_seen : Bool → List Part → List (List Value) → List (List Value)
rows_seen true parts rows = map (seen_row parts) rows
rows_seen false parts rows = rows

-- a kind of candidate reads entries and no rows
abbrev pub reads_entries : Kind → Schema → Candidate → Bool
reads_entries Index schema candidate = true
reads_entries Range schema candidate = not (is_primary schema (index_of candidate)) && candidate.index_only
reads_entries _ schema candidate = false

-- a candidate reads entries and no rows
abbrev pub is_by_entries : Schema → Candidate → Bool
is_by_entries schema candidate = reads_entries candidate.kind schema candidate

-- rows stand by primary key where there is one
abbrev pub AreById : Indexed → Type 0
AreById t = IsInIdOrder t.schema.indexes t.rows t.rows

-- What is asked of a table and an index: no part has a prefix length where entries alone are read, and rows stand by the primary key where its places are read as ids.
pub record SuitsScan (schema : Schema) (candidate : Candidate) (t : Indexed) : Type 0 where
  pub whole : is_by_entries schema candidate ≡ true → AreWhole (parts_at t (index_of candidate))
  pub by_id : candidate.kind ≡ Range → is_primary schema (index_of candidate) ≡ true → AreById t

-- What is asked of a test: where ranges are read, each row that passes it is in one of them; where entries alone are read, it doesn't look at columns that are no part.
pub record SuitsTest (schema : Schema) (candidate : Candidate) (t : Indexed) (test : List Value → Bool) : Type 0 where
  pub in_ranges : candidate.kind ≡ Range → All (λ row. test row ≡ true → is_in_ranges (parts_at t (index_of candidate)) (ranges_of candidate) row ≡ true) t.rows
  pub seen : is_by_entries schema candidate ≡ true → All (λ row. test (seen_row (parts_at t (index_of candidate)) row) ≡ test row) t.rows
