-- The candidates of a question that need no planner of their own: the table scan, the covering scans and the range scans, with their costs.
use Rattle.std.specs.Prelude.{◌≡◌, ℕ, Bool, true, false, not, ◌&&◌, List, [], ◌∷◌, length, map}
use Rattle.std.specs.List.{filter}
use Rattle.rx_value.specs.declared.ranges.KeyRange.{KeyRange}
use Rattle.rx_value.specs.declared.shapes.Schema.{Schema}
use Rattle.rx_query.specs.declared.settings.Settings.{Settings}
use Rattle.rx_query.specs.Steps.{Question}
use Rattle.rx_index.specs.declared.indexed.Indexed.{Indexed}
use Rattle.rx_index.specs.Bounds.{index_keys}
use Rattle.rx_store.specs.Tables.{Meaning}
use Rattle.rx_estimate.specs.Estimates.{uses_statistics, estimate_of, numbers_at}
use Rattle.rx_cost.specs.declared.candidates.Kind.TheVariants.{Table, Index, Range}
use Rattle.rx_cost.specs.declared.candidates.Role.TheVariants.{Whole, Scan as ScanRole}
use Rattle.rx_cost.specs.declared.candidates.Scan.{Scan}
use Rattle.rx_cost.specs.declared.candidates.Candidate.{Candidate}
use Rattle.rx_cost.specs.Costs.{table_cost_of, index_cost_of, range_cost_of}
use Rattle.rx_plan.specs.Naming.{is_usable, is_index_only, is_primary, index_numbers}
use Rattle.rx_plan.specs.Known.{Known, Ranged, ranged_in}

-- the scan of a table of so many rows
abbrev pub table_scan : ℕ → Candidate
table_scan count = record { kind = Table; scans = []; cost = table_cost_of count; rows = count; index_only = false }

-- all entries of an index by its number: as many as there are rows, and none is counted by a seek
abbrev pub whole_scan : ℕ → ℕ → Scan
whole_scan count index = record { index = index; role = Whole; member = 1; part = 0; ranges = []; dives = false; rows = count }

-- the covering scan of an index, over a table of so many rows
abbrev pub index_scan : ℕ → ℕ → Candidate
index_scan count index = record { kind = Index; scans = whole_scan count index ∷ []; cost = index_cost_of count; rows = count; index_only = true }

-- there is a covering scan of an index: it may be used, and its entries alone answer the question
abbrev pub is_covering : Question → Schema → ℕ → Bool
is_covering q schema index = is_usable q index && is_index_only q schema index

-- the covering scans in order
abbrev pub covering_scans : Question → Meaning → List Candidate
covering_scans q table = map (index_scan table.count) (filter (is_covering q table.schema) (index_numbers table.schema))

-- the range scan of an index by its number: its ranges, whether all were counted by seeks, the rows that they are taken to have, whether it is the
-- primary key, whether entries alone are read
abbrev pub range_candidate : ℕ → List KeyRange → Bool → ℕ → Bool → Bool → Candidate
range_candidate index list dives rows primary index_only = record {
  kind = Range;
  scans = record { index = index; role = ScanRole; member = 1; part = 0; ranges = list; dives = dives; rows = rows } ∷ [];
  cost = range_cost_of (length list) rows primary index_only;
  rows = rows;
  index_only = index_only;
}

-- the range scan of an index whose ranges are taken to have so many rows
abbrev pub range_scan : Settings → Question → Schema → Ranged → ℕ → Candidate
range_scan settings q schema r rows =
    range_candidate r.index r.list (not (uses_statistics settings.dive_limit r.list)) rows (is_primary schema r.index) (is_index_only q schema r.index)

-- how many rows the ranges of an index are taken to have, by the rows that the table tells
abbrev pub estimated : Settings → Meaning → Indexed → Ranged → ℕ
estimated settings table t r = estimate_of settings.dive_limit table.count (numbers_at table.statistics r.index) (index_keys t r.index) r.list

-- the range scans in order, by what is known of the indexes and the rows that the table tells
abbrev pub range_scans : Settings → Question → Meaning → Indexed → List Known → List Candidate
range_scans settings q table t known = map (λ r. range_scan settings q table.schema r (estimated settings table t r)) (ranged_in known)
