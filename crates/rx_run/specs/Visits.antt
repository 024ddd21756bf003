-- What candidates of any kind read, and the rows that they hand out in order.
use Rattle.std.specs.Prelude.{ℕ, Bool, true, false, if◌then◌else◌, List, [], map, length, Some, None}
use Rattle.rx_value.specs.declared.values.Value.{Value}
use Rattle.rx_value.specs.declared.shapes.Schema.{Schema}
use Rattle.rx_store.specs.declared.tables.Counts.{Counts}
use Rattle.rx_store.specs.Tables.{Meaning}
use Rattle.rx_cost.specs.declared.candidates.Kind.{Kind}
use Rattle.rx_cost.specs.declared.candidates.Kind.TheVariants.{Intersect, Union, SortUnion}
use Rattle.rx_cost.specs.declared.candidates.Candidate.{Candidate}
use Rattle.rx_scan.specs.Visits.{visited as scan_visited, visits as scan_visits}
use Rattle.rx_scan.specs.Runs.{way_of_kind, seeks_to_open}
use Rattle.rx_merge.specs.Merged.{merged_ids, merge_visits}
use Rattle.rx_run.specs.Made.{made_row}
use Rattle.rx_run.specs.Ways.{Way, handed}
use Rattle.rx_run.specs.Ways.Way.{scanned, by_id, made}

-- a kind of candidate merges the ids of scans
abbrev pub is_merge : Kind → Bool
is_merge Intersect = true
is_merge Union = true
is_merge SortUnion = true
is_merge _ = false

-- how a merge hands out rows: by id, and where entries alone are read the row that its scans tell, for each id
abbrev pub way_of_merge : Schema → Candidate → Way
way_of_merge schema candidate = if candidate.index_only then made (made_row schema candidate.scans) else by_id

-- how a merge, or a scan, hands out rows
abbrev pub way_by : Bool → Schema → Candidate → Way
way_by true schema candidate = way_of_merge schema candidate
way_by false schema candidate = scanned (way_of_kind candidate.kind schema candidate)

-- how a candidate hands out rows
abbrev pub way_of : Schema → Candidate → Way
way_of schema candidate = way_by (is_merge candidate.kind) schema candidate

-- the rows that a merge hands out in order, and none where they aren't told
abbrev pub merge_visited : Candidate → Meaning → List (List Value)
merge_visited candidate table = elim table.told [ Some t ↦ map (handed (way_of_merge table.schema candidate) t) (merged_ids candidate t) | None ↦ [] ]

-- the rows of a merge, or of a scan, in the order in which they are handed out
abbrev pub visited_by : Bool → Candidate → Meaning → List (List Value)
visited_by true candidate table = merge_visited candidate table
visited_by false candidate table = scan_visited candidate table

-- the rows in the order in which a candidate hands them out
abbrev pub visited : Candidate → Meaning → List (List Value)
visited candidate table = visited_by (is_merge candidate.kind) candidate table

-- how many ids a merge hands out, and none where they aren't told
abbrev pub count_merged : Candidate → Meaning → ℕ
count_merged candidate table = elim table.told [ Some t ↦ length (merged_ids candidate t) | None ↦ 0 ]

-- how many rows a merge reads: that of each id, and none where entries alone are read
abbrev pub rows_merged : Candidate → Meaning → ℕ
rows_merged candidate table = if candidate.index_only then 0 else count_merged candidate table

-- what a merge, or a scan, reads in all
abbrev pub visits_by : Bool → Candidate → Meaning → Counts
visits_by true candidate table = record (merge_visits candidate table) { rows = rows_merged candidate table }
visits_by false candidate table = scan_visits candidate table

-- what a candidate reads in all
abbrev pub visits : Candidate → Meaning → Counts
visits candidate table = visits_by (is_merge candidate.kind) candidate table

-- what the opening of a merge, or of a scan, reads
abbrev pub opening_by : Bool → Candidate → Meaning → Counts
opening_by true candidate table = merge_visits candidate table
opening_by false candidate table = record { seeks = seeks_to_open candidate.kind candidate; entries = 0; rows = 0 }

-- what the opening of a candidate reads: two seeks for each range, and the entries in the ranges of a merge
abbrev pub opening_reads : Candidate → Meaning → Counts
opening_reads candidate table = opening_by (is_merge candidate.kind) candidate table
