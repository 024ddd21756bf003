-- The line of a trace, in compact JSON whose members stand in the order of their names.
use Rattle.std.specs.Prelude.{ℕ, ◌+◌, Bool, true, false, List, [], ◌∷◌, ◌++◌, map, filter, codes, slice_get, Option, Some, None}
use Rattle.std.specs.List.{enumerate_from, zip}
use Rattle.serde_json.specs.Data.{Data, null, boolean, number, string, array, object, member, no_members, unsigned}
use Rattle.serde_json.specs.View.{items_of}
use Rattle.serde_json.specs.Written.{compact_text}
use Rattle.rx_value.specs.declared.ranges.KeyRange.{KeyRange}
use Rattle.rx_value.specs.declared.shapes.Index.{Index}
use Rattle.rx_value.specs.declared.shapes.Part.{Part}
use Rattle.rx_value.specs.declared.shapes.Schema.{Schema}
use Rattle.rx_store.specs.declared.tables.Counts.{Counts}
use Rattle.rx_cost.specs.declared.candidates.Kind.{Kind}
use Rattle.rx_cost.specs.declared.candidates.Kind.TheVariants as kind
use Rattle.rx_cost.specs.declared.candidates.Reason.{Reason}
use Rattle.rx_cost.specs.declared.candidates.Scan.{Scan}
use Rattle.rx_cost.specs.declared.candidates.Candidate.{Candidate}
use Rattle.rx_trace.specs.declared.traces.Traced.{Traced}
use Rattle.rx_trace.specs.declared.listing.Listing.{Listing}
use Rattle.rx_trace.specs.declared.listing.Listing.TheVariants as list
use Rattle.rx_trace.specs.Names.{name_of_kind, name_of_role, name_of_reason, index_name, name_at}
use Rattle.rx_trace.specs.Ranges.{range_text}

abbrev pub whole : ℕ → Data
whole n = number (unsigned n)

-- the parts of an index by its number, none where it isn't there
abbrev pub parts_at : Schema → ℕ → List Part
parts_at schema n = elim (slice_get schema.indexes n) [ Some index ↦ index.parts | None ↦ [] ]

-- a range of a scan
abbrev pub range_data : Schema → List Part → ℕ → KeyRange → Data
range_data schema parts from r = string (range_text schema parts from r)

-- the ranges of a scan in order
abbrev pub ranges_data : Schema → Scan → Data
ranges_data schema scan = array (items_of (map (range_data schema (parts_at schema scan.index) scan.part) scan.ranges))

-- a scan of a candidate
abbrev pub scan_data : Schema → Scan → Data
scan_data schema scan = object (
    member (codes "dives") (boolean scan.dives) (
    member (codes "index") (string (name_at schema scan.index)) (
    member (codes "member") (whole scan.member) (
    member (codes "ranges") (ranges_data schema scan) (
    member (codes "role") (string (name_of_role scan.role)) (
    member (codes "rows") (whole scan.rows) no_members))))))

-- the scans of a candidate in order
abbrev pub scans_data : Schema → List Scan → Data
scans_data schema scans = array (items_of (map (scan_data schema) scans))

-- a candidate beside its number
abbrev pub candidate_data : Schema → ℕ × Candidate → Data
candidate_data schema c = object (
    member (codes "cost") (whole c.1.cost) (
    member (codes "index_only") (boolean c.1.index_only) (
    member (codes "n") (whole c.0) (
    member (codes "rows") (whole c.1.rows) (
    member (codes "scans") (scans_data schema c.1.scans) (
    member (codes "type") (string (name_of_kind c.1.kind)) no_members))))))

-- the chosen candidate, where there is one, with its number
abbrev pub summary_data : Option Candidate → ℕ → Data
summary_data None n = null
summary_data (Some candidate) n = object (
    member (codes "cost") (whole candidate.cost) (
    member (codes "n") (whole n) (
    member (codes "type") (string (name_of_kind candidate.kind)) no_members)))

-- a kind stands in a list
abbrev pub is_in : Listing → Kind → Bool
is_in list.Tables kind.Table = true
is_in list.Coverings kind.Index = true
is_in list.Groups kind.Group = true
is_in list.Skips kind.SkipScan = true
is_in list.Ranges kind.Range = true
is_in list.Intersections kind.Intersect = true
is_in list.Unions kind.Union = true
is_in list.Unions kind.SortUnion = true
is_in _ _ = false

-- the candidates of the kinds of a list in order, numbered from 1 among all
abbrev pub listed : Schema → Listing → List Candidate → List Data
listed schema l all = map (candidate_data schema) (filter (λ c. is_in l c.1.kind) (enumerate_from 1 all))

-- a list of candidates
abbrev pub list_data : Schema → Listing → List Candidate → Data
list_data schema l all = array (items_of (listed schema l all))

-- the first, or null where there is none
abbrev pub first_data : List Data → Data
first_data [] = null
first_data (d ∷ ds) = d

-- an index beside what the condition says of it
abbrev pub potential_data : Index × Reason → Data
potential_data p = object (
    member (codes "answer") (string (name_of_reason p.1)) (
    member (codes "index") (string (index_name p.0)) no_members))

-- each index beside what the condition says of it, by number
abbrev pub potentials_data : Schema → List Reason → Data
potentials_data schema answers = array (items_of (map potential_data (zip schema.indexes answers)))

-- the candidates, sorted by kind
abbrev pub analysis_data : Schema → List Candidate → List Reason → Data
analysis_data schema all answers = object (
    member (codes "analyzing_index_merge_union") (list_data schema list.Unions all) (
    member (codes "analyzing_roworder_intersect") (list_data schema list.Intersections all) (
    member (codes "covering_index_scans") (list_data schema list.Coverings all) (
    member (codes "group_index_range") (list_data schema list.Groups all) (
    member (codes "potential_range_indexes") (potentials_data schema answers) (
    member (codes "range_scan_alternatives") (list_data schema list.Ranges all) (
    member (codes "skip_scan_range") (list_data schema list.Skips all) (
    member (codes "table_scan") (first_data (listed schema list.Tables all)) no_members))))))))

-- the four numbers of reads
abbrev pub reads_data : ℕ → Counts → Data
reads_data dive_seeks reads = object (
    member (codes "dive_seeks") (whole dive_seeks) (
    member (codes "entries") (whole reads.entries) (
    member (codes "rows") (whole reads.rows) (
    member (codes "seeks") (whole reads.seeks) no_members))))

-- the four members of a trace
abbrev pub trace_object : ℕ → Data → Data → Data → Data
trace_object statement summary analysis reads = object (
    member (codes "chosen_range_access_summary") summary (
    member (codes "range_analysis") analysis (
    member (codes "reads") reads (
    member (codes "statement") (whole statement) no_members))))

-- What the trace of a statement tells: its number, the candidates in order, the place of the one that ran, what the condition says of each index, the
-- seeks that counted the rows in ranges, and what was read.
pub record Trace : Type 0 where
  pub statement : ℕ
  pub all : List Candidate
  pub chosen : ℕ
  pub answers : List Reason
  pub dive_seeks : ℕ
  pub reads : Counts

-- the same where the lists are borrowed
abbrev pub as_trace : Traced → Trace
as_trace t = record { statement = t.statement; all = t.all.now; chosen = t.chosen; answers = t.answers.now; dive_seeks = t.dive_seeks; reads = t.reads }

-- a trace as JSON
unfoldable pub trace_data : Schema → Trace → Data
trace_data schema t =
    trace_object t.statement (summary_data (slice_get t.all t.chosen) (t.chosen + 1)) (analysis_data schema t.all t.answers) (reads_data t.dive_seeks t.reads)

-- the line of a trace
unfoldable pub trace_line : Schema → Trace → List ℕ
trace_line schema t = compact_text (trace_data schema t) ++ 10 ∷ []
