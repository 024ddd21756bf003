-- The intersections and the unions of a question, in order, and that each can be run.
use Rattle.std.specs.Prelude.{◌≡◌, ◌<◌, ◌≤◌, ◌^◌, true, if◌then◌else◌, List, [], length, Option, All}
use Rattle.std.specs.List.{filter_map}
use Rattle.rx_value.specs.declared.shapes.Schema.{Schema}
use Rattle.rx_query.specs.declared.settings.Settings.{Settings}
use Rattle.rx_query.specs.Steps.{Question}
use Rattle.rx_index.specs.declared.indexed.Indexed.{Indexed}
use Rattle.rx_store.specs.Tables.{Meaning}
use Rattle.rx_cost.specs.declared.candidates.Kind.{Kind}
use Rattle.rx_cost.specs.declared.candidates.Kind.TheVariants.{Intersect, Union, SortUnion}
use Rattle.rx_cost.specs.declared.candidates.Role.{Role}
use Rattle.rx_cost.specs.declared.candidates.Role.TheVariants.{Scan as ScanRole, Filter}
use Rattle.rx_cost.specs.declared.candidates.Scan.{Scan}
use Rattle.rx_cost.specs.declared.candidates.Candidate.{Candidate}
use Rattle.rx_cost.specs.Costs.{most_counted}
use Rattle.rx_plan.specs.Naming.{columns_named}
use Rattle.rx_plan.specs.Known.{Known, Ranged, ranged_in, known_by}
use Rattle.rx_merges.specs.Intersections.{intersections_among}
use Rattle.rx_merges.specs.Unions.{union_of}
use Rattle.rx_merge_plan.specs.declared.plans.MergePlans.{MergePlans}
use Rattle.rx_merge_plan.specs.Disjuncts.{scans_of, scan_lists, open_lists, asks_unions, asks_intersections}

-- the intersections of the scans on the indexes that a condition narrows, by the rows that the table tells
abbrev pub intersections_at : Settings → Question → Meaning → Indexed → List Ranged → List Candidate
intersections_at settings q table t list = intersections_among true (columns_named q table.schema) table.schema table.count (scans_of settings table t 1 list)

-- the intersections of a question in order, by what is known of the indexes
abbrev pub intersections : Settings → Question → Meaning → Indexed → List Known → List Candidate
intersections settings q table t known = if asks_intersections settings then intersections_at settings q table t (ranged_in known) else []

-- the union of a disjunction, where there is one, by the indexes that each disjunct narrows to ranges
abbrev pub union_at : Settings → Meaning → Indexed → List (List Ranged) → Option Candidate
union_at settings table t lists = union_of settings table.schema table.count (scan_lists settings table t 1 lists)

-- The unions of a question in order, those of sorted ids too: for each open disjunction one at most. What is known of the indexes isn't asked for, since
-- each disjunct is a condition of its own.
abbrev pub unions : Settings → Question → Meaning → Indexed → List Candidate
unions settings q table t = if asks_unions settings then filter_map (union_at settings table t) (open_lists settings q table.schema) else []

-- plans are the intersections and the unions of a question, by the rows that the table tells
pub record AreMerges (settings : Settings) (q : Question) (table : Meaning) (t : Indexed) (plans : MergePlans) : Type 0 where
  pub intersections : plans.intersections ≡ intersections settings q table t (known_by settings q table.schema q.cond)
  pub unions : plans.unions ≡ unions settings q table t

-- a kind of candidate merges scans
abbrev pub IsMergeKind : Kind → Type 0
IsMergeKind Intersect = Unit {0}
IsMergeKind Union = Unit {0}
IsMergeKind SortUnion = Unit {0}
IsMergeKind _ = ⊥

-- a scan of a merge is for the entries in its ranges, or filters others by the primary key
abbrev pub IsMergeRole : Role → Type 0
IsMergeRole ScanRole = Unit {0}
IsMergeRole Filter = Unit {0}
IsMergeRole _ = ⊥

-- a scan can be merged with others: its index is there, its ranges are no more than may be counted, and it is for its entries or a filter
pub record CanMeet (schema : Schema) (scan : Scan) : Type 0 where
  pub there : scan.index < length schema.indexes
  pub ranges : length scan.ranges ≤ most_counted
  pub role : IsMergeRole scan.role

-- a merge can be run, whatever the rows are: its scans are no more than 2 ^ 40, and each can be merged
pub record CanMerge (schema : Schema) (candidate : Candidate) : Type 0 where
  pub kind : IsMergeKind candidate.kind
  pub few : length candidate.scans ≤ 2 ^ 40
  pub scans : All (CanMeet schema) candidate.scans
