-- The ordinary plan of a question: its table scan and covering scans, its range scans, and the reason of each index.
use Rattle.std.specs.Prelude.{◌≡◌, ◌≤◌, ℕ, true, List, ◌∷◌, map, IfSome, All, length}
use Rattle.std.specs.List.{list_any, sum_by, AllZip}
use Rattle.rx_value.specs.declared.values.Value.{Value}
use Rattle.rx_value.specs.declared.ranges.KeyRange.{KeyRange}
use Rattle.rx_value.specs.declared.shapes.Part.{Part}
use Rattle.rx_value.specs.declared.shapes.Schema.{Schema}
use Rattle.rx_value.specs.Shape.{FitsRow}
use Rattle.rx_value.specs.Spans.{IsSpanPart}
use Rattle.rx_value.specs.Keys.{key_of, holds, spans_in}
use Rattle.rx_cond.specs.declared.conds.Tri.TheVariants.{T}
use Rattle.rx_cond.specs.Tree.{Tree, truth_at}
use Rattle.rx_regions.specs.Texts.{ComparesUtf8, cuts}
use Rattle.rx_cover.specs.Cover.{are_rising}
use Rattle.rx_query.specs.declared.settings.Settings.{Settings}
use Rattle.rx_query.specs.Steps.{Question}
use Rattle.rx_store.specs.Tables.{Meaning, HasIndex}
use Rattle.rx_ranges.specs.Answers.{fallings}
use Rattle.rx_estimate.specs.Estimates.{parts_in, IsEstimate, dive_seeks}
use Rattle.rx_cost.specs.declared.candidates.Scan.{Scan}
use Rattle.rx_cost.specs.declared.candidates.Candidate.{Candidate}
use Rattle.rx_plan.specs.declared.plans.OrdinaryPlan.{OrdinaryPlan}
use Rattle.rx_plan.specs.Known.{Known, Ranged, AreKnown, reason_of, ranged_in, seeks_known}
use Rattle.rx_plan.specs.Candidates.{table_scan, covering_scans, range_scan, range_scans}

-- a candidate is the range scan of an index with these ranges, whether the rows are told or not: its rows are the estimate, and no more than there are
pub record IsRangeScan (settings : Settings) (q : Question) (table : Meaning) (r : Ranged) (candidate : Candidate) : Type 0 where
  pub there : HasIndex table r.index
  pub is : candidate ≡ range_scan settings q table.schema r candidate.rows
  pub within : candidate.rows ≤ table.count
  pub estimate : IsEstimate table r.index settings.dive_limit r.list candidate.rows

-- candidates are the range scans of these indexes, one each, in order
abbrev pub AreRangeScans : Settings → Question → Meaning → List Ranged → List Candidate → Type 0
AreRangeScans settings q table list candidates = AllZip (IsRangeScan settings q table) list candidates

-- how many seeks the estimates of the scans of these candidates take
abbrev pub seeks_taken : Settings → List Candidate → ℕ
seeks_taken settings list = sum_by (λ c. sum_by (λ s. dive_seeks settings.dive_limit s.ranges) c.scans) list

-- The ordinary plan, whether the rows are told or not. Where they are, its range scans are exactly the defined ones.
pub record IsOrdinary (settings : Settings) (q : Question) (table : Meaning) (plan : OrdinaryPlan) : Type 0 where
  pub known : List Known
  pub are_known : AreKnown settings q table.schema known
  pub answers : plan.answers ≡ map reason_of known
  pub scans : plan.scans ≡ table_scan table.count ∷ covering_scans q table
  pub ranges : AreRangeScans settings q table (ranged_in known) plan.ranges
  pub told : IfSome table.told (λ t. plan.ranges ≡ range_scans settings q table t known)
  pub seeks : seeks_taken settings plan.ranges ≡ seeks_known settings known

-- a range of an index of these parts: it names no more parts than there are, and its span, where it has one, is a span
pub record IsRangeOf (parts : List Part) (range : KeyRange) : Type 0 where
  pub within : length (spans_in range) ≤ length parts
  pub span : IsSpanPart range.last

-- The ranges of a scan are ranges of its index that rise and are disjoint, each before the next; and the key of each row that fits the schema and
-- makes the condition true is in one of them. If a part has a prefix length, the texts that the condition compares by an operator have to be UTF-8.
pub record LosesNoRow (schema : Schema) (t : Tree) (scan : Scan) : Type 0 where
  pub each : All (IsRangeOf (parts_in schema scan.index)) scan.ranges
  pub rise : are_rising (fallings (parts_in schema scan.index)) scan.ranges ≡ true
  pub keep : (row : List Value) → (cuts (parts_in schema scan.index) ≡ true → ComparesUtf8 t) → FitsRow schema row → truth_at t row ≡ T
      → list_any (λ r. holds r (key_of (parts_in schema scan.index) row)) scan.ranges ≡ true

-- no scan of a candidate loses a row
abbrev pub KeepsRows : Schema → Tree → Candidate → Type 0
KeepsRows schema t candidate = All (LosesNoRow schema t) candidate.scans
