-- Each candidate is one that a scan can run.
use Rattle.std.proofs.Common.{not, List, [], All, refl, ap, subst}
use Rattle.std.proofs.lemmas.List.Elements.{All-head, All-weaker}
use Rattle.rx_value.specs.declared.ranges.KeyRange.{KeyRange}
use Rattle.rx_value.specs.declared.shapes.Part.{Part}
use Rattle.rx_value.specs.declared.shapes.Schema.{Schema}
use Rattle.rx_cond.specs.Tree.{Tree}
use Rattle.rx_query.specs.declared.settings.Settings.{Settings}
use Rattle.rx_query.specs.Steps.{Question}
use Rattle.rx_index.specs.declared.indexed.Indexed.{Indexed}
use Rattle.rx_store.specs.Tables.{Meaning}
use Rattle.rx_cost.specs.declared.candidates.Kind.{Kind}
use Rattle.rx_cost.specs.declared.candidates.Kind.TheVariants.{Table, Index, Range, Group, SkipScan, Intersect, Union, SortUnion}
use Rattle.rx_cost.specs.declared.candidates.Role.TheVariants.{Scan as InRanges}
use Rattle.rx_cost.specs.declared.candidates.Scan.{Scan}
use Rattle.rx_cost.specs.declared.candidates.Candidate.{Candidate}
use Rattle.rx_estimate.specs.Estimates.{parts_in, uses_statistics}
use Rattle.rx_plan.specs.Known.{Known, Ranged, AreKnown}
use Rattle.rx_plan.specs.Candidates.{whole_scan, estimated}
use Rattle.rx_candidates.specs.Candidates.{candidates}
use Rattle.rx_plan.specs.Plan.{LosesNoRow}
use Rattle.rx_plan.specs.Plan.{IsRangeOf as IsPlanned}
use Rattle.rx_plan.specs.Kinds.{IsScanOfRanges}
use Rattle.rx_candidates.specs.Kinds.{IsOfKind, IsOfItsKind}
use Rattle.rx_candidates.proofs.Members.{all_of_kinds}
use Rattle.rx_scan.specs.Handing.{IsRangeOf, AreRangesOf, IsScanOfKind, IsScan}

-- a range of an index for the plan is one for the scan
ranged_so : (parts : List Part) (range : KeyRange) → IsPlanned parts range → IsRangeOf parts range
ranged_so parts range h = record { within = h.within; span = h.span }

-- the ranges of a scan that loses no row are ranges of its index
pub ranges_so : (schema : Schema) (cond : Tree) (scan : Scan) → LosesNoRow schema cond scan → AreRangesOf (parts_in schema scan.index) scan.ranges
ranges_so schema cond scan h =
    let parts = parts_in schema scan.index in
    record {
      each = All-weaker (IsPlanned parts) (IsRangeOf parts) (ranged_so parts) scan.ranges h.each;
      rising = h.rise;
    }

module _ (settings : Settings) (q : Question) (table : Meaning) (t : Indexed) (c : Candidate) where
  -- the scan of a range scan
  abbrev pub scan_of : Ranged → Scan
  scan_of r = record { index = r.index; role = InRanges; member = 1; part = 0; ranges = r.list; dives = not (uses_statistics settings.dive_limit r.list); rows = estimated settings table t r }

  pub none_lost : (h : IsScanOfRanges settings q table t c) → LosesNoRow table.schema q.cond (scan_of h.r)
  none_lost h = All-head (LosesNoRow table.schema q.cond) (scan_of h.r) [] (subst (All (LosesNoRow table.schema q.cond)) (ap (λ (x : Candidate). x.scans) h.is) h.keep)

  runs_by : (kind : Kind) → IsOfKind kind settings q table t c → IsScanOfKind kind table.schema c
  runs_by Table h = record { none = ap (λ (x : Candidate). x.scans) h; rows = ap (λ (x : Candidate). x.index_only) h }
  runs_by Index h = record {
    scan = whole_scan table.count h.index;
    one = ap (λ (x : Candidate). x.scans) h.is;
    role = refl;
    there = h.there;
    no_ranges = refl;
    entries = ap (λ (x : Candidate). x.index_only) h.is;
  }
  runs_by Range h = record {
    scan = scan_of h.r;
    one = ap (λ (x : Candidate). x.scans) h.is;
    role = refl;
    there = h.there;
    ranges = ranges_so table.schema q.cond (scan_of h.r) (none_lost h);
  }
  runs_by Group h = absurd h
  runs_by SkipScan h = absurd h
  runs_by Intersect h = absurd h
  runs_by Union h = absurd h
  runs_by SortUnion h = absurd h

  -- a candidate that is what its kind says can be run
  pub can_run : IsOfItsKind settings q table t c → IsScan table.schema c
  can_run h = runs_by c.kind h

-- all candidates can be run
pub all_run : (settings : Settings) (q : Question) (table : Meaning) (t : Indexed) (known : List Known) → AreKnown settings q table.schema known → All (IsScan table.schema) (candidates settings q table t known)
all_run settings q table t known are =
    All-weaker (IsOfItsKind settings q table t) (IsScan table.schema) (can_run settings q table t) (candidates settings q table t known) (all_of_kinds settings q table t known are)
