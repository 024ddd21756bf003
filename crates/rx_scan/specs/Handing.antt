-- What a candidate must be that is handed to a scan.
use Rattle.std.specs.Prelude.{◌≡◌, ◌<◌, ◌≤◌, true, false, List, [], ◌∷◌, length, map, All}
use Rattle.rx_value.specs.declared.ranges.KeyRange.{KeyRange}
use Rattle.rx_value.specs.declared.shapes.Part.{Part}
use Rattle.rx_value.specs.declared.shapes.Schema.{Schema}
use Rattle.rx_value.specs.Keys.{spans_in}
use Rattle.rx_value.specs.Spans.{IsSpanPart}
use Rattle.rx_cover.specs.Cover.{are_rising}
use Rattle.rx_cost.specs.declared.candidates.Kind.{Kind}
use Rattle.rx_cost.specs.declared.candidates.Kind.TheVariants.{Table, Index as IndexScan, Range}
use Rattle.rx_cost.specs.declared.candidates.Role.TheVariants.{Whole, Scan as InRanges}
use Rattle.rx_cost.specs.declared.candidates.Scan.{Scan}
use Rattle.rx_cost.specs.declared.candidates.Candidate.{Candidate}
use Rattle.rx_estimate.specs.Estimates.{parts_in}

-- a range of an index of these parts: it names no more parts than there are, and its span is one
pub record IsRangeOf (parts : List Part) (range : KeyRange) : Type 0 where
  pub within : length (spans_in range) ≤ length parts
  pub span : IsSpanPart range.last

-- ranges of an index of these parts that rise and are disjoint, each before the next
pub record AreRangesOf (parts : List Part) (ranges : List KeyRange) : Type 0 where
  pub each : All (IsRangeOf parts) ranges
  pub rising : are_rising (map (λ part. part.descending) parts) ranges ≡ true

-- the scan of a table has no scan of an index
pub record IsTableScan (candidate : Candidate) : Type 0 where
  pub none : candidate.scans ≡ []
  pub rows : candidate.index_only ≡ false

-- an index scan has one scan of a whole index that is there, without ranges, and reads no row
pub record IsIndexScan (schema : Schema) (candidate : Candidate) : Type 0 where
  pub scan : Scan
  pub one : candidate.scans ≡ scan ∷ []
  pub role : scan.role ≡ Whole
  pub there : scan.index < length schema.indexes
  pub no_ranges : scan.ranges ≡ []
  pub entries : candidate.index_only ≡ true

-- a range scan has one scan, of ranges of an index that is there
pub record IsRangeScan (schema : Schema) (candidate : Candidate) : Type 0 where
  pub scan : Scan
  pub one : candidate.scans ≡ scan ∷ []
  pub role : scan.role ≡ InRanges
  pub there : scan.index < length schema.indexes
  pub ranges : AreRangesOf (parts_in schema scan.index) scan.ranges

-- a kind of candidate is one of these scans
abbrev pub IsScanOfKind : Kind → Schema → Candidate → Type 0
IsScanOfKind Table schema candidate = IsTableScan candidate
IsScanOfKind IndexScan schema candidate = IsIndexScan schema candidate
IsScanOfKind Range schema candidate = IsRangeScan schema candidate
IsScanOfKind _ schema candidate = ⊥

-- a candidate that is a table scan, an index scan or a range scan over a schema
abbrev pub IsScan : Schema → Candidate → Type 0
IsScan schema candidate = IsScanOfKind candidate.kind schema candidate
