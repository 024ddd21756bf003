-- What holds of each intersection and union, whatever the scans are.
use Rattle.std.specs.Prelude.{◌≡◌, ◌≤◌, ℕ, ◌+◌, Bool, true, nat_eq, List, [], ◌∷◌, ◌++◌, length, All}
use Rattle.std.specs.List.{list_any, list_all, filter}
use Rattle.rx_value.specs.declared.ranges.KeyRange.{KeyRange}
use Rattle.rx_value.specs.declared.shapes.Schema.{Schema}
use Rattle.rx_cost.specs.declared.candidates.Kind.TheVariants.{Intersect}
use Rattle.rx_cost.specs.declared.candidates.Role.TheVariants.{Scan as ScanRole, Filter}
use Rattle.rx_cost.specs.declared.candidates.Scan.{Scan}
use Rattle.rx_cost.specs.declared.candidates.Candidate.{Candidate}
use Rattle.rx_plan.specs.Naming.{is_primary}
use Rattle.rx_merges.specs.Ordered.{is_row_ordered}

-- the scans of a condition: each in the role of a scan, and of the primary key one at most
pub record AreOfCondition (schema : Schema) (scans : List Scan) : Type 0 where
  pub roles : All (λ scan. scan.role ≡ ScanRole) scans
  pub primary : length (filter (λ scan. is_primary schema scan.index) scans) ≤ 1

-- a scan of an intersection gives row ids in rising order
pub record IsOrderedScan (schema : Schema) (scan : Scan) : Type 0 where
  pub role : scan.role ≡ ScanRole
  pub ordered : is_row_ordered schema scan ≡ true

-- a filter is a scan of the primary key
pub record IsFilter (schema : Schema) (scan : Scan) : Type 0 where
  pub role : scan.role ≡ Filter
  pub primary : is_primary schema scan.index ≡ true

-- An intersection: scans that give row ids in rising order, at least one, and behind them a filter at most; two at least in all.
pub record IsIntersection (schema : Schema) (candidate : Candidate) : Type 0 where
  pub kind : candidate.kind ≡ Intersect
  pub scans : List Scan
  pub filters : List Scan
  pub is : candidate.scans ≡ scans ++ filters
  pub some : 1 ≤ length scans
  pub one : length filters ≤ 1
  pub two : 2 ≤ length candidate.scans
  pub ordered : All (IsOrderedScan schema) scans
  pub filter : All (IsFilter schema) filters

-- the scans of each disjunct have its place, the first of which is this
abbrev pub AreNumbered : ℕ → List (List Scan) → Type 0
AreNumbered n [] = Unit {0}
AreNumbered n (list ∷ lists) = All (λ scan. scan.member ≡ n) list × AreNumbered (n + 1) lists

-- a test of indexes and their ranges, such as whether these hold the key of a row, is met by each of scans
abbrev pub all_meet : (ℕ → List KeyRange → Bool) → List Scan → Bool
all_meet test scans = list_all (λ scan. test scan.index scan.ranges) scans

-- a member of a union meets a test: it has a scan, and each of its scans meets it
pub record DoesMeet (test : ℕ → List KeyRange → Bool) (scans : List Scan) (member : ℕ) : Type 0 where
  pub some : list_any (λ scan. nat_eq scan.member member) scans ≡ true
  pub all : All (λ scan. scan.member ≡ member → test scan.index scan.ranges ≡ true) scans
