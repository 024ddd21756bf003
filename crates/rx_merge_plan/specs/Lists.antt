-- The scans of the disjuncts of a disjunction before and after their rows are counted, and what one conjunct of a condition adds.
use Rattle.std.specs.Prelude.{ℕ, min, ◌+◌, ◌≤◌, Bool, not, ◌&&◌, nat_eq, if◌then◌else◌, List, [], ◌∷◌, length, map, Option, Some, None, All}
use Rattle.std.specs.List.{list_any, list_all, flat_map, sum_by, AllZip}
use Rattle.std.specs.Option.{option_to_list}
use Rattle.rx_value.specs.declared.shapes.Schema.{Schema}
use Rattle.rx_cond.specs.Tree.{Tree}
use Rattle.rx_query.specs.declared.settings.Settings.{Settings}
use Rattle.rx_query.specs.Steps.{Question}
use Rattle.rx_index.specs.declared.indexed.Indexed.{Indexed}
use Rattle.rx_store.specs.Tables.{Meaning}
use Rattle.rx_estimate.specs.Estimates.{uses_statistics, dive_seeks}
use Rattle.rx_cost.specs.declared.candidates.Scan.{Scan}
use Rattle.rx_cost.specs.declared.candidates.Candidate.{Candidate}
use Rattle.rx_plan.specs.Naming.{is_usable, index_numbers}
use Rattle.rx_plan.specs.Known.{Ranged}
use Rattle.rx_plan.specs.Seeks.{most_told}
use Rattle.rx_plan.specs.Candidates.{estimated}
use Rattle.rx_merges.specs.Fitting.{most_scans}
use Rattle.rx_merge_plan.specs.Disjuncts.{found_scan, is_disjunction, is_considered, ranged_lists, seeks_of, IsCountedScan}
use Rattle.rx_merge_plan.specs.Merges.{union_at, CanMeet}

-- the scans of candidates, in order
abbrev pub scans_in : List Candidate → List Scan
scans_in candidates = flat_map (λ candidate. candidate.scans) candidates

-- the scans of each disjunct, whose rows nothing was read of, the first of which has this place
abbrev pub found_lists : ℕ → List (List Ranged) → List (List Scan)
found_lists member [] = []
found_lists member (list ∷ lists) = map (found_scan member) list ∷ found_lists (member + 1) lists

-- the same where a disjunction is considered, and nothing where it isn't
abbrev pub found_where : Question → Schema → List (List Ranged) → Option (List (List Scan))
found_where q schema lists = if is_considered q schema lists then Some (found_lists 1 lists) else None

-- the scans of a condition of its own: each can be merged, and they are no more than there may be
pub record AreFound (schema : Schema) (scans : List Scan) : Type 0 where
  pub each : All (CanMeet schema) scans
  pub few : length scans ≤ most_scans

-- an index is that of one of these scans
abbrev pub have_index : ℕ → List Scan → Bool
have_index index scans = list_any (λ scan. nat_eq scan.index index) scans

-- an index is usable, and each disjunct has a scan of it
abbrev pub is_in_all : Question → List (List Scan) → ℕ → Bool
is_in_all q lists index = is_usable q index && list_all (have_index index) lists

-- the scans of disjuncts are those of an open disjunction: there is no such index
abbrev pub are_open : Question → Schema → List (List Scan) → Bool
are_open q schema lists = not (list_any (is_in_all q lists) (index_numbers schema))

-- scans after their ranges were counted, each by each
abbrev pub AreCounted : Settings → Meaning → List Scan → List Scan → Type 0
AreCounted settings table scans counted = AllZip (IsCountedScan settings table) scans counted

-- a scan after its ranges were counted, by the rows that the table tells
abbrev pub counted_scan : Settings → Meaning → Indexed → Scan → Scan
counted_scan settings table t scan = record scan {
  dives = not (uses_statistics settings.dive_limit scan.ranges);
  rows = estimated settings table t (record { index = scan.index; list = scan.ranges });
}

-- the scans of each disjunct after that
abbrev pub counted_lists : Settings → Meaning → Indexed → List (List Scan) → List (List Scan)
counted_lists settings table t lists = map (map (counted_scan settings table t)) lists

-- how many seeks the estimates of the ranges of scans take
abbrev pub scan_seeks : Settings → List Scan → ℕ
scan_seeks settings scans = sum_by (λ scan. dive_seeks settings.dive_limit scan.ranges) scans

-- the unions of a disjunction, one at most, by the indexes that each disjunct narrows to ranges: none where it isn't considered
abbrev pub unions_at : Settings → Question → Meaning → Indexed → List (List Ranged) → List Candidate
unions_at settings q table t lists = if is_considered q table.schema lists then option_to_list (union_at settings table t lists) else []

-- how many seeks their estimates take
abbrev pub seeks_at : Settings → Question → Schema → List (List Ranged) → ℕ
seeks_at settings q schema lists = if is_considered q schema lists then sum_by (seeks_of settings) lists else 0

-- the unions that a conjunct adds: none where it isn't a disjunction
abbrev pub unions_by : Settings → Question → Meaning → Indexed → Tree → List Candidate
unions_by settings q table t cond = if is_disjunction cond then unions_at settings q table t (ranged_lists settings q table.schema cond) else []

-- how many seeks it takes
abbrev pub seeks_by : Settings → Question → Schema → Tree → ℕ
seeks_by settings q schema cond = if is_disjunction cond then seeks_at settings q schema (ranged_lists settings q schema cond) else 0

-- a number of seeks after more, as far as a number goes
abbrev pub told_after : ℕ → ℕ → ℕ
told_after seeks more = min most_told (seeks + more)
