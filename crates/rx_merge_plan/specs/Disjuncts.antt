-- The scans of conditions of their own on the indexes of a table: of a whole condition, and of the disjuncts of its disjunctions.
use Rattle.std.specs.Prelude.{◌≡◌, ◌≤◌, ℕ, ◌+◌, Bool, true, false, not, ◌&&◌, ◌||◌, nat_eq, nat_le, if◌then◌else◌, List, [], ◌∷◌, length, map, Some, None}
use Rattle.std.specs.List.{filter, list_any, list_all, sum_by}
use Rattle.rx_value.specs.declared.shapes.Schema.{Schema}
use Rattle.rx_cond.specs.Tree.{Tree, disj}
use Rattle.rx_cond.specs.Parts.{conjuncts_of, disjuncts_of}
use Rattle.rx_query.specs.declared.settings.Settings.{Settings}
use Rattle.rx_query.specs.Steps.{Question}
use Rattle.rx_index.specs.declared.indexed.Indexed.{Indexed}
use Rattle.rx_store.specs.Tables.{Meaning}
use Rattle.rx_build.specs.Given.{answer_for}
use Rattle.rx_estimate.specs.Estimates.{parts_in, uses_statistics, IsEstimate, dive_seeks}
use Rattle.rx_cost.specs.declared.candidates.Role.TheVariants.{Scan as ScanRole}
use Rattle.rx_cost.specs.declared.candidates.Scan.{Scan}
use Rattle.rx_plan.specs.Naming.{is_usable, index_numbers}
use Rattle.rx_plan.specs.Known.{Ranged, known_by, known_at, ranged_as, ranged_in}
use Rattle.rx_plan.specs.Candidates.{estimated}
use Rattle.rx_merges.specs.Fitting.{most_disjuncts}

-- the indexes that a condition of its own narrows to ranges, in order
abbrev pub ranged_by : Settings → Question → Schema → Tree → List Ranged
ranged_by settings q schema cond = ranged_in (known_by settings q schema cond)

-- the scan of the ranges of an index, for a disjunct by its place from 1, whose rows nothing was read of
abbrev pub found_scan : ℕ → Ranged → Scan
found_scan member r = record { index = r.index; role = ScanRole; member = member; part = 0; ranges = r.list; dives = false; rows = 0 }

-- the scan of an index that a condition of its own narrows to ranges, where it does so
abbrev pub found_at : Settings → Question → Schema → Tree → ℕ → ℕ → List Scan
found_at settings q schema cond member index = map (found_scan member) (ranged_as index (known_at settings q schema cond index).answer)

-- a condition is a disjunction
abbrev pub is_disjunction : Tree → Bool
is_disjunction (disj items) = true
is_disjunction _ = false

-- the indexes that each disjunct of a condition narrows to ranges
abbrev pub ranged_lists : Settings → Question → Schema → Tree → List (List Ranged)
ranged_lists settings q schema cond = map (ranged_by settings q schema) (disjuncts_of cond)

-- an index is one of those that are narrowed
abbrev pub has_index : ℕ → List Ranged → Bool
has_index index list = list_any (λ r. nat_eq r.index index) list

-- a disjunction is open: no usable index is narrowed by every disjunct
abbrev pub is_open : Question → Schema → List (List Ranged) → Bool
is_open q schema lists = not (list_any (λ index. is_usable q index && list_all (has_index index) lists) (index_numbers schema))

-- there are no more disjuncts than a union is made of
abbrev pub has_few_disjuncts : List (List Ranged) → Bool
has_few_disjuncts lists = nat_le (length lists) most_disjuncts

-- A disjunction is considered: it is open and has few disjuncts. One of more than 1,048,576, for which a script has too few bytes, is taken as not open.
abbrev pub is_considered : Question → Schema → List (List Ranged) → Bool
is_considered q schema lists = has_few_disjuncts lists && is_open q schema lists

-- the disjunctions among the conjuncts of a question's condition, in order
abbrev pub disjunctions : Question → List Tree
disjunctions q = filter is_disjunction (conjuncts_of q.cond)

-- of each open disjunction that is considered, the indexes that each disjunct narrows to ranges
abbrev pub open_lists : Settings → Question → Schema → List (List (List Ranged))
open_lists settings q schema = filter (is_considered q schema) (map (ranged_lists settings q schema) (disjunctions q))

-- the scan of the ranges of an index that are taken to have so many rows, for a disjunct by its place from 1
abbrev pub ranged_scan : Settings → ℕ → Ranged → ℕ → Scan
ranged_scan settings member r rows = record {
  index = r.index;
  role = ScanRole;
  member = member;
  part = 0;
  ranges = r.list;
  dives = not (uses_statistics settings.dive_limit r.list);
  rows = rows;
}

-- A scan after its ranges were counted, whether the rows are told or not: its rows are the estimate, and no more than there are.
pub record IsCountedScan (settings : Settings) (table : Meaning) (scan counted : Scan) : Type 0 where
  pub is : counted ≡ record scan { dives = not (uses_statistics settings.dive_limit scan.ranges); rows = counted.rows }
  pub within : counted.rows ≤ table.count
  pub estimate : IsEstimate table scan.index settings.dive_limit scan.ranges counted.rows

-- the scans of indexes that a disjunct narrows, by the rows that the table tells
abbrev pub scans_of : Settings → Meaning → Indexed → ℕ → List Ranged → List Scan
scans_of settings table t member list = map (λ r. ranged_scan settings member r (estimated settings table t r)) list

-- the scans of each disjunct, the first of which has this place
abbrev pub scan_lists : Settings → Meaning → Indexed → ℕ → List (List Ranged) → List (List Scan)
scan_lists settings table t member [] = []
scan_lists settings table t member (list ∷ lists) = scans_of settings table t member list ∷ scan_lists settings table t (member + 1) lists

-- unions are asked for
abbrev pub asks_unions : Settings → Bool
asks_unions settings = settings.merge && (settings.union_on || settings.sort_union)

-- intersections are asked for
abbrev pub asks_intersections : Settings → Bool
asks_intersections settings = settings.merge && settings.intersection

-- how many seeks the estimates of these ranges take
abbrev pub seeks_of : Settings → List Ranged → ℕ
seeks_of settings list = sum_by (λ r. dive_seeks settings.dive_limit r.list) list

-- how many seeks the estimates of the ranges of disjuncts take: those of each open disjunction that is considered, where unions are asked for
abbrev pub merge_seeks : Settings → Question → Schema → ℕ
merge_seeks settings q schema = if asks_unions settings then sum_by (sum_by (seeks_of settings)) (open_lists settings q schema) else 0
