-- A merge that runs: the ids that are left, and what is read for them.
use Rattle.std.specs.Prelude.{◌≡◌, ℕ, ◌<◌, List, [], ◌∷◌, Option, Some, None, IfSome, All}
use Rattle.std.specs.List.Sorted.{IsStrictlyIncreasing}
use Rattle.rx_value.specs.Counting.{rise}
use Rattle.rx_store.specs.declared.tables.Counts.{Counts}
use Rattle.rx_store.specs.Tables.{Meaning, WhereTold, add_counts}
use Rattle.rx_cost.specs.declared.candidates.Scan.{Scan}
use Rattle.rx_cost.specs.declared.candidates.Candidate.{Candidate}
use Rattle.rx_merge.specs.Merged.{merged_ids, entries_of, reads_of, merge_visits}

-- a merge that runs: the ids that are left, and how many entries were read when it was opened
pub record Merging : Type 0 where
  pub left : List ℕ
  pub entries : ℕ

-- a number as a count of 64 bits has it, which stays at its last value
abbrev pub counted : ℕ → ℕ
counted n = rise n 0

-- A merge that is opened: where they are told, its ids are those of its candidate, and so many entries were counted as its candidate reads; told or
-- not, each id is that of a row, and they rise.
pub record IsOpened (table : Meaning) (candidate : Candidate) (run : Merging) : Type 0 where
  pub ids : IfSome table.told (λ t. run.left ≡ merged_ids candidate t)
  pub entries : WhereTold table (run.entries ≡ counted (entries_of table candidate.scans))
  pub within : All (λ id. id < table.count) run.left
  pub rising : IsStrictlyIncreasing run.left

-- What reading the ids of scans adds to the counts: two seeks for each range, so many entries as are told, which were counted, and no row.
pub record ReadsIds (table : Meaning) (scans : List Scan) (old new : Counts) (count : ℕ) : Type 0 where
  pub entries : ℕ
  pub told : WhereTold table (entries ≡ entries_of table scans)
  pub counts : new ≡ add_counts (reads_of scans entries) old
  pub count_is : count ≡ counted entries

-- where it is told, the counts rose by exactly what a candidate reads
abbrev pub ReadsVisits : Meaning → Candidate → Counts → Counts → Type 0
ReadsVisits table candidate old new = WhereTold table (new ≡ add_counts (merge_visits candidate table) old)

-- no id or one was handed out: none exactly where none was left, else the first, which is left no more
abbrev pub HandsOut : Merging → Merging → Option ℕ → Type 0
HandsOut old new None = (old.left ≡ []) × (new ≡ old)
HandsOut old new (Some id) = (old.left ≡ id ∷ new.left) × (new.entries ≡ old.entries)

-- a run from one state to its end hands out these ids, one call after the other
abbrev pub HandsOutAll : Merging → List ℕ → Type 0
HandsOutAll run [] = HandsOut run run None
HandsOutAll run (id ∷ ids) = (next : Merging) × HandsOut run next (Some id) × HandsOutAll next ids
