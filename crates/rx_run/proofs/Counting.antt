-- Counts that stay at their last value, and what a run reads.
use Rattle.std.proofs.Common.{◌≡◌, ℕ, suc, ◌+◌, ◌*◌, ◌<◌, List, [], ◌∷◌, ◌++◌, take, map, length, get_or, Option, Some, None, IfSome, sym, ap, ap₂, ◌∙◌, arith}
use Rattle.std.specs.Prelude.{◌-◌, ◌^◌, min}
use Rattle.std.proofs.lemmas.List.{take_more}
use Rattle.std.proofs.lemmas.List.Sums.{sum_by_push}
use Rattle.rx_value.specs.declared.values.Value.{Value}
use Rattle.rx_value.specs.Counting.{rise}
use Rattle.rx_index.specs.declared.indexed.Indexed.{Indexed}
use Rattle.rx_store.specs.declared.tables.Counts.{Counts}
use Rattle.rx_store.specs.Tables.{Meaning, add_counts}
use Rattle.rx_cost.specs.declared.candidates.Scan.{Scan}
use Rattle.rx_cost.specs.declared.candidates.Candidate.{Candidate}
use Rattle.rx_scan.specs.declared.ways.Way.TheVariants.{Row, EntryAndRow, Entry}
use Rattle.rx_merge.specs.Merged.{count_ranges}
use Rattle.rx_run.specs.Reads.{counted_number}
use Rattle.rx_run.specs.Ways.{Way, handed, reads_each, counted}
use Rattle.rx_run.specs.Ways.Way.{scanned, by_id, made}
use Rattle.rx_run.specs.Visits.{visited}
use Rattle.rx_run.specs.Runs.{Run, rows_left, reads_left, HandsOut, IsOpened, HandsOutAll, HandsOutVisited}

pub same_counts : (a b : Counts) → a.seeks ≡ b.seeks → a.entries ≡ b.entries → a.rows ≡ b.rows → a ≡ b
same_counts a b s e r = λ i. record { seeks = s i; entries = e i; rows = r i }

-- ---- seeks of scans

more_seeks : (a n : ℕ) → min (min (2 * a) (2 ^ 64 - 1) + min (n * 2) (2 ^ 64 - 1)) (2 ^ 64 - 1) ≡ min (2 * (a + n)) (2 ^ 64 - 1)
more_seeks a n = grind arith

-- one scan more
pub seeks_more : (scans : List Scan) (i : ℕ) (scan : Scan) (seeks after : ℕ) → i < length scans → scan ≡ get_or scans i scan → seeks ≡ counted_number (2 * count_ranges (take i scans))
    → after ≡ min (seeks + min (length scan.ranges * 2) (2 ^ 64 - 1)) (2 ^ 64 - 1) → after ≡ counted_number (2 * count_ranges (take (i + 1) scans))
seeks_more scans i scan seeks after lt is h e =
    let more : count_ranges (take (i + 1) scans) ≡ count_ranges (take i scans) + length scan.ranges =
    ap count_ranges (take_more scans i scan lt ∙ ap (λ s. take i scans ++ s ∷ []) (sym is)) ∙ sum_by_push (λ (s : Scan). length s.ranges) (take i scans) scan in
    e ∙ ap (λ n. min (n + min (length scan.ranges * 2) (2 ^ 64 - 1)) (2 ^ 64 - 1)) h ∙ more_seeks (count_ranges (take i scans)) (length scan.ranges) ∙ ap (λ n. counted_number (2 * n)) (sym more)

-- ---- sums of counts

pub rise_zero : (c : ℕ) → rise 0 c ≡ c
rise_zero c = grind arith

pub rise_more : (n m c : ℕ) → rise m (rise n c) ≡ rise (n + m) c
rise_more n m c = grind arith

pub rise_counted : (n c : ℕ) → rise (rise n 0) c ≡ rise n c
rise_counted n c = grind arith

rise_sum : (n m c : ℕ) → rise n (rise m c) ≡ rise (rise n m) c
rise_sum n m c = grind arith

-- counts that stay at their last value count as much
pub counts_counted : (reads a : Counts) → add_counts (counted reads) a ≡ add_counts reads a
counts_counted reads a = same_counts _ _ (rise_counted reads.seeks a.seeks) (rise_counted reads.entries a.entries) (rise_counted reads.rows a.rows)

-- one after the other is both at once
pub counts_both : (x y a : Counts) → add_counts x (add_counts y a) ≡ add_counts (add_counts x y) a
counts_both x y a = same_counts _ _ (rise_sum x.seeks y.seeks a.seeks) (rise_sum x.entries y.entries a.entries) (rise_sum x.rows y.rows a.rows)

step : (n c : ℕ) → rise n (rise 1 c) ≡ rise (suc n) c
step n c = rise_more 1 n c ∙ ap (λ k. rise k c) (omega arith)

still : (c : ℕ) → rise 0 (rise 0 c) ≡ rise 0 c
still c = rise_more 0 0 c

pub one_more : (way : Way) (n : ℕ) (c : Counts) → add_counts (reads_each way n) (add_counts (reads_each way 1) c) ≡ add_counts (reads_each way (suc n)) c
one_more (scanned Row) n c = same_counts _ _ (still c.seeks) (still c.entries) (step n c.rows)
one_more (scanned (EntryAndRow index)) n c = same_counts _ _ (still c.seeks) (step n c.entries) (step n c.rows)
one_more (scanned (Entry index)) n c = same_counts _ _ (still c.seeks) (step n c.entries) (still c.rows)
one_more by_id n c = same_counts _ _ (still c.seeks) (still c.entries) (step n c.rows)
one_more (made row) n c = same_counts _ _ (still c.seeks) (still c.entries) (still c.rows)

-- nothing is read for no row
pub nothing_read : (way : Way) (c : Counts) → c ≡ add_counts (reads_each way 0) c
nothing_read (scanned Row) c = same_counts _ _ (sym (rise_zero c.seeks)) (sym (rise_zero c.entries)) (sym (rise_zero c.rows))
nothing_read (scanned (EntryAndRow index)) c = same_counts _ _ (sym (rise_zero c.seeks)) (sym (rise_zero c.entries)) (sym (rise_zero c.rows))
nothing_read (scanned (Entry index)) c = same_counts _ _ (sym (rise_zero c.seeks)) (sym (rise_zero c.entries)) (sym (rise_zero c.rows))
nothing_read by_id c = same_counts _ _ (sym (rise_zero c.seeks)) (sym (rise_zero c.entries)) (sym (rise_zero c.rows))
nothing_read (made row) c = same_counts _ _ (sym (rise_zero c.seeks)) (sym (rise_zero c.entries)) (sym (rise_zero c.rows))

-- ---- one row more of a run

-- the row that is handed out was the first of those left
pub rows_more : (table : Meaning) (old new : Run) (row : List Value) → HandsOut table old new (Some row) → IfSome table.told (λ t. rows_left old t ≡ row ∷ rows_left new t)
rows_more table old new row h = by table.told h.5
  where
    by : (told : Option Indexed) → IfSome told (λ t. row ≡ handed old.way t h.0) → IfSome told (λ t. rows_left old t ≡ row ∷ rows_left new t)
    by None is = tt
    by (Some t) is = ap (map (handed old.way t)) h.1 ∙ ap₂ (λ (x : List Value) (w : Way). x ∷ map (handed w t) new.left) (sym is) (sym h.2)

-- no row is left where none is handed out
pub rows_done : (table : Meaning) (old new : Run) (t : Indexed) → HandsOut table old new None → rows_left old t ≡ []
rows_done table old new t h = ap (map (handed old.way t)) h.0

-- what is read for a row, and for those left, is what was to be read
pub reads_more : (table : Meaning) (old new : Run) (row : List Value) (before after : Counts) → HandsOut table old new (Some row) → after ≡ add_counts (reads_each old.way 1) before
    → add_counts (reads_left new) after ≡ add_counts (reads_left old) before
reads_more table old new row before after h e =
    ap₂ (λ (w : Way) (c : Counts). add_counts (reads_each w (length new.left)) c) h.2 e
    ∙ one_more old.way (length new.left) before
    ∙ ap (λ (l : List ℕ). add_counts (reads_each old.way (length l)) before) (sym h.1)

-- at the end all is read that was to be read
pub reads_done : (table : Meaning) (old new : Run) (before after : Counts) → HandsOut table old new None → after ≡ add_counts (reads_each old.way 0) before
    → after ≡ add_counts (reads_left old) before
reads_done table old new before after h e = e ∙ ap (λ (l : List ℕ). add_counts (reads_each old.way (length l)) before) (sym h.0)

-- ---- a run to its end

all_more : (told : Option Indexed) (old new : Run) (row : List Value) (rows : List (List Value)) → IfSome told (λ t. rows_left old t ≡ row ∷ rows_left new t)
    → IfSome told (λ t. rows ≡ rows_left new t) → IfSome told (λ t. row ∷ rows ≡ rows_left old t)
all_more None old new row rows h k = tt
all_more (Some t) old new row rows h k = ap (λ xs. row ∷ xs) k ∙ sym h

all_done : (told : Option Indexed) (run : Run) → run.left ≡ [] → IfSome told (λ t. [] ≡ rows_left run t)
all_done None run e = tt
all_done (Some t) run e = sym (ap (map (handed run.way t)) e)

all_left : (table : Meaning) (run : Run) (rows : List (List Value)) → HandsOutAll table run rows → IfSome table.told (λ t. rows ≡ rows_left run t)
all_left table run [] h = all_done table.told run h.0
all_left table run (row ∷ rows) h = all_more table.told run h.0 row rows (rows_more table run h.0 row h.1) (all_left table h.0 rows h.2)

as_many_left : (table : Meaning) (run : Run) (rows : List (List Value)) → HandsOutAll table run rows → length rows ≡ length run.left
as_many_left table run [] h = sym (ap length h.0)
as_many_left table run (row ∷ rows) h = ap suc (as_many_left table h.0 rows h.2) ∙ sym (ap length h.1.1)

visited_all : (told : Option Indexed) (run : Run) (rows all : List (List Value)) → IfSome told (λ t. rows ≡ rows_left run t) → IfSome told (λ t. rows_left run t ≡ all) → IfSome told (λ t. rows ≡ all)
visited_all None run rows all h k = tt
visited_all (Some t) run rows all h k = h ∙ k

read_all : {P Q : Type 0} (told : Option Indexed) → (P → Q) → IfSome told (λ t. P) → IfSome told (λ t. Q)
read_all None f h = tt
read_all (Some t) f h = f h

pub handed_out : (c : Candidate) (table : Meaning) (run : Run) (rows : List (List Value)) → IsOpened table c run → HandsOutAll table run rows → HandsOutVisited table c run rows
handed_out c table run rows o h = record {
  told = visited_all table.told run rows (visited c table) (all_left table run rows h) o.rows;
  reads = read_all table.told (λ e. e ∙ ap (λ n. add_counts (reads_each run.way n) run.opened) (sym (as_many_left table run rows h))) o.visits;
}
