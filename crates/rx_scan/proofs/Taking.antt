-- One row more of a run: what is left of the rows, and of what is read.
use Rattle.std.proofs.Common.{◌≡◌, ℕ, suc, ◌+◌, List, [], ◌∷◌, map, length, Option, Some, None, IfSome, refl, sym, ap, ap₂, ◌∙◌, arith}
use Rattle.rx_value.specs.declared.values.Value.{Value}
use Rattle.rx_value.specs.Counting.{rise}
use Rattle.rx_index.specs.declared.indexed.Indexed.{Indexed}
use Rattle.rx_store.specs.declared.tables.Counts.{Counts}
use Rattle.rx_store.specs.Tables.{Meaning, add_counts}
use Rattle.rx_cost.specs.declared.candidates.Kind.{Kind}
use Rattle.rx_cost.specs.declared.candidates.Kind.TheVariants.{Table as TableScan, Index as IndexScan, Range, Group, SkipScan, Intersect, Union, SortUnion}
use Rattle.rx_cost.specs.declared.candidates.Candidate.{Candidate}
use Rattle.rx_scan.specs.Visits.{visited, WhereCounted}
use Rattle.rx_scan.specs.declared.ways.Way.{Way}
use Rattle.rx_scan.specs.declared.ways.Way.TheVariants.{Row, EntryAndRow, Entry}
use Rattle.rx_estimate.specs.Estimates.{with_seeks}
use Rattle.rx_scan.specs.Runs.{Run, handed, rows_left, reads_for, reads_left, reads_in_all, HandsOut, seeks_to_open, IsOpened, HandsOutAll, HandsOutVisited}

-- the row that is handed out was the first of those left
pub rows_more : (table : Meaning) (old new : Run) (row : List Value) → HandsOut table old new (Some row) → IfSome table.told (λ t. rows_left old t ≡ row ∷ rows_left new t)
rows_more table old new row h = by table.told h.3
  where
    by : (told : Option Indexed) → IfSome told (λ t. row ≡ handed old.way t h.0) → IfSome told (λ t. rows_left old t ≡ row ∷ rows_left new t)
    by None is = tt
    by (Some t) is =
        ap (map (handed old.way t)) h.1
        ∙ ap₂ (λ (x : List Value) (w : Way). x ∷ map (handed w t) new.left) (sym is) (sym h.2)

-- no row is left where none is handed out
pub rows_done : (table : Meaning) (old new : Run) (t : Indexed) → HandsOut table old new None → rows_left old t ≡ []
rows_done table old new t h = ap (map (handed old.way t)) h.0

rise-zero : (c : ℕ) → rise 0 c ≡ c
rise-zero c = grind arith

rise-more : (n m c : ℕ) → rise m (rise n c) ≡ rise (n + m) c
rise-more n m c = grind arith

-- counts of the same numbers
same_counts : (a b : Counts) → a.seeks ≡ b.seeks → a.entries ≡ b.entries → a.rows ≡ b.rows → a ≡ b
same_counts a b s e r = λ i. record { seeks = s i; entries = e i; rows = r i }

step : (n : ℕ) (c : ℕ) → rise n (rise 1 c) ≡ rise (suc n) c
step n c = rise-more 1 n c ∙ ap (λ k. rise k c) (omega arith)

still : (c : ℕ) → rise 0 (rise 0 c) ≡ rise 0 c
still c = rise-more 0 0 c ∙ ap (λ k. rise k c) (omega arith)

one_more : (way : Way) (n : ℕ) (c : Counts) → add_counts (reads_for way n) (add_counts (reads_for way 1) c) ≡ add_counts (reads_for way (suc n)) c
one_more Row n c = same_counts _ _ (still c.seeks) (still c.entries) (step n c.rows)
one_more (EntryAndRow index) n c = same_counts _ _ (still c.seeks) (step n c.entries) (step n c.rows)
one_more (Entry index) n c = same_counts _ _ (still c.seeks) (step n c.entries) (still c.rows)

-- what is read for a row, and for those left, is what was to be read
pub reads_more : (table : Meaning) (old new : Run) (row : List Value) (before after : Counts) → HandsOut table old new (Some row) → after ≡ add_counts (reads_for old.way 1) before
    → add_counts (reads_left new) after ≡ add_counts (reads_left old) before
reads_more table old new row before after h e =
    ap₂ (λ (w : Way) (c : Counts). add_counts (reads_for w (length new.left)) c) h.2 e
    ∙ one_more old.way (length new.left) before
    ∙ ap (λ (l : List ℕ). add_counts (reads_for old.way (length l)) before) (sym h.1)

-- at the end all is read that was to be read
pub reads_done : (table : Meaning) (old new : Run) (before after : Counts) → HandsOut table old new None → after ≡ add_counts (reads_for old.way 0) before
    → after ≡ add_counts (reads_left old) before
reads_done table old new before after h e = e ∙ ap (λ (l : List ℕ). add_counts (reads_for old.way (length l)) before) (sym h.0)

opening : (way : Way) (n seeks : ℕ) (c : Counts) → add_counts (reads_for way n) (with_seeks seeks c) ≡ add_counts (record (reads_for way n) { seeks = seeks }) c
opening Row n seeks c = same_counts _ _ (rise-zero (rise seeks c.seeks)) refl refl
opening (EntryAndRow index) n seeks c = same_counts _ _ (rise-zero (rise seeks c.seeks)) refl refl
opening (Entry index) n seeks c = same_counts _ _ (rise-zero (rise seeks c.seeks)) refl refl

-- what a run reads behind the seeks that opened it
pub reads_opened : (run : Run) (seeks : ℕ) (before after : Counts) → after ≡ with_seeks seeks before → add_counts (reads_left run) after ≡ add_counts (reads_in_all seeks run) before
reads_opened run seeks before after e = ap (add_counts (reads_left run)) e ∙ opening run.way (length run.left) seeks before

-- ---- a run to its end

all_more : (told : Option Indexed) (old new : Run) (row : List Value) (rows : List (List Value)) → IfSome told (λ t. rows_left old t ≡ row ∷ rows_left new t)
    → IfSome told (λ t. rows ≡ rows_left new t) → IfSome told (λ t. row ∷ rows ≡ rows_left old t)
all_more None old new row rows h k = tt
all_more (Some t) old new row rows h k = ap (λ xs. row ∷ xs) k ∙ sym h

all_done : (told : Option Indexed) (run : Run) → run.left ≡ [] → IfSome told (λ t. [] ≡ rows_left run t)
all_done None run e = tt
all_done (Some t) run e = sym (ap (map (handed run.way t)) e)

-- the rows that are handed out are those left
all_left : (table : Meaning) (run : Run) (rows : List (List Value)) → HandsOutAll table run rows → IfSome table.told (λ t. rows ≡ rows_left run t)
all_left table run [] h = all_done table.told run h.0
all_left table run (row ∷ rows) h = all_more table.told run h.0 row rows (rows_more table run h.0 row h.1) (all_left table h.0 rows h.2)

-- there are as many as places
as_many_left : (table : Meaning) (run : Run) (rows : List (List Value)) → HandsOutAll table run rows → length rows ≡ length run.left
as_many_left table run [] h = sym (ap length h.0)
as_many_left table run (row ∷ rows) h = ap suc (as_many_left table h.0 rows h.2) ∙ sym (ap length h.1.1)

visited_all : (told : Option Indexed) (run : Run) (rows all : List (List Value)) → IfSome told (λ t. rows ≡ rows_left run t) → IfSome told (λ t. rows_left run t ≡ all) → IfSome told (λ t. rows ≡ all)
visited_all None run rows all h k = tt
visited_all (Some t) run rows all h k = h ∙ k

told_counted : {P Q : Type 0} (told : Option Indexed) → (P → Q) → IfSome told (λ t. P) → IfSome told (λ t. Q)
told_counted None f h = tt
told_counted (Some t) f h = f h

counted : {P Q : Type 0} (kind : Kind) (table : Meaning) → (P → Q) → WhereCounted kind table P → WhereCounted kind table Q
counted Range table f h = told_counted table.told f h
counted TableScan table f h = f h
counted IndexScan table f h = f h
counted Group table f h = f h
counted SkipScan table f h = f h
counted Intersect table f h = f h
counted Union table f h = f h
counted SortUnion table f h = f h

pub handed_out : (c : Candidate) (table : Meaning) (run : Run) (rows : List (List Value)) → IsOpened table c run → HandsOutAll table run rows → HandsOutVisited table c run rows
handed_out c table run rows o h = record {
  told = visited_all table.told run rows (visited c table) (all_left table run rows h) o.rows;
  reads = counted c.kind table (λ e. e ∙ ap (λ n. record (reads_for run.way n) { seeks = seeks_to_open c.kind c }) (sym (as_many_left table run rows h))) o.visits;
}
