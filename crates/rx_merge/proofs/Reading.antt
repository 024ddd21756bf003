-- What is read of scans, one after the other.
use Rattle.std.proofs.Common.{◌≡◌, ℕ, zero, ◌+◌, ◌*◌, ◌<◌, List, [], ◌∷◌, ◌++◌, length, Option, Some, None, IfSome, refl, sym, ap, ◌∙◌, arith}
use Rattle.std.specs.Prelude.{◌-◌, ◌^◌, min}
use Rattle.std.specs.List.{sum_by}
use Rattle.std.proofs.lemmas.List.Sums.{sum_by_push}
use Rattle.rx_value.specs.Counting.{rise}
use Rattle.rx_index.specs.declared.indexed.Indexed.{Indexed}
use Rattle.rx_store.specs.declared.tables.Counts.{Counts}
use Rattle.rx_store.specs.Tables.{Meaning, add_counts}
use Rattle.rx_cost.specs.declared.candidates.Scan.{Scan}
use Rattle.rx_cost.specs.declared.candidates.Candidate.{Candidate}
use Rattle.rx_estimate.specs.Estimates.{with_seeks}
use Rattle.rx_merge.specs.Merged.{entries_of, entries_read, count_ranges, reads_of}
use Rattle.rx_merge.specs.Runs.{ReadsIds, ReadsVisits, counted}

-- counts of the same numbers
same_counts : (a b : Counts) → a.seeks ≡ b.seeks → a.entries ≡ b.entries → a.rows ≡ b.rows → a ≡ b
same_counts a b s e r = λ i. record { seeks = s i; entries = e i; rows = r i }

rise_none : (c : ℕ) → rise 0 c ≡ c
rise_none c = grind arith

rise_more : (n m c : ℕ) → rise m (rise n c) ≡ rise (n + m) c
rise_more n m c = grind arith

-- nothing was read yet
pub reads_none : (table : Meaning) (c : Counts) → ReadsIds table [] c c 0
reads_none table c = record { entries = 0; told = by table.told; count_is = grind arith; counts = same_counts c (add_counts (reads_of [] 0) c) (sym (rise_none c.seeks)) (sym (rise_none c.entries)) (sym (rise_none c.rows)) }
  where
    by : (told : Option Indexed) → IfSome told (λ t. zero ≡ elim told [ Some u ↦ sum_by (entries_read u) [] | None ↦ 0 ])
    by None = tt
    by (Some t) = refl

more_told : (told : Option Indexed) (done : List Scan) (scan : Scan) (n m : ℕ) → IfSome told (λ t. n ≡ elim told [ Some u ↦ sum_by (entries_read u) done | None ↦ 0 ])
    → IfSome told (λ t. m ≡ elim told [ Some u ↦ sum_by (entries_read u) (scan ∷ []) | None ↦ 0 ])
    → IfSome told (λ t. n + m ≡ elim told [ Some u ↦ sum_by (entries_read u) (done ++ scan ∷ []) | None ↦ 0 ])
more_told None done scan n m p q = tt
more_told (Some t) done scan n m p q = omega (arith, p, q, sum_by_push (entries_read t) done scan)

counted_more : (n m a b : ℕ) → a ≡ counted n → b ≡ counted m → min (a + b) (2 ^ 64 - 1) ≡ counted (n + m)
counted_more n m a b p q = grind arith

-- one scan more
pub reads_more : (table : Meaning) (done : List Scan) (scan : Scan) (old mid new : Counts) (a b c : ℕ) → c ≡ min (a + b) (2 ^ 64 - 1)
    → ReadsIds table done old mid a → ReadsIds table (scan ∷ []) mid new b → ReadsIds table (done ++ scan ∷ []) old new c
reads_more table done scan old mid new a b c e p q = record {
  entries = p.entries + q.entries;
  told = more_told table.told done scan p.entries q.entries p.told q.told;
  count_is = e ∙ counted_more p.entries q.entries a b p.count_is q.count_is;
  counts =
      let ranges : 2 * count_ranges done + 2 * count_ranges (scan ∷ []) ≡ 2 * count_ranges (done ++ scan ∷ []) = omega (arith, sum_by_push (λ (s : Scan). length s.ranges) done scan) in
      q.counts ∙ ap (add_counts (reads_of (scan ∷ []) q.entries)) p.counts
      ∙ same_counts _ _ (rise_more (2 * count_ranges done) (2 * count_ranges (scan ∷ [])) old.seeks ∙ ap (λ n. rise n old.seeks) ranges) (rise_more p.entries q.entries old.entries) (rise_more 0 0 old.rows);
}

-- a number below the last count is counted as it is
pub counted_few : (n : ℕ) → n < 2 ^ 64 → n ≡ counted n
counted_few n few = grind arith

one_told : (told : Option Indexed) (scan : Scan) (n : ℕ) → IfSome told (λ t. n ≡ entries_read t scan) → IfSome told (λ t. n ≡ elim told [ Some u ↦ sum_by (entries_read u) (scan ∷ []) | None ↦ 0 ])
one_told None scan n h = tt
one_told (Some t) scan n h = omega (arith, h)

-- as many entries as places are read
pub many_read : (told : Option Indexed) (n m : ℕ) (scan : Scan) → m ≡ n → IfSome told (λ t. n ≡ entries_read t scan) → IfSome told (λ t. m ≡ entries_read t scan)
many_read None n m scan e h = tt
many_read (Some t) n m scan e h = e ∙ h

-- the seeks of a scan, and then so many entries
pub reads_one : (table : Meaning) (scan : Scan) (n : ℕ) (old mid new : Counts) → IfSome table.told (λ t. n ≡ entries_read t scan)
    → mid ≡ with_seeks (2 * length scan.ranges) old → new ≡ add_counts (reads_of [] n) mid → n < 2 ^ 64 → ReadsIds table (scan ∷ []) old new n
reads_one table scan n old mid new h s e few = record {
  entries = n;
  count_is = counted_few n few;
  told = one_told table.told scan n h;
  counts =
      let ranges : 2 * length scan.ranges + 0 ≡ 2 * count_ranges (scan ∷ []) = omega arith in
      e ∙ ap (add_counts (reads_of [] n)) s
      ∙ same_counts _ _ (rise_more (2 * length scan.ranges) 0 old.seeks ∙ ap (λ k. rise k old.seeks) ranges) refl refl;
}

-- the same, where so many are counted
pub reads_many : (table : Meaning) (scan : Scan) (n count : ℕ) (old mid new : Counts) → IfSome table.told (λ t. n ≡ entries_read t scan)
    → mid ≡ with_seeks (2 * length scan.ranges) old → new ≡ add_counts (reads_of [] n) mid → count < 2 ^ 64 → count ≡ n → ReadsIds table (scan ∷ []) old new count
reads_many table scan n count old mid new h s e few is =
    reads_one table scan count old mid new (many_read table.told n count scan is h) s (e ∙ ap (λ k. add_counts (reads_of [] k) mid) (sym is)) few

none_told : (told : Option Indexed) (scan : Scan) → IfSome told (λ t. entries_read t scan ≡ 0) → IfSome told (λ t. zero ≡ entries_read t scan)
none_told None scan h = tt
none_told (Some t) scan h = sym h

-- the seeks of a scan alone
pub reads_seeks : (table : Meaning) (scan : Scan) (old new : Counts) → IfSome table.told (λ t. entries_read t scan ≡ 0) → new ≡ with_seeks (2 * length scan.ranges) old → ReadsIds table (scan ∷ []) old new 0
reads_seeks table scan old new h s =
    reads_one table scan 0 old new new (none_told table.told scan h) s (same_counts new (add_counts (reads_of [] 0) new) (sym (rise_none new.seeks)) (sym (rise_none new.entries)) (sym (rise_none new.rows))) (omega arith)

-- one entry more
pub entry_more : (n : ℕ) (old mid new : Counts) → mid ≡ add_counts (reads_of [] n) old → new ≡ record mid { entries = rise 1 mid.entries } → new ≡ add_counts (reads_of [] (n + 1)) old
entry_more n old mid new p q = q ∙ ap (λ (c : Counts). record c { entries = rise 1 c.entries }) p ∙ same_counts _ _ refl (rise_more n 1 old.entries) refl

-- no entry yet
pub entry_none : (c : Counts) → c ≡ add_counts (reads_of [] 0) c
entry_none c = same_counts c (add_counts (reads_of [] 0) c) (sym (rise_none c.seeks)) (sym (rise_none c.entries)) (sym (rise_none c.rows))

exact_told : (told : Option Indexed) (scans : List Scan) (n m : ℕ) (old new : Counts) → IfSome told (λ t. n ≡ m) → new ≡ add_counts (reads_of scans n) old → IfSome told (λ t. new ≡ add_counts (reads_of scans m) old)
exact_told None scans n m old new h e = tt
exact_told (Some t) scans n m old new h e = e ∙ ap (λ k. add_counts (reads_of scans k) old) h

-- where it is told, what a candidate reads was read
pub reads_exact : (table : Meaning) (c : Candidate) (old new : Counts) (count : ℕ) → ReadsIds table c.scans old new count → ReadsVisits table c old new
reads_exact table c old new count r = exact_told table.told c.scans r.entries (entries_of table c.scans) old new r.told r.counts

rise_counted : (n c : ℕ) → rise n c ≡ rise (counted n) c
rise_counted n c = grind arith

-- so many entries as were counted were read
pub reads_counted : (table : Meaning) (scans : List Scan) (old new : Counts) (count : ℕ) → ReadsIds table scans old new count → new ≡ add_counts (reads_of scans count) old
reads_counted table scans old new count r =
    r.counts
    ∙ same_counts (add_counts (reads_of scans r.entries) old) (add_counts (reads_of scans count) old) refl (rise_counted r.entries old.entries ∙ ap (λ n. rise n old.entries) (sym r.count_is)) refl

-- where it is told, so many entries were counted as are read
pub entries_counted : (table : Meaning) (scans : List Scan) (old new : Counts) (count : ℕ) → ReadsIds table scans old new count → IfSome table.told (λ t. count ≡ counted (entries_of table scans))
entries_counted table scans old new count r = by table.told (entries_of table scans) r.told
  where
    by : (told : Option Indexed) (m : ℕ) → IfSome told (λ t. r.entries ≡ m) → IfSome told (λ t. count ≡ counted m)
    by None m h = tt
    by (Some t) m h = r.count_is ∙ ap counted h
