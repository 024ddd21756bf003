-- Which rows the scans hand out, in whatever order.
use Rattle.std.proofs.Common.{◌≡◌, ℕ, zero, suc, ◌+◌, ◌<◌, Bool, true, false, not, ◌&&◌, ◌||◌, cond, List, [], ◌∷◌, ◌++◌, map, filter, drop, length, get_or, slice_get, Option, Some, None, IfSome, All, refl, sym, ap, ap₂, ◌∙◌, subst, arith}
use Rattle.std.specs.Prelude.{nat_eq, if◌then◌else◌, slice_index}
use Rattle.std.specs.Ordering.{ordering_then, nat_cmp, is_lt}
use Rattle.std.specs.declared.cmp.Ordering.{Ordering}
use Rattle.std.specs.declared.cmp.Ordering.TheVariants.{Less, Equal, Greater}
use Rattle.std.specs.List.{range_with_len, flat_map}
use Rattle.std.specs.List.Sorted.{IsPermutation}
use mathlib.Core.Path.{fun_ext}
use Rattle.std.proofs.lemmas.Bool.{eqb-true}
use Rattle.std.proofs.lemmas.List.{map-append, length-map}
use Rattle.std.proofs.lemmas.List.FromFn.{length-range_with_len, get_or-range_with_len}
use Rattle.std.proofs.lemmas.List.Elements.{All-nil, All-append, All-head, All-tail, All-weaker, All-filter, All-from_get_or}
use Rattle.std.proofs.lemmas.List.Sorted.{IsPermutation-refl, IsPermutation-sym, IsPermutation-cons, IsPermutation-trans, IsPermutation-middle, IsPermutation-append_right, IsPermutation-map}
use Rattle.rx_value.specs.declared.values.Value.{Value}
use Rattle.rx_value.specs.declared.values.Value.TheVariants.{Null}
use Rattle.rx_value.specs.declared.ranges.KeyRange.{KeyRange}
use Rattle.rx_value.specs.declared.shapes.Part.{Part}
use Rattle.rx_value.specs.declared.shapes.Column.{Column}
use Rattle.rx_value.specs.declared.shapes.Index.{Index}
use Rattle.rx_value.specs.declared.shapes.Schema.{Schema}
use Rattle.rx_value.specs.Shape.{FitsColumns, FitsRow}
use Rattle.rx_value.specs.Keys.{column_value, cut_value, part_value, key_of, holds}
use Rattle.rx_value.proofs.KeyOrder.{by_key}
use Rattle.rx_index.specs.declared.indexed.Indexed.{Indexed}
use Rattle.rx_index.specs.Entries.{IsOrder, IsByKey, IsByPrimary, IsInIdOrder, row_at, entry_key, entry_cmp, parts_at, ids_at}
use Rattle.rx_store.specs.Tables.{Meaning, IsMeaning, IsTold}
use Rattle.rx_store.proofs.Places.{as_many, order_of}
use Rattle.rx_cost.specs.declared.candidates.Kind.{Kind}
use Rattle.rx_cost.specs.declared.candidates.Kind.TheVariants.{Table as TableScan, Index as IndexScan, Range, Group, SkipScan, Intersect, Union, SortUnion}
use Rattle.rx_cost.specs.declared.candidates.Scan.{Scan}
use Rattle.rx_cost.specs.declared.candidates.Candidate.{Candidate}
use Rattle.rx_cover.specs.Cover.{are_rising}
use Rattle.rx_group.proofs.Bags.{IsPermutation-filter}
use Rattle.rx_load.proofs.Orders.{entries_are}
use Rattle.rx_scan.specs.Handed.{entry_value, entry_row, is_part, seen_row, AreWhole}
use Rattle.rx_estimate.specs.Estimates.{parts_in}
use Rattle.rx_scan.specs.Handing.{IsRangeOf, IsIndexScan, IsRangeScan, IsScanOfKind, IsScan}
use Rattle.rx_scan.specs.Visits.{index_of, ranges_of, is_primary, row_by_entry, ids_held, places_held, fetched_rows, range_rows, rows_of_kind, visited}
use Rattle.rx_scan.specs.Laws.{is_in_ranges, rows_in_ranges, rows_seen, reads_entries, is_by_entries, SuitsScan, SuitsTest}
use Rattle.rx_scan.proofs.Opened.{row_at_is, all_rows, entries_in_ranges, index_there}
use Rattle.rx_scan.proofs.Apart.{HasSpan, in_no_other, rising_rest}

-- ---- lists

map_agree : {X Y : Type 0} (f g : X → Y) (xs : List X) → All (λ x. f x ≡ g x) xs → map f xs ≡ map g xs
map_agree f g [] h = refl
map_agree f g (x ∷ xs) h = ap₂ (λ y ys. y ∷ ys) (All-head (λ x. f x ≡ g x) x xs h) (map_agree f g xs (All-tail (λ x. f x ≡ g x) x xs h))

map_map : {X Y Z : Type 0} (f : X → Y) (g : Y → Z) (xs : List X) → map (λ x. g (f x)) xs ≡ map g (map f xs)
map_map f g [] = refl
map_map f g (x ∷ xs) = ap (λ ys. g (f x) ∷ ys) (map_map f g xs)

map_kept : {X Y : Type 0} (f : X → Y) (b : Bool) (x : X) (xs : List X) → map f (cond b (x ∷ xs) xs) ≡ cond b (f x ∷ map f xs) (map f xs)
map_kept f true x xs = refl
map_kept f false x xs = refl

filter_mapped : {X Y : Type 0} (f : X → Y) (q : Y → Bool) (xs : List X) → map f (filter (λ x. q (f x)) xs) ≡ filter q (map f xs)
filter_mapped f q [] = refl
filter_mapped f q (x ∷ xs) =
    map_kept f (q (f x)) x (filter (λ x. q (f x)) xs) ∙ ap (λ ys. cond (q (f x)) (f x ∷ ys) ys) (filter_mapped f q xs)

module _ {X : Type 0} (p q : X → Bool) (apart : (x : X) → p x ≡ true → q x ≡ false) where
  either_by : (b c : Bool) (x : X) (os ps qs : List X) → (b ≡ true → c ≡ false) → IsPermutation os (ps ++ qs)
      → IsPermutation (cond (b || c) (x ∷ os) os) (cond b (x ∷ ps) ps ++ cond c (x ∷ qs) qs)
  either_by true true x os ps qs h r = absurd (cc (h refl))
  either_by true false x os ps qs h r = IsPermutation-cons x os (ps ++ qs) r
  either_by false true x os ps qs h r =
      IsPermutation-trans (x ∷ os) (x ∷ (ps ++ qs)) (ps ++ x ∷ qs) (IsPermutation-cons x os (ps ++ qs) r) (IsPermutation-sym (ps ++ x ∷ qs) (x ∷ (ps ++ qs)) (IsPermutation-middle ps x qs))
  either_by false false x os ps qs h r = r

  -- where no element passes both tests, those that pass one of them are those that pass the one and those that pass the other
  either : (xs : List X) → IsPermutation (filter (λ x. p x || q x) xs) (filter p xs ++ filter q xs)
  either [] = IsPermutation-refl []
  either (x ∷ xs) = either_by (p x) (q x) x (filter (λ x. p x || q x) xs) (filter p xs) (filter q xs) (apart x) (either xs)

none_kept : {X : Type 0} (xs : List X) → filter (λ x. false) xs ≡ []
none_kept [] = refl
none_kept (x ∷ xs) = none_kept xs

-- ---- the rows of entries as a query sees them

seen_by : (b : Bool) (part : Part) (row : List Value) (column : ℕ) (other : Value) (others : Bool) → nat_eq part.column column ≡ b → part.chars ≡ None
    → other ≡ (if others then column_value column row else Null) → (if b then part_value part row else other) ≡ (if b || others then column_value column row else Null)
seen_by true part row column other others e whole h = ap₂ (λ chars c. cut_value chars (column_value c row)) whole (eqb-true part.column column e)
seen_by false part row column other others e whole h = h

value_seen : (parts : List Part) (row : List Value) (column : ℕ) → AreWhole parts → entry_value parts (key_of parts row) column ≡ (if is_part parts column then column_value column row else Null)
value_seen [] row column h = refl
value_seen (p ∷ ps) row column h =
    seen_by (nat_eq p.column column) p row column (entry_value ps (key_of ps row) column) (is_part ps column) refl (All-head (λ part. part.chars ≡ None) p ps h)
    (value_seen ps row column (All-tail (λ part. part.chars ≡ None) p ps h))

as_wide : (columns : List Column) (row : List Value) → FitsColumns columns row → length columns ≡ length row
as_wide [] [] h = refl
as_wide [] (v ∷ vs) h = absurd h
as_wide (c ∷ cs) [] h = absurd h
as_wide (c ∷ cs) (v ∷ vs) h = ap suc (as_wide cs vs h.1)

-- the row of an entry is its row as a query sees it
seen : (schema : Schema) (parts : List Part) (row : List Value) → AreWhole parts → FitsRow schema row → entry_row (length schema.columns) parts (key_of parts row) ≡ seen_row parts row
seen schema parts row whole fits =
    ap₂ (λ f n. map f (range_with_len 0 n)) (fun_ext (λ column. value_seen parts row column whole)) (as_wide schema.columns row fits)

-- ---- the rows in the order of an index

module _ (t : Indexed) (n : ℕ) (order : IsOrder (parts_at t n) t.rows (ids_at t n)) where
  abbrev ordered : List (List Value)
  ordered = map (row_at t.rows) (ids_at t n)

  abbrev by_entry : List Value → List Value
  by_entry row = entry_row (length t.schema.columns) (parts_at t n) (key_of (parts_at t n) row)

  each_ordered : IsPermutation t.rows ordered
  each_ordered =
      subst (λ (xs : List (List Value)). IsPermutation xs ordered) (all_rows t.rows (length t.rows) refl)
      (IsPermutation-map (row_at t.rows) (range_with_len 0 (length t.rows)) (ids_at t n) order.each)

  all_seen : (rows : List (List Value)) → AreWhole (parts_at t n) → All (FitsRow t.schema) rows → map (seen_row (parts_at t n)) rows ≡ map by_entry rows
  all_seen rows whole fit =
      map_agree (seen_row (parts_at t n)) by_entry rows
      (All-weaker (FitsRow t.schema) (λ row. seen_row (parts_at t n) row ≡ by_entry row) (λ row fits. sym (seen t.schema (parts_at t n) row whole fits)) rows fit)

  -- an index scan hands out each row as the query sees it
  index_found : AreWhole (parts_at t n) → All (FitsRow t.schema) t.rows → IsPermutation (map (seen_row (parts_at t n)) t.rows) (map (row_by_entry t n) (ids_at t n))
  index_found whole fit =
      subst (λ (ys : List (List Value)). IsPermutation (map (seen_row (parts_at t n)) t.rows) ys) (sym (map_map (row_at t.rows) by_entry (ids_at t n)))
      (subst (λ (xs : List (List Value)). IsPermutation xs (map by_entry ordered)) (sym (all_seen t.rows whole fit)) (IsPermutation-map by_entry t.rows ordered each_ordered))

  -- ---- in ranges

  in_range : KeyRange → List Value → Bool
  in_range range row = holds range (key_of (parts_at t n) row)

  fetched : (ranges : List KeyRange) → fetched_rows t n ranges ≡ flat_map (λ range. filter (λ row. holds range (key_of (parts_at t n) row)) ordered) ranges
  fetched [] = refl
  fetched (range ∷ ranges) =
      map-append (row_at t.rows) (ids_held t n range) (flat_map (ids_held t n) ranges)
      ∙ ap₂ (λ xs ys. xs ++ ys) (filter_mapped (row_at t.rows) (λ row. holds range (key_of (parts_at t n) row)) (ids_at t n)) (fetched ranges)

  -- ranges that rise hold each row once
  once : (falling : List Bool) (ranges : List KeyRange) → All HasSpan ranges → are_rising falling ranges ≡ true → (rows : List (List Value))
      → IsPermutation (filter (is_in_ranges (parts_at t n) ranges) rows) (flat_map (λ range. filter (λ row. holds range (key_of (parts_at t n) row)) rows) ranges)
  once falling [] h e rows = subst (λ (xs : List (List Value)). IsPermutation xs []) (sym (none_kept rows)) (IsPermutation-refl [])
  once falling (range ∷ ranges) h e rows =
      let these = filter (λ row. holds range (key_of (parts_at t n) row)) rows in
      let others = filter (is_in_ranges (parts_at t n) ranges) rows in
      IsPermutation-trans (filter (is_in_ranges (parts_at t n) (range ∷ ranges)) rows) (these ++ others)
      (these ++ flat_map (λ range. filter (λ row. holds range (key_of (parts_at t n) row)) rows) ranges)
      (either (λ row. holds range (key_of (parts_at t n) row)) (is_in_ranges (parts_at t n) ranges)
      (λ row p. in_no_other falling range ranges (key_of (parts_at t n) row) h e p) rows)
      (IsPermutation-append_right these others (flat_map (λ range. filter (λ row. holds range (key_of (parts_at t n) row)) rows) ranges)
      (once falling ranges (All-tail HasSpan range ranges h) (rising_rest falling range ranges e) rows))

  module _ (falling : List Bool) (ranges : List KeyRange) (spans : All HasSpan ranges) (rising : are_rising falling ranges ≡ true) where
    fetched_found : IsPermutation (rows_in_ranges (parts_at t n) ranges t.rows) (fetched_rows t n ranges)
    fetched_found =
        IsPermutation-trans (rows_in_ranges (parts_at t n) ranges t.rows) (rows_in_ranges (parts_at t n) ranges ordered) (fetched_rows t n ranges)
        (IsPermutation-filter (is_in_ranges (parts_at t n) ranges) t.rows ordered each_ordered)
        (subst (λ (ys : List (List Value)). IsPermutation (rows_in_ranges (parts_at t n) ranges ordered) ys) (sym (fetched ranges)) (once falling ranges spans rising ordered))

    covering_found : AreWhole (parts_at t n) → All (FitsRow t.schema) t.rows
        → IsPermutation (map (seen_row (parts_at t n)) (rows_in_ranges (parts_at t n) ranges t.rows)) (map (row_by_entry t n) (flat_map (ids_held t n) ranges))
    covering_found whole fit =
        subst (λ (ys : List (List Value)). IsPermutation (map (seen_row (parts_at t n)) (rows_in_ranges (parts_at t n) ranges t.rows)) ys)
        (sym (map_map (row_at t.rows) by_entry (flat_map (ids_held t n) ranges)))
        (subst (λ (xs : List (List Value)). IsPermutation xs (map by_entry (fetched_rows t n ranges)))
        (sym (all_seen (rows_in_ranges (parts_at t n) ranges t.rows) whole (All-filter (is_in_ranges (parts_at t n) ranges) (FitsRow t.schema) t.rows fit)))
        (IsPermutation-map by_entry (rows_in_ranges (parts_at t n) ranges t.rows) (fetched_rows t n ranges) fetched_found))

-- ---- the primary key

or_later : (o : Ordering) (more : Ordering) → is_lt o ≡ false → is_lt more ≡ false → is_lt (ordering_then o more) ≡ false
or_later Less more e f = e
or_later Equal more e f = f
or_later Greater more e f = e

not_less : (k : ℕ) → is_lt (nat_cmp (k + 1) k) ≡ false
not_less k = grind arith

-- where rows stand by a key, the entries of an index on it stand by id
order_by_id : (parts : List Part) (rows : List (List Value)) → IsByKey parts rows rows → IsOrder parts rows (range_with_len 0 (length rows))
order_by_id parts rows h = record {
  each = IsPermutation-refl (range_with_len 0 (length rows));
  rising = λ k d lo lt.
      let many = length-range_with_len 0 (length rows) in
      let next : k + 1 < length rows = omega (arith, lt, many) in
      let first : get_or (range_with_len 0 (length rows)) k d ≡ k = get_or-range_with_len 0 (length rows) k d (omega (arith, next)) ∙ omega arith in
      let second : get_or (range_with_len 0 (length rows)) (k + 1) d ≡ k + 1 = get_or-range_with_len 0 (length rows) (k + 1) d next ∙ omega arith in
      ap₂ (λ a b. is_lt (entry_cmp parts rows a b)) second first
      ∙ or_later (by_key parts (row_at rows (k + 1)) (row_at rows k)) (nat_cmp (k + 1) k)
      (ap₂ (λ r s. is_lt (by_key parts r s)) (row_at_is rows (k + 1)) (row_at_is rows k) ∙ h.rising k [] lo next) (not_less k);
}

primary_key : (indexes : List Index) (n : ℕ) (rows : List (List Value)) → All (λ i. i.primary ≡ false) (drop 1 indexes)
    → elim (slice_get indexes n) [ Some i ↦ i.primary | None ↦ false ] ≡ true → IsInIdOrder indexes rows rows
    → IsByKey (elim (slice_get indexes n) [ Some i ↦ i.parts | None ↦ [] ]) rows rows
primary_key [] n rows h e s = absurd (cc e)
primary_key (index ∷ others) zero rows h e s = subst (λ b. IsByPrimary b index.parts rows rows) e s
primary_key (index ∷ others) (suc n) rows h e s = absurd (no_other others n h e)
  where
    no_other : (is : List Index) (n : ℕ) → All (λ i. i.primary ≡ false) is → elim (slice_get is n) [ Some i ↦ i.primary | None ↦ false ] ≡ true → ⊥
    no_other [] n h e = cc e
    no_other (i ∷ is) zero h e = cc (e, All-head (λ i. i.primary ≡ false) i is h)
    no_other (i ∷ is) (suc n) h e = no_other is n (All-tail (λ i. i.primary ≡ false) i is h) e

all_below : (f : KeyRange → List ℕ) (count : ℕ) → ((range : KeyRange) → All (λ place. place < count) (f range)) → (ranges : List KeyRange) → All (λ place. place < count) (flat_map f ranges)
all_below f count h [] = All-nil (λ place. place < count)
all_below f count h (range ∷ ranges) = All-append (λ place. place < count) (f range) (flat_map f ranges) (h range) (all_below f count h ranges)

range_below : (n : ℕ) → All (λ id. id < n) (range_with_len 0 n)
range_below n = All-from_get_or (λ id. id < n) (range_with_len 0 n) 0 (λ i lt.
    let within : i < n = omega (arith, lt, length-range_with_len 0 n) in omega (arith, within, get_or-range_with_len 0 n i 0 within))

module _ (t : Indexed) (n : ℕ) (order : IsOrder (parts_at t n) t.rows (ids_at t n)) (by_id : IsByKey (parts_at t n) t.rows t.rows) where
  ids_are : ids_at t n ≡ range_with_len 0 (length t.rows)
  ids_are =
      entries_are (parts_at t n) t.rows (ids_at t n) order
      ∙ sym (entries_are (parts_at t n) t.rows (range_with_len 0 (length t.rows)) (order_by_id (parts_at t n) t.rows by_id))

  same_row : (place : ℕ) → place < length t.rows → row_at t.rows place ≡ row_at t.rows (slice_index (ids_at t n) place)
  same_row place lt =
      let same : slice_index (ids_at t n) place ≡ place =
      ap (λ ids. slice_index ids place) ids_are ∙ get_or-range_with_len 0 (length t.rows) place 0 lt ∙ omega arith in
      ap (row_at t.rows) (sym same)

  -- places of the primary key are row ids
  primary_fetched : length (ids_at t n) ≡ length t.rows → (ranges : List KeyRange) → map (row_at t.rows) (flat_map (places_held t n) ranges) ≡ fetched_rows t n ranges
  primary_fetched many ranges =
      let P : ℕ → Type 0 = λ place. place < length t.rows in
      let each : (range : KeyRange) → All P (places_held t n range) =
      λ range. All-filter _ P (range_with_len 0 (length (map (λ id. entry_key (parts_at t n) t.rows id) (ids_at t n))))
      (subst (λ (m : ℕ). All P (range_with_len 0 m)) (sym (length-map (ids_at t n) (λ id. entry_key (parts_at t n) t.rows id) ∙ many)) (range_below (length t.rows))) in
      map_agree (row_at t.rows) (λ place. row_at t.rows (slice_index (ids_at t n) place)) (flat_map (places_held t n) ranges)
      (All-weaker P (λ place. row_at t.rows place ≡ row_at t.rows (slice_index (ids_at t n) place)) same_row (flat_map (places_held t n) ranges)
      (all_below (places_held t n) (length t.rows) each ranges))
      ∙ entries_in_ranges t n (row_at t.rows) ranges

-- ---- the laws

of_kind : (kind : Kind) (candidate : Candidate) (table : Meaning) (t : Indexed) → candidate.kind ≡ kind → table.told ≡ Some t → visited candidate table ≡ rows_of_kind kind candidate t
of_kind kind candidate table t k told = ap₂ (λ x o. elim o [ Some u ↦ rows_of_kind x candidate u | None ↦ [] ]) k told

is_told : (table : Meaning) (t : Indexed) → IsMeaning table → table.told ≡ Some t → IsTold table t
is_told table t sound told = subst (λ (o : Option Indexed). IfSome o (IsTold table)) told sound.told

order_in : (table : Meaning) (t : Indexed) (n : ℕ) → IsTold table t → n < length table.schema.indexes → IsOrder (parts_at t n) t.rows (ids_at t n)
order_in table t n told there = order_of t n told.entered (subst (λ (s : Schema). n < length s.indexes) (sym told.schema_is) there)

each_entry : (c : Candidate) (table : Meaning) (t : Indexed) → IsMeaning table → table.told ≡ Some t → IsScan table.schema c → c.kind ≡ IndexScan
    → AreWhole (parts_at t (index_of c)) → IsPermutation (map (seen_row (parts_at t (index_of c))) t.rows) (visited c table)
each_entry c table t sound told scan kind whole =
    let told_so = is_told table t sound told in
    let s : IsIndexScan table.schema c = subst (λ k. IsScanOfKind k table.schema c) kind scan in
    let there = index_there c s.scan (index_of c) (length table.schema.indexes) s.one refl s.there in
    subst (λ (ys : List (List Value)). IsPermutation (map (seen_row (parts_at t (index_of c))) t.rows) ys) (sym (of_kind IndexScan c table t kind told))
    (index_found t (index_of c) (order_in table t (index_of c) told_so there) whole told_so.fit)

-- an index scan hands out each row once
pub each_row : (c : Candidate) (table : Meaning) (t : Indexed) → IsMeaning table → table.told ≡ Some t → IsScan table.schema c → SuitsScan table.schema c t → c.kind ≡ IndexScan
    → IsPermutation (rows_seen (is_by_entries table.schema c) (parts_at t (index_of c)) t.rows) (visited c table)
each_row c table t sound told scan suits kind =
    let entries : is_by_entries table.schema c ≡ true = ap (λ k. reads_entries k table.schema c) kind in
    subst (λ b. IsPermutation (rows_seen b (parts_at t (index_of c)) t.rows) (visited c table)) (sym entries)
    (each_entry c table t sound told scan kind (suits.whole entries))

module _ (t : Indexed) (n : ℕ) (order : IsOrder (parts_at t n) t.rows (ids_at t n)) (falling : List Bool) (ranges : List KeyRange)
    (spans : All HasSpan ranges) (rising : are_rising falling ranges ≡ true) (fit : All (FitsRow t.schema) t.rows) (many : length (ids_at t n) ≡ length t.rows) where
  in_way : (primary index_only : Bool) → (primary ≡ true → IsByKey (parts_at t n) t.rows t.rows) → ((not primary && index_only) ≡ true → AreWhole (parts_at t n))
      → IsPermutation (rows_seen (not primary && index_only) (parts_at t n) (rows_in_ranges (parts_at t n) ranges t.rows)) (range_rows primary index_only t n ranges)
  in_way true index_only by_id whole =
      subst (λ (ys : List (List Value)). IsPermutation (rows_in_ranges (parts_at t n) ranges t.rows) ys) (sym (primary_fetched t n order (by_id refl) many ranges))
      (fetched_found t n order falling ranges spans rising)
  in_way false true by_id whole = covering_found t n order falling ranges spans rising (whole refl) fit
  in_way false false by_id whole = fetched_found t n order falling ranges spans rising

-- a range scan hands out each row in its ranges once
pub each_in_ranges : (c : Candidate) (table : Meaning) (t : Indexed) → IsMeaning table → table.told ≡ Some t → IsScan table.schema c → SuitsScan table.schema c t → c.kind ≡ Range
    → IsPermutation (rows_seen (is_by_entries table.schema c) (parts_at t (index_of c)) (rows_in_ranges (parts_at t (index_of c)) (ranges_of c) t.rows)) (visited c table)
each_in_ranges c table t sound told scan suits kind =
    let n = index_of c in
    let told_so = is_told table t sound told in
    let s : IsRangeScan table.schema c = subst (λ k. IsScanOfKind k table.schema c) kind scan in
    let listed : ranges_of c ≡ s.scan.ranges = ap (λ (l : List Scan). elim l [ x ∷ others ↦ x.ranges | [] ↦ [] ]) s.one in
    let there = index_there c s.scan n (length table.schema.indexes) s.one refl s.there in
    let falling = map (λ (part : Part). part.descending) (parts_in table.schema s.scan.index) in
    let spans : All HasSpan (ranges_of c) =
    subst (All HasSpan) (sym listed) (All-weaker (IsRangeOf (parts_in table.schema s.scan.index)) HasSpan (λ r h. h.span) s.scan.ranges s.ranges.each) in
    let rising : are_rising falling (ranges_of c) ≡ true = ap (are_rising falling) listed ∙ s.ranges.rising in
    let same : is_primary table.schema n ≡ is_primary t.schema n = ap (λ (x : Schema). is_primary x n) (sym told_so.schema_is) in
    let many : length (ids_at t n) ≡ length t.rows = as_many (parts_at t n) t.rows (ids_at t n) (order_in table t n told_so there) in
    let first : All (λ (i : Index). i.primary ≡ false) (drop 1 t.schema.indexes) =
    subst (λ (x : Schema). All (λ (i : Index). i.primary ≡ false) (drop 1 x.indexes)) (sym told_so.schema_is) sound.limits.primary_first in
    let entries : is_by_entries table.schema c ≡ (not (is_primary table.schema n) && c.index_only) = ap (λ k. reads_entries k table.schema c) kind in
    subst (λ b. IsPermutation (rows_seen b (parts_at t n) (rows_in_ranges (parts_at t n) (ranges_of c) t.rows)) (visited c table)) (sym entries)
    (subst (λ (ys : List (List Value)). IsPermutation (rows_seen (not (is_primary table.schema n) && c.index_only) (parts_at t n) (rows_in_ranges (parts_at t n) (ranges_of c) t.rows)) ys)
    (sym (of_kind Range c table t kind told ∙ ap (λ b. range_rows b c.index_only t n (ranges_of c)) (sym same)))
    (in_way t n (order_in table t n told_so there) falling (ranges_of c) spans rising told_so.fit many (is_primary table.schema n) c.index_only
    (λ e. primary_key t.schema.indexes n t.rows first (sym same ∙ e) (suits.by_id kind e)) (λ e. suits.whole (entries ∙ e))))

-- ---- rows that pass a test

filter_agree_on : {X : Type 0} (p q : X → Bool) (xs : List X) → All (λ x. p x ≡ q x) xs → filter p xs ≡ filter q xs
filter_agree_on p q [] h = refl
filter_agree_on p q (x ∷ xs) h =
    ap₂ (λ b ys. cond b (x ∷ ys) ys) (All-head (λ x. p x ≡ q x) x xs h) (filter_agree_on p q xs (All-tail (λ x. p x ≡ q x) x xs h))

narrowed_by : {X : Type 0} (b c : Bool) (x : X) (test : X → Bool) (xs kept : List X) → test x ≡ b → (b ≡ true → c ≡ true) → filter test xs ≡ filter test kept
    → filter test (x ∷ xs) ≡ filter test (cond c (x ∷ kept) kept)
narrowed_by {X} true c x test xs kept e f h =
    ap (λ (y : Bool). cond y (x ∷ filter test xs) (filter test xs)) e ∙ ap (λ (ys : List X). x ∷ ys) h
    ∙ sym (ap (λ (y : Bool). cond y (x ∷ filter test kept) (filter test kept)) e) ∙ sym (ap (λ (y : Bool). filter test (cond y (x ∷ kept) kept)) (f refl))
narrowed_by false true x test xs kept e f h =
    ap (λ (y : Bool). cond y (x ∷ filter test xs) (filter test xs)) e ∙ h ∙ sym (ap (λ (y : Bool). cond y (x ∷ filter test kept) (filter test kept)) e)
narrowed_by false false x test xs kept e f h = ap (λ (y : Bool). cond y (x ∷ filter test xs) (filter test xs)) e ∙ h

-- those that pass a test are among those that pass a weaker one
narrowed : {X : Type 0} (test weaker : X → Bool) (xs : List X) → All (λ x. test x ≡ true → weaker x ≡ true) xs → filter test xs ≡ filter test (filter weaker xs)
narrowed test weaker [] h = refl
narrowed test weaker (x ∷ xs) h =
    narrowed_by (test x) (weaker x) x test xs (filter weaker xs) refl (All-head (λ x. test x ≡ true → weaker x ≡ true) x xs h)
    (narrowed test weaker xs (All-tail (λ x. test x ≡ true → weaker x ≡ true) x xs h))

module _ (parts : List Part) (test : List Value → Bool) where
  -- a test that looks at parts alone passes rows as they are seen where it passes the rows
  seen_pass : (b : Bool) (rows : List (List Value)) → (b ≡ true → All (λ row. test (seen_row parts row) ≡ test row) rows) → filter test (rows_seen b parts rows) ≡ rows_seen b parts (filter test rows)
  seen_pass true rows h =
      sym (filter_mapped (seen_row parts) test rows) ∙ ap (map (seen_row parts)) (filter_agree_on (λ row. test (seen_row parts row)) test rows (h refl))
  seen_pass false rows h = refl

  -- of rows that are handed out in whatever order, those that pass are the rows that pass
  passing : (b : Bool) (rows found handed : List (List Value)) → (b ≡ true → All (λ row. test (seen_row parts row) ≡ test row) found) → filter test rows ≡ filter test found
      → IsPermutation (rows_seen b parts found) handed → IsPermutation (rows_seen b parts (filter test rows)) (filter test handed)
  passing b rows found handed h same p =
      subst (λ (xs : List (List Value)). IsPermutation xs (filter test handed)) (seen_pass b found h ∙ ap (rows_seen b parts) (sym same))
      (IsPermutation-filter test (rows_seen b parts found) handed p)

module _ (c : Candidate) (table : Meaning) (t : Indexed) (test : List Value → Bool) (sound : IsMeaning table) (told : table.told ≡ Some t) (scan : IsScan table.schema c)
    (suits : SuitsScan table.schema c t) (tests : SuitsTest table.schema c t test) where
  abbrev Keeps : Type 0
  Keeps = IsPermutation (rows_seen (is_by_entries table.schema c) (parts_at t (index_of c)) (filter test t.rows)) (filter test (visited c table))

  kept_by_table : c.kind ≡ TableScan → Keeps
  kept_by_table kind =
      subst (λ b. IsPermutation (rows_seen b (parts_at t (index_of c)) (filter test t.rows)) (filter test (visited c table))) (sym (ap (λ k. reads_entries k table.schema c) kind))
      (subst (λ (ys : List (List Value)). IsPermutation (filter test t.rows) (filter test ys)) (sym (of_kind TableScan c table t kind told)) (IsPermutation-refl (filter test t.rows)))

  kept_by_index : c.kind ≡ IndexScan → Keeps
  kept_by_index kind =
      passing (parts_at t (index_of c)) test (is_by_entries table.schema c) t.rows t.rows (visited c table) tests.seen refl (each_row c table t sound told scan suits kind)

  kept_by_ranges : c.kind ≡ Range → Keeps
  kept_by_ranges kind =
      let parts = parts_at t (index_of c) in
      let found = rows_in_ranges parts (ranges_of c) t.rows in
      passing parts test (is_by_entries table.schema c) t.rows found (visited c table)
      (λ e. All-filter (is_in_ranges parts (ranges_of c)) (λ row. test (seen_row parts row) ≡ test row) t.rows (tests.seen e))
      (narrowed test (is_in_ranges parts (ranges_of c)) t.rows (tests.in_ranges kind)) (each_in_ranges c table t sound told scan suits kind)

  kept_by : (kind : Kind) → c.kind ≡ kind → IsScanOfKind kind table.schema c → Keeps
  kept_by TableScan e s = kept_by_table e
  kept_by IndexScan e s = kept_by_index e
  kept_by Range e s = kept_by_ranges e
  kept_by Group e s = absurd s
  kept_by SkipScan e s = absurd s
  kept_by Intersect e s = absurd s
  kept_by Union e s = absurd s
  kept_by SortUnion e s = absurd s

  -- no row that passes is lost
  pub none_lost : Keeps
  none_lost = kept_by c.kind refl scan
