-- Which rows merges hand out.
use Rattle.std.proofs.Common.{◌≡◌, ℕ, zero, suc, ◌+◌, ◌<◌, Bool, true, false, nat_eq, ◌&&◌, ◌||◌, cond, List, [], ◌∷◌, map, filter, drop, length, get_or, slice_get, Option, Some, None, IfSome, All, refl, sym, ap, ap₂, ◌∙◌, subst, arith}
use Rattle.std.specs.declared.cmp.Ordering.{Ordering}
use Rattle.std.specs.declared.cmp.Ordering.TheVariants.{Less, Equal, Greater}
use Rattle.std.specs.Ordering.{ordering_then, nat_cmp, is_lt}
use Rattle.std.specs.List.{range_with_len, flat_map, list_any}
use Rattle.std.specs.List.Sorted.{IsStrictlyIncreasing}
use Rattle.std.proofs.lemmas.Bool.{eqb-true}
use Rattle.std.proofs.lemmas.List.{get_or-map, length-map}
use Rattle.std.proofs.lemmas.List.FromFn.{length-range_with_len, get_or-range_with_len}
use Rattle.std.proofs.lemmas.List.Folds.{list_any-append}
use Rattle.std.proofs.lemmas.List.Elements.{All-head, All-tail, All-filter, All-from_get_or}
use Rattle.std.proofs.lemmas.List.Kept.{IsStrictlyIncreasing-filter}
use Rattle.std.proofs.lemmas.List.Sorted.{IsPermutation-refl}
use Rattle.std.proofs.lemmas.Map.Views.{any-filter_same}
use Rattle.rx_value.specs.declared.values.Value.{Value}
use Rattle.rx_value.specs.declared.ranges.KeyRange.{KeyRange}
use Rattle.rx_value.specs.declared.shapes.Part.{Part}
use Rattle.rx_value.specs.declared.shapes.Index.{Index}
use Rattle.rx_value.specs.declared.shapes.Schema.{Schema}
use Rattle.rx_value.specs.Keys.{key_of, holds}
use Rattle.rx_value.proofs.KeyOrder.{by_key}
use Rattle.rx_index.specs.declared.indexed.Indexed.{Indexed}
use Rattle.rx_index.specs.Entries.{IsOrder, IsByKey, IsByPrimary, IsInIdOrder, row_at, entry_key, entry_cmp, parts_at, ids_at}
use Rattle.rx_index.specs.Bounds.{index_keys}
use Rattle.rx_store.specs.Tables.{Meaning, IsMeaning, IsTold}
use Rattle.rx_store.proofs.Places.{as_many, order_of}
use Rattle.rx_cost.specs.declared.candidates.Scan.{Scan}
use Rattle.rx_cost.specs.declared.candidates.Candidate.{Candidate}
use Rattle.rx_load.proofs.Orders.{entries_are}
use Rattle.rx_scan.specs.Visits.{is_primary, ids_held, places_held}
use Rattle.rx_scan.specs.Laws.{is_in_ranges}
use Rattle.rx_scan.proofs.Opened.{row_at_is, all_rows}
use Rattle.rx_merge.specs.Ids.{has_id}
use Rattle.rx_merge.specs.Merged.{IsMerge, ids_in, is_scanned, is_merged, merged_ids}
use Rattle.rx_merge.specs.Runs.{Merging, IsOpened, HandsOutAll}
use Rattle.rx_merge.specs.Laws.{is_in_scan, is_in_member, merged_rows, AreByIdWhereRead}
use Rattle.rx_merge.proofs.Having.{has_from_contains, has_moved}
use Rattle.rx_merge.proofs.Members.{some_agree}

-- ---- numbers below a bound

pub range_below : (n : ℕ) → All (λ id. id < n) (range_with_len 0 n)
range_below n = All-from_get_or (λ id. id < n) (range_with_len 0 n) 0 (λ i lt.
    let within : i < n = omega (arith, lt, length-range_with_len 0 n) in omega (arith, within, get_or-range_with_len 0 n i 0 within))

has_below : (n id : ℕ) → id < n → has_id (range_with_len 0 n) id ≡ true
has_below n id lt = has_from_contains (range_with_len 0 n) id (id, omega (arith, lt, length-range_with_len 0 n), get_or-range_with_len 0 n id id lt ∙ omega arith)

range_rises : (n : ℕ) → IsStrictlyIncreasing (range_with_len 0 n)
range_rises n k lt =
    let many = length-range_with_len 0 n in
    omega (arith, lt, many, get_or-range_with_len 0 n k 0 (omega (arith, lt, many)), get_or-range_with_len 0 n (k + 1) 0 (omega (arith, lt, many)))

pub ids_within : (c : Candidate) (t : Indexed) → All (λ id. id < length t.rows) (merged_ids c t)
ids_within c t = All-filter (is_merged t c.scans) (λ id. id < length t.rows) (range_with_len 0 (length t.rows)) (range_below (length t.rows))

pub ids_rise : (c : Candidate) (t : Indexed) → IsStrictlyIncreasing (merged_ids c t)
ids_rise c t = IsStrictlyIncreasing-filter (is_merged t c.scans) (range_with_len 0 (length t.rows)) (range_rises (length t.rows))

-- ---- a run to its end

-- a run hands out what is left
pub all_left : (run : Merging) (ids : List ℕ) → HandsOutAll run ids → ids ≡ run.left
all_left run [] h = sym h.0
all_left run (id ∷ ids) h = ap (λ xs. id ∷ xs) (all_left h.0 ids h.2) ∙ sym h.1.0

pub handed_out : (c : Candidate) (table : Meaning) (run : Merging) (ids : List ℕ) → IsOpened table c run → HandsOutAll run ids → IfSome table.told (λ t. ids ≡ merged_ids c t)
handed_out c table run ids o h = by table.told o.ids
  where
    by : (told : Option Indexed) → IfSome told (λ t. run.left ≡ merged_ids c t) → IfSome told (λ t. ids ≡ merged_ids c t)
    by None e = tt
    by (Some t) e = all_left run ids h ∙ e

-- ---- the ids of a scan

-- what is said of an id in ranges is said of it in one of them
in_lists : {X : Type 0} (f : X → List ℕ) (g : X → Bool) (id : ℕ) → ((x : X) → has_id (f x) id ≡ g x) → (xs : List X) → has_id (flat_map f xs) id ≡ list_any g xs
in_lists f g id h [] = refl
in_lists f g id h (x ∷ xs) = list_any-append (nat_eq id) (f x) (flat_map f xs) ∙ ap₂ (λ a b. a || b) (h x) (in_lists f g id h xs)

and_true : (b : Bool) → (b && true) ≡ b
and_true true = refl
and_true false = refl

-- an id is kept of all where it passes
has_kept : (test : ℕ → Bool) (ids : List ℕ) (id : ℕ) → has_id ids id ≡ true → has_id (filter test ids) id ≡ test id
has_kept test ids id e =
    any-filter_same (nat_eq id) test (test id) (λ k same. ap test (sym (eqb-true id k same))) ids ∙ ap (λ b. test id && b) e ∙ and_true (test id)

module _ (t : Indexed) (n : ℕ) (order : IsOrder (parts_at t n) t.rows (ids_at t n)) (id : ℕ) (lt : id < length t.rows) where
  abbrev row : List Value
  row = row_at t.rows id

  has_entry : has_id (ids_at t n) id ≡ true
  has_entry = has_moved (range_with_len 0 (length t.rows)) (ids_at t n) id order.each ∙ has_below (length t.rows) id lt

  by_entries : (ranges : List KeyRange) → has_id (flat_map (ids_held t n) ranges) id ≡ is_in_ranges (parts_at t n) ranges row
  by_entries =
      in_lists (ids_held t n) (λ range. holds range (key_of (parts_at t n) row)) id
      (λ range. has_kept (λ i. holds range (entry_key (parts_at t n) t.rows i)) (ids_at t n) id has_entry)

  module _ (ids_are : ids_at t n ≡ range_with_len 0 (length t.rows)) where
    abbrev key : ℕ → List Value
    key i = entry_key (parts_at t n) t.rows i

    many : length (index_keys t n) ≡ length t.rows
    many = length-map (ids_at t n) key ∙ as_many (parts_at t n) t.rows (ids_at t n) order

    at_place : get_or (index_keys t n) id [] ≡ key id
    at_place =
        get_or-map key (ids_at t n) id 0 [] (omega (arith, lt, as_many (parts_at t n) t.rows (ids_at t n) order))
        ∙ ap key (ap (λ ids. get_or ids id 0) ids_are ∙ get_or-range_with_len 0 (length t.rows) id 0 lt ∙ omega arith)

    by_places : (ranges : List KeyRange) → has_id (flat_map (places_held t n) ranges) id ≡ is_in_ranges (parts_at t n) ranges row
    by_places =
        in_lists (places_held t n) (λ range. holds range (key_of (parts_at t n) row)) id
        (λ range. has_kept (λ place. holds range (get_or (index_keys t n) place [])) (range_with_len 0 (length (index_keys t n))) id
        (has_below (length (index_keys t n)) id (omega (arith, lt, many)))
        ∙ ap (holds range) at_place)

  -- a scan has an id where the key of its row is in one of the ranges
  has_by : (primary : Bool) → (primary ≡ true → ids_at t n ≡ range_with_len 0 (length t.rows)) → (ranges : List KeyRange)
      → has_id (ids_in primary t n ranges) id ≡ is_in_ranges (parts_at t n) ranges row
  has_by true ids_are ranges = by_places (ids_are refl) ranges
  has_by false ids_are ranges = by_entries ranges

-- ---- the primary key

or_later : (o : Ordering) (more : Ordering) → is_lt o ≡ false → is_lt more ≡ false → is_lt (ordering_then o more) ≡ false
or_later Less more e f = e
or_later Equal more e f = f
or_later Greater more e f = e

not_less : (k : ℕ) → is_lt (nat_cmp (k + 1) k) ≡ false
not_less k = grind arith

-- where rows stand by a key, the entries of an index on it stand by id
order_by_id : (parts : List Part) (rows : List (List Value)) → IsByKey parts rows rows → IsOrder parts rows (range_with_len 0 (length rows))
order_by_id parts rows h = record {
  each = IsPermutation-refl (range_with_len 0 (length rows));
  rising = λ k d lo lt.
      let many = length-range_with_len 0 (length rows) in
      let next : k + 1 < length rows = omega (arith, lt, many) in
      let first : get_or (range_with_len 0 (length rows)) k d ≡ k = get_or-range_with_len 0 (length rows) k d (omega (arith, next)) ∙ omega arith in
      let second : get_or (range_with_len 0 (length rows)) (k + 1) d ≡ k + 1 = get_or-range_with_len 0 (length rows) (k + 1) d next ∙ omega arith in
      ap₂ (λ a b. is_lt (entry_cmp parts rows a b)) second first
      ∙ or_later (by_key parts (row_at rows (k + 1)) (row_at rows k)) (nat_cmp (k + 1) k)
      (ap₂ (λ r s. is_lt (by_key parts r s)) (row_at_is rows (k + 1)) (row_at_is rows k) ∙ h.rising k [] lo next) (not_less k);
}

no_other : (indexes : List Index) (n : ℕ) → All (λ i. i.primary ≡ false) indexes → elim (slice_get indexes n) [ Some i ↦ i.primary | None ↦ false ] ≡ true → ⊥
no_other [] n h e = cc e
no_other (i ∷ is) zero h e = cc (e, All-head (λ i. i.primary ≡ false) i is h)
no_other (i ∷ is) (suc n) h e = no_other is n (All-tail (λ i. i.primary ≡ false) i is h) e

primary_key : (indexes : List Index) (n : ℕ) (rows : List (List Value)) → All (λ i. i.primary ≡ false) (drop 1 indexes)
    → elim (slice_get indexes n) [ Some i ↦ i.primary | None ↦ false ] ≡ true → IsInIdOrder indexes rows rows
    → IsByKey (elim (slice_get indexes n) [ Some i ↦ i.parts | None ↦ [] ]) rows rows
primary_key [] n rows h e s = absurd (cc e)
primary_key (index ∷ others) zero rows h e s = subst (λ b. IsByPrimary b index.parts rows rows) e s
primary_key (index ∷ others) (suc n) rows h e s = absurd (no_other others n h e)

-- ---- the rows of a merge

filter_agree_on : {X : Type 0} (p q : X → Bool) (xs : List X) → All (λ x. p x ≡ q x) xs → filter p xs ≡ filter q xs
filter_agree_on p q [] h = refl
filter_agree_on p q (x ∷ xs) h =
    ap₂ (λ b ys. cond b (x ∷ ys) ys) (All-head (λ x. p x ≡ q x) x xs h) (filter_agree_on p q xs (All-tail (λ x. p x ≡ q x) x xs h))

map_kept : {X Y : Type 0} (f : X → Y) (b : Bool) (x : X) (xs : List X) → map f (cond b (x ∷ xs) xs) ≡ cond b (f x ∷ map f xs) (map f xs)
map_kept f true x xs = refl
map_kept f false x xs = refl

filter_mapped : {X Y : Type 0} (f : X → Y) (q : Y → Bool) (xs : List X) → map f (filter (λ x. q (f x)) xs) ≡ filter q (map f xs)
filter_mapped f q [] = refl
filter_mapped f q (x ∷ xs) =
    map_kept f (q (f x)) x (filter (λ x. q (f x)) xs) ∙ ap (λ ys. cond (q (f x)) (f x ∷ ys) ys) (filter_mapped f q xs)

module _ (c : Candidate) (table : Meaning) (t : Indexed) (sound : IsMeaning table) (told : table.told ≡ Some t) (merge : IsMerge table.schema c) (by_id : AreByIdWhereRead c t) where
  is_told : IsTold table t
  is_told = subst (λ (o : Option Indexed). IfSome o (IsTold table)) told sound.told

  first : All (λ (i : Index). i.primary ≡ false) (drop 1 t.schema.indexes)
  first = subst (λ (x : Schema). All (λ (i : Index). i.primary ≡ false) (drop 1 x.indexes)) (sym is_told.schema_is) sound.limits.primary_first

  scan_has : (id : ℕ) → id < length t.rows → (k : ℕ) (d : Scan) → k < length c.scans → is_scanned t id (get_or c.scans k d) ≡ is_in_scan t (row_at t.rows id) (get_or c.scans k d)
  scan_has id lt k d within =
      let scan = get_or c.scans k d in
      let there = merge.there k d within in
      let order : IsOrder (parts_at t scan.index) t.rows (ids_at t scan.index) = order_of t scan.index is_told.entered (subst (λ (s : Schema). scan.index < length s.indexes) (sym is_told.schema_is) there) in
      has_by t scan.index order id lt (is_primary t.schema scan.index)
      (λ e. entries_are (parts_at t scan.index) t.rows (ids_at t scan.index) order
      ∙ sym (entries_are (parts_at t scan.index) t.rows (range_with_len 0 (length t.rows))
      (order_by_id (parts_at t scan.index) t.rows (primary_key t.schema.indexes scan.index t.rows first e (by_id k d within e)))))
      scan.ranges

  merged_is : (id : ℕ) → id < length t.rows → is_merged t c.scans id ≡ is_in_member t c.scans (row_at t.rows id)
  merged_is id lt = some_agree (λ (scan : Scan). scan.member) (is_scanned t id) (is_in_scan t (row_at t.rows id)) c.scans (scan_has id lt)

  -- the rows of a merge are those whose keys are in ranges of all scans of one of its members
  pub rows_found : merged_rows c t ≡ filter (is_in_member t c.scans) t.rows
  rows_found =
      let all = range_with_len 0 (length t.rows) in
      ap (map (row_at t.rows))
      (filter_agree_on (is_merged t c.scans) (λ id. is_in_member t c.scans (row_at t.rows id)) all
      (λ k d lt. merged_is (get_or all k d) (range_below (length t.rows) k d lt)))
      ∙ filter_mapped (row_at t.rows) (is_in_member t c.scans) all
      ∙ ap (filter (is_in_member t c.scans)) (all_rows t.rows (length t.rows) refl)

narrowed_by : {X : Type 0} (b c : Bool) (x : X) (test : X → Bool) (xs kept : List X) → test x ≡ b → (b ≡ true → c ≡ true) → filter test xs ≡ filter test kept
    → filter test (x ∷ xs) ≡ filter test (cond c (x ∷ kept) kept)
narrowed_by {X} true c x test xs kept e f h =
    ap (λ (y : Bool). cond y (x ∷ filter test xs) (filter test xs)) e ∙ ap (λ (ys : List X). x ∷ ys) h
    ∙ sym (ap (λ (y : Bool). cond y (x ∷ filter test kept) (filter test kept)) e) ∙ sym (ap (λ (y : Bool). filter test (cond y (x ∷ kept) kept)) (f refl))
narrowed_by false true x test xs kept e f h =
    ap (λ (y : Bool). cond y (x ∷ filter test xs) (filter test xs)) e ∙ h ∙ sym (ap (λ (y : Bool). cond y (x ∷ filter test kept) (filter test kept)) e)
narrowed_by false false x test xs kept e f h = ap (λ (y : Bool). cond y (x ∷ filter test xs) (filter test xs)) e ∙ h

-- those that pass a test are among those that pass a weaker one
narrowed : {X : Type 0} (test weaker : X → Bool) (xs : List X) → All (λ x. test x ≡ true → weaker x ≡ true) xs → filter test xs ≡ filter test (filter weaker xs)
narrowed test weaker [] h = refl
narrowed test weaker (x ∷ xs) h =
    narrowed_by (test x) (weaker x) x test xs (filter weaker xs) refl (All-head (λ x. test x ≡ true → weaker x ≡ true) x xs h)
    (narrowed test weaker xs (All-tail (λ x. test x ≡ true → weaker x ≡ true) x xs h))

-- no row that passes is lost
pub none_lost : (c : Candidate) (table : Meaning) (t : Indexed) (test : List Value → Bool) → IsMeaning table → table.told ≡ Some t → IsMerge table.schema c → AreByIdWhereRead c t
    → All (λ row. test row ≡ true → is_in_member t c.scans row ≡ true) t.rows → filter test (merged_rows c t) ≡ filter test t.rows
none_lost c table t test sound told merge by_id h = ap (filter test) (rows_found c table t sound told merge by_id) ∙ sym (narrowed test (is_in_member t c.scans) t.rows h)
