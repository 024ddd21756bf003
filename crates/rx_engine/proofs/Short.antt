-- A run that is opened has no more places than its table has rows.
use Rattle.std.proofs.Common.{◌≡◌, ℕ, ◌≤◌, ◌<◌, ◌+◌, ◌||◌, Bool, true, false, cond, List, [], ◌∷◌, ◌++◌, map, filter, length, Option, Some, None, IfSome, All, refl, ap, sym, ◌∙◌, subst, arith, length-append}
use Rattle.std.specs.Prelude.{slice_index}
use Rattle.std.specs.List.{flat_map, list_any}
use Rattle.std.proofs.lemmas.List.{length-map}
use Rattle.std.proofs.lemmas.List.Elements.{All-tail, All-weaker}
use Rattle.rx_value.specs.declared.values.Value.{Value}
use Rattle.rx_value.specs.declared.ranges.KeyRange.{KeyRange}
use Rattle.rx_value.specs.declared.shapes.Part.{Part}
use Rattle.rx_value.specs.declared.shapes.Schema.{Schema}
use Rattle.rx_value.specs.Keys.{holds}
use Rattle.rx_index.specs.declared.indexed.Indexed.{Indexed}
use Rattle.rx_index.specs.Entries.{row_at, entry_key, parts_at, ids_at}
use Rattle.rx_cover.specs.Cover.{are_rising}
use Rattle.rx_store.specs.Tables.{Meaning, IsMeaning, IsTold}
use Rattle.rx_store.proofs.Places.{as_many, order_of}
use Rattle.rx_estimate.specs.Estimates.{parts_in}
use Rattle.rx_cost.specs.declared.candidates.Kind.{Kind}
use Rattle.rx_cost.specs.declared.candidates.Kind.TheVariants.{Table as TableScan, Index as IndexScan, Range, Group, SkipScan, Intersect, Union, SortUnion}
use Rattle.rx_cost.specs.declared.candidates.Scan.{Scan}
use Rattle.rx_cost.specs.declared.candidates.Candidate.{Candidate}
use Rattle.rx_scan.specs.Handing.{IsRangeOf, IsScanOfKind, IsScan}
use Rattle.rx_scan.specs.Visits.{index_of, ranges_of, is_primary, row_by_entry, ids_held, places_held, range_rows, rows_of_kind, visited_of}
use Rattle.rx_scan.specs.Runs.{Run, handed, rows_left, IsOpenedAs, IsOpened}
use Rattle.rx_scan.proofs.Opened.{entries_in_ranges, index_there}
use Rattle.rx_scan.proofs.Apart.{HasSpan, in_no_other, rising_rest}
use Rattle.rx_engine.specs.Printed.{IsShort}

one_more_at_most : (b : Bool) (xs : List ℕ) (x n : ℕ) → length xs ≤ n → length (cond b (x ∷ xs) xs) ≤ n + 1
one_more_at_most true xs x n h = omega (arith, h)
one_more_at_most false xs x n h = omega (arith, h)

-- no more pass a test than there are
filter_few : (p : ℕ → Bool) (xs : List ℕ) → length (filter p xs) ≤ length xs
filter_few p [] = omega arith
filter_few p (x ∷ xs) = omega (arith, one_more_at_most (p x) (filter p xs) x (length xs) (filter_few p xs))

both_by : (b c : Bool) (x : ℕ) (ps qs os : List ℕ) → (b ≡ true → c ≡ false) → length ps + length qs ≤ length os
    → length (cond b (x ∷ ps) ps) + length (cond c (x ∷ qs) qs) ≤ length (cond (b || c) (x ∷ os) os)
both_by true true x ps qs os h k = absurd (cc (h refl))
both_by true false x ps qs os h k = omega (arith, k)
both_by false true x ps qs os h k = omega (arith, k)
both_by false false x ps qs os h k = k

-- where no element passes both tests, those that pass the one and those that pass the other are no more than those that pass one of them
both_few : (p q : ℕ → Bool) → ((x : ℕ) → p x ≡ true → q x ≡ false) → (xs : List ℕ) → length (filter p xs) + length (filter q xs) ≤ length (filter (λ x. p x || q x) xs)
both_few p q apart [] = omega arith
both_few p q apart (x ∷ xs) = both_by (p x) (q x) x (filter p xs) (filter q xs) (filter (λ x. p x || q x) xs) (apart x) (both_few p q apart xs)

-- ranges that rise hold each key once
held_few : (key : ℕ → List Value) (falling : List Bool) (ranges : List KeyRange) → All HasSpan ranges → are_rising falling ranges ≡ true → (ids : List ℕ)
    → length (flat_map (λ range. filter (λ id. holds range (key id)) ids) ranges) ≤ length (filter (λ id. list_any (λ range. holds range (key id)) ranges) ids)
held_few key falling [] h e ids = omega arith
held_few key falling (range ∷ ranges) h e ids =
    let p : ℕ → Bool = λ id. holds range (key id) in
    let q : ℕ → Bool = λ id. list_any (λ (r : KeyRange). holds r (key id)) ranges in
    let rest = flat_map (λ (r : KeyRange). filter (λ id. holds r (key id)) ids) ranges in
    let later : length rest ≤ length (filter q ids) = held_few key falling ranges (All-tail HasSpan range ranges h) (rising_rest falling range ranges e) ids in
    omega (arith, length-append (filter p ids) rest, later, both_few p q (λ id k. in_no_other falling range ranges (key id) h e k) ids)

module _ (t : Indexed) (n : ℕ) (falling : List Bool) (ranges : List KeyRange) (spans : All HasSpan ranges) (rising : are_rising falling ranges ≡ true) where
  ids_few : length (flat_map (ids_held t n) ranges) ≤ length (ids_at t n)
  ids_few =
      let key : ℕ → List Value = λ id. entry_key (parts_at t n) t.rows id in
      omega (arith, held_few key falling ranges spans rising (ids_at t n), filter_few (λ id. list_any (λ (range : KeyRange). holds range (key id)) ranges) (ids_at t n))

  places_few : length (flat_map (places_held t n) ranges) ≤ length (ids_at t n)
  places_few =
      let f : ℕ → List Value = row_at t.rows in
      omega (
        arith,
        ids_few,
        ap length (entries_in_ranges t n f ranges),
        length-map (flat_map (places_held t n) ranges) (λ place. f (slice_index (ids_at t n) place)),
        length-map (flat_map (ids_held t n) ranges) f,
      )

  range_few : (primary index_only : Bool) → length (range_rows primary index_only t n ranges) ≤ length (ids_at t n)
  range_few true index_only = omega (arith, places_few, length-map (flat_map (places_held t n) ranges) (row_at t.rows))
  range_few false true = omega (arith, ids_few, length-map (flat_map (ids_held t n) ranges) (row_by_entry t n))
  range_few false false = omega (arith, ids_few, length-map (flat_map (ids_held t n) ranges) (row_at t.rows))

module _ (table : Meaning) (t : Indexed) (told : IsTold table t) where
  many_ids : (n : ℕ) → n < length table.schema.indexes → length (ids_at t n) ≡ table.count
  many_ids n there =
      as_many (parts_at t n) t.rows (ids_at t n) (order_of t n told.entered (subst (λ (s : Schema). n < length s.indexes) (sym told.schema_is) there)) ∙ told.count_is

  rows_few : (kind : Kind) (c : Candidate) → IsScanOfKind kind table.schema c → length (rows_of_kind kind c t) ≤ table.count
  rows_few TableScan c s = omega (arith, told.count_is)
  rows_few IndexScan c s =
      let there = index_there c s.scan (index_of c) (length table.schema.indexes) s.one refl s.there in
      omega (arith, many_ids (index_of c) there, length-map (ids_at t (index_of c)) (row_by_entry t (index_of c)))
  rows_few Range c s =
      let n = index_of c in
      let there = index_there c s.scan n (length table.schema.indexes) s.one refl s.there in
      let listed : ranges_of c ≡ s.scan.ranges = ap (λ (l : List Scan). elim l [ x ∷ others ↦ x.ranges | [] ↦ [] ]) s.one in
      let falling = map (λ (part : Part). part.descending) (parts_in table.schema s.scan.index) in
      let spans : All HasSpan (ranges_of c) =
      subst (All HasSpan) (sym listed) (All-weaker (IsRangeOf (parts_in table.schema s.scan.index)) HasSpan (λ r h. h.span) s.scan.ranges s.ranges.each) in
      let rising : are_rising falling (ranges_of c) ≡ true = ap (are_rising falling) listed ∙ s.ranges.rising in
      omega (arith, many_ids n there, range_few t n falling (ranges_of c) spans rising (is_primary t.schema n) c.index_only)
  rows_few Group c s = absurd s
  rows_few SkipScan c s = absurd s
  rows_few Intersect c s = absurd s
  rows_few Union c s = absurd s
  rows_few SortUnion c s = absurd s

pub opened_short : (table : Meaning) (c : Candidate) (run : Run) → IsMeaning table → IsScan table.schema c → IsOpened table c run → IsShort table run
opened_short table c run sound scan opened = by table.told sound.told opened.rows refl
  where
    by : (told : Option Indexed) → IfSome told (IsTold table) → IfSome told (λ t. rows_left run t ≡ visited_of c.kind c table) → table.told ≡ told → IfSome told (λ t. length run.left ≤ table.count)
    by None is rows e = tt
    by (Some t) is rows e =
        let these : visited_of c.kind c table ≡ rows_of_kind c.kind c t = ap (λ (o : Option Indexed). elim o [ Some u ↦ rows_of_kind c.kind c u | None ↦ [] ]) e in
        omega (arith, rows_few table t is c.kind c scan, ap length (rows ∙ these), length-map run.left (handed run.way t))
