-- A run that is opened, and one place less.
use Rattle.std.proofs.Common.{◌≡◌, ℕ, zero, suc, ◌+◌, ◌-◌, ◌*◌, ◌<◌, ◌≤◌, Bool, true, false, cond, List, [], ◌∷◌, ◌++◌, map, filter, drop, length, get_or, Option, Some, None, IfSome, All, refl, sym, ap, ap₂, ◌∙◌, subst, arith}
use Rattle.std.specs.Prelude.{slice_index}
use Rattle.std.specs.List.{range_with_len, flat_map, sum_by}
use mathlib.Core.Path.{fun_ext}
use Rattle.std.proofs.lemmas.List.{get_or-map, drop_more, drop_all, length-map, map-append}
use Rattle.std.proofs.lemmas.List.FromFn.{fill_by_all, length-range_with_len, get_or-range_with_len}
use Rattle.std.proofs.lemmas.List.Concat.{length-flat_map}
use Rattle.std.proofs.lemmas.List.Elements.{All-rest, All-from_get_or}
use Rattle.std.proofs.lemmas.Option.{unwrap_or-slice_get}
use Rattle.rx_value.specs.declared.values.Value.{Value}
use Rattle.rx_value.specs.declared.ranges.KeyRange.{KeyRange}
use Rattle.rx_value.specs.declared.shapes.Schema.{Schema}
use Rattle.rx_value.specs.Keys.{holds}
use Rattle.rx_index.specs.declared.indexed.Indexed.{Indexed}
use Rattle.rx_index.specs.Entries.{row_at, entry_key, parts_at, ids_at}
use Rattle.rx_index.specs.Bounds.{index_keys, count_held}
use Rattle.rx_index.proofs.Counting.{count_mapped}
use Rattle.rx_store.specs.Tables.{Meaning, IsMeaning, IsTold}
use Rattle.rx_store.proofs.Places.{as_many, order_of}
use Rattle.rx_cost.specs.declared.candidates.Kind.TheVariants.{Table, Index, Range}
use Rattle.rx_cost.specs.declared.candidates.Scan.{Scan}
use Rattle.rx_cost.specs.declared.candidates.Candidate.{Candidate}
use Rattle.rx_scan.specs.declared.ways.Way.{Way}
use Rattle.rx_scan.specs.declared.ways.Way.TheVariants.{Row, Entry}
use Rattle.rx_scan.specs.Visits.{index_of, ranges_of, is_primary, row_by_entry, ids_held, places_held, rows_of_kind, range_rows, range_visits, count_in_ranges}
use Rattle.rx_scan.specs.Runs.{Run, handed, reads_for, IsRunOver, HasIndexFor, IsOpenedAs, range_way, places_between}

-- a run without its first place
pub run_rest : (table : Meaning) (old : Run) (place : ℕ) (left : List ℕ) → IsRunOver table old → old.left ≡ place ∷ left → IsRunOver table (record { way = old.way; left = left })
run_rest table old place left h e = record { index = h.index; places = All-rest (λ p. p < table.count) place left old.left e h.places }

-- the first of places
pub first_place : (begin end : ℕ) → begin < end → places_between begin end ≡ begin ∷ places_between (begin + 1) end
first_place begin end lt =
    let count : end - begin ≡ suc (end - (begin + 1)) = omega (arith, lt) in
    ap (range_with_len begin) count

-- no places
pub no_places : (begin end : ℕ) → end ≤ begin → places_between begin end ≡ []
no_places begin end le =
    let count : end - begin ≡ 0 = omega (arith, le) in
    ap (range_with_len begin) count

-- the first of places, where some of the present extent are left
pub next_same : (all : List ℕ) (at end : ℕ) (rest : List ℕ) → places_between at end ++ rest ≡ all → at < end → all ≡ at ∷ (places_between (at + 1) end ++ rest)
next_same all at end rest is lt = sym is ∙ ap (λ xs. xs ++ rest) (first_place at end lt)

-- the first of places, where none of the present extent is left
pub next_later : (all : List ℕ) (at end begin to : ℕ) (more rest : List ℕ) → places_between at end ++ more ≡ all → end ≤ at → more ≡ places_between begin to ++ rest → begin < to
    → all ≡ begin ∷ (places_between (begin + 1) to ++ rest)
next_later all at end begin to more rest is le goes lt = sym is ∙ ap (λ xs. xs ++ more) (no_places at end le) ∙ goes ∙ ap (λ xs. xs ++ rest) (first_place begin to lt)

pub row_at_is : (rows : List (List Value)) (place : ℕ) → row_at rows place ≡ get_or rows place []
row_at_is rows place = unwrap_or-slice_get rows place []

-- the rows at all places are all rows
pub all_rows : (rows : List (List Value)) (n : ℕ) → length rows ≡ n → map (row_at rows) (range_with_len 0 n) ≡ rows
all_rows rows n e = sym (fill_by_all (row_at rows) rows n [] e (λ k lt. sym (row_at_is rows k)))

-- what is made of the ids at all places is made of all ids
all_entries : (f : ℕ → List Value) (ids : List ℕ) (n : ℕ) → length ids ≡ n → map (λ place. f (slice_index ids place)) (range_with_len 0 n) ≡ map f ids
all_entries f ids n e =
    sym (fill_by_all (λ place. f (slice_index ids place)) (map f ids) n [] (length-map ids f ∙ e) (λ k lt. get_or-map f ids k 0 [] (omega (arith, lt, e))))

-- the scan that a candidate has names its index
pub index_there : (candidate : Candidate) (scan : Scan) (index count : ℕ) → candidate.scans ≡ scan ∷ [] → index ≡ index_of candidate → scan.index < count → index < count
index_there candidate scan index count one named there =
    let same : index ≡ scan.index = named ∙ ap (λ (l : List Scan). elim l [ s ∷ others ↦ s.index | [] ↦ 0 ]) one in
    omega (arith, same, there)

module _ (table : Meaning) (candidate : Candidate) (n : ℕ) (places : List ℕ) (sound : IsMeaning table) (all : n ≡ table.count) (is : places ≡ range_with_len 0 n) where
  below : All (λ place. place < table.count) places
  below = subst (All (λ place. place < table.count)) (sym is) (All-from_get_or (λ place. place < table.count) (range_with_len 0 n) 0 (λ i lt.
      let within : i < n = omega (arith, lt, length-range_with_len 0 n) in
      omega (arith, all, within, get_or-range_with_len 0 n i 0 within)))

  many : length places ≡ table.count
  many = ap length is ∙ length-range_with_len 0 n ∙ all

  table_rows_left : (told : Option Indexed) → IfSome told (IsTold table)
      → IfSome told (λ t. map (handed Row t) places ≡ elim told [ Some u ↦ rows_of_kind Table candidate u | None ↦ [] ])
  table_rows_left None m = tt
  table_rows_left (Some t) m = ap (map (row_at t.rows)) is ∙ all_rows t.rows n (m.count_is ∙ sym all)

  -- a table scan hands out each row
  pub table_opened : IsOpenedAs Table table candidate (record { way = Row; left = places })
  table_opened = record {
    way = refl;
    over = record { index = tt; places = below };
    rows = table_rows_left table.told sound.told;
    visits = ap (λ k. record { seeks = 0; entries = 0; rows = k }) (sym many);
  }

  module _ (index : ℕ) (named : index ≡ index_of candidate) (there : index < length table.schema.indexes) where
    index_rows_left : (told : Option Indexed) → IfSome told (IsTold table)
        → IfSome told (λ t. map (handed (Entry index) t) places ≡ elim told [ Some u ↦ rows_of_kind Index candidate u | None ↦ [] ])
    index_rows_left None m = tt
    index_rows_left (Some t) m =
        ap (map (handed (Entry index) t)) is
        ∙ all_entries (row_by_entry t index) (ids_at t index) n
        (as_many (parts_at t index) t.rows (ids_at t index) (order_of t index m.entered (subst (λ (s : Schema). index < length s.indexes) (sym m.schema_is) there)) ∙ m.count_is ∙ sym all)
        ∙ ap (λ i. map (row_by_entry t i) (ids_at t i)) named

    -- an index scan hands out each entry
    pub index_opened : IsOpenedAs Index table candidate (record { way = Entry index; left = places })
    index_opened = record {
      way = ap Entry named;
      over = record { index = there; places = below };
      rows = index_rows_left table.told sound.told;
      visits = ap (λ k. record { seeks = 0; entries = k; rows = 0 }) (sym many);
    }

-- ---- the entries at places

module _ (f : ℕ → List Value) (q p : ℕ → Bool) (ids : List ℕ) where
  abbrev at : ℕ → List Value
  at place = f (slice_index ids place)

  pick : (b : Bool) (a : ℕ) (left : List ℕ) (ids_left : List ℕ) → p a ≡ b → q (slice_index ids a) ≡ b → map at (filter p left) ≡ map f (filter q ids_left)
      → map at (filter p (a ∷ left)) ≡ map f (filter q (slice_index ids a ∷ ids_left))
  pick true a left ids_left e g h =
      ap (λ b. map at (cond b (a ∷ filter p left) (filter p left))) e ∙ ap (λ xs. at a ∷ xs) h
      ∙ sym (ap (λ b. map f (cond b (slice_index ids a ∷ filter q ids_left) (filter q ids_left))) g)
  pick false a left ids_left e g h =
      ap (λ b. map at (cond b (a ∷ filter p left) (filter p left))) e ∙ h
      ∙ sym (ap (λ b. map f (cond b (slice_index ids a ∷ filter q ids_left) (filter q ids_left))) g)

  picked_from : ((k : ℕ) → k < length ids → p k ≡ q (slice_index ids k)) → (m a : ℕ) → a + m ≡ length ids → map at (filter p (range_with_len a m)) ≡ map f (filter q (drop a ids))
  picked_from agree zero a e = sym (ap (λ xs. map f (filter q xs)) (drop_all a ids (omega (arith, e))))
  picked_from agree (suc m) a e =
      let lt : a < length ids = omega (arith, e) in
      pick (p a) a (range_with_len (a + 1) m) (drop (a + 1) ids) refl (sym (agree a lt)) (picked_from agree m (a + 1) (omega (arith, e)))
      ∙ sym (ap (λ xs. map f (filter q xs)) (drop_more ids a 0 lt))

  -- what is made of the ids at the places that pass is made of the ids that pass
  picked : ((k : ℕ) → k < length ids → p k ≡ q (slice_index ids k)) → (n : ℕ) → n ≡ length ids → map at (filter p (range_with_len 0 n)) ≡ map f (filter q ids)
  picked agree n e = picked_from agree n 0 (omega (arith, e))

module _ (t : Indexed) (n : ℕ) where
  abbrev key : ℕ → List Value
  key id = entry_key (parts_at t n) t.rows id

  entries_held : (f : ℕ → List Value) (range : KeyRange) → map (λ place. f (slice_index (ids_at t n) place)) (places_held t n range) ≡ map f (ids_held t n range)
  entries_held f range =
      picked f (λ id. holds range (key id)) (λ place. holds range (get_or (index_keys t n) place [])) (ids_at t n)
      (λ k lt. ap (holds range) (get_or-map key (ids_at t n) k 0 [] lt)) (length (index_keys t n)) (length-map (ids_at t n) key)

  pub entries_in_ranges : (f : ℕ → List Value) (ranges : List KeyRange)
      → map (λ place. f (slice_index (ids_at t n) place)) (flat_map (places_held t n) ranges) ≡ map f (flat_map (ids_held t n) ranges)
  entries_in_ranges f [] = refl
  entries_in_ranges f (range ∷ ranges) =
      map-append (λ place. f (slice_index (ids_at t n) place)) (places_held t n range) (flat_map (places_held t n) ranges)
      ∙ ap₂ (λ xs ys. xs ++ ys) (entries_held f range) (entries_in_ranges f ranges)
      ∙ sym (map-append f (ids_held t n range) (flat_map (ids_held t n) ranges))

  many_held : (range : KeyRange) → length (places_held t n range) ≡ count_held range (index_keys t n)
  many_held range =
      sym (length-map (places_held t n range) (λ place. row_by_entry t n (slice_index (ids_at t n) place)))
      ∙ ap length (entries_held (row_by_entry t n) range)
      ∙ length-map (ids_held t n range) (row_by_entry t n)
      ∙ sym (count_mapped key (λ k. holds range k) (ids_at t n))

  many_in_ranges : (ranges : List KeyRange) → count_in_ranges t n ranges ≡ length (flat_map (places_held t n) ranges)
  many_in_ranges ranges =
      sym (length-flat_map (places_held t n) ranges ∙ ap (λ (f : KeyRange → ℕ). sum_by f ranges) (fun_ext many_held))

  -- the rows of a range scan are those that are handed out for the places in its ranges
  rows_in_way : (primary index_only : Bool) (ranges : List KeyRange)
      → map (handed (range_way primary index_only n) t) (flat_map (places_held t n) ranges) ≡ range_rows primary index_only t n ranges
  rows_in_way true index_only ranges = refl
  rows_in_way false true ranges = entries_in_ranges (row_by_entry t n) ranges
  rows_in_way false false ranges = entries_in_ranges (row_at t.rows) ranges

reads_in_way : (primary index_only : Bool) (n ranges held : ℕ) → range_visits primary index_only ranges held
    ≡ record (reads_for (range_way primary index_only n) held) { seeks = 2 * ranges }
reads_in_way true index_only n ranges held = refl
reads_in_way false true n ranges held = refl
reads_in_way false false n ranges held = refl

index_in_way : (table : Meaning) (primary index_only : Bool) (n : ℕ) → n < length table.schema.indexes → HasIndexFor (range_way primary index_only n) table
index_in_way table true index_only n h = tt
index_in_way table false true n h = h
index_in_way table false false n h = h

module _ (table : Meaning) (candidate : Candidate) (index : ℕ) (ranges : List KeyRange) (way : Way) (places : List ℕ)
    (named : index ≡ index_of candidate) (listed : ranges ≡ ranges_of candidate) (there : index < length table.schema.indexes)
    (goes : way ≡ range_way (is_primary table.schema index) candidate.index_only index) where
  range_rows_left : (told : Option Indexed) → IfSome told (IsTold table) → IfSome told (λ t. places ≡ flat_map (places_held t index) ranges)
      → IfSome told (λ t. map (handed way t) places ≡ elim told [ Some u ↦ rows_of_kind Range candidate u | None ↦ [] ])
  range_rows_left None m h = tt
  range_rows_left (Some t) m h =
      ap₂ (λ w xs. map (handed w t) xs) goes h
      ∙ rows_in_way t index (is_primary table.schema index) candidate.index_only ranges
      ∙ ap (λ (s : Schema). range_rows (is_primary s index) candidate.index_only t index ranges) (sym m.schema_is)
      ∙ ap₂ (λ i rs. range_rows (is_primary t.schema i) candidate.index_only t i rs) named listed

  range_reads : (told : Option Indexed) → IfSome told (λ t. places ≡ flat_map (places_held t index) ranges)
      → IfSome told (λ t. range_visits (is_primary table.schema (index_of candidate)) candidate.index_only (length (ranges_of candidate))
      (elim told [ Some u ↦ count_in_ranges u (index_of candidate) (ranges_of candidate) | None ↦ 0 ])
      ≡ record (reads_for way (length places)) { seeks = 2 * length (ranges_of candidate) })
  range_reads None h = tt
  range_reads (Some t) h =
      let count : count_in_ranges t (index_of candidate) (ranges_of candidate) ≡ length places =
      sym (ap₂ (λ i rs. count_in_ranges t i rs) named listed) ∙ many_in_ranges t index ranges ∙ sym (ap length h) in
      sym (ap (λ i. range_visits (is_primary table.schema i) candidate.index_only (length (ranges_of candidate)) (count_in_ranges t (index_of candidate) (ranges_of candidate))) named)
      ∙ ap (range_visits (is_primary table.schema index) candidate.index_only (length (ranges_of candidate))) count
      ∙ reads_in_way (is_primary table.schema index) candidate.index_only index (length (ranges_of candidate)) (length places)
      ∙ sym (ap (λ w. record (reads_for w (length places)) { seeks = 2 * length (ranges_of candidate) }) goes)

  -- a range scan hands out what is in its ranges
  pub range_opened : IsMeaning table → All (λ place. place < table.count) places → IfSome table.told (λ t. places ≡ flat_map (places_held t index) ranges)
      → IsOpenedAs Range table candidate (record { way = way; left = places })
  range_opened sound within h = record {
    way = goes ∙ ap (λ i. range_way (is_primary table.schema i) candidate.index_only i) named;
    over = record { index = subst (λ w. HasIndexFor w table) (sym goes) (index_in_way table (is_primary table.schema index) candidate.index_only index there); places = within };
    rows = range_rows_left table.told sound.told h;
    visits = range_reads table.told h;
  }
