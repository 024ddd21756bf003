-- The ids in the ranges of a scan, by the places in them.
use Rattle.std.proofs.Common.{◌≡◌, ℕ, zero, suc, ◌+◌, ◌<◌, Bool, true, false, cond, List, [], ◌∷◌, ◌++◌, map, filter, drop, length, get_or, Option, Some, None, IfSome, refl, sym, ap, ap₂, ◌∙◌, arith}
use Rattle.std.specs.Prelude.{slice_index}
use Rattle.std.specs.List.{range_with_len, flat_map, sum_by}
use mathlib.Core.Path.{fun_ext}
use Rattle.std.proofs.lemmas.List.{get_or-map, drop_more, drop_all, length-map, map-append}
use Rattle.std.proofs.lemmas.List.Concat.{length-flat_map}
use Rattle.rx_value.specs.declared.values.Value.{Value}
use Rattle.rx_value.specs.declared.ranges.KeyRange.{KeyRange}
use Rattle.rx_value.specs.declared.shapes.Schema.{Schema}
use Rattle.rx_value.specs.Keys.{holds}
use Rattle.rx_index.specs.declared.indexed.Indexed.{Indexed}
use Rattle.rx_index.specs.Entries.{entry_key, parts_at, ids_at}
use Rattle.rx_index.specs.Bounds.{index_keys, count_held}
use Rattle.rx_index.proofs.Counting.{count_mapped}
use Rattle.rx_store.specs.Tables.{Meaning, IsMeaning, IsTold}
use Rattle.rx_scan.specs.Visits.{is_primary, ids_held, places_held, count_in_ranges}
use Rattle.rx_merge.specs.Merged.{ids_in, entries_read_in}

-- ---- the ids at places

module _ (p q : ℕ → Bool) (ids : List ℕ) where
  pick : (b : Bool) (a : ℕ) (left kept : List ℕ) → p a ≡ b → q (slice_index ids a) ≡ b → map (slice_index ids) (filter p left) ≡ filter q kept
      → map (slice_index ids) (filter p (a ∷ left)) ≡ filter q (slice_index ids a ∷ kept)
  pick true a left kept e g h =
      ap (λ b. map (slice_index ids) (cond b (a ∷ filter p left) (filter p left))) e ∙ ap (λ xs. slice_index ids a ∷ xs) h
      ∙ sym (ap (λ b. cond b (slice_index ids a ∷ filter q kept) (filter q kept)) g)
  pick false a left kept e g h =
      ap (λ b. map (slice_index ids) (cond b (a ∷ filter p left) (filter p left))) e ∙ h
      ∙ sym (ap (λ b. cond b (slice_index ids a ∷ filter q kept) (filter q kept)) g)

  picked_from : ((k : ℕ) → k < length ids → p k ≡ q (slice_index ids k)) → (m a : ℕ) → a + m ≡ length ids → map (slice_index ids) (filter p (range_with_len a m)) ≡ filter q (drop a ids)
  picked_from agree zero a e = sym (ap (filter q) (drop_all a ids (omega (arith, e))))
  picked_from agree (suc m) a e =
      let lt : a < length ids = omega (arith, e) in
      pick (p a) a (range_with_len (a + 1) m) (drop (a + 1) ids) refl (sym (agree a lt)) (picked_from agree m (a + 1) (omega (arith, e)))
      ∙ sym (ap (filter q) (drop_more ids a 0 lt))

  -- the ids at the places that pass are the ids that pass
  picked : ((k : ℕ) → k < length ids → p k ≡ q (slice_index ids k)) → (n : ℕ) → n ≡ length ids → map (slice_index ids) (filter p (range_with_len 0 n)) ≡ filter q ids
  picked agree n e = picked_from agree n 0 (omega (arith, e))

module _ (t : Indexed) (n : ℕ) where
  abbrev key : ℕ → List Value
  key id = entry_key (parts_at t n) t.rows id

  held_at : (range : KeyRange) → map (slice_index (ids_at t n)) (places_held t n range) ≡ ids_held t n range
  held_at range =
      picked (λ place. holds range (get_or (index_keys t n) place [])) (λ id. holds range (key id)) (ids_at t n)
      (λ k lt. ap (holds range) (get_or-map key (ids_at t n) k 0 [] lt)) (length (index_keys t n)) (length-map (ids_at t n) key)

  -- the ids at the places in ranges are those of the entries in them
  pub ids_at_places : (ranges : List KeyRange) → map (slice_index (ids_at t n)) (flat_map (places_held t n) ranges) ≡ flat_map (ids_held t n) ranges
  ids_at_places [] = refl
  ids_at_places (range ∷ ranges) =
      map-append (slice_index (ids_at t n)) (places_held t n range) (flat_map (places_held t n) ranges)
      ∙ ap₂ (λ xs ys. xs ++ ys) (held_at range) (ids_at_places ranges)

  many_held : (range : KeyRange) → length (places_held t n range) ≡ count_held range (index_keys t n)
  many_held range =
      sym (length-map (places_held t n range) (slice_index (ids_at t n)))
      ∙ ap length (held_at range)
      ∙ sym (count_mapped key (λ k. holds range k) (ids_at t n))

  -- there are as many places as entries in ranges
  pub many_in_ranges : (ranges : List KeyRange) → length (flat_map (places_held t n) ranges) ≡ count_in_ranges t n ranges
  many_in_ranges ranges = length-flat_map (places_held t n) ranges ∙ ap (λ (f : KeyRange → ℕ). sum_by f ranges) (fun_ext many_held)

-- ---- of a table

module _ (table : Meaning) (n : ℕ) (ranges : List KeyRange) (places : List ℕ) (sound : IsMeaning table)
    (h : IfSome table.told (λ t. places ≡ flat_map (places_held t n) ranges)) where
  entries_told : (told : Option Indexed) (ids : List ℕ) → is_primary table.schema n ≡ false → IfSome told (IsTold table) → IfSome told (λ t. places ≡ flat_map (places_held t n) ranges)
      → IfSome told (λ t. ids ≡ map (slice_index (ids_at t n)) places) → IfSome told (λ t. ids ≡ ids_in (is_primary t.schema n) t n ranges)
  entries_told None ids other m p q = tt
  entries_told (Some t) ids other m p q =
      let primary : is_primary t.schema n ≡ false = ap (λ (s : Schema). is_primary s n) m.schema_is ∙ other in
      q ∙ ap (map (slice_index (ids_at t n))) p ∙ ids_at_places t n ranges ∙ sym (ap (λ b. ids_in b t n ranges) primary)

  -- the ids that are read at the places are those in the ranges, where the index isn't the primary key
  pub ids_by_entries : (ids : List ℕ) → is_primary table.schema n ≡ false → IfSome table.told (λ t. ids ≡ map (slice_index (ids_at t n)) places)
      → IfSome table.told (λ t. ids ≡ ids_in (is_primary t.schema n) t n ranges)
  ids_by_entries ids other q = entries_told table.told ids other sound.told h q

  places_told : (told : Option Indexed) (ids : List ℕ) → is_primary table.schema n ≡ true → IfSome told (IsTold table) → IfSome told (λ t. places ≡ flat_map (places_held t n) ranges)
      → ids ≡ places → IfSome told (λ t. ids ≡ ids_in (is_primary t.schema n) t n ranges)
  places_told None ids own m p q = tt
  places_told (Some t) ids own m p q =
      let primary : is_primary t.schema n ≡ true = ap (λ (s : Schema). is_primary s n) m.schema_is ∙ own in
      q ∙ p ∙ sym (ap (λ b. ids_in b t n ranges) primary)

  -- the places are the ids in the ranges of the primary key
  pub ids_by_places : (ids : List ℕ) → is_primary table.schema n ≡ true → ids ≡ places → IfSome table.told (λ t. ids ≡ ids_in (is_primary t.schema n) t n ranges)
  ids_by_places ids own q = places_told table.told ids own sound.told h q

  many_told : (told : Option Indexed) → is_primary table.schema n ≡ false → IfSome told (IsTold table) → IfSome told (λ t. places ≡ flat_map (places_held t n) ranges)
      → IfSome told (λ t. length places ≡ entries_read_in (is_primary t.schema n) t n ranges)
  many_told None other m p = tt
  many_told (Some t) other m p =
      let primary : is_primary t.schema n ≡ false = ap (λ (s : Schema). is_primary s n) m.schema_is ∙ other in
      ap length p ∙ many_in_ranges t n ranges ∙ sym (ap (λ b. entries_read_in b t n ranges) primary)

  -- an entry is read for each place, where the index isn't the primary key
  pub read_by_entries : is_primary table.schema n ≡ false → IfSome table.told (λ t. length places ≡ entries_read_in (is_primary t.schema n) t n ranges)
  read_by_entries other = many_told table.told other sound.told h

  none_told : (told : Option Indexed) → is_primary table.schema n ≡ true → IfSome told (IsTold table) → IfSome told (λ t. entries_read_in (is_primary t.schema n) t n ranges ≡ 0)
  none_told None own m = tt
  none_told (Some t) own m =
      let primary : is_primary t.schema n ≡ true = ap (λ (s : Schema). is_primary s n) m.schema_is ∙ own in
      ap (λ b. entries_read_in b t n ranges) primary

  -- none is read of the primary key
  pub read_by_places : is_primary table.schema n ≡ true → IfSome table.told (λ t. entries_read_in (is_primary t.schema n) t n ranges ≡ 0)
  read_by_places own = none_told table.told own sound.told
