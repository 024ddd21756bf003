-- The entries of an index in a range stand at the places between two seeks.
use Rattle.std.proofs.Common.{◌≡◌, ◌⊎◌, inl, inr, ℕ, zero, suc, ◌+◌, ◌-◌, ◌<◌, ◌≤◌, max, Bool, true, false, not, ◌&&◌, cond, List, [], ◌∷◌, length, filter, get_or, Option, Some, None, IfSome, All, refl, sym, ap, ap₂, ◌∙◌, subst, arith}
use Rattle.std.specs.List.{range_with_len}
use Rattle.std.specs.List.Sorted.{IsPartitionedBy}
use Rattle.std.proofs.lemmas.List.{get_or-map, length-map}
use Rattle.std.proofs.lemmas.Bool.{cases_lt}
use Rattle.std.proofs.lemmas.List.FromFn.{length-range_with_len, get_or-range_with_len}
use Rattle.std.proofs.lemmas.List.Elements.{All-from_get_or}
use Rattle.rx_value.specs.declared.values.Value.{Value}
use Rattle.rx_value.specs.declared.shapes.Part.{Part}
use Rattle.rx_value.specs.declared.shapes.Schema.{Schema}
use Rattle.rx_value.specs.declared.ranges.KeyRange.{KeyRange}
use Rattle.rx_value.specs.declared.ranges.Rest.{Rest}
use Rattle.rx_value.specs.Keys.{is_before, holds}
use Rattle.rx_index.specs.declared.indexed.Indexed.{Indexed}
use Rattle.rx_index.specs.Entries.{IsOrder, row_at, entry_key, parts_at, ids_at}
use Rattle.rx_index.specs.Bounds.{keys_of, index_keys, count_before, cut_of, begin_of, end_of}
use Rattle.rx_index.proofs.Counting.{parted, count_mapped}
use Rattle.rx_index.proofs.Holding.{before_key_cut, of_bound, held}
use Rattle.rx_store.specs.Tables.{Meaning, IsMeaning, IsTold, IsPlace}
use Rattle.rx_store.proofs.Places.{as_many, order_of}
use Rattle.rx_estimate.specs.Estimates.{parts_in}
use Rattle.rx_scan.specs.Visits.{places_held}
use Rattle.rx_scan.specs.Runs.{places_between}

-- ---- elements that pass a test come before those that don't

module _ {X : Type 0} (p : X → Bool) where
  -- each before this place passes, and none from it on
  pub record IsParted (xs : List X) (place : ℕ) : Type 0 where
    pub before : (k : ℕ) (d : X) → k < place → k < length xs → p (get_or xs k d) ≡ true
    pub behind : (k : ℕ) (d : X) → place ≤ k → k < length xs → p (get_or xs k d) ≡ false

  fails : (b : Bool) (x y : X) → p x ≡ false → p y ≡ b → (p y ≡ true → p x ≡ true) → p y ≡ false
  fails false x y f e h = e
  fails true x y f e h = absurd (cc (f, h e))

  none_passes : (x : X) (xs : List X) → p x ≡ false → IsPartitionedBy p (x ∷ xs) → (k : ℕ) (d : X) → k < length (x ∷ xs) → p (get_or (x ∷ xs) k d) ≡ false
  none_passes x xs f h k d lt = fails (p (get_or (x ∷ xs) k d)) x (get_or (x ∷ xs) k d) f refl (λ e. h 0 k d (omega arith) lt e)

  no_count : (xs : List X) → ((k : ℕ) (d : X) → k < length xs → p (get_or xs k d) ≡ false) → length (filter p xs) ≡ 0
  no_count [] h = refl
  no_count (x ∷ xs) h =
      ap (λ (b : Bool). length {A = X} (cond b (x ∷ filter p xs) (filter p xs))) (h 0 x (omega arith)) ∙ no_count xs (λ k d lt. h (suc k) d (omega (arith, lt)))

  one_before : (x : X) (xs : List X) (n : ℕ) → p x ≡ true → IsParted xs n → (k : ℕ) (d : X) → k < suc n → k < length (x ∷ xs) → p (get_or (x ∷ xs) k d) ≡ true
  one_before x xs n e rest zero d lo lt = e
  one_before x xs n e rest (suc k) d lo lt = rest.before k d (omega (arith, lo)) (omega (arith, lt))

  one_behind : (x : X) (xs : List X) (n : ℕ) → IsParted xs n → (k : ℕ) (d : X) → suc n ≤ k → k < length (x ∷ xs) → p (get_or (x ∷ xs) k d) ≡ false
  one_behind x xs n rest zero d lo lt = absurd (omega (arith, lo))
  one_behind x xs n rest (suc k) d lo lt = rest.behind k d (omega (arith, lo)) (omega (arith, lt))

  parted_step : (b : Bool) (x : X) (xs : List X) → p x ≡ b → IsPartitionedBy p (x ∷ xs) → IsParted xs (length (filter p xs)) → IsParted (x ∷ xs) (length (cond b (x ∷ filter p xs) (filter p xs)))
  parted_step true x xs e h rest = record { before = one_before x xs (length (filter p xs)) e rest; behind = one_behind x xs (length (filter p xs)) rest }
  parted_step false x xs e h rest =
      let none = none_passes x xs e h in
      let zero_count : length (filter p xs) ≡ 0 = no_count xs (λ k d lt. none (suc k) d (omega (arith, lt))) in
      record { before = λ k d lo lt. absurd (omega (arith, lo, zero_count)); behind = λ k d lo lt. none k d lt }

  -- the place is the number of those that pass
  parted_by : (xs : List X) → IsPartitionedBy p xs → IsParted xs (length (filter p xs))
  parted_by [] h = record { before = λ k d lo lt. absurd (omega (arith, lt)); behind = λ k d lo lt. absurd (omega (arith, lt)) }
  parted_by (x ∷ xs) h = parted_step (p x) x xs refl h (parted_by xs (λ i j d ij jn q. h (suc i) (suc j) d (omega (arith, ij)) (omega (arith, jn)) q))

-- ---- numbers that pass a test, where these are those between two

abbrev from_to : ℕ → ℕ → ℕ → List ℕ
from_to a begin end = range_with_len (max a begin) (end - max a begin)

range_step : (a begin end : ℕ) → begin ≤ a → a < end → a ∷ from_to (a + 1) begin end ≡ from_to a begin end
range_step a begin end lo hi =
    let first : max a begin ≡ a = omega (arith, lo) in
    let next : max (a + 1) begin ≡ a + 1 = omega (arith, lo) in
    let count : end - a ≡ suc (end - (a + 1)) = omega (arith, hi) in
    rw (first, next, count) refl

module _ (p : ℕ → Bool) (begin end n : ℕ) where
  -- these are the numbers that pass
  pub record PassBetween : Type 0 where
    pub low : (k : ℕ) → k < begin → k < n → p k ≡ false
    pub mid : (k : ℕ) → begin ≤ k → k < end → k < n → p k ≡ true
    pub high : (k : ℕ) → end ≤ k → k < n → p k ≡ false

  -- what is kept of the numbers from one on, where of those behind it is known
  step : (a m : ℕ) → PassBetween → a < n → filter p (range_with_len (a + 1) m) ≡ from_to (a + 1) begin end
      → filter p (range_with_len a (suc m)) ≡ from_to a begin end
  step a m h lt rest = by (cases_lt a begin) (cases_lt a end)
    where
      kept : (b : Bool) → p a ≡ b → filter p (range_with_len a (suc m)) ≡ cond b (a ∷ from_to (a + 1) begin end) (from_to (a + 1) begin end)
      kept b e = ap₂ (λ (c : Bool) (xs : List ℕ). cond c (a ∷ xs) xs) e rest

      by : (a < begin) ⊎ (begin ≤ a) → (a < end) ⊎ (end ≤ a) → filter p (range_with_len a (suc m)) ≡ from_to a begin end
      by (inl below) q =
          let same : max (a + 1) begin ≡ max a begin = omega (arith, below) in
          kept false (h.low a below lt) ∙ ap (λ x. range_with_len x (end - x)) same
      by (inr behind) (inl below) = kept true (h.mid a behind below lt) ∙ range_step a begin end behind below
      by (inr behind) (inr past) =
          let none : end - max (a + 1) begin ≡ 0 = omega (arith, past) in
          let nothing : end - max a begin ≡ 0 = omega (arith, past) in
          kept false (h.high a past lt) ∙ ap (range_with_len (max (a + 1) begin)) none ∙ sym (ap (range_with_len (max a begin)) nothing)

  from_on : (m a : ℕ) → PassBetween → end ≤ n → a + m ≡ n → filter p (range_with_len a m) ≡ from_to a begin end
  from_on zero a h few e =
      let none : end - max a begin ≡ 0 = omega (arith, e, few) in
      sym (ap (range_with_len (max a begin)) none)
  from_on (suc m) a h few e = step a m h (omega (arith, e)) (from_on m (a + 1) h few (omega (arith, e)))

  -- those of the first n numbers that pass
  pub passed : PassBetween → end ≤ n → filter p (range_with_len 0 n) ≡ places_between begin end
  passed h few =
      let first : max 0 begin ≡ begin = omega arith in
      from_on n 0 h few (omega arith) ∙ ap (λ x. range_with_len x (end - x)) first

-- ---- a range between two seeks

abbrev between : Bool → Bool → Bool
between before_begin before_end = not before_begin && before_end

not_held : (b : Bool) → between b false ≡ false
not_held true = refl
not_held false = refl

module _ (parts : List Part) (rows : List (List Value)) (ids : List ℕ) (o : IsOrder parts rows ids) (range : KeyRange) (low high : List Value) (from to : Rest)
    (p : low ≡ range.points) (q : high ≡ range.points) (e : cut_of from ≡ begin_of parts range) (f : cut_of to ≡ end_of parts range) where
  abbrev is_low : ℕ → Bool
  is_low id = is_before low from parts (entry_key parts rows id)

  abbrev is_high : ℕ → Bool
  is_high id = is_before high to parts (entry_key parts rows id)

  held_by : (id : ℕ) → holds range (entry_key parts rows id) ≡ between (is_low id) (is_high id)
  held_by id =
      let row = row_at rows id in
      let key = entry_key parts rows id in
      held range.points range.last parts row
      ∙ sym (ap₂ between
      (of_bound low from parts row ∙ ap (λ (x : List Value). before_key_cut x (cut_of from) parts key) p ∙ ap (λ c. before_key_cut range.points c parts key) e)
      (of_bound high to parts row ∙ ap (λ (x : List Value). before_key_cut x (cut_of to) parts key) q ∙ ap (λ c. before_key_cut range.points c parts key) f))

  abbrev keys : List (List Value)
  keys = keys_of parts rows ids

  abbrev is_held : ℕ → Bool
  is_held place = holds range (get_or keys place [])

  at_place : (k : ℕ) → k < length keys → is_held k ≡ between (is_low (get_or ids k 0)) (is_high (get_or ids k 0))
  at_place k lt =
      ap (holds range) (get_or-map (λ id. entry_key parts rows id) ids k 0 [] (omega (arith, lt, length-map ids (λ id. entry_key parts rows id)))) ∙ held_by (get_or ids k 0)

  low_parted : IsParted is_low ids (count_before low from parts keys)
  low_parted = subst (IsParted is_low ids) (sym (count_mapped (λ id. entry_key parts rows id) (λ key. is_before low from parts key) ids)) (parted_by is_low ids (parted parts rows ids o.rising low from))

  high_parted : IsParted is_high ids (count_before high to parts keys)
  high_parted = subst (IsParted is_high ids) (sym (count_mapped (λ id. entry_key parts rows id) (λ key. is_before high to parts key) ids)) (parted_by is_high ids (parted parts rows ids o.rising high to))

  pass : PassBetween is_held (count_before low from parts keys) (count_before high to parts keys) (length keys)
  pass =
      let many = length-map ids (λ id. entry_key parts rows id) in
      record {
        low = λ k below lt. at_place k lt ∙ ap (λ b. between b (is_high (get_or ids k 0))) (low_parted.before k 0 below (omega (arith, lt, many)));
        mid = λ k behind below lt.
            at_place k lt
            ∙ ap₂ between (low_parted.behind k 0 behind (omega (arith, lt, many))) (high_parted.before k 0 below (omega (arith, lt, many)));
        high = λ k past lt. at_place k lt ∙ ap (between (is_low (get_or ids k 0))) (high_parted.behind k 0 past (omega (arith, lt, many))) ∙ not_held (is_low (get_or ids k 0));
      }

  -- the entries in a range stand at the places from that of its begin on, before that of its end
  pub stand_between : (begin end : ℕ) → begin ≡ count_before low from parts keys → end ≡ count_before high to parts keys → end ≤ length keys
      → filter is_held (range_with_len 0 (length keys)) ≡ places_between begin end
  stand_between begin end b c few =
      let d = sym c in
      passed is_held (count_before low from parts keys) (count_before high to parts keys) (length keys) pass (subst (λ n. n ≤ length keys) c few)
      ∙ ap₂ places_between (sym b) d

-- ---- of a table

-- the parts of an index of a told table are those of its shape
pub same_parts : (table : Meaning) (t : Indexed) (n : ℕ) → IsTold table t → parts_at t n ≡ parts_in table.schema n
same_parts table t n told = ap (λ (s : Schema). parts_in s n) told.schema_is

-- an index has a key for each row
pub many_keys : (table : Meaning) (t : Indexed) (n : ℕ) → IsTold table t → n < length table.schema.indexes → length (index_keys t n) ≡ table.count
many_keys table t n told there =
    length-map (ids_at t n) (λ id. entry_key (parts_at t n) t.rows id)
    ∙ as_many (parts_at t n) t.rows (ids_at t n) (order_of t n told.entered (subst (λ (s : Schema). n < length s.indexes) (sym told.schema_is) there))
    ∙ told.count_is

module _ (table : Meaning) (index : ℕ) (range : KeyRange) (low high : List Value) (from to : Rest) (begin end : ℕ)
    (p : low ≡ range.points) (q : high ≡ range.points) (e : cut_of from ≡ begin_of (parts_in table.schema index) range) (f : cut_of to ≡ end_of (parts_in table.schema index) range)
    (there : index < length table.schema.indexes) (few : end ≤ table.count) where
  by_told : (told : Option Indexed) → IfSome told (IsTold table)
      → IfSome told (λ t. begin ≡ count_before low from (parts_at t index) (index_keys t index))
      → IfSome told (λ t. end ≡ count_before high to (parts_at t index) (index_keys t index))
      → IfSome told (λ t. places_between begin end ≡ places_held t index range)
  by_told None m b c = tt
  by_told (Some t) m b c =
      let same = same_parts table t index m in
      sym (stand_between (parts_at t index) t.rows (ids_at t index) (order_of t index m.entered (subst (λ (s : Schema). index < length s.indexes) (sym m.schema_is) there))
      range low high from to p q (e ∙ ap (λ ps. begin_of ps range) (sym same)) (f ∙ ap (λ ps. end_of ps range) (sym same)) begin end b c
      (subst (λ n. end ≤ n) (sym (many_keys table t index m there)) few))

  -- the seeks to where a range begins and ends tell the places of its entries
  pub places_by_seeks : IsMeaning table → IsPlace table index low from begin → IsPlace table index high to end
      → IfSome table.told (λ t. places_between begin end ≡ places_held t index range)
  places_by_seeks sound b c = by_told table.told sound.told b c

-- places before the last of so many are there
pub places_below : (begin end count : ℕ) → end ≤ count → All (λ place. place < count) (places_between begin end)
places_below begin end count few = All-from_get_or (λ place. place < count) (places_between begin end) 0 (λ i lt.
    let within : i < end - begin = omega (arith, lt, length-range_with_len begin (end - begin)) in
    omega (arith, few, within, get_or-range_with_len begin (end - begin) i 0 within))
