-- The entries of an index that have another key on its first parts than the one before them.
use Rattle.std.specs.Prelude.{◌≡◌, ℕ, ◌+◌, ◌-◌, ◌<◌, Bool, true, false, not, ◌&&◌, ◌||◌, nat_eq, List, [], length, take, map, filter, All}
use Rattle.std.specs.List.{AllPairs, Contains, range_with_len}
use Rattle.std.proofs.Common.{get_or, ltb}
use Rattle.std.specs.Ordering.{is_eq, is_lt}
use Rattle.rx_value.specs.Keys.{part_value, part_cmp, key_of, key_cmp}
use Rattle.rx_value.specs.declared.values.Value.{Value}
use Rattle.rx_value.specs.declared.values.Value.TheVariants.{Null}
use Rattle.rx_value.specs.declared.shapes.Part.{Part}
use Rattle.rx_index.specs.declared.orders.Placed.{Placed}
use Rattle.rx_index.specs.Entries.{row_at, entry_key}

-- the key of the entry at a place, on the first parts
abbrev pub front_at : List Part → ℕ → List (List Value) → List ℕ → ℕ → List Value
front_at parts n rows ids place = entry_key (take n parts) rows (get_or ids place 0)

-- an entry is the first, or has another key than the one before it
abbrev pub is_new : List Part → List (List Value) → List ℕ → ℕ → Bool
is_new parts rows ids place =
    nat_eq place 0 || not (is_eq (key_cmp parts (entry_key parts rows (get_or ids (place - 1) 0)) (entry_key parts rows (get_or ids place 0))))

-- so many different keys are among those of the entries before a place
pub record AreSeen (parts : List Part) (n : ℕ) (rows : List (List Value)) (ids : List ℕ) (place count : ℕ) : Type 0 where
  pub each : List (List Value)
  pub apart : AllPairs (λ a b. a ≡ b → ⊥) each
  pub of_entries : All (λ key. (at : ℕ) × (at < place) × (front_at parts n rows ids at ≡ key)) each
  pub all : (at : ℕ) → at < place → Contains each (front_at parts n rows ids at)
  pub count_is : length each ≡ count

-- the values that the rows with these ids have on a part
abbrev pub values_of : Part → List (List Value) → List ℕ → List Value
values_of part rows ids = map (λ id. part_value part (row_at rows id)) ids

-- how many are marked
abbrev pub count_marked : List Bool → ℕ
count_marked marks = length (filter (λ m. m) marks)

-- of so many the first alone is marked
pub record IsFirstMarked (count : ℕ) (marks : List Bool) : Type 0 where
  pub as_many : length marks ≡ count
  pub each : (i : ℕ) → i < count → get_or marks i false ≡ nat_eq i 0

-- a value is before a place and not the first, and another than the one before it
abbrev pub differs : Bool → List Value → ℕ → ℕ → Bool
differs falling values place i = ltb 0 i && (ltb i place && not (is_eq (part_cmp falling (get_or values (i - 1) Null) (get_or values i Null))))

-- besides what was marked, before a place that is marked of which the value is another than the one before it
pub record AreMarkedTo (falling : Bool) (values : List Value) (place : ℕ) (old new : List Bool) : Type 0 where
  pub as_many : length new ≡ length old
  pub each : (i : ℕ) → i < length old → get_or new i false ≡ (get_or old i false || differs falling values place i)

-- those entries are marked that are the first, or have another key on the first parts than the one before them
pub record AreMarked (parts : List Part) (n : ℕ) (rows : List (List Value)) (ids : List ℕ) (marks : List Bool) : Type 0 where
  pub as_many : length marks ≡ length ids
  pub each : (i : ℕ) → i < length ids → get_or marks i false ≡ is_new (take n parts) rows ids i

-- the row without words
abbrev pub no_place : Placed
no_place = record { head = 0; next = 0; id = 0 }

-- rows have the same words
abbrev pub same_words : Placed → Placed → Bool
same_words a b = nat_eq a.head b.head && nat_eq a.next b.next

-- a row is the first, or has other words than the one before it
abbrev pub has_new_words : List Placed → ℕ → Bool
has_new_words list place = nat_eq place 0 || not (same_words (get_or list (place - 1) no_place) (get_or list place no_place))

-- how many of the first rows have new words
abbrev pub count_new_words : List Placed → ℕ → ℕ
count_new_words list n = length (filter (has_new_words list) (range_with_len 0 n))

-- each row is before the next one by its key on these parts
abbrev pub DoRise : List Part → List (List Value) → Type 0
DoRise parts rows =
    (k : ℕ) → k + 1 < length rows → is_lt (key_cmp parts (key_of parts (get_or rows k [])) (key_of parts (get_or rows (k + 1) []))) ≡ true
