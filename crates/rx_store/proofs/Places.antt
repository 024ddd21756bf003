-- An index has as many entries as there are rows.
use Rattle.std.proofs.Common.{◌≡◌, ℕ, ◌<◌, ◌≤◌, Bool, List, length, get_or, slice_get, Some, arith}
use Rattle.std.specs.List.{range_with_len}
use Rattle.std.proofs.lemmas.List.{length-map}
use Rattle.std.proofs.lemmas.List.Sums.{length-filter, count_by-le-length}
use Rattle.std.proofs.lemmas.List.Sorted.{length_permutation}
use Rattle.std.proofs.lemmas.List.FromFn.{length-range_with_len}
use Rattle.std.proofs.lemmas.Option.{slice_get-get_or}
use Rattle.rx_value.specs.declared.values.Value.{Value}
use Rattle.rx_value.specs.declared.shapes.Part.{Part}
use Rattle.rx_value.specs.declared.ranges.Rest.{Rest}
use Rattle.rx_value.specs.Keys.{is_before}
use Rattle.rx_index.specs.declared.indexed.Indexed.{Indexed}
use Rattle.rx_index.specs.Entries.{IsOrder, IsEntered, entry_key, parts_at, ids_at}
use Rattle.rx_index.specs.Bounds.{count_before, index_keys}
use Rattle.rx_index.proofs.Numbers.{id_below, ids_there}

pub as_many : (parts : List Part) (rows : List (List Value)) (ids : List ℕ) → IsOrder parts rows ids → length ids ≡ length rows
as_many parts rows ids o = omega (arith, length_permutation (range_with_len 0 (length rows)) ids o.each, length-range_with_len 0 (length rows))

-- the id at a place is there, and that of a row
pub there : (parts : List Part) (rows : List (List Value)) (ids : List ℕ) → IsOrder parts rows ids → (place d : ℕ) → place < length rows → slice_get ids place ≡ Some (get_or ids place d)
there parts rows ids o place d lt = slice_get-get_or ids place d (omega (arith, lt, as_many parts rows ids o))

pub of_row : (parts : List Part) (rows : List (List Value)) (ids : List ℕ) → IsOrder parts rows ids → (place d : ℕ) → place < length rows → get_or ids place d < length rows
of_row parts rows ids o place d lt = id_below parts rows ids o place d (omega (arith, lt, as_many parts rows ids o))

-- the order of an index
pub order_of : (t : Indexed) (n : ℕ) → IsEntered t → n < length t.schema.indexes → IsOrder (parts_at t n) t.rows (ids_at t n)
order_of t n entered lt = (ids_there t n entered lt).1

-- no more entries stand before a bound than there are rows
pub no_more : (t : Indexed) (n : ℕ) (points : List Value) (rest : Rest) → IsEntered t → n < length t.schema.indexes
    → count_before points rest (parts_at t n) (index_keys t n) ≤ length t.rows
no_more t n points rest entered lt =
    let keys = index_keys t n in
    let ids = ids_at t n in
    let p : List Value → Bool = λ key. is_before points rest (parts_at t n) key in
    omega (arith, length-filter p keys, count_by-le-length p keys, length-map ids (λ id. entry_key (parts_at t n) t.rows id), as_many (parts_at t n) t.rows ids (order_of t n entered lt))
