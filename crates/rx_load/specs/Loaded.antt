-- The table that a schema and the rows of a file make.
use Rattle.std.specs.Prelude.{ℕ, Bool, true, false, List, [], ◌∷◌, length, map}
use Rattle.std.specs.Ordering.{is_lt}
use Rattle.std.specs.List.{range_with_len}
use Rattle.rx_value.specs.declared.values.Value.{Value}
use Rattle.rx_value.specs.declared.shapes.Part.{Part}
use Rattle.rx_value.specs.declared.shapes.Index.{Index}
use Rattle.rx_value.specs.declared.shapes.Schema.{Schema}
use Rattle.rx_value.specs.Keys.{key_of, key_cmp}
use Rattle.rx_index.specs.declared.indexed.Indexed.{Indexed}
use Rattle.rx_index.specs.Entries.{entry_cmp}
use Rattle.rx_index.specs.Different.{fronts}
use Rattle.rx_group.specs.Classes.{firsts}
use Rattle.rx_order.specs.Stable.{ordered}

-- the key of one row on these parts comes before that of another
abbrev pub is_key_before : List Part → List Value → List Value → Bool
is_key_before parts r s = is_lt (key_cmp parts (key_of parts r) (key_of parts s))

-- rows by their keys on the first index where it is primary, else as in the file
abbrev pub by_primary : Bool → List Part → List (List Value) → List (List Value)
by_primary true parts file = ordered (is_key_before parts) file
by_primary false parts file = file

-- rows in the order of their ids: by primary key where there is one, which is the first index, else as in the file
abbrev pub in_id_order : List Index → List (List Value) → List (List Value)
in_id_order [] file = file
in_id_order (index ∷ others) file = by_primary index.primary index.parts file

-- one entry of an index comes before another: by key, and where keys are equal by rising id
abbrev pub is_entry_before : List Part → List (List Value) → ℕ → ℕ → Bool
is_entry_before parts rows a b = is_lt (entry_cmp parts rows a b)

-- the ids of the rows in the order of the entries of an index
abbrev pub entries : List Part → List (List Value) → List ℕ
entries parts rows = ordered (is_entry_before parts rows) (range_with_len 0 (length rows))

-- how many different keys rows have on the first parts of an index
abbrev pub different : List Part → List (List Value) → ℕ → ℕ
different parts rows n = length (firsts (λ key. key) (fronts parts n rows))

-- the same on its first part, on its first two, and so on
abbrev pub counts_of : List Part → List (List Value) → List ℕ
counts_of parts rows = map (different parts rows) (range_with_len 1 (length parts))

-- a table of rows in the order of their ids, with the entries of each index and how many different keys it has
abbrev pub with_entries : Schema → List (List Value) → Indexed
with_entries schema rows = record {
  schema = schema;
  rows = rows;
  orders = map (λ index. entries index.parts rows) schema.indexes;
  different = map (λ index. counts_of index.parts rows) schema.indexes;
}

-- The table of a schema and the rows of a file.
abbrev pub loaded : Schema → List (List Value) → Indexed
loaded schema file = with_entries schema (in_id_order schema.indexes file)
