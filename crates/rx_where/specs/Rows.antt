-- Tests of several columns at once.
use Rattle.std.specs.Prelude.{ℕ, List, codes, Some, None, length, nat_lt, ◌==◌, if◌then◌else◌}
use Rattle.std.specs.Option.{option_or}
use Rattle.rx_value.specs.declared.values.Value.{Value}
use Rattle.rx_where.specs.Raw.{RawTree, row_member, neg}
use Rattle.rx_reading.specs.Reading.{Reader, ◌>>=◌, after_word, name_at, enclosed_at}
use Rattle.rx_where.specs.Operands.{constants_at}

-- "(" name "," name {"," name} ")"
unfoldable pub names_at : Reader (List (List ℕ))
names_at ts = enclosed_at name_at ts >>= λ names. if nat_lt 1 (length names.0) then Some names else None

-- so many constants between parentheses
unfoldable pub tuple_at : ℕ → Reader (List Value)
tuple_at count ts = constants_at ts >>= λ key. if length key.0 == count then Some key else None

-- IN and tuples between parentheses, each as long as the names
unfoldable pub row_list_at : List (List ℕ) → Reader RawTree
row_list_at names ts =
    after_word (codes "IN") ts >>= λ behind. enclosed_at (tuple_at (length names)) behind >>= λ list.
    Some (row_member names list.0, list.1)

-- NOT and the same
unfoldable pub not_row_list_at : List (List ℕ) → Reader RawTree
not_row_list_at names ts = after_word (codes "NOT") ts >>= λ behind. row_list_at names behind >>= λ x. Some (neg x.0, x.1)

-- names and [NOT] IN tuples
unfoldable pub row_test_at : Reader RawTree
row_test_at ts = names_at ts >>= λ names. option_or (not_row_list_at names.0 names.1) (row_list_at names.0 names.1)
