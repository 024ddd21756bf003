-- The rows of a table as a text of records.
use Rattle.std.specs.Prelude.{ℕ, suc, ◌%◌, Bool, true, false, ◌&&◌, List, [], ◌∷◌, length, count_by, Err, nat_le, ◌==◌, if◌then◌else◌}
use Rattle.rx_value.specs.Limits.{most_rows}
use Rattle.rx_value.specs.Names.{same_name}
use Rattle.rx_value.specs.declared.values.Value.{Value}
use Rattle.rx_value.specs.declared.shapes.Column.{Column}
use Rattle.rx_value.specs.declared.shapes.Schema.{Schema}
use Rattle.rx_data.specs.declared.faults.DataFault.TheVariants.{NotCsv, HeaderMismatch, FieldCount, TooManyRows}
use Rattle.rx_data.specs.Outcomes.{Outcome, all_of}
use Rattle.rx_data.specs.Fields.{field_value}
use Rattle.rx_data.specs.Records.{records_of}

-- the names of the columns in order, without case
abbrev pub is_header : List Column → List (List ℕ) → Bool
is_header [] [] = true
is_header (column ∷ columns) (field ∷ fields) = same_name field column.name && is_header columns fields
is_header _ _ = false

-- what each field of a row gives its column, the columns numbered from a number
abbrev pub field_outcomes : ℕ → ℕ → List Column → List (List ℕ) → List (Outcome Value)
field_outcomes row number (column ∷ columns) (field ∷ fields) =
    field_value row number column field ∷ field_outcomes row (suc number) columns fields
field_outcomes row number _ _ = []

-- what a row gives: one field per column, and the first refusal from the left
unfoldable pub row_outcome : List Column → ℕ → List (List ℕ) → Outcome (List Value)
row_outcome columns row fields =
    if length fields == length columns then all_of (field_outcomes row 0 columns fields) else Err (FieldCount row)

-- a row within those that a table holds
abbrev pub bounded_outcome : List Column → ℕ → List (List ℕ) → Outcome (List Value)
bounded_outcome columns row fields = if nat_le row most_rows then row_outcome columns row fields else Err TooManyRows

-- what each record gives, the rows numbered from a number
abbrev pub row_outcomes : List Column → ℕ → List (List (List ℕ)) → List (Outcome (List Value))
row_outcomes columns row [] = []
row_outcomes columns row (fields ∷ records) = bounded_outcome columns row fields ∷ row_outcomes columns (suc row) records

-- a header, and under it the rows from 1
abbrev pub rows_under : List Column → List (List (List ℕ)) → Outcome (List (List Value))
rows_under columns [] = Err HeaderMismatch
rows_under columns (header ∷ records) = if is_header columns header then all_of (row_outcomes columns 1 records) else Err HeaderMismatch

-- how many quotes a text has
abbrev pub quotes_in : List ℕ → ℕ
quotes_in text = count_by (λ b. b == 34) text

-- the rows that a text gives a table of this schema, or the first refusal; an odd number of quotes is tested first
unfoldable pub data_rows : Schema → List ℕ → Outcome (List (List Value))
data_rows schema text = if quotes_in text % 2 == 1 then Err (NotCsv (quotes_in text)) else rows_under schema.columns (records_of text)
