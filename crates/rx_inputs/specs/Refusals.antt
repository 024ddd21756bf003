-- Why the words or a file are refused, and the line that says so.
use Rattle.std.specs.Prelude.{ℕ, ◌+◌, List, [], ◌++◌, map, Option, Some, None, unwrap_or, codes}
use Rattle.std.specs.List.{slice_get}
use Rattle.std.specs.Fmt.{decimal}
use Rattle.rx_value.specs.declared.shapes.Column.{Column}
use Rattle.rx_value.specs.declared.shapes.Index.{Index}
use Rattle.rx_value.specs.declared.shapes.Schema.{Schema as TheSchema}
use Rattle.rx_load.specs.Duplicates.{Duplicate}
use Rattle.rx_schema.specs.declared.faults.Which.{Which}
use Rattle.rx_schema.specs.declared.faults.Which.TheVariants.{ColumnType, Length, Zerofill, Collation, CharacterSet, KeyKind, Prefix}
use Rattle.rx_schema.specs.declared.faults.Many.{Many}
use Rattle.rx_schema.specs.declared.faults.Many.TheVariants.{Columns, Indexes, Parts}
use Rattle.rx_schema.specs.declared.faults.SchemaFault.{SchemaFault}
use Rattle.rx_schema.specs.declared.faults.SchemaFault.TheVariants as of_schema
use Rattle.rx_data.specs.declared.faults.DataFault.{DataFault}
use Rattle.rx_data.specs.declared.faults.DataFault.TheVariants as of_data
use Rattle.rx_statement.specs.declared.faults.What.{What}
use Rattle.rx_statement.specs.declared.faults.What.TheVariants as of_segment
use Rattle.rx_statement.specs.declared.faults.ScriptFault.{ScriptFault}
use Rattle.rx_statement.specs.declared.faults.ScriptFault.TheVariants as of_script
use Rattle.rx_inputs.specs.declared.inputs.Input.{Input}
use Rattle.rx_inputs.specs.declared.inputs.Input.TheVariants.{Schema, Data, Statistics, Script}

-- why the words or a file are refused
pub data Refusal : Type 0 where
  words : Refusal
  too_long : Input → Refusal
  no_schema : SchemaFault → Refusal
  -- the data of a table with this schema
  no_rows : TheSchema → DataFault → Refusal
  -- the rows of a table with this schema, of which one repeats a key of a unique index
  duplicate_key : TheSchema → Duplicate → Refusal
  -- the field at fault
  no_statistics : List ℕ → Refusal
  no_script : ScriptFault → Refusal

-- the most bytes of a file
abbrev pub limit_of : Input → ℕ
limit_of Schema = 1048576
limit_of Data = 33554432
limit_of Statistics = 1048576
limit_of Script = 1048576

-- how a file is called
abbrev pub name_of : Input → List ℕ
name_of Schema = codes "schema"
name_of Data = codes "data"
name_of Statistics = codes "statistics"
name_of Script = codes "script"

-- how a refusal calls what is outside the profile
abbrev pub which_text : Which → List ℕ
which_text ColumnType = codes "column type"
which_text Length = codes "length"
which_text Zerofill = codes "zerofill"
which_text Collation = codes "collation"
which_text CharacterSet = codes "character set"
which_text KeyKind = codes "key kind"
which_text Prefix = codes "prefix"

-- how a refusal calls what there is too much of
abbrev pub many_text : Many → List ℕ
many_text Columns = codes "columns"
many_text Indexes = codes "indexes"
many_text Parts = codes "parts"

-- the name of a column, and nothing where there is none
abbrev pub name_or_nothing : Option Column → List ℕ
name_or_nothing None = []
name_or_nothing (Some column) = column.name

-- the name of a column by its number from 0, and nothing where there is none
abbrev pub column_name : List Column → ℕ → List ℕ
column_name columns n = name_or_nothing (slice_get columns n)

-- a front, a name and the end of the line
abbrev pub named_line : List ℕ → List ℕ → List ℕ
named_line front name = front ++ name ++ codes "\n"

-- a front, a row, the name of a column and the end of the line
abbrev pub field_line : List ℕ → ℕ → List ℕ → List ℕ
field_line front row name = front ++ decimal row ++ codes " column " ++ name ++ codes "\n"

-- a name by its number from 0, and nothing where there is none
abbrev pub name_at : List (List ℕ) → ℕ → List ℕ
name_at names n = unwrap_or (slice_get names n) []

-- the name of an index by its number from 0
abbrev pub index_name : List Index → ℕ → List ℕ
index_name indexes n = name_at (map (λ index. index.name) indexes) n

-- what the refusal of data says of a row, from 1, that repeats a key of an index
abbrev pub duplicate_line : List ℕ → ℕ → List ℕ
duplicate_line name row = codes "refused: data: duplicate key: index " ++ name ++ codes " row " ++ decimal row ++ codes "\n"

-- how the refusal of statistics begins
abbrev pub statistics_front : List ℕ
statistics_front = codes "refused: statistics: "

-- what the refusal of a schema says
abbrev pub schema_line : SchemaFault → List ℕ
schema_line of_schema.NotInGrammar = codes "refused: schema: not in grammar\n"
schema_line (of_schema.NotInProfile which) = named_line (codes "refused: schema: not in profile: ") (which_text which)
schema_line (of_schema.TooMany which) = named_line (codes "refused: schema: too many: ") (many_text which)
schema_line (of_schema.Duplicate name) = named_line (codes "refused: schema: duplicate: ") name
schema_line (of_schema.UnknownColumn name) = named_line (codes "refused: schema: unknown column: ") name
schema_line of_schema.NoMemory = codes "out of memory\n"

-- what the refusal of data says
abbrev pub data_line : List Column → DataFault → List ℕ
data_line columns (of_data.NotCsv quotes) = codes "refused: data: not csv\n"
data_line columns of_data.HeaderMismatch = codes "refused: data: header mismatch\n"
data_line columns (of_data.FieldCount row) = named_line (codes "refused: data: field count: row ") (decimal row)
data_line columns (of_data.BadValue row column) = field_line (codes "refused: data: bad value: row ") row (column_name columns column)
data_line columns (of_data.NullNotAllowed row column) = field_line (codes "refused: data: null not allowed: row ") row (column_name columns column)
data_line columns of_data.TooManyRows = codes "refused: data: too many rows\n"
data_line columns of_data.NoMemory = codes "out of memory\n"

-- why a segment of a script is refused, without the name behind it
abbrev pub what_text : What → List ℕ
what_text of_segment.NotAToken = codes "not a token"
what_text of_segment.NotInGrammar = codes "not in grammar"
what_text (of_segment.UnknownName name) = codes "unknown name: "
what_text of_segment.TypeMismatch = codes "type mismatch"
what_text of_segment.NotGrouped = codes "not grouped"
what_text (of_segment.BadSetting name) = codes "bad setting: "

-- the name for which it is refused, and nothing where it is for none
abbrev pub name_in : What → List ℕ
name_in (of_segment.UnknownName name) = name
name_in (of_segment.BadSetting name) = name
name_in _ = []

-- what the refusal of a segment says, by its number
abbrev pub statement_line : ℕ → What → List ℕ
statement_line statement what = codes "refused: script: statement " ++ decimal statement ++ codes ": " ++ what_text what ++ name_in what ++ codes "\n"

-- what the refusal of a script says
abbrev pub script_line : ScriptFault → List ℕ
script_line (of_script.Bad statement what) = statement_line statement what
script_line of_script.NoMemory = codes "out of memory\n"

-- the line of a refusal
abbrev pub line_of_refusal : Refusal → List ℕ
line_of_refusal words = codes "refused: words\n"
line_of_refusal (too_long input) = codes "refused: " ++ name_of input ++ codes ": too long\n"
line_of_refusal (no_schema fault) = schema_line fault
line_of_refusal (no_rows schema fault) = data_line schema.columns fault
line_of_refusal (duplicate_key schema d) = duplicate_line (index_name schema.indexes d.index) (d.row + 1)
line_of_refusal (no_statistics field) = named_line statistics_front field
line_of_refusal (no_script fault) = script_line fault
