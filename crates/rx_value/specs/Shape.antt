-- What fits a shape, and the limits of shapes.
use Rattle.std.specs.Prelude.{◌≡◌, ℕ, ◌-◌, ◌^◌, ◌<◌, ◌≤◌, ℤ, pos, ◌+ℤ◌, ◌≤ℤ◌, ◌<ℤ◌, ◌⊎◌, Bool, true, false, not, List, [], ◌∷◌, map, drop, length, Some, filter, All, IfSome}
use Rattle.std.specs.List.{IsDistinct}
use Rattle.std.specs.Prelude.{nat_eq, slice_get}
use Rattle.std.specs.Str.{IsUtf8, chars}
use Rattle.rx_value.specs.Limits.{most_columns, most_indexes, most_parts}
use Rattle.rx_value.specs.declared.values.Value.{Value}
use Rattle.rx_value.specs.declared.values.Value.TheVariants.{Null, Int, Text}
use Rattle.rx_value.specs.declared.shapes.ColType.{ColType}
use Rattle.rx_value.specs.declared.shapes.ColType.TheVariants.{Whole, VarChar}
use Rattle.rx_value.specs.declared.shapes.Column.{Column}
use Rattle.rx_value.specs.declared.shapes.Part.{Part}
use Rattle.rx_value.specs.declared.shapes.Index.{Index}
use Rattle.rx_value.specs.declared.shapes.Schema.{Schema}

-- an integer is in the range of a type of so many bits
abbrev pub InRange : ℕ → Bool → ℤ → Type 0
InRange bits true n = (pos 0 ≤ℤ (n +ℤ pos (2 ^ (bits - 1)))) × (n <ℤ pos (2 ^ (bits - 1)))
InRange bits false n = (pos 0 ≤ℤ n) × (n <ℤ pos (2 ^ bits))

-- integers have 8, 16, 24, 32 or 64 bits
abbrev pub HasWidth : ℕ → Type 0
HasWidth bits = (bits ≡ 8) ⊎ (bits ≡ 16) ⊎ (bits ≡ 24) ⊎ (bits ≡ 32) ⊎ (bits ≡ 64)

-- a column's type: an integer of such a width, or a text of at most 255 characters
abbrev pub IsColType : ColType → Type 0
IsColType (Whole bits signed) = HasWidth bits
IsColType (VarChar count) = count ≤ 255

-- a value is of a column's type, or NULL
abbrev pub FitsType : ColType → Value → Type 0
FitsType kind Null = Unit {0}
FitsType (Whole bits signed) (Int n) = InRange bits signed n
FitsType (VarChar count) (Text text) = IsUtf8 text × (length (chars text) ≤ count)
FitsType _ _ = ⊥

-- a value may stand in a column
pub record FitsColumn (column : Column) (value : Value) : Type 0 where
  pub kind : FitsType column.kind value
  pub null : value ≡ Null → column.nullable ≡ true

-- a row has one fitting value per column
abbrev pub FitsColumns : List Column → List Value → Type 0
FitsColumns [] [] = Unit {0}
FitsColumns (c ∷ cs) (v ∷ vs) = FitsColumn c v × FitsColumns cs vs
FitsColumns _ _ = ⊥

-- a row fits a schema
abbrev pub FitsRow : Schema → List Value → Type 0
FitsRow schema row = FitsColumns schema.columns row

-- the columns of an index by number
abbrev pub columns_of : Index → List ℕ
columns_of index = map (λ p. p.column) index.parts

-- a column that is there and can't be NULL
abbrev pub IsNotNull : List Column → ℕ → Type 0
IsNotNull columns c = (column : Column) × (slice_get columns c ≡ Some column) × (column.nullable ≡ false)

-- a type of texts that may have more characters than n, which isn't 0
abbrev pub IsLongText : ℕ → ColType → Type 0
IsLongText n (Whole bits signed) = ⊥
IsLongText n (VarChar count) = (0 < n) × (n < count)

-- a column is there and holds texts of more characters than a prefix length, which isn't 0
abbrev pub IsTextOver : List Column → ℕ → ℕ → Type 0
IsTextOver columns c n = (column : Column) × (slice_get columns c ≡ Some column) × IsLongText n column.kind

-- where a part has a prefix length, its column holds texts that may be longer
abbrev pub FitsPrefix : List Column → Part → Type 0
FitsPrefix columns part = IfSome part.chars (IsTextOver columns part.column)

-- an index has at least one part and no more than the limit, on columns that are there, none twice, its prefix lengths shorter than their columns' texts; a primary one is unique and never NULL
pub record FitsIndex (columns : List Column) (index : Index) : Type 0 where
  pub some : 0 < length index.parts
  pub few : length index.parts ≤ most_parts
  pub there : All (λ c. c < length columns) (columns_of index)
  pub distinct : IsDistinct nat_eq (columns_of index)
  pub prefixes : All (FitsPrefix columns) index.parts
  pub unique : index.primary ≡ true → index.unique ≡ true
  pub not_null : index.primary ≡ true → All (IsNotNull columns) (columns_of index)

-- A schema within the limits, its types those of columns, the primary key first where there is one.
pub record IsSchema (schema : Schema) : Type 0 where
  pub few_columns : length schema.columns ≤ most_columns
  pub types : All (λ c. IsColType c.kind) schema.columns
  pub few_indexes : length (filter (λ i. not i.primary) schema.indexes) ≤ most_indexes
  pub indexes : All (FitsIndex schema.columns) schema.indexes
  pub primary_first : All (λ i. i.primary ≡ false) (drop 1 schema.indexes)
