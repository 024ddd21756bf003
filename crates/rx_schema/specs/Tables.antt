-- The schemas that statements declare.
use Rattle.std.specs.Prelude.{◌≡◌, ℕ, ◌≤◌, true, not, List, ◌∷◌, length, map, filter, All, None}
use Rattle.rx_value.specs.declared.shapes.Column.{Column}
use Rattle.rx_value.specs.declared.shapes.Index.{Index}
use Rattle.rx_value.specs.declared.shapes.Schema.{Schema}
use Rattle.rx_value.specs.Shape.{IsSchema}
use Rattle.rx_ddl.specs.Canonical.{IsName}
use Rattle.rx_schema.specs.Names.{primary_name, first_repeated}

-- an index with a name, that of the primary key where it is that
pub record IsNamedIndex (index : Index) : Type 0 where
  pub name : IsName index.name
  pub primary : index.primary ≡ true → index.name ≡ primary_name

-- the names of the columns
abbrev pub names_of : List Column → List (List ℕ)
names_of columns = map (λ c. c.name) columns

-- the names of the indexes, the primary key's whether or not there is one
abbrev pub index_names_of : List Index → List (List ℕ)
index_names_of indexes = primary_name ∷ map (λ i. i.name) (filter (λ i. not i.primary) indexes)

-- Some statement declares the schema: it is one within the limits, and has a column, names of 1 to 64 bytes from 32 to 126,
-- and no two columns and no two indexes of one name without case.
pub record IsDeclarable (schema : Schema) : Type 0 where
  pub shape : IsSchema schema
  pub table : IsName schema.table
  pub some : 1 ≤ length schema.columns
  pub columns : All (λ c. IsName c.name) schema.columns
  pub indexes : All IsNamedIndex schema.indexes
  pub columns_differ : first_repeated (names_of schema.columns) ≡ None
  pub indexes_differ : first_repeated (index_names_of schema.indexes) ≡ None
