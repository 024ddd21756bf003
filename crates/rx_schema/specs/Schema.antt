-- The schema that a statement declares.
use Rattle.std.specs.Prelude.{ℕ, List, Option, Some, None, Ok, Err}
use Rattle.std.specs.Option.{option_or, option_map}
use Rattle.rx_value.specs.declared.shapes.Schema.{Schema}
use Rattle.rx_ddl.specs.declared.statements.CreateDefinition.{CreateDefinition}
use Rattle.rx_ddl.specs.declared.statements.CreateTable.{CreateTable}
use Rattle.rx_schema.specs.declared.faults.SchemaFault.{SchemaFault}
use Rattle.rx_schema.specs.declared.faults.SchemaFault.TheVariants.{NotInGrammar, NotInProfile, TooMany, Duplicate, UnknownColumn}
use Rattle.rx_ddl.specs.Create.{create_form}
use Rattle.rx_schema.specs.Columns.{declared_columns}
use Rattle.rx_schema.specs.Indexes.{declared_indexes}
use Rattle.rx_schema.specs.Limits.{too_many}
use Rattle.rx_schema.specs.Names.{first_duplicate, first_unknown}
use Rattle.rx_schema.specs.Outcomes.{Outcome}
use Rattle.rx_schema.specs.Profile.{first_misfit}

-- the table, its columns and its indexes
unfoldable pub declared : CreateTable → Schema
declared create = record {
  table = create.table;
  columns = declared_columns create.definitions;
  indexes = declared_indexes create.definitions;
}

-- a name that stands twice, else one that is no column
unfoldable pub name_refusal : List CreateDefinition → Option SchemaFault
name_refusal items =
    option_or (option_map (λ name. Duplicate name) (first_duplicate items))
    (option_map (λ name. UnknownColumn name) (first_unknown items))

-- why a statement declares no schema: a place outside the profile, else a limit, else a name
unfoldable pub refusal : CreateTable → Option SchemaFault
refusal create =
    option_or (option_map (λ which. NotInProfile which) (first_misfit create))
    (option_or (option_map (λ which. TooMany which) (too_many create.definitions)) (name_refusal create.definitions))

-- an outcome, where nothing is refused
abbrev pub unless_refused : Option SchemaFault → Schema → Outcome
unless_refused None schema = Ok schema
unless_refused (Some fault) schema = Err fault

-- The schema that a statement declares, or the first refusal.
unfoldable pub schema_of : CreateTable → Outcome
schema_of create = unless_refused (refusal create) (declared create)

-- the schema of a statement, where there is one
abbrev pub outcome_of : Option CreateTable → Outcome
outcome_of None = Err NotInGrammar
outcome_of (Some create) = schema_of create

-- The schema that a text declares, or the first refusal.
unfoldable pub read_of : List ℕ → Outcome
read_of text = outcome_of (create_form text)
