-- A schema, or why there is none.
use Rattle.std.specs.Prelude.{◌≡◌, Result, Ok, Err}
use Rattle.rx_value.specs.declared.shapes.Schema.{Schema}
use Rattle.rx_schema.specs.declared.faults.SchemaFault.{SchemaFault}
use Rattle.rx_schema.specs.declared.faults.SchemaFault.TheVariants.{NoMemory}

-- a schema, or the refusal
abbrev pub Outcome : Type 0
Outcome = Result Schema SchemaFault

-- a result is just this outcome, or there was no memory
abbrev pub Answers : Outcome → Result Schema SchemaFault → Type 0
Answers said (Err NoMemory) = Unit {0}
Answers said (Err fault) = said ≡ Err fault
Answers said (Ok schema) = said ≡ Ok schema
