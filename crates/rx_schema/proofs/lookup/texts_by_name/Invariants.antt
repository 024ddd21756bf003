use Rattle.std.proofs.Common.{◌≡◌, ℕ, List, drop}
use Rattle.std.specs.Option.{option_or, option_map}
use Rattle.rx_schema.specs.Given.{columns_in}
use Rattle.rx_schema.specs.Profile.{column_named}
use Rattle.rx_schema.specs.Lookup.{texts_of, by_name}
use Rattle.rx_schema.proofs.lookup.texts_by_name.Given as goal

-- a name has what the columns so far say, else what those that are left say
abbrev pub invariant-loop-item : goal.invariant-loop-item
invariant-loop-item l =
    (name : List ℕ) → option_or (by_name l.texts name) (option_map texts_of (column_named (columns_in (drop l.item-index l.items)) name)) ≡ option_map texts_of (column_named (columns_in l.items) name)
