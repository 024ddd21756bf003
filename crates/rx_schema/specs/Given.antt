-- What items of a list give, and which items a list of columns and keys has.
use Rattle.std.specs.Prelude.{List, [], ◌∷◌, Option, Some, None, filter_map}
use Rattle.std.specs.Option.{option_or}
use Rattle.rx_ddl.specs.declared.statements.ColumnDefinition.{ColumnDefinition}
use Rattle.rx_ddl.specs.declared.statements.KeyDefinition.{KeyDefinition}
use Rattle.rx_ddl.specs.declared.statements.CreateDefinition.{CreateDefinition}
use Rattle.rx_ddl.specs.declared.statements.CreateDefinition.TheVariants.{Column, Key}

-- what the first item gives that gives something
abbrev pub first_given : {A B : Type 0} → (A → Option B) → List A → Option B
first_given f [] = None
first_given f (x ∷ xs) = option_or (f x) (first_given f xs)

-- what the last item gives that gives something
abbrev pub last_given : {A B : Type 0} → (A → Option B) → List A → Option B
last_given f [] = None
last_given f (x ∷ xs) = option_or (last_given f xs) (f x)

-- the column that an item is
abbrev pub as_column : CreateDefinition → Option ColumnDefinition
as_column (Column c) = Some c
as_column (Key k) = None

-- the key that an item is
abbrev pub as_key : CreateDefinition → Option KeyDefinition
as_key (Column c) = None
as_key (Key k) = Some k

-- the columns in text order
abbrev pub columns_in : List CreateDefinition → List ColumnDefinition
columns_in items = filter_map as_column items

-- the keys in text order
abbrev pub keys_in : List CreateDefinition → List KeyDefinition
keys_in items = filter_map as_key items
