-- Names that stand twice, and names that are no column. Names are compared without ASCII case.
use Rattle.std.specs.Prelude.{ℕ, Bool, not, List, [], ◌∷◌, ◌++◌, Option, Some, None, map, codes, find, if◌then◌else◌}
use Rattle.std.specs.Option.{option_or}
use Rattle.std.specs.List.{list_any}
use Rattle.rx_value.specs.Names.{same_name}
use Rattle.rx_ddl.specs.declared.statements.KeyDefinition.{KeyDefinition}
use Rattle.rx_ddl.specs.declared.statements.CreateDefinition.{CreateDefinition}
use Rattle.rx_schema.specs.Given.{first_given, columns_in, keys_in}
use Rattle.rx_schema.specs.Limits.{is_primary}

-- the names of the columns in text order
abbrev pub column_names : List CreateDefinition → List (List ℕ)
column_names items = map (λ c. c.name) (columns_in items)

-- the columns that a key names
abbrev pub part_names : KeyDefinition → List (List ℕ)
part_names key = map (λ p. p.column) key.parts

-- the name of the primary key
abbrev pub primary_name : List ℕ
primary_name = codes "PRIMARY"

-- the name of a key's index: that of the primary key in one spelling alone, any other as it is written
unfoldable pub index_name : KeyDefinition → List ℕ
index_name key =
    if is_primary key then primary_name
    else (if same_name key.name primary_name then primary_name else key.name)

-- the keys but the first primary one
abbrev pub further_keys : List KeyDefinition → List KeyDefinition
further_keys [] = []
further_keys (key ∷ keys) = if is_primary key then keys else key ∷ further_keys keys

-- The names of the indexes: the primary key's, which is taken even where there is none, and those of the other keys
-- in text order.
abbrev pub index_names : List CreateDefinition → List (List ℕ)
index_names items = primary_name ∷ map index_name (further_keys (keys_in items))

-- a name is one of these
abbrev pub is_among : List (List ℕ) → List ℕ → Bool
is_among names name = list_any (λ other. same_name name other) names

-- the first of the names that an earlier one of them equals, or one of those before
abbrev pub repeated_after : List (List ℕ) → List (List ℕ) → Option (List ℕ)
repeated_after before [] = None
repeated_after before (name ∷ names) =
    if is_among before name then Some name else repeated_after (before ++ name ∷ []) names

-- the first name that an earlier one equals
abbrev pub first_repeated : List (List ℕ) → Option (List ℕ)
first_repeated names = repeated_after [] names

-- The first name that stands twice among the columns, else among the indexes, else within one key.
unfoldable pub first_duplicate : List CreateDefinition → Option (List ℕ)
first_duplicate items =
    option_or (first_repeated (column_names items))
    (option_or (first_repeated (index_names items)) (first_given (λ key. first_repeated (part_names key)) (keys_in items)))

-- a name is none of these
abbrev pub is_missing : List (List ℕ) → List ℕ → Bool
is_missing names name = not (is_among names name)

-- the first column of a key that is no column of the table
unfoldable pub first_unknown : List CreateDefinition → Option (List ℕ)
first_unknown items = first_given (λ key. find (is_missing (column_names items)) (part_names key)) (keys_in items)
