-- The members of the object of records per key in a text of JSON.
use Rattle.std.specs.Prelude.{ℕ, List, [], ◌∷◌, Option, Some, None, option_map, option_and_then, codes, bytes_eq, if◌then◌else◌}
use Rattle.std.specs.Str.{is_utf8}
use Rattle.serde_json.specs.Data.{Data, Items, no_items, item, Members, no_members, member}
use Rattle.serde_json.specs.Find.{as_object}
use Rattle.serde_json.specs.Read.{read}

-- a member of an object: its name and its value
abbrev pub Member : Type 0
Member = List ℕ × Data

-- the members of an object; a read one has each name once, in the order of their bytes
abbrev pub listed : Members → List Member
listed no_members = []
listed (member name value members) = (name, value) ∷ listed members

-- the items of an array
abbrev pub listed_items : Items → List Data
listed_items no_items = []
listed_items (item value items) = value ∷ listed_items items

-- what a text says in JSON, where it is UTF-8 and JSON
abbrev pub json_of : List ℕ → Option Data
json_of text = if is_utf8 text then read text else None

-- the value of the one member that there is, where it has this name
abbrev pub only_value : List ℕ → List Member → Option Data
only_value name (m ∷ []) = if bytes_eq m.0 name then Some m.1 else None
only_value name _ = None

-- the value in an object of one member, `records_per_key`
abbrev pub only_record : Data → Option Data
only_record value = option_and_then (only_value (codes "records_per_key")) (option_map listed (as_object value))

-- the members of the object that is this value
abbrev pub records_in : Data → Option (List Member)
records_in value = option_map listed (option_and_then as_object (only_record value))

-- the members of the records per key in a text
abbrev pub records_of : List ℕ → Option (List Member)
records_of text = option_and_then records_in (json_of text)
