-- The statistics that a text gives a table.
use Rattle.std.specs.Prelude.{◌≡◌, ◌≢◌, All, ℕ, Bool, false, not, ◌&&◌, ◌||◌, nat_le, ◌==◌, List, [], length, map, filter_map, find, zip, Option, Some, None, is_some, option_map, option_and_then, unwrap_or, ok_or, Ok, Err, codes, bytes_eq, if◌then◌else◌}
use Rattle.std.specs.List.{list_any, list_all}
use Rattle.std.specs.declared.cmp.Ordering.TheVariants.{Less}
use Rattle.std.specs.Ordering.{nat_cmp}
use Rattle.std.specs.Cmp.Lexicographic.{slice_cmp}
use Rattle.serde_json.specs.Data.{Data}
use Rattle.serde_json.specs.Find.{as_number, as_array, as_u64}
use Rattle.rx_value.specs.declared.shapes.Index.{Index}
use Rattle.rx_value.specs.declared.shapes.Schema.{Schema}
use Rattle.rx_stats.specs.Statistics.{most_per_key}
use Rattle.rx_stats_file.specs.declared.faults.StatsFault.{StatsFault}
use Rattle.rx_stats_file.specs.declared.faults.StatsFault.TheVariants.{BadStats, NoMemory}
use Rattle.rx_stats_file.specs.Outcomes.{Outcome, then_of}
use Rattle.rx_stats_file.specs.Members.{Member, listed_items, records_in, json_of, records_of}

-- a number from 1 to the most records per key
abbrev pub within_bounds : ℕ → Option ℕ
within_bounds n = if nat_le 1 n && nat_le n most_per_key then Some n else None

-- the number of records per key that a value is, where it is a whole number within the bounds
unfoldable pub number_of : Data → Option ℕ
number_of value = option_and_then within_bounds (option_and_then as_u64 (as_number value))

-- items of as many numbers as an index has parts
abbrev pub are_numbers_for : Index → List Data → Bool
are_numbers_for index items = (length items == length index.parts) && list_all (λ value. is_some (number_of value)) items

-- whether a value is a list of one number for each part of an index
abbrev pub is_list_for : Index → Data → Bool
is_list_for index value = unwrap_or (option_map (λ items. are_numbers_for index (listed_items items)) (as_array value)) false

-- the numbers of a list
abbrev pub numbers_of : Data → List ℕ
numbers_of value = unwrap_or (option_map (λ items. filter_map number_of (listed_items items)) (as_array value)) []

-- an index is spelled so, by the same bytes
abbrev pub is_named : List ℕ → Index → Bool
is_named name index = bytes_eq name index.name

-- a member has a list for an index, or another name
abbrev pub fits : Member → Index → Bool
fits m index = not (is_named m.0 index) || is_list_for index m.1

-- an index is spelled as the member's name, and each that is has its list there
abbrev pub is_good : List Index → Member → Bool
is_good indexes m = list_any (is_named m.0) indexes && list_all (fits m) indexes

-- the numbers of an index: those of the member of its name, or else its own
abbrev pub numbers_for : List Member → Index → List ℕ → List ℕ
numbers_for members index own = unwrap_or (option_map (λ m. numbers_of m.1) (find (λ m. is_named m.0 index) members)) own

-- the numbers of all indexes
abbrev pub replaced : List Index → List (List ℕ) → List Member → List (List ℕ)
replaced indexes base members = map (λ pair. numbers_for members pair.0 pair.1) (zip indexes base)

-- the name of the first member that isn't good, or these statistics where all are
abbrev pub unless_bad : Option Member → List (List ℕ) → Outcome (List (List ℕ))
unless_bad (Some m) statistics = Err m.0
unless_bad None statistics = Ok statistics

-- what members give the indexes in place of their own numbers
abbrev pub given : List Index → List (List ℕ) → List Member → Outcome (List (List ℕ))
given indexes base members = unless_bad (find (λ m. not (is_good indexes m)) members) (replaced indexes base members)

-- what a value gives a table; where it has no records per key, `records_per_key` is at fault
unfoldable pub stats_in : Schema → List (List ℕ) → Data → Outcome (List (List ℕ))
stats_in schema base value = then_of (ok_or (records_in value) (codes "records_per_key")) (given schema.indexes base)

-- The statistics that a text gives a table in place of those that it has, or the field at fault, which is `json` where the text isn't JSON.
unfoldable pub stats_of : Schema → List (List ℕ) → List ℕ → Outcome (List (List ℕ))
stats_of schema base text = then_of (ok_or (json_of text) (codes "json")) (stats_in schema base)

-- no member that isn't good has a name that comes before this one, by bytes
abbrev pub IsLeastBad : List Index → List Member → List ℕ → Type 0
IsLeastBad indexes members name = All (λ m. is_good indexes m ≡ false → slice_cmp nat_cmp m.0 name ≢ Less) members

-- where a text has records per key, the field at fault comes before every other name that is
abbrev pub TellsLeast : Schema → List ℕ → StatsFault → Type 0
TellsLeast schema text (BadStats field) = (members : List Member) → records_of text ≡ Some members → IsLeastBad schema.indexes members field
TellsLeast schema text NoMemory = Unit {0}
