-- The candidates of questions, by examples.
use Rattle.std.proofs.Common.{◌≡◌, ℕ, pos, Bool, true, false, List, [], ◌∷◌, map, length, Some, None, refl}
use Rattle.rx_value.specs.declared.values.Value.{Value}
use Rattle.rx_value.specs.declared.values.Value.TheVariants.{Null, Int}
use Rattle.rx_value.specs.declared.ranges.KeyRange.{KeyRange}
use Rattle.rx_value.specs.declared.shapes.ColType.TheVariants.{Whole as WholeType}
use Rattle.rx_value.specs.declared.shapes.Column.{Column}
use Rattle.rx_value.specs.declared.shapes.Part.{Part}
use Rattle.rx_value.specs.declared.shapes.Index.{Index}
use Rattle.rx_value.specs.declared.shapes.Schema.{Schema}
use Rattle.rx_cond.specs.declared.conds.Op.TheVariants.{Eq}
use Rattle.rx_cond.specs.declared.conds.Operand.TheVariants.{Column as Of, Constant}
use Rattle.rx_cond.specs.declared.conds.Tri.TheVariants.{T}
use Rattle.rx_cond.specs.Tree.{Tree, truth, compare}
use Rattle.rx_query.specs.declared.statements.Item.{Item}
use Rattle.rx_query.specs.declared.statements.Item.TheVariants.{Column as Item_column, CountRows}
use Rattle.rx_query.specs.declared.statements.By.TheVariants.{Column as By_column, Place}
use Rattle.rx_query.specs.Steps.{Question}
use Rattle.rx_query.specs.Settings.{default_settings}
use Rattle.rx_ranges.specs.Answers.{no_parts, whole, ranges}
use Rattle.rx_cost.specs.declared.candidates.Reason.TheVariants.{Ranges, Whole, NoParts, Hint}
use Rattle.rx_plan.specs.Naming.{columns_named, covers, is_index_only}
use Rattle.rx_plan.specs.Known.{items_limit, reason_of}
use Rattle.rx_plan.specs.Candidates.{range_scan}

-- ---- the limit of items

no_limit : items_limit 0 ≡ 1000000
no_limit = refl

by_default : items_limit 8388608 ≡ 36472
by_default = refl

much : items_limit 18446744073709551615 ≡ 1000000
much = refl

-- ---- tables and questions of integer columns

abbrev i : ℕ → Value
i n = Int (pos n)

abbrev column : Column
column = record { name = []; kind = WholeType 32 true; nullable = false }

abbrev part : ℕ → Part
part n = record { column = n; descending = false; chars = None }

abbrev index : Bool → List Part → Index
index primary parts = record { name = []; primary = primary; unique = primary; parts = parts }

abbrev schema : List Column → List Index → Schema
schema columns indexes = record { table = []; columns = columns; indexes = indexes }

abbrev at : List Value → KeyRange
at points = record { points = points; last = None }

abbrev asks : List Item → Tree → List Bool → Question
asks items cond usable = record { distinct = false; items = items; cond = cond; group = []; order = []; usable = usable }

abbrev equals : ℕ → ℕ → Tree
equals n value = compare Eq (Of n) (Constant (i value))

-- ---- a primary key, and an index: costs of range scans, which columns are named, what covers

abbrev keyed : Schema
keyed = schema (column ∷ column ∷ column ∷ column ∷ []) (index true (part 0 ∷ []) ∷ index false (part 1 ∷ []) ∷ [])

abbrev third : Question
third = asks (Item_column 3 ∷ []) (equals 1 53) (true ∷ true ∷ [])

on_primary : (range_scan default_settings third keyed (record { index = 0; list = at (i 1 ∷ []) ∷ [] }) 550).cost ≡ 1890
on_primary = refl

on_other : (range_scan default_settings third keyed (record { index = 1; list = at (i 1 ∷ []) ∷ [] }) 10).cost ≡ 250
on_other = refl

-- the primary key has all columns of the question, and yet no covering scan
abbrev by_key : Question
by_key = asks (Item_column 0 ∷ []) (truth T) (true ∷ true ∷ [])

primary_covers : covers by_key keyed 0 ≡ true
primary_covers = refl

primary_reads_rows : is_index_only by_key keyed 0 ≡ false
primary_reads_rows = refl

named : columns_named third keyed ≡ 1 ∷ 3 ∷ []
named = refl

-- COUNT(*) without a condition names no column, so that each index covers it
nothing_named : columns_named (asks (CountRows ∷ []) (truth T) []) keyed ≡ []
nothing_named = refl

all_cover : covers (asks (CountRows ∷ []) (truth T) []) keyed 1 ≡ true
all_cover = refl

-- GROUP BY and ORDER BY name columns, and a place of the select list names none of its own
ordered_and_grouped : columns_named (record {
  distinct = false;
  items = CountRows ∷ [];
  cond = truth T;
  group = 2 ∷ [];
  order = record { by = By_column 1; falling = false } ∷ record { by = Place 0; falling = false } ∷ [];
  usable = [];
}) keyed ≡ 1 ∷ 2 ∷ []
ordered_and_grouped = refl

-- an index with a prefix length covers nothing
prefixed : covers (asks (Item_column 0 ∷ []) (truth T) (true ∷ [])) (schema (column ∷ []) (index false (record { column = 0; descending = false; chars = Some 2 } ∷ []) ∷ [])) 0 ≡ false
prefixed = refl

-- ---- reasons

reasons : map reason_of (record { index = 0; answer = None } ∷ record { index = 1; answer = Some no_parts } ∷ record { index = 2; answer = Some whole } ∷ record { index = 3; answer = Some (ranges 1 []) } ∷ [])
    ≡ Hint ∷ NoParts ∷ Whole ∷ Ranges ∷ []
reasons = refl
