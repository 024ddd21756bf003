-- The candidates of questions, by examples.
use Rattle.std.proofs.Common.{◌≡◌, ℕ, pos, Bool, true, false, List, [], ◌∷◌, map, length, Some, None, refl}
use Rattle.rx_value.specs.declared.values.Value.{Value}
use Rattle.rx_value.specs.declared.values.Value.TheVariants.{Null, Int}
use Rattle.rx_value.specs.declared.ranges.KeyRange.{KeyRange}
use Rattle.rx_value.specs.declared.shapes.ColType.TheVariants.{Whole as WholeType}
use Rattle.rx_value.specs.declared.shapes.Column.{Column}
use Rattle.rx_value.specs.declared.shapes.Part.{Part}
use Rattle.rx_value.specs.declared.shapes.Index.{Index}
use Rattle.rx_value.specs.declared.shapes.Schema.{Schema}
use Rattle.rx_cond.specs.declared.conds.Op.TheVariants.{Eq}
use Rattle.rx_cond.specs.declared.conds.Operand.TheVariants.{Column as Of, Constant}
use Rattle.rx_cond.specs.declared.conds.Tri.TheVariants.{T}
use Rattle.rx_cond.specs.Tree.{Tree, truth, compare}
use Rattle.rx_query.specs.declared.statements.Item.{Item}
use Rattle.rx_query.specs.declared.statements.Item.TheVariants.{Column as Item_column, CountRows}
use Rattle.rx_query.specs.declared.statements.By.TheVariants.{Column as By_column, Place}
use Rattle.rx_query.specs.Steps.{Question}
use Rattle.rx_query.specs.Settings.{default_settings}
use Rattle.rx_index.specs.declared.indexed.Indexed.{Indexed}
use Rattle.rx_store.specs.Tables.{Meaning}
use Rattle.rx_ranges.specs.Answers.{no_parts, whole, ranges}
use Rattle.rx_cost.specs.declared.candidates.Kind.{Kind}
use Rattle.rx_cost.specs.declared.candidates.Kind.TheVariants.{Table, Index as Index_kind, Range}
use Rattle.rx_cost.specs.declared.candidates.Candidate.{Candidate}
use Rattle.rx_cost.specs.Choice.{chosen_place}
use Rattle.rx_plan.specs.Known.{Known, seeks_known}
use Rattle.rx_candidates.specs.Candidates.{candidates}

-- ---- tables and questions of integer columns

abbrev i : ℕ → Value
i n = Int (pos n)

abbrev column : Column
column = record { name = []; kind = WholeType 32 true; nullable = false }

abbrev part : ℕ → Part
part n = record { column = n; descending = false; chars = None }

abbrev index : Bool → List Part → Index
index primary parts = record { name = []; primary = primary; unique = primary; parts = parts }

abbrev schema : List Column → List Index → Schema
schema columns indexes = record { table = []; columns = columns; indexes = indexes }

abbrev at : List Value → KeyRange
at points = record { points = points; last = None }

abbrev asks : List Item → Tree → List Bool → Question
asks items cond usable = record { distinct = false; items = items; cond = cond; group = []; order = []; usable = usable }

abbrev equals : ℕ → ℕ → Tree
equals n value = compare Eq (Of n) (Constant (i value))

abbrev meaning : Schema → List (List ℕ) → Indexed → Meaning
meaning s statistics t = record { schema = s; statistics = statistics; told = Some t; count = length t.rows; flawed = λ n. false; sure = true }

-- kind, cost and rows of a candidate
abbrev line_of : Candidate → Kind × ℕ × ℕ
line_of candidate = (candidate.kind, candidate.cost, candidate.rows)

-- ---- seven rows, and an index of all three columns: key_part1 = 1

abbrev three : Schema
three = schema (column ∷ column ∷ column ∷ []) (index false (part 0 ∷ part 1 ∷ part 2 ∷ []) ∷ [])

abbrev seven : Indexed
seven = record {
  schema = three;
  rows = (Null ∷ i 1 ∷ i 1 ∷ []) ∷ (Null ∷ i 1 ∷ i 2 ∷ []) ∷ (Null ∷ i 2 ∷ i 3 ∷ []) ∷ (i 1 ∷ i 1 ∷ i 1 ∷ []) ∷ (i 1 ∷ i 1 ∷ i 2 ∷ []) ∷ (i 1 ∷ i 2 ∷ i 1 ∷ []) ∷ (i 2 ∷ i 1 ∷ i 1 ∷ []) ∷ [];
  orders = (0 ∷ 1 ∷ 2 ∷ 3 ∷ 4 ∷ 5 ∷ 6 ∷ []) ∷ [];
  different = (3 ∷ 5 ∷ 7 ∷ []) ∷ [];
}

abbrev all_three : List Item
all_three = Item_column 0 ∷ Item_column 1 ∷ Item_column 2 ∷ []

abbrev first_is_one : List Known
first_is_one = record { index = 0; answer = Some (ranges 3 (at (i 1 ∷ []) ∷ [])) } ∷ []

three_candidates : map line_of (candidates default_settings (asks all_three (equals 0 1) (true ∷ [])) (meaning three ((2 ∷ 1 ∷ 1 ∷ []) ∷ []) seven) seven first_is_one)
    ≡ (Table, 34, 7) ∷ (Index_kind, 34, 7) ∷ (Range, 29, 3) ∷ []
three_candidates = refl

third_is_chosen : chosen_place (candidates default_settings (asks all_three (equals 0 1) (true ∷ [])) (meaning three ((2 ∷ 1 ∷ 1 ∷ []) ∷ []) seven) seven first_is_one) ≡ 2
third_is_chosen = refl

one_dive : seeks_known default_settings first_is_one ≡ 2
one_dive = refl

-- a hint leaves the index out
hinted : map line_of (candidates default_settings (asks all_three (equals 0 1) (false ∷ [])) (meaning three ((2 ∷ 1 ∷ 1 ∷ []) ∷ []) seven) seven (record { index = 0; answer = None } ∷ []))
    ≡ (Table, 34, 7) ∷ []
hinted = refl

-- ---- no rows, and an index of the column that isn't asked for: the table scan is chosen on the tie

abbrev pair : Schema
pair = schema (column ∷ column ∷ []) (index false (part 0 ∷ []) ∷ [])

abbrev empty : Indexed
empty = record { schema = pair; rows = []; orders = [] ∷ []; different = (0 ∷ []) ∷ [] }

tie : map line_of (candidates default_settings (asks (Item_column 1 ∷ []) (equals 0 1) (true ∷ [])) (meaning pair ((1 ∷ []) ∷ []) empty) empty first_is_one)
    ≡ (Table, 20, 0) ∷ (Range, 20, 0) ∷ []
tie = refl

table_on_the_tie : chosen_place (candidates default_settings (asks (Item_column 1 ∷ []) (equals 0 1) (true ∷ [])) (meaning pair ((1 ∷ []) ∷ []) empty) empty first_is_one) ≡ 0
table_on_the_tie = refl
