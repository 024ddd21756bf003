-- What a scan may change in an answer, and what it would change where the laws' premises don't hold, by examples.
use Rattle.std.proofs.Common.{◌≡◌, ℕ, pos, Bool, true, false, List, [], ◌∷◌, Some, None, refl}
use Rattle.rx_value.specs.declared.values.Value.{Value}
use Rattle.rx_value.specs.declared.values.Value.TheVariants.{Int}
use Rattle.rx_value.specs.declared.shapes.ColType.TheVariants.{Whole}
use Rattle.rx_value.specs.declared.shapes.Schema.{Schema}
use Rattle.rx_cond.specs.declared.conds.Op.TheVariants.{Eq}
use Rattle.rx_cond.specs.declared.conds.Operand.TheVariants.{Column as Of, Constant}
use Rattle.rx_cond.specs.declared.conds.Tri.TheVariants.{T}
use Rattle.rx_cond.specs.Tree.{Tree, truth, compare}
use Rattle.rx_query.specs.declared.statements.Item.{Item}
use Rattle.rx_query.specs.declared.statements.Item.TheVariants.{Column, CountRows}
use Rattle.rx_query.specs.Grouping.{grouped}
use Rattle.rx_query.specs.Steps.{Question}
use Rattle.rx_index.specs.declared.indexed.Indexed.{Indexed}
use Rattle.rx_store.specs.Tables.{Meaning}
use Rattle.rx_cost.specs.declared.candidates.Candidate.{Candidate}
use Rattle.rx_rows.specs.Finish.{answered}
use Rattle.rx_plan.specs.Candidates.{index_scan, range_candidate}
use Rattle.rx_scan.specs.Visits.{visited}

-- an integer
abbrev i : ℕ → Value
i n = Int (pos n)

-- a question without GROUP BY
abbrev asks : List Item → Tree → Question
asks items cond = record { distinct = false; items = items; cond = cond; group = []; order = []; usable = true ∷ [] }

-- a table of one column with an index of it, primary or not
abbrev schema : Bool → Schema
schema primary = record {
  table = [];
  columns = record { name = []; kind = Whole 32 true; nullable = false } ∷ [];
  indexes = record { name = []; primary = primary; unique = true; parts = record { column = 0; descending = false; chars = None } ∷ [] } ∷ [];
}

-- its rows are 2 and 1, so that the entry of the second comes first
abbrev rows_of : Bool → Indexed
rows_of primary = record { schema = schema primary; rows = (i 2 ∷ []) ∷ (i 1 ∷ []) ∷ []; orders = (1 ∷ 0 ∷ []) ∷ []; different = (2 ∷ []) ∷ [] }

-- the table
abbrev table : Bool → Meaning
table primary = record { schema = schema primary; statistics = (1 ∷ []) ∷ []; told = Some (rows_of primary); count = 2; flawed = λ n. false; sure = true }

-- the covering scan
abbrev covering : Candidate
covering = index_scan 2 0

-- ---- the order of rows isn't kept: SELECT a

abbrev all : Question
all = asks (Column 0 ∷ []) (truth T)

all_over_rows : answered all (rows_of false).rows ≡ (i 2 ∷ []) ∷ (i 1 ∷ []) ∷ []
all_over_rows = refl

all_over_entries : answered all (visited covering (table false)) ≡ (i 1 ∷ []) ∷ (i 2 ∷ []) ∷ []
all_over_entries = refl

-- ---- a column stands for many rows at once: SELECT a, COUNT(*)

abbrev counted : Question
counted = asks (Column 0 ∷ CountRows ∷ []) (truth T)

not_grouped : grouped counted ≡ false
not_grouped = refl

counted_over_rows : answered counted (rows_of false).rows ≡ (i 2 ∷ i 2 ∷ []) ∷ []
counted_over_rows = refl

counted_over_entries : answered counted (visited covering (table false)) ≡ (i 1 ∷ i 2 ∷ []) ∷ []
counted_over_entries = refl

-- ---- rows that don't stand by the primary key: SELECT a .. WHERE a = 1, by the range of 1, whose place is taken for the id of a row

abbrev one : Question
one = asks (Column 0 ∷ []) (compare Eq (Of 0) (Constant (i 1)))

abbrev range_of_one : Candidate
range_of_one = range_candidate 0 (record { points = i 1 ∷ []; last = None } ∷ []) true 1 true false

one_over_rows : answered one (rows_of true).rows ≡ (i 1 ∷ []) ∷ []
one_over_rows = refl

one_over_range : answered one (visited range_of_one (table true)) ≡ []
one_over_range = refl
