-- Disjunctions that are open and such as aren't, by examples: a table with a primary key and two indexes.
use Rattle.std.proofs.Common.{◌≡◌, ℕ, Bool, true, false, List, [], ◌∷◌, None, refl}
use Rattle.rx_value.specs.declared.shapes.ColType.TheVariants.{Whole as WholeType}
use Rattle.rx_value.specs.declared.shapes.Column.{Column}
use Rattle.rx_value.specs.declared.shapes.Index.{Index}
use Rattle.rx_value.specs.declared.shapes.Schema.{Schema}
use Rattle.rx_cond.specs.declared.conds.Tri.TheVariants.{T}
use Rattle.rx_cond.specs.Tree.{truth}
use Rattle.rx_query.specs.Steps.{Question}
use Rattle.rx_plan.specs.Known.{Ranged}
use Rattle.rx_merge_plan.specs.Disjuncts.{is_open, is_considered}

abbrev column : Column
column = record { name = []; kind = WholeType 32 true; nullable = false }

abbrev index : Bool → ℕ → Index
index primary n = record { name = []; primary = primary; unique = primary; parts = record { column = n; descending = false; chars = None } ∷ [] }

abbrev schema : Schema
schema = record { table = []; columns = column ∷ column ∷ column ∷ []; indexes = index true 0 ∷ index false 1 ∷ index false 2 ∷ [] }

-- a question whose hints leave these indexes
abbrev leaving : List Bool → Question
leaving usable = record { distinct = false; items = []; cond = truth T; group = []; order = []; usable = usable }

abbrev all_left : Question
all_left = leaving (true ∷ true ∷ true ∷ [])

abbrev on : ℕ → Ranged
on n = record { index = n; list = [] }

-- each disjunct narrows an index of its own
open_by_two : is_considered all_left schema ((on 1 ∷ []) ∷ (on 2 ∷ []) ∷ []) ≡ true
open_by_two = refl

-- both narrow the second index, so that its range scan answers
closed_by_one : is_open all_left schema ((on 1 ∷ []) ∷ (on 1 ∷ on 2 ∷ []) ∷ []) ≡ false
closed_by_one = refl

-- the same where a hint leaves that index out
open_by_hint : is_open (leaving (true ∷ false ∷ true ∷ [])) schema ((on 1 ∷ []) ∷ (on 1 ∷ on 2 ∷ []) ∷ []) ≡ true
open_by_hint = refl

-- a disjunct narrows none: it is open, and no union comes of it
open_by_none : is_open all_left schema ((on 1 ∷ []) ∷ [] ∷ []) ≡ true
open_by_none = refl
