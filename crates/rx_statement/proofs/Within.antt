-- The questions of a script name columns of the schema and places of their select lists.
use Rattle.std.proofs.Common.{◌≡◌, ℕ, zero, suc, ◌+◌, ◌-◌, ◌<◌, ◌≤◌, Bool, true, false, not, cond, List, [], ◌∷◌, ◌++◌, length, map, Option, Some, None, is_none, unwrap_or, refl, sym, ap, subst, ◌∙◌, arith}
use Rattle.std.specs.Prelude.{All, find, position, flat_map, filter_map, nat_lt, nat_le, Result, Ok, Err, IfOk}
use Rattle.std.specs.Option.{option_or, option_map}
use Rattle.std.specs.List.{AllByRecursion, range_with_len}
use Rattle.std.proofs.lemmas.Bool.{ltb-true, leb-true, and_parts}
use Rattle.std.proofs.lemmas.List.{map-append, length-map}
use Rattle.std.proofs.lemmas.List.FromFn.{length-map-range_with_len}
use Rattle.std.proofs.lemmas.List.Elements.{All-nil, All-cons}
use Rattle.std.proofs.lemmas.List.Quantifiers.{position-Some}
use Rattle.rx_value.specs.declared.shapes.Column.{Column as TheColumn}
use Rattle.rx_value.specs.declared.shapes.Schema.{Schema}
use Rattle.rx_cond.specs.Columns.{operand_columns, columns_of, columns_of_all}
use Rattle.rx_where.specs.declared.raw.RawOperand.{RawOperand}
use Rattle.rx_where.specs.declared.raw.RawOperand.TheVariants as side
use Rattle.rx_where.specs.Names.{operand_names, names_of, names_of_all, is_named, place_of, is_unknown, first_unknown}
use Rattle.rx_where.specs.Raw.{RawTree, RawTrees, truth, compare, member, row_member, is_null, like, neg, conj, disj, none, more}
use Rattle.rx_where.specs.Resolution.{number, resolved_operand, resolved, resolved_all}
use Rattle.rx_script.specs.declared.statements.Aggregate.{Aggregate}
use Rattle.rx_script.specs.declared.statements.Aggregate.TheVariants as of
use Rattle.rx_script.specs.declared.statements.RawItem.{RawItem}
use Rattle.rx_script.specs.declared.statements.RawItem.TheVariants as raw
use Rattle.rx_script.specs.declared.statements.RawItems.{RawItems}
use Rattle.rx_script.specs.declared.statements.RawItems.TheVariants.{Every, Listed}
use Rattle.rx_script.specs.declared.statements.RawBy.{RawBy}
use Rattle.rx_script.specs.declared.statements.RawBy.TheVariants as by
use Rattle.rx_script.specs.declared.statements.RawOrder.{RawOrder}
use Rattle.rx_script.specs.Statements.{WrittenSelect}
use Rattle.rx_query.specs.declared.statements.Item.{Item}
use Rattle.rx_query.specs.declared.statements.Item.TheVariants.{Column}
use Rattle.rx_query.specs.declared.statements.Order.{Order}
use Rattle.rx_query.specs.Grouping.{grouped}
use Rattle.rx_query.specs.Questions.{ByWithin, IsQuestion}
use Rattle.rx_query.specs.Steps.{Question, columns_of_item, columns_listed}
use Rattle.rx_statement.specs.declared.faults.What.{What}
use Rattle.rx_statement.specs.declared.faults.What.TheVariants.{NotGrouped}
use Rattle.rx_statement.specs.Outcomes.{first_given}
use Rattle.rx_statement.specs.Names.{names_of_item, listed_items, unknown_in_items, unknown_table, unknown_in_hints, count_of_items, is_place, unknown_by, unknown_in_order, unknown_before, unknown_behind, unknown_name}
use Rattle.rx_statement.specs.Asking.{item_of, every_item, items_of, by_of, order_of, is_usable, is_mismatched, question_of, if_grouped, if_matched, if_known, asked}

to_all : {A : Type 0} (P : A → Type 0) (xs : List A) → AllByRecursion P xs → All P xs
to_all P [] h = All-nil P
to_all P (x ∷ xs) h = All-cons P x xs h.0 (to_all P xs h.1)

both_within : {A : Type 0} (P : A → Type 0) (xs ys : List A) → AllByRecursion P xs → AllByRecursion P ys → AllByRecursion P (xs ++ ys)
both_within P [] ys h k = k
both_within P (x ∷ xs) ys h k = (h.0, both_within P xs ys h.1 k)

or_none : {B : Type 0} (o p : Option B) → option_or o p ≡ None → (o ≡ None) × (p ≡ None)
or_none None p e = (refl, e)
or_none (Some x) p e = absurd cc

position_within : {A : Type 0} (p : A → Bool) (xs : List A) (i : ℕ) → position p xs ≡ Some i → i < length xs
position_within p [] i e = absurd cc
position_within p (x ∷ xs) i e = (position-Some p (x ∷ xs) i x e).0

module _ (columns : List TheColumn) where
  abbrev IsNumber : ℕ → Type 0
  IsNumber n = n < length columns

  place_within : (name : List ℕ) (o : Option ℕ) → place_of columns name ≡ o → is_none o ≡ false → unwrap_or o 0 < length columns
  place_within name None is e = absurd cc
  place_within name (Some n) is e = position_within (is_named name) columns n is

  -- a name that is known has a number
  known : (name : List ℕ) → is_unknown columns name ≡ false → IsNumber (number columns name)
  known name e = place_within name (place_of columns name) refl e

  numbers_by : (name : List ℕ) (names : List (List ℕ)) → (first_unknown columns names ≡ None → AllByRecursion IsNumber (map (number columns) names)) → (b : Bool) → is_unknown columns name ≡ b → cond b (Some name) (first_unknown columns names) ≡ None → AllByRecursion IsNumber (map (number columns) (name ∷ names))
  numbers_by name names later true is e = absurd cc
  numbers_by name names later false is e = (known name is, later e)

  numbers_within : (names : List (List ℕ)) → first_unknown columns names ≡ None → AllByRecursion IsNumber (map (number columns) names)
  numbers_within [] e = tt
  numbers_within (name ∷ names) e = numbers_by name names (numbers_within names) (is_unknown columns name) refl e

  -- the columns of an item
  columns_named : (item : RawItem) → columns_of_item (item_of columns item) ≡ map (number columns) (names_of_item item)
  columns_named (raw.Column name) = refl
  columns_named raw.CountRows = refl
  columns_named (raw.CountDistinct names) = refl
  columns_named (raw.Of of.Count name) = refl
  columns_named (raw.Of of.Sum name) = refl
  columns_named (raw.Of of.Min name) = refl
  columns_named (raw.Of of.Max name) = refl

  items_within : (items : List RawItem) → unknown_in_items columns items ≡ None → AllByRecursion IsNumber (columns_listed (map (item_of columns) items))
  items_within [] e = tt
  items_within (item ∷ items) e =
      let (a, b) = or_none (first_unknown columns (names_of_item item)) (unknown_in_items columns items) e in
      both_within IsNumber (columns_of_item (item_of columns item)) (columns_listed (map (item_of columns) items)) (subst (AllByRecursion IsNumber) (sym (columns_named item)) (numbers_within (names_of_item item) a)) (items_within items b)

  every_within : (from count : ℕ) → from + count ≤ length columns → AllByRecursion IsNumber (columns_listed (map (λ n. Column n) (range_with_len from count)))
  every_within from zero le = tt
  every_within from (suc count) le = (omega arith, every_within (from + 1) count (omega arith))

  list_within : (items : RawItems) → unknown_in_items columns (listed_items items) ≡ None → AllByRecursion IsNumber (columns_listed (items_of columns items))
  list_within Every e = every_within 0 (length columns) (omega arith)
  list_within (Listed items) e = items_within items e

  -- the columns of a condition
  side_named : (o : RawOperand) → operand_columns (resolved_operand columns o) ≡ map (number columns) (operand_names o)
  side_named (side.Column name) = refl
  side_named (side.Constant v) = refl

  mutual
    cond_named : (t : RawTree) → columns_of (resolved columns t) ≡ map (number columns) (names_of t)
    cond_named (truth t) = refl
    cond_named (compare op left right) =
        ap (λ (cs : List ℕ). cs ++ operand_columns (resolved_operand columns right)) (side_named left)
        ∙ ap (λ (cs : List ℕ). map (number columns) (operand_names left) ++ cs) (side_named right)
        ∙ sym (map-append (number columns) (operand_names left) (operand_names right))
    cond_named (member left list) = side_named left
    cond_named (row_member names list) = refl
    cond_named (is_null operand) = side_named operand
    cond_named (like name pattern) = refl
    cond_named (neg t) = cond_named t
    cond_named (conj items) = all_named items
    cond_named (disj items) = all_named items

    all_named : (ts : RawTrees) → columns_of_all (resolved_all columns ts) ≡ map (number columns) (names_of_all ts)
    all_named none = refl
    all_named (more t ts) =
        ap (λ (cs : List ℕ). cs ++ columns_of_all (resolved_all columns ts)) (cond_named t)
        ∙ ap (λ (cs : List ℕ). map (number columns) (names_of t) ++ cs) (all_named ts)
        ∙ sym (map-append (number columns) (names_of t) (names_of_all ts))

  -- ORDER BY
  items_counted : (items : RawItems) → length (items_of columns items) ≡ count_of_items columns items
  items_counted Every = length-map-range_with_len (λ (n : ℕ). Column n) 0 (length columns)
  items_counted (Listed items) = length-map items (item_of columns)

  place_by : (count n : ℕ) (digits : List ℕ) (b : Bool) → is_place count n ≡ b → cond b None (Some digits) ≡ None → n - 1 < count
  place_by count n digits true is e =
      let (some, enough) = and_parts (nat_lt 0 n) (nat_le n count) is in
      let a : 0 < n = ltb-true 0 n some in
      let b : n ≤ count = leb-true n count enough in
      omega arith
  place_by count n digits false is e = absurd cc

  by_within : (count : ℕ) (b : RawBy) → unknown_by columns count b ≡ None → ByWithin (length columns) count (by_of columns b)
  by_within count (by.Column name) e = (numbers_within (name ∷ []) e).0
  by_within count (by.Place n digits) e = place_by count n digits (is_place count n) refl e

  order_within : (count : ℕ) (order : List RawOrder) → unknown_in_order columns count order ≡ None → AllByRecursion (λ (o : Order). ByWithin (length columns) count o.by) (map (order_of columns) order)
  order_within count [] e = tt
  order_within count (o ∷ order) e =
      let (a, b) = or_none (unknown_by columns count o.by) (unknown_in_order columns count order) e in
      (by_within count o.by a, order_within count order b)

-- a question that is asked
abbrev Asks : Schema → WrittenSelect → Question → Type 0
Asks schema w q = (unknown_name schema w ≡ None) × (grouped q ≡ true) × (question_of schema w ≡ q)

abbrev answer : Question → Result Question What
answer q = Ok q

same_question : (x y : Question) → answer x ≡ answer y → x ≡ y
same_question x y e = cc

asks_by : (schema : Schema) (w : WrittenSelect) (q : Question) (o : Option (List ℕ)) (m b : Bool) → unknown_name schema w ≡ o → grouped (question_of schema w) ≡ b → if_known o m (question_of schema w) ≡ answer q → Asks schema w q
asks_by schema w q (Some name) m b unknown by_group e = absurd cc
asks_by schema w q None true b unknown by_group e = absurd cc
asks_by schema w q None false false unknown by_group e = let refused : Err NotGrouped ≡ answer q = rw by_group at e in absurd cc
asks_by schema w q None false true unknown by_group e =
    let same : question_of schema w ≡ q = same_question (question_of schema w) q (rw by_group at e) in
    (unknown, ap grouped (sym same) ∙ by_group, same)

pub is_question : (schema : Schema) (w : WrittenSelect) (q : Question) → asked schema w ≡ Ok q → IsQuestion schema q
unfolding asked unknown_name
is_question schema w q e =
    let (unknown, by_group, same) = asks_by schema w q (unknown_name schema w) (is_mismatched schema.columns w) (grouped (question_of schema w)) refl refl e in
    let (before, later) = or_none (unknown_before schema w.items w.table w.hints) (option_or (first_unknown schema.columns (names_of w.cond)) (unknown_behind schema w.items w.group w.order)) unknown in
    let (in_cond, behind) = or_none (first_unknown schema.columns (names_of w.cond)) (unknown_behind schema w.items w.group w.order) later in
    let (in_items, in_source) = or_none (unknown_in_items schema.columns (listed_items w.items)) (option_or (unknown_table schema w.table) (unknown_in_hints schema.indexes w.hints)) before in
    let (in_group, in_order) = or_none (first_unknown schema.columns w.group) (unknown_in_order schema.columns (count_of_items schema.columns w.items) w.order) behind in
    subst (IsQuestion schema) same (record {
      items = to_all (IsNumber schema.columns) _ (list_within schema.columns w.items in_items);
      cond = to_all (IsNumber schema.columns) _ (subst (AllByRecursion (IsNumber schema.columns)) (sym (cond_named schema.columns w.cond)) (numbers_within schema.columns (names_of w.cond) in_cond));
      group = to_all (IsNumber schema.columns) _ (numbers_within schema.columns w.group in_group);
      order = to_all _ _ (subst (λ (count : ℕ). AllByRecursion (λ (o : Order). ByWithin (length schema.columns) count o.by) (map (order_of schema.columns) w.order)) (sym (items_counted schema.columns w.items)) (order_within schema.columns (count_of_items schema.columns w.items) w.order in_order));
      usable = length-map schema.indexes (is_usable w.hints);
      by_group = ap grouped same ∙ by_group;
    })
