-- The question that a SELECT asks over a schema, or why there is none.
use Rattle.std.specs.Prelude.{◌≡◌, ℕ, ◌-◌, Bool, true, false, not, ◌&&◌, ◌||◌, List, [], ◌∷◌, length, map, codes, Option, Some, None, Result, Ok, Err, if◌then◌else◌}
use Rattle.std.specs.List.{list_any, range_with_len}
use Rattle.rx_value.specs.declared.shapes.Column.{Column as TheColumn}
use Rattle.rx_value.specs.declared.shapes.Index.{Index}
use Rattle.rx_value.specs.declared.shapes.Schema.{Schema}
use Rattle.rx_where.specs.declared.kinds.Kind.{Kind}
use Rattle.rx_where.specs.declared.kinds.Kind.TheVariants as kind
use Rattle.rx_where.specs.Kinds.{column_kind, mismatches}
use Rattle.rx_where.specs.Resolution.{number, resolved}
use Rattle.rx_script.specs.declared.statements.Aggregate.{Aggregate}
use Rattle.rx_script.specs.declared.statements.Aggregate.TheVariants as of
use Rattle.rx_script.specs.declared.statements.RawItem.{RawItem}
use Rattle.rx_script.specs.declared.statements.RawItem.TheVariants as raw
use Rattle.rx_script.specs.declared.statements.RawItems.{RawItems}
use Rattle.rx_script.specs.declared.statements.RawItems.TheVariants.{Every, Listed}
use Rattle.rx_script.specs.declared.statements.HintKind.{HintKind}
use Rattle.rx_script.specs.declared.statements.HintKind.TheVariants.{Use, Ignore}
use Rattle.rx_script.specs.declared.statements.RawHint.{RawHint}
use Rattle.rx_script.specs.declared.statements.RawBy.{RawBy}
use Rattle.rx_script.specs.declared.statements.RawBy.TheVariants as by
use Rattle.rx_script.specs.declared.statements.RawOrder.{RawOrder}
use Rattle.rx_script.specs.Statements.{WrittenSelect}
use Rattle.rx_query.specs.declared.statements.Item.{Item}
use Rattle.rx_query.specs.declared.statements.Item.TheVariants.{Column, CountRows, Count, CountDistinct, Sum, Min, Max}
use Rattle.rx_query.specs.declared.statements.By.{By}
use Rattle.rx_query.specs.declared.statements.By.TheVariants as is
use Rattle.rx_query.specs.declared.statements.Order.{Order}
use Rattle.rx_query.specs.declared.statements.Select.{Select}
use Rattle.rx_query.specs.Grouping.{grouped}
use Rattle.rx_query.specs.Steps.{Question}
use Rattle.rx_query.specs.Steps as steps
use Rattle.rx_statement.specs.declared.faults.What.{What}
use Rattle.rx_statement.specs.declared.faults.What.TheVariants.{UnknownName, TypeMismatch, NotGrouped}
use Rattle.rx_statement.specs.Names.{listed_items, is_index_named, unknown_name}

-- an aggregate of a column
abbrev pub aggregate_item : Aggregate → ℕ → Item
aggregate_item of.Count n = Count n
aggregate_item of.Sum n = Sum n
aggregate_item of.Min n = Min n
aggregate_item of.Max n = Max n

-- an item, with the number of its column for each name
abbrev pub item_of : List TheColumn → RawItem → Item
item_of columns (raw.Column name) = Column (number columns name)
item_of columns raw.CountRows = CountRows
item_of columns (raw.CountDistinct names) = CountDistinct (map (number columns) names)
item_of columns (raw.Of aggregate name) = aggregate_item aggregate (number columns name)

-- all columns in order
abbrev pub every_item : List TheColumn → List Item
every_item columns = map (λ n. Column n) (range_with_len 0 (length columns))

-- the items of a select list
abbrev pub items_of : List TheColumn → RawItems → List Item
items_of columns Every = every_item columns
items_of columns (Listed items) = map (item_of columns) items

-- a column, or the place in the select list counted from 0
abbrev pub by_of : List TheColumn → RawBy → By
by_of columns (by.Column name) = is.Column (number columns name)
by_of columns (by.Place n digits) = is.Place (n - 1)

-- a part of ORDER BY
abbrev pub order_of : List TheColumn → RawOrder → Order
order_of columns o = record { by = by_of columns o.by; falling = o.falling }

-- a hint of a kind
abbrev pub is_use : HintKind → Bool
is_use Use = true
is_use Ignore = false

-- a hint names an index
abbrev pub names_index : Index → RawHint → Bool
names_index index hint = list_any (λ name. is_index_named name index) hint.indexes

-- USE INDEX names an index
abbrev pub is_used : Index → RawHint → Bool
is_used index hint = is_use hint.kind && names_index index hint

-- IGNORE INDEX names an index
abbrev pub is_ignored : Index → RawHint → Bool
is_ignored index hint = not (is_use hint.kind) && names_index index hint

-- An index may be used where no USE INDEX stands or one names it, and no IGNORE INDEX names it.
abbrev pub is_usable : List RawHint → Index → Bool
is_usable hints index =
    (not (list_any (λ hint. is_use hint.kind) hints) || list_any (is_used index) hints)
    && not (list_any (is_ignored index) hints)

-- a column of texts
abbrev pub is_text : Option Kind → Bool
is_text (Some kind.Text) = true
is_text _ = false

-- SUM of a column of texts
abbrev pub sums_text : List TheColumn → RawItem → Bool
sums_text columns (raw.Of of.Sum name) = is_text (column_kind columns name)
sums_text columns _ = false

-- two sides of a test are of different kinds, LIKE stands on a column of integers, or SUM on one of texts
abbrev pub is_mismatched : List TheColumn → WrittenSelect → Bool
is_mismatched columns w = mismatches columns w.cond || list_any (sums_text columns) (listed_items w.items)

-- The question of a SELECT, with numbers in place of names.
abbrev pub question_of : Schema → WrittenSelect → Question
question_of schema w = record {
  distinct = w.distinct;
  items = items_of schema.columns w.items;
  cond = resolved schema.columns w.cond;
  group = map (number schema.columns) w.group;
  order = map (order_of schema.columns) w.order;
  usable = map (is_usable w.hints) schema.indexes;
}

-- a question, where its columns are grouped
abbrev pub if_grouped : Question → Result Question What
if_grouped q = if grouped q then Ok q else Err NotGrouped

-- a question, where no sides are mismatched
abbrev pub if_matched : Bool → Question → Result Question What
if_matched true q = Err TypeMismatch
if_matched false q = if_grouped q

-- a question, where no name is unknown
abbrev pub if_known : Option (List ℕ) → Bool → Question → Result Question What
if_known (Some name) mismatched q = Err (UnknownName name)
if_known None mismatched q = if_matched mismatched q

-- The question that a SELECT asks: else the first unknown name, else a mismatch, else a column that isn't grouped.
unfoldable pub asked : Schema → WrittenSelect → Result Question What
asked schema w = if_known (unknown_name schema w) (is_mismatched schema.columns w) (question_of schema w)

-- what comes of a SELECT is just this
abbrev pub AsksAs : Result Question What → Result Select What → Type 0
AsksAs said (Ok q) = said ≡ Ok (steps.question_of q)
AsksAs said (Err what) = said ≡ Err what
