-- The grammar of SELECT and SET: which tokens spell each form, and what it stands for.
use Rattle.std.specs.Prelude.{◌≡◌, ℕ, ◌≤◌, Bool, true, false, List, [], ◌∷◌, map, codes, Option, Some, None}
use Rattle.rx_token.specs.declared.kinds.Token.{Token}
use Rattle.rx_token.specs.declared.signs.TheConstants.{OPEN, CLOSE, COMMA, STAR, EQUAL, PLUS, MINUS}
use Rattle.rx_reading.specs.Reading.{number_in}
use Rattle.rx_reading.specs.Forms.{Form, One, NoToken, ◌>>◌, Word, AnyWord, Number, Sign, Name, Text, Listed, values, SpellsListed, SpellsEnclosed, SpellsEach, DirectionForm, SpellsDirection, is_descending, IndexWord, SpellsIndexWord}
use Rattle.rx_cond.specs.declared.conds.Tri.TheVariants.{T}
use Rattle.rx_where.specs.Grammar.{Cond, SpellsCond, cond_depth, cond_trees}
use Rattle.rx_where.specs.Raw.{RawTree, truth, disj_of}
use Rattle.rx_script.specs.declared.statements.Aggregate.{Aggregate}
use Rattle.rx_script.specs.declared.statements.Aggregate.TheVariants.{Count, Sum, Min, Max}
use Rattle.rx_script.specs.declared.statements.RawItem.{RawItem}
use Rattle.rx_script.specs.declared.statements.RawItem.TheVariants as item
use Rattle.rx_script.specs.declared.statements.RawItems.{RawItems}
use Rattle.rx_script.specs.declared.statements.RawItems.TheVariants as items
use Rattle.rx_script.specs.declared.statements.HintKind.TheVariants.{Use, Ignore}
use Rattle.rx_script.specs.declared.statements.RawHint.{RawHint}
use Rattle.rx_script.specs.declared.statements.RawBy.{RawBy}
use Rattle.rx_script.specs.declared.statements.RawBy.TheVariants as by
use Rattle.rx_script.specs.declared.statements.RawOrder.{RawOrder}
use Rattle.rx_script.specs.declared.statements.RawValue.{RawValue}
use Rattle.rx_script.specs.declared.statements.RawValue.TheVariants as value
use Rattle.rx_script.specs.declared.statements.RawSetting.{RawSetting}
use Rattle.rx_script.specs.Statements.{WrittenSelect, Written, select, change}

-- a name as it is written
abbrev pub itself : List ℕ → List ℕ
itself name = name

-- name {"," name}
abbrev pub SpellsNames : Listed (List ℕ) → Form
SpellsNames names = SpellsListed (Sign COMMA) Name names

-- the names in order
abbrev pub name_list : Listed (List ℕ) → List (List ℕ)
name_list names = values itself names

-- [word item]
abbrev pub SpellsOptional : {D : Type 0} → List ℕ → (D → Form) → Option D → Form
SpellsOptional word item None = NoToken
SpellsOptional word item (Some d) = Word word >> item d

-- what an item stands for, and something else where there is none
abbrev pub optional_value : {D A : Type 0} → A → (D → A) → Option D → A
optional_value absent value None = absent
optional_value absent value (Some d) = value d

-- what stands between the parentheses of COUNT: "*" | name | DISTINCT name {"," name}
pub data CountForm : Type 0 where
  rows : CountForm
  of_column : List ℕ → CountForm
  different : Listed (List ℕ) → CountForm

-- the tokens between the parentheses of COUNT
abbrev pub SpellsCount : CountForm → Form
SpellsCount rows = Sign STAR
SpellsCount (of_column name) = Name name
SpellsCount (different names) = Word (codes "DISTINCT") >> SpellsNames names

-- the item of a COUNT
abbrev pub count_item : CountForm → RawItem
count_item rows = item.CountRows
count_item (of_column name) = item.Of Count name
count_item (different names) = item.CountDistinct (name_list names)

-- SUM|MIN|MAX
pub data FoldWord : Type 0 where
  sum : FoldWord
  min : FoldWord
  max : FoldWord

-- its word
abbrev pub fold_word : FoldWord → List ℕ
fold_word sum = codes "SUM"
fold_word min = codes "MIN"
fold_word max = codes "MAX"

-- its aggregate
abbrev pub fold_aggregate : FoldWord → Aggregate
fold_aggregate sum = Sum
fold_aggregate min = Min
fold_aggregate max = Max

-- item := name | COUNT "(" "*" ")" | COUNT "(" DISTINCT name {"," name} ")" | (COUNT|SUM|MIN|MAX) "(" name ")"
pub data ItemForm : Type 0 where
  column : List ℕ → ItemForm
  counted : CountForm → ItemForm
  folded : FoldWord → List ℕ → ItemForm

-- a word, and a form between parentheses
abbrev pub Called : List ℕ → Form → Form
Called word form = Word word >> Sign OPEN >> form >> Sign CLOSE

-- the tokens of an item
abbrev pub SpellsItem : ItemForm → Form
SpellsItem (column name) = Name name
SpellsItem (counted c) = Called (codes "COUNT") (SpellsCount c)
SpellsItem (folded f name) = Called (fold_word f) (Name name)

-- the item that it is
abbrev pub item_value : ItemForm → RawItem
item_value (column name) = item.Column name
item_value (counted c) = count_item c
item_value (folded f name) = item.Of (fold_aggregate f) name

-- "*" | item {"," item}
pub data ItemsForm : Type 0 where
  every : ItemsForm
  listed : Listed ItemForm → ItemsForm

-- the tokens of a select list
abbrev pub SpellsItems : ItemsForm → Form
SpellsItems every = Sign STAR
SpellsItems (listed list) = SpellsListed (Sign COMMA) SpellsItem list

-- the select list that it is
abbrev pub items_value : ItemsForm → RawItems
items_value every = items.Every
items_value (listed list) = items.Listed (values item_value list)

-- [DISTINCT|ALL]
pub data QuantityForm : Type 0 where
  unsaid : QuantityForm
  all : QuantityForm
  distinct : QuantityForm

-- the tokens of DISTINCT and ALL
abbrev pub SpellsQuantity : QuantityForm → Form
SpellsQuantity unsaid = NoToken
SpellsQuantity all = Word (codes "ALL")
SpellsQuantity distinct = Word (codes "DISTINCT")

-- whether DISTINCT stands
abbrev pub is_distinct : QuantityForm → Bool
is_distinct unsaid = false
is_distinct all = false
is_distinct distinct = true

-- hint := USE (INDEX|KEY) "(" [name {"," name}] ")" | IGNORE (INDEX|KEY) "(" name {"," name} ")"
pub data HintForm : Type 0 where
  use_none : IndexWord → HintForm
  use_some : IndexWord → Listed (List ℕ) → HintForm
  ignore : IndexWord → Listed (List ℕ) → HintForm

-- the tokens of a hint
abbrev pub SpellsHint : HintForm → Form
SpellsHint (use_none word) = Word (codes "USE") >> SpellsIndexWord word >> Sign OPEN >> Sign CLOSE
SpellsHint (use_some word names) = Word (codes "USE") >> SpellsIndexWord word >> SpellsEnclosed Name names
SpellsHint (ignore word names) = Word (codes "IGNORE") >> SpellsIndexWord word >> SpellsEnclosed Name names

-- the hint that it is
abbrev pub hint_value : HintForm → RawHint
hint_value (use_none word) = record { kind = Use; indexes = [] }
hint_value (use_some word names) = record { kind = Use; indexes = name_list names }
hint_value (ignore word names) = record { kind = Ignore; indexes = name_list names }

-- a condition that is nested 64 deep at most
abbrev pub SpellsWhere : Cond → Form
SpellsWhere c = λ ts rest. (cond_depth c ≤ 64) × SpellsCond c ts rest

-- its tree
abbrev pub where_value : Cond → RawTree
where_value c = disj_of (cond_trees c)

-- BY name {"," name}
abbrev pub SpellsGroup : Listed (List ℕ) → Form
SpellsGroup names = Word (codes "BY") >> SpellsNames names

-- name | number, with the digits of the number
pub data ByForm : Type 0 where
  by_column : List ℕ → ByForm
  by_place : ℕ → List ℕ → ByForm

-- the tokens of a column or a place
abbrev pub SpellsBy : ByForm → Form
SpellsBy (by_column name) = Name name
SpellsBy (by_place n digits) = One (λ t. (number_in t.kind ≡ Some n) × (t.text ≡ digits))

-- what it orders by
abbrev pub by_value : ByForm → RawBy
by_value (by_column name) = by.Column name
by_value (by_place n digits) = by.Place n digits

-- order := (name | number) [ASC|DESC]
pub record OrderForm : Type 0 where
  pub by : ByForm
  pub direction : DirectionForm

-- the tokens of a part of ORDER BY
abbrev pub SpellsOrderPart : OrderForm → Form
SpellsOrderPart o = SpellsBy o.by >> SpellsDirection o.direction

-- the part that it is
abbrev pub order_value : OrderForm → RawOrder
order_value o = record { by = by_value o.by; falling = is_descending o.direction }

-- BY order {"," order}
abbrev pub SpellsOrder : Listed OrderForm → Form
SpellsOrder parts = Word (codes "BY") >> SpellsListed (Sign COMMA) SpellsOrderPart parts

-- [WHERE cond] [GROUP BY name {"," name}] [ORDER BY order {"," order}]
pub record ClausesForm : Type 0 where
  pub where_is : Option Cond
  pub group : Option (Listed (List ℕ))
  pub order : Option (Listed OrderForm)

-- the tokens of these clauses
abbrev pub SpellsClauses : ClausesForm → Form
SpellsClauses c =
    SpellsOptional (codes "WHERE") SpellsWhere c.where_is >> SpellsOptional (codes "GROUP") SpellsGroup c.group
    >> SpellsOptional (codes "ORDER") SpellsOrder c.order

-- select := SELECT [DISTINCT|ALL] ("*" | item {"," item}) FROM name {hint} [WHERE cond]
--        [GROUP BY name {"," name}] [ORDER BY order {"," order}]
pub record SelectForm : Type 0 where
  pub quantity : QuantityForm
  pub list : ItemsForm
  pub table : List ℕ
  pub hints : List HintForm
  pub clauses : ClausesForm

-- SELECT [DISTINCT|ALL] ("*" | item {"," item})
abbrev pub SpellsHead : QuantityForm → ItemsForm → Form
SpellsHead quantity list = Word (codes "SELECT") >> SpellsQuantity quantity >> SpellsItems list

-- FROM name {hint}
abbrev pub SpellsSource : List ℕ → List HintForm → Form
SpellsSource table hints = Word (codes "FROM") >> Name table >> SpellsEach SpellsHint hints

-- the tokens of a SELECT
abbrev pub SpellsSelect : SelectForm → Form
SpellsSelect s = SpellsHead s.quantity s.list >> SpellsSource s.table s.hints >> SpellsClauses s.clauses

-- the SELECT that it is; without WHERE the condition is TRUE
abbrev pub select_value : SelectForm → WrittenSelect
select_value s = record {
  distinct = is_distinct s.quantity;
  items = items_value s.list;
  table = s.table;
  hints = map hint_value s.hints;
  cond = optional_value (truth T) where_value s.clauses.where_is;
  group = optional_value [] name_list s.clauses.group;
  order = optional_value [] (values order_value) s.clauses.order;
}

-- value := ["+"|"-"] number | string | DEFAULT
pub data ValueForm : Type 0 where
  number : ℕ → ValueForm
  plus : ℕ → ValueForm
  minus : ℕ → ValueForm
  string : List ℕ → ValueForm
  default_value : ValueForm

-- the tokens of a value
abbrev pub SpellsValue : ValueForm → Form
SpellsValue (number n) = Number n
SpellsValue (plus n) = Sign PLUS >> Number n
SpellsValue (minus n) = Sign MINUS >> Number n
SpellsValue (string text) = Text text
SpellsValue default_value = Word (codes "DEFAULT")

-- the value that it is
abbrev pub value_value : ValueForm → RawValue
value_value (number n) = value.Number false n
value_value (plus n) = value.Number false n
value_value (minus n) = value.Number true n
value_value (string text) = value.Text text
value_value default_value = value.Default

-- [SESSION]
pub data ScopeForm : Type 0 where
  no_scope : ScopeForm
  session : ScopeForm

-- the tokens of SESSION
abbrev pub SpellsScope : ScopeForm → Form
SpellsScope no_scope = NoToken
SpellsScope session = Word (codes "SESSION")

-- [SESSION] word "=" value
pub record SettingForm : Type 0 where
  pub scope : ScopeForm
  pub name : List ℕ
  pub value : ValueForm

-- the tokens of a setting
abbrev pub SpellsSetting : SettingForm → Form
SpellsSetting s = SpellsScope s.scope >> AnyWord s.name >> Sign EQUAL >> SpellsValue s.value

-- the setting that it is
abbrev pub setting_value : SettingForm → RawSetting
setting_value s = record { name = s.name; value = value_value s.value }

-- SET setting {"," setting}
abbrev pub SpellsSet : Listed SettingForm → Form
SpellsSet list = Word (codes "SET") >> SpellsListed (Sign COMMA) SpellsSetting list

-- The tokens are all of a SELECT or of a SET, which stands for this.
abbrev pub IsStatement : List Token → Written → Type 0
IsStatement ts (select w) = (s : SelectForm) × SpellsSelect s ts [] × (select_value s ≡ w)
IsStatement ts (change settings) = (list : Listed SettingForm) × SpellsSet list ts [] × (values setting_value list ≡ settings)

-- what is read is a statement that the tokens are, and none is read where they are none
abbrev pub Judges : List Token → Option Written → Type 0
Judges ts (Some w) = IsStatement ts w
Judges ts None = (w : Written) → IsStatement ts w → ⊥
