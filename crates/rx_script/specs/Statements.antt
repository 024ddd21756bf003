-- Statements as they are written, as plain data.
use Rattle.std.specs.Prelude.{ℕ, Bool, List}
use Rattle.rx_where.specs.Raw.{RawTree, raw_tree_of}
use Rattle.rx_script.specs.declared.statements.RawItems.{RawItems}
use Rattle.rx_script.specs.declared.statements.RawHint.{RawHint}
use Rattle.rx_script.specs.declared.statements.RawOrder.{RawOrder}
use Rattle.rx_script.specs.declared.statements.RawSelect.{RawSelect}
use Rattle.rx_script.specs.declared.statements.RawSetting.{RawSetting}
use Rattle.rx_script.specs.declared.statements.RawStatement.{RawStatement}
use Rattle.rx_script.specs.declared.statements.RawStatement.TheVariants.{Query, Change}

-- a SELECT as it is written, with its condition as a tree
pub record WrittenSelect : Type 0 where
  pub distinct : Bool
  pub items : RawItems
  pub table : List ℕ
  pub hints : List RawHint
  pub cond : RawTree
  pub group : List (List ℕ)
  pub order : List RawOrder

-- a SELECT, or the settings of a SET
pub data Written : Type 0 where
  select : WrittenSelect → Written
  change : List RawSetting → Written

-- a SELECT with its condition as a tree
abbrev pub written_select : RawSelect → WrittenSelect
written_select s = record {
  distinct = s.distinct;
  items = s.items;
  table = s.table;
  hints = s.hints;
  cond = raw_tree_of s.cond;
  group = s.group;
  order = s.order;
}

-- a statement as plain data
abbrev pub written_of : RawStatement → Written
written_of (Query s) = select (written_select s)
written_of (Change settings) = change settings
