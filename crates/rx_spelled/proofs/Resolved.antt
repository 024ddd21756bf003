-- With numbers in place of names a condition compares the same texts.
use Rattle.std.proofs.Common.{List}
use Rattle.rx_value.specs.declared.shapes.Column.{Column as TheColumn}
use Rattle.rx_where.specs.declared.raw.RawOperand.{RawOperand}
use Rattle.rx_where.specs.declared.raw.RawOperand.TheVariants.{Column, Constant}
use Rattle.rx_where.specs.Raw.{RawTree, RawTrees, truth, compare, member, row_member, is_null, like, neg, conj, disj, none, more}
use Rattle.rx_where.specs.Resolution.{resolved_operand, resolved, resolved_all}
use Rattle.rx_regions.specs.Texts.{IsUtf8Operand, ComparesUtf8, AllCompareUtf8}
use Rattle.rx_spelled.specs.Utf8.{IsUtf8Side, RawComparesUtf8, AllRawCompareUtf8}

side_utf8 : (columns : List TheColumn) (o : RawOperand) → IsUtf8Side o → IsUtf8Operand (resolved_operand columns o)
side_utf8 columns (Column name) h = tt
side_utf8 columns (Constant value) h = h

mutual
  pub resolved_utf8 : (columns : List TheColumn) (tree : RawTree) → RawComparesUtf8 tree → ComparesUtf8 (resolved columns tree)
  resolved_utf8 columns (truth t) h = tt
  resolved_utf8 columns (compare op left right) h = (side_utf8 columns left h.0, side_utf8 columns right h.1)
  resolved_utf8 columns (member left list) h = tt
  resolved_utf8 columns (row_member names list) h = tt
  resolved_utf8 columns (is_null operand) h = tt
  resolved_utf8 columns (like name pattern) h = tt
  resolved_utf8 columns (neg t) h = resolved_utf8 columns t h
  resolved_utf8 columns (conj items) h = all_resolved_utf8 columns items h
  resolved_utf8 columns (disj items) h = all_resolved_utf8 columns items h

  all_resolved_utf8 : (columns : List TheColumn) (items : RawTrees) → AllRawCompareUtf8 items → AllCompareUtf8 (resolved_all columns items)
  all_resolved_utf8 columns none h = tt
  all_resolved_utf8 columns (more t ts) h = (resolved_utf8 columns t h.0, all_resolved_utf8 columns ts h.1)
