-- What every SELECT keeps: the order, the ranges and the rows.
use Rattle.std.specs.Prelude.{◌≡◌, ℕ, List, ◌++◌, map, IsPermutation}
use Rattle.std.specs.List.Sorted.{IsSortedBy}
use Rattle.rx_value.specs.declared.values.Value.{Value}
use Rattle.rx_value.specs.declared.shapes.Schema.{Schema}
use Rattle.rx_cond.specs.Tree.{Tree}
use Rattle.rx_index.specs.declared.indexed.Indexed.{Indexed}
use Rattle.rx_store.specs.Tables.{Meaning}
use Rattle.rx_query.specs.Steps.{Question}
use Rattle.rx_query.specs.declared.settings.Settings.{Settings}
use Rattle.rx_order.specs.Order.{Output, is_before}
use Rattle.rx_rows.specs.Finish.{answered}
use Rattle.rx_rows.specs.Lines.{block_of}
use Rattle.rx_cost.specs.declared.candidates.Kind.TheVariants.{Range}
use Rattle.rx_cost.specs.declared.candidates.Candidate.{Candidate}
use Rattle.rx_plan.specs.Plan.{KeepsRows}
use Rattle.rx_engine.specs.Blocks.{block_over, trace_part}

-- the ranges of a range scan rise, are disjoint, and lose no row at which a condition is true
abbrev pub RangesKeepRows : Schema → Tree → Candidate → Type 0
RangesKeepRows schema cond candidate = candidate.kind ≡ Range → KeepsRows schema cond candidate

-- The block of a question has, before its trace, the rows of filtering and grouping the whole table as a bag, and these in the order that is asked for.
pub record IsBagBlock (settings : Settings) (number : ℕ) (q : Question) (table : Meaning) (t : Indexed) : Type 0 where
  pub outputs : List Output
  pub in_order : IsSortedBy (is_before q.order) outputs
  pub as_bag : IsPermutation (answered q t.rows) (map (λ o. o.0) outputs)
  pub block : block_over settings number q table t ≡ block_of (map (λ o. o.0) outputs) ++ trace_part settings number q table t
