use Rattle.std.proofs.Common.{◌+◌, rules, subst, sym, ◌∙◌}
use Rattle.std.specs.Option.{IfSome}
use Rattle.rx_aggregate.proofs.Bounds.{Near, fits, below_most, small_integer, near_summed}
use Rattle.rx_aggregate.proofs.More.{sum_at}
use Rattle.rx_aggregate.proofs.sums.sum.Goals as goal

pub summed-total-requires : goal.summed-total-requires
summed-total-requires c t e n f =
    fits c.loop-row.row-index t n
    (below_most c.args.rows.now c.loop-row.row-index c.requires (search rules))
    (subst (λ o. IfSome o (Near c.loop-row.row-index)) e c.loop-row.invariant.1)
    (small_integer c.args.rows.now c.loop-row.row-index c.row-item.result c.args.column n c.requires (search rules) (search rules) (sym c.integer.ensures ∙ f))

pub loop-row-preserved : goal.loop-row-preserved
loop-row-preserved c = (
  sum_at c.args.column c.args.rows.now c.loop-row.row-index c.row-item.result c.loop-row.total c.summed-total.result c.integer.result (search rules) (search rules) c.loop-row.invariant.0 (search rules) (search rules),
  subst (λ o. IfSome o (Near (c.loop-row.row-index + 1))) (sym c.summed-total.ensures)
      (near_summed c.loop-row.row-index c.loop-row.total c.integer.result c.loop-row.invariant.1
      (λ n f. small_integer c.args.rows.now c.loop-row.row-index c.row-item.result c.args.column n c.requires (search rules) (search rules) (sym c.integer.ensures ∙ f))),
)
