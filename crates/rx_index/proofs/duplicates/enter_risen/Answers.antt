use Rattle.std.proofs.Common.{length, sym, subst, ◌∙◌}
use Rattle.rx_index.specs.Entries.{IsOrder}
use Rattle.rx_index.specs.Different.{HasDifferent, fronts, AreDifferent}
use Rattle.rx_index.proofs.Risen.{risen_order, risen_count, none_risen}
use Rattle.rx_index.proofs.duplicates.enter_risen.Goals as goal

pub different_with-requires-clause-order : goal.different_with-requires-clause-order
different_with-requires-clause-order c =
    subst (λ ps. IsOrder ps c.args.rows.now c.as_slice.result.now) (sym c.as_slice-parts.ensures)
    (subst (IsOrder c.args.index.now.parts c.args.rows.now) (sym (c.as_slice.ensures ∙ c.in_ok-ids.ensures)) (risen_order c.args.index.now.parts c.args.rows.now c.requires.risen))

pub different_with-requires-clause-all : goal.different_with-requires-clause-all
different_with-requires-clause-all c =
    subst (λ ps. HasDifferent (fronts ps (length ps) c.args.rows.now) (length c.args.rows.now)) (sym c.as_slice-parts.ensures) (risen_count c.args.index.now.parts c.args.rows.now c.requires.risen)

pub returns : goal.returns
returns c = record {
  order = subst (IsOrder c.args.index.now.parts c.args.rows.now) (sym c.in_ok-ids.ensures) (risen_order c.args.index.now.parts c.args.rows.now c.requires.risen);
  repeat = none_risen c.args.index.now c.args.rows.now c.requires.risen;
  different = subst (λ ps. AreDifferent ps c.args.rows.now c.in_ok-different.different) c.as_slice-parts.ensures c.in_ok-different.ensures;
}
