use Rattle.std.proofs.Common.{sym, ◌∙◌, arith}
use Rattle.rx_index.proofs.NewWords.{counted_new, counted_old, at_most}
use Rattle.rx_index.proofs.different.count_new_words.Goals as goal
use Rattle.rx_index.proofs.different.count_new_words.Goals.{then-has_new_words, else-has_new_words}

pub overflow_add-count : goal.overflow_add-count
overflow_add-count c = omega (arith, at_most c.args.list.now c.loop-place.place, c.loop-place.invariant, c.loop-place-test.true, c.requires)

pub loop-place-preserved : goal.loop-place-preserved
loop-place-preserved c =
    let list = c.args.list.now in
    let place = c.loop-place.place in
    elim c.if-has_new_words.branch [
      | then-has_new_words w ↦ w.count-is ∙ counted_new list place c.loop-place.count (sym c.has_new_words.ensures ∙ w.if-has_new_words.true) c.loop-place.invariant
      | else-has_new_words w ↦ w.count-is ∙ counted_old list place c.loop-place.count (sym c.has_new_words.ensures ∙ w.if-has_new_words.false) c.loop-place.invariant
    ]
