use Rattle.std.proofs.Common.{length, ap, sym, subst, ◌∙◌, arith, rules}
use Rattle.rx_index.specs.Different.{HasDifferent, fronts}
use Rattle.rx_index.specs.Marks.{count_new_words}
use Rattle.rx_index.specs.Placed.{ids_in}
use Rattle.rx_index.proofs.Numbering.{as_many_ids}
use Rattle.rx_index.proofs.NewWords.{words_count_keys}
use Rattle.rx_index.proofs.Seeing.{as_many}
use Rattle.rx_index.proofs.duplicates.different_in.Goals as goal

pub count_new_words-all-requires : goal.count_new_words-all-requires
count_new_words-all-requires c =
    let list = c.args.numbered.now.list.items in
    omega (arith, ap length c.as_slice.ensures.value, as_many_ids list, as_many c.args.parts.now 0 c.args.rows.now (ids_in list) c.requires.ordered.order, c.requires.few)

pub different_with-requires-clause-all : goal.different_with-requires-clause-all
different_with-requires-clause-all c =
    let parts = c.args.parts.now in
    let rows = c.args.rows.now in
    let list = c.args.numbered.now.list.items in
    subst (HasDifferent (fronts parts (length parts) rows)) (sym (c.count_new_words-all.ensures ∙ ap (λ l. count_new_words l (length l)) c.as_slice.ensures.value))
    (words_count_keys parts rows list c.requires.ordered (c.requires.whole (search rules)))
