use Rattle.std.proofs.Common.{◌-◌, ◌<◌, get_or, length, sym, ap₂, subst, ◌∙◌, arith}
use Rattle.std.proofs.lemmas.List.Elements.{All-get_or}
use Rattle.rx_index.specs.declared.orders.Placed.{Placed}
use Rattle.rx_index.specs.Placed.{IsPlaced, ids_in}
use Rattle.rx_index.specs.Steps.{pairs_up}
use Rattle.rx_index.proofs.Numbers.{id_below}
use Rattle.rx_index.proofs.Numbering.{id_same, as_many_ids, words_apart}
use Rattle.rx_index.proofs.repeats.repeats_at.Goals as goal

pub has_same_key-requires-clause-first : goal.has_same_key-requires-clause-first
has_same_key-requires-clause-first c =
    let list = c.args.list.now in
    let lt = id_below c.args.parts.now c.args.rows.now (ids_in list) c.requires.ordered.order (c.args.place - 1) 0 (omega (arith, c.requires.within, as_many_ids list)) in
    subst (λ n. n < length c.args.rows.now) (id_same list (c.args.place - 1)) lt

pub has_same_key-requires-clause-second : goal.has_same_key-requires-clause-second
has_same_key-requires-clause-second c =
    let list = c.args.list.now in
    let lt = id_below c.args.parts.now c.args.rows.now (ids_in list) c.requires.ordered.order c.args.place 0 (omega (arith, c.requires.within, as_many_ids list)) in
    subst (λ n. n < length c.args.rows.now) (id_same list c.args.place) lt

pub returns-else-has_same_words : goal.returns-else-has_same_words
returns-else-has_same_words c =
    let parts = c.args.parts.now in
    let rows = c.args.rows.now in
    let list = c.args.list.now in
    let o = c.requires.ordered in
    let none : Placed = record { head = 0; next = 0; id = 0 } in
    let a = get_or list (c.args.place - 1) none in
    let b = get_or list c.args.place none in
    c.if-has_same_words.false
    ∙ sym (words_apart parts rows list o a b
    (All-get_or (IsPlaced o.first o.second rows) list (c.args.place - 1) none (omega (arith, c.requires.within)) o.placed)
    (All-get_or (IsPlaced o.first o.second rows) list c.args.place none c.requires.within o.placed)
    (λ h. absurd (cc (c.if-has_same_words.false, c.has_same_words.ensures.same.1 h))))
    ∙ ap₂ (λ m n. pairs_up parts rows m n) (sym (id_same list (c.args.place - 1))) (sym (id_same list c.args.place))
