use Rattle.std.proofs.Common.{◌+◌, ◌<◌, Some, length, sym, ap, subst, ◌∙◌, arith}
use Rattle.rx_index.specs.Duplicates.{IsFirst}
use Rattle.rx_index.specs.Placed.{ids_in}
use Rattle.rx_index.specs.Steps.{IsFound, least_of}
use Rattle.rx_index.proofs.Numbering.{id_same, as_many_ids}
use Rattle.rx_index.proofs.Repeating.{passed, taken, ended}
use Rattle.rx_index.proofs.repeats.first_repeat.Goals as goal
use Rattle.rx_index.proofs.repeats.first_repeat.Goals.{then-repeats_at, else-repeats_at}

pub loop-place-preserved : goal.loop-place-preserved
loop-place-preserved c =
    let parts = c.args.parts.now in
    let rows = c.args.rows.now in
    let list = c.args.list.now in
    let ids = ids_in list in
    let place = c.loop-place.place in
    let lt : place < length ids = omega (arith, c.loop-place-test.true, as_many_ids list) in
    elim c.if-repeats_at.branch [
      | then-repeats_at w ↦ subst (IsFirst (IsFound parts rows ids (place + 1)))
          (ap (λ n. Some (least_of c.loop-place.first n)) (id_same list place) ∙ ap Some (sym w.least_of.ensures) ∙ sym w.first-is)
          (taken parts rows ids c.requires.order place c.loop-place.first c.loop-place.auto.place lt (sym c.repeats_at.ensures ∙ w.if-repeats_at.true) c.loop-place.invariant)
      | else-repeats_at w ↦ subst (IsFirst (IsFound parts rows ids (place + 1))) (sym w.first-is)
          (passed parts rows ids c.requires.order place c.loop-place.first (sym c.repeats_at.ensures ∙ w.if-repeats_at.false) c.loop-place.invariant)
    ]

pub returns : goal.returns
returns c =
    ended c.args.parts.now c.args.rows.now (ids_in c.args.list.now) c.requires.order c.loop-place.place c.loop-place.first
    (omega (arith, c.loop-place-test.false, as_many_ids c.args.list.now)) c.loop-place.invariant
