use Rattle.std.proofs.Common.{◌≡◌, ◌+◌, ◌<◌, false, None, length, get_or, sym, subst, ap, ◌∙◌, arith, rules}
use Rattle.std.proofs.lemmas.List.{get_or_default}
use Rattle.rx_value.specs.declared.shapes.Part.{Part}
use Rattle.rx_index.proofs.Numbers.{ids_below}
use Rattle.rx_index.specs.Marks.{AreMarked, AreMarkedTo, values_of, count_marked}
use Rattle.rx_index.proofs.Seeing.{as_many}
use Rattle.rx_index.proofs.Marking.{marked_more, first_marked, different_more, written_over}
use Rattle.rx_index.proofs.different.different_to.Goals as goal

pub mark_part-requires-clause-ids : goal.mark_part-requires-clause-ids
mark_part-requires-clause-ids c = ids_below c.args.parts.now c.args.rows.now c.args.ids.now c.requires.order

pub count_marks-requires : goal.count_marks-requires
count_marks-requires c =
    let old = c.loop-n.marks.items in
    let new = c.mark_part.new.marks in
    let wide : length new ≡ length old = c.in_ok-mark_part.ensures.as_many ∙ ap length c.as_mut_slice.ensures.value in
    let whole = c.as_slice.ensures.value ∙ written_over c.loop-n.marks.len old new (search rules) wide in
    let many = as_many c.args.parts.now 0 c.args.rows.now c.args.ids.now c.requires.order in
    omega (arith, ap length whole, wide, c.loop-n.invariant.0.as_many, many, c.requires.few)

pub loop-n-preserved : goal.loop-n-preserved
loop-n-preserved c =
    let parts = c.args.parts.now in
    let rows = c.args.rows.now in
    let ids = c.args.ids.now in
    let n = c.loop-n.n in
    let none : Part = record { column = 0; descending = false; chars = None } in
    let part = get_or parts n none in
    let old = c.loop-n.marks.items in
    let new = c.mark_part.new.marks in
    let within : n < length parts = omega (arith, c.loop-n-test.true, c.requires.within) in
    let told : AreMarkedTo part.descending (values_of part rows ids) (length old) old new =
    subst (λ l. AreMarkedTo part.descending (values_of part rows ids) (length l) l new) c.as_mut_slice.ensures.value c.in_ok-mark_part.ensures in
    let whole = written_over c.loop-n.marks.len old new (search rules) told.as_many in
    let marked : AreMarked parts (n + 1) rows ids new = marked_more parts rows ids n part old new within (get_or_default parts n none part within) c.loop-n.invariant.0 told in (
      subst (AreMarked parts (n + 1) rows ids) (sym whole) marked,
      different_more parts rows ids c.requires.order n c.count_marks.result new c.loop-n.counts c.push.new.self marked
          (c.count_marks.ensures ∙ ap count_marked (c.as_slice.ensures.value ∙ whole)) c.loop-n.invariant.1 c.in_ok-push.ensures.ok,
    )

pub loop-n-init : goal.loop-n-init
loop-n-init c = (
  first_marked c.args.parts.now c.args.rows.now c.args.ids.now c.in_ok-marks.marks.items c.in_ok-marks.ensures,
  record { as_many = ap length c.in_ok-counts.ensures; each = λ i lt. absurd (omega (arith, lt)) },
)
