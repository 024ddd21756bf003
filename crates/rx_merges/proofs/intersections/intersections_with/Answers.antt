use Rattle.std.proofs.Common.{◌∷◌, [], ◌++◌, ap₂, sym, ◌∙◌}
use Rattle.rx_merges.specs.Intersections.{do_meet, intersection_of}
use Rattle.rx_merges.proofs.Fronts.{front_more, front_same}
use Rattle.rx_merges.proofs.intersections.intersections_with.Goals as goal
use Rattle.rx_merges.proofs.intersections.intersections_with.Goals.{then-do_meet+in_ok-intersection_of+in_ok-push, else-do_meet}

pub loop-n-preserved : goal.loop-n-preserved
loop-n-preserved c =
    let f = intersection_of c.args.entries c.args.columns.now c.args.schema.now c.args.count c.args.ordered.now c.args.filters.now in
    let test = do_meet c.args.filters.now in
    let n = c.loop-n.n in
    elim c.if-do_meet.branch [
      | then-do_meet+in_ok-intersection_of+in_ok-push w ↦
          w.list-is ∙ w.in_ok-push.ensures.ok ∙ ap₂ (λ l x. l ++ x ∷ []) c.loop-n.invariant w.in_ok-intersection_of.ensures
          ∙ sym (front_more f test n (sym c.do_meet.ensures ∙ w.if-do_meet.true))
      | else-do_meet w ↦ w.list-is ∙ c.loop-n.invariant ∙ sym (front_same f test n (sym c.do_meet.ensures ∙ w.if-do_meet.false))
    ]
