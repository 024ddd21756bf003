use Rattle.std.proofs.Common.{◌≤◌, length, map, ap, ◌∙◌, arith}
use Rattle.std.proofs.lemmas.List.{length-map}
use Rattle.rx_cond.specs.Tree.{tree_of}
use Rattle.rx_query.specs.Steps.{question_of}
use Rattle.rx_merge_plan.specs.Disjuncts.{ranged_by}
use Rattle.rx_merge_plan.specs.Lists.{found_lists}
use Rattle.rx_merge_plan.proofs.Steps.{trees_all, lists_more}
use Rattle.rx_merge_plan.proofs.disjoining.find_lists.Goals as goal

pub overflow_add-member : goal.overflow_add-member
overflow_add-member c =
    omega (
      arith,
      c.loop-cond.invariant.place,
      c.loop-cond-test.true,
      c.requires.few,
      length-map c.as_slice-cond-items.result.now (λ r. r.now),
      ap length
          c.as_slice-cond-items.ensures,
    )

pub loop-cond-preserved : goal.loop-cond-preserved
loop-cond-preserved c =
    let here = c.loop-cond.invariant in
    record {
      lists = lists_more (λ r. r.now) tree_of c.as_slice-cond-items.result.now c.loop-cond.cond-index c.cond-item.result c.loop-cond-test.true c.cond-item.is
          (ranged_by c.args.settings.now (question_of c.args.query.now) c.args.schema.now) c.loop-cond.member c.loop-cond.lists c.push.new.self
          c.in_ok-find_scans.field-0
          here.place here.lists c.in_ok-find_scans.ensures c.in_ok-push.ensures.ok;
      place = omega (arith, here.place);
    }

pub returns : goal.returns
returns c =
    let f = ranged_by c.args.settings.now (question_of c.args.query.now) c.args.schema.now in
    let items = c.as_slice-cond-items.result.now in
    let past : length items ≤ c.loop-cond.cond-index = c.loop-cond-test.false in
    c.loop-cond.invariant.lists
    ∙ ap (λ l. found_lists 1 (map f l)) (trees_all (λ r. r.now) tree_of items c.loop-cond.cond-index past ∙ ap (map tree_of) c.as_slice-cond-items.ensures)
