use Rattle.std.proofs.Common.{◌≡◌, ◌+◌, map, take}
use Rattle.rx_cond.specs.Tree.{tree_of}
use Rattle.rx_query.specs.Steps.{question_of}
use Rattle.rx_merge_plan.specs.Disjuncts.{ranged_by}
use Rattle.rx_merge_plan.specs.Lists.{found_lists}
use Rattle.rx_merge_plan.proofs.disjoining.find_lists.Given as goal

-- those of the disjuncts so far, and the place of the next
abbrev pub invariant-loop-cond : goal.invariant-loop-cond
invariant-loop-cond l = record {
  lists : l.lists ≡ found_lists 1 (map (ranged_by l.settings (question_of l.query) l.schema)
      (map tree_of (map (λ r. r.now) (take l.cond-index l.cond-items))));
  place : l.member ≡ 1 + l.cond-index;
}
