use Rattle.std.proofs.Common.{◌≡◌, false}
use Rattle.std.specs.List.{list_any, range_with_len}
use Rattle.rx_query.specs.Steps.{question_of}
use Rattle.rx_merge_plan.specs.Lists.{is_in_all}
use Rattle.rx_merge_plan.proofs.disjoining.are_open.Given as goal

-- none of the indexes so far is in all
abbrev pub invariant-loop-index : goal.invariant-loop-index
invariant-loop-index l = list_any (is_in_all (question_of l.query) l.lists) (range_with_len 0 l.index) ≡ false
