use Rattle.std.proofs.Common.{◌≡◌}
use Rattle.std.specs.List.{flat_map, range_with_len}
use Rattle.rx_cond.specs.Tree.{tree_of}
use Rattle.rx_query.specs.Steps.{question_of}
use Rattle.rx_merge_plan.specs.Disjuncts.{found_at}
use Rattle.rx_merge_plan.proofs.finding.find_scans.Given as goal

-- those of the indexes so far
abbrev pub invariant-loop-index : goal.invariant-loop-index
invariant-loop-index l = l.scans ≡ flat_map (found_at l.settings (question_of l.query) l.schema (tree_of l.cond) l.member) (range_with_len 0 l.index)
