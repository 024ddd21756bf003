use Rattle.std.proofs.Common.{◌≡◌, None, IfSome, All, map, take}
use Rattle.std.specs.List.{flat_map, sum_by}
use Rattle.rx_cond.specs.Tree.{tree_of}
use Rattle.rx_query.specs.Steps.{question_of}
use Rattle.rx_store.specs.Tables.{Keeps}
use Rattle.rx_estimate.specs.Estimates.{with_seeks}
use Rattle.rx_merge_plan.specs.Merges.{CanMerge}
use Rattle.rx_merge_plan.specs.Lists.{unions_by, seeks_by, told_after}
use Rattle.rx_merge_plan.proofs.uniting.plan_conjuncts.Given as goal

-- the unions of the conjuncts so far
abbrev pub invariant-loop-cond : goal.invariant-loop-cond
invariant-loop-cond g l =
    let table = g.T.Table.means l.initial.table in
    let q = question_of l.query in
    let done = map tree_of (map (λ r. r.now) (take l.cond-index l.cond-items)) in
    record {
      told : IfSome table.told (λ t. l.list ≡ flat_map (unions_by l.settings q table t) done);
      can_run : All (CanMerge table.schema) l.list;
      counts : (g.T.Table.tally l.table).counts ≡ with_seeks (sum_by (seeks_by l.settings q table.schema) done) (g.T.Table.tally l.initial.table).counts;
      seeks : l.seeks ≡ told_after l.initial.seeks (sum_by (seeks_by l.settings q table.schema) done);
      keeps : Keeps g.T.Table.means g.T.Table.tally g.T.Table.kept g.T.Table.spent None l.initial.table l.table;
    }
