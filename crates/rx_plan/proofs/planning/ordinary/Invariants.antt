use Rattle.std.proofs.Common.{◌≡◌, None}
use Rattle.rx_query.specs.Steps.{question_of}
use Rattle.rx_store.specs.Tables.{Keeps}
use Rattle.rx_estimate.specs.Estimates.{with_seeks}
use Rattle.rx_plan.specs.Plan.{seeks_taken}
use Rattle.rx_plan.proofs.Stages.{IsPlannedTo}
use Rattle.rx_plan.proofs.planning.ordinary.Given as goal

-- the plan over the indexes so far
abbrev pub invariant-loop-index : goal.invariant-loop-index
invariant-loop-index g l =
    let table = g.T.Table.means l.initial.table in
    record {
      planned : IsPlannedTo l.settings (question_of l.query) table l.index l.plan;
      counts : (g.T.Table.tally l.table).counts ≡ with_seeks (seeks_taken l.settings l.plan.ranges) (g.T.Table.tally l.initial.table).counts;
      keeps : Keeps g.T.Table.means g.T.Table.tally g.T.Table.kept g.T.Table.spent None l.initial.table l.table;
    }
