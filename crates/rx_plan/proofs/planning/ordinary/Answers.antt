use Rattle.std.proofs.Common.{◌≡◌, length, ap, subst, arith}
use Rattle.rx_query.specs.Steps.{question_of}
use Rattle.rx_index.proofs.Making.{few_indexes}
use Rattle.rx_store.proofs.Chains.{Keeps-chain}
use Rattle.rx_plan.proofs.Stages.{IsPlannedTo, planned_more, planned_all, seeks_more}
use Rattle.rx_plan.proofs.planning.ordinary.Goals as goal

pub overflow_cast-count : goal.overflow_cast-count
overflow_cast-count g c =
    omega (arith, c.len-count.ensures, ap (λ s. length s.indexes) c.shape-2.ensures.value, few_indexes (g.T.Table.means c.args.table.now).schema c.shape-2.ensures.sound.limits)

pub loop-index-preserved : goal.loop-index-preserved
loop-index-preserved g c =
    let here = c.loop-index.invariant in
    let part = c.in-Ok-plan_index.part in
    record {
      planned = planned_more c.args.settings.now (question_of c.args.query.now) (g.T.Table.means c.args.table.now) c.loop-index.index c.loop-index.plan c.add_part.new.plan part
          c.in-Ok-add_part.ensures here.planned (rw here.keeps.means_stays at c.in-Ok-plan_index.ensures.is);
      counts = seeks_more c.args.settings.now (question_of c.args.query.now) (g.T.Table.means c.args.table.now) c.loop-index.plan c.add_part.new.plan part _ _ _ c.in-Ok-add_part.ensures here.counts c.in-Ok-plan_index.ensures.counts;
      keeps = Keeps-chain g.met.T.Table.kept_chained g.met.T.Table.spent_chained _ _ _ _ here.keeps c.in-Ok-plan_index.ensures.keeps;
    }

pub returns-clause-plan : goal.returns-clause-plan
returns-clause-plan g c =
    let table = g.T.Table.means c.args.table.now in
    let past : c.loop-index.index ≡ length table.schema.indexes =
    omega (arith, c.len-count.ensures, ap (λ s. length s.indexes) c.shape-2.ensures.value, c.loop-index-test.false, c.loop-index.auto.index-end) in
    planned_all c.args.settings.now (question_of c.args.query.now) table c.loop-index.plan
    (subst (λ n. IsPlannedTo c.args.settings.now (question_of c.args.query.now) table n c.loop-index.plan) past c.loop-index.invariant.planned)
