use Rattle.rx_query.specs.Steps.{question_of}
use Rattle.rx_engine.proofs.Planned.{planned, dives_made}
use Rattle.rx_engine.proofs.plans.make_plan.Goals as goal

pub returns-in-Ok-listed-clause-plan : goal.returns-in-Ok-listed-clause-plan
returns-in-Ok-listed-clause-plan g c =
    planned c.args.settings.now (question_of c.args.query.now) (g.T.Table.means c.args.table.now) c.in-Ok.plan c.in-Ok-listed.plan c.in-Ok.ensures.plan c.in-Ok.ensures.keep c.in-Ok-listed.ensures

pub returns-in-Ok-listed-clause-counts : goal.returns-in-Ok-listed-clause-counts
returns-in-Ok-listed-clause-counts g c =
    dives_made c.args.settings.now (question_of c.args.query.now) (g.T.Table.means c.args.table.now) c.in-Ok.plan _ _ c.in-Ok.ensures.plan c.in-Ok.ensures.counts
