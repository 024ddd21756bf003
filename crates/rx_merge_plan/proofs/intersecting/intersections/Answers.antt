use Rattle.std.proofs.Common.{sym, ◌∙◌}
use Rattle.rx_query.specs.Steps.{question_of}
use Rattle.rx_merge_plan.proofs.Meetings.{not_asked, ranges_are, met_told, met_run, met_rules}
use Rattle.rx_merge_plan.proofs.intersecting.intersections.Goals as goal

pub intersections_by-requires-clause-scans : goal.intersections_by-requires-clause-scans
intersections_by-requires-clause-scans g c =
    ranges_are c.args.settings.now (question_of c.args.query.now) (g.T.Table.means c.args.table.now) c.args.known.now c.requires c.shape.result.now
    c.rows.result c.as_slice.result.now
    c.shape.ensures.value c.rows.ensures.value c.as_slice.ensures c.shape.ensures.sound

pub returns-then-not-asks_intersections-clause-told : goal.returns-then-not-asks_intersections-clause-told
returns-then-not-asks_intersections-clause-told g c =
    not_asked c.args.settings.now (question_of c.args.query.now) (g.T.Table.means c.args.table.now) c.new.result (sym c.asks_intersections.ensures
    ∙ c.if-not-asks_intersections.true) c.new.ensures

pub returns-in-Ok-clause-told : goal.returns-in-Ok-clause-told
returns-in-Ok-clause-told g c =
    met_told c.args.settings.now (question_of c.args.query.now) (g.T.Table.means c.args.table.now) c.args.known.now c.requires c.shape.result.now
    c.rows.result c.as_slice.result.now
    c.shape.ensures.value c.rows.ensures.value c.as_slice.ensures c.shape.ensures.sound c.in-Ok.list c.in-Ok.ensures (sym c.asks_intersections.ensures
    ∙ c.if-not-asks_intersections.false)

pub returns-in-Ok-clause-can_run : goal.returns-in-Ok-clause-can_run
returns-in-Ok-clause-can_run g c =
    met_run c.args.settings.now (question_of c.args.query.now) (g.T.Table.means c.args.table.now) c.args.known.now c.requires c.shape.result.now
    c.rows.result c.as_slice.result.now
    c.shape.ensures.value c.rows.ensures.value c.as_slice.ensures c.shape.ensures.sound c.in-Ok.list c.in-Ok.ensures

pub returns-in-Ok-clause-rules : goal.returns-in-Ok-clause-rules
returns-in-Ok-clause-rules g c =
    met_rules c.args.settings.now (question_of c.args.query.now) (g.T.Table.means c.args.table.now) c.args.known.now c.requires c.shape.result.now
    c.rows.result c.as_slice.result.now
    c.shape.ensures.value c.rows.ensures.value c.as_slice.ensures c.shape.ensures.sound c.in-Ok.list c.in-Ok.ensures
