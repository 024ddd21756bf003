use Rattle.rx_query.specs.Steps.{question_of}
use Rattle.rx_plan.proofs.Stages.{few_found, scan_found}
use Rattle.rx_plan.proofs.finding.range_part.Goals as goal

pub range_scan-requires-clause-few : goal.range_scan-requires-clause-few
range_scan-requires-clause-few g c =
    let here = c.in-Some-Ranges in
    few_found c.args.settings.now (question_of c.args.query.now) (g.T.Table.means c.args.table.now) c.args.index here.field-0-0 here.list c.args.found here.field-0
    here.is here.field-0-is c.requires.known

pub returns-in-Ok-clause-range : goal.returns-in-Ok-clause-range
returns-in-Ok-clause-range g c =
    let here = c.in-Some-Ranges in
    scan_found c.args.settings.now (question_of c.args.query.now) (g.T.Table.means c.args.table.now) c.args.index here.field-0-0 here.list c.args.found here.field-0
    c.in-Ok.range here.is here.field-0-is c.requires.known c.in-Ok.ensures.is
