use Rattle.std.proofs.Common.{ap, ◌∙◌}
use Rattle.rx_query.specs.Steps.{question_of}
use Rattle.rx_engine.proofs.Made.{reasons_many, counts_made, block_made}
use Rattle.rx_engine.proofs.engine.make_block.Goals as goal

pub print_plan-requires-clause-reasons : goal.print_plan-requires-clause-reasons
print_plan-requires-clause-reasons g c =
    let table = g.T.Table.means c.args.table.now in
    let same = c.in-Ok-run_candidate.ensures.keeps.means_stays ∙ c.in-Ok.ensures.keeps.means_stays in
    reasons_many c.args.settings (question_of c.args.query.now) table c.in-Ok.plan c.in-Ok.ensures.plan c.shape.result.now (c.shape.ensures.value ∙ ap (λ m. m.schema) same)

pub returns-clause-told : goal.returns-clause-told
returns-clause-told g c =
    let table = g.T.Table.means c.args.table.now in
    let first = c.in-Ok.ensures.keeps.means_stays in
    let same = c.in-Ok-run_candidate.ensures.keeps.means_stays ∙ first in
    block_made c.args.settings (question_of c.args.query.now) table c.in-Ok.plan c.in-Ok.ensures.plan c.candidate.result.now c.candidate.ensures c.args.number
    c.in-Ok-run_candidate.answer c.print_plan.new.answer c.report_of.result (rw same at c.shape.ensures.sound) (rw first at c.in-Ok-run_candidate.ensures.told)
    (rw same at (rw c.shape.ensures.value at c.in-Ok-print_plan.ensures)) c.report_of.ensures

pub returns-clause-counts : goal.returns-clause-counts
returns-clause-counts g c =
    let table = g.T.Table.means c.args.table.now in
    let first = c.in-Ok.ensures.keeps.means_stays in
    counts_made c.args.settings (question_of c.args.query.now) table c.in-Ok.plan c.in-Ok.ensures.plan c.candidate.result.now c.candidate.ensures _ _ _
    c.in-Ok.ensures.counts (rw first at c.in-Ok-run_candidate.ensures.counts)
