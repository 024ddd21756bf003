use Rattle.std.proofs.Common.{◌≡◌, Some, None, Ok, IfOk, IfErr, rules, ap₂, ◌∙◌, subst}
use Rattle.serde_json.specs.View.{view, members_view}
use Rattle.rx_stats_file.specs.Members.{listed, records_in}
use Rattle.rx_stats_file.specs.Outcomes.{FaultOf}
use Rattle.rx_stats_file.specs.Statistics.{given}
use Rattle.rx_stats_file.proofs.Composing.{with_records, records_missing}
use Rattle.rx_stats_file.proofs.reading.stats_in.Goals as goal

pub returns-in-Some-clause-ok : goal.returns-in-Some-clause-ok
returns-in-Some-clause-ok c =
    let members = listed (members_view c.in-Some.records.now.entries) in
    let there : records_in (view c.args.value.now) ≡ Some members = search rules in
    let same = ap₂ (λ i b. given i b members) c.as_slice.ensures c.as_slice-in-Some.ensures ∙ with_records c.args.schema.now c.args.base.now (view c.args.value.now) members there in
    subst (λ said. IfOk c.given.result (λ statistics. said ≡ Ok statistics)) same c.given.ensures.ok

pub returns-in-Some-clause-err : goal.returns-in-Some-clause-err
returns-in-Some-clause-err c =
    let members = listed (members_view c.in-Some.records.now.entries) in
    let there : records_in (view c.args.value.now) ≡ Some members = search rules in
    let same = ap₂ (λ i b. given i b members) c.as_slice.ensures c.as_slice-in-Some.ensures ∙ with_records c.args.schema.now c.args.base.now (view c.args.value.now) members there in
    subst (λ said. IfErr c.given.result (FaultOf said)) same c.given.ensures.err

pub returns-in-None-clause-err : goal.returns-in-None-clause-err
returns-in-None-clause-err c =
    let none : records_in (view c.args.value.now) ≡ None = search rules in
    records_missing c.args.schema.now c.args.base.now (view c.args.value.now) c.fault_of.result none c.fault_of.ensures
