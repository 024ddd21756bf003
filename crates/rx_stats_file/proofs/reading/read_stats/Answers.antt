use Rattle.std.proofs.Common.{◌≡◌, Some, None, Ok, IfOk, IfErr, option_map, sym, ap, ◌∙◌, subst}
use Rattle.serde_json.specs.View.{view}
use Rattle.rx_stats_file.specs.Members.{json_of}
use Rattle.rx_stats_file.specs.Outcomes.{FaultOf}
use Rattle.rx_stats_file.proofs.Composing.{with_value, value_missing}
use Rattle.rx_stats_file.proofs.Rising.{least_told, fault_least}
use Rattle.rx_stats_file.proofs.Fitting.{statistics_suit}
use Rattle.rx_stats_file.proofs.reading.read_stats.Goals as goal

pub returns-in-Some-clause-ok : goal.returns-in-Some-clause-ok
returns-in-Some-clause-ok c =
    let there : json_of c.args.text.now ≡ Some (view c.in-Some.value) = sym c.in_ok-value.ensures.ok ∙ ap (option_map view) c.in-Some.is in
    subst (λ said. IfOk c.stats_in.result (λ statistics. said ≡ Ok statistics)) (with_value c.args.schema.now c.args.base c.args.text.now (view c.in-Some.value) there) c.stats_in.ensures.ok

pub returns-in-Some-clause-err : goal.returns-in-Some-clause-err
returns-in-Some-clause-err c =
    let there : json_of c.args.text.now ≡ Some (view c.in-Some.value) = sym c.in_ok-value.ensures.ok ∙ ap (option_map view) c.in-Some.is in
    subst (λ said. IfErr c.stats_in.result (FaultOf said)) (with_value c.args.schema.now c.args.base c.args.text.now (view c.in-Some.value) there) c.stats_in.ensures.err

pub returns-in-Some-clause-suits : goal.returns-in-Some-clause-suits
returns-in-Some-clause-suits c =
    statistics_suit c.args.schema.now c.args.base c.args.text.now c.stats_in.result c.requires.suits (returns-in-Some-clause-ok c)

pub returns-clause-err : goal.returns-clause-err
returns-clause-err c =
    let none : json_of c.args.text.now ≡ None = sym c.in_ok-value.ensures.ok ∙ ap (option_map view) c.in-None.is in
    value_missing c.args.schema.now c.args.base c.args.text.now c.fault_of.result none c.fault_of.ensures

pub returns-in-Some-clause-least : goal.returns-in-Some-clause-least
returns-in-Some-clause-least c = least_told c.args.schema.now c.args.base c.args.text.now c.stats_in.result (returns-in-Some-clause-err c)

pub returns-clause-least : goal.returns-clause-least
returns-clause-least c = fault_least c.args.schema.now c.args.base c.args.text.now c.fault_of.result (returns-clause-err c)
