use Rattle.std.proofs.Common.{◌≡◌, Some, map, filter_map, length, rules, sym, ap, ◌∙◌, ◌<◌, ◌≤◌, arith}
use Rattle.std.proofs.lemmas.List.{take_all}
use Rattle.serde_json.specs.Find.{as_array}
use Rattle.serde_json.specs.View.{view, items_view}
use Rattle.rx_stats_file.specs.Statistics.{number_of}
use Rattle.rx_stats_file.proofs.Finding.{number_taken, no_number, numbers_there}
use Rattle.rx_stats_file.proofs.numbers.numbers_of.Goals as goal
use Rattle.rx_stats_file.proofs.numbers.numbers_of.Goals.{in-Some-number_of+in_ok-push, in_default-number_of}

pub loop-item-preserved : goal.loop-item-preserved
loop-item-preserved c =
    let values = c.deref-item-items.result.now in
    let n = c.loop-item.item-index in
    let within : n < length values = c.loop-item-test.true in
    elim c.match-number_of.branch [
      | in-Some-number_of+in_ok-push w ↦ number_taken values n w.in-Some-number_of.number c.item-item.result c.loop-item.numbers c.match-number_of.numbers within c.item-item.is
          (sym w.in-Some-number_of.ensures) c.loop-item.invariant (w.numbers-is ∙ w.in_ok-push.ensures.ok)
      | in_default-number_of w ↦ w.numbers-is ∙ no_number values n c.item-item.result c.loop-item.numbers within c.item-item.is (sym w.in_default-number_of.ensures) c.loop-item.invariant
    ]

pub returns : goal.returns
returns c =
    let values = c.deref-item-items.result.now in
    let there : as_array (view c.args.value.now) ≡ Some (items_view c.in-Some.items.now.items) = search rules in
    let passed : length values ≤ c.loop-item.item-index = omega (arith, c.loop-item-test.false) in
    c.loop-item.invariant ∙ ap (λ l. filter_map number_of (map view l)) (take_all c.loop-item.item-index values passed ∙ c.deref-item-items.ensures.value)
    ∙ numbers_there (view c.args.value.now) c.in-Some.items.now.items there
