use Rattle.std.proofs.Common.{◌≡◌, Some, rules, ◌∙◌}
use Rattle.serde_json.specs.Find.{as_array}
use Rattle.serde_json.specs.View.{view, items_view}
use Rattle.rx_stats_file.proofs.Finding.{list_there}
use Rattle.rx_stats_file.proofs.numbers.is_list_for.Goals as goal

pub returns-in-Some : goal.returns-in-Some
returns-in-Some c =
    let there : as_array (view c.args.value.now) ≡ Some (items_view c.in-Some.items.now.items) = search rules in
    c.are_numbers_for.ensures ∙ list_there c.args.index.now (view c.args.value.now) c.in-Some.items.now.items c.as_slice.result.now there c.as_slice.ensures.value
