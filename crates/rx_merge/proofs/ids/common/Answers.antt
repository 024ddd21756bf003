use Rattle.std.proofs.Common.{rules, ◌∙◌, ap, filter}
use Rattle.std.proofs.lemmas.Fn.{filter_same}
use Rattle.rx_merge.specs.Ids.{has_id}
use Rattle.rx_merge.proofs.ids.common.Goals as goal

pub returns : goal.returns
returns c =
    c.from_vec.ensures
    ∙ filter_same _ (has_id c.args.found.now) _ (λ x b f' k. search rules) _ _ c.retain.ensures.filtered
    ∙ ap (filter (has_id c.args.found.now)) c.into_vec-kept.ensures
