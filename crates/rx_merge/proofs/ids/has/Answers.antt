use Rattle.std.proofs.Common.{◌∙◌}
use Rattle.rx_merge.proofs.Having.{search_finds}
use Rattle.rx_merge.proofs.ids.has.Goals as goal

pub returns : goal.returns
returns c = c.is_ok.ensures.value ∙ search_finds c.args.ids.now c.args.id c.binary_search.result c.binary_search.ensures.position c.requires
