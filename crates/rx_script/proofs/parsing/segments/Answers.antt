use Rattle.std.proofs.lemmas.Iterator.Consumers.{map_from_collect}
use Rattle.std.proofs.lemmas.Iterator.Splits.{YieldsList-from_slice_split}
use Rattle.std.proofs.Common.{rules}
use Rattle.rx_script.specs.Segments.{is_semicolon}
use Rattle.rx_script.proofs.parsing.segments.Goals as goal

pub returns : goal.returns
returns c = map_from_collect _ c.collect.ensures.ran (YieldsList-from_slice_split _ is_semicolon c.args.tokens.now c.split.ensures.rest c.split.ensures.done c.split.ensures.closure (λ x b q k. search rules))
