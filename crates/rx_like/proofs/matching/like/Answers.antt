use Rattle.std.proofs.Common.{◌≡◌, arith}
use Rattle.rx_like.specs.Walk.{is_like}
use Rattle.rx_like.proofs.Pieces.{relation_of}
use Rattle.rx_like.proofs.Utf8.{text_passes}
use Rattle.rx_like.proofs.matching.like.Goals as goal

-- what the test answers is what the relation says
pub returns-in-Ok-Ok-clause-relation : goal.returns-in-Ok-Ok-clause-relation
returns-in-Ok-Ok-clause-relation c =
    let test : c.is_match.result ≡ is_like c.args.pattern.now c.args.text.now = grind (arith, text_passes) in
    relation_of _ _ _ test
