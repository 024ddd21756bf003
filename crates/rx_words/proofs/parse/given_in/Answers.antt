use Rattle.std.proofs.Common.{◌∙◌, codes}
use Rattle.clap.specs.Words.{found_of}
use Rattle.clap.proofs.WalkLemmas.{first_value-rows}
use Rattle.rx_words.proofs.parse.given_in.Goals as goal

pub returns : goal.returns
returns c =
    let found = found_of c.args.matches.now in
    let one = c.get_str.ensures ∙ first_value-rows found (codes "first") in
    let two = c.get_str-2.ensures ∙ first_value-rows found (codes "second") in
    let three = c.get_str-3.ensures ∙ first_value-rows found (codes "third") in
    let file = c.get_str-4.ensures ∙ first_value-rows found (codes "stats") in
    λ i. record { first = one i; second = two i; third = three i; statistics = file i }
