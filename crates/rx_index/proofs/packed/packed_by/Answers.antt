use Rattle.std.proofs.Common.{subst, ap, ◌∙◌, ◌++◌, ◌∷◌, [], arith}
use Rattle.rx_index.specs.Heads.{IsHead}
use Rattle.rx_index.proofs.Numbering.{row_there}
use Rattle.rx_index.proofs.Packing.{word_fits, packed_more}
use Rattle.rx_index.proofs.packed.packed_by.Goals as goal

pub packed-requires : goal.packed-requires
packed-requires c = word_fits c.args.fields.now c.index-rows-id.result c.in-Some.word c.requires.brief c.in-Some.ensures

pub loop-id-preserved : goal.loop-id-preserved
loop-id-preserved c =
    let there = row_there c.args.rows.now c.loop-id.id c.index-rows-id.result c.loop-id-test.true c.index-rows-id.is in
    packed_more c.args.fields.now c.args.rows.now c.loop-id.numbers.items c.push.new.self.items c.in-Some.word c.loop-id.id (omega (arith, c.loop-id-test.true, c.requires.few)) c.loop-id.invariant
    (subst (λ r. IsHead 0 c.args.fields.now r c.in-Some.word) there c.in-Some.ensures)
    (c.in_ok-push.ensures.items ∙ ap (λ n. c.loop-id.numbers.items ++ n ∷ []) c.packed.ensures)
