use Rattle.std.proofs.Common.{sym, ◌∙◌, rules}
use Rattle.rx_index.proofs.Risen.{rises_more, all_rise}
use Rattle.rx_index.proofs.in_place.do_rise.Goals as goal

pub loop-place-preserved : goal.loop-place-preserved
loop-place-preserved c =
    rises_more c.args.parts.now c.args.rows.now c.loop-place.place c.index-rows-place.result c.index-rows-place-in-loop-place.result c.loop-place.auto.place c.loop-place-test.true
    c.index-rows-place.is c.index-rows-place-in-loop-place.is (sym c.is_before.ensures ∙ search rules) c.loop-place.invariant

pub returns : goal.returns
returns c = λ e. all_rise c.args.parts.now c.args.rows.now c.loop-place.place c.loop-place-test.false c.loop-place.invariant
