use Rattle.std.proofs.Common.{◌≡◌, arith, rules, Some}
use Rattle.slab.specs.Slab.{get}
use Rattle.rx_level.proofs.Marks.{lower_ranks, marking_whole, within_slots}
use Rattle.rx_level.proofs.marking.+mark.Goals as goal

pub mark-requires-2 : goal.mark-requires-2
mark-requires-2 t c =
    let there : get c.args.nodes.now c.in-Some.key ≡ Some c.in-Some-get.node.now = search rules in
    let low = lower_ranks c.args.nodes.now c.requires.sound c.args.root c.in-Some.key c.in-Some-get.node.now c.in-Some.is there in
    (omega (arith, low.left, c.decreases), (c.requires.sound, (omega (arith, c.requires.long, c.mark.ensures.long), c.mark.ensures.closed)))

pub mark-requires-3 : goal.mark-requires-3
mark-requires-3 t c =
    let there : get c.args.nodes.now c.in-Some.key ≡ Some c.in-Some-get.node.now = search rules in
    let low = lower_ranks c.args.nodes.now c.requires.sound c.args.root c.in-Some.key c.in-Some-get.node.now c.in-Some.is there in
    (omega (arith, low.right, c.decreases), (c.requires.sound, (omega (arith, c.requires.long, c.mark.ensures.long, c.mark-2.ensures.long), c.mark-2.ensures.closed)))

pub returns : goal.returns
returns t c =
    let there : get c.args.nodes.now c.in-Some.key ≡ Some c.in-Some-get.node.now = search rules in
    marking_whole c.args.nodes.now c.requires.sound c.args.root c.in-Some.key c.in-Some-get.node.now c.args.marks.now c.mark.new.marks c.mark-2.new.marks c.mark-3.new.marks c.in-Some.is there c.mark.ensures c.mark-2.ensures c.mark-3.ensures
    (omega (arith, within_slots c.args.nodes.now c.in-Some.key c.in-Some-get.node.now there, c.requires.long, c.mark.ensures.long, c.mark-2.ensures.long, c.mark-3.ensures.long))
