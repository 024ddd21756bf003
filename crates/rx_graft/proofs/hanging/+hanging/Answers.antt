use Rattle.std.proofs.Common.{arith}
use Rattle.rx_graft.proofs.ListedLinks.{lacks_from, lacks_each}
use Rattle.rx_graft.proofs.Adding.{freed_one, freed_two, spent_three}
use Rattle.rx_graft.proofs.Ready.{link_lent}
use Rattle.rx_graft.proofs.Wholes.{three, whole}
use Rattle.rx_graft.proofs.MadeParts.{opened, parts_smaller, later, sides_near, known_lent, known_again, ends, below_child}
use Rattle.rx_graft.proofs.hanging.+hanging.Goals as goal

pub hang-hold-requires : goal.hang-hold-requires
hang-hold-requires t c = known_lent _ _ _ _ c.requires.ready c.in-Some-find.ensures.some

pub hang-returns-clause-ok : goal.hang-returns-clause-ok
hang-returns-clause-ok t c = (known_again c.args.levels.now c.hold.new.self c.args.chain.now c.args.depth c.in-Some.key c.args.root c.in-Some-find.known c.args.memory.now c.in-Some.is c.requires.ready c.in-Some-find.ensures.some c.in-Ok-hold.ensures.ok c.in-Ok-hold.ensures.live).hangs

pub hang-returns-clause-level : goal.hang-returns-clause-level
hang-returns-clause-level t c = (known_again c.args.levels.now c.hold.new.self c.args.chain.now c.args.depth c.in-Some.key c.args.root c.in-Some-find.known c.args.memory.now c.in-Some.is c.requires.ready c.in-Some-find.ensures.some c.in-Ok-hold.ensures.ok c.in-Ok-hold.ensures.live).level

pub hang-returns-clause-tall : goal.hang-returns-clause-tall
hang-returns-clause-tall t c = (known_again c.args.levels.now c.hold.new.self c.args.chain.now c.args.depth c.in-Some.key c.args.root c.in-Some-find.known c.args.memory.now c.in-Some.is c.requires.ready c.in-Some-find.ensures.some c.in-Ok-hold.ensures.ok c.in-Ok-hold.ensures.live).tall

pub make-under-requires : goal.make-under-requires
make-under-requires t c =
    let o = c.in-Some.seen in
    let n = opened _ _ _ _ o.span.now _ _ _ c.requires.ready c.requires.root c.in-Some.ensures.fork c.in-Some.ensures.child c.in-Some.ensures.left c.in-Some.ensures.right in
    let less = parts_smaller _ _ _ _ _ _ n in
    (omega (arith, less.child, c.decreases), (c.requires.ready, c.in-Some.ensures.child))

pub make-returns-in-Err-clause-short : goal.make-returns-in-Err-clause-short
make-returns-in-Err-clause-short t c e =
    let o = c.in-Some.seen in
    let n = opened _ _ _ _ o.span.now _ _ _ c.requires.ready c.requires.root c.in-Some.ensures.fork c.in-Some.ensures.child c.in-Some.ensures.left c.in-Some.ensures.right in
    let less = parts_smaller _ _ _ _ _ _ n in
    omega (arith, less.deep, c.in-Err.ensures.short e)

pub make-hang-requires : goal.make-hang-requires
make-hang-requires t c =
    let o = c.in-Some.seen in
    let n = opened _ _ _ _ o.span.now _ _ _ c.requires.ready c.requires.root c.in-Some.ensures.fork c.in-Some.ensures.child c.in-Some.ensures.left c.in-Some.ensures.right in
    let less = parts_smaller _ _ _ _ _ _ n in
    let one = c.in-Ok-under.ensures.ok in
    let l = later _ _ _ _ _ _ o.left c.requires.ready one.adds c.in-Some.ensures.left in
    (omega (arith, less.left, l.size_same, c.decreases), (one.ready, l.lent))

pub make-returns-in-Err-hang-clause-short : goal.make-returns-in-Err-hang-clause-short
make-returns-in-Err-hang-clause-short t c e =
    let o = c.in-Some.seen in
    let n = opened _ _ _ _ o.span.now _ _ _ c.requires.ready c.requires.root c.in-Some.ensures.fork c.in-Some.ensures.child c.in-Some.ensures.left c.in-Some.ensures.right in
    let less = parts_smaller _ _ _ _ _ _ n in
    let l = later _ _ _ _ _ _ o.left c.requires.ready c.in-Ok-under.ensures.ok.adds c.in-Some.ensures.left in
    omega (arith, less.deep, l.deep_same, c.in-Err-hang.ensures.short e)

pub make-returns-in-Err-hang-clause-err : goal.make-returns-in-Err-hang-clause-err
make-returns-in-Err-hang-clause-err t c = freed_one _ _ _ _ _ _ _ _ c.in-Ok-under.ensures.ok.adds c.in-Err-hang.ensures.err c.free.ensures.step

pub make-hang-requires-2 : goal.make-hang-requires-2
make-hang-requires-2 t c =
    let o = c.in-Some.seen in
    let n = opened _ _ _ _ o.span.now _ _ _ c.requires.ready c.requires.root c.in-Some.ensures.fork c.in-Some.ensures.child c.in-Some.ensures.left c.in-Some.ensures.right in
    let less = parts_smaller _ _ _ _ _ _ n in
    let one = c.in-Ok-under.ensures.ok in
    let two = c.in-Ok-hang.ensures.ok in
    let r1 = later _ _ _ _ _ _ o.right c.requires.ready one.adds c.in-Some.ensures.right in
    let r2 = later _ _ _ _ _ _ o.right one.ready two.adds r1.lent in
    (omega (arith, less.right, r1.size_same, r2.size_same, c.decreases), (two.ready, r2.lent))

pub make-returns-in-Err-hang-2-clause-short : goal.make-returns-in-Err-hang-2-clause-short
make-returns-in-Err-hang-2-clause-short t c e =
    let o = c.in-Some.seen in
    let n = opened _ _ _ _ o.span.now _ _ _ c.requires.ready c.requires.root c.in-Some.ensures.fork c.in-Some.ensures.child c.in-Some.ensures.left c.in-Some.ensures.right in
    let less = parts_smaller _ _ _ _ _ _ n in
    let one = c.in-Ok-under.ensures.ok in
    let r1 = later _ _ _ _ _ _ o.right c.requires.ready one.adds c.in-Some.ensures.right in
    let r2 = later _ _ _ _ _ _ o.right one.ready c.in-Ok-hang.ensures.ok.adds r1.lent in
    omega (arith, less.deep, r1.deep_same, r2.deep_same, c.in-Err-hang-2.ensures.short e)

pub make-returns-in-Err-hang-2-clause-err : goal.make-returns-in-Err-hang-2-clause-err
make-returns-in-Err-hang-2-clause-err t c =
    freed_two _ _ _ _ _ _ _ _ _ _ _ _ c.in-Ok-under.ensures.ok.adds c.in-Ok-hang.ensures.ok.adds c.in-Err-hang-2.ensures.err c.free-in-Err-hang-2.ensures.step c.free-in-Err-hang-2-2.ensures.step

pub make-keep-requires-clause-near : goal.make-keep-requires-clause-near
make-keep-requires-clause-near t c =
    let o = c.in-Some.seen in
    let n = opened _ _ _ _ o.span.now _ _ _ c.requires.ready c.requires.root c.in-Some.ensures.fork c.in-Some.ensures.child c.in-Some.ensures.left c.in-Some.ensures.right in
    let made = three _ _ _ _ _ _ _ _ _ _ _ _ _ _ _ _ _ _ c.requires.ready n c.in-Ok-under.ensures.ok c.in-Ok-under.ensures.level c.in-Ok-under.ensures.within c.in-Ok-hang.ensures.ok c.in-Ok-hang.ensures.level c.in-Ok-hang.ensures.tall c.in-Ok-hang-2.ensures.ok c.in-Ok-hang-2.ensures.level c.in-Ok-hang-2.ensures.tall in
    sides_near _ _ _ _ _ _ _ _ _ _ _ _ _ _ c.requires.ready made c.in-Some.ensures.fork

pub make-keep-requires-clause-lacks : goal.make-keep-requires-clause-lacks
make-keep-requires-clause-lacks t c =
    let o = c.in-Some.seen in
    let n = opened _ _ _ _ o.span.now _ _ _ c.requires.ready c.requires.root c.in-Some.ensures.fork c.in-Some.ensures.child c.in-Some.ensures.left c.in-Some.ensures.right in
    let made = three _ _ _ _ _ _ _ _ _ _ _ _ _ _ _ _ _ _ c.requires.ready n c.in-Ok-under.ensures.ok c.in-Ok-under.ensures.level c.in-Ok-under.ensures.within c.in-Ok-hang.ensures.ok c.in-Ok-hang.ensures.level c.in-Ok-hang.ensures.tall c.in-Ok-hang-2.ensures.ok c.in-Ok-hang-2.ensures.level c.in-Ok-hang-2.ensures.tall in
    lacks_from _ _ (made.other (lacks_each _ _ c.requires.lacks))

pub make-returns-in_default-keep-clause-err : goal.make-returns-in_default-keep-clause-err
make-returns-in_default-keep-clause-err t c =
    spent_three _ _ _ _ _ _ _ _ _ _ _ _ _ c.in-Ok-under.ensures.ok.adds c.in-Ok-hang.ensures.ok.adds c.in-Ok-hang-2.ensures.ok.adds c.in_default-keep.ensures.err c.in_default-keep.ensures.unknown

pub make-returns-clause-ok : goal.make-returns-clause-ok
make-returns-clause-ok t c =
    let o = c.in-Some.seen in
    let n = opened _ _ _ _ o.span.now _ _ _ c.requires.ready c.requires.root c.in-Some.ensures.fork c.in-Some.ensures.child c.in-Some.ensures.left c.in-Some.ensures.right in
    let made = three _ _ _ _ _ _ _ _ _ _ _ _ _ _ _ _ _ _ c.requires.ready n c.in-Ok-under.ensures.ok c.in-Ok-under.ensures.level c.in-Ok-under.ensures.within c.in-Ok-hang.ensures.ok c.in-Ok-hang.ensures.level c.in-Ok-hang.ensures.tall c.in-Ok-hang-2.ensures.ok c.in-Ok-hang-2.ensures.level c.in-Ok-hang-2.ensures.tall in
    (whole _ _ _ _ _ _ _ _ _ _ _ _ _ _ _ _ _ _ c.requires.ready n made c.in-Ok-keep.ensures.ok c.in-Ok-keep.ensures.noted c.in-Ok.ensures c.in-Ok-keep.ensures.fork c.in-Ok-keep.ensures.live).hangs

pub make-returns-clause-level : goal.make-returns-clause-level
make-returns-clause-level t c =
    let o = c.in-Some.seen in
    let n = opened _ _ _ _ o.span.now _ _ _ c.requires.ready c.requires.root c.in-Some.ensures.fork c.in-Some.ensures.child c.in-Some.ensures.left c.in-Some.ensures.right in
    let made = three _ _ _ _ _ _ _ _ _ _ _ _ _ _ _ _ _ _ c.requires.ready n c.in-Ok-under.ensures.ok c.in-Ok-under.ensures.level c.in-Ok-under.ensures.within c.in-Ok-hang.ensures.ok c.in-Ok-hang.ensures.level c.in-Ok-hang.ensures.tall c.in-Ok-hang-2.ensures.ok c.in-Ok-hang-2.ensures.level c.in-Ok-hang-2.ensures.tall in
    (whole _ _ _ _ _ _ _ _ _ _ _ _ _ _ _ _ _ _ c.requires.ready n made c.in-Ok-keep.ensures.ok c.in-Ok-keep.ensures.noted c.in-Ok.ensures c.in-Ok-keep.ensures.fork c.in-Ok-keep.ensures.live).level

pub make-returns-clause-tall : goal.make-returns-clause-tall
make-returns-clause-tall t c =
    let o = c.in-Some.seen in
    let n = opened _ _ _ _ o.span.now _ _ _ c.requires.ready c.requires.root c.in-Some.ensures.fork c.in-Some.ensures.child c.in-Some.ensures.left c.in-Some.ensures.right in
    let made = three _ _ _ _ _ _ _ _ _ _ _ _ _ _ _ _ _ _ c.requires.ready n c.in-Ok-under.ensures.ok c.in-Ok-under.ensures.level c.in-Ok-under.ensures.within c.in-Ok-hang.ensures.ok c.in-Ok-hang.ensures.level c.in-Ok-hang.ensures.tall c.in-Ok-hang-2.ensures.ok c.in-Ok-hang-2.ensures.level c.in-Ok-hang-2.ensures.tall in
    (whole _ _ _ _ _ _ _ _ _ _ _ _ _ _ _ _ _ _ c.requires.ready n made c.in-Ok-keep.ensures.ok c.in-Ok-keep.ensures.noted c.in-Ok.ensures c.in-Ok-keep.ensures.fork c.in-Ok-keep.ensures.live).tall

pub under-hold-requires : goal.under-hold-requires
under-hold-requires t c = (link_lent _ _ c.requires.ready.lent _ c.in-Some.ensures.within _ c.in-Some.ensures.some).lent

pub under-returns-in_default-child-clause-ok : goal.under-returns-in_default-child-clause-ok
under-returns-in_default-child-clause-ok t c = (ends c.args.levels.now c.hold.new.self c.args.chain.now c.args.depth c.args.child c.in-Some.link c.args.memory.now c.requires.ready c.in-Some.ensures.within c.in-Some.ensures.some c.in_default-child.is c.in-Ok.ensures.ok c.in-Ok.ensures.live).hangs

pub under-returns-in_default-child-clause-level : goal.under-returns-in_default-child-clause-level
under-returns-in_default-child-clause-level t c = (ends c.args.levels.now c.hold.new.self c.args.chain.now c.args.depth c.args.child c.in-Some.link c.args.memory.now c.requires.ready c.in-Some.ensures.within c.in-Some.ensures.some c.in_default-child.is c.in-Ok.ensures.ok c.in-Ok.ensures.live).level

pub under-returns-in-Ok-hang-clause-level : goal.under-returns-in-Ok-hang-clause-level
under-returns-in-Ok-hang-clause-level t c = below_child c.args.levels.now c.hang.new.levels c.args.chain.now c.args.depth c.args.child c.in-Some.link c.in-Ok-hang.made _ c.args.memory.now c.requires.ready c.in-Some.ensures.within c.in-Some.ensures.some c.requires.child c.in-Some-child.is c.in-Ok-hang.ensures.level
