use Rattle.std.proofs.Common.{[], ◌∷◌, arith, ap, ◌∙◌}
use Rattle.rx_level.specs.Step.{level_of}
use Rattle.rx_level.specs.Between.{span_at}
use Rattle.rx_level.proofs.Between.{fork_span}
use Rattle.rx_points.specs.Keys.{spans_at}
use Rattle.rx_points.proofs.Keys.{keys_append, one_more}
use Rattle.rx_points.proofs.Levels.{fewer_left, fewer_right, spans_added}
use Rattle.rx_points.proofs.reading.+add_keys.Goals as goal

pub add_keys-requires : goal.add_keys-requires
add_keys-requires t c =
    let o = c.in-Some-look.seen in
    let a = c.args.levels.now in
    (omega (arith, fewer_left (level_of a c.args.root) (level_of a o.left) o.span.now (level_of a o.child) (level_of a o.right) (ap (level_of a) c.in-Some.is ∙ c.in-Some-look.ensures.level), c.decreases), (c.in-Some-look.ensures.left, c.requires.keys))

pub add_keys-requires-2 : goal.add_keys-requires-2
add_keys-requires-2 t c =
    let o = c.in-Some-look.seen in
    let a = c.args.levels.now in
    (omega (arith, fewer_right (level_of a c.args.root) (level_of a o.left) o.span.now (level_of a o.child) (level_of a o.right) (ap (level_of a) c.in-Some.is ∙ c.in-Some-look.ensures.level), c.decreases), (c.in-Some-look.ensures.right, one_more a c.in-Some.key c.args.root c.add_keys.new.keys c.push.new.self c.in-Some.is c.requires.root c.in_ok-push.ensures.ok c.in_ok-add_keys.ensures.lent))

pub returns-clause-spans : goal.returns-clause-spans
returns-clause-spans t c =
    let o = c.in-Some-look.seen in
    let a = c.args.levels.now in
    spans_added (level_of a c.args.root) (level_of a o.left) (level_of a o.child) (level_of a o.right)
    o.span.now (span_at a c.in-Some.key) (spans_at a c.args.keys.now) (spans_at a c.add_keys.new.keys) (spans_at a c.push.new.self) (spans_at a c.add_keys-2.new.keys)
    (ap (level_of a) c.in-Some.is ∙ c.in-Some-look.ensures.level) (fork_span _ _ c.in-Some-look.ensures.fork) c.in_ok-add_keys.ensures.spans
    (ap (spans_at a) c.in_ok-push.ensures.ok ∙ keys_append a c.add_keys.new.keys (c.in-Some.key ∷ [])) c.in_ok-add_keys-2.ensures.spans
