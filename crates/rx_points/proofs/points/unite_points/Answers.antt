use Rattle.std.proofs.Common.{arith, ap, ◌∙◌}
use Rattle.rx_tree.specs.Tree.{level_size}
use Rattle.rx_tree.specs.Points.{items_of}
use Rattle.rx_level.specs.Step.{level_of}
use Rattle.rx_level.specs.Between.{spans_between}
use Rattle.rx_points.proofs.Keys.{length_between}
use Rattle.rx_points.proofs.Levels.{items_size, placed_rising, united_level}
use Rattle.rx_points.proofs.points.unite_points.Goals as goal

pub united_bounds-requires-clause-first : goal.united_bounds-requires-clause-first
united_bounds-requires-clause-first c = placed_rising c.args.parts.now (level_of c.args.levels.now c.args.g) c.requires.first

pub united_bounds-requires-clause-second : goal.united_bounds-requires-clause-second
united_bounds-requires-clause-second c = placed_rising c.args.parts.now (level_of c.args.levels.now c.args.h) c.requires.second

pub returns-then-len-limit-clause-over : goal.returns-then-len-limit-clause-over
returns-then-len-limit-clause-over c e =
    let a = c.args.levels.now in
    let is = ap level_size (united_level c.args.parts.now (level_of a c.args.g) (level_of a c.args.h) (spans_between a c.in-Ok.bounds) c.requires.points c.requires.first c.requires.second c.in-Ok.ensures.united) in
    omega (arith, is, items_size (spans_between a c.in-Ok.bounds), length_between a c.in-Ok.bounds, c.len.ensures, c.if-len-limit.true)

pub returns-clause-level : goal.returns-clause-level
returns-clause-level c =
    let a = c.args.levels.now in
    c.in-Ok-build_between.ensures.level
    ∙ ap (λ b. items_of (spans_between a b)) c.as_slice.ensures
    ∙ united_level c.args.parts.now (level_of a c.args.g) (level_of a c.args.h) (spans_between a c.in-Ok.bounds) c.requires.points c.requires.first c.requires.second c.in-Ok.ensures.united

pub returns-clause-small : goal.returns-clause-small
returns-clause-small c =
    let a = c.args.levels.now in
    let is = ap level_size (c.in-Ok-build_between.ensures.level ∙ ap (λ b. items_of (spans_between a b)) c.as_slice.ensures) in
    omega (arith, is, items_size (spans_between a c.in-Ok.bounds), length_between a c.in-Ok.bounds, c.len.ensures, c.if-len-limit.false)
