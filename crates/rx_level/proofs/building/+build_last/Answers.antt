use Rattle.std.proofs.Common.{◌<◌, ◌/◌, sym, ◌∙◌, rules}
use Rattle.rx_level.proofs.Lists.{built, drop_last, take_last}
use Rattle.rx_level.proofs.building.+build_last.Goals as goal

pub returns-in_ok-whole-in-Ok-clause-level : goal.returns-in_ok-whole-in-Ok-clause-level
returns-in_ok-whole-in-Ok-clause-level t c =
    let fewer : c.args.count / 2 < c.args.count = search rules in
    built c.args.levels.now c.build_last.new.levels c.build_last-2.new.levels c.join.new.levels c.in-Ok.left c.in_ok-right.right c.in_ok-whole-in-Ok.whole _ _ _ c.in-Some.span
    c.in_ok-right.ensures.ok c.in_ok-right.ensures.level c.in-Ok.ensures.ok c.in-Ok.ensures.level c.in_ok-whole-in-Ok.ensures.level
    (drop_last c.args.spans.now c.pop.new.self c.in-Some.span (c.args.count / 2) c.args.count c.requires.enough fewer (sym c.in_ok-right.ensures.rest ∙ c.in-Some.ensures.some))

pub returns-in_ok-whole-in-Ok-clause-rest : goal.returns-in_ok-whole-in-Ok-clause-rest
returns-in_ok-whole-in-Ok-clause-rest t c =
    let fewer : c.args.count / 2 < c.args.count = search rules in
    c.in-Ok.ensures.rest
    ∙ take_last c.args.spans.now c.pop.new.self c.in-Some.span (c.args.count / 2) c.args.count c.requires.enough fewer (sym c.in_ok-right.ensures.rest ∙ c.in-Some.ensures.some)
