use Rattle.std.proofs.Common.{arith}
use Rattle.rx_level.proofs.Between.{bounds_stay, built_between, lent_cut, shorter, span_stays}
use Rattle.rx_level.proofs.building.+build_between.Goals as goal

pub build_between-requires : goal.build_between-requires
build_between-requires t c =
    let all = c.args.bounds.now in
    let less = shorter all c.split_at.result.0.now c.split_at.result.1.now c.in-Some.own.now c.in-Some.back.now _ c.split_at.ensures.front_len c.split_at.ensures.back_len c.in-Some.ensures.cases.0 in
    let parts = lent_cut c.args.levels.now all c.split_at.result.0.now c.split_at.result.1.now c.in-Some.own.now c.in-Some.back.now c.split_at.ensures.by_index.0 c.in-Some.ensures.cases.0 c.requires.lent in
    (omega (arith, less.back, c.decreases), (c.requires.sound, parts.back))

pub build_between-requires-2 : goal.build_between-requires-2
build_between-requires-2 t c =
    let all = c.args.bounds.now in
    let a = c.args.levels.now in
    let less = shorter all c.split_at.result.0.now c.split_at.result.1.now c.in-Some.own.now c.in-Some.back.now _ c.split_at.ensures.front_len c.split_at.ensures.back_len c.in-Some.ensures.cases.0 in
    let parts = lent_cut a all c.split_at.result.0.now c.split_at.result.1.now c.in-Some.own.now c.in-Some.back.now c.split_at.ensures.by_index.0 c.in-Some.ensures.cases.0 c.requires.lent in
    let one = c.in_ok-right.ensures.ok in
    (omega (arith, less.front, c.decreases), (one.sound, (bounds_stay a _ _ c.requires.sound one c.split_at.result.0.now parts.front).lent))

pub set_between-requires-clause-first : goal.set_between-requires-clause-first
set_between-requires-clause-first t c =
    let a = c.args.levels.now in
    let parts = lent_cut a c.args.bounds.now c.split_at.result.0.now c.split_at.result.1.now c.in-Some.own.now c.in-Some.back.now c.split_at.ensures.by_index.0 c.in-Some.ensures.cases.0 c.requires.lent in
    let one = c.in_ok-right.ensures.ok in
    (span_stays _ _ _ one.sound c.in-Ok.ensures.ok _ (span_stays a _ _ c.requires.sound one _ parts.first).lent).lent

pub set_between-requires-clause-last : goal.set_between-requires-clause-last
set_between-requires-clause-last t c =
    let a = c.args.levels.now in
    let parts = lent_cut a c.args.bounds.now c.split_at.result.0.now c.split_at.result.1.now c.in-Some.own.now c.in-Some.back.now c.split_at.ensures.by_index.0 c.in-Some.ensures.cases.0 c.requires.lent in
    let one = c.in_ok-right.ensures.ok in
    (span_stays _ _ _ one.sound c.in-Ok.ensures.ok _ (span_stays a _ _ c.requires.sound one _ parts.last).lent).lent

pub returns-in_ok-whole-in-Ok-clause-level : goal.returns-in_ok-whole-in-Ok-clause-level
returns-in_ok-whole-in-Ok-clause-level t c =
    built_between c.args.levels.now c.build_between.new.levels c.build_between-2.new.levels c.set_between.new.levels c.args.bounds.now c.split_at.result.0.now c.split_at.result.1.now c.in-Some.own.now c.in-Some.back.now
    c.in-Ok.left c.in_ok-right.right c.in_ok-whole-in-Ok.whole c.requires.sound c.requires.lent c.split_at.ensures.by_index.0 c.in-Some.ensures.cases.0
    c.in_ok-right.ensures.ok c.in_ok-right.ensures.level c.in-Ok.ensures.ok c.in-Ok.ensures.level c.in_ok-whole-in-Ok.ensures.level
