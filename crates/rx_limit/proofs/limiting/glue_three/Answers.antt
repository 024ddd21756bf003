use Rattle.std.proofs.Common.{◌≡◌, ◌<◌, IfOk, IfErr, arith, ap, sym, ◌∙◌, subst}
use Rattle.rx_graph.specs.declared.faults.GraphFault.{GraphFault}
use Rattle.rx_tree.specs.Tree.{Level, level_size}
use Rattle.rx_level.specs.Step.{level_of}
use Rattle.rx_weld.specs.Seamless.{IsSeamless}
use Rattle.rx_weld.proofs.Seamless.{glue_are_apart}
use Rattle.rx_limit.proofs.Placed.{three_are}
use Rattle.rx_weld.proofs.Welded.{owned_lent}
use Rattle.rx_limit.proofs.Placed.{three_placed}
use Rattle.rx_limit.proofs.limiting.glue_three.Goals as goal

pub glue_within-requires-clause-apart : goal.glue_within-requires-clause-apart
glue_within-requires-clause-apart c = subst IsSeamless (sym c.in-Ok.ensures.level) (glue_are_apart (level_of c.args.levels.now c.args.left) (level_of c.args.levels.now c.args.middle) c.requires.middle)

pub returns-in-Ok-glue_within-clause-level : goal.returns-in-Ok-glue_within-clause-level
returns-in-Ok-glue_within-clause-level c =
    c.in-Ok-glue_within.ensures.level ∙ three_are c.args.levels.now c.glue.new.levels c.args.left c.args.middle c.args.right c.in-Ok.front c.requires.owns c.in-Ok.ensures.ok c.in-Ok.ensures.level

pub returns-in-Err-clause-over : goal.returns-in-Err-clause-over
returns-in-Err-clause-over c e =
    let is = ap level_size (three_are c.args.levels.now c.glue.new.levels c.args.left c.args.middle c.args.right c.in-Ok.front c.requires.owns c.in-Ok.ensures.ok c.in-Ok.ensures.level) in
    omega (arith, is, c.in-Err.ensures.over e)

pub lone_item-requires-clause-left : goal.lone_item-requires-clause-left
lone_item-requires-clause-left c = owned_lent c.args.levels.now _ c.args.left c.requires.owns (λ m. omega arith)

pub lone_item-requires-clause-middle : goal.lone_item-requires-clause-middle
lone_item-requires-clause-middle c = owned_lent c.args.levels.now _ c.args.middle c.requires.owns (λ m. omega arith)

pub lone_item-requires-clause-right : goal.lone_item-requires-clause-right
lone_item-requires-clause-right c = owned_lent c.args.levels.now _ c.args.right c.requires.owns (λ m. omega arith)

pub returns-in-Some-clause-level : goal.returns-in-Some-clause-level
returns-in-Some-clause-level c =
    subst (λ (x : Level). IfOk c.place_between.result (λ r. level_of c.place_between.new.levels r ≡ x))
    (three_placed c.args.levels.now c.args.left c.args.middle c.args.right c.in-Some.key c.in-Some.ensures.middle c.requires.left c.requires.middle c.in-Some.ensures.one c.in-Some.ensures.left c.in-Some.ensures.right)
    c.place_between.ensures.level

pub returns-in-Some-clause-over : goal.returns-in-Some-clause-over
returns-in-Some-clause-over c =
    subst (λ (x : Level). IfErr c.place_between.result (λ fault. fault ≡ GraphFault.OverLimit → c.args.limit < level_size x))
    (three_placed c.args.levels.now c.args.left c.args.middle c.args.right c.in-Some.key c.in-Some.ensures.middle c.requires.left c.requires.middle c.in-Some.ensures.one c.in-Some.ensures.left c.in-Some.ensures.right)
    c.place_between.ensures.over
