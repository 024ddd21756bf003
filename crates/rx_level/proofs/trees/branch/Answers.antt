use Rattle.std.proofs.Common.{◌≡◌, [], arith, ◌∙◌, ap, refl}
use Rattle.rx_level.specs.Tree.{fork_of}
use Rattle.rx_level.specs.Store.{tree_of}
use Rattle.rx_level.proofs.Steps.{step_onto, step_within, tree_of-parts, tree_onto, held_there}
use Rattle.rx_level.proofs.Heights.{near_tree}
use Rattle.rx_level.proofs.trees.branch.Goals as goal

pub make-requires-clause-near : goal.make-requires-clause-near
make-requires-clause-near c = near_tree _ c.requires.owns.sound _ _ c.requires.near

pub returns-in-Ok-clause-ok : goal.returns-in-Ok-clause-ok
returns-in-Ok-clause-ok c = step_onto _ _ _ _ c.requires.owns.sound (c.in-Ok.ensures.sound [] c.requires.owns.sound) c.in-Ok.ensures.ok_onto (λ m. omega (arith, c.in-Ok.ensures.ok_held m))

pub returns-in-Err-clause-err : goal.returns-in-Err-clause-err
returns-in-Err-clause-err c = step_within _ _ _ _ (c.in-Err.ensures.sound [] c.requires.owns.sound) c.in-Err.ensures.err_within (λ m. omega (arith, c.in-Err.ensures.err_held m))

pub returns-in-Ok-clause-fork : goal.returns-in-Ok-clause-fork
returns-in-Ok-clause-fork c =
    let onto = c.in-Ok.ensures.ok_onto in
    let sound = c.requires.owns.sound in
    let same_child : tree_of c.make.new.nodes c.args.child ≡ tree_of c.args.nodes.now c.args.child = tree_onto _ _ sound onto c.args.child (held_there c.args.nodes.now c.args.child (λ m. omega (arith, c.requires.owns.owned m))) in
    let same_left : tree_of c.make.new.nodes c.args.left ≡ tree_of c.args.nodes.now c.args.left = tree_onto _ _ sound onto c.args.left (held_there c.args.nodes.now c.args.left (λ m. omega (arith, c.requires.owns.owned m))) in
    let same_right : tree_of c.make.new.nodes c.args.right ≡ tree_of c.args.nodes.now c.args.right = tree_onto _ _ sound onto c.args.right (held_there c.args.nodes.now c.args.right (λ m. omega (arith, c.requires.owns.owned m))) in
    ap fork_of (tree_of-parts _ (c.in-Ok.ensures.sound [] sound) c.in-Ok.key _ c.in-Ok.ensures.made)
    ∙ (rw (same_child, same_left, same_right) refl)
