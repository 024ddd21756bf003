use Rattle.std.proofs.Common.{arith, ◌<◌, ℕ, [], ◌∷◌, Some, ap, sym, ◌∙◌, subst}
use Rattle.slab.specs.Slab.{Slab}
use Rattle.rx_level.specs.declared.nodes.Node.{Node}
use Rattle.rx_level.specs.Step.{Owns}
use Rattle.rx_graph.specs.Graph.{handle_count, tree_in}
use Rattle.rx_graph.proofs.GraphSteps.{owns_from}
use Rattle.rx_graph.proofs.Back.{back_with, back_none, back_spent, few_back, one_root}
use Rattle.rx_or.proofs.UnionRoots.{placed_taken, some_canonical, size_back, some_tree, none_tree}
use Rattle.rx_or.proofs.unions.items_or.Goals as goal

pub level_or-requires-clause-owns : goal.level_or-requires-clause-owns
level_or-requires-clause-owns c =
    (subst (λ (s : Slab Node). Owns s (Some c.args.g ∷ Some c.args.h ∷ [])) (sym c.take_levels-levels.ensures.levels) (owns_from c.args.arena.now _ c.sound.ensures.sound c.requires.held))

pub level_or-requires-clause-first : goal.level_or-requires-clause-first
level_or-requires-clause-first c = (placed_taken c.args.arena.now c.take_levels-levels.new.self c.take_levels-levels.result c.parts.result.now c.args.g c.args.h c.take_levels-levels.ensures.levels c.take_levels-levels.ensures.rest c.parts.ensures.items c.requires.held c.sound.ensures.canonical).0

pub level_or-requires-clause-second : goal.level_or-requires-clause-second
level_or-requires-clause-second c = (placed_taken c.args.arena.now c.take_levels-levels.new.self c.take_levels-levels.result c.parts.result.now c.args.g c.args.h c.take_levels-levels.ensures.levels c.take_levels-levels.ensures.rest c.parts.ensures.items c.requires.held c.sound.ensures.canonical).1

pub returns-in-Err-clause-over : goal.returns-in-Err-clause-over
returns-in-Err-clause-over c fault = subst (λ (x : ℕ). c.args.limit < x) (size_back c.args.arena.now c.take_levels-levels.new.self c.take_levels-levels.result c.parts.result.now c.args.g c.args.h c.take_levels-levels.ensures.levels c.take_levels-levels.ensures.rest c.parts.ensures.items) (c.in-Err.ensures.over fault)

pub everything-requires : goal.everything-requires
everything-requires c =
    omega (
      arith,
      ap handle_count c.put_levels-in-Ok-None.ensures,
      few_back c.args.arena.now c.take_levels-levels.new.self c.take_levels-levels.result c.level_or.new.levels c.args.g c.args.h (c.in-Ok-None.field-0 ∷ []) c.sound.ensures.few c.take_levels-levels.ensures.levels c.take_levels-levels.ensures.rest c.in-Ok-None.ensures.ok (one_root c.in-Ok-None.field-0),
    )

pub returns-in-Ok-Some-clause-tree : goal.returns-in-Ok-Some-clause-tree
returns-in-Ok-Some-clause-tree c =
    some_tree c.args.arena.now c.take_levels-levels.new.self c.put_levels.new.self c.take_levels-levels.result c.level_or.new.levels c.parts.result.now c.args.g c.args.h c.in-Ok-Some.key c.in-Ok-Some.field-0 c.of.result
    c.take_levels-levels.ensures.levels c.take_levels-levels.ensures.rest c.parts.ensures.items c.put_levels.ensures
    (subst (λ (s : Slab Node). Owns s (Some c.args.g ∷ Some c.args.h ∷ [])) (sym c.take_levels-levels.ensures.levels) (owns_from c.args.arena.now _ c.sound.ensures.sound c.requires.held))
    c.in-Ok-Some.ensures.ok c.in-Ok-Some.field-0-is c.of.ensures c.in-Ok-Some.ensures.level

pub returns-in-Ok-None-clause-tree : goal.returns-in-Ok-None-clause-tree
returns-in-Ok-None-clause-tree c =
    ap (tree_in c.everything.new.self) c.everything.ensures.root
    ∙ none_tree c.args.arena.now c.take_levels-levels.new.self c.take_levels-levels.result c.level_or.new.levels c.parts.result.now c.args.g c.args.h c.in-Ok-None.field-0 c.take_levels-levels.ensures.levels c.take_levels-levels.ensures.rest c.parts.ensures.items c.requires.held c.sound.ensures.canonical c.in-Ok-None.field-0-is c.in-Ok-None.ensures.level

pub put_levels-requires-clause-few : goal.put_levels-requires-clause-few
put_levels-requires-clause-few c =
    omega (
      arith,
      few_back c.args.arena.now c.take_levels-levels.new.self c.take_levels-levels.result c.level_or.new.levels c.args.g c.args.h (c.in-Ok-Some.field-0 ∷ []) c.sound.ensures.few c.take_levels-levels.ensures.levels c.take_levels-levels.ensures.rest c.in-Ok-Some.ensures.ok (one_root c.in-Ok-Some.field-0),
    )

pub put_levels-requires-clause-canonical : goal.put_levels-requires-clause-canonical
put_levels-requires-clause-canonical c =
    back_with c.args.arena.now c.take_levels-levels.new.self c.take_levels-levels.result c.level_or.new.levels c.args.g c.args.h c.in-Ok-Some.key c.in-Ok-Some.field-0
    c.take_levels-levels.ensures.levels c.take_levels-levels.ensures.rest c.in-Ok-Some.field-0-is c.in-Ok-Some.ensures.ok
    (some_canonical c.args.arena.now c.take_levels-levels.new.self c.take_levels-levels.result c.level_or.new.levels c.parts.result.now c.args.g c.args.h c.in-Ok-Some.key c.in-Ok-Some.field-0
    c.take_levels-levels.ensures.levels c.take_levels-levels.ensures.rest c.parts.ensures.items c.in-Ok-Some.field-0-is c.requires.held
    (subst (λ (s : Slab Node). Owns s (Some c.args.g ∷ Some c.args.h ∷ [])) (sym c.take_levels-levels.ensures.levels) (owns_from c.args.arena.now _ c.sound.ensures.sound c.requires.held))
    c.in-Ok-Some.ensures.ok c.in-Ok-Some.ensures.level c.sound.ensures.canonical)
    c.sound.ensures.canonical

pub put_levels-requires-in-Ok-None-clause-few : goal.put_levels-requires-in-Ok-None-clause-few
put_levels-requires-in-Ok-None-clause-few c =
    omega (
      arith,
      few_back c.args.arena.now c.take_levels-levels.new.self c.take_levels-levels.result c.level_or.new.levels c.args.g c.args.h (c.in-Ok-None.field-0 ∷ []) c.sound.ensures.few c.take_levels-levels.ensures.levels c.take_levels-levels.ensures.rest c.in-Ok-None.ensures.ok (one_root c.in-Ok-None.field-0),
    )

pub put_levels-requires-in-Ok-None-clause-canonical : goal.put_levels-requires-in-Ok-None-clause-canonical
put_levels-requires-in-Ok-None-clause-canonical c =
    back_none c.args.arena.now c.take_levels-levels.new.self c.take_levels-levels.result c.level_or.new.levels c.args.g c.args.h c.in-Ok-None.field-0
    c.take_levels-levels.ensures.levels c.take_levels-levels.ensures.rest c.in-Ok-None.field-0-is c.in-Ok-None.ensures.ok c.sound.ensures.canonical

pub put_levels-requires-in-Err-clause-few : goal.put_levels-requires-in-Err-clause-few
put_levels-requires-in-Err-clause-few c =
    omega (
      arith,
      few_back c.args.arena.now c.take_levels-levels.new.self c.take_levels-levels.result c.level_or.new.levels c.args.g c.args.h [] c.sound.ensures.few c.take_levels-levels.ensures.levels c.take_levels-levels.ensures.rest c.in-Err.ensures.err (omega arith),
    )

pub put_levels-requires-in-Err-clause-canonical : goal.put_levels-requires-in-Err-clause-canonical
put_levels-requires-in-Err-clause-canonical c =
    back_spent c.args.arena.now c.take_levels-levels.new.self c.take_levels-levels.result c.level_or.new.levels c.args.g c.args.h
    c.take_levels-levels.ensures.levels c.take_levels-levels.ensures.rest c.in-Err.ensures.err c.sound.ensures.canonical
