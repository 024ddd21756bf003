use Rattle.std.proofs.Common.{◌∷◌, [], Some, arith, ap, sym, ◌∙◌, subst}
use Rattle.slab.specs.Slab.{Slab, slab_len}
use Rattle.rx_level.specs.declared.nodes.Node.{Node}
use Rattle.rx_level.specs.Step.{Owns}
use Rattle.rx_graph.specs.declared.handles.Root.TheVariants.{Items}
use Rattle.rx_graph.specs.Graph.{handle_count, link_of}
use Rattle.rx_graph.proofs.GraphSteps.{owns_from}
use Rattle.rx_graph.proofs.Back.{back_with, back_none, back_spent, few_back, one_root, times_first, times_second}
use Rattle.rx_and.proofs.HungLevels.{level_canonical, few_cut, few_made, few_reached, number_moved}
use Rattle.rx_and.proofs.MeetRoots.{some_tree, some_canonical}
use Rattle.rx_and.proofs.intersections.items_and.Goals as goal

pub level_and-requires-clause-owns : goal.level_and-requires-clause-owns
level_and-requires-clause-owns c =
    subst (λ (s : Slab Node). Owns s (Some c.args.g ∷ Some c.args.h ∷ [])) (sym c.take_levels-levels.ensures.levels)
    (owns_from c.args.arena.now _ c.sound.ensures.sound c.requires.held)

pub level_and-requires-clause-first : goal.level_and-requires-clause-first
level_and-requires-clause-first c =
    level_canonical c.args.arena.now c.parts.result.now c.take_levels-levels.result c.args.g (c.parts.ensures.items ∙ ap (λ x. x.nullable) c.take_levels-levels.ensures.rest) c.take_levels-levels.ensures.levels
    (omega (arith, c.requires.held (Items c.args.g), times_first (Items c.args.g) (Items c.args.h))) c.sound.ensures.canonical

pub level_and-requires-clause-second : goal.level_and-requires-clause-second
level_and-requires-clause-second c =
    level_canonical c.args.arena.now c.parts.result.now c.take_levels-levels.result c.args.h (c.parts.ensures.items ∙ ap (λ x. x.nullable) c.take_levels-levels.ensures.rest) c.take_levels-levels.ensures.levels
    (omega (arith, c.requires.held (Items c.args.h), times_second (Items c.args.g) (Items c.args.h))) c.sound.ensures.canonical

pub put_levels-requires-clause-few : goal.put_levels-requires-clause-few
put_levels-requires-clause-few c =
    omega (
      arith,
      few_back c.args.arena.now c.take_levels-levels.new.self c.take_levels-levels.result c.level_and.new.levels c.args.g c.args.h (c.in-Ok-Some.field-0 ∷ []) c.sound.ensures.few c.take_levels-levels.ensures.levels c.take_levels-levels.ensures.rest c.in-Ok-Some.ensures.ok (one_root c.in-Ok-Some.field-0),
    )

pub put_levels-requires-clause-canonical : goal.put_levels-requires-clause-canonical
put_levels-requires-clause-canonical c =
    back_with c.args.arena.now c.take_levels-levels.new.self c.take_levels-levels.result c.level_and.new.levels c.args.g c.args.h c.in-Ok-Some.key c.in-Ok-Some.field-0
    c.take_levels-levels.ensures.levels c.take_levels-levels.ensures.rest c.in-Ok-Some.field-0-is c.in-Ok-Some.ensures.ok
    (some_canonical c.args.arena.now c.take_levels-levels.result c.level_and.new.levels c.args.g c.args.h c.in-Ok-Some.key c.in-Ok-Some.field-0
    c.take_levels-levels.ensures.levels c.in-Ok-Some.field-0-is c.requires.held
    (subst (λ (s : Slab Node). Owns s (Some c.args.g ∷ Some c.args.h ∷ [])) (sym c.take_levels-levels.ensures.levels) (owns_from c.args.arena.now _ c.sound.ensures.sound c.requires.held))
    c.in-Ok-Some.ensures.ok c.in-Ok-Some.ensures.level c.sound.ensures.canonical)
    c.sound.ensures.canonical

pub put_levels-requires-in-Ok-None-clause-few : goal.put_levels-requires-in-Ok-None-clause-few
put_levels-requires-in-Ok-None-clause-few c =
    omega (
      arith,
      few_back c.args.arena.now c.take_levels-levels.new.self c.take_levels-levels.result c.level_and.new.levels c.args.g c.args.h (c.in-Ok-None.field-0 ∷ []) c.sound.ensures.few c.take_levels-levels.ensures.levels c.take_levels-levels.ensures.rest c.in-Ok-None.ensures.ok (one_root c.in-Ok-None.field-0),
    )

pub put_levels-requires-in-Ok-None-clause-canonical : goal.put_levels-requires-in-Ok-None-clause-canonical
put_levels-requires-in-Ok-None-clause-canonical c =
    back_none c.args.arena.now c.take_levels-levels.new.self c.take_levels-levels.result c.level_and.new.levels c.args.g c.args.h c.in-Ok-None.field-0
    c.take_levels-levels.ensures.levels c.take_levels-levels.ensures.rest c.in-Ok-None.field-0-is c.in-Ok-None.ensures.ok c.sound.ensures.canonical

pub put_levels-requires-in-Err-clause-few : goal.put_levels-requires-in-Err-clause-few
put_levels-requires-in-Err-clause-few c =
    omega (
      arith,
      few_back c.args.arena.now c.take_levels-levels.new.self c.take_levels-levels.result c.level_and.new.levels c.args.g c.args.h [] c.sound.ensures.few c.take_levels-levels.ensures.levels c.take_levels-levels.ensures.rest c.in-Err.ensures.err (omega arith),
    )

pub put_levels-requires-in-Err-clause-canonical : goal.put_levels-requires-in-Err-clause-canonical
put_levels-requires-in-Err-clause-canonical c =
    back_spent c.args.arena.now c.take_levels-levels.new.self c.take_levels-levels.result c.level_and.new.levels c.args.g c.args.h
    c.take_levels-levels.ensures.levels c.take_levels-levels.ensures.rest c.in-Err.ensures.err c.sound.ensures.canonical

pub nothing-requires : goal.nothing-requires
nothing-requires c =
    omega (
      arith,
      ap handle_count c.put_levels-in-Ok-None.ensures,
      few_back c.args.arena.now c.take_levels-levels.new.self c.take_levels-levels.result c.level_and.new.levels c.args.g c.args.h (c.in-Ok-None.field-0 ∷ []) c.sound.ensures.few c.take_levels-levels.ensures.levels c.take_levels-levels.ensures.rest c.in-Ok-None.ensures.ok (one_root c.in-Ok-None.field-0),
    )

pub returns-in-Ok-Some-clause-tree : goal.returns-in-Ok-Some-clause-tree
returns-in-Ok-Some-clause-tree c =
    some_tree c.args.arena.now c.put_levels.new.self c.take_levels-levels.new.self c.take_levels-levels.result c.level_and.new.levels c.args.g c.args.h c.in-Ok-Some.key c.in-Ok-Some.field-0 c.of.result
    c.take_levels-levels.ensures.levels c.put_levels.ensures
    (subst (λ (s : Slab Node). Owns s (Some c.args.g ∷ Some c.args.h ∷ [])) (sym c.take_levels-levels.ensures.levels) (owns_from c.args.arena.now _ c.sound.ensures.sound c.requires.held))
    c.in-Ok-Some.ensures.ok c.in-Ok-Some.field-0-is c.of.ensures c.in-Ok-Some.ensures.level

pub returns-in-Ok-Some-clause-live : goal.returns-in-Ok-Some-clause-live
returns-in-Ok-Some-clause-live c before n number =
    omega (
      arith,
      few_made c.args.arena.now c.parts.result.now c.take_levels-levels.result c.args.g c.args.h (slab_len c.level_and.new.levels) (c.parts.ensures.items ∙ ap (λ x. x.nullable) c.take_levels-levels.ensures.rest) c.take_levels-levels.ensures.levels
          c.in-Ok-Some.ensures.live before n number,
      ap (λ x. slab_len x.store) c.put_levels.ensures,
    )

pub returns-in-Ok-None-clause-live : goal.returns-in-Ok-None-clause-live
returns-in-Ok-None-clause-live c before n number =
    omega (
      arith,
      few_made c.args.arena.now c.parts.result.now c.take_levels-levels.result c.args.g c.args.h (slab_len c.level_and.new.levels) (c.parts.ensures.items ∙ ap (λ x. x.nullable) c.take_levels-levels.ensures.rest) c.take_levels-levels.ensures.levels
          c.in-Ok-None.ensures.live before n number,
      ap slab_len c.nothing.ensures.store,
      ap (λ x. slab_len x.store) c.put_levels-in-Ok-None.ensures,
    )

pub returns-in-Ok-Some-clause-items : goal.returns-in-Ok-Some-clause-items
returns-in-Ok-Some-clause-items c before n m k first second third =
    few_reached c.args.arena.now c.parts.result.now c.take_levels-levels.result c.args.g c.args.h k (c.parts.ensures.items ∙ ap (λ x. x.nullable) c.take_levels-levels.ensures.rest) c.take_levels-levels.ensures.levels
    (λ earlier i j one other. c.in-Ok-Some.ensures.items earlier i j k one other
    (number_moved c.put_levels.new.self.store c.level_and.new.levels (link_of c.of.result) c.in-Ok-Some.field-0 (ap (λ x. x.store) c.put_levels.ensures) (ap link_of c.of.ensures ∙ sym c.in-Ok-Some.field-0-is) k third))
    before n m first second

pub returns-in-Ok-None-clause-items : goal.returns-in-Ok-None-clause-items
returns-in-Ok-None-clause-items c before n m k first second third =
    few_reached c.args.arena.now c.parts.result.now c.take_levels-levels.result c.args.g c.args.h k (c.parts.ensures.items ∙ ap (λ x. x.nullable) c.take_levels-levels.ensures.rest) c.take_levels-levels.ensures.levels
    (λ earlier i j one other. c.in-Ok-None.ensures.items earlier i j k one other
    (number_moved c.nothing.new.self.store c.level_and.new.levels (link_of c.nothing.result) c.in-Ok-None.field-0 (c.nothing.ensures.store ∙ ap (λ x. x.store) c.put_levels-in-Ok-None.ensures) (ap link_of c.nothing.ensures.root ∙ sym c.in-Ok-None.field-0-is) k third))
    before n m first second

pub returns-in-Ok-Some-clause-same : goal.returns-in-Ok-Some-clause-same
returns-in-Ok-Some-clause-same c e = omega (arith, c.in-Ok-Some.ensures.same e, ap slab_len c.take_levels-levels.ensures.levels, ap (λ x. slab_len x.store) c.put_levels.ensures)

pub returns-in-Ok-None-clause-same : goal.returns-in-Ok-None-clause-same
returns-in-Ok-None-clause-same c e =
    omega (arith, c.in-Ok-None.ensures.same e, ap slab_len c.take_levels-levels.ensures.levels, ap slab_len c.nothing.ensures.store, ap (λ x. slab_len x.store) c.put_levels-in-Ok-None.ensures)

pub returns-in-Ok-Some-clause-live_turned : goal.returns-in-Ok-Some-clause-live_turned
returns-in-Ok-Some-clause-live_turned c before n number =
    omega (
      arith,
      few_made c.args.arena.now c.parts.result.now c.take_levels-levels.result c.args.h c.args.g (slab_len c.level_and.new.levels) (c.parts.ensures.items ∙ ap (λ x. x.nullable) c.take_levels-levels.ensures.rest) c.take_levels-levels.ensures.levels c.in-Ok-Some.ensures.live_turned before n number,
      ap (λ x. slab_len x.store) c.put_levels.ensures,
    )

pub returns-in-Ok-Some-clause-items_turned : goal.returns-in-Ok-Some-clause-items_turned
returns-in-Ok-Some-clause-items_turned c before n m k first second third =
    few_reached c.args.arena.now c.parts.result.now c.take_levels-levels.result c.args.h c.args.g k (c.parts.ensures.items ∙ ap (λ x. x.nullable) c.take_levels-levels.ensures.rest) c.take_levels-levels.ensures.levels
    (λ earlier i j one other. c.in-Ok-Some.ensures.items_turned earlier i j k one other
    (number_moved c.put_levels.new.self.store c.level_and.new.levels (link_of c.of.result) c.in-Ok-Some.field-0 (ap (λ x. x.store) c.put_levels.ensures) (ap link_of c.of.ensures ∙ sym c.in-Ok-Some.field-0-is) k third))
    before n m first second

pub returns-in-Ok-Some-clause-by_bits : goal.returns-in-Ok-Some-clause-by_bits
returns-in-Ok-Some-clause-by_bits c bare bits few =
    omega (
      arith,
      few_cut c.args.arena.now c.take_levels-levels.result c.args.g c.args.h (slab_len c.level_and.new.levels) c.take_levels-levels.ensures.levels c.in-Ok-Some.ensures.by_bits bare bits few,
      ap (λ x. slab_len x.store) c.put_levels.ensures,
    )

pub returns-in-Ok-Some-clause-by_bits_turned : goal.returns-in-Ok-Some-clause-by_bits_turned
returns-in-Ok-Some-clause-by_bits_turned c bare bits few =
    omega (
      arith,
      few_cut c.args.arena.now c.take_levels-levels.result c.args.h c.args.g (slab_len c.level_and.new.levels) c.take_levels-levels.ensures.levels c.in-Ok-Some.ensures.by_bits_turned bare bits few,
      ap (λ x. slab_len x.store) c.put_levels.ensures,
    )

pub returns-in-Ok-None-clause-live_turned : goal.returns-in-Ok-None-clause-live_turned
returns-in-Ok-None-clause-live_turned c before n number =
    omega (
      arith,
      few_made c.args.arena.now c.parts.result.now c.take_levels-levels.result c.args.h c.args.g (slab_len c.level_and.new.levels) (c.parts.ensures.items ∙ ap (λ x. x.nullable) c.take_levels-levels.ensures.rest) c.take_levels-levels.ensures.levels c.in-Ok-None.ensures.live_turned before n number,
      ap slab_len c.nothing.ensures.store,
      ap (λ x. slab_len x.store) c.put_levels-in-Ok-None.ensures,
    )

pub returns-in-Ok-None-clause-items_turned : goal.returns-in-Ok-None-clause-items_turned
returns-in-Ok-None-clause-items_turned c before n m k first second third =
    few_reached c.args.arena.now c.parts.result.now c.take_levels-levels.result c.args.h c.args.g k (c.parts.ensures.items ∙ ap (λ x. x.nullable) c.take_levels-levels.ensures.rest) c.take_levels-levels.ensures.levels
    (λ earlier i j one other. c.in-Ok-None.ensures.items_turned earlier i j k one other
    (number_moved c.nothing.new.self.store c.level_and.new.levels (link_of c.nothing.result) c.in-Ok-None.field-0 (c.nothing.ensures.store ∙ ap (λ x. x.store) c.put_levels-in-Ok-None.ensures) (ap link_of c.nothing.ensures.root ∙ sym c.in-Ok-None.field-0-is) k third))
    before n m first second

pub returns-in-Ok-None-clause-by_bits : goal.returns-in-Ok-None-clause-by_bits
returns-in-Ok-None-clause-by_bits c bare bits few =
    omega (
      arith,
      few_cut c.args.arena.now c.take_levels-levels.result c.args.g c.args.h (slab_len c.level_and.new.levels) c.take_levels-levels.ensures.levels c.in-Ok-None.ensures.by_bits bare bits few,
      ap slab_len c.nothing.ensures.store,
      ap (λ x. slab_len x.store) c.put_levels-in-Ok-None.ensures,
    )

pub returns-in-Ok-None-clause-by_bits_turned : goal.returns-in-Ok-None-clause-by_bits_turned
returns-in-Ok-None-clause-by_bits_turned c bare bits few =
    omega (
      arith,
      few_cut c.args.arena.now c.take_levels-levels.result c.args.h c.args.g (slab_len c.level_and.new.levels) c.take_levels-levels.ensures.levels c.in-Ok-None.ensures.by_bits_turned bare bits few,
      ap slab_len c.nothing.ensures.store,
      ap (λ x. slab_len x.store) c.put_levels-in-Ok-None.ensures,
    )
