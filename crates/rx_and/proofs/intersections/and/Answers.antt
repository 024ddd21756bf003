use Rattle.std.proofs.Common.{arith, ap, sym, ◌∙◌}
use Rattle.slab.specs.Slab.{slab_len}
use Rattle.rx_graph.specs.Graph.{link_of}
use Rattle.rx_and.proofs.HungLevels.{cut_for, few_for, reached_for, given_on, given_nothing}
use Rattle.rx_and.proofs.MeetRoots.{given_items_and, keys_items_and, one_for_two, none_for_two}
use Rattle.rx_and.proofs.intersections.and.Goals as goal

pub returns-in-Ok-clause-keys : goal.returns-in-Ok-clause-keys
returns-in-Ok-clause-keys c ps =
    keys_items_and c.args.arena.now c.items_and.new.arena c.args.g c.args.h c.in-Ok.whole c.in-Items-Items.first c.in-Items-Items.next (sym c.root.ensures ∙ c.in-Items-Items.is-0) (sym c.root-2.ensures ∙ c.in-Items-Items.is-1)
    c.requires.held c.in-Ok.ensures.tree c.sound.ensures.canonical ps

pub returns-in-Ok-clause-canonical : goal.returns-in-Ok-clause-canonical
returns-in-Ok-clause-canonical c =
    given_items_and c.args.arena.now c.items_and.new.arena c.args.g c.args.h c.in-Ok.whole c.in-Items-Items.first c.in-Items-Items.next (sym c.root.ensures ∙ c.in-Items-Items.is-0) (sym c.root-2.ensures ∙ c.in-Items-Items.is-1)
    c.requires.held c.in-Ok.ensures.ok c.in-Ok.ensures.tree c.sound.ensures.canonical

pub returns-in-Ok-clause-count : goal.returns-in-Ok-clause-count
returns-in-Ok-clause-count c = one_for_two c.args.arena.now c.items_and.new.arena _ _ c.in-Ok.whole c.in-Ok.ensures.ok

pub returns-in-Err-clause-err_count : goal.returns-in-Err-clause-err_count
returns-in-Err-clause-err_count c = none_for_two c.args.arena.now c.items_and.new.arena _ _ c.in-Err.ensures.err

pub returns-in-Ok-clause-live : goal.returns-in-Ok-clause-live
returns-in-Ok-clause-live c =
    few_for c.args.arena.now c.args.g c.args.h c.in-Items-Items.first c.in-Items-Items.next (slab_len c.items_and.new.arena.store) (sym c.root.ensures ∙ c.in-Items-Items.is-0) (sym c.root-2.ensures ∙ c.in-Items-Items.is-1)
    c.in-Ok.ensures.live

pub returns-in-Ok-clause-items : goal.returns-in-Ok-clause-items
returns-in-Ok-clause-items c before n m k first second third =
    reached_for c.args.arena.now c.args.g c.args.h c.in-Items-Items.first c.in-Items-Items.next k (sym c.root.ensures ∙ c.in-Items-Items.is-0) (sym c.root-2.ensures ∙ c.in-Items-Items.is-1)
    (λ earlier i j one other. c.in-Ok.ensures.items earlier i j k one other third) before n m first second

pub returns-in-Ok-second_within-clause-items : goal.returns-in-Ok-second_within-clause-items
returns-in-Ok-second_within-clause-items c before n m k first second third =
    let kept = c.in-Ok-second_within.ensures.store (ap link_of (sym c.root-2.ensures ∙ c.in_default-Everything.is-1)) in
    let few = given_on c.args.arena.now.store c.second_within.new.arena.store c.args.g c.in-Ok-second_within.whole kept c.in-Ok-second_within.ensures.root n k first third in
    omega (arith, few)

pub returns-in-Ok-second_within-2-clause-items : goal.returns-in-Ok-second_within-2-clause-items
returns-in-Ok-second_within-2-clause-items c before n m k first second third =
    let none = given_nothing c.second_within-in_default-Nothing.new.arena.store c.args.h c.in-Ok-second_within-2.whole c.in-Ok-second_within-2.ensures.root (sym c.root-2.ensures ∙ c.in_default-Nothing.is-1) k third in
    omega (arith, none)

pub returns-in-Ok-second_within-3-clause-items : goal.returns-in-Ok-second_within-3-clause-items
returns-in-Ok-second_within-3-clause-items c before n m k first second third =
    let kept = c.in-Ok-second_within-3.ensures.store (ap link_of (sym c.root.ensures ∙ c.in-Everything-default.is-0)) in
    let few = given_on c.args.arena.now.store c.second_within-in-Everything-default.new.arena.store c.args.h c.in-Ok-second_within-3.whole kept c.in-Ok-second_within-3.ensures.root m k second third in
    omega (arith, few)

pub returns-in-Ok-second_within-4-clause-items : goal.returns-in-Ok-second_within-4-clause-items
returns-in-Ok-second_within-4-clause-items c before n m k first second third =
    let none = given_nothing c.second_within-in-Nothing-default.new.arena.store c.args.g c.in-Ok-second_within-4.whole c.in-Ok-second_within-4.ensures.root (sym c.root.ensures ∙ c.in-Nothing-default.is-0) k third in
    omega (arith, none)

pub returns-in-Ok-clause-same : goal.returns-in-Ok-clause-same
returns-in-Ok-clause-same c e = c.in-Ok.ensures.same (cc (sym c.in-Items-Items.is-0 ∙ c.root.ensures ∙ e ∙ sym c.root-2.ensures ∙ c.in-Items-Items.is-1))

pub returns-in-Ok-clause-live_turned : goal.returns-in-Ok-clause-live_turned
returns-in-Ok-clause-live_turned c =
    few_for c.args.arena.now c.args.h c.args.g c.in-Items-Items.next c.in-Items-Items.first (slab_len c.items_and.new.arena.store) (sym c.root-2.ensures ∙ c.in-Items-Items.is-1) (sym c.root.ensures ∙ c.in-Items-Items.is-0) c.in-Ok.ensures.live_turned

pub returns-in-Ok-clause-items_turned : goal.returns-in-Ok-clause-items_turned
returns-in-Ok-clause-items_turned c before n m k first second third =
    reached_for c.args.arena.now c.args.h c.args.g c.in-Items-Items.next c.in-Items-Items.first k (sym c.root-2.ensures ∙ c.in-Items-Items.is-1) (sym c.root.ensures ∙ c.in-Items-Items.is-0)
    (λ earlier i j one other. c.in-Ok.ensures.items_turned earlier i j k one other third) before n m first second

pub returns-in-Ok-clause-by_bits : goal.returns-in-Ok-clause-by_bits
returns-in-Ok-clause-by_bits c =
    cut_for c.args.arena.now c.args.g c.args.h c.in-Items-Items.first c.in-Items-Items.next (slab_len c.items_and.new.arena.store) (sym c.root.ensures ∙ c.in-Items-Items.is-0) (sym c.root-2.ensures ∙ c.in-Items-Items.is-1) c.in-Ok.ensures.by_bits

pub returns-in-Ok-clause-by_bits_turned : goal.returns-in-Ok-clause-by_bits_turned
returns-in-Ok-clause-by_bits_turned c =
    cut_for c.args.arena.now c.args.h c.args.g c.in-Items-Items.next c.in-Items-Items.first (slab_len c.items_and.new.arena.store) (sym c.root-2.ensures ∙ c.in-Items-Items.is-1) (sym c.root.ensures ∙ c.in-Items-Items.is-0) c.in-Ok.ensures.by_bits_turned

pub returns-in-Ok-second_within-clause-items_turned : goal.returns-in-Ok-second_within-clause-items_turned
returns-in-Ok-second_within-clause-items_turned c before n m k first second third =
    let kept = c.in-Ok-second_within.ensures.store (ap link_of (sym c.root-2.ensures ∙ c.in_default-Everything.is-1)) in
    let few = given_on c.args.arena.now.store c.second_within.new.arena.store c.args.g c.in-Ok-second_within.whole kept c.in-Ok-second_within.ensures.root m k second third in
    omega (arith, few)

pub returns-in-Ok-second_within-2-clause-items_turned : goal.returns-in-Ok-second_within-2-clause-items_turned
returns-in-Ok-second_within-2-clause-items_turned c before n m k first second third =
    let none = given_nothing c.second_within-in_default-Nothing.new.arena.store c.args.h c.in-Ok-second_within-2.whole c.in-Ok-second_within-2.ensures.root (sym c.root-2.ensures ∙ c.in_default-Nothing.is-1) k third in
    omega (arith, none)

pub returns-in-Ok-second_within-3-clause-items_turned : goal.returns-in-Ok-second_within-3-clause-items_turned
returns-in-Ok-second_within-3-clause-items_turned c before n m k first second third =
    let kept = c.in-Ok-second_within-3.ensures.store (ap link_of (sym c.root.ensures ∙ c.in-Everything-default.is-0)) in
    let few = given_on c.args.arena.now.store c.second_within-in-Everything-default.new.arena.store c.args.h c.in-Ok-second_within-3.whole kept c.in-Ok-second_within-3.ensures.root n k first third in
    omega (arith, few)

pub returns-in-Ok-second_within-4-clause-items_turned : goal.returns-in-Ok-second_within-4-clause-items_turned
returns-in-Ok-second_within-4-clause-items_turned c before n m k first second third =
    let none = given_nothing c.second_within-in-Nothing-default.new.arena.store c.args.g c.in-Ok-second_within-4.whole c.in-Ok-second_within-4.ensures.root (sym c.root.ensures ∙ c.in-Nothing-default.is-0) k third in
    omega (arith, none)
