use Rattle.std.proofs.Common.{◌-◌, ◌∙◌, [], ◌∷◌, arith, ap, sym, rules}
use Rattle.rx_level.specs.Store.{held_of}
use Rattle.rx_graph.specs.Graph.{handle_count}
use Rattle.rx_graph.proofs.Amounts.{counted}
use Rattle.rx_graph.proofs.GraphSteps.{canonical_kept, held_all, held_none, held_items}
use Rattle.rx_graph.proofs.arena.Arena.release.Goals as goal

pub overflow_sub-self : goal.overflow_sub-self
overflow_sub-self c = omega (arith, held_all c.args.self.now c.args.h c.requires (sym c.into_root.ensures ∙ c.in-Everything.is), ap (λ g. g.all) c.self.view_is)

pub overflow_sub-self-in-Nothing : goal.overflow_sub-self-in-Nothing
overflow_sub-self-in-Nothing c = omega (arith, held_none c.args.self.now c.args.h c.requires (sym c.into_root.ensures ∙ c.in-Nothing.is), ap (λ g. g.none) c.self.view_is)

pub free-requires : goal.free-requires
free-requires c = record {
  sound = c.sound.ensures.sound;
  owned = λ m. omega (arith, held_items c.args.self.now c.args.h c.in-Items.key c.requires (sym c.into_root.ensures ∙ c.in-Items.is) m, ap (λ g. held_of g.store m) c.self.view_is);
}

pub invariant_of-self : goal.invariant_of-self
invariant_of-self c = record { canonical = canonical_kept (record { nullable = c.self.inside.nullable; store = c.self.inside.levels; all = c.self.inside.all; none = c.self.inside.none }) (record { nullable = c.self.inside.nullable; store = c.self.inside.levels; all = c.self.inside.all - 1; none = c.self.inside.none }) (c.args.h ∷ []) (search rules) c.self.invariant.canonical; few = omega (arith, c.self.invariant.few, counted c.args.self.now (record { nullable = c.self.inside.nullable; store = c.self.inside.levels; all = c.self.inside.all - 1; none = c.self.inside.none }) (c.args.h ∷ []) [] (search rules), ap handle_count c.self.view_is) }

pub returns-in-Everything-clause-canonical : goal.returns-in-Everything-clause-canonical
returns-in-Everything-clause-canonical c = canonical_kept (record { nullable = c.self.inside.nullable; store = c.self.inside.levels; all = c.self.inside.all; none = c.self.inside.none }) (record { nullable = c.self.inside.nullable; store = c.self.inside.levels; all = c.self.inside.all - 1; none = c.self.inside.none }) (c.args.h ∷ []) (search rules) c.self.invariant.canonical

pub invariant_of-self-in-Nothing : goal.invariant_of-self-in-Nothing
invariant_of-self-in-Nothing c = record { canonical = canonical_kept (record { nullable = c.self.inside.nullable; store = c.self.inside.levels; all = c.self.inside.all; none = c.self.inside.none }) (record { nullable = c.self.inside.nullable; store = c.self.inside.levels; all = c.self.inside.all; none = c.self.inside.none - 1 }) (c.args.h ∷ []) (search rules) c.self.invariant.canonical; few = omega (arith, c.self.invariant.few, counted c.args.self.now (record { nullable = c.self.inside.nullable; store = c.self.inside.levels; all = c.self.inside.all; none = c.self.inside.none - 1 }) (c.args.h ∷ []) [] (search rules), ap handle_count c.self.view_is) }

pub returns-in-Nothing-clause-canonical : goal.returns-in-Nothing-clause-canonical
returns-in-Nothing-clause-canonical c = canonical_kept (record { nullable = c.self.inside.nullable; store = c.self.inside.levels; all = c.self.inside.all; none = c.self.inside.none }) (record { nullable = c.self.inside.nullable; store = c.self.inside.levels; all = c.self.inside.all; none = c.self.inside.none - 1 }) (c.args.h ∷ []) (search rules) c.self.invariant.canonical

pub invariant_of-self-in-Items : goal.invariant_of-self-in-Items
invariant_of-self-in-Items c = record { canonical = canonical_kept (record { nullable = c.self.inside.nullable; store = c.self.inside.levels; all = c.self.inside.all; none = c.self.inside.none }) (record { nullable = c.self.inside.nullable; store = c.free.new.self; all = c.self.inside.all; none = c.self.inside.none }) (c.args.h ∷ []) (search rules) c.self.invariant.canonical; few = omega (arith, c.self.invariant.few, counted c.args.self.now (record { nullable = c.self.inside.nullable; store = c.free.new.self; all = c.self.inside.all; none = c.self.inside.none }) (c.args.h ∷ []) [] (search rules), ap handle_count c.self.view_is) }

pub returns-in-Items-clause-canonical : goal.returns-in-Items-clause-canonical
returns-in-Items-clause-canonical c = canonical_kept (record { nullable = c.self.inside.nullable; store = c.self.inside.levels; all = c.self.inside.all; none = c.self.inside.none }) (record { nullable = c.self.inside.nullable; store = c.free.new.self; all = c.self.inside.all; none = c.self.inside.none }) (c.args.h ∷ []) (search rules) c.self.invariant.canonical

pub returns-in-Items-clause-count : goal.returns-in-Items-clause-count
returns-in-Items-clause-count c = omega (arith, counted c.args.self.now (record { nullable = c.self.inside.nullable; store = c.free.new.self; all = c.self.inside.all; none = c.self.inside.none }) (c.args.h ∷ []) [] (search rules))

pub returns-in-Everything-clause-count : goal.returns-in-Everything-clause-count
returns-in-Everything-clause-count c = omega (arith, counted c.args.self.now (record { nullable = c.self.inside.nullable; store = c.self.inside.levels; all = c.self.inside.all - 1; none = c.self.inside.none }) (c.args.h ∷ []) [] (search rules))

pub returns-in-Nothing-clause-count : goal.returns-in-Nothing-clause-count
returns-in-Nothing-clause-count c = omega (arith, counted c.args.self.now (record { nullable = c.self.inside.nullable; store = c.self.inside.levels; all = c.self.inside.all; none = c.self.inside.none - 1 }) (c.args.h ∷ []) [] (search rules))
