use Rattle.std.proofs.Common.{◌≡◌, ◌+◌, [], ◌∷◌, arith, sym, ◌∙◌}
use Rattle.rx_graph.specs.Graph.{handle_count}
use Rattle.rx_graph.specs.declared.handles.Root.TheVariants.{Items}
use Rattle.rx_graph.proofs.Amounts.{counted}
use Rattle.rx_or.proofs.UnionRoots.{given_items_or, keys_items_or}
use Rattle.rx_or.proofs.unions.or.Goals as goal

pub returns-in-Ok-clause-keys : goal.returns-in-Ok-clause-keys
returns-in-Ok-clause-keys c ps tuple =
    keys_items_or c.args.arena.now c.items_or.new.arena c.args.g c.args.h c.in-Ok.whole c.in-Items-Items.first c.in-Items-Items.next (sym c.root.ensures ∙ c.in-Items-Items.is-0) (sym c.root-2.ensures ∙ c.in-Items-Items.is-1)
    c.requires.held c.in-Ok.ensures.tree c.sound.ensures.canonical ps tuple

pub returns-in-Ok-clause-canonical : goal.returns-in-Ok-clause-canonical
returns-in-Ok-clause-canonical c =
    given_items_or c.args.arena.now c.items_or.new.arena c.args.g c.args.h c.in-Ok.whole c.in-Items-Items.first c.in-Items-Items.next (sym c.root.ensures ∙ c.in-Items-Items.is-0) (sym c.root-2.ensures ∙ c.in-Items-Items.is-1)
    c.requires.held c.in-Ok.ensures.ok c.in-Ok.ensures.tree c.sound.ensures.canonical

pub returns-in-Ok-clause-count : goal.returns-in-Ok-clause-count
returns-in-Ok-clause-count c =
    let one : handle_count c.items_or.new.arena + 2 ≡ handle_count c.args.arena.now + 1 = counted c.args.arena.now c.items_or.new.arena (Items c.in-Items-Items.first ∷ Items c.in-Items-Items.next ∷ []) (c.in-Ok.whole ∷ []) c.in-Ok.ensures.ok in
    omega (arith, one)

pub returns-in-Err-clause-err_count : goal.returns-in-Err-clause-err_count
returns-in-Err-clause-err_count c =
    let one : handle_count c.items_or.new.arena + 2 ≡ handle_count c.args.arena.now + 0 = counted c.args.arena.now c.items_or.new.arena (Items c.in-Items-Items.first ∷ Items c.in-Items-Items.next ∷ []) [] c.in-Err.ensures.err in
    omega (arith, one)
