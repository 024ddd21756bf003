use Rattle.std.proofs.Common.{rules, ◌≡◌, suc, map, drop, ◌≤◌, ap, sym, subst, ◌∙◌, add-one}
use Rattle.std.proofs.lemmas.List.{length-map}
use Rattle.std.proofs.lemmas.Result.{IfErr-weaker, on_ok_weaker}
use Rattle.rx_cond.specs.declared.conds.Cond.{Neg, Conj, Disj, the_lemmas}
use Rattle.rx_cond.specs.Tree.{tree_of, trees, neg, conj, disj}
use Rattle.rx_ranges.specs.Subterms.{AreSmall}
use Rattle.rx_cond_graph.proofs.Signs.{neg_small, conj_small, disj_small, small_conj, small_disj}
use Rattle.rx_cond_graph.proofs.Nexts.{next_mapped}
use Rattle.rx_cond_graph.proofs.Joining.{JoinedSoFar, joined_first, joined_next, all_gives, all_small, one_over, front_over}
use Rattle.rx_cond_graph.proofs.graphs.+graphs.Goals as goal

pub graph_of-returns-in-Neg-clause-small : goal.graph_of-returns-in-Neg-clause-small
graph_of-returns-in-Neg-clause-small t c =
    let nullable = c.args.arena.now.nullable in
    let under = tree_of c.deref.result.now in
    let step : tree_of (Neg c.in-Neg.inner) ≡ neg (tree_of c.in-Neg.inner.value) = search (rules, the_lemmas) in
    let is : neg under ≡ tree_of c.args.cond.now = ap (λ x. neg (tree_of x)) c.deref.ensures ∙ sym step ∙ ap tree_of (sym c.in-Neg.is) in
    on_ok_weaker c.graph_of.result
    (λ small. subst (AreSmall nullable c.args.parts.now c.args.limit c.args.sign) is (neg_small nullable c.args.parts.now c.args.limit c.args.sign under small))
    c.graph_of.ensures.small

pub graph_of-returns-in-Conj-clause-small : goal.graph_of-returns-in-Conj-clause-small
graph_of-returns-in-Conj-clause-small t c =
    let nullable = c.args.arena.now.nullable in
    let items = trees (map tree_of c.deref-in-Conj.result.now) in
    let step : tree_of (Conj c.in-Conj.items) ≡ conj (trees (map tree_of c.in-Conj.items.items)) = search (rules, the_lemmas) in
    let is : conj items ≡ tree_of c.args.cond.now = ap (λ xs. conj (trees (map tree_of xs))) c.deref-in-Conj.ensures.value ∙ sym step ∙ ap tree_of (sym c.in-Conj.is) in
    on_ok_weaker c.joined.result
    (λ small. subst (AreSmall nullable c.args.parts.now c.args.limit c.args.sign) is (conj_small nullable c.args.parts.now c.args.limit c.args.sign items small))
    c.joined.ensures.small

pub graph_of-returns-in-Conj-clause-over : goal.graph_of-returns-in-Conj-clause-over
graph_of-returns-in-Conj-clause-over t c =
    let nullable = c.args.arena.now.nullable in
    let items = trees (map tree_of c.deref-in-Conj.result.now) in
    let step : tree_of (Conj c.in-Conj.items) ≡ conj (trees (map tree_of c.in-Conj.items.items)) = search (rules, the_lemmas) in
    let is : conj items ≡ tree_of c.args.cond.now = ap (λ xs. conj (trees (map tree_of xs))) c.deref-in-Conj.ensures.value ∙ sym step ∙ ap tree_of (sym c.in-Conj.is) in
    IfErr-weaker c.joined.result _ _
    (λ fault over is_over small. over is_over
    (small_conj nullable c.args.parts.now c.args.limit c.args.sign items (subst (AreSmall nullable c.args.parts.now c.args.limit c.args.sign) (sym is) small)))
    c.joined.ensures.over

pub graph_of-returns-in-Disj-clause-small : goal.graph_of-returns-in-Disj-clause-small
graph_of-returns-in-Disj-clause-small t c =
    let nullable = c.args.arena.now.nullable in
    let items = trees (map tree_of c.deref-in-Disj.result.now) in
    let step : tree_of (Disj c.in-Disj.items) ≡ disj (trees (map tree_of c.in-Disj.items.items)) = search (rules, the_lemmas) in
    let is : disj items ≡ tree_of c.args.cond.now = ap (λ xs. disj (trees (map tree_of xs))) c.deref-in-Disj.ensures.value ∙ sym step ∙ ap tree_of (sym c.in-Disj.is) in
    on_ok_weaker c.joined-in-Disj.result
    (λ small. subst (AreSmall nullable c.args.parts.now c.args.limit c.args.sign) is (disj_small nullable c.args.parts.now c.args.limit c.args.sign items small))
    c.joined-in-Disj.ensures.small

pub graph_of-returns-in-Disj-clause-over : goal.graph_of-returns-in-Disj-clause-over
graph_of-returns-in-Disj-clause-over t c =
    let nullable = c.args.arena.now.nullable in
    let items = trees (map tree_of c.deref-in-Disj.result.now) in
    let step : tree_of (Disj c.in-Disj.items) ≡ disj (trees (map tree_of c.in-Disj.items.items)) = search (rules, the_lemmas) in
    let is : disj items ≡ tree_of c.args.cond.now = ap (λ xs. disj (trees (map tree_of xs))) c.deref-in-Disj.ensures.value ∙ sym step ∙ ap tree_of (sym c.in-Disj.is) in
    IfErr-weaker c.joined-in-Disj.result _ _
    (λ fault over is_over small. over is_over
    (small_disj nullable c.args.parts.now c.args.limit c.args.sign items (subst (AreSmall nullable c.args.parts.now c.args.limit c.args.sign) (sym is) small)))
    c.joined-in-Disj.ensures.over

pub joined-items-init : goal.joined-items-init
joined-items-init t c =
    joined_first c.args.parts.now c.args.meets c.args.sign c.args.limit (map tree_of c.args.items.now) c.args.arena.now c.all_or_none.new.arena c.in_ok-whole.whole c.in_ok-whole.ensures.ok

pub joined-returns-in-Err-clause-over : goal.joined-returns-in-Err-clause-over
joined-returns-in-Err-clause-over t c is =
    let items = c.args.items.now in
    let item = c.item-item.result in
    one_over c.args.parts.now c.args.meets c.args.sign c.args.limit (map tree_of items) c.items.item-index (tree_of item) (drop (suc c.items.item-index) (map tree_of items))
    c.args.arena.now c.items.arena c.items.whole (next_mapped tree_of items c.items.item-index item (search rules) (search rules)) c.items.invariant (c.in-Err.ensures.over is)

pub joined-returns-in-Err-combine-clause-over : goal.joined-returns-in-Err-combine-clause-over
joined-returns-in-Err-combine-clause-over t c is =
    let items = c.args.items.now in
    let item = c.item-item.result in
    front_over c.args.parts.now c.args.meets c.args.sign c.args.limit (map tree_of items) c.items.item-index (tree_of item) (drop (suc c.items.item-index) (map tree_of items))
    c.args.arena.now c.items.arena c.graph_of.new.arena c.items.whole c.in-Ok.next (next_mapped tree_of items c.items.item-index item (search rules) (search rules)) c.items.invariant
    c.in-Ok.ensures.ok (c.in-Err-combine.ensures.over is)

pub joined-items-preserved : goal.joined-items-preserved
joined-items-preserved t c =
    let items = c.args.items.now in
    let item = c.item-item.result in
    let i = c.items.item-index in
    subst (λ n. JoinedSoFar c.args.parts.now c.args.meets c.args.sign c.args.limit (map tree_of items) n c.args.arena.now c.combine.new.arena c.in-Ok-combine.joint) (sym (add-one i))
    (joined_next c.args.parts.now c.args.meets c.args.sign c.args.limit (map tree_of items) i (tree_of item) (drop (suc i) (map tree_of items))
    c.args.arena.now c.items.arena c.graph_of.new.arena c.combine.new.arena c.items.whole c.in-Ok.next c.in-Ok-combine.joint (next_mapped tree_of items i item (search rules) (search rules)) c.items.invariant
    c.in-Ok.ensures.ok c.in-Ok.ensures.small c.in-Ok-combine.ensures.ok c.in-Ok-combine.ensures.tree c.in-Ok-combine.ensures.small)

pub joined-returns-clause-ok : goal.joined-returns-clause-ok
joined-returns-clause-ok t c =
    all_gives c.args.parts.now c.args.meets c.args.sign c.args.limit (map tree_of c.args.items.now) c.items.item-index c.args.arena.now c.items.arena c.items.whole (subst (λ n. n ≤ c.items.item-index) (sym (length-map c.args.items.now tree_of)) (search rules)) c.items.invariant

pub joined-returns-clause-small : goal.joined-returns-clause-small
joined-returns-clause-small t c =
    all_small c.args.parts.now c.args.meets c.args.sign c.args.limit (map tree_of c.args.items.now) c.items.item-index c.args.arena.now c.items.arena c.items.whole (subst (λ n. n ≤ c.items.item-index) (sym (length-map c.args.items.now tree_of)) (search rules)) c.items.invariant
