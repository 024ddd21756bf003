use Rattle.std.proofs.Common.{◌≡◌, map, rules, ◌∙◌, ap, sym, subst, eqb}
use Rattle.std.specs.List.{list_any}
use Rattle.std.specs.List.Sorted.{IsStrictlyIncreasing}
use Rattle.std.specs.BTreeMap.{values}
use Rattle.std.specs.Map.Iter.{deref}
use Rattle.std.proofs.lemmas.List.Filters.{dedup_is}
use Rattle.std.proofs.lemmas.Map.Iter.{iter_end}
use Rattle.std.proofs.lemmas.Map.Keys.{IsStrictlyIncreasing-dedup}
use Rattle.rx_merge.specs.Ids.{has_id}
use Rattle.rx_merge.proofs.Having.{has_moved, has_once, has_in_any}
use Rattle.rx_merge.proofs.ids.any_of.Goals as goal

pub returns-clause-each : goal.returns-clause-each
returns-clause-each c = λ id.
    let every : map deref c.loop-ids.yielded ≡ values c.args.members.now = search (rules, iter_end) in
    let sorted = c.sort_unstable.new.self.items in
    ap (λ ids. has_id ids id) (c.from_vec.ensures ∙ dedup_is eqb sorted _ c.dedup.ensures.filtered)
    ∙ has_once sorted id
    ∙ has_moved c.loop-ids.all.items sorted id c.sort_unstable.ensures.permutation
    ∙ ap (λ ids. has_id ids id) c.loop-ids.invariant
    ∙ has_in_any (map deref c.loop-ids.yielded) id
    ∙ ap (list_any (λ held. has_id held id)) every

pub returns-clause-rising : goal.returns-clause-rising
returns-clause-rising c =
    let sorted = c.sort_unstable.new.self.items in
    subst IsStrictlyIncreasing (sym (c.from_vec.ensures ∙ dedup_is eqb sorted _ c.dedup.ensures.filtered)) (IsStrictlyIncreasing-dedup sorted c.sort_unstable.ensures.sorted)
