use Rattle.std.proofs.Common.{◌≡◌, List, IfSome, map, take, ap, sym, ◌∙◌, subst}
use Rattle.std.specs.List.{flat_map, sum_by}
use Rattle.rx_cond.specs.Tree.{Tree, tree_of}
use Rattle.rx_query.specs.Steps.{question_of}
use Rattle.rx_store.proofs.Chains.{Keeps-chain}
use Rattle.rx_estimate.specs.Estimates.{with_seeks}
use Rattle.rx_estimate.proofs.Steps.{with_seeks-more}
use Rattle.rx_merge_plan.specs.Merges.{CanMerge}
use Rattle.rx_merge_plan.specs.Lists.{unions_by, seeks_by, told_after}
use Rattle.rx_merge_plan.proofs.Telling.{told_twice}
use Rattle.rx_merge_plan.proofs.Steps.{trees_all, told_more, sum_more, all_more}
use Rattle.rx_merge_plan.proofs.uniting.plan_conjuncts.Goals as goal

pub loop-cond-preserved : goal.loop-cond-preserved
loop-cond-preserved g c =
    let here = c.loop-cond.invariant in
    let table = g.T.Table.means c.args.table.now in
    let settings = c.args.settings.now in
    let q = question_of c.args.query.now in
    let items = c.as_slice-cond-items.result.now in
    let i = c.loop-cond.cond-index in
    let f = seeks_by settings q table.schema in
    let done : List Tree = map tree_of (map (λ r. r.now) (take i items)) in
    let before = (g.T.Table.tally c.args.table.now).counts in
    record {
      told = told_more (λ r. r.now) tree_of items i c.cond-item.result c.loop-cond-test.true c.cond-item.is (unions_by settings q table) table.told
          c.loop-cond.list c.add_union.new.list c.in-Ok.union
          here.told (rw here.keeps.means_stays at c.in-Ok.ensures.told) c.in-Ok-add_union.ensures;
      can_run = all_more (CanMerge table.schema) c.loop-cond.list c.add_union.new.list c.in-Ok.union here.can_run
          (rw here.keeps.means_stays at c.in-Ok.ensures.can_run) c.in-Ok-add_union.ensures;
      counts = (rw here.keeps.means_stays at c.in-Ok.ensures.counts)
          ∙ with_seeks-more (sum_by f done) (f (tree_of c.cond-item.result.now)) before (g.T.Table.tally c.loop-cond.table).counts here.counts
          ∙ ap (λ n. with_seeks n before) (sym (sum_more (λ r. r.now) tree_of items i c.cond-item.result c.loop-cond-test.true c.cond-item.is f));
      seeks = (rw here.keeps.means_stays at c.in-Ok.ensures.seeks)
          ∙ told_twice c.args.seeks.now c.loop-cond.seeks (sum_by f done) (f (tree_of c.cond-item.result.now)) here.seeks
          ∙ ap (told_after c.args.seeks.now) (sym (sum_more (λ r. r.now) tree_of items i c.cond-item.result c.loop-cond-test.true c.cond-item.is f));
      keeps = Keeps-chain g.met.T.Table.kept_chained g.met.T.Table.spent_chained _ _ _ _ here.keeps c.in-Ok.ensures.keeps;
    }

pub returns-clause-told : goal.returns-clause-told
returns-clause-told g c =
    let table = g.T.Table.means c.args.table.now in
    let f = unions_by c.args.settings.now (question_of c.args.query.now) table in
    subst (λ (trees : List Tree). IfSome table.told (λ t. c.loop-cond.list ≡ flat_map (f t) trees))
    (trees_all (λ r. r.now) tree_of c.as_slice-cond-items.result.now c.loop-cond.cond-index c.loop-cond-test.false
    ∙ ap (map tree_of) c.as_slice-cond-items.ensures) c.loop-cond.invariant.told

pub returns-clause-counts : goal.returns-clause-counts
returns-clause-counts g c =
    let table = g.T.Table.means c.args.table.now in
    let f = seeks_by c.args.settings.now (question_of c.args.query.now) table.schema in
    c.loop-cond.invariant.counts
    ∙ ap (λ (trees : List Tree). with_seeks (sum_by f trees) (g.T.Table.tally c.args.table.now).counts)
    (trees_all (λ r. r.now) tree_of c.as_slice-cond-items.result.now c.loop-cond.cond-index c.loop-cond-test.false
    ∙ ap (map tree_of) c.as_slice-cond-items.ensures)

pub returns-clause-seeks : goal.returns-clause-seeks
returns-clause-seeks g c =
    let table = g.T.Table.means c.args.table.now in
    let f = seeks_by c.args.settings.now (question_of c.args.query.now) table.schema in
    c.loop-cond.invariant.seeks
    ∙ ap (λ (trees : List Tree). told_after c.args.seeks.now (sum_by f trees))
    (trees_all (λ r. r.now) tree_of c.as_slice-cond-items.result.now c.loop-cond.cond-index c.loop-cond-test.false
    ∙ ap (map tree_of) c.as_slice-cond-items.ensures)
