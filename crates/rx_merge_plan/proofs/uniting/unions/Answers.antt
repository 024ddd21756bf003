use Rattle.std.proofs.Common.{ap, map, sym, ◌∙◌}
use Rattle.rx_cond.specs.Tree.{tree_of}
use Rattle.rx_query.specs.Steps.{question_of}
use Rattle.rx_merge_plan.proofs.Disjoined.{all_told, all_seeks, all_number, unasked_told, unasked_seeks, unasked_number}
use Rattle.rx_merge_plan.specs.Lists.{told_after}
use Rattle.rx_merge_plan.proofs.Telling.{told_none}
use Rattle.rx_merge_plan.proofs.uniting.unions.Goals as goal

pub returns-then-not-asks_unions-clause-told : goal.returns-then-not-asks_unions-clause-told
returns-then-not-asks_unions-clause-told g c =
    unasked_told c.args.settings.now (question_of c.args.query.now) (g.T.Table.means c.args.table.now) (sym c.asks_unions.ensures
    ∙ c.if-not-asks_unions.true) c.new.result c.new.ensures

pub returns-then-not-asks_unions-clause-counts : goal.returns-then-not-asks_unions-clause-counts
returns-then-not-asks_unions-clause-counts g c =
    unasked_seeks c.args.settings.now (question_of c.args.query.now) (g.T.Table.means c.args.table.now) (sym c.asks_unions.ensures
    ∙ c.if-not-asks_unions.true) (g.T.Table.tally c.args.table.now).counts

pub returns-in-Ok-plan_conjuncts-clause-told : goal.returns-in-Ok-plan_conjuncts-clause-told
returns-in-Ok-plan_conjuncts-clause-told g c =
    all_told c.args.settings.now (question_of c.args.query.now) (g.T.Table.means c.args.table.now) (sym c.asks_unions.ensures
    ∙ c.if-not-asks_unions.false) (map tree_of c.in-Ok.conds) c.in-Ok.ensures
    c.in-Ok-plan_conjuncts.list c.in-Ok-plan_conjuncts.ensures.told

pub returns-in-Ok-plan_conjuncts-clause-counts : goal.returns-in-Ok-plan_conjuncts-clause-counts
returns-in-Ok-plan_conjuncts-clause-counts g c =
    all_seeks c.args.settings.now (question_of c.args.query.now) (g.T.Table.means c.args.table.now) (sym c.asks_unions.ensures
    ∙ c.if-not-asks_unions.false) (map tree_of c.in-Ok.conds) c.in-Ok.ensures
    (g.T.Table.tally c.args.table.now).counts (g.T.Table.tally c.plan_conjuncts.new.table).counts c.in-Ok-plan_conjuncts.ensures.counts

pub returns-then-not-asks_unions-clause-seeks : goal.returns-then-not-asks_unions-clause-seeks
returns-then-not-asks_unions-clause-seeks g c =
    told_none c.args.seeks.now c.requires.seeks
    ∙ ap (told_after c.args.seeks.now) (unasked_number c.args.settings.now (question_of c.args.query.now) (g.T.Table.means c.args.table.now) (sym c.asks_unions.ensures ∙ c.if-not-asks_unions.true))

pub returns-in-Ok-plan_conjuncts-clause-seeks : goal.returns-in-Ok-plan_conjuncts-clause-seeks
returns-in-Ok-plan_conjuncts-clause-seeks g c =
    c.in-Ok-plan_conjuncts.ensures.seeks
    ∙ ap (told_after c.args.seeks.now) (all_number c.args.settings.now (question_of c.args.query.now) (g.T.Table.means c.args.table.now) (sym c.asks_unions.ensures ∙ c.if-not-asks_unions.false) (map tree_of c.in-Ok.conds) c.in-Ok.ensures)
