use Rattle.std.proofs.Common.{ap, sym, ◌∙◌}
use Rattle.std.specs.Option.{option_to_list}
use Rattle.rx_cond.specs.Tree.{tree_of}
use Rattle.rx_query.specs.Steps.{question_of}
use Rattle.rx_merge_plan.proofs.Disjoined.{conjunct_told, conjunct_seeks, conjunct_number, other_told, other_seeks, other_number}
use Rattle.rx_merge_plan.specs.Lists.{told_after}
use Rattle.rx_merge_plan.proofs.Telling.{told_none}
use Rattle.rx_merge_plan.proofs.uniting.plan_conjunct.Goals as goal

pub returns-then-not-is_disjunction-clause-told : goal.returns-then-not-is_disjunction-clause-told
returns-then-not-is_disjunction-clause-told g c =
    other_told c.args.settings.now (question_of c.args.query.now) (g.T.Table.means c.args.table.now) (tree_of c.args.cond.now) (sym c.is_disjunction.ensures
    ∙ c.if-not-is_disjunction.true)

pub returns-then-not-is_disjunction-clause-counts : goal.returns-then-not-is_disjunction-clause-counts
returns-then-not-is_disjunction-clause-counts g c =
    other_seeks c.args.settings.now (question_of c.args.query.now) (g.T.Table.means c.args.table.now) (tree_of c.args.cond.now)
    (sym c.is_disjunction.ensures ∙ c.if-not-is_disjunction.true)
    (g.T.Table.tally c.args.table.now).counts

pub returns-in-Ok-clause-told : goal.returns-in-Ok-clause-told
returns-in-Ok-clause-told g c =
    conjunct_told c.args.settings.now (question_of c.args.query.now) (g.T.Table.means c.args.table.now) (tree_of c.args.cond.now)
    (sym c.is_disjunction.ensures ∙ c.if-not-is_disjunction.false)
    (option_to_list c.in-Ok.union) c.in-Ok.ensures.told

pub returns-in-Ok-clause-counts : goal.returns-in-Ok-clause-counts
returns-in-Ok-clause-counts g c =
    conjunct_seeks c.args.settings.now (question_of c.args.query.now) (g.T.Table.means c.args.table.now) (tree_of c.args.cond.now)
    (sym c.is_disjunction.ensures ∙ c.if-not-is_disjunction.false)
    (g.T.Table.tally c.args.table.now).counts (g.T.Table.tally c.plan_disjunction.new.table).counts c.in-Ok.ensures.counts

pub returns-then-not-is_disjunction-clause-seeks : goal.returns-then-not-is_disjunction-clause-seeks
returns-then-not-is_disjunction-clause-seeks g c =
    told_none c.args.seeks.now c.requires.seeks
    ∙ ap (told_after c.args.seeks.now) (other_number c.args.settings.now (question_of c.args.query.now) (g.T.Table.means c.args.table.now) (tree_of c.args.cond.now) (sym c.is_disjunction.ensures ∙ c.if-not-is_disjunction.true))

pub returns-in-Ok-clause-seeks : goal.returns-in-Ok-clause-seeks
returns-in-Ok-clause-seeks g c =
    c.in-Ok.ensures.seeks
    ∙ ap (told_after c.args.seeks.now) (conjunct_number c.args.settings.now (question_of c.args.query.now) (g.T.Table.means c.args.table.now) (tree_of c.args.cond.now) (sym c.is_disjunction.ensures ∙ c.if-not-is_disjunction.false))
