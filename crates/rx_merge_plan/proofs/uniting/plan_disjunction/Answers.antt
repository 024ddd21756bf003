use Rattle.std.proofs.Common.{ap, ◌∙◌}
use Rattle.rx_cond.specs.Tree.{tree_of}
use Rattle.rx_query.specs.Steps.{question_of}
use Rattle.rx_merge_plan.proofs.Disjoined.{few_found, all_found, joined_told, joined_seeks, joined_number, none_told, none_seeks, none_number}
use Rattle.rx_merge_plan.specs.Lists.{told_after}
use Rattle.rx_merge_plan.proofs.Telling.{told_none}
use Rattle.rx_merge_plan.proofs.uniting.plan_disjunction.Goals as goal

pub union_by-requires-clause-few : goal.union_by-requires-clause-few
union_by-requires-clause-few g c =
    few_found c.args.settings.now (question_of c.args.query.now) (g.T.Table.means c.args.table.now) (tree_of c.args.cond.now) c.shape.result.now
    c.shape.ensures.value c.in-Ok-Some.field-0
    c.in-Ok-Some.lists c.in-Ok-Some.ensures c.in-Ok-Some.field-0-is

pub union_by-requires-clause-found : goal.union_by-requires-clause-found
union_by-requires-clause-found g c =
    all_found c.args.settings.now (question_of c.args.query.now) (g.T.Table.means c.args.table.now) (tree_of c.args.cond.now) c.shape.result.now
    c.shape.ensures.value c.in-Ok-Some.field-0
    c.in-Ok-Some.lists c.in-Ok-Some.ensures c.in-Ok-Some.field-0-is c.shape.ensures.sound.limits

pub returns-in-Ok-clause-told : goal.returns-in-Ok-clause-told
returns-in-Ok-clause-told g c =
    joined_told c.args.settings.now (question_of c.args.query.now) (g.T.Table.means c.args.table.now) (tree_of c.args.cond.now) c.shape.result.now
    c.shape.ensures.value c.in-Ok-Some.field-0
    c.in-Ok-Some.lists c.in-Ok-Some.ensures c.in-Ok-Some.field-0-is c.in-Ok.union c.in-Ok.ensures.told

pub returns-in-Ok-clause-counts : goal.returns-in-Ok-clause-counts
returns-in-Ok-clause-counts g c =
    joined_seeks c.args.settings.now (question_of c.args.query.now) (g.T.Table.means c.args.table.now) (tree_of c.args.cond.now) c.shape.result.now
    c.shape.ensures.value c.in-Ok-Some.field-0
    c.in-Ok-Some.lists c.in-Ok-Some.ensures c.in-Ok-Some.field-0-is (g.T.Table.tally c.args.table.now).counts (g.T.Table.tally c.union_by.new.table).counts
    c.in-Ok.ensures.counts

pub returns-in-Ok-None-clause-told : goal.returns-in-Ok-None-clause-told
returns-in-Ok-None-clause-told g c =
    none_told c.args.settings.now (question_of c.args.query.now) (g.T.Table.means c.args.table.now) (tree_of c.args.cond.now) c.shape.result.now
    c.shape.ensures.value c.in-Ok-None.field-0
    c.in-Ok-None.ensures c.in-Ok-None.field-0-is

pub returns-in-Ok-None-clause-counts : goal.returns-in-Ok-None-clause-counts
returns-in-Ok-None-clause-counts g c =
    none_seeks c.args.settings.now (question_of c.args.query.now) (g.T.Table.means c.args.table.now) (tree_of c.args.cond.now) c.shape.result.now
    c.shape.ensures.value c.in-Ok-None.field-0
    c.in-Ok-None.ensures c.in-Ok-None.field-0-is (g.T.Table.tally c.args.table.now).counts

pub returns-in-Ok-clause-seeks : goal.returns-in-Ok-clause-seeks
returns-in-Ok-clause-seeks g c =
    c.in-Ok.ensures.seeks
    ∙ ap (told_after c.args.seeks.now) (joined_number c.args.settings.now (question_of c.args.query.now) (g.T.Table.means c.args.table.now) (tree_of c.args.cond.now) c.shape.result.now
    c.shape.ensures.value c.in-Ok-Some.field-0 c.in-Ok-Some.lists c.in-Ok-Some.ensures c.in-Ok-Some.field-0-is)

pub returns-in-Ok-None-clause-seeks : goal.returns-in-Ok-None-clause-seeks
returns-in-Ok-None-clause-seeks g c =
    told_none c.args.seeks.now c.requires.seeks
    ∙ ap (told_after c.args.seeks.now) (none_number c.args.settings.now (question_of c.args.query.now) (g.T.Table.means c.args.table.now) (tree_of c.args.cond.now) c.shape.result.now
    c.shape.ensures.value c.in-Ok-None.field-0 c.in-Ok-None.ensures c.in-Ok-None.field-0-is)
