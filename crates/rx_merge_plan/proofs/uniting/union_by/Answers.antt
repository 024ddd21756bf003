use Rattle.std.proofs.Common.{min, ap, ◌∙◌}
use Rattle.std.specs.List.{sum_by}
use Rattle.rx_plan.specs.Seeks.{most_told, seeks_of_scan}
use Rattle.rx_merge_plan.proofs.Disjoined.{few_counted, all_scans, union_told, union_can}
use Rattle.rx_merge_plan.proofs.Telling.{lists_counted, added}
use Rattle.rx_merge_plan.proofs.uniting.union_by.Goals as goal

pub union_of-requires-clause-few : goal.union_of-requires-clause-few
union_of-requires-clause-few g c =
    few_counted c.args.settings.now (g.T.Table.means c.args.table.now) (g.T.Table.means c.count_lists.new.table) c.args.lists c.in-Ok.counted
    c.as_slice-2.result.now c.shape.result.now c.rows.result
    c.in-Ok.ensures.keeps.means_stays c.shape.ensures.value c.rows.ensures.value c.as_slice-2.ensures c.requires.found c.in-Ok.ensures.are c.requires.few

pub union_of-requires-clause-lists : goal.union_of-requires-clause-lists
union_of-requires-clause-lists g c =
    all_scans c.args.settings.now (g.T.Table.means c.args.table.now) (g.T.Table.means c.count_lists.new.table) c.args.lists c.in-Ok.counted
    c.as_slice-2.result.now c.shape.result.now c.rows.result
    c.in-Ok.ensures.keeps.means_stays c.shape.ensures.value c.rows.ensures.value c.as_slice-2.ensures c.requires.found c.in-Ok.ensures.are c.requires.few

pub returns-in-Ok-union_of-clause-told : goal.returns-in-Ok-union_of-clause-told
returns-in-Ok-union_of-clause-told g c =
    union_told c.args.settings.now (g.T.Table.means c.args.table.now) (g.T.Table.means c.count_lists.new.table) c.args.lists c.in-Ok.counted
    c.as_slice-2.result.now c.shape.result.now c.rows.result
    c.in-Ok.ensures.keeps.means_stays c.shape.ensures.value c.rows.ensures.value c.as_slice-2.ensures c.requires.found c.in-Ok.ensures.are c.requires.few
    c.in-Ok-union_of.union c.in-Ok-union_of.ensures

pub returns-in-Ok-union_of-clause-can_run : goal.returns-in-Ok-union_of-clause-can_run
returns-in-Ok-union_of-clause-can_run g c =
    union_can c.args.settings.now (g.T.Table.means c.args.table.now) (g.T.Table.means c.count_lists.new.table) c.args.lists c.in-Ok.counted
    c.as_slice-2.result.now c.shape.result.now c.rows.result
    c.in-Ok.ensures.keeps.means_stays c.shape.ensures.value c.rows.ensures.value c.as_slice-2.ensures c.requires.found c.in-Ok.ensures.are c.requires.few
    c.in-Ok-union_of.union c.in-Ok-union_of.ensures

pub returns-in-Ok-union_of-clause-seeks : goal.returns-in-Ok-union_of-clause-seeks
returns-in-Ok-union_of-clause-seeks g c =
    added c.args.seeks.now c.seeks_of_lists.result _ _ c.saturating_add.result
    (c.seeks_of_lists.ensures ∙ ap (λ l. min most_told (sum_by (sum_by seeks_of_scan) l)) c.as_slice.ensures)
    (lists_counted c.args.settings.now (g.T.Table.means c.args.table.now) c.args.lists c.in-Ok.counted c.in-Ok.ensures.are) c.saturating_add.ensures
