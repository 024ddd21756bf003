use Rattle.std.proofs.Common.{sym, subst}
use Rattle.rx_run.specs.Runs.{IsRunOver}
use Rattle.rx_run.specs.Sources.{way_in}
use Rattle.rx_run.specs.Ways.{SuitsTable}
use Rattle.rx_run.proofs.Rows.{way_stays}
use Rattle.rx_run.specs.contracts.runs.AccessRun.{the_view}
use Rattle.rx_run.proofs.runs.AccessRun.next.Goals as goal
use Rattle.rx_run.proofs.runs.AccessRun.next.Goals.{in-Scan+in-Ok, in-Scan+in-Err, in-Merge+in-Ok-next_of_merge, in-Merge+in-Err-next_of_merge}

pub returns-clause-over : goal.returns-clause-over
returns-clause-over g c =
    let table = g.T.Table.means c.args.table.now in
    let old = subst (IsRunOver table) (sym c.self.view_is) c.requires in
    elim c.match-self.branch [
      | in-Scan+in-Ok w ↦ subst (λ inside. IsRunOver table (the_view inside)) (sym w.self-inside-is) (record { way = w.next.ensures.over.index; places = w.next.ensures.over.places })
      | in-Scan+in-Err w ↦ subst (λ inside. IsRunOver table (the_view inside)) (sym w.self-inside-is) (record { way = w.next.ensures.over.index; places = w.next.ensures.over.places })
      | in-Merge+in-Ok-next_of_merge w ↦ subst (λ inside. IsRunOver table (the_view inside)) (sym w.self-inside-is) (record {
        way = subst (λ way. SuitsTable way table) (way_stays w.in-Merge.ids w.next_of_merge.new.ids w.in-Merge.row) (subst (λ source. SuitsTable (way_in source) table) w.in-Merge.is old.way);
        places = w.next_of_merge.ensures.left;
      })
      | in-Merge+in-Err-next_of_merge w ↦ subst (λ inside. IsRunOver table (the_view inside)) (sym w.self-inside-is) (record {
        way = subst (λ way. SuitsTable way table) (way_stays w.in-Merge.ids w.next_of_merge.new.ids w.in-Merge.row) (subst (λ source. SuitsTable (way_in source) table) w.in-Merge.is old.way);
        places = w.next_of_merge.ensures.left;
      })
    ]
