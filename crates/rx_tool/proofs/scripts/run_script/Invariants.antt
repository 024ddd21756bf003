use Rattle.std.proofs.Common.{◌≡◌, None, drop, map}
use Rattle.rx_store.specs.Tables.{Keeps, WhereTold}
use Rattle.rx_query.specs.Steps.{step_of}
use Rattle.rx_query.specs.Settings.{default_settings}
use Rattle.rx_engine.specs.Seen.{sink_seen}
use Rattle.rx_tool.specs.Blocks.{blocks_of, blocks_from, counts_after}
use Rattle.rx_tool.proofs.Blocks.{PutsSoFar}
use Rattle.rx_tool.proofs.scripts.run_script.Given as goal

abbrev pub invariant-loop-numbered : goal.invariant-loop-numbered
invariant-loop-numbered g l = record {
  put : WhereTold (g.T.Table.means l.initial.table) (PutsSoFar
      (blocks_of (map step_of l.script) (g.T.Table.means l.initial.table))
      (blocks_from l.settings (map step_of (drop l.numbered-index l.numbered-items)) (g.T.Table.means l.initial.table))
      (sink_seen g.O.Sink.text g.O.Sink.faults g.O.Sink.room l.initial.out) (sink_seen g.O.Sink.text g.O.Sink.faults g.O.Sink.room l.out));
  no_fault : g.O.Sink.faults l.out ≡ g.O.Sink.faults l.initial.out;
  counts : WhereTold (g.T.Table.means l.initial.table) (counts_after l.settings (map step_of (drop l.numbered-index l.numbered-items)) (g.T.Table.means l.initial.table) (g.T.Table.tally l.table).counts ≡ counts_after default_settings (map step_of l.script) (g.T.Table.means l.initial.table) (g.T.Table.tally l.initial.table).counts);
  keeps : Keeps g.T.Table.means g.T.Table.tally g.T.Table.kept g.T.Table.spent None l.initial.table l.table;
}
