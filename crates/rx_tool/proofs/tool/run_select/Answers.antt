use Rattle.rx_inputs.specs.Faults.{held}
use Rattle.rx_inputs.specs.Files.{held_by}
use Rattle.rx_words.specs.Words.{files_of}
use Rattle.rx_inputs.specs.Reads.{files_read}
use Rattle.rx_engine.specs.Seen.{sink_seen}
use Rattle.rx_tool.proofs.Owed.{script_ends, script_later, calm_accepted}
use Rattle.rx_tool.proofs.Headline.{bags_read}
use Rattle.rx_tool.proofs.tool.run_select.Goals as goal

pub returns-clause-work : goal.returns-clause-work
returns-clause-work g c =
    let told = g.F.Files.told c.args.files.now in
    let names = files_of c.args.names.now in
    let read = held c.in-Ok.read in
    let old = sink_seen g.O.Sink.text g.O.Sink.faults g.O.Sink.room c.args.out.now in
    let new = sink_seen g.O.Sink.text g.O.Sink.faults g.O.Sink.room c.run_inputs.new.out in
    record {
      ends = script_ends (files_read told names) (held_by told names) read (g.F.Files.faults c.args.files.now) (g.F.Files.faults c.read_inputs.new.files) old new c.run_inputs.result c.in-Ok.ensures.accepted c.run_inputs.ensures.puts c.run_inputs.ensures.table c.run_inputs.ensures.stopped;
      sure = c.read_inputs.ensures.sure;
      calm = calm_accepted (held_by told names) read old new c.run_inputs.result c.in-Ok.ensures.accepted c.run_inputs.ensures.puts c.run_inputs.ensures.stopped;
      taken = c.read_inputs.ensures.taken;
      files_later = c.read_inputs.ensures.later;
      out_later = script_later read old new c.run_inputs.result c.run_inputs.ensures.puts c.run_inputs.ensures.stopped;
    }

pub returns-clause-bags : goal.returns-clause-bags
returns-clause-bags g c =
    let told = g.F.Files.told c.args.files.now in
    bags_read c.run_inputs.result (held_by told (files_of c.args.names.now)) c.in-Ok.read c.in-Ok.ensures.accepted c.in-Ok.ensures.storable c.in-Ok.ensures.by_id c.in-Ok.ensures.asks c.in-Ok.ensures.spelled
