use Rattle.std.proofs.Common.{map}
use Rattle.std.specs.Prelude.{string_bytes}
use Rattle.rx_engine.specs.Seen.{sink_seen}
use Rattle.rx_tool.specs.Seen.{files_seen, outside}
use Rattle.rx_tool.specs.Owes.{owed}
use Rattle.rx_tool.proofs.Ends.{stopped_ends, stopped_not_done, stopped_hands, stopped_complete, line_has_room}
use Rattle.rx_tool.proofs.tool.run.Goals as goal

pub returns-in-Err-clause-run : goal.returns-in-Err-clause-run
returns-in-Err-clause-run g c =
    let owes = owed (map string_bytes c.args.words.now) (g.F.Files.told c.args.files) in
    let old = outside (files_seen g.F.Files.told g.F.Files.sure g.F.Files.taken g.F.Files.faults c.args.files) (sink_seen g.O.Sink.text g.O.Sink.faults g.O.Sink.room c.args.out.now) (sink_seen g.E.Sink.text g.E.Sink.faults g.E.Sink.room c.args.err.now) in
    let new = outside (files_seen g.F.Files.told g.F.Files.sure g.F.Files.taken g.F.Files.faults c.work.new.files) (sink_seen g.O.Sink.text g.O.Sink.faults g.O.Sink.room c.work.new.out) (sink_seen g.E.Sink.text g.E.Sink.faults g.E.Sink.room c.tell-status.new.err) in
    let stop = c.in-Err.stop in
    let work = c.in-Err.ensures.work in
    let told = c.tell-status.ensures.told in
    record {
      ends = stopped_ends owes.outcome old new stop c.tell-status.result work.ends told;
      tables = stopped_hands owes old.err new.err stop c.tell-status.result told;
      complete = stopped_complete owes.outcome old new stop c.tell-status.result work.ends told;
      sure = work.sure;
      calm = work.calm;
      err_calm = λ h. c.tell-status.ensures.calm (line_has_room owes.outcome old.files.faults new.files.faults old.out new.out old.err.room stop work.ends h);
      err_no_fault = c.tell-status.ensures.no_fault;
      taken = work.taken;
      files_later = work.files_later;
      out_later = work.out_later;
      err_later = c.tell-status.ensures.later;
    }

pub returns-in-Err-clause-bags : goal.returns-in-Err-clause-bags
returns-in-Err-clause-bags g c done =
    let old = sink_seen g.E.Sink.text g.E.Sink.faults g.E.Sink.room c.args.err.now in
    let new = sink_seen g.E.Sink.text g.E.Sink.faults g.E.Sink.room c.tell-status.new.err in
    absurd (stopped_not_done old new c.in-Err.stop c.tell-status.result c.tell-status.ensures.told done)
