use Rattle.rx_data.specs.Outcomes.{all_of}
use Rattle.rx_data.specs.Records.{records_left, IsPlain}
use Rattle.rx_data.specs.Rows.{row_outcomes}
use Rattle.rx_data.proofs.Steps.{RowsGive}
use Rattle.rx_data.proofs.rows.all_rows.Given as goal

abbrev pub invariant-loop-i : goal.invariant-loop-i
invariant-loop-i l = record {
  plain : IsPlain l.reader;
  rows : RowsGive l.columns l.i l.rows (records_left l.reader) (all_of (row_outcomes l.columns 1 (records_left l.fn.reader)));
}
