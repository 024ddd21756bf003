use Rattle.csv.specs.Records.{fields_of}
use Rattle.rx_data.specs.Outcomes.{all_of}
use Rattle.rx_data.specs.Rows.{field_outcomes}
use Rattle.rx_data.proofs.Steps.{FieldsGive}
use Rattle.rx_data.proofs.rows.record_row.Given as goal

abbrev pub invariant-loop-i : goal.invariant-loop-i
invariant-loop-i l = FieldsGive l.columns l.row (fields_of l.fields) l.i l.values (all_of (field_outcomes l.row 0 l.columns (fields_of l.fields)))
