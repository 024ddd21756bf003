-- Counts that stay at their last value.
use Rattle.std.specs.Prelude.{ℕ, ◌+◌, ◌*◌, ◌-◌, ◌^◌, min}
use Rattle.rx_store.specs.declared.tables.Counts.{Counts}
use Rattle.rx_run.specs.declared.reads.Reads.{Reads}

-- a number as a count has it
abbrev pub counted_number : ℕ → ℕ
counted_number n = min n (2 ^ 64 - 1)

-- what is read in all for so many rows
abbrev pub times : Reads → ℕ → Counts
times reads n = record {
  seeks = counted_number (reads.opened.seeks + reads.each.seeks * n);
  entries = counted_number (reads.opened.entries + reads.each.entries * n);
  rows = counted_number (reads.opened.rows + reads.each.rows * n);
}
