-- How many seeks were made to estimate ranges, by what their scans tell.
use Rattle.std.specs.Prelude.{ℕ, ◌^◌, ◌-◌, not}
use Rattle.std.specs.List.{sum_by}
use Rattle.rx_estimate.specs.Estimates.{seeks_for}
use Rattle.rx_cost.specs.declared.candidates.Scan.{Scan}
use Rattle.rx_cost.specs.declared.candidates.Candidate.{Candidate}

-- the most that a number tells
abbrev pub most_told : ℕ
most_told = 2 ^ 64 - 1

-- the seeks for the ranges of a scan: two for each, but those for which statistics stand in
abbrev pub seeks_of_scan : Scan → ℕ
seeks_of_scan scan = sum_by (seeks_for (not scan.dives)) scan.ranges

-- the seeks for all scans of a candidate
abbrev pub seeks_of_candidate : Candidate → ℕ
seeks_of_candidate candidate = sum_by seeks_of_scan candidate.scans
