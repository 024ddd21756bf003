use Rattle.rx_ranges.proofs.Keeping.{ranges_rise, ranges_keep}
use Rattle.rx_ranges.proofs.laws.ranges_lose_no_row.Goals as goal

pub returns-clause-rise : goal.returns-clause-rise
returns-clause-rise c columns parts limit t p list is = ranges_rise columns parts limit t p list is.0

pub returns-clause-keep : goal.returns-clause-keep
returns-clause-keep c schema parts limit t p list row compares is fits holds = ranges_keep schema parts limit t p list row compares is.0 fits holds
