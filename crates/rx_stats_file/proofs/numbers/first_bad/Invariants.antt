use Rattle.std.proofs.Common.{◌≡◌, not, find}
use Rattle.serde_json.specs.View.{members_view}
use Rattle.rx_stats_file.specs.Members.{listed}
use Rattle.rx_stats_file.specs.Statistics.{is_good}
use Rattle.rx_stats_file.proofs.numbers.first_bad.Given as goal

-- the first bad member is among those that are left
abbrev pub invariant-loop-name : goal.invariant-loop-name
invariant-loop-name l =
    find (λ m. not (is_good l.indexes m)) (listed (members_view l.fn.records.entries)) ≡ find (λ m. not (is_good l.indexes m)) (listed (members_view l.name-iterator))
