use Rattle.std.proofs.Common.{◌≡◌, find}
use Rattle.serde_json.specs.View.{members_view}
use Rattle.rx_stats_file.specs.Members.{listed}
use Rattle.rx_stats_file.specs.Statistics.{is_named}
use Rattle.rx_stats_file.proofs.numbers.value_named.Given as goal

-- the first member of the name is among those that are left
abbrev pub invariant-loop-name : goal.invariant-loop-name
invariant-loop-name l =
    find (λ m. is_named m.0 l.index) (listed (members_view l.fn.records.entries)) ≡ find (λ m. is_named m.0 l.index) (listed (members_view l.name-iterator))
