-- A table some of whose calls fail.
use Rattle.std.specs.Prelude.{ℕ, ◌+◌, Bool, false, ◌==◌, List}
use Rattle.std.specs.List.{list_any}
use Rattle.rx_value.specs.Counting.{rise}
use Rattle.rx_store.specs.Tables.{Meaning, Tally}

-- a table, the numbers of the calls that are to fail, how many calls there were, and how many of them failed so
pub record Failing (S : Type 0) : Type 0 where
  pub table : S
  pub listed : List ℕ
  pub calls : ℕ
  pub faults : ℕ

-- the next call is listed
abbrev pub next_fails : {S : Type 0} → Failing S → Bool
next_fails f = list_any (λ call. call == f.calls) f.listed

-- the table behind it is the same, and one call more was counted
abbrev pub after_call : {S : Type 0} → Failing S → Failing S
after_call f = record f { calls = rise 1 f.calls }

-- the next call failed
abbrev pub after_failure : {S : Type 0} → Failing S → Failing S
after_failure f = record f { calls = rise 1 f.calls; faults = rise 1 f.faults }

-- it means what its table means, but a read may fail
abbrev pub unsure : Meaning → Meaning
unsure table = record table { sure = false }

-- what was counted: the table's, and the failures besides
abbrev pub with_failures : ℕ → Tally → Tally
with_failures n t = record t { faults = t.faults + n }
