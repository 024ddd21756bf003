-- Files in memory, whose calls fail exactly where it is listed.
use Rattle.std.specs.Prelude.{ℕ, Bool, false, not, ◌||◌, nat_le, List, [], ◌∷◌, Option, Some, None, is_some, is_none}
use Rattle.rx_outside.specs.declared.entries.Entry.{Entry}
use Rattle.rx_outside.specs.Causes.{rise}
use Rattle.rx_outside.specs.Listed.{is_listed, room_if}
use Rattle.rx_outside.specs.Entries.{entry_in, contents_in, told_in, room_in}

-- what is in memory: the entries of names, the numbers of the calls that are to fail, the calls made, those that
-- failed, and the bytes handed out
pub record Memory : Type 0 where
  pub entries : List Entry
  pub failing : List ℕ
  pub calls : ℕ
  pub faults : ℕ
  pub taken : ℕ

-- nothing is there, and no call is listed
abbrev pub empty_memory : Memory
empty_memory = record { entries = []; failing = []; calls = 0; faults = 0; taken = 0 }

-- the entry of a name, where there is one
abbrev pub entry_of : Memory → List ℕ → Option Entry
entry_of m q = entry_in m.entries q

-- the bytes under a name, where it is there
abbrev pub contents_of : Memory → List ℕ → Option (List ℕ)
contents_of m q = contents_in m.entries q

-- the bytes that are told of a name
abbrev pub told_of : Memory → List ℕ → Option (List ℕ)
told_of m q = told_in m.entries q

-- the room that is set aside for a name
abbrev pub aside_of : Memory → List ℕ → Option ℕ
aside_of m q = room_in m.entries q

-- no call is listed and the name is there
abbrev pub sure_if : List ℕ → Option (List ℕ) → Bool
sure_if [] contents = is_some contents
sure_if (call ∷ calls) contents = false

-- reading this name cannot fail
abbrev pub sure_of : Memory → List ℕ → Bool
sure_of m q = sure_if m.failing (contents_of m q)

-- so many bytes can be put under this name
abbrev pub room_of : Memory → List ℕ → Option ℕ
room_of m q = room_if m.failing (aside_of m q)

-- a call that reads this name fails: it is listed, or the name is missing
abbrev pub read_fails : Memory → List ℕ → Bool
read_fails m q = is_listed m.failing m.calls || is_none (contents_of m q)

-- there is room for n bytes
abbrev pub has_room : Option ℕ → ℕ → Bool
has_room None n = false
has_room (Some room) n = nat_le n room

-- a call that puts n bytes under this name fails: it is listed, or no room for them is set aside
abbrev pub replace_fails : Memory → List ℕ → ℕ → Bool
replace_fails m q n = is_listed m.failing m.calls || not (has_room (aside_of m q) n)

-- one more call was made
abbrev pub after_call : Memory → Memory
after_call m = record m { calls = rise 1 m.calls }

-- one more call was made, and failed
abbrev pub after_fault : Memory → Memory
after_fault m = record m { calls = rise 1 m.calls; faults = rise 1 m.faults }
