-- Files in memory whose calls never fail.
use Rattle.std.specs.Prelude.{ℕ, Bool, true, List, [], Option, Some, None, unwrap_or, if◌then◌else◌}
use Rattle.rx_outside.specs.declared.entries.Entry.{Entry}
use Rattle.rx_outside.specs.Entries.{contents_in}

-- what is in memory: the entries of names, whether contents are told, and the bytes handed out
pub record SureMemory : Type 0 where
  pub entries : List Entry
  pub tells : Bool
  pub taken : ℕ

-- nothing was added, and the contents are told
abbrev pub empty_sure : SureMemory
empty_sure = record { entries = []; tells = true; taken = 0 }

-- the bytes under a name: none of a name that was never added
abbrev pub bytes_of : SureMemory → List ℕ → List ℕ
bytes_of m q = unwrap_or (contents_in m.entries q) []

-- the bytes that are told of a name
abbrev pub sure_told : SureMemory → List ℕ → Option (List ℕ)
sure_told m q = if m.tells then Some (bytes_of m q) else None
