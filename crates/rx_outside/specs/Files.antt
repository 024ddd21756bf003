-- What files tell.
use Rattle.std.specs.Prelude.{◌≡◌, ◌≢◌, ℕ, ◌-◌, ◌<◌, ◌≤◌, Bool, List, length, take, drop, Option, Some, None, Result, Ok, Err, IfSome, ◌⊎◌}
use Rattle.rx_outside.specs.Causes.{rise, Rose}
use Rattle.rx_outside.specs.declared.files.FileFault.{FileFault}
use Rattle.rx_outside.specs.declared.files.FileFault.TheVariants.{ReadFault, TooLong, NoMemory}

-- what no read changes: the contents that are told, the names whose reads cannot fail, and the room set aside
pub record KeepsFiles {F : Type 0} (told : F → List ℕ → Option (List ℕ)) (sure : F → List ℕ → Bool) (room : F → List ℕ → Option ℕ) (old new : F) : Type 0 where
  pub told_stays : told new ≡ told old
  pub sure_stays : sure new ≡ sure old
  pub room_stays : room new ≡ room old

-- The contents have this length, where they are told.
abbrev pub IsLength : Option (List ℕ) → ℕ → Type 0
IsLength None n = Unit {0}
IsLength (Some bytes) n = n ≡ length bytes

-- The buffer begins with n bytes of these contents from a place on; there is one at least where the place is below
-- their length and the buffer isn't empty.
pub record ReadsPart (bytes : List ℕ) (at : ℕ) (into : List ℕ) (n : ℕ) : Type 0 where
  pub within : n ≤ length bytes - at
  pub part : take n into ≡ take n (drop at bytes)
  pub some : at < length bytes → 0 < length into → 0 < n

-- n bytes of the contents were read, where these are told
abbrev pub GivesPart : Option (List ℕ) → ℕ → List ℕ → ℕ → Type 0
GivesPart None at into n = Unit {0}
GivesPart (Some bytes) at into n = ReadsPart bytes at into n

-- All names but this one tell the same.
abbrev pub OthersStay : {A : Type 0} → (List ℕ → A) → (List ℕ → A) → List ℕ → Type 0
OthersStay old new name = (q : List ℕ) → q ≢ name → new q ≡ old q

-- The name holds the bytes and all others stay, or no contents are told any more.
abbrev pub HoldsNow : (List ℕ → Option (List ℕ)) → (List ℕ → Option (List ℕ)) → List ℕ → List ℕ → Type 0
HoldsNow old new name bytes = ((new name ≡ Some bytes) × OthersStay old new name) ⊎ ((q : List ℕ) → new q ≡ None)

-- Nothing is told of the name, and all others stay.
abbrev pub LosesName : (List ℕ → Option (List ℕ)) → (List ℕ → Option (List ℕ)) → List ℕ → Type 0
LosesName old new name = (new name ≡ None) × OthersStay old new name

-- A whole read answered the contents, where they are told, and no more than the limit.
abbrev pub IsWhole : Option (List ℕ) → ℕ → List ℕ → Type 0
IsWhole told limit answer = (length answer ≤ limit) × IfSome told (λ bytes. answer ≡ bytes)

-- what each fault of a whole read shows, by the count of faults before and after
abbrev pub FaultShows : ℕ → ℕ → Option (List ℕ) → ℕ → FileFault → Type 0
FaultShows before now told limit ReadFault = Rose before now
FaultShows before now told limit (TooLong n) = (limit < n) × IsLength told n
FaultShows before now told limit NoMemory = Unit {0}

-- The count of bytes handed out rose by n, which is at most the limit.
abbrev pub TakesUpTo : ℕ → ℕ → ℕ → Type 0
TakesUpTo limit before now = (n : ℕ) × (n ≤ limit) × (now ≡ rise n before)

-- how many bytes a whole read takes at most: those of the contents, and where they aren't told as many as the limit
abbrev pub most_taken : Option (List ℕ) → ℕ → ℕ
most_taken None limit = limit
most_taken (Some bytes) limit = length bytes

-- the bytes that a whole read takes: the answer's at Ok, none where nothing was read, and at most the limit in any case
abbrev pub WholeTakes : ℕ → ℕ → ℕ → Result (List ℕ) FileFault → Type 0
WholeTakes limit before now (Ok answer) = now ≡ rise (length answer) before
WholeTakes limit before now (Err ReadFault) = TakesUpTo limit before now
WholeTakes limit before now (Err (TooLong n)) = now ≡ before
WholeTakes limit before now (Err NoMemory) = now ≡ before
