-- Names in memory and what stands under them.
use Rattle.std.specs.Prelude.{◌≡◌, ℕ, Bool, true, false, List, Option, Some, None, option_and_then, if◌then◌else◌}
use Rattle.std.specs.List.{find}
use Rattle.std.specs.Str.{bytes_eq}
use Rattle.rx_outside.specs.declared.entries.Entry.{Entry}
use Rattle.rx_outside.specs.Files.{OthersStay}

-- the entry has this name
abbrev pub is_named : List ℕ → Entry → Bool
is_named q e = bytes_eq e.name q

-- the entry of a name, where there is one
abbrev pub entry_in : List Entry → List ℕ → Option Entry
entry_in es q = find (is_named q) es

-- the bytes under a name, where it is there
abbrev pub contents_in : List Entry → List ℕ → Option (List ℕ)
contents_in es q = option_and_then (λ e. e.contents) (entry_in es q)

-- the bytes of an entry, where they are told
abbrev pub told_contents : Entry → Option (List ℕ)
told_contents e = if e.told then e.contents else None

-- the bytes that are told of a name: none where it is missing, or where its last `replace` failed
abbrev pub told_in : List Entry → List ℕ → Option (List ℕ)
told_in es q = option_and_then told_contents (entry_in es q)

-- the bytes for which room is set aside under a name
abbrev pub room_in : List Entry → List ℕ → Option ℕ
room_in es q = option_and_then (λ e. e.aside) (entry_in es q)

-- The entry of the name was changed so, and all other names keep theirs.
pub record ChangesEntry (old new : List Entry) (name : List ℕ) (change : Option Entry → Option Entry) : Type 0 where
  pub changed : entry_in new name ≡ change (entry_in old name)
  pub others : OthersStay (entry_in old) (entry_in new) name

-- contents are put: the name is there then, and its contents are told
abbrev pub with_contents : List ℕ → List ℕ → Option Entry → Option Entry
with_contents name bytes None = Some (record { name = name; contents = Some bytes; told = true; aside = None })
with_contents name bytes (Some e) = Some (record e { contents = Some bytes; told = true })

-- room for n bytes is set aside: a name that is missing stays so
abbrev pub with_aside : List ℕ → ℕ → Option Entry → Option Entry
with_aside name n None = Some (record { name = name; contents = None; told = true; aside = Some n })
with_aside name n (Some e) = Some (record e { aside = Some n })

-- a `replace` puts these bytes: the room that was set aside is used up
abbrev pub filled : List ℕ → Option Entry → Option Entry
filled bytes None = None
filled bytes (Some e) = Some (record e { contents = Some bytes; told = true; aside = None })

-- a `replace` fails: the contents aren't told any more, and no room is set aside
abbrev pub lost : Option Entry → Option Entry
lost None = None
lost (Some e) = Some (record e { told = false; aside = None })
