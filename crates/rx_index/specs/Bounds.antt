-- Entries before a bound, and entries in a range.
use Rattle.std.specs.Prelude.{ℕ, Bool, true, false, List, [], ◌∷◌, length, map, filter, drop, Some, None}
use Rattle.rx_value.specs.declared.values.Value.{Value}
use Rattle.rx_value.specs.declared.ranges.KeyRange.{KeyRange}
use Rattle.rx_value.specs.declared.ranges.Rest.{Rest}
use Rattle.rx_value.specs.declared.ranges.Rest.TheVariants.{Start, Part as AtCut, Finish}
use Rattle.rx_value.specs.declared.shapes.Part.{Part}
use Rattle.rx_value.specs.Keys.{is_before, holds}
use Rattle.rx_value.specs.declared.order.Span.{Span}
use Rattle.rx_value.specs.declared.order.End.{End}
use Rattle.rx_index.specs.declared.indexed.Indexed.{Indexed}
use Rattle.rx_index.specs.Entries.{entry_key, parts_at, ids_at}

-- the keys of entries in their order
abbrev pub keys_of : List Part → List (List Value) → List ℕ → List (List Value)
keys_of parts rows ids = map (λ id. entry_key parts rows id) ids

-- the keys of an index by number, in the order of its entries
abbrev pub index_keys : Indexed → ℕ → List (List Value)
index_keys t n = keys_of (parts_at t n) t.rows (ids_at t n)

-- how many of the keys stand before a bound
abbrev pub count_before : List Value → Rest → List Part → List (List Value) → ℕ
count_before points rest parts keys = length (filter (λ key. is_before points rest parts key) keys)

-- how many of the keys a range holds
abbrev pub count_held : KeyRange → List (List Value) → ℕ
count_held range keys = length (filter (λ key. holds range key) keys)

-- where a bound stands among the keys with its points
pub data KeyCut : Type 0 where
  start : KeyCut
  at : End → KeyCut
  finish : KeyCut

-- the cut of a bound
abbrev pub cut_of : Rest → KeyCut
cut_of Start = start
cut_of (AtCut end) = at end.now
cut_of Finish = finish

-- the first of these parts is there and falls
abbrev pub first_falls : List Part → Bool
first_falls [] = false
first_falls (p ∷ ps) = p.descending

-- where the next part of a range is gone through from: its lower end, and on a falling part its upper one
abbrev pub begin_end : Bool → Span → End
begin_end false span = span.lo
begin_end true span = span.hi

-- where the next part of a range is gone through to
abbrev pub end_end : Bool → Span → End
end_end false span = span.hi
end_end true span = span.lo

-- A range begins before the keys with its points, or where its next part begins.
abbrev pub begin_of : List Part → KeyRange → KeyCut
begin_of parts range = elim range.last [ None ↦ start | Some span ↦ at (begin_end (first_falls (drop (length range.points) parts)) span) ]

-- A range ends behind the keys with its points, or where its next part ends.
abbrev pub end_of : List Part → KeyRange → KeyCut
end_of parts range = elim range.last [ None ↦ finish | Some span ↦ at (end_end (first_falls (drop (length range.points) parts)) span) ]
