-- What the files of a script owe, read and run.
use Rattle.std.proofs.Common.{◌≡◌, ◌≤◌, arith, ℕ, List, Option, Some, None, Result, Ok, Err, IfErr, IfOk, OnOk, subst, sym, inl, inr, refl, ap, ◌∙◌}
use Rattle.rx_index.specs.declared.indexed.Indexed.{Indexed}
use Rattle.rx_value.specs.Counting.{rise}
use Rattle.rx_store.specs.Tables.{Meaning}
use Rattle.rx_tool.specs.Seen.{FilesSeen}
use Rattle.rx_store.specs.declared.tables.Counts.{Counts}
use Rattle.rx_store.specs.Stored.{Stored, in_memory, no_counts}
use Rattle.rx_query.specs.Settings.{default_settings}
use Rattle.rx_inputs.specs.declared.reading.InputFault.{InputFault}
use Rattle.rx_inputs.specs.declared.reading.InputFault.TheVariants as fault
use Rattle.rx_inputs.specs.Checked.{Checked, AcceptsAs}
use Rattle.rx_inputs.specs.Checked.Checked.{Accepts, Refuses, Untold}
use Rattle.rx_inputs.specs.Faults.{StopsReading}
use Rattle.rx_inputs.specs.Files.{Held}
use Rattle.rx_inputs.specs.Reads.{File}
use Rattle.rx_tool.specs.declared.stops.Stop.{Stop}
use Rattle.rx_tool.specs.declared.stops.Stop.TheVariants.{ReadFault, WriteFault, Words, Refused, NoMemory}
use Rattle.rx_engine.specs.Seen.{SinkSeen}
use Rattle.rx_tool.specs.Blocks.{blocks_of, counts_after}
use Rattle.rx_engine.specs.Running.{Puts, StopsWriting, StopsBetween, HasRoom, size_of}
use Rattle.rx_tool.specs.Stops.{stop_of}
use Rattle.rx_tool.specs.Owes.{Outcome, Owes, outcome_of, script_owes, table_of, table_after}
use Rattle.rx_tool.specs.Ending.{StopsRun, HasRoomForText}
use Rattle.rx_tool.specs.Work.{IsWork, StopsScript, WorkEnds}
use Rattle.rx_engine.proofs.Blocks.{Takes-nothing}
use Rattle.rx_tool.proofs.Sums.{counts_are_sums}

-- where files aren't read, nothing is put
pub reading_stops : (checked : Checked Held) (before after : ℕ) (sink : SinkSeen) (f : InputFault) → StopsReading checked before after f → StopsRun (outcome_of checked) before after sink sink (stop_of f)
reading_stops checked before after sink fault.ReadFault s = (s, refl)
reading_stops (Accepts held) before after sink (fault.Refused line) s = absurd s
reading_stops (Refuses refusal) before after sink (fault.Refused line) s = record { owed_so = (refusal, refl, s); blocks = Takes-nothing sink.text }
reading_stops Untold before after sink (fault.Refused line) s = record { owed_so = tt; blocks = Takes-nothing sink.text }
reading_stops (Accepts held) before after sink fault.NoMemory s = (0, Takes-nothing sink.text)
reading_stops (Refuses refusal) before after sink fault.NoMemory s = (0, Takes-nothing sink.text)
reading_stops Untold before after sink fault.NoMemory s = tt

script_done : (files : List File) (checked : Checked Held) (held : Held) (before after : ℕ) (old new : SinkSeen) (table : Stored) → AcceptsAs checked held → Puts (table_of held) (blocks_of held.steps (table_of held)) old new → table ≡ table_after held → WorkEnds (script_owes files checked) before after old new (Ok table)
script_done files (Accepts mine) held before after old new table e puts is =
    let mine_put = subst (λ (h : Held). Puts (table_of h) (blocks_of h.steps (table_of h)) old new) (sym e) puts in
    ((refl, mine_put.text), (refl, refl, (rw (is, e) refl, refl)))
script_done files (Refuses refusal) held before after old new table e puts is = absurd e
script_done files Untold held before after old new table e puts is = (tt, (refl, refl, tt))

script_stops : (files : List File) (checked : Checked Held) (held : Held) (before after : ℕ) (old new : SinkSeen) (stop : Stop) → AcceptsAs checked held → StopsScript held old new stop → WorkEnds (script_owes files checked) before after old new (Err stop)
script_stops files checked held before after old new ReadFault e s = absurd s
script_stops files checked held before after old new Words e s = absurd s
script_stops files checked held before after old new (Refused line) e s = absurd s
script_stops files (Accepts mine) held before after old new WriteFault e s =
    let mine_stops = subst (λ (h : Held). StopsScript h old new WriteFault) (sym e) s in
    (mine_stops.rose, mine_stops.front)
script_stops files (Refuses refusal) held before after old new WriteFault e s = absurd e
script_stops files Untold held before after old new WriteFault e s = (s.rose, tt)
script_stops files (Accepts mine) held before after old new NoMemory e s =
    let mine_stops = subst (λ (h : Held). StopsScript h old new NoMemory) (sym e) s in
    mine_stops.some
script_stops files (Refuses refusal) held before after old new NoMemory e s = absurd e
script_stops files Untold held before after old new NoMemory e s = tt

-- how the run of an accepted script ends, so does the work
pub script_ends : (files : List File) (checked : Checked Held) (held : Held) (before after : ℕ) (old new : SinkSeen) (r : Result Stored Stop) → AcceptsAs checked held → OnOk r (Puts (table_of held) (blocks_of held.steps (table_of held)) old new) → IfOk r (λ table. table ≡ table_after held) → IfErr r (StopsScript held old new) → WorkEnds (script_owes files checked) before after old new r
script_ends files checked held before after old new (Ok table) e puts is stopped = script_done files checked held before after old new table e puts is
script_ends files checked held before after old new (Err stop) e puts is stopped = script_stops files checked held before after old new stop e stopped

-- where there is room for all blocks of a script, no put fails
script_stop_calm : (held : Held) (old new : SinkSeen) (stop : Stop) → StopsScript held old new stop → HasRoom old.room (size_of (blocks_of held.steps (table_of held))) → new.faults ≡ old.faults
script_stop_calm held old new ReadFault s room = absurd s
script_stop_calm held old new Words s room = absurd s
script_stop_calm held old new (Refused line) s room = absurd s
script_stop_calm held old new WriteFault s room = absurd (s.no_room room)
script_stop_calm held old new NoMemory s room = s.no_fault

script_calm : (held : Held) (old new : SinkSeen) (r : Result Stored Stop) → OnOk r (Puts (table_of held) (blocks_of held.steps (table_of held)) old new) → IfErr r (StopsScript held old new) → HasRoom old.room (size_of (blocks_of held.steps (table_of held))) → new.faults ≡ old.faults
script_calm held old new (Ok table) puts stopped room = puts.no_fault
script_calm held old new (Err stop) puts stopped room = script_stop_calm held old new stop stopped room

script_stop_later : (held : Held) (old new : SinkSeen) (stop : Stop) → StopsScript held old new stop → old.faults ≤ new.faults
script_stop_later held old new ReadFault s = absurd s
script_stop_later held old new Words s = absurd s
script_stop_later held old new (Refused line) s = absurd s
script_stop_later held old new WriteFault s = s.later
script_stop_later held old new NoMemory s = let same = s.no_fault in omega (arith, same)

-- and none falls
pub script_later : (held : Held) (old new : SinkSeen) (r : Result Stored Stop) → OnOk r (Puts (table_of held) (blocks_of held.steps (table_of held)) old new) → IfErr r (StopsScript held old new) → old.faults ≤ new.faults
script_later held old new (Ok table) puts stopped = let same = puts.no_fault in omega (arith, same)
script_later held old new (Err stop) puts stopped = script_stop_later held old new stop stopped

room_owed : (checked : Checked Held) (held : Held) (room : Option ℕ) → AcceptsAs checked held → HasRoomForText (outcome_of checked) room → HasRoom room (size_of (blocks_of held.steps (table_of held)))
room_owed (Accepts mine) held room e (inl (none, some)) = absurd (some refl)
room_owed (Accepts mine) held room e (inr h) = subst (λ (k : Held). HasRoom room (size_of (blocks_of k.steps (table_of k)))) e h
room_owed (Refuses refusal) held room e h = absurd e
room_owed Untold held room e h = absurd h

-- where there is room for what is owed, no put fails
pub calm_accepted : (checked : Checked Held) (held : Held) (old new : SinkSeen) (r : Result Stored Stop) → AcceptsAs checked held → OnOk r (Puts (table_of held) (blocks_of held.steps (table_of held)) old new) → IfErr r (StopsScript held old new) → HasRoomForText (outcome_of checked) old.room → new.faults ≡ old.faults
calm_accepted checked held old new r e puts stopped h = script_calm held old new r puts stopped (room_owed checked held old.room e h)

abbrev pub the_table : Indexed → List (List ℕ) → Counts → Stored
the_table t statistics counts = record { table = t; statistics = statistics; counts = counts }

same_table : (t t' : Indexed) (s s' : List (List ℕ)) (c c' : Counts) → t ≡ t' → s ≡ s' → c ≡ c' → the_table t s c ≡ the_table t' s' c'
same_table t t' s s' c c' p q e = rw (p, q, e) refl

some_same : (a b : Indexed) → Some a ≡ Some b → a ≡ b
some_same a b e = cc e

abbrev pub meaning_of : Stored → Meaning
meaning_of s = in_memory s.table s.statistics

-- a table on which a script ran is the one that is owed
pub table_so : (old new : Stored) (held : Held) → old ≡ the_table held.table held.statistics no_counts → meaning_of new ≡ meaning_of old → new.counts ≡ counts_after default_settings held.steps (meaning_of old) old.counts → new ≡ table_after held
table_so old new held is same counts =
    same_table _ _ _ _ _ _
    (some_same _ _ (ap (λ (m : Meaning). m.told) same) ∙ ap (λ (s : Stored). s.table) is)
    (ap (λ (m : Meaning). m.statistics) same ∙ ap (λ (s : Stored). s.statistics) is)
    (counts ∙ ap (λ (s : Stored). counts_after default_settings held.steps (meaning_of s) s.counts) is ∙ counts_are_sums default_settings held.steps (table_of held) no_counts)

-- what is put of the blocks of that table is put of what is owed
pub puts_held : (t : Stored) (held : Held) (a b : SinkSeen) → t ≡ the_table held.table held.statistics no_counts → Puts (meaning_of t) (blocks_of held.steps (meaning_of t)) a b → Puts (table_of held) (blocks_of held.steps (table_of held)) a b
puts_held t held a b is = subst (λ (s : Stored). Puts (meaning_of s) (blocks_of held.steps (meaning_of s)) a b) is

pub writing_held : (t : Stored) (held : Held) (a b : SinkSeen) → t ≡ the_table held.table held.statistics no_counts → StopsWriting (meaning_of t) (blocks_of held.steps (meaning_of t)) a b → StopsWriting (table_of held) (blocks_of held.steps (table_of held)) a b
writing_held t held a b is = subst (λ (s : Stored). StopsWriting (meaning_of s) (blocks_of held.steps (meaning_of s)) a b) is

pub between_held : (t : Stored) (held : Held) (a b : SinkSeen) → t ≡ the_table held.table held.statistics no_counts → StopsBetween (meaning_of t) (blocks_of held.steps (meaning_of t)) a b → StopsBetween (table_of held) (blocks_of held.steps (table_of held)) a b
between_held t held a b is = subst (λ (s : Stored). StopsBetween (meaning_of s) (blocks_of held.steps (meaning_of s)) a b) is

rise_zero : (n : ℕ) → n ≡ rise 0 n
rise_zero n = grind arith

-- where memory runs out before the words are read nothing was done
pub nothing_done : (owes : Owes) (files : FilesSeen) (sink : SinkSeen) → IsWork owes files files sink sink (Err NoMemory)
nothing_done owes files sink = record {
  ends = by owes.outcome;
  sure = λ h. refl;
  calm = λ h. refl;
  taken = (0, omega arith, rise_zero files.taken);
  files_later = omega arith;
  out_later = omega arith;
}
  where
    by : (o : Option Outcome) → StopsRun o files.faults files.faults sink sink NoMemory
    by None = tt
    by (Some outcome) = (0, Takes-nothing sink.text)
