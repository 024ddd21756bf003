-- How a run ends, done or stopped.
use Rattle.std.proofs.Common.{◌≡◌, ◌⊎◌, ℕ, ◌≤◌, List, length, Option, Some, None, max, arith, inl, inr, subst, sym, refl, ◌∙◌, ap}
use Rattle.std.proofs.Math.Nat.{le-max_left, le-max_right}
use Rattle.rx_inputs.specs.Refusals.{line_of_refusal, words}
use Rattle.rx_tool.specs.declared.stops.Status.{Status}
use Rattle.rx_tool.specs.declared.stops.Status.TheVariants as status
use Rattle.rx_tool.specs.declared.stops.Stop.{Stop}
use Rattle.rx_tool.specs.declared.stops.Stop.TheVariants.{ReadFault, WriteFault, Words, Refused, NoMemory}
use Rattle.rx_engine.specs.Seen.{SinkSeen}
use Rattle.rx_tool.specs.Seen.{Outside}
use Rattle.rx_tool.specs.Stops.{Tells, IsTold, line_of, status_of}
use Rattle.rx_engine.specs.Running.{HasRoom}
use Rattle.rx_tool.specs.Owes.{Outcome, Owes}
use Rattle.rx_tool.specs.Ending.{Ends, Hands, StopsRun, RefusedAt, IsAccepted, IsFaultless, HasRoomForLine, longest_fixed, refusal_line}

-- the line of a stop was put
told_ends : (owed : Option Outcome) (old new : Outside) (stop : Stop) (ended : Status) → StopsRun owed old.files.faults new.files.faults old.out new.out stop → IsTold stop old.err new.err ended → Ends owed old new (status_of stop)
told_ends owed old new ReadFault ended s t = inl (record { rose = s.0; nothing = s.1; line = t.line })
told_ends owed old new WriteFault ended s t = inr (inl (record { rose = s.0; front = s.1; line = t.line }))
told_ends owed old new Words ended s t = record { line = line_of_refusal words; refused = s; put = t.line }
told_ends owed old new (Refused line) ended s t = record { line = line; refused = s; put = t.line }
told_ends owed old new NoMemory ended s t = record { blocks = s; line = t.line }

-- a run that stops ends with the status that its line tells
pub stopped_ends : (owed : Option Outcome) (old new : Outside) (stop : Stop) (ended : Status) → StopsRun owed old.files.faults new.files.faults old.out new.out stop → Tells stop old.err new.err ended → Ends owed old new ended
stopped_ends owed old new stop ended s (inl t) = subst (λ (e : Status). Ends owed old new e) (sym t.status) (told_ends owed old new stop ended s t)
stopped_ends owed old new stop ended s (inr t) =
    subst (λ (e : Status). Ends owed old new e) (sym t.status) (inr (inr (record { stop = stop; stopped = s; rose = t.rose; front = t.front; is_front = t.is_front; line = t.line })))

-- it is not done
pub stopped_not_done : (old new : SinkSeen) (stop : Stop) (ended : Status) → Tells stop old new ended → ended ≡ status.Done → ⊥
stopped_not_done old new stop ended (inl t) done = of_stop stop (sym t.status ∙ done)
  where
    of_stop : (s : Stop) → status_of s ≡ status.Done → ⊥
    of_stop ReadFault e = cc e
    of_stop WriteFault e = cc e
    of_stop Words e = cc e
    of_stop (Refused line) e = cc e
    of_stop NoMemory e = cc e
stopped_not_done old new stop ended (inr t) done = cc (t.status, done)

-- it hands no table back
pub stopped_hands : (owes : Owes) (old new : SinkSeen) (stop : Stop) (ended : Status) → Tells stop old new ended → Hands owes ended None None
stopped_hands owes old new stop ended (inl t) = subst (λ (e : Status). Hands owes e None None) (sym t.status) (of_stop stop)
  where
    of_stop : (s : Stop) → Hands owes (status_of s) None None
    of_stop ReadFault = (refl, refl)
    of_stop WriteFault = (refl, refl)
    of_stop Words = (refl, refl)
    of_stop (Refused line) = (refl, refl)
    of_stop NoMemory = (refl, refl)
stopped_hands owes old new stop ended (inr t) = subst (λ (e : Status). Hands owes e None None) (sym t.status) (refl, refl)

-- what is accepted is not refused
never_refused : (owed : Option Outcome) (line : List ℕ) (old new : SinkSeen) → RefusedAt owed line old new → IsAccepted owed → ⊥
never_refused None line old new r a = a
never_refused (Some outcome) line old new r a = cc (r.owed_so.1, a)

-- an accepted run that stops has a fault or no memory
pub stopped_complete : (owed : Option Outcome) (old new : Outside) (stop : Stop) (ended : Status) → StopsRun owed old.files.faults new.files.faults old.out new.out stop → Tells stop old.err new.err ended → IsAccepted owed → IsFaultless old new → (ended ≡ status.Done) ⊎ (ended ≡ status.NoMemory)
stopped_complete owed old new stop ended s (inr t) a none = absurd (none.2 t.rose)
stopped_complete owed old new ReadFault ended s (inl t) a none = absurd (none.0 s.0)
stopped_complete owed old new WriteFault ended s (inl t) a none = absurd (none.1 s.0)
stopped_complete owed old new Words ended s (inl t) a none = absurd (never_refused owed (line_of_refusal words) old.out new.out s a)
stopped_complete owed old new (Refused line) ended s (inl t) a none = absurd (never_refused owed line old.out new.out s a)
stopped_complete owed old new NoMemory ended s (inl t) a none = inr t.status

-- less room is enough for less
room_for : (room : Option ℕ) (n m : ℕ) → m ≤ n → HasRoom room n → HasRoom room m
room_for room n m b h = (h.0, h.1, omega (arith, b, h.2))

fixed_line : (room : Option ℕ) (n : ℕ) (line : List ℕ) → n ≤ longest_fixed → HasRoom room (max longest_fixed (length line)) → HasRoom room n
fixed_line room n line few h = room_for room (max longest_fixed (length line)) n (omega (arith, few, le-max_left longest_fixed (length line))) h

refused_line : (outcome : Outcome) (line : List ℕ) (old new : SinkSeen) (room : Option ℕ) → RefusedAt (Some outcome) line old new → HasRoom room (max longest_fixed (length (refusal_line outcome.refusal))) → HasRoom room (length line)
refused_line outcome line old new room r h =
    let e : refusal_line outcome.refusal ≡ line = ap refusal_line r.owed_so.1 ∙ sym r.owed_so.2 in
    let g : HasRoom room (max longest_fixed (length line)) = subst (λ (l : List ℕ). HasRoom room (max longest_fixed (length l))) e h in
    room_for room (max longest_fixed (length line)) (length line) (le-max_right longest_fixed (length line)) g

-- where there is room for any line of the run, there is room for that of its stop
pub line_has_room : (owed : Option Outcome) (before after : ℕ) (old new : SinkSeen) (room : Option ℕ) (stop : Stop) → StopsRun owed before after old new stop → HasRoomForLine owed room → HasRoom room (length (line_of stop))
line_has_room None before after old new room stop s h = absurd h
line_has_room (Some outcome) before after old new room ReadFault s h = fixed_line room 13 (refusal_line outcome.refusal) (omega arith) h
line_has_room (Some outcome) before after old new room WriteFault s h = fixed_line room 14 (refusal_line outcome.refusal) (omega arith) h
line_has_room (Some outcome) before after old new room Words s h = refused_line outcome (line_of_refusal words) old new room s h
line_has_room (Some outcome) before after old new room (Refused line) s h = refused_line outcome line old new room s h
line_has_room (Some outcome) before after old new room NoMemory s h = fixed_line room 14 (refusal_line outcome.refusal) (omega arith) h
