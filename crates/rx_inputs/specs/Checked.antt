-- Inputs that are checked one after the other.
use Rattle.std.specs.Prelude.{◌≡◌, ℕ, List, length, Option, Some, None, Result, Ok, Err, nat_lt, if◌then◌else◌}
use Rattle.rx_inputs.specs.declared.inputs.Input.{Input}
use Rattle.rx_inputs.specs.Refusals.{Refusal, too_long, limit_of, line_of_refusal}

-- what a check of inputs gives
pub data Checked (A : Type 0) : Type 0 where
  Accepts : A → Checked A
  Refuses : Refusal → Checked A
  -- nothing is told of an input on which the check depends
  Untold : Checked A

-- one check after another: the first refusal ends them
abbrev pub and_then : {A B : Type 0} → Checked A → (A → Checked B) → Checked B
and_then (Accepts a) f = f a
and_then (Refuses refusal) f = Refuses refusal
and_then Untold f = Untold

-- the text of a file, which may have so many bytes
abbrev pub text_of_file : Input → Option (List ℕ) → Checked (List ℕ)
text_of_file input None = Untold
text_of_file input (Some text) = if nat_lt (limit_of input) (length text) then Refuses (too_long input) else Accepts text

-- what a text stands for, or the refusal of its fault
abbrev pub unless_fault : {A F : Type 0} → (F → Refusal) → Result A F → Checked A
unless_fault refusal (Ok a) = Accepts a
unless_fault refusal (Err fault) = Refuses (refusal fault)

-- the check gives this value, where what it depends on is told
abbrev pub AcceptsAs : {A : Type 0} → Checked A → A → Type 0
AcceptsAs (Accepts a) x = a ≡ x
AcceptsAs (Refuses refusal) x = ⊥
AcceptsAs Untold x = Unit {0}

-- the check gives a refusal with this line, where what it depends on is told
abbrev pub RefusesWith : {A : Type 0} → Checked A → List ℕ → Type 0
RefusesWith (Accepts a) line = ⊥
RefusesWith (Refuses refusal) line = line ≡ line_of_refusal refusal
RefusesWith Untold line = Unit {0}
