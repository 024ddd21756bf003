-- Outcomes of a reading, lists of them, and the first refusal among them.
use Rattle.std.specs.Prelude.{◌≡◌, List, [], ◌∷◌, ◌++◌, Result, Ok, Err}
use Rattle.rx_data.specs.declared.faults.DataFault.{DataFault}
use Rattle.rx_data.specs.declared.faults.DataFault.TheVariants.{NoMemory}

-- a value, or why there is none
abbrev pub Outcome : Type 0 → Type 0
Outcome A = Result A DataFault

-- a result is just this outcome, or there was no memory
abbrev pub Answers : {A : Type 0} → Outcome A → Result A DataFault → Type 0
Answers said (Err NoMemory) = Unit {0}
Answers said (Err fault) = said ≡ Err fault
Answers said (Ok x) = said ≡ Ok x

-- values before others, where there are others
abbrev pub with_front : {A : Type 0} → List A → Outcome (List A) → Outcome (List A)
with_front front (Ok others) = Ok (front ++ others)
with_front front (Err fault) = Err fault

-- an outcome before others: its refusal comes first
abbrev pub before : {A : Type 0} → Outcome A → Outcome (List A) → Outcome (List A)
before (Ok x) others = with_front (x ∷ []) others
before (Err fault) others = Err fault

-- the values of all outcomes, or the first refusal
abbrev pub all_of : {A : Type 0} → List (Outcome A) → Outcome (List A)
all_of [] = Ok []
all_of (x ∷ xs) = before x (all_of xs)
