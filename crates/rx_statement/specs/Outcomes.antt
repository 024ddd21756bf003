-- What comes of a segment or a script: something, or why it is refused.
use Rattle.std.specs.Prelude.{◌≡◌, ℕ, List, [], ◌∷◌, map, Option, Some, None, Result, Ok, Err}
use Rattle.std.specs.Option.{option_or}
use Rattle.rx_query.specs.declared.statements.Numbered.{Numbered}
use Rattle.rx_query.specs.declared.statements.Statement.{Statement}
use Rattle.rx_query.specs.Steps.{Request, request_of, Step, step_of}
use Rattle.rx_statement.specs.declared.faults.What.{What}
use Rattle.rx_statement.specs.declared.faults.ScriptFault.{ScriptFault}
use Rattle.rx_statement.specs.declared.faults.ScriptFault.TheVariants.{NoMemory}

-- something, unless it is refused
abbrev pub unless_refused : {A F : Type 0} → Option F → A → Result A F
unless_refused None a = Ok a
unless_refused (Some fault) a = Err fault

-- what the first item gives that gives something
abbrev pub first_given : {A B : Type 0} → (A → Option B) → List A → Option B
first_given f [] = None
first_given f (x ∷ xs) = option_or (f x) (first_given f xs)

-- A fault is that this is refused so, or want of memory.
abbrev pub Refuses : {A : Type 0} → Result A What → What → Type 0
Refuses said what = said ≡ Err what

-- a result is just this outcome, or there was no memory
abbrev pub Answers : Result (List Step) ScriptFault → Result (List Numbered) ScriptFault → Type 0
Answers said (Err NoMemory) = Unit {0}
Answers said (Err fault) = said ≡ Err fault
Answers said (Ok script) = said ≡ Ok (map step_of script)
