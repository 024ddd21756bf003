-- The steps that a text asks for over a schema, or the first segment that is refused.
use Rattle.std.specs.Prelude.{◌≡◌, ℕ, ◌+◌, Bool, true, false, List, [], ◌∷◌, Option, Some, None, is_none, filter_map, Result, Ok, Err}
use Rattle.rx_value.specs.declared.shapes.Schema.{Schema}
use Rattle.rx_token.specs.declared.kinds.Token.{Token}
use Rattle.rx_token.specs.Scan.{token_list, bad_place}
use Rattle.rx_script.specs.Statements.{Written, select, change}
use Rattle.rx_script.specs.Reading.{statement_at}
use Rattle.rx_script.specs.Segments.{segments}
use Rattle.rx_query.specs.declared.statements.Setting.{Setting}
use Rattle.rx_query.specs.declared.statements.Statement.{Statement}
use Rattle.rx_query.specs.Steps.{Question, Request, request_of, Step}
use Rattle.rx_query.specs.Steps.Request.{select as select_request, change as change_request}
use Rattle.rx_statement.specs.declared.faults.What.{What}
use Rattle.rx_statement.specs.declared.faults.What.TheVariants.{NotAToken, NotInGrammar}
use Rattle.rx_statement.specs.declared.faults.ScriptFault.{ScriptFault}
use Rattle.rx_statement.specs.declared.faults.ScriptFault.TheVariants.{Bad}
use Rattle.rx_statement.specs.Outcomes.{unless_refused, first_given}
use Rattle.rx_statement.specs.Asking.{asked}
use Rattle.rx_statement.specs.Changes.{changed}

-- what comes of a segment: a request, none where it is empty, or why it is refused
abbrev pub Verdict : Type 0
Verdict = Result (Option Request) What

-- the request of a question
abbrev pub as_select : Result Question What → Verdict
as_select (Ok question) = Ok (Some (select_request question))
as_select (Err what) = Err what

-- the request of a change
abbrev pub as_change : Result (List Setting) What → Verdict
as_change (Ok settings) = Ok (Some (change_request settings))
as_change (Err what) = Err what

-- what comes of a statement as it is written
abbrev pub verdict_of : Schema → Option Written → Verdict
verdict_of schema None = Err NotInGrammar
verdict_of schema (Some (select w)) = as_select (asked schema w)
verdict_of schema (Some (change settings)) = as_change (changed settings)

-- what comes of the tokens of a segment
abbrev pub judged : Schema → List Token → Verdict
judged schema [] = Ok None
judged schema (t ∷ ts) = verdict_of schema (statement_at (t ∷ ts))

-- a segment with its number, and whether it is tokens to its end
pub record Part : Type 0 where
  pub number : ℕ
  pub tokens : List Token
  pub whole : Bool

-- whether a segment before others is tokens to its end
abbrev pub is_whole : Option ℕ → List (List Token) → Bool
is_whole bad [] = is_none bad
is_whole bad (next ∷ others) = true

-- the segments with their numbers, the first with this one; where a place fits no token, that is in the last one
abbrev pub parts_from : ℕ → Option ℕ → List (List Token) → List Part
parts_from n bad [] = []
parts_from n bad (segment ∷ others) =
    record { number = n; tokens = segment; whole = is_whole bad others } ∷ parts_from (n + 1) bad others

-- what comes of a segment that is tokens to its end, and of another
abbrev pub verdict_if : Bool → Verdict → Verdict
verdict_if true verdict = verdict
verdict_if false verdict = Err NotAToken

-- what comes of a part
abbrev pub verdict_on : Schema → Part → Verdict
verdict_on schema part = verdict_if part.whole (judged schema part.tokens)

-- why a segment of this number is refused, where it is
abbrev pub refused_at : ℕ → Verdict → Option ScriptFault
refused_at n (Ok request) = None
refused_at n (Err what) = Some (Bad n what)

-- the step of a segment of this number, where it is one
abbrev pub step_at : ℕ → Verdict → Option Step
step_at n (Ok (Some request)) = Some (record { number = n; request = request })
step_at n _ = None

-- why a part is refused
abbrev pub refusal_in : Schema → Part → Option ScriptFault
refusal_in schema part = refused_at part.number (verdict_on schema part)

-- the step of a part
abbrev pub step_in : Schema → Part → Option Step
step_in schema part = step_at part.number (verdict_on schema part)

-- the first refusal of parts, and else their steps
abbrev pub outcome_of : Schema → List Part → Result (List Step) ScriptFault
outcome_of schema parts = unless_refused (first_given (refusal_in schema) parts) (filter_map (step_in schema) parts)

-- The steps of a text's segments, or the first that is refused.
unfoldable pub read_of : Schema → List ℕ → Result (List Step) ScriptFault
read_of schema text = outcome_of schema (parts_from 1 (bad_place text) (segments (token_list text)))

-- what comes of a segment is just this
abbrev pub JudgesAs : Verdict → Result (Option Statement) What → Type 0
JudgesAs said (Ok None) = said ≡ Ok None
JudgesAs said (Ok (Some statement)) = said ≡ Ok (Some (request_of statement))
JudgesAs said (Err what) = said ≡ Err what
