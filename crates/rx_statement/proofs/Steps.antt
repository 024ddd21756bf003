-- Each step of a script asks a question that the planners can rely on.
use Rattle.std.proofs.Common.{◌≡◌, ℕ, Bool, true, false, List, [], ◌∷◌, length, map, Option, Some, None, refl, sym, ap, subst, ◌∙◌}
use Rattle.std.specs.Prelude.{All, filter_map, Result, Ok, Err, IfOk}
use Rattle.std.specs.List.{AllByRecursion, cons_option}
use Rattle.std.proofs.lemmas.List.Elements.{All-nil, All-cons}
use Rattle.rx_value.specs.declared.shapes.Schema.{Schema}
use Rattle.rx_token.specs.Scan.{token_list, bad_place}
use Rattle.rx_token.specs.declared.kinds.Token.{Token}
use Rattle.rx_script.specs.Statements.{Written}
use Rattle.rx_script.specs.Statements as written
use Rattle.rx_script.specs.Reading.{statement_at}
use Rattle.rx_script.specs.Segments.{segments}
use Rattle.rx_query.specs.declared.statements.Setting.{Setting}
use Rattle.rx_query.specs.declared.statements.Statement.{Statement}
use Rattle.rx_query.specs.declared.statements.Statement.TheVariants.{Query, Change}
use Rattle.rx_query.specs.declared.statements.Numbered.{Numbered}
use Rattle.rx_query.specs.Questions.{IsQuestion, IsRequest, IsStep}
use Rattle.rx_query.specs.Steps.{Question, Request, request_of, Step, step_of, StatementWithin, SelectsWithin}
use Rattle.rx_query.specs.Steps.Request.{select, change}
use Rattle.rx_statement.specs.declared.faults.What.{What}
use Rattle.rx_statement.specs.declared.faults.ScriptFault.{ScriptFault}
use Rattle.rx_statement.specs.declared.faults.ScriptFault.TheVariants.{Bad, NoMemory}
use Rattle.rx_statement.specs.Outcomes.{first_given, unless_refused, Answers}
use Rattle.rx_statement.specs.Asking.{asked}
use Rattle.rx_statement.specs.Changes.{changed}
use Rattle.rx_statement.specs.Script.{Verdict, as_select, as_change, verdict_of, judged, Part, parts_from, verdict_if, verdict_on, step_at, refusal_in, step_in, outcome_of, read_of}
use Rattle.rx_statement.proofs.Within.{is_question}

abbrev found : Request → Verdict
found request = Ok (Some request)

some_request : (a b : Request) → found a ≡ found b → a ≡ b
some_request a b e = cc

some_step : (a b : Step) → Some a ≡ Some b → a ≡ b
some_step a b e = cc

module _ (schema : Schema) where
  select_is : (w : written.WrittenSelect) (o : Result Question What) → asked schema w ≡ o → (r : Request) → as_select o ≡ Ok (Some r) → IsRequest schema r
  select_is w (Ok q) is r e = subst (IsRequest schema) (some_request (select q) r e) (is_question schema w q is)
  select_is w (Err what) is r e = absurd cc

  change_is : (o : Result (List Setting) What) (r : Request) → as_change o ≡ Ok (Some r) → IsRequest schema r
  change_is (Ok settings) r e = subst (IsRequest schema) (some_request (change settings) r e) tt
  change_is (Err what) r e = absurd cc

  verdict_is : (o : Option Written) (r : Request) → verdict_of schema o ≡ Ok (Some r) → IsRequest schema r
  verdict_is None r e = absurd cc
  verdict_is (Some (written.select w)) r e = select_is w (asked schema w) refl r e
  verdict_is (Some (written.change settings)) r e = change_is (changed settings) r e

  judged_is : (ts : List Token) (r : Request) → judged schema ts ≡ Ok (Some r) → IsRequest schema r
  judged_is [] r e = absurd cc
  judged_is (t ∷ ts) r e = verdict_is (statement_at (t ∷ ts)) r e

  part_is : (whole : Bool) (ts : List Token) (r : Request) → verdict_if whole (judged schema ts) ≡ Ok (Some r) → IsRequest schema r
  part_is true ts r e = judged_is ts r e
  part_is false ts r e = absurd cc

  step_by : (part : Part) (v : Verdict) → verdict_on schema part ≡ v → (others : List Step) → AllByRecursion (IsStep schema) others → AllByRecursion (IsStep schema) (cons_option (step_at part.number v) others)
  step_by part (Ok None) is others h = h
  step_by part (Ok (Some r)) is others h = (part_is part.whole part.tokens r is, h)
  step_by part (Err what) is others h = h

  steps_are : (parts : List Part) → AllByRecursion (IsStep schema) (filter_map (step_in schema) parts)
  steps_are [] = tt
  steps_are (part ∷ parts) = step_by part (verdict_on schema part) refl (filter_map (step_in schema) parts) (steps_are parts)

  outcome_by : (o : Option ScriptFault) (steps done : List Step) → unless_refused o steps ≡ Ok done → steps ≡ done
  outcome_by None steps done e = cc
  outcome_by (Some fault) steps done e = absurd cc

  script_is : (script : List Numbered) → AllByRecursion (IsStep schema) (map step_of script) → All (λ numbered. IsStep schema (step_of numbered)) script
  script_is [] h = All-nil (λ numbered. IsStep schema (step_of numbered))
  script_is (s ∷ script) h = All-cons (λ numbered. IsStep schema (step_of numbered)) s script h.0 (script_is script h.1)

  read_is : (text : List ℕ) (script : List Numbered) → read_of schema text ≡ Ok (map step_of script) → AllByRecursion (IsStep schema) (map step_of script)
  unfolding read_of
  read_is text script e =
      let parts : List Part = parts_from 1 (bad_place text) (segments (token_list text)) in
      subst (AllByRecursion (IsStep schema)) (outcome_by (first_given (refusal_in schema) parts) (filter_map (step_in schema) parts) (map step_of script) e) (steps_are parts)

  statement_within : (s : Statement) → IsRequest schema (request_of s) → StatementWithin (length schema.columns) s
  statement_within (Query q) h = h.items
  statement_within (Change settings) h = tt

  script_within : (script : List Numbered) → AllByRecursion (IsStep schema) (map step_of script) → All (SelectsWithin (length schema.columns)) script
  script_within [] h = All-nil (SelectsWithin (length schema.columns))
  script_within (s ∷ script) h = All-cons (SelectsWithin (length schema.columns)) s script (statement_within s.statement h.0) (script_within script h.1)

  -- the same of a result
  pub answer_asks : (text : List ℕ) (r : Result (List Numbered) ScriptFault) → Answers (read_of schema text) r → IfOk r (All (λ numbered. IsStep schema (step_of numbered)))
  answer_asks text (Ok script) e = script_is script (read_is text script e)
  answer_asks text (Err fault) e = tt

  pub answer_columns : (text : List ℕ) (r : Result (List Numbered) ScriptFault) → Answers (read_of schema text) r → IfOk r (All (SelectsWithin (length schema.columns)))
  answer_columns text (Ok script) e = script_within script (read_is text script e)
  answer_columns text (Err fault) e = tt
