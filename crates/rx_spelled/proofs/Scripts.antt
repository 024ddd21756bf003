-- The condition of each SELECT of a script that is read compares texts in UTF-8.
use Rattle.std.proofs.Common.{◌≡◌, ℕ, ◌+◌, Bool, true, false, cond, List, [], ◌∷◌, map, Option, Some, None, refl, subst}
use Rattle.std.specs.Prelude.{All, filter_map, Result, Ok, Err, IfOk}
use Rattle.std.specs.List.{AllByRecursion, cons_option, onto_first}
use Rattle.rx_value.specs.declared.shapes.Schema.{Schema}
use Rattle.rx_token.specs.declared.kinds.Token.{Token}
use Rattle.rx_token.specs.Scan.{token_list, bad_place}
use Rattle.rx_script.specs.Statements.{Written, WrittenSelect}
use Rattle.rx_script.specs.Statements as written
use Rattle.rx_script.specs.Reading.{statement_at}
use Rattle.rx_script.specs.Segments.{is_semicolon, segments}
use Rattle.rx_query.specs.declared.statements.Setting.{Setting}
use Rattle.rx_query.specs.declared.statements.Numbered.{Numbered}
use Rattle.rx_query.specs.Grouping.{grouped}
use Rattle.rx_query.specs.Steps.{Question, Request, Step, step_of}
use Rattle.rx_query.specs.Steps.Request.{select, change}
use Rattle.rx_statement.specs.declared.faults.What.{What}
use Rattle.rx_statement.specs.declared.faults.What.TheVariants.{NotGrouped}
use Rattle.rx_statement.specs.declared.faults.ScriptFault.{ScriptFault}
use Rattle.rx_statement.specs.Outcomes.{first_given, unless_refused, Answers}
use Rattle.rx_statement.specs.Names.{unknown_name}
use Rattle.rx_statement.specs.Asking.{is_mismatched, question_of, if_known, asked}
use Rattle.rx_statement.specs.Changes.{changed}
use Rattle.rx_statement.specs.Script.{Verdict, as_select, as_change, verdict_of, judged, Part, parts_from, verdict_if, verdict_on, step_at, refusal_in, step_in, read_of}
use Rattle.rx_regions.specs.Texts.{ComparesUtf8}
use Rattle.rx_spelled.specs.Utf8.{IsUtf8Token, RawComparesUtf8, AsksUtf8, StepAsksUtf8}
use Rattle.rx_spelled.proofs.Keeping.{Texts, all_of}
use Rattle.rx_spelled.proofs.Resolved.{resolved_utf8}
use Rattle.rx_spelled.proofs.Selects.{written_utf8}
use Rattle.rx_spelled.proofs.Tokens.{tokens_utf8}

onto_texts : (t : Token) (pieces : List (List Token)) → IsUtf8Token t → AllByRecursion Texts pieces → AllByRecursion Texts (onto_first t pieces)
onto_texts t [] first h = ((first, tt), tt)
onto_texts t (piece ∷ pieces) first h = ((first, h.0), h.1)

cut_texts : (t : Token) (pieces : List (List Token)) (b : Bool) → IsUtf8Token t → AllByRecursion Texts pieces → AllByRecursion Texts (cond b ([] ∷ pieces) (onto_first t pieces))
cut_texts t pieces true first h = (tt, h)
cut_texts t pieces false first h = onto_texts t pieces first h

segments_texts : (ts : List Token) → Texts ts → AllByRecursion Texts (segments ts)
segments_texts [] h = (tt, tt)
segments_texts (t ∷ ts) h = cut_texts t (segments ts) (is_semicolon t) h.0 (segments_texts ts h.1)

abbrev PartTexts : Part → Type 0
PartTexts part = Texts part.tokens

parts_texts : (n : ℕ) (bad : Option ℕ) (pieces : List (List Token)) → AllByRecursion Texts pieces → AllByRecursion PartTexts (parts_from n bad pieces)
parts_texts n bad [] h = tt
parts_texts n bad (piece ∷ pieces) h = (h.0, parts_texts (n + 1) bad pieces h.1)

abbrev found : Request → Verdict
found request = Ok (Some request)

some_request : (a b : Request) → found a ≡ found b → a ≡ b
some_request a b e = cc

abbrev answer : Question → Result Question What
answer q = Ok q

same_question : (x y : Question) → answer x ≡ answer y → x ≡ y
same_question x y e = cc

asks_by : (p q : Question) (o : Option (List ℕ)) (m b : Bool) → grouped p ≡ b → if_known o m p ≡ answer q → p ≡ q
asks_by p q (Some name) m b by_group e = absurd cc
asks_by p q None true b by_group e = absurd cc
asks_by p q None false false by_group e = let refused : Err NotGrouped ≡ answer q = rw by_group at e in absurd cc
asks_by p q None false true by_group e = same_question p q (rw by_group at e)

asks : (schema : Schema) (w : WrittenSelect) (q : Question) → asked schema w ≡ answer q → question_of schema w ≡ q
unfolding asked
asks schema w q e = asks_by (question_of schema w) q (unknown_name schema w) (is_mismatched schema.columns w) (grouped (question_of schema w)) refl e

module _ (schema : Schema) where
  question_utf8 : (w : WrittenSelect) (q : Question) → RawComparesUtf8 w.cond → asked schema w ≡ answer q → ComparesUtf8 q.cond
  question_utf8 w q h e = subst (λ (p : Question). ComparesUtf8 p.cond) (asks schema w q e) (resolved_utf8 schema.columns w.cond h)

  select_asks : (w : WrittenSelect) → RawComparesUtf8 w.cond → (o : Result Question What) → asked schema w ≡ o → (r : Request) → as_select o ≡ found r → AsksUtf8 r
  select_asks w h (Ok q) is r e = subst AsksUtf8 (some_request (select q) r e) (question_utf8 w q h is)
  select_asks w h (Err what) is r e = absurd cc

  change_asks : (o : Result (List Setting) What) (r : Request) → as_change o ≡ found r → AsksUtf8 r
  change_asks (Ok settings) r e = subst AsksUtf8 (some_request (change settings) r e) tt
  change_asks (Err what) r e = absurd cc

  verdict_asks : (ts : List Token) → Texts ts → (o : Option Written) → statement_at ts ≡ o → (r : Request) → verdict_of schema o ≡ found r → AsksUtf8 r
  verdict_asks ts h None is r e = absurd cc
  verdict_asks ts h (Some (written.select w)) is r e = select_asks w (written_utf8 ts w h is) (asked schema w) refl r e
  verdict_asks ts h (Some (written.change settings)) is r e = change_asks (changed settings) r e

  judged_asks : (ts : List Token) → Texts ts → (r : Request) → judged schema ts ≡ found r → AsksUtf8 r
  judged_asks [] h r e = absurd cc
  judged_asks (t ∷ ts) h r e = verdict_asks (t ∷ ts) h (statement_at (t ∷ ts)) refl r e

  part_asks : (whole : Bool) (ts : List Token) → Texts ts → (r : Request) → verdict_if whole (judged schema ts) ≡ found r → AsksUtf8 r
  part_asks true ts h r e = judged_asks ts h r e
  part_asks false ts h r e = absurd cc

  step_by : (part : Part) → PartTexts part → (v : Verdict) → verdict_on schema part ≡ v → (others : List Step) → AllByRecursion StepAsksUtf8 others → AllByRecursion StepAsksUtf8 (cons_option (step_at part.number v) others)
  step_by part texts (Ok None) is others h = h
  step_by part texts (Ok (Some r)) is others h = (part_asks part.whole part.tokens texts r is, h)
  step_by part texts (Err what) is others h = h

  steps_ask : (parts : List Part) → AllByRecursion PartTexts parts → AllByRecursion StepAsksUtf8 (filter_map (step_in schema) parts)
  steps_ask [] h = tt
  steps_ask (part ∷ parts) h = step_by part h.0 (verdict_on schema part) refl (filter_map (step_in schema) parts) (steps_ask parts h.1)

  outcome_by : (o : Option ScriptFault) (steps done : List Step) → unless_refused o steps ≡ Ok done → steps ≡ done
  outcome_by None steps done e = cc
  outcome_by (Some fault) steps done e = absurd cc

  script_asks : (text : List ℕ) (steps : List Step) → read_of schema text ≡ Ok steps → AllByRecursion StepAsksUtf8 steps
  unfolding read_of
  script_asks text steps e =
      let pieces = segments_texts (token_list text) (tokens_utf8 text) in
      let parts : List Part = parts_from 1 (bad_place text) (segments (token_list text)) in
      subst (AllByRecursion StepAsksUtf8) (outcome_by (first_given (refusal_in schema) parts) (filter_map (step_in schema) parts) steps e)
      (steps_ask parts (parts_texts 1 (bad_place text) (segments (token_list text)) pieces))

  pub script_utf8 : (text : List ℕ) (steps : List Step) → read_of schema text ≡ Ok steps → All StepAsksUtf8 steps
  script_utf8 text steps e = all_of StepAsksUtf8 steps (script_asks text steps e)

  numbered_ask : (script : List Numbered) → AllByRecursion StepAsksUtf8 (map step_of script) → AllByRecursion (λ (n : Numbered). StepAsksUtf8 (step_of n)) script
  numbered_ask [] h = tt
  numbered_ask (n ∷ script) h = (h.0, numbered_ask script h.1)

  -- the same of a result
  pub answer_utf8 : (text : List ℕ) (result : Result (List Numbered) ScriptFault) → Answers (read_of schema text) result → IfOk result (All (λ (n : Numbered). StepAsksUtf8 (step_of n)))
  answer_utf8 text (Ok script) e = all_of _ script (numbered_ask script (script_asks text (map step_of script) e))
  answer_utf8 text (Err fault) e = tt
