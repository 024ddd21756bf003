-- The parts of a script one by one.
use Rattle.std.proofs.Common.{◌≡◌, ℕ, zero, suc, ◌+◌, ◌<◌, ◌≤◌, Bool, true, false, ◌||◌, List, [], ◌∷◌, ◌++◌, length, map, drop, Option, Some, None, is_none, refl, sym, ap, ◌∙◌, arith, append_assoc}
use Rattle.std.proofs.lemmas.List.{append-nil}
use Rattle.std.specs.Prelude.{filter_map, nat_lt, Result, Ok, Err}
use Rattle.std.specs.Option.{option_or}
use Rattle.rx_value.specs.declared.shapes.Schema.{Schema}
use Rattle.rx_token.specs.declared.kinds.Token.{Token}
use Rattle.rx_query.specs.Steps.{Request, Step}
use Rattle.rx_statement.specs.declared.faults.What.{What}
use Rattle.rx_statement.specs.declared.faults.ScriptFault.{ScriptFault}
use Rattle.rx_statement.specs.declared.faults.ScriptFault.TheVariants.{Bad}
use Rattle.rx_statement.specs.Outcomes.{unless_refused, first_given}
use Rattle.rx_statement.specs.Script.{Verdict, judged, Part, is_whole, parts_from, verdict_if, verdict_on, refused_at, step_at, refusal_in, step_in, outcome_of}

-- a segment as a part
abbrev pub part : ℕ → List Token → Bool → Part
part n segment whole = record { number = n; tokens = segment; whole = whole }

-- What is left: no part so far is refused, and the steps so far and those of what is left are all.
pub record Left (schema : Schema) (bad : Option ℕ) (all : List Part) (n : ℕ) (rest : List (List Token)) (steps_so_far : List Step) : Type 0 where
  pub refused : first_given (refusal_in schema) (parts_from n bad rest) ≡ first_given (refusal_in schema) all
  pub steps : steps_so_far ++ filter_map (step_in schema) (parts_from n bad rest) ≡ filter_map (step_in schema) all

module _ (schema : Schema) (bad : Option ℕ) (all : List Part) (n : ℕ) where
  -- at the start nothing is done
  pub started : (rest : List (List Token)) → parts_from n bad rest ≡ all → Left schema bad all n rest []
  started rest e = record { refused = ap (first_given (refusal_in schema)) e; steps = ap (filter_map (step_in schema)) e }

  -- at the end all is done
  pub ended : (done : List Step) → Left schema bad all n [] done → outcome_of schema all ≡ Ok done
  ended done left =
      let none : None ≡ first_given (refusal_in schema) all = left.refused in
      let same : done ++ [] ≡ filter_map (step_in schema) all = left.steps in
      rw (← none, ← same, append-nil) refl

  module _ (segment : List Token) (others : List (List Token)) (done : List Step) (left : Left schema bad all n (segment ∷ others) done) where
    abbrev here : Verdict
    here = verdict_if (is_whole bad others) (judged schema segment)

    refused_first : option_or (refused_at n here) (first_given (refusal_in schema) (parts_from (n + 1) bad others)) ≡ first_given (refusal_in schema) all
    refused_first = left.refused

    steps_first : done ++ filter_map (step_in schema) (part n segment (is_whole bad others) ∷ parts_from (n + 1) bad others) ≡ filter_map (step_in schema) all
    steps_first = left.steps

    -- an empty segment
    pub passed : here ≡ Ok None → Left schema bad all (n + 1) others done
    passed e = record { refused = rw e at refused_first; steps = rw e at steps_first }

    -- a statement
    pub stated : (request : Request) → here ≡ Ok (Some request) → Left schema bad all (n + 1) others (done ++ record { number = n; request = request } ∷ [])
    stated request e = record {
      refused = rw e at refused_first;
      steps = append_assoc done (record { number = n; request = request } ∷ []) (filter_map (step_in schema) (parts_from (n + 1) bad others)) ∙ (rw e at steps_first);
    }

    -- a segment that is refused
    pub stopped : (what : What) → here ≡ Err what → outcome_of schema all ≡ Err (Bad n what)
    stopped what e =
        let first : Some (Bad n what) ≡ first_given (refusal_in schema) all = rw e at refused_first in
        rw (← first) refl
