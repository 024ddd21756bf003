-- What comes of a SELECT whose names are known and whose sides match.
use Rattle.std.proofs.Common.{◌≡◌, Bool, true, false, cond, List, Option, Some, None, sym, ap, ◌∙◌}
use Rattle.std.specs.Prelude.{Result, Ok, Err}
use Rattle.rx_value.specs.declared.shapes.Column.{Column as TheColumn}
use Rattle.rx_value.specs.declared.shapes.Schema.{Schema}
use Rattle.rx_script.specs.Statements.{WrittenSelect}
use Rattle.rx_query.specs.Grouping.{grouped}
use Rattle.rx_query.specs.Steps.{Question}
use Rattle.rx_statement.specs.declared.faults.What.{What}
use Rattle.rx_statement.specs.declared.faults.What.TheVariants.{NotGrouped}
use Rattle.rx_statement.specs.Names.{unknown_name}
use Rattle.rx_statement.specs.Asking.{is_mismatched, question_of, if_grouped, if_matched, if_known, asked}

module _ (schema : Schema) (w : WrittenSelect) (q : Question) {columns : List TheColumn} {m : Bool}
    (unknown : None ≡ unknown_name schema w)
    (same_columns : columns ≡ schema.columns)
    (matched : m ≡ is_mismatched columns w)
    (no : m ≡ false)
    (same : q ≡ question_of schema w) where
  abbrev by_group : Bool → Result Question What
  by_group b = cond b (Ok q) (Err NotGrouped)

  asked_by : asked schema w ≡ by_group (grouped q)
  unfolding asked
  asked_by =
      ap (λ (o : Option _). if_known o (is_mismatched schema.columns w) (question_of schema w)) (sym unknown)
      ∙ ap (λ (b : Bool). if_matched b (question_of schema w)) (ap (λ (cs : List TheColumn). is_mismatched cs w) (sym same_columns) ∙ sym matched ∙ no)
      ∙ ap if_grouped (sym same)

  -- its columns are grouped, or they aren't
  pub asked_grouped : {g : Bool} → g ≡ grouped q → g ≡ true → asked schema w ≡ Ok q
  asked_grouped is so = asked_by ∙ ap by_group (sym is ∙ so)

  pub asked_ungrouped : {g : Bool} → g ≡ grouped q → g ≡ false → asked schema w ≡ Err NotGrouped
  asked_ungrouped is not_so = asked_by ∙ ap by_group (sym is ∙ not_so)
