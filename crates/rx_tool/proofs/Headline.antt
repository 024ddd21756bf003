-- What is read of accepted files prints each answer as a bag.
use Rattle.std.proofs.Common.{◌≡◌, ℕ, List, [], ◌∷◌, map, Some, All, Result, Ok, Err, OnOk, refl, subst, sym}
use Rattle.std.proofs.lemmas.List.Elements.{All-head, All-tail, All-map}
use Rattle.rx_index.specs.declared.indexed.Indexed.{Indexed}
use Rattle.rx_store.specs.Stored.{Stored, IsStorable, in_memory}
use Rattle.rx_store.specs.Tables.{Meaning, IsMeaning}
use Rattle.rx_query.specs.declared.statements.Numbered.{Numbered}
use Rattle.rx_query.specs.Steps.{Step, Request, step_of}
use Rattle.rx_query.specs.Steps.Request.{select, change}
use Rattle.rx_query.specs.Questions.{IsRequest, IsStep}
use Rattle.rx_query.specs.declared.settings.Settings.{Settings}
use Rattle.rx_query.specs.Settings.{default_settings, settings_after}
use Rattle.rx_spelled.specs.Utf8.{AsksUtf8, StepAsksUtf8}
use Rattle.rx_scan.specs.Laws.{AreById}
use Rattle.rx_engine.proofs.Headline.{blocks_are_bags}
use Rattle.rx_inputs.specs.declared.reading.Inputs.{Inputs}
use Rattle.rx_inputs.specs.Checked.{Checked, AcceptsAs}
use Rattle.rx_inputs.specs.Checked.Checked.{Accepts, Refuses, Untold}
use Rattle.rx_inputs.specs.Faults.{held}
use Rattle.rx_inputs.specs.Files.{Held}
use Rattle.rx_tool.specs.declared.stops.Stop.{Stop}
use Rattle.rx_tool.specs.Owes.{table_of}
use Rattle.rx_tool.specs.Headline.{HasBag, BagsFrom, AreBags, BagsOf}

-- a table in memory keeps what tables keep
in_memory_is : (t : Indexed) (numbers : List (List ℕ)) → IsStorable t numbers → IsMeaning (in_memory t numbers)
in_memory_is t numbers s = record {
  limits = s.limits;
  statistics = s.statistics;
  few = s.entered.few;
  told = record { schema_is = refl; count_is = refl; entered = s.entered; fit = s.fit };
}

module _ (table : Meaning) (t : Indexed) (sound : IsMeaning table) (told : table.told ≡ Some t) (by_id : AreById t) where
  request_bag : (settings : Settings) (number : ℕ) (r : Request) → IsRequest table.schema r → AsksUtf8 r → HasBag settings number r table t
  request_bag settings number (select q) is utf8 = blocks_are_bags settings number q table t sound told is.by_group (λ index cut. utf8) by_id
  request_bag settings number (change listed) is utf8 = tt

  bags_from : (settings : Settings) (steps : List Step) → All (IsStep table.schema) steps → All StepAsksUtf8 steps → BagsFrom settings steps table t
  bags_from settings [] is utf8 = tt
  bags_from settings (step ∷ steps) is utf8 = (
    request_bag settings step.number step.request (All-head (IsStep table.schema) step steps is) (All-head StepAsksUtf8 step steps utf8),
    bags_from (settings_after settings step) steps (All-tail (IsStep table.schema) step steps is) (All-tail StepAsksUtf8 step steps utf8),
  )

-- accepted steps over a table whose rows stand by their ids
pub are_bags : (held : Held) → IsMeaning (table_of held) → AreById held.table → All (IsStep held.table.schema) held.steps → All StepAsksUtf8 held.steps → AreBags held
are_bags held sound by_id is utf8 = bags_from (table_of held) held.table sound refl by_id default_settings held.steps is utf8

bags_accepted : (checked : Checked Held) (held : Held) → AcceptsAs checked held → AreBags held → BagsOf checked
bags_accepted (Accepts mine) held e bags = subst AreBags (sym e) bags
bags_accepted (Refuses refusal) held e bags = tt
bags_accepted Untold held e bags = tt

on_ok : (r : Result Stored Stop) (checked : Checked Held) → BagsOf checked → OnOk r (BagsOf checked)
on_ok (Ok table) checked bags = bags
on_ok (Err stop) checked bags = tt

-- what was read of files that are accepted
pub bags_read : (r : Result Stored Stop) (checked : Checked Held) (read : Inputs) → AcceptsAs checked (held read) → IsStorable read.table read.statistics → AreById read.table
    → All (λ (n : Numbered). IsStep read.table.schema (step_of n)) read.script → All (λ (n : Numbered). StepAsksUtf8 (step_of n)) read.script → OnOk r (BagsOf checked)
bags_read r checked read e storable by_id asks spelled =
    let sound = in_memory_is read.table read.statistics storable in
    let is = All-map (IsStep read.table.schema) step_of read.script asks in
    let utf8 = All-map StepAsksUtf8 step_of read.script spelled in
    on_ok r checked (bags_accepted checked (held read) e (are_bags (held read) sound by_id is utf8))
