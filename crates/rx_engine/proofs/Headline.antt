-- The laws of every SELECT.
use Rattle.std.proofs.Common.{◌≡◌, ℕ, true, List, Some, All, refl, ap, subst}
use Rattle.std.proofs.lemmas.List.Elements.{All-weaker}
use Rattle.rx_index.specs.declared.indexed.Indexed.{Indexed}
use Rattle.rx_store.specs.Tables.{Meaning, IsMeaning}
use Rattle.rx_query.specs.Grouping.{grouped}
use Rattle.rx_query.specs.Steps.{Question}
use Rattle.rx_query.specs.declared.settings.Settings.{Settings}
use Rattle.rx_order.specs.Order.{in_order}
use Rattle.rx_rows.specs.Answer.{selected}
use Rattle.rx_rows.specs.Finish.{outputs_of}
use Rattle.rx_rows.proofs.Bags.{answers_are_in_order}
use Rattle.rx_cost.specs.declared.candidates.Kind.TheVariants.{Range}
use Rattle.rx_cost.specs.declared.candidates.Candidate.{Candidate}
use Rattle.rx_candidates.specs.Candidates.{IsChosen}
use Rattle.rx_plan.specs.Kinds.{IsScanOfRanges}
use Rattle.rx_candidates.specs.Kinds.{IsOfKind, IsOfItsKind}
use Rattle.rx_candidates.proofs.Members.{all_of_kinds}
use Rattle.rx_candidates.proofs.Once as once
use Rattle.rx_scan.specs.Laws.{AreById}
use Rattle.rx_scan.specs.Visits.{visited}
use Rattle.rx_access.specs.Access.{ComparesWhereCut}
use Rattle.rx_access.proofs.Answered.{chosen_answers}
use Rattle.rx_engine.specs.Candidates.{candidates_of, chosen_of}
use Rattle.rx_plan.specs.Known.{known_of}
use Rattle.rx_engine.specs.Headline.{RangesKeepRows, IsBagBlock}
use Rattle.rx_plan.proofs.Once.{known_are}

module _ (settings : Settings) (q : Question) (table : Meaning) (t : Indexed) where
  pub first_is_chosen : IsChosen (candidates_of settings q table t) (chosen_of settings q table t)
  first_is_chosen = once.first_is_chosen settings q table t (known_of settings q table.schema)

  keeps_rows : (c : Candidate) → IsOfItsKind settings q table t c → RangesKeepRows table.schema q.cond c
  keeps_rows c is ranged =
      let h : IsScanOfRanges settings q table t c = subst (λ kind. IsOfKind kind settings q table t c) ranged is in h.keep

  pub ranges_keep_rows : All (RangesKeepRows table.schema q.cond) (candidates_of settings q table t)
  ranges_keep_rows =
      let known = known_of settings q table.schema in
      All-weaker (IsOfItsKind settings q table t) (RangesKeepRows table.schema q.cond) keeps_rows (candidates_of settings q table t) (all_of_kinds settings q table t known (known_are settings q table.schema))

pub blocks_are_bags : (settings : Settings) (number : ℕ) (q : Question) (table : Meaning) (t : Indexed) → IsMeaning table → table.told ≡ Some t → grouped q ≡ true
    → ComparesWhereCut table.schema q.cond → AreById t → IsBagBlock settings number q table t
blocks_are_bags settings number q table t sound told by_group utf8 by_id =
    let rows = selected q.cond (visited (chosen_of settings q table t) table) in
    record {
      outputs = in_order q.order (outputs_of q rows);
      in_order = answers_are_in_order q rows;
      as_bag = chosen_answers settings q table t (known_of settings q table.schema) sound told (known_are settings q table.schema) by_group utf8 by_id;
      block = refl;
    }
