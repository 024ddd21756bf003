-- The candidate that runs is the first of least cost, and no other is.
use Rattle.std.proofs.Common.{◌≡◌, ◌<◌, List, length, map, slice_get, Some, ap, sym, ◌∙◌, arith}
use Rattle.std.proofs.lemmas.List.{length-map}
use Rattle.std.proofs.lemmas.Option.{slice_get-get_or}
use Rattle.rx_query.specs.declared.settings.Settings.{Settings}
use Rattle.rx_query.specs.Steps.{Question}
use Rattle.rx_index.specs.declared.indexed.Indexed.{Indexed}
use Rattle.rx_store.specs.Tables.{Meaning}
use Rattle.rx_cost.specs.declared.candidates.Candidate.{Candidate}
use Rattle.rx_cost.specs.Choice.{cost_of, chosen_place}
use Rattle.rx_cost.proofs.Least.{place_is_first, one_first}
use Rattle.rx_plan.specs.Known.{Known}
use Rattle.rx_plan.specs.Candidates.{table_scan}
use Rattle.rx_candidates.specs.Candidates.{candidates, chosen, IsChosen}

-- the candidate at the chosen place is the first of least cost
pub first_is_chosen : (settings : Settings) (q : Question) (table : Meaning) (t : Indexed) (known : List Known)
    → IsChosen (candidates settings q table t known) (chosen settings q table t known)
first_is_chosen settings q table t known =
    let all = candidates settings q table t known in
    let first = place_is_first (map cost_of all) (omega arith) in
    let within : chosen_place all < length all = omega (arith, first.within, length-map all cost_of) in
    record { place = chosen_place all; first = first; there = slice_get-get_or all (chosen_place all) (table_scan table.count) within }

some_same : (a b : Candidate) → Some a ≡ Some b → a ≡ b
some_same a b e = cc e

-- and no other is
pub one_chosen : (all : List Candidate) (a b : Candidate) → IsChosen all a → IsChosen all b → a ≡ b
one_chosen all a b h k =
    some_same a b (sym h.there ∙ ap (slice_get all) (one_first (map cost_of all) h.place k.place h.first k.first) ∙ k.there)
