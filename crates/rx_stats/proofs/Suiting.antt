-- Computed statistics suit the table.
use Rattle.std.proofs.Common.{ℕ, zero, suc, ◌≤◌, ◌<◌, ◌/◌, max, List, [], ◌∷◌, length, sym, subst, div-le_self, arith}
use Rattle.std.proofs.lemmas.List.{get_or_default}
use Rattle.rx_value.specs.Limits.{most_rows}
use Rattle.rx_value.specs.declared.values.Value.{Value}
use Rattle.rx_value.specs.declared.shapes.Index.{Index}
use Rattle.rx_index.specs.declared.indexed.Indexed.{Indexed}
use Rattle.rx_index.specs.Entries.{IsEntered}
use Rattle.rx_stats.specs.Computed.{per_key, AreNumbers, AreComputed, IsComputed}
use Rattle.rx_stats.specs.Statistics.{IsNumber, SuitsIndex, SuitsIndexes, IsStatistics}

at_most_rows : (q rows : ℕ) → q ≤ rows → rows ≤ most_rows → IsNumber (max 1 q)
at_most_rows q rows h few = record { least = omega (arith); most = omega (arith, h, few) }

number_bounded : (rows different : ℕ) → rows ≤ most_rows → IsNumber (per_key rows different)
number_bounded rows zero few = record { least = omega arith; most = omega arith }
number_bounded rows (suc d) few = at_most_rows (rows / suc d) rows (div-le_self rows (suc d)) few

index_suits : (index : Index) (rows : List (List Value)) (numbers : List ℕ) → length rows ≤ most_rows → AreNumbers index.parts rows numbers → SuitsIndex index numbers
index_suits index rows numbers few h = record {
  as_many = h.as_many;
  each = λ k d lt.
      let is = h.each k (subst (λ n. k < n) h.as_many lt) in
      subst IsNumber (get_or_default numbers k 0 d lt) (subst IsNumber (sym is.number_is) (number_bounded (length rows) is.different few));
}

all_suit : (indexes : List Index) (rows : List (List Value)) (statistics : List (List ℕ)) → length rows ≤ most_rows → AreComputed indexes rows statistics → SuitsIndexes indexes statistics
all_suit [] rows [] few h = tt
all_suit [] rows (numbers ∷ statistics) few h = absurd h
all_suit (index ∷ indexes) rows [] few h = absurd h
all_suit (index ∷ indexes) rows (numbers ∷ statistics) few h = (index_suits index rows numbers few h.0, all_suit indexes rows statistics few h.1)

pub computed_suit : (t : Indexed) (statistics : List (List ℕ)) → IsEntered t → IsComputed t statistics → IsStatistics t.schema statistics
computed_suit t statistics entered h = all_suit t.schema.indexes t.rows statistics entered.few h
