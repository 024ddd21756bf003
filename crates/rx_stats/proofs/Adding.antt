-- One number, and one index, more.
use Rattle.std.proofs.Common.{◌≡◌, ℕ, ◌+◌, ◌<◌, List, [], ◌∷◌, ◌++◌, length, take, get_or, refl, sym, subst, arith}
use Rattle.std.proofs.lemmas.List.{take_more}
use Rattle.std.proofs.lemmas.Option.{slice_get-get_or}
use Rattle.rx_value.specs.declared.values.Value.{Value}
use Rattle.rx_value.specs.declared.shapes.Index.{Index}
use Rattle.rx_index.specs.declared.indexed.Indexed.{Indexed}
use Rattle.rx_index.specs.Entries.{parts_at}
use Rattle.rx_index.proofs.Numbers.{parts_there}
use Rattle.rx_stats.specs.Computed.{AreNumbers, AreComputed}

computed_append : (indexes : List Index) (rows : List (List Value)) (statistics : List (List ℕ)) (index : Index) (numbers : List ℕ) → AreComputed indexes rows statistics → AreNumbers index.parts rows numbers
    → AreComputed (indexes ++ index ∷ []) rows (statistics ++ numbers ∷ [])
computed_append [] rows [] index numbers h o = (o, tt)
computed_append [] rows (other ∷ statistics) index numbers h o = absurd h
computed_append (first ∷ indexes) rows [] index numbers h o = absurd h
computed_append (first ∷ indexes) rows (other ∷ statistics) index numbers h o = (h.0, computed_append indexes rows statistics index numbers h.1 o)

at_index : (t : Indexed) (n : ℕ) (d : Index) → n < length t.schema.indexes → parts_at t n ≡ (get_or t.schema.indexes n d).parts
at_index t n d lt = parts_there t n (get_or t.schema.indexes n d) (slice_get-get_or t.schema.indexes n d lt)

pub index_more : (t : Indexed) (n : ℕ) (statistics after : List (List ℕ)) (numbers : List ℕ) → n < length t.schema.indexes → AreComputed (take n t.schema.indexes) t.rows statistics
    → AreNumbers (parts_at t n) t.rows numbers → after ≡ statistics ++ numbers ∷ [] → AreComputed (take (n + 1) t.schema.indexes) t.rows after
index_more t n statistics after numbers lt h o e = go t.schema.indexes refl lt where
  go : (l : List Index) → l ≡ t.schema.indexes → n < length l → AreComputed (take (n + 1) t.schema.indexes) t.rows after
  go [] q l = absurd (omega (arith, l))
  go (first ∷ others) q l =
      let index = get_or t.schema.indexes n first in
      subst (λ xs. AreComputed xs t.rows after) (sym (take_more t.schema.indexes n first lt))
      (subst (AreComputed (take n t.schema.indexes ++ index ∷ []) t.rows) (sym e)
      (computed_append (take n t.schema.indexes) t.rows statistics index numbers h (subst (λ p. AreNumbers p t.rows numbers) (at_index t n first lt) o)))
