-- Which output rows are the first of equal ones.
use Rattle.std.proofs.Common.{◌≡◌, ℕ, ◌+◌, ◌<◌, ◌≤◌, Bool, true, false, cond, List, [], ◌∷◌, ◌++◌, length, take, map, get_or, refl, sym, ap, subst, ◌∙◌, arith}
use Rattle.std.specs.Prelude.{nat_eq}
use Rattle.std.specs.BTreeMap.{BTreeMap}
use Rattle.std.proofs.lemmas.List.{take_more, length-take-le}
use Rattle.rx_value.specs.declared.values.Value.{Value}
use Rattle.rx_group.specs.Numbers.{Numbers, Notes}
use Rattle.rx_group.proofs.Steps.{firsts_more, numbers_kept}
use Rattle.rx_order.specs.Order.{Output, distinct, chosen}

abbrev key : Output → List Value
key o = o.0

-- So many output rows, the flags of them, and a map that has the number of each list of values.
pub record Fresh (done : List Output) (i count : ℕ) (flags : List Bool) (numbers : BTreeMap (List Value) ℕ) : Type 0 where
  pub kept : chosen done flags ≡ distinct done
  pub counted : count ≡ length (distinct done)
  pub few : count ≤ i
  pub as_long : length flags ≡ i
  pub noted : Numbers (map (λ (o : Output). o.0) (distinct done)) numbers

length_append : {X : Type 0} (xs ys : List X) → length (xs ++ ys) ≡ length xs + length ys
length_append [] ys = omega arith
length_append (x ∷ xs) ys = let h : length (xs ++ ys) ≡ length xs + length ys = length_append xs ys in omega arith

append_nil : {X : Type 0} (xs : List X) → xs ++ [] ≡ xs
append_nil [] = refl
append_nil (x ∷ xs) = ap (λ l. x ∷ l) (append_nil xs)

pub chosen_more : {X : Type 0} (xs : List X) (flags : List Bool) (x : X) (flag : Bool) → length flags ≡ length xs → chosen (xs ++ x ∷ []) (flags ++ flag ∷ []) ≡ chosen xs flags ++ cond flag (x ∷ []) []
chosen_more [] [] x true e = refl
chosen_more [] [] x false e = refl
chosen_more [] (f ∷ fs) x flag e = absurd (omega (arith, e))
chosen_more (y ∷ ys) [] x flag e = absurd (omega (arith, e))
chosen_more (y ∷ ys) (f ∷ fs) x flag e = by_flag f (chosen_more ys fs x flag (omega (arith, e)))
  where
    by_flag : (b : Bool) → chosen (ys ++ x ∷ []) (fs ++ flag ∷ []) ≡ chosen ys fs ++ cond flag (x ∷ []) [] → cond b (y ∷ chosen (ys ++ x ∷ []) (fs ++ flag ∷ [])) (chosen (ys ++ x ∷ []) (fs ++ flag ∷ [])) ≡ cond b (y ∷ chosen ys fs) (chosen ys fs) ++ cond flag (x ∷ []) []
    by_flag true h = ap (λ l. y ∷ l) h
    by_flag false h = h

more : (done all : List Output) (o : Output) (i count after number : ℕ) (flags flags_after : List Bool) (old new : BTreeMap (List Value) ℕ) → all ≡ done ++ o ∷ [] → length done ≡ i → Fresh done i count flags old → Notes old new o.0 count number → flags_after ≡ flags ++ nat_eq number count ∷ [] → after ≡ cond (nat_eq number count) (count + 1) count → Fresh all (i + 1) after flags_after new
more done all o i count after number flags flags_after old new is long h notes put next = record {
  kept =
      ap (λ l. chosen l flags_after) is
      ∙ ap (chosen (done ++ o ∷ [])) put
      ∙ chosen_more done flags o (nat_eq number count) (h.as_long ∙ sym long)
      ∙ ap (λ l. l ++ cond (nat_eq number count) (o ∷ []) []) h.kept
      ∙ sym grown;
  counted = next ∙ by_flag (nat_eq number count) ∙ ap length (sym grown);
  few = subst (λ n. n ≤ i + 1) (sym next) (at_most (nat_eq number count));
  as_long = ap length put ∙ length_append flags (nat_eq number count ∷ []) ∙ ap (λ n. n + 1) h.as_long;
  noted = subst (λ l. Numbers (map key (distinct l)) new) (sym is) (numbers_kept key done o old new count number h.counted h.noted notes);
}
  where
    grown : distinct all ≡ distinct done ++ cond (nat_eq number count) (o ∷ []) []
    grown = ap distinct is ∙ firsts_more key done o old new count number h.counted h.noted notes

    by_flag : (b : Bool) → cond b (count + 1) count ≡ length (distinct done ++ cond b (o ∷ []) [])
    by_flag true = ap (λ n. n + 1) h.counted ∙ sym (length_append (distinct done) (o ∷ []))
    by_flag false = h.counted ∙ ap length (sym (append_nil (distinct done)))

    at_most : (b : Bool) → cond b (count + 1) count ≤ i + 1
    at_most true = let w : count ≤ i = h.few in omega arith
    at_most false = let w : count ≤ i = h.few in omega arith

take_length : {X : Type 0} (xs : List X) (i : ℕ) → i ≤ length xs → length (take i xs) ≡ i
take_length xs i h = grind (arith, length-take-le)

pub fresh_more : (outputs : List Output) (o : Output) (i count after number : ℕ) (flags flags_after : List Bool) (old new : BTreeMap (List Value) ℕ) → i < length outputs → o ≡ get_or outputs i o → Fresh (take i outputs) i count flags old → Notes old new o.0 count number → flags_after ≡ flags ++ nat_eq number count ∷ [] → after ≡ cond (nat_eq number count) (count + 1) count → Fresh (take (i + 1) outputs) (i + 1) after flags_after new
fresh_more outputs o i count after number flags flags_after old new within is h notes put next =
    more (take i outputs) (take (i + 1) outputs) o i count after number flags flags_after old new
    (take_more outputs i o within ∙ ap (λ p. take i outputs ++ p ∷ []) (sym is)) (take_length outputs i (omega (arith, within))) h notes put next
