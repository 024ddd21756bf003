-- What is so of the first parts of an index is so of all.
use Rattle.std.proofs.Common.{◌≡◌, ℕ, Bool, true, false, ◌||◌, List, [], ◌∷◌, ◌++◌, take, drop, Option, Some, None, is_some, refl, sym, ◌∙◌, subst}
use Rattle.std.specs.List.{list_any}
use Rattle.std.specs.declared.cmp.Ordering.TheVariants.{Less, Equal, Greater}
use Rattle.std.proofs.lemmas.List.{take-append-drop, map-append}
use Rattle.std.proofs.lemmas.List.Folds.{list_any-append}
use Rattle.std.proofs.lemmas.Bool.{or_left, or_right, and_from, and_parts}
use Rattle.rx_value.specs.declared.values.Value.{Value}
use Rattle.rx_value.specs.declared.order.Span.{Span}
use Rattle.rx_value.specs.declared.ranges.KeyRange.{KeyRange}
use Rattle.rx_value.specs.declared.shapes.Part.{Part}
use Rattle.rx_value.specs.Order.{value_cmp}
use Rattle.rx_value.specs.Range.{behind}
use Rattle.rx_value.specs.Keys.{key_of, part_value, goes_within, goes_on, holds, spans_in, same_span, comes_first, apart_so, differ_so, is_range_before}
use Rattle.rx_regions.specs.Texts.{cuts}
use Rattle.rx_cover.specs.Cover.{are_rising}
use Rattle.rx_ranges.specs.Answers.{fallings}

-- what is so of a front of each list is so of the list
of_all : {A : Type 0} (P : List A → Type 0) (p : ℕ) (xs : List A) → P (take p xs ++ drop p xs) → P xs
of_all P p xs h = subst P (take-append-drop p xs) h

within_more : (last : Option Span) (values more : List Value) → goes_within last values ≡ true → goes_within last (values ++ more) ≡ true
within_more None values more h = refl
within_more (Some span) [] more h = absurd (cc h)
within_more (Some span) (v ∷ values) more h = h

goes_more : (last : Option Span) (key points more : List Value) → goes_on last (behind key points) ≡ true → goes_on last (behind (key ++ more) points) ≡ true
goes_more last key [] more h = within_more last key more h
goes_more last [] (point ∷ points) more h = absurd (cc h)
goes_more last (v ∷ key) (point ∷ points) more h =
    elim (value_cmp v point) as (λ o. goes_on last (elim o [ Equal ↦ behind key points | _ ↦ None ]) ≡ true → goes_on last (elim o [ Equal ↦ behind (key ++ more) points | _ ↦ None ]) ≡ true) [
      | Equal ↦ λ e. goes_more last key points more e
      | Less ↦ λ e. absurd (cc e)
      | Greater ↦ λ e. absurd (cc e)
    ] h

-- a range that holds a front of a key holds the key
any_more : (key more : List Value) (list : List KeyRange) → list_any (λ r. holds r key) list ≡ true → list_any (λ r. holds r (key ++ more)) list ≡ true
any_more key more [] h = h
any_more key more (r ∷ rs) h =
    elim (holds r key) as (λ b. holds r key ≡ b → (b || list_any (λ x. holds x key) rs) ≡ true → (holds r (key ++ more) || list_any (λ x. holds x (key ++ more)) rs) ≡ true) [
      | true ↦ λ e _. or_left (holds r (key ++ more)) (list_any (λ x. holds x (key ++ more)) rs) (goes_more r.last key r.points more e)
      | false ↦ λ e g. or_right (holds r (key ++ more)) (list_any (λ x. holds x (key ++ more)) rs) (any_more key more rs g)
    ] refl h

-- a range that holds the key on the first parts holds the key on all
pub any_on_all : (p : ℕ) (parts : List Part) (row : List Value) (list : List KeyRange) → list_any (λ r. holds r (key_of (take p parts) row)) list ≡ true → list_any (λ r. holds r (key_of parts row)) list ≡ true
any_on_all p parts row list h =
    of_all (λ all. list_any (λ r. holds r (key_of all row)) list ≡ true) p parts
    (subst (λ (key : List Value). list_any (λ r. holds r key) list ≡ true) (sym (map-append (λ q. part_value q row) (take p parts) (drop p parts)))
    (any_more (key_of (take p parts) row) (key_of (drop p parts) row) list h))

apart_more : (falls : Bool) (s t : Span) (a b : Bool) → (a ≡ true → b ≡ true) → apart_so falls s t a ≡ true → apart_so falls s t b ≡ true
apart_more falls s t a b f h =
    elim (same_span s t) as (λ same. (elim same [ true ↦ a | false ↦ comes_first falls s t ]) ≡ true → (elim same [ true ↦ b | false ↦ comes_first falls s t ]) ≡ true) [
      | true ↦ f
      | false ↦ λ e. e
    ] h

differ_more : (falls more : List Bool) (ss ts : List Span) → differ_so falls ss ts ≡ true → differ_so (falls ++ more) ss ts ≡ true
differ_more [] more ss ts h = absurd (cc h)
differ_more (f ∷ fs) more [] ts h = absurd (cc h)
differ_more (f ∷ fs) more (s ∷ ss) [] h = absurd (cc h)
differ_more (f ∷ fs) more (s ∷ ss) (t ∷ ts) h = apart_more f s t (differ_so fs ss ts) (differ_so (fs ++ more) ss ts) (differ_more fs more ss ts) h

rising_more : (falls more : List Bool) (list : List KeyRange) → are_rising falls list ≡ true → are_rising (falls ++ more) list ≡ true
rising_more falls more [] h = refl
rising_more falls more (a ∷ []) h = refl
rising_more falls more (a ∷ b ∷ rest) h =
    let both = and_parts (is_range_before falls a b) (are_rising falls (b ∷ rest)) h in
    and_from (is_range_before (falls ++ more) a b) (are_rising (falls ++ more) (b ∷ rest))
    (differ_more falls more (spans_in a) (spans_in b) both.0) (rising_more falls more (b ∷ rest) both.1)

-- ranges that rise on the first parts rise on all
pub rising_on_all : (p : ℕ) (parts : List Part) (list : List KeyRange) → are_rising (fallings (take p parts)) list ≡ true → are_rising (fallings parts) list ≡ true
rising_on_all p parts list h =
    of_all (λ all. are_rising (fallings all) list ≡ true) p parts
    (subst (λ (falls : List Bool). are_rising falls list ≡ true) (sym (map-append (λ q. q.descending) (take p parts) (drop p parts)))
    (rising_more (fallings (take p parts)) (fallings (drop p parts)) list h))

-- where one of the first parts has a prefix length, one of all has
pub cuts_on_all : (p : ℕ) (parts : List Part) → cuts (take p parts) ≡ true → cuts parts ≡ true
cuts_on_all p parts h =
    of_all (λ all. cuts all ≡ true) p parts (list_any-append (λ q. is_some q.chars) (take p parts) (drop p parts) ∙ or_left (cuts (take p parts)) (cuts (drop p parts)) h)
