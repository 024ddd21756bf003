-- The text of some items at a row.
use Rattle.std.proofs.Common.{◌≡◌, ◌≤◌, ℕ, List, ◌∷◌, ◌++◌, ap, sym, ◌∙◌, length, take, min, append_assoc, arith}
use Rattle.std.specs.List.{flat_map}
use Rattle.std.proofs.lemmas.List.{take_min}
use Rattle.std.proofs.Math.Seq.{take-length}
use Rattle.std.proofs.lemmas.List.Folds.{flat_map-map}
use Rattle.rx_value.specs.declared.values.Value.{Value}
use Rattle.rx_query.specs.declared.statements.Item.{Item}
use Rattle.rx_rows.specs.Answer.{item_value, projected}
use Rattle.rx_rows.specs.Lines.{value_text, values_text}

-- the text of the later items, each behind a tab
abbrev pub later_items : List Value → List Item → List ℕ
later_items row items = flat_map (λ item. 9 ∷ value_text (item_value row item)) items

first_and_later : (row : List Value) (first : Item) (rest : List Item) → values_text (projected (first ∷ rest) row) ≡ value_text (item_value row first) ++ later_items row rest
first_and_later row first rest = ap (λ t. value_text (item_value row first) ++ t) (flat_map-map (λ v. 9 ∷ value_text v) (item_value row) rest)

take_all : (i : ℕ) (xs : List Item) → length xs ≤ i → take i xs ≡ xs
take_all i xs all =
    let e : min i (length xs) ≡ length xs = omega (arith, all) in
    sym (take_min i xs) ∙ ap (λ n. take n xs) e ∙ take-length xs

-- the first item was printed, and then the later ones
pub all_items : (row : List Value) (items : List Item) (first : Item) (rest : List Item) (i : ℕ) (a b c : List ℕ) → items ≡ first ∷ rest → b ≡ a ++ value_text (item_value row first) → c ≡ b ++ later_items row (take i rest) → length rest ≤ i → c ≡ a ++ values_text (projected items row)
all_items row items first rest i a b c is one more all =
    more
    ∙ ap (λ t. b ++ later_items row t) (take_all i rest all)
    ∙ ap (λ t. t ++ later_items row rest) one
    ∙ append_assoc a (value_text (item_value row first)) (later_items row rest)
    ∙ ap (λ t. a ++ t) (sym (first_and_later row first rest))
    ∙ ap (λ t. a ++ values_text (projected t row)) (sym is)
