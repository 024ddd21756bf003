-- What the tokens of a whole text give.
use Rattle.std.proofs.Common.{◌≡◌, ℕ, true, false, List, Option, Some, None, is_some, sym, ap, ◌∙◌}
use Rattle.rx_token.specs.declared.kinds.Token.{Token}
use Rattle.rx_token.specs.Scan.{token_list, bad_place}
use Rattle.rx_reading.specs.Reading.{of_whole}

-- a text with a bad place gives nothing
pub bad_text : {A : Type 0} (read : List Token → Option A) (text : List ℕ) (list : List Token) (bad : Option ℕ) → (list ≡ token_list text) × (bad ≡ bad_place text) → true ≡ is_some bad → of_whole read (token_list text) (bad_place text) ≡ None
bad_text read text list None same is = absurd cc
bad_text read text list (Some place) same is = ap (of_whole read (token_list text)) (sym same.1)

-- another gives what its tokens give
pub good_text : {A : Type 0} (read : List Token → Option A) (text : List ℕ) (list : List Token) (bad : Option ℕ) → (list ≡ token_list text) × (bad ≡ bad_place text) → false ≡ is_some bad → of_whole read (token_list text) (bad_place text) ≡ read list
good_text read text list None same is = ap (of_whole read (token_list text)) (sym same.1) ∙ ap read (sym same.0)
good_text read text list (Some place) same is = absurd cc
