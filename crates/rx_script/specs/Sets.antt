-- Reading SET.
use Rattle.std.specs.Prelude.{ℕ, Bool, true, false, List, codes, Option, Some, None}
use Rattle.std.specs.Option.{option_or}
use Rattle.rx_token.specs.declared.kinds.Token.{Token}
use Rattle.rx_token.specs.declared.signs.TheConstants.{COMMA, EQUAL, PLUS, MINUS}
use Rattle.rx_reading.specs.Reading.{Reader, ◌>>=◌, after_word, after_sign, word_at, text_at, number_at, items_at}
use Rattle.rx_script.specs.declared.statements.RawValue.{RawValue}
use Rattle.rx_script.specs.declared.statements.RawValue.TheVariants.{Number, Text, Default}
use Rattle.rx_script.specs.declared.statements.RawSetting.{RawSetting}
use Rattle.rx_script.specs.Selects.{if_whole}

-- word "="
abbrev pub plain_name_at : Reader (List ℕ)
plain_name_at ts = word_at ts >>= λ word. after_sign EQUAL word.1 >>= λ rest. Some (word.0, rest)

-- [SESSION] word "="
abbrev pub setting_name_at : Reader (List ℕ)
setting_name_at ts = option_or (plain_name_at ts) (after_word (codes "SESSION") ts >>= plain_name_at)

-- number
abbrev pub plain_number_at : Bool → Reader RawValue
plain_number_at negative ts = number_at ts >>= λ n. Some (Number negative n.0, n.1)

-- a number, by what follows `+` and `-`
abbrev pub number_value_of : List Token → Option (List Token) → Option (List Token) → Option (RawValue × List Token)
number_value_of ts None None = plain_number_at false ts
number_value_of ts (Some behind) minus = plain_number_at false behind
number_value_of ts None (Some behind) = plain_number_at true behind

-- ["+"|"-"] number
abbrev pub number_value_at : Reader RawValue
number_value_at ts = number_value_of ts (after_sign PLUS ts) (after_sign MINUS ts)

-- string
abbrev pub text_value_at : Reader RawValue
text_value_at ts = text_at ts >>= λ text. Some (Text text.0, text.1)

-- DEFAULT
abbrev pub default_at : Reader RawValue
default_at ts = after_word (codes "DEFAULT") ts >>= λ rest. Some (Default, rest)

-- value := ["+"|"-"] number | string | DEFAULT
unfoldable pub value_at : Reader RawValue
value_at ts = option_or (number_value_at ts) (option_or (default_at ts) (text_value_at ts))

-- [SESSION] word "=" value
unfoldable pub setting_at : Reader RawSetting
setting_at ts = setting_name_at ts >>= λ name. value_at name.1 >>= λ value. Some (record { name = name.0; value = value.0 }, value.1)

-- the tokens are a SET
unfoldable pub set_at : List Token → Option (List RawSetting)
set_at ts = after_word (codes "SET") ts >>= λ behind. items_at (after_sign COMMA) setting_at behind >>= λ list. if_whole list.0 list.1
