-- Options of a table.
use Rattle.std.specs.Prelude.{ℕ, Bool, true, false, List, [], ◌∷◌, Some, None, if◌then◌else◌}
use Rattle.rx_token.specs.declared.kinds.TokenKind.{TokenKind}
use Rattle.rx_token.specs.declared.kinds.TokenKind.TheVariants.{Word, Quoted, Number, Str, Sign}
use Rattle.rx_token.specs.declared.signs.TheConstants.{EQUAL}
use Rattle.rx_reading.specs.Reading.{Reader, ◌>>=◌, after_sign, word_at, past, items_at, many_at}
use Rattle.rx_reading.specs.declared.items.Separator.TheVariants.{Nothing, MaybeComma}
use Rattle.rx_ddl.specs.declared.statements.TableOption.{TableOption}

-- a word, a number or a string
abbrev pub is_value_kind : TokenKind → Bool
is_value_kind Word = true
is_value_kind Quoted = false
is_value_kind (Number n) = true
is_value_kind Str = true
is_value_kind (Sign n) = false

-- the text of a word, a number or a string
abbrev pub value_at : Reader (List ℕ)
value_at [] = None
value_at (t ∷ ts) = if is_value_kind t.kind then Some (t.text, ts) else None

-- word {word} "=" (word | number | string)
unfoldable pub option_at : Reader TableOption
option_at ts =
    items_at (past Nothing) word_at ts >>= λ words. after_sign EQUAL words.1 >>= λ behind. value_at behind >>= λ value.
    Some (record { words = words.0; value = value.0 }, value.1)

-- {[","] option}
abbrev pub options_at : Reader (List TableOption)
options_at ts = many_at (past MaybeComma) option_at ts
