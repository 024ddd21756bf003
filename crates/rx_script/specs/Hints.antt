-- Reading hints.
use Rattle.std.specs.Prelude.{ℕ, List, [], codes, Option, Some}
use Rattle.std.specs.Option.{option_or}
use Rattle.rx_token.specs.declared.kinds.Token.{Token}
use Rattle.rx_token.specs.declared.signs.TheConstants.{OPEN, CLOSE}
use Rattle.rx_reading.specs.Reading.{Reader, ◌>>=◌, after_word, after_key, after_sign, name_at, past, many_at, enclosed_at}
use Rattle.rx_reading.specs.declared.items.Separator.TheVariants.{Nothing}
use Rattle.rx_script.specs.declared.statements.HintKind.TheVariants.{Use, Ignore}
use Rattle.rx_script.specs.declared.statements.RawHint.{RawHint}

-- a word and KEY or INDEX
abbrev pub after_hint : List ℕ → List Token → Option (List Token)
after_hint word ts = after_word word ts >>= after_key

-- "(" ")"
abbrev pub no_names_at : Reader (List (List ℕ))
no_names_at ts = after_sign OPEN ts >>= λ behind. after_sign CLOSE behind >>= λ rest. Some ([], rest)

-- "(" [name {"," name}] ")"
abbrev pub usable_names_at : Reader (List (List ℕ))
usable_names_at ts = option_or (no_names_at ts) (enclosed_at name_at ts)

-- USE (INDEX|KEY) "(" [name {"," name}] ")"
abbrev pub use_at : Reader RawHint
use_at ts =
    after_hint (codes "USE") ts >>= λ behind. usable_names_at behind >>= λ names.
    Some (record { kind = Use; indexes = names.0 }, names.1)

-- IGNORE (INDEX|KEY) "(" name {"," name} ")"
abbrev pub ignore_at : Reader RawHint
ignore_at ts =
    after_hint (codes "IGNORE") ts >>= λ behind. enclosed_at name_at behind >>= λ names.
    Some (record { kind = Ignore; indexes = names.0 }, names.1)

-- a hint
unfoldable pub hint_at : Reader RawHint
hint_at ts = option_or (use_at ts) (ignore_at ts)

-- {hint}
abbrev pub hints_at : Reader (List RawHint)
hints_at ts = many_at (past Nothing) hint_at ts
