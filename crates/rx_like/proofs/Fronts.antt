-- The front of a pattern, token by token.
use Rattle.std.proofs.Common.{◌≡◌, ℕ, false, List, [], ◌∷◌, ◌++◌, refl, arith, append_assoc}
use Rattle.std.specs.Prelude.{encode_utf8, encode_utf8_all}
use Rattle.rx_like.specs.declared.tokens.Token.{Token}
use Rattle.rx_like.specs.declared.tokens.Token.TheVariants.{AnyRun, AnyChar, Char}
use Rattle.rx_like.specs.Pattern.{literal_front, is_literal}

-- a literal token adds its character to the front
pub front_step : (front : List ℕ) (c : ℕ) (ts : List Token) → (front ++ encode_utf8 c) ++ encode_utf8_all (literal_front ts) ≡ front ++ encode_utf8_all (literal_front (Char c ∷ ts))
front_step front c ts = append_assoc front (encode_utf8 c) (encode_utf8_all (literal_front ts))

-- a wildcard ends the front
pub front_end : (t : Token) (ts : List Token) → is_literal t ≡ false → literal_front (t ∷ ts) ≡ []
front_end AnyRun ts e = refl
front_end AnyChar ts e = refl
front_end (Char c) ts e = grind arith
