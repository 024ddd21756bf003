-- The tokens of a reading stand in order.
use Rattle.std.proofs.Common.{◌≡◌, ℕ, ◌+◌, List, [], ◌∷◌, drop, length, Option, sym, subst, arith, length-drop, zero-add}
use Rattle.std.specs.Prelude.{IfSome}
use Rattle.rx_token.specs.declared.kinds.Token.{Token}
use Rattle.rx_token.specs.declared.lexemes.Lexeme.{Lexeme}
use Rattle.rx_token.specs.Scan.{Scans, SpansRise, token_list, bad_place}
use Rattle.rx_token.specs.Lexeme.{Takes}
use Rattle.rx_token.proofs.Widths.{lexeme_fits}
use Rattle.rx_token.proofs.Readings.{reads_whole}

rises : (at : ℕ) (bytes : List ℕ) (ts : List Token) (bad : Option ℕ) → Scans at bytes ts bad → SpansRise at ts (at + length bytes)
rises at bytes [] bad s = omega arith
rises at bytes (t ∷ ts) bad s =
    let fits : Takes (length (drop s.0 bytes)) s.1 = subst (λ (o : Option Lexeme). IfSome o (Takes (length (drop s.0 bytes)))) s.3 (lexeme_fits (drop s.0 bytes)) in
    let limit : (at + s.0 + s.1.width) + length (drop s.1.width (drop s.0 bytes)) ≡ at + length bytes = omega (arith, length-drop s.0 bytes, length-drop s.1.width (drop s.0 bytes)) in
    let rest = subst (λ (k : ℕ). SpansRise (at + s.0 + s.1.width) ts k) limit (rises (at + s.0 + s.1.width) (drop s.1.width (drop s.0 bytes)) ts bad s.5) in
    subst (λ (u : Token). SpansRise at (u ∷ ts) (at + length bytes)) (sym s.4) (omega arith, omega arith, rest)

pub whole_rises : (text : List ℕ) → SpansRise 0 (token_list text) (length text)
whole_rises text = subst (λ (k : ℕ). SpansRise 0 (token_list text) k) (zero-add (length text)) (rises 0 text (token_list text) (bad_place text) (reads_whole text))
