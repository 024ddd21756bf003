-- What a reading of a whole text says.
use Rattle.std.proofs.Common.{◌≡◌, ℕ, List, Option, sym, subst, length}
use Rattle.rx_token.specs.declared.kinds.Token.{Token}
use Rattle.rx_token.specs.Scan.{Scans, token_list, bad_place, SpansRise}
use Rattle.rx_token.proofs.Once.{scans_once}
use Rattle.rx_token.proofs.Readings.{reads_whole}
use Rattle.rx_token.proofs.Rises.{whole_rises}

pub record Whole (text : List ℕ) (list : List Token) (bad : Option ℕ) : Type 0 where
  pub scanned : Scans 0 text list bad
  pub value : (list ≡ token_list text) × (bad ≡ bad_place text)
  pub rises : SpansRise 0 list (length text)

pub whole : (text : List ℕ) (list : List Token) (bad : Option ℕ) → Scans 0 text list bad → Whole text list bad
whole text list bad s =
    let same = scans_once 0 text list (token_list text) bad (bad_place text) s (reads_whole text) in
    record { scanned = s; value = (same.tokens, same.bad); rises = subst (λ (ts : List Token). SpansRise 0 ts (length text)) (sym same.tokens) (whole_rises text) }
