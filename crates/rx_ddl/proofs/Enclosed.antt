-- Items between parentheses: what is read is spelled, and what is spelled is read.
use Rattle.std.proofs.Common.{◌≡◌, List, Option, Some, refl, subst}
use Rattle.std.specs.Option.{option_and_then}
use Rattle.rx_token.specs.declared.kinds.Token.{Token}
use Rattle.rx_token.specs.declared.signs.TheConstants.{OPEN, CLOSE, COMMA}
use Rattle.rx_reading.specs.Reading.{Reader, after_sign, items_at, enclosed_at}
use Rattle.rx_reading.specs.Forms.{Form, ◌>>◌, Sign, Listed, values, SpellsListed, SpellsEnclosed}
use Rattle.rx_reading.proofs.Steps.{stepped, then_gives, same_value}
use Rattle.rx_reading.proofs.Spelled.{sign_spelled, sign_read, Read, items_spelled}
use Rattle.rx_reading.proofs.Each.{Shrinks, Within, shrinks_within, then_within, listed_shrinks, list_read}
use Rattle.rx_reading.proofs.FirstTokens.{sign_shrinks, Ends, comma_ends, close_ends, close_no_comma, pair}

module _ {D A : Type 0} (p : Reader A) (item : D → Form) (value : D → A) where
  abbrev close_step : List A × List Token → Option (List A × List Token)
  close_step list = option_and_then (λ (rest : List Token). Some (pair list.0 rest)) (after_sign CLOSE list.1)

  abbrev open_step : List Token → Option (List A × List Token)
  open_step behind = option_and_then close_step (items_at (after_sign COMMA) p behind)

  abbrev EnclosedRead : List Token → List A × List Token → Type 0
  EnclosedRead ts x = Read (SpellsEnclosed item) (values value) ts x

  pub enclosed_spelled : ((ts : List Token) (x : A × List Token) → p ts ≡ Some x → Read item value ts x) → (ts : List Token) (x : List A × List Token) → enclosed_at p ts ≡ Some x → EnclosedRead ts x
  enclosed_spelled read ts x e =
      let (behind, opened, e1) = stepped open_step (after_sign OPEN ts) x e in
      let (list, list_is, e2) = stepped close_step (items_at (after_sign COMMA) p behind) x e1 in
      let (rest, close, same) = stepped (λ (rest : List Token). Some (pair list.0 rest)) (after_sign CLOSE list.1) x e2 in
      let all = items_spelled (after_sign COMMA) (Sign COMMA) p item value (sign_spelled COMMA) read behind list list_is in
      subst (EnclosedRead ts) (same_value (pair list.0 rest) x same) (record {
        form = all.form;
        spelled = (behind, sign_spelled OPEN ts behind opened, (list.1, all.spelled, sign_spelled CLOSE list.1 rest close));
        stands = all.stands;
      })

  pub enclosed_read : ((d : D) → Shrinks (item d)) → ((d : D) (ts rest : List Token) → item d ts rest → Ends rest → p ts ≡ Some (value d, rest)) → (list : Listed D) (ts rest : List Token) → SpellsEnclosed item list ts rest → enclosed_at p ts ≡ Some (values value list, rest)
  enclosed_read shrinks back list ts rest (behind, opened, (end, items, close)) =
      then_gives open_step (sign_read OPEN ts behind opened)
      (then_gives close_step (list_read (after_sign COMMA) (Sign COMMA) p item value Ends (sign_read COMMA) (shrinks_within (Sign COMMA) (sign_shrinks COMMA)) comma_ends shrinks back list behind end items (close_ends end rest close) (close_no_comma end rest close))
      (then_gives (λ (rest : List Token). Some (pair (values value list) rest)) (sign_read CLOSE end rest close) refl))

pub enclosed_within : {D : Type 0} (item : D → Form) → ((d : D) → Shrinks (item d)) → (list : Listed D) → Within (SpellsEnclosed item list)
enclosed_within item shrinks list =
    then_within (Sign OPEN) (SpellsListed (Sign COMMA) item list >> Sign CLOSE) (shrinks_within (Sign OPEN) (sign_shrinks OPEN))
    (then_within (SpellsListed (Sign COMMA) item list) (Sign CLOSE) (shrinks_within (SpellsListed (Sign COMMA) item list) (listed_shrinks (Sign COMMA) item (shrinks_within (Sign COMMA) (sign_shrinks COMMA)) shrinks list)) (shrinks_within (Sign CLOSE) (sign_shrinks CLOSE)))
