-- Items between parentheses: what is read is spelled, and what is spelled is read.
use Rattle.std.proofs.Common.{◌≡◌, ℕ, ◌<◌, true, List, length, Option, Some, None, refl, subst}
use Rattle.std.specs.Option.{option_and_then}
use Rattle.rx_token.specs.declared.kinds.Token.{Token}
use Rattle.rx_token.specs.declared.signs.TheConstants.{OPEN, CLOSE, COMMA}
use Rattle.rx_reading.specs.Reading.{Reader, after_sign, is_sign_kind, items_at, enclosed_at}
use Rattle.rx_reading.specs.Forms.{Form, ◌>>◌, Sign, Listed, values, SpellsListed, SpellsEnclosed}
use Rattle.rx_reading.proofs.Steps.{stepped, then_gives, then_none, same_value}
use Rattle.rx_reading.proofs.Spelled.{Forward, one_forward, then_forward, listed_forward, found, sign_spelled, sign_read, Read, items_spelled, listed_read}

sign_forward : (sign : ℕ) → Forward (Sign sign)
sign_forward sign = one_forward (λ t. is_sign_kind sign t.kind ≡ true)

pub enclosed_forward : {D : Type 0} (item : D → Form) → ((d : D) → Forward (item d)) → (list : Listed D) → Forward (SpellsEnclosed item list)
enclosed_forward item forward list =
    then_forward (Sign OPEN) (SpellsListed (Sign COMMA) item list >> Sign CLOSE) (sign_forward OPEN)
    (then_forward (SpellsListed (Sign COMMA) item list) (Sign CLOSE) (listed_forward (Sign COMMA) item (sign_forward COMMA) forward list) (sign_forward CLOSE))

module _ {A : Type 0} (p : Reader A) where
  abbrev up_to_close : List A × List Token → Option (List A × List Token)
  up_to_close list = option_and_then (λ (rest : List Token). Some (found list.0 rest)) (after_sign CLOSE list.1)

  abbrev behind_open : List Token → Option (List A × List Token)
  behind_open behind = option_and_then up_to_close (items_at (after_sign COMMA) p behind)

  -- no parenthesis, no list
  pub no_enclosed : (ts : List Token) → after_sign OPEN ts ≡ None → enclosed_at p ts ≡ None
  no_enclosed ts none = then_none behind_open none

  module _ {D : Type 0} (item : D → Form) (value : D → A) where
    pub enclosed_spelled : ((ts : List Token) (x : A × List Token) → p ts ≡ Some x → Read item value ts x) → (ts : List Token) (x : List A × List Token) → enclosed_at p ts ≡ Some x → Read (SpellsEnclosed item) (values value) ts x
    enclosed_spelled read ts x e =
        let (behind, opened, e1) = stepped behind_open (after_sign OPEN ts) x e in
        let (list, is, e2) = stepped up_to_close (items_at (after_sign COMMA) p behind) x e1 in
        let (rest, closed, same) = stepped (λ (rest : List Token). Some (found list.0 rest)) (after_sign CLOSE list.1) x e2 in
        let all = items_spelled (after_sign COMMA) (Sign COMMA) p item value (sign_spelled COMMA) read behind list is in
        subst (Read (SpellsEnclosed item) (values value) ts) (same_value (found list.0 rest) x same) (record {
          form = all.form;
          spelled = (behind, sign_spelled OPEN ts behind opened, (list.1, all.spelled, sign_spelled CLOSE list.1 rest closed));
          stands = all.stands;
        })

    pub enclosed_read : ((ts mid : List Token) → after_sign COMMA ts ≡ Some mid → length mid < length ts) → ((ts : List Token) (x : A × List Token) → p ts ≡ Some x → length x.1 < length ts) → ((d : D) (ts rest : List Token) → item d ts rest → p ts ≡ Some (value d, rest)) → ((ts rest : List Token) → Sign CLOSE ts rest → after_sign COMMA ts ≡ None) → (list : Listed D) (ts rest : List Token) → SpellsEnclosed item list ts rest → enclosed_at p ts ≡ Some (found (values value list) rest)
    enclosed_read comma_short p_short back no_comma list ts rest (behind, opened, (end, items, closed)) =
        then_gives behind_open (sign_read OPEN ts behind opened)
        (then_gives up_to_close (listed_read (after_sign COMMA) (Sign COMMA) p item value comma_short p_short (sign_read COMMA) back list behind end items (no_comma end rest closed))
        (then_gives (λ (rest : List Token). Some (found (values value list) rest)) (sign_read CLOSE end rest closed) refl))
