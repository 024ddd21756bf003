-- One byte more of a name or a text.
use Rattle.std.proofs.Common.{◌≡◌, ℕ, true, false, ◌==◌, List, [], ◌∷◌, refl}
use Rattle.rx_token.specs.Quotes.{with_front, is_name_byte, name_in, escaped, text_in}

pub name_step : (b : ℕ) (bs : List ℕ) → (b == 96) ≡ false → is_name_byte b ≡ true → name_in (b ∷ bs) ≡ with_front (b ∷ []) 1 (name_in bs)
unfolding name_in
name_step b [] e f = rw e refl
name_step b (c ∷ bs) e f = rw (e, f) refl

pub text_step : (quote b : ℕ) (bs : List ℕ) → (b == quote) ≡ false → (b == 92) ≡ false → text_in quote (b ∷ bs) ≡ with_front (b ∷ []) 1 (text_in quote bs)
unfolding text_in
text_step quote b [] e f = rw e refl
text_step quote b (c ∷ bs) e f = rw (e, f) refl

pub slashed_step : (quote b c : ℕ) (bs : List ℕ) → (b == quote) ≡ false → (b == 92) ≡ true → text_in quote (b ∷ c ∷ bs) ≡ with_front (escaped c) 2 (text_in quote bs)
unfolding text_in
slashed_step quote b c bs e f = rw (e, f) refl
