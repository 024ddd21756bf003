-- A text in quotes is what its bytes spell, up to the next single quote.
use Rattle.std.proofs.Common.{◌≡◌, ◌≢◌, ℕ, ◌+◌, true, false, cond, ◌==◌, List, [], ◌∷◌, ◌++◌, length, Option, Some, None, refl, sym, ap, subst, ◌∙◌, arith}
use Rattle.std.specs.Prelude.{IfSome}
use Rattle.std.proofs.lemmas.Bool.{cond_both, eqb-true, eq-eqb, ne_eqb, not-true}
use Rattle.rx_token.specs.Quotes.{with_front, escaped, text_in, begins_without, Spells, done, quoted, slashed, plain, IsTextIn}
use Rattle.rx_token.proofs.Steps.{text_step, slashed_step}

end_alone : (quote b : ℕ) → (b == quote) ≡ true → IsTextIn quote (b ∷ []) ([], 1)
end_alone quote b e = ([], [], done, rw (eqb-true b quote e) refl, refl, omega arith)

end_before : (quote b c : ℕ) (bs : List ℕ) → (b == quote) ≡ true → (c == quote) ≡ false → IsTextIn quote (b ∷ c ∷ bs) ([], 1)
end_before quote b c bs e f = ([], c ∷ bs, done, rw (eqb-true b quote e) refl, rw f refl, omega arith)

with_quoted : (quote b c : ℕ) (bs : List ℕ) (x : List ℕ × ℕ) → (b == quote) ≡ true → (c == quote) ≡ true → IsTextIn quote bs x → IsTextIn quote (b ∷ c ∷ bs) (quote ∷ x.0, 2 + x.1)
with_quoted quote b c bs x e f h =
    let first : b ≡ quote = eqb-true b quote e in
    let second : c ≡ quote = eqb-true c quote f in
    let same = h.3 in
    let width = h.5 in
    (quote ∷ quote ∷ h.0, h.1, quoted h.2, cc, h.4, omega arith)

with_slashed : (quote b c : ℕ) (bs : List ℕ) (x : List ℕ × ℕ) → (b == 92) ≡ true → IsTextIn quote bs x → IsTextIn quote (b ∷ c ∷ bs) (escaped c ++ x.0, 2 + x.1)
with_slashed quote b c bs x e h =
    let first : b ≡ 92 = eqb-true b 92 e in
    let same = h.3 in
    let width = h.5 in
    (92 ∷ c ∷ h.0, h.1, slashed h.2, cc, h.4, omega arith)

with_plain : (quote b c : ℕ) (bs : List ℕ) (x : List ℕ × ℕ) → (b == quote) ≡ false → (b == 92) ≡ false → IsTextIn quote (c ∷ bs) x → IsTextIn quote (b ∷ c ∷ bs) (b ∷ x.0, 1 + x.1)
with_plain quote b c bs x e f h =
    let width = h.5 in
    (b ∷ h.0, h.1, plain e f h.2, ap (λ (t : List ℕ). b ∷ t) h.3, h.4, omega arith)

front_text : (quote : ℕ) (bytes small text : List ℕ) (n : ℕ) (o : Option (List ℕ × ℕ)) → ((x : List ℕ × ℕ) → IsTextIn quote small x → IsTextIn quote bytes (text ++ x.0, n + x.1)) → IfSome o (IsTextIn quote small) → IfSome (with_front text n o) (IsTextIn quote bytes)
front_text quote bytes small text n None step h = tt
front_text quote bytes small text n (Some x) step h = step x h

texts : (quote : ℕ) (bytes : List ℕ) → IfSome (text_in quote bytes) (IsTextIn quote bytes)
unfolding text_in
texts quote [] = tt
texts quote (b ∷ []) = cond_both (b == quote) (Some ([], 1)) None (λ o. IfSome o (IsTextIn quote (b ∷ []))) (end_alone quote b) (λ e. tt)
texts quote (b ∷ c ∷ bs) =
    let doubled = with_front (quote ∷ []) 2 (text_in quote bs) in
    let escape = with_front (escaped c) 2 (text_in quote bs) in
    let other = with_front (b ∷ []) 1 (text_in quote (c ∷ bs)) in
    cond_both (b == quote) (cond (c == quote) doubled (Some ([], 1))) (cond (b == 92) escape other) (λ o. IfSome o (IsTextIn quote (b ∷ c ∷ bs)))
    (λ e. cond_both (c == quote) doubled (Some ([], 1)) (λ o. IfSome o (IsTextIn quote (b ∷ c ∷ bs)))
    (λ f. front_text quote (b ∷ c ∷ bs) bs (quote ∷ []) 2 (text_in quote bs) (λ x h. with_quoted quote b c bs x e f h) (texts quote bs))
    (λ f. end_before quote b c bs e f))
    (λ e. cond_both (b == 92) escape other (λ o. IfSome o (IsTextIn quote (b ∷ c ∷ bs)))
    (λ f. front_text quote (b ∷ c ∷ bs) bs (escaped c) 2 (text_in quote bs) (λ x h. with_slashed quote b c bs x f h) (texts quote bs))
    (λ f. front_text quote (b ∷ c ∷ bs) (c ∷ bs) (b ∷ []) 1 (text_in quote (c ∷ bs)) (λ x h. with_plain quote b c bs x e f h) (texts quote (c ∷ bs))))

pub text_only : (quote : ℕ) (bytes : List ℕ) (x : List ℕ × ℕ) → text_in quote bytes ≡ Some x → IsTextIn quote bytes x
text_only quote bytes x e = subst (λ (o : Option (List ℕ × ℕ)). IfSome o (IsTextIn quote bytes)) e (texts quote bytes)

ends : (quote : ℕ) (rest : List ℕ) → begins_without quote rest ≡ true → text_in quote (quote ∷ rest) ≡ Some ([], 1)
unfolding text_in
ends quote [] h = rw (eq-eqb quote quote refl) refl
ends quote (r ∷ rs) h = rw (eq-eqb quote quote refl, not-true (r == quote) h) refl

quoted_step : (quote : ℕ) (bs : List ℕ) → text_in quote (quote ∷ quote ∷ bs) ≡ with_front (quote ∷ []) 2 (text_in quote bs)
unfolding text_in
quoted_step quote bs = rw (eq-eqb quote quote refl) refl

found_same : (text : List ℕ) (m n : ℕ) → m ≡ n → ◌≡◌ {A = Option (List ℕ × ℕ)} (Some (text, m)) (Some (text, n))
found_same text m n e = cc

-- what bytes spell is read up to the quote behind them
pub reads : (quote : ℕ) (spelled text rest : List ℕ) → quote ≢ 92 → Spells quote spelled text → begins_without quote rest ≡ true → text_in quote (spelled ++ quote ∷ rest) ≡ Some (text, length spelled + 1)
reads quote _ _ rest other done h = ends quote rest h
reads quote _ _ rest other (quoted {bytes = bytes} {text = text} s) h =
    quoted_step quote (bytes ++ quote ∷ rest) ∙ ap (with_front (quote ∷ []) 2) (reads quote bytes text rest other s h) ∙ found_same (quote ∷ text) (2 + (length bytes + 1)) (length (quote ∷ quote ∷ bytes) + 1) (omega arith)
reads quote _ _ rest other (slashed {c = c} {bytes = bytes} {text = text} s) h =
    slashed_step quote 92 c (bytes ++ quote ∷ rest) (ne_eqb 92 quote (λ e. other (sym e))) refl ∙ ap (with_front (escaped c) 2) (reads quote bytes text rest other s h) ∙ found_same (escaped c ++ text) (2 + (length bytes + 1)) (length (92 ∷ c ∷ bytes) + 1) (omega arith)
reads quote _ _ rest other (plain {b = b} {bytes = bytes} {text = text} e f s) h =
    text_step quote b (bytes ++ quote ∷ rest) e f ∙ ap (with_front (b ∷ []) 1) (reads quote bytes text rest other s h) ∙ found_same (b ∷ text) (1 + (length bytes + 1)) (length (b ∷ bytes) + 1) (omega arith)

pub text_all : (quote : ℕ) (bytes : List ℕ) (x : List ℕ × ℕ) → quote ≢ 92 → IsTextIn quote bytes x → text_in quote bytes ≡ Some x
text_all quote bytes x other h = ap (text_in quote) h.3 ∙ reads quote h.0 x.0 h.1 other h.2 h.4 ∙ found_same x.0 (length h.0 + 1) x.1 (sym h.5)
