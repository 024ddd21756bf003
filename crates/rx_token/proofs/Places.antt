-- One token more.
use Rattle.std.proofs.Common.{◌≡◌, ℕ, ◌+◌, List, [], ◌∷◌, ◌++◌, drop, Option, Some, None, refl, sym, ap, subst, ◌∙◌, append_assoc}
use Rattle.std.proofs.Common.{length, arith}
use Rattle.std.proofs.lemmas.List.{append-nil}
use Rattle.rx_token.specs.declared.kinds.Token.{Token}
use Rattle.rx_token.specs.declared.lexemes.Lexeme.{Lexeme}
use Rattle.rx_token.specs.Blank.{Blanks}
use Rattle.rx_token.specs.Lexeme.{lexeme_at}
use Rattle.rx_token.specs.Scan.{Scans, Stops, token}

-- what is read so far, whatever comes of the rest
abbrev pub SoFar : List ℕ → List Token → ℕ → List ℕ → Type 0
SoFar text list at rest = (ts : List Token) (bad : Option ℕ) → Scans at rest ts bad → Scans 0 text (list ++ ts) bad

pub goes_on : (text rest here after : List ℕ) (list : List Token) (at gap : ℕ) (found : Lexeme) → SoFar text list at rest → Blanks rest gap → here ≡ drop gap rest → Some found ≡ lexeme_at here → after ≡ drop found.width here → SoFar text (list ++ token (at + gap) found ∷ []) (at + gap + found.width) after
goes_on text rest here after list at gap found so_far blanks cut is cut_again ts bad tail =
    let e : after ≡ drop found.width (drop gap rest) = cut_again ∙ ap (drop found.width) cut in
    let whole = so_far (token (at + gap) found ∷ ts) bad (gap, found, blanks, ap lexeme_at (sym cut) ∙ sym is, refl, subst (λ (xs : List ℕ). Scans (at + gap + found.width) xs ts bad) e tail) in
    subst (λ (xs : List Token). Scans 0 text xs bad) (sym (append_assoc list (token (at + gap) found ∷ []) ts)) whole

at_end : (at : ℕ) (here : List ℕ) → length here ≡ 0 → Stops at here None
at_end at [] is = refl
at_end at (b ∷ bs) is = absurd (omega arith)

at_bad : (at : ℕ) (here : List ℕ) → (length here ≡ 0 → ⊥) → None ≡ lexeme_at here → Stops at here (Some at)
at_bad at [] some is = absurd (some refl)
at_bad at (b ∷ bs) some is = (sym is, refl)

pub ends : (text rest here : List ℕ) (list : List Token) (at gap : ℕ) → SoFar text list at rest → Blanks rest gap → here ≡ drop gap rest → length here ≡ 0 → Scans 0 text list None
ends text rest here list at gap so_far blanks cut is =
    subst (λ (xs : List Token). Scans 0 text xs None) (append-nil list) (so_far [] None (gap, blanks, subst (λ (xs : List ℕ). Stops (at + gap) xs None) cut (at_end (at + gap) here is)))

pub breaks : (text rest here : List ℕ) (list : List Token) (at gap : ℕ) → SoFar text list at rest → Blanks rest gap → here ≡ drop gap rest → (length here ≡ 0 → ⊥) → None ≡ lexeme_at here → Scans 0 text list (Some (at + gap))
breaks text rest here list at gap so_far blanks cut some is =
    subst (λ (xs : List Token). Scans 0 text xs (Some (at + gap))) (append-nil list) (so_far [] (Some (at + gap)) (gap, blanks, subst (λ (xs : List ℕ). Stops (at + gap) xs (Some (at + gap))) cut (at_bad (at + gap) here some is)))
