-- The functions of the tokens and the bad place give a reading.
use Rattle.std.proofs.Common.{◌≡◌, ℕ, zero, suc, ◌+◌, ◌-◌, ◌<◌, nat_lt, List, [], ◌∷◌, drop, length, Option, Some, None, refl, sym, ap, subst, ◌∙◌, arith, add-zero}
use Rattle.std.specs.Prelude.{IfSome}
use Rattle.std.proofs.Math.Seq.{drop-nil}
use Rattle.std.proofs.lemmas.List.{drop-drop}
use Rattle.std.proofs.lemmas.Bool.{cond_both, ltb-true, ltb-false}
use Rattle.rx_token.specs.declared.kinds.Token.{Token}
use Rattle.rx_token.specs.declared.kinds.Scanned.{Scanned}
use Rattle.rx_token.specs.declared.lexemes.Lexeme.{Lexeme}
use Rattle.rx_token.specs.Blank.{blank_at, Blanks, none, more}
use Rattle.rx_token.specs.Lexeme.{Takes, lexeme_at}
use Rattle.rx_token.specs.Scan.{Stops, Scans, token, next_at, with_token, scan_from, token_list, bad_place}
use Rattle.rx_token.proofs.Widths.{lexeme_fits}

no_blanks : Blanks [] 0
unfolding blank_at
no_blanks = none refl

-- a reading behind white space or a comment
after_blank : (at : ℕ) (bytes : List ℕ) (ts : List Token) (bad : Option ℕ) → 0 < blank_at bytes → Scans (at + blank_at bytes) (drop (blank_at bytes) bytes) ts bad → Scans at bytes ts bad
after_blank at bytes [] bad some s =
    let place : (at + blank_at bytes) + s.0 ≡ at + (blank_at bytes + s.0) = omega arith in
    let cut : drop s.0 (drop (blank_at bytes) bytes) ≡ drop (blank_at bytes + s.0) bytes = drop-drop s.0 (blank_at bytes) bytes in
    (blank_at bytes + s.0, more some s.1, subst (λ (k : ℕ). Stops k (drop (blank_at bytes + s.0) bytes) bad) place (subst (λ (xs : List ℕ). Stops (at + blank_at bytes + s.0) xs bad) cut s.2))
after_blank at bytes (t ∷ ts) bad some s =
    let place : (at + blank_at bytes) + s.0 ≡ at + (blank_at bytes + s.0) = omega arith in
    let cut : drop s.0 (drop (blank_at bytes) bytes) ≡ drop (blank_at bytes + s.0) bytes = drop-drop s.0 (blank_at bytes) bytes in (
      blank_at bytes + s.0,
      s.1,
      more some s.2,
      ap lexeme_at (sym cut) ∙ s.3,
      s.4 ∙ ap (λ (k : ℕ). token k s.1) place,
      subst (λ (k : ℕ). Scans (k + s.1.width) (drop s.1.width (drop (blank_at bytes + s.0) bytes)) ts bad) place (subst (λ (xs : List ℕ). Scans (at + blank_at bytes + s.0 + s.1.width) (drop s.1.width xs) ts bad) cut s.5),
    )

-- the bytes behind some of a list
behind_some : (n b : ℕ) (bs : List ℕ) → 0 < n → drop (n - 1) bs ≡ drop n (b ∷ bs)
behind_some zero b bs some = absurd (omega arith)
behind_some (suc n) b bs some = let e : suc n - 1 ≡ n = omega arith in ap (λ (k : ℕ). drop k bs) e

-- what a function of the bytes taken reads behind them
abbrev ReadsOn : ℕ → List ℕ → (ℕ → Scanned) → Type 0
ReadsOn at bs behind = (k : ℕ) → Scans (at + 1 + k) (drop k bs) (behind k).list (behind k).bad

reads_behind : (at n b : ℕ) (bs : List ℕ) (behind : ℕ → Scanned) → 0 < n → ReadsOn at bs behind → Scans (at + n) (drop n (b ∷ bs)) (behind (n - 1)).list (behind (n - 1)).bad
reads_behind at n b bs behind some reads_on =
    let place : (at + 1) + (n - 1) ≡ at + n = omega arith in
    subst (λ (k : ℕ). Scans k (drop n (b ∷ bs)) (behind (n - 1)).list (behind (n - 1)).bad) place
    (subst (λ (xs : List ℕ). Scans (at + 1 + (n - 1)) xs (behind (n - 1)).list (behind (n - 1)).bad) (behind_some n b bs some) (reads_on (n - 1)))

first_token : (at b : ℕ) (bs : List ℕ) (behind : ℕ → Scanned) (o : Option Lexeme) → blank_at (b ∷ bs) ≡ 0 → lexeme_at (b ∷ bs) ≡ o → IfSome o (λ f. 0 < f.width) → ReadsOn at bs behind → Scans at (b ∷ bs) (with_token at o (λ f. behind (f.width - 1))).list (with_token at o (λ f. behind (f.width - 1))).bad
first_token at b bs behind None no_blank is some reads_on =
    (0, none no_blank, (is, ap (λ (k : ℕ). Some k) (sym (add-zero at))))
first_token at b bs behind (Some f) no_blank is some reads_on = (
  0,
  f,
  none no_blank,
  is,
  ap (λ (k : ℕ). token k f) (sym (add-zero at)),
  subst (λ (k : ℕ). Scans (k + f.width) (drop f.width (b ∷ bs)) (behind (f.width - 1)).list (behind (f.width - 1)).bad) (sym (add-zero at)) (reads_behind at f.width b bs behind some reads_on),
)

width_only : (limit : ℕ) (o : Option Lexeme) → IfSome o (Takes limit) → IfSome o (λ f. 0 < f.width)
width_only limit None h = tt
width_only limit (Some f) h = h.0

next_reads : (at b : ℕ) (bs : List ℕ) (behind : ℕ → Scanned) → ReadsOn at bs behind → Scans at (b ∷ bs) (next_at at (b ∷ bs) behind).list (next_at at (b ∷ bs) behind).bad
next_reads at b bs behind reads_on =
    let some = width_only (length (b ∷ bs)) (lexeme_at (b ∷ bs)) (lexeme_fits (b ∷ bs)) in
    cond_both (nat_lt 0 (blank_at (b ∷ bs))) (behind (blank_at (b ∷ bs) - 1)) (with_token at (lexeme_at (b ∷ bs)) (λ f. behind (f.width - 1)))
    (λ s. Scans at (b ∷ bs) s.list s.bad)
    (λ e. let positive = ltb-true 0 (blank_at (b ∷ bs)) e in
    after_blank at (b ∷ bs) (behind (blank_at (b ∷ bs) - 1)).list (behind (blank_at (b ∷ bs) - 1)).bad positive (reads_behind at (blank_at (b ∷ bs)) b bs behind positive reads_on))
    (λ e. let empty = ltb-false 0 (blank_at (b ∷ bs)) e in
    let zero_width : blank_at (b ∷ bs) ≡ 0 = omega arith in
    first_token at b bs behind (lexeme_at (b ∷ bs)) zero_width refl some reads_on)

reads : (at taken : ℕ) (bytes : List ℕ) → Scans (at + taken) (drop taken bytes) (scan_from at taken bytes).list (scan_from at taken bytes).bad
unfolding scan_from
reads at taken [] =
    subst (λ (xs : List ℕ). Scans (at + taken) xs [] None) (sym (drop-nil taken)) (0, no_blanks, refl)
reads at (suc taken) (b ∷ bs) =
    let place : (at + 1) + taken ≡ at + suc taken = omega arith in
    subst (λ (k : ℕ). Scans k (drop taken bs) (scan_from (at + 1) taken bs).list (scan_from (at + 1) taken bs).bad) place (reads (at + 1) taken bs)
reads at zero (b ∷ bs) =
    subst (λ (k : ℕ). Scans k (b ∷ bs) (scan_from at zero (b ∷ bs)).list (scan_from at zero (b ∷ bs)).bad) (sym (add-zero at))
    (next_reads at b bs (λ n. scan_from (at + 1) n bs) (λ n. reads (at + 1) n bs))

pub reads_whole : (text : List ℕ) → Scans 0 text (token_list text) (bad_place text)
unfolding token_list bad_place
reads_whole text = reads 0 0 text
