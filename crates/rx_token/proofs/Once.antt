-- A text has one reading.
use Rattle.std.proofs.Common.{◌≡◌, ℕ, ◌+◌, List, [], ◌∷◌, drop, Option, Some, refl, sym, ap, subst, ◌∙◌, arith}
use Rattle.rx_token.specs.declared.kinds.Token.{Token}
use Rattle.rx_token.specs.declared.lexemes.Lexeme.{Lexeme}
use Rattle.rx_token.specs.Blank.{blank_at, Blanks, none, more}
use Rattle.rx_token.specs.Lexeme.{lexeme_at}
use Rattle.rx_token.specs.Scan.{Scans, Stops, token}

blanks_once : (bytes : List ℕ) (m n : ℕ) → Blanks bytes m → Blanks bytes n → m ≡ n
blanks_once bytes m n (none e) (none f) = refl
blanks_once bytes m n (none e) (more p t) = absurd (omega arith)
blanks_once bytes m n (more p t) (none e) = absurd (omega arith)
blanks_once bytes m n (more {n = j} p t) (more {n = k} q u) = ap (λ (i : ℕ). blank_at bytes + i) (blanks_once (drop (blank_at bytes) bytes) j k t u)

stops_once : (at : ℕ) (bytes : List ℕ) (b c : Option ℕ) → Stops at bytes b → Stops at bytes c → b ≡ c
stops_once at [] b c s r = s ∙ sym r
stops_once at (x ∷ xs) b c s r = s.1 ∙ sym r.1

no_token : (at : ℕ) (bytes : List ℕ) (b : Option ℕ) (found : Lexeme) → Stops at bytes b → lexeme_at bytes ≡ Some found → ⊥
unfolding lexeme_at
no_token at [] b found s e = cc
no_token at (x ∷ xs) b found s e = let f = s.0 in cc

pub record SameReading (ts us : List Token) (b c : Option ℕ) : Type 0 where
  pub tokens : ts ≡ us
  pub bad : b ≡ c

same_more : (t u : Token) (ts us : List Token) (b c : Option ℕ) → t ≡ u → SameReading ts us b c → SameReading (t ∷ ts) (u ∷ us) b c
same_more t u ts us b c e s = record { tokens = let f = s.tokens in cc; bad = s.bad }

pub scans_once : (at : ℕ) (bytes : List ℕ) (ts us : List Token) (b c : Option ℕ) → Scans at bytes ts b → Scans at bytes us c → SameReading ts us b c
scans_once at bytes [] [] b c s r =
    let e = blanks_once bytes r.0 s.0 r.1 s.1 in
    record { tokens = refl; bad = stops_once (at + s.0) (drop s.0 bytes) b c s.2 (subst (λ (k : ℕ). Stops (at + k) (drop k bytes) c) e r.2) }
scans_once at bytes [] (u ∷ us) b c s r =
    let e = blanks_once bytes s.0 r.0 s.1 r.2 in
    absurd (no_token (at + r.0) (drop r.0 bytes) b r.1 (subst (λ (k : ℕ). Stops (at + k) (drop k bytes) b) e s.2) r.3)
scans_once at bytes (t ∷ ts) [] b c s r =
    let e = blanks_once bytes r.0 s.0 r.1 s.2 in
    absurd (no_token (at + s.0) (drop s.0 bytes) c s.1 (subst (λ (k : ℕ). Stops (at + k) (drop k bytes) c) e r.2) s.3)
scans_once at bytes (t ∷ ts) (u ∷ us) b c s r =
    let e = blanks_once bytes r.0 s.0 r.2 s.2 in
    let is : lexeme_at (drop s.0 bytes) ≡ Some r.1 = subst (λ (k : ℕ). lexeme_at (drop k bytes) ≡ Some r.1) e r.3 in
    let f : r.1 ≡ s.1 = let g = s.3 in cc in
    let other : Scans (at + s.0 + s.1.width) (drop s.1.width (drop s.0 bytes)) us c = subst (λ (x : Lexeme). Scans (at + s.0 + x.width) (drop x.width (drop s.0 bytes)) us c) f (subst (λ (k : ℕ). Scans (at + k + r.1.width) (drop r.1.width (drop k bytes)) us c) e r.5) in
    let same : token (at + r.0) r.1 ≡ token (at + s.0) s.1 = ap (λ (k : ℕ). token (at + k) r.1) e ∙ ap (token (at + s.0)) f in
    same_more t u ts us b c (s.4 ∙ sym same ∙ sym r.4) (scans_once (at + s.0 + s.1.width) (drop s.1.width (drop s.0 bytes)) ts us b c s.5 other)
