-- Matching behind an any run.
use Rattle.std.proofs.Common.{◌≡◌, ℕ, Bool, true, false, List, [], ◌∷◌, refl, arith}
use Rattle.rx_like.specs.declared.tokens.Token.{Token}
use Rattle.rx_like.specs.declared.tokens.Token.TheVariants.{AnyRun, AnyChar, Char}
use Rattle.rx_like.specs.Walk.{matches, token_fits}

-- the run may be empty
pub run_here : (ts : List Token) (cs : List ℕ) → matches ts cs ≡ true → matches (AnyRun ∷ ts) cs ≡ true
run_here ts [] here = here
run_here ts (c ∷ cs) here = grind arith

-- the run may take one more character
pub run_longer : (ts : List Token) (c : ℕ) (cs : List ℕ) → matches (AnyRun ∷ ts) cs ≡ true → matches (AnyRun ∷ ts) (c ∷ cs) ≡ true
run_longer ts c cs later = grind arith

-- where a run does not help, nothing does
pub none_here : (ts : List Token) (cs : List ℕ) → matches (AnyRun ∷ ts) cs ≡ false → matches ts cs ≡ false
none_here ts [] none = none
none_here ts (c ∷ cs) none = grind arith

-- a run takes what a token behind it fits
pub run_behind_token : (t : Token) (ts : List Token) (cs : List ℕ) → matches (AnyRun ∷ t ∷ ts) cs ≡ true → matches (AnyRun ∷ ts) cs ≡ true
run_behind_token AnyRun ts [] found = found
run_behind_token AnyRun ts (c ∷ cs) found = grind (arith, run_behind_token AnyRun ts cs, run_longer ts c cs)
run_behind_token AnyChar ts [] found = grind arith
run_behind_token AnyChar ts (c ∷ cs) found = grind (arith, run_behind_token AnyChar ts cs, run_here ts cs, run_longer ts c cs)
run_behind_token (Char d) ts [] found = grind arith
run_behind_token (Char d) ts (c ∷ cs) found = grind (arith, run_behind_token (Char d) ts cs, run_here ts cs, run_longer ts c cs)

-- where the first character fits the token, the run goes on behind it
pub run_past_token : (t : Token) (ts : List Token) (c : ℕ) (cs : List ℕ) → token_fits t c ≡ true → matches (AnyRun ∷ t ∷ ts) (c ∷ cs) ≡ true → matches (AnyRun ∷ ts) cs ≡ true
run_past_token AnyRun ts c cs fits found = grind arith
run_past_token AnyChar ts c cs fits found = grind (arith, run_behind_token AnyChar ts cs, run_here ts cs)
run_past_token (Char d) ts c cs fits found = grind (arith, run_behind_token (Char d) ts cs, run_here ts cs)

-- what is left decides where it decides here and further on
pub run_found : (ts : List Token) (cs : List ℕ) (found : Bool) → matches ts cs ≡ found → (matches (AnyRun ∷ ts) cs ≡ true → found ≡ true) → matches (AnyRun ∷ ts) cs ≡ found
run_found ts cs true here later = run_here ts cs here
run_found ts cs false here later = elim (matches (AnyRun ∷ ts) cs) as (λ b. (b ≡ true → false ≡ true) → b ≡ false) [ true ↦ (λ l. grind arith) | false ↦ (λ l. refl) ] later
