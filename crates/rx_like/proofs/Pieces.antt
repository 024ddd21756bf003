-- The test and the cuts into pieces.
use Rattle.std.proofs.Common.{◌≡◌, ℕ, true, false, ◌||◌, List, [], ◌∷◌, ◌++◌, refl, ap, subst, sym, ◌∙◌, arith}
use Rattle.std.specs.List.{AllZip, concat}
use Rattle.rx_like.specs.declared.tokens.Token.{Token}
use Rattle.rx_like.specs.declared.tokens.Token.TheVariants.{AnyRun, AnyChar, Char}
use Rattle.rx_like.specs.Match.{Fits, CutsInto, Matches}
use Rattle.rx_like.specs.Pattern.{tokens}
use Rattle.std.specs.Prelude.{IsTrue, ◌↔◌, Bool}
use Rattle.std.specs.Str.{chars, is_utf8}
use Rattle.std.proofs.lemmas.Str.{IsUtf8-from_is_utf8, is_utf8-from_IsUtf8}
use Rattle.rx_like.specs.Walk.{matches, is_like}
use Rattle.rx_like.proofs.Runs.{run_here, run_longer}

-- where a run may end
run_end : (ts : List Token) (cs : List ℕ) → matches (AnyRun ∷ ts) cs ≡ true → (front : List ℕ) × (rest : List ℕ) × (front ++ rest ≡ cs) × (matches ts rest ≡ true)
run_end ts [] found = ([], [], refl, found)
run_end ts (c ∷ cs) found =
    elim (matches ts (c ∷ cs)) as (λ b. matches ts (c ∷ cs) ≡ b → b || matches (AnyRun ∷ ts) cs ≡ true → (front : List ℕ) × (rest : List ℕ) × (front ++ rest ≡ c ∷ cs) × (matches ts rest ≡ true)) [
      | true ↦ (λ here f. ([], c ∷ cs, refl, here))
      | false ↦ (λ here f. let (front, rest, joined, later) = run_end ts cs f in (c ∷ front, rest, ap (λ r. c ∷ r) joined, later))
    ] refl found

-- the pieces of characters that pass the test
pub cuts_from_matches : (ts : List Token) (cs : List ℕ) → matches ts cs ≡ true → CutsInto ts cs
cuts_from_matches [] [] found = ([], refl, tt)
cuts_from_matches [] (c ∷ cs) found = grind arith
cuts_from_matches (AnyRun ∷ ts) cs found =
    let (front, rest, joined, later) = run_end ts cs found in
    let (pieces, whole, fit) = cuts_from_matches ts rest later in
    (front ∷ pieces, ap (λ r. front ++ r) whole ∙ joined, (tt, fit))
cuts_from_matches (AnyChar ∷ ts) [] found = grind arith
cuts_from_matches (AnyChar ∷ ts) (c ∷ cs) found =
    let (pieces, whole, fit) = cuts_from_matches ts cs found in
    ((c ∷ []) ∷ pieces, ap (λ r. c ∷ r) whole, (refl, fit))
cuts_from_matches (Char d ∷ ts) [] found = grind arith
cuts_from_matches (Char d ∷ ts) (c ∷ cs) found =
    let later : matches ts cs ≡ true = grind arith in
    let same : c ∷ [] ≡ d ∷ [] = grind arith in
    let (pieces, whole, fit) = cuts_from_matches ts cs later in
    ((c ∷ []) ∷ pieces, ap (λ r. c ∷ r) whole, (same, fit))

-- a run takes any front
run_over : (ts : List Token) (front rest : List ℕ) → matches ts rest ≡ true → matches (AnyRun ∷ ts) (front ++ rest) ≡ true
run_over ts [] rest here = run_here ts rest here
run_over ts (c ∷ front) rest here = run_longer ts c (front ++ rest) (run_over ts front rest here)

-- pieces that fit make characters that pass the test
matches_concat : (ts : List Token) (pieces : List (List ℕ)) → AllZip Fits ts pieces → matches ts (concat pieces) ≡ true
matches_concat [] [] fit = refl
matches_concat [] (p ∷ ps) fit = absurd fit
matches_concat (t ∷ ts) [] fit = absurd fit
matches_concat (AnyRun ∷ ts) (p ∷ ps) fit = run_over ts p (concat ps) (matches_concat ts ps fit.1)
matches_concat (AnyChar ∷ ts) ([] ∷ ps) fit = grind arith
matches_concat (AnyChar ∷ ts) ((c ∷ []) ∷ ps) fit = matches_concat ts ps fit.1
matches_concat (AnyChar ∷ ts) ((c ∷ d ∷ p) ∷ ps) fit = grind arith
matches_concat (Char d ∷ ts) (p ∷ ps) fit =
    let rest : matches ts (concat ps) ≡ true = matches_concat ts ps fit.1 in
    let fits : p ≡ d ∷ [] = fit.0 in
    rw fits (grind arith)

-- characters that are cut into pieces pass the test
pub matches_from_cuts : (ts : List Token) (cs : List ℕ) → CutsInto ts cs → matches ts cs ≡ true
matches_from_cuts ts cs (pieces, whole, fit) = let P : List ℕ → Type 0 = λ r. matches ts r ≡ true in subst P whole (matches_concat ts pieces fit)

-- the test is the relation
pub is_like_of : (pattern text : List ℕ) → Matches pattern text → is_like pattern text ≡ true
is_like_of pattern text m =
    let p : is_utf8 pattern ≡ true = is_utf8-from_IsUtf8 pattern m.pattern_utf8 in
    let t : is_utf8 text ≡ true = is_utf8-from_IsUtf8 text m.text_utf8 in
    let cut : matches (tokens pattern) (chars text) ≡ true = matches_from_cuts _ _ m.cut in
    rw p (rw t cut)

pub matches_of : (pattern text : List ℕ) → is_like pattern text ≡ true → Matches pattern text
matches_of pattern text like =
    let p : is_utf8 pattern ≡ true = grind arith in
    let t : is_utf8 text ≡ true = grind arith in
    let found : matches (tokens pattern) (chars text) ≡ true = grind arith in
    record {
      pattern_utf8 = IsUtf8-from_is_utf8 pattern p;
      text_utf8 = IsUtf8-from_is_utf8 text t;
      cut = cuts_from_matches _ _ found;
    }

-- the test and the relation say the same
pub relation_of : (result : Bool) (pattern text : List ℕ) → result ≡ is_like pattern text → IsTrue result ↔ Matches pattern text
relation_of result pattern text e = (
  (λ t. matches_of pattern text (sym e ∙ t)),
  (λ m. e ∙ is_like_of pattern text m),
)
