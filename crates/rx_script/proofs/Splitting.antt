-- Segments: tokens fall into them, and in no other way.
use Rattle.std.proofs.Common.{◌≡◌, Bool, true, false, cond, ◌||◌, List, [], ◌∷◌, ◌++◌, Option, Some, None, refl, sym, ap, subst, ◌∙◌}
use Rattle.std.specs.List.{list_any, onto_first}
use Rattle.rx_token.specs.declared.kinds.Token.{Token}
use Rattle.rx_script.specs.Segments.{is_semicolon, IsSplit, segments}

-- a token that is no semicolon before the first segment
put_before : (t : Token) (ts : List Token) (pieces : List (List Token)) → is_semicolon t ≡ false → IsSplit ts pieces → IsSplit (t ∷ ts) (onto_first t pieces)
put_before t ts [] plain s = absurd s
put_before t ts (segment ∷ []) plain s = (ap (λ (us : List Token). t ∷ us) s.0, rw plain s.1)
put_before t ts (segment ∷ next ∷ others) plain (semicolon, rest, is, ends, none, more) =
    (semicolon, rest, ap (λ (us : List Token). t ∷ us) is, ends, rw plain none, more)

-- a semicolon before segments
put_semicolon : (t : Token) (ts : List Token) (pieces : List (List Token)) → is_semicolon t ≡ true → IsSplit ts pieces → IsSplit (t ∷ ts) ([] ∷ pieces)
put_semicolon t ts [] ends s = absurd s
put_semicolon t ts (next ∷ others) ends s = (t, ts, refl, ends, refl, s)

split_by : (t : Token) (ts : List Token) → IsSplit ts (segments ts) → (b : Bool) → is_semicolon t ≡ b → IsSplit (t ∷ ts) (cond b ([] ∷ segments ts) (onto_first t (segments ts)))
split_by t ts s true is = put_semicolon t ts (segments ts) is s
split_by t ts s false is = put_before t ts (segments ts) is s

pub split : (ts : List Token) → IsSplit ts (segments ts)
split [] = (refl, refl)
split (t ∷ ts) = split_by t ts (split ts) (is_semicolon t) refl

nor : (a b : Bool) → (a || b) ≡ false → (a ≡ false) × (b ≡ false)
nor true b e = absurd cc
nor false b e = (refl, e)

-- the segments of tokens without a semicolon
no_cut : (segment : List Token) → list_any is_semicolon segment ≡ false → segments segment ≡ segment ∷ []
no_cut [] e = refl
no_cut (t ∷ ts) e = let (a, b) = nor (is_semicolon t) (list_any is_semicolon ts) e in rw (a, no_cut ts b) refl

-- the segments of tokens with one
cut : (segment : List Token) (semicolon : Token) (rest : List Token) → list_any is_semicolon segment ≡ false → is_semicolon semicolon ≡ true → segments (segment ++ semicolon ∷ rest) ≡ segment ∷ segments rest
cut [] semicolon rest e ends = rw ends refl
cut (t ∷ ts) semicolon rest e ends = let (a, b) = nor (is_semicolon t) (list_any is_semicolon ts) e in rw (a, cut ts semicolon rest b ends) refl

pub only_split : (ts : List Token) (pieces : List (List Token)) → IsSplit ts pieces → pieces ≡ segments ts
only_split ts [] s = absurd s
only_split ts (segment ∷ []) (is, none) = sym (ap segments is ∙ no_cut segment none)
only_split ts (segment ∷ next ∷ others) (semicolon, rest, is, ends, none, more) =
    sym (ap segments is ∙ cut segment semicolon rest none ends ∙ ap (λ (pieces : List (List Token)). segment ∷ pieces) (sym (only_split rest (next ∷ others) more)))
