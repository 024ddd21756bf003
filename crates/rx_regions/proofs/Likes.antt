-- A text that is like a pattern stands where LIKE can be true.
use Rattle.std.proofs.Common.{◌≡◌, ℕ, ◌+◌, ◌<◌, ◌≤◌, Bool, true, false, not, cond, ◌&&◌, ◌||◌, if◌then◌else◌, List, [], ◌∷◌, ◌++◌, length, Option, Some, None, refl, ap, ap₂, sym, ◌∙◌, subst, arith, leb-true, leb-false}
use Rattle.std.specs.Prelude.{encode_utf8_all}
use Rattle.std.specs.Fmt.{take_chars}
use Rattle.std.specs.Str.{chars, is_utf8, all_scalars}
use Rattle.std.specs.declared.cmp.Ordering.TheVariants.{Equal, Greater}
use Rattle.std.specs.Ordering.{ordering_then, nat_cmp}
use Rattle.std.proofs.lemmas.Cmp.{nat_cmp_total, tied_itself}
use Rattle.std.proofs.lemmas.Bool.Decides.{nat_tests}
use Rattle.std.proofs.lemmas.Str.{IsUtf8-from_is_utf8, encodes-chars, encodes-append, chars-encodes, scalars-chars}
use Rattle.rx_value.specs.declared.values.Value.{Value}
use Rattle.rx_value.specs.declared.values.Value.TheVariants.{Null, Int, Text}
use Rattle.rx_value.specs.declared.order.End.{End}
use Rattle.rx_value.specs.Order.{below}
use Rattle.rx_value.specs.Keys.{cut_value}
use Rattle.rx_like.specs.declared.tokens.Token.{Token}
use Rattle.rx_like.specs.declared.tokens.Token.TheVariants.{AnyRun, AnyChar, Char}
use Rattle.rx_like.specs.Pattern.{tokens, literal_front, literal_prefix, is_plain}
use Rattle.rx_like.specs.Walk.{matches, is_like}
use Rattle.rx_like.proofs.Laws.{plain_is}
use Rattle.rx_cond.specs.Tri.{tri_of}
use Rattle.rx_cond.specs.Test.{likeness}
use Rattle.rx_regions.specs.Places.{is_at, raised}
use Rattle.rx_regions.specs.Cans.{is_so, is_from, fills, begins}
use Rattle.rx_regions.proofs.Points.{at_most, is_at_same}
use Rattle.rx_regions.proofs.Utf8.{bytes, cut_front, front_left}

-- characters that match begin with those before the first wildcard
front_begins : (ts : List Token) (cs : List ℕ) → matches ts cs ≡ true → (rest : List ℕ) × (cs ≡ literal_front ts ++ rest)
front_begins [] cs found = (cs, refl)
front_begins (AnyRun ∷ ts) cs found = (cs, refl)
front_begins (AnyChar ∷ ts) cs found = (cs, refl)
front_begins (Char c ∷ ts) [] found = grind arith
front_begins (Char c ∷ ts) (d ∷ cs) found =
    let later : matches ts cs ≡ true = grind arith in
    let same : d ≡ c = grind arith in
    let (rest, whole) = front_begins ts cs later in
    (rest, rw same (ap (λ r. c ∷ r) whole))

-- what a text that is like a pattern is made of: the characters of the prefix, and others
pub record IsSplit (pattern text : List ℕ) : Type 0 where
  front : List ℕ
  rest : List ℕ
  prefix : literal_prefix pattern ≡ encode_utf8_all front
  spelled : chars (literal_prefix pattern) ≡ front
  whole : text ≡ encode_utf8_all (front ++ rest)

scalars_front : (front rest : List ℕ) → all_scalars (front ++ rest) ≡ true → all_scalars front ≡ true
scalars_front [] rest h = refl
scalars_front (c ∷ front) rest h =
    let fit : all_scalars (front ++ rest) ≡ true = grind arith in
    let later = scalars_front front rest fit in
    grind arith

split : (pattern text : List ℕ) → is_like pattern text ≡ true → IsSplit pattern text
split pattern text like =
    let p : is_utf8 pattern ≡ true = grind arith in
    let t : is_utf8 text ≡ true = grind arith in
    let found : matches (tokens pattern) (chars text) ≡ true = grind arith in
    let utf8 = IsUtf8-from_is_utf8 text t in
    let (left, is) = front_begins (tokens pattern) (chars text) found in
    let front : List ℕ = literal_front (tokens pattern) in
    let prefix_is : literal_prefix pattern ≡ encode_utf8_all front = ap (λ b. cond b (encode_utf8_all front) []) p in
    let fit : all_scalars front ≡ true = scalars_front front left (subst (λ (cs : List ℕ). all_scalars cs ≡ true) is (scalars-chars text utf8)) in
    record {
      front = front;
      rest = left;
      prefix = prefix_is;
      spelled = ap chars prefix_is ∙ chars-encodes front fit;
      whole = sym (encodes-chars text utf8) ∙ ap encode_utf8_all is;
    }

nat_same : (b : ℕ) → nat_cmp b b ≡ Equal
nat_same b = tied_itself nat_cmp_total b

-- a text stands at or after its front
front_first : (front rest : List ℕ) → at_most (ordering_then (bytes front (front ++ rest)) Equal) ≡ true
front_first [] [] = refl
front_first [] (b ∷ rest) = refl
front_first (b ∷ front) rest = ap (λ o. at_most (ordering_then (ordering_then o (bytes front (front ++ rest))) Equal)) (nat_same b) ∙ front_first front rest

raised_greater : (b : ℕ) → nat_cmp (b + 1) b ≡ Greater
raised_greater b = grind (arith, nat_tests)

-- and before the raised front
raised_after : (b : ℕ) (front rest : List ℕ) → bytes (raised (b ∷ front)) ((b ∷ front) ++ rest) ≡ Greater
raised_after b [] rest = ap (λ o. ordering_then o (bytes [] rest)) (raised_greater b)
raised_after b (c ∷ front) rest = ap (λ o. ordering_then o (bytes (raised (c ∷ front)) ((c ∷ front) ++ rest))) (nat_same b) ∙ raised_after c front rest

from_front : (b : ℕ) (front rest : List ℕ) → is_from (b ∷ front) (below (Text ((b ∷ front) ++ rest))) ≡ true
from_front b front rest =
    ap₂ (λ x o. x && not (at_most (ordering_then o Equal))) (front_first (b ∷ front) rest) (raised_after b front rest)

-- among the texts that begin with a prefix, where there is one
abbrev pub is_open : List ℕ → End → Bool
is_open prefix p = elim prefix [ [] ↦ true | b ∷ bs ↦ is_from (b ∷ bs) p ]

open_front : (prefix rest : List ℕ) → is_open prefix (below (Text (prefix ++ rest))) ≡ true
open_front [] rest = refl
open_front (b ∷ bs) rest = from_front b bs rest

open_cut : (prefix rest text : List ℕ) (n : Option ℕ) → cut_value n (Text text) ≡ Text (prefix ++ rest) → is_open prefix (below (cut_value n (Text text))) ≡ true
open_cut prefix rest text n e = subst (λ v. is_open prefix (below v) ≡ true) (sym e) (open_front prefix rest)

-- a text that begins with a prefix that the part has room for
room_for : (n : Option ℕ) (pattern text : List ℕ) → IsSplit pattern text → fills n (literal_prefix pattern) ≡ false → (rest : List ℕ) × (cut_value n (Text text) ≡ Text (literal_prefix pattern ++ rest))
room_for None pattern text s away =
    (encode_utf8_all s.rest, ap Text (s.whole ∙ encodes-append s.front s.rest ∙ ap (λ r. r ++ encode_utf8_all s.rest) (sym s.prefix)))
room_for (Some n) pattern text s away =
    let few : length (chars (literal_prefix pattern)) < n = leb-false n (length (chars (literal_prefix pattern))) away in
    let short : length s.front ≤ n = subst (λ (cs : List ℕ). length cs ≤ n) s.spelled (omega arith) in
    let (rest, is) = front_left n s.front (encode_utf8_all s.rest) short in
    (rest, ap Text (ap (take_chars n) (s.whole ∙ encodes-append s.front s.rest) ∙ is ∙ ap (λ r. r ++ rest) (sym s.prefix)))

-- a text that begins with a prefix that fills the part
filled : (n : Option ℕ) (pattern text : List ℕ) → IsSplit pattern text → fills n (literal_prefix pattern) ≡ true → cut_value n (Text text) ≡ cut_value n (Text (literal_prefix pattern))
filled None pattern text s full = absurd (cc full)
filled (Some n) pattern text s full =
    let many : n ≤ length (chars (literal_prefix pattern)) = leb-true n (length (chars (literal_prefix pattern))) full in
    let long : n ≤ length s.front = subst (λ (cs : List ℕ). n ≤ length cs) s.spelled many in
    ap Text (ap (take_chars n) s.whole ∙ cut_front n s.front s.rest long ∙ ap (take_chars n) (sym s.prefix))

at_prefix : (n : Option ℕ) (pattern text : List ℕ) → cut_value n (Text text) ≡ cut_value n (Text (literal_prefix pattern)) → is_at (below (cut_value n (Text text))) (cut_value n (Text (literal_prefix pattern))) ≡ true
at_prefix n pattern text e = subst (λ v. is_at (below v) (cut_value n (Text (literal_prefix pattern))) ≡ true) (sym e) (is_at_same (cut_value n (Text (literal_prefix pattern))))

by_cases : (a b x y : Bool) → (a ≡ true → x ≡ true) → (b ≡ true → x ≡ true) → (a ≡ false → b ≡ false → y ≡ true) → (if a || b then x else y) ≡ true
by_cases true b x y f g h = f refl
by_cases false true x y f g h = g refl
by_cases false false x y f g h = h refl refl

text_begins : (n : Option ℕ) (pattern text : List ℕ) → is_like pattern text ≡ true → begins pattern n (below (cut_value n (Text text))) ≡ true
text_begins n pattern text like =
    let s = split pattern text like in
    by_cases (is_plain pattern) (fills n (literal_prefix pattern))
    (is_at (below (cut_value n (Text text))) (cut_value n (Text (literal_prefix pattern)))) (is_open (literal_prefix pattern) (below (cut_value n (Text text))))
    (λ plain. at_prefix n pattern text (ap (λ t. cut_value n (Text t)) (plain_is pattern text plain like)))
    (λ full. at_prefix n pattern text (filled n pattern text s full))
    (λ _ away. let (rest, e) = room_for n pattern text s away in open_cut (literal_prefix pattern) rest text n e)

-- LIKE
pub like_shows : (n : Option ℕ) (pattern : List ℕ) (w : Value) → is_so true (likeness pattern w) ≡ true → begins pattern n (below (cut_value n w)) ≡ true
like_shows n pattern Null h = absurd (cc h)
like_shows n pattern (Int m) h = absurd (cc h)
like_shows n pattern (Text text) h = text_begins n pattern text (so (is_like pattern text) h)
  where
    so : (b : Bool) → is_so true (tri_of b) ≡ true → b ≡ true
    so true h = refl
    so false h = absurd (cc h)
