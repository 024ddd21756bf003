-- Pieces that follow each other.
use Rattle.std.proofs.Common.{◌≡◌, ◌≤◌, ◌<◌, ◌-◌, ℕ, ◌+◌, List, ◌++◌, take, drop, length, Option, Some, None, arith, refl, sym, ap, subst, ◌∙◌}
use Rattle.std.proofs.Math.Seq.{take-add}
use Rattle.std.proofs.lemmas.List.{take-append-drop, take_at, drop_at, take-append-le, length-take-le, length-drop}
use borrow.Rule.Slice.PartMut.{put_mid, post_of}
use Rattle.rx_outside.specs.Sink.{Takes, LeavesRoom, TakesFront}
use Rattle.rx_outside.specs.Files.{GivesPart}
use Rattle.rx_outside.specs.Buffer.{IsFrontOf}
use Rattle.rx_outside.proofs.Chains.{Takes-chain}

pub Takes-then : (a b c : Option (List ℕ)) (m n : ℕ) (xs : List ℕ) → Takes a b (take m xs) → Takes b c (take n (drop m xs)) → Takes a c (take (m + n) xs)
Takes-then a b c m n xs h g = rw (take-add m n xs) (Takes-chain a b c (take m xs) (take n (drop m xs)) h g)

-- the front of a buffer after more was read into it
pub IsFrontOf-more : (told : Option (List ℕ)) (at k n : ℕ) (old into : List ℕ) → IsFrontOf told old at → GivesPart told at into n → at ≤ length old → n ≤ length into → IsFrontOf told (put_mid at k old into) (at + n)
IsFrontOf-more None at k n old into f g place within = tt
IsFrontOf-more (Some bytes) at k n old into f g place within =
    let front : take at (take at old ++ (into ++ post_of at k old)) ≡ take at old = take_at (take at old) (into ++ post_of at k old) at (length-take-le at old place) in
    let rest : drop at (take at old ++ (into ++ post_of at k old)) ≡ into ++ post_of at k old = drop_at (take at old) (into ++ post_of at k old) at (length-take-le at old place) in
    let part = g.part in
    take-add at n (put_mid at k old into)
    ∙ rw (front, rest, take-append-le n into (post_of at k old) within, f, part, take-add at n bytes) refl

-- a count within what is left after a place
pub within-drop : (at n : ℕ) (xs ys : List ℕ) → ys ≡ drop at xs → n ≤ length ys → at ≤ length xs → at + n ≤ length xs
within-drop at n xs ys is h place =
    let long : length ys ≡ length xs - at = ap length is ∙ length-drop at xs in omega (arith, long)

pub LeavesRoom-left : (a b : Option ℕ) (m r : ℕ) → a ≡ Some r → LeavesRoom a b m → (s : ℕ) × (b ≡ Some s) × (s + m ≡ r)
LeavesRoom-left a b m r is h = let P : Option ℕ → Type 0 = λ o. LeavesRoom o b m in subst P is h

-- where the next call took nothing
pub TakesFront-at : (t u v : Option (List ℕ)) (r s q : Option ℕ) (at : ℕ) (piece : List ℕ) → at < length piece → Takes t u (take at piece) → v ≡ u → LeavesRoom r s at → q ≡ s → TakesFront t v r q piece
TakesFront-at t u v r s q at piece h takes same leaves stays =
    let long : length (take at piece) ≡ at = length-take-le at piece (omega arith) in
    record {
      front = take at piece;
      is_front = (drop at piece, sym (take-append-drop at piece));
      short = omega arith;
      text = same ∙ takes;
      room = rw (long, stays) leaves;
    }
