-- The blocks of a script, one step after another.
use Rattle.std.proofs.Common.{◌≡◌, ◌≤◌, ℕ, ◌+◌, List, [], ◌∷◌, ◌++◌, take, length, Option, Some, None, refl, ap, sym, subst, ◌∙◌, arith, append_assoc, min, map, drop, get_or, ◌<◌, suc, add-one, length-append}
use Rattle.std.specs.List.{concat}
use Rattle.std.proofs.lemmas.List.{append-nil, take-append-le, take_min}
use Rattle.std.proofs.Math.Seq.{drop-cons}
use Rattle.std.proofs.lemmas.List.Folds.{concat-append}
use Rattle.rx_outside.specs.Sink.{Takes, LeavesRoom}
use Rattle.rx_outside.proofs.Chains.{LeavesRoom-chain}
use Rattle.rx_query.specs.Steps.{Step}
use Rattle.rx_query.specs.Settings.{settings_after}
use Rattle.rx_query.specs.declared.settings.Settings.{Settings}
use Rattle.rx_store.specs.declared.tables.Counts.{Counts}
use Rattle.rx_store.specs.Tables.{Meaning, WhereTold}
use Rattle.rx_engine.specs.declared.engine.SelectFault.{SelectFault}
use Rattle.rx_engine.specs.declared.engine.SelectFault.TheVariants.{ReadFault, WriteFault, Damaged, NoMemory}
use Rattle.rx_engine.specs.Seen.{SinkSeen}
use Rattle.rx_engine.proofs.Blocks.{told, told_then, told_both, Takes-nothing}
use Rattle.rx_tool.specs.Blocks.{counts_after, counts_after_request}
use Rattle.rx_engine.specs.Running.{PutsSome, PutsFront, Puts, Stops, StopsBetween, HasRoom, size_of}

-- The blocks that were put and those that are to come are all, and the room fell by the bytes of those that were put.
pub record PutsSoFar (all rest : List (List ℕ)) (old new : SinkSeen) : Type 0 where
  pub done : List (List ℕ)
  pub split : all ≡ done ++ rest
  pub put : Takes old.text new.text (concat done)
  pub room : LeavesRoom old.room new.room (size_of done)

Takes-then : (a b c : Option (List ℕ)) (xs ys : List ℕ) → Takes a b xs → Takes b c ys → Takes a c (xs ++ ys)
Takes-then None b c xs ys p q = rw (q, p) refl
Takes-then (Some t) b c xs ys p q = rw (q, p) (ap Some (append_assoc t xs ys))

-- the steps from a place on
pub step_there : {A B : Type 0} (f : A → B) (xs : List A) (i : ℕ) (x : A) → i < length xs → x ≡ get_or xs i x → map f (drop i xs) ≡ f x ∷ map f (drop (i + 1) xs)
step_there f xs i x within is =
    ap (map f) (drop-cons xs i x within) ∙ ap (λ y. f y ∷ map f (drop (suc i) xs)) (sym is) ∙ ap (λ n. f x ∷ map f (drop n xs)) (sym (add-one i))

-- the first blocks of a step are first blocks of the whole
some_of_all : (done here rest : List (List ℕ)) (n : ℕ) → (m : ℕ) × (take m (done ++ (here ++ rest)) ≡ done ++ take n here)
some_of_all done here rest n =
    let k = min n (length here) in
    let within : k ≤ length here = omega arith in (
      length done + k,
      take_past done (here ++ rest) k ∙ ap (λ t. done ++ t) (take-append-le k here rest within ∙ take_min n here),
    )
  where
    take_past : (xs ys : List (List ℕ)) (k : ℕ) → take (length xs + k) (xs ++ ys) ≡ xs ++ take k ys
    take_past [] ys k = let e : 0 + k ≡ k = omega arith in ap (λ j. take j ys) e
    take_past (x ∷ xs) ys k = let e : suc (length xs) + k ≡ suc (length xs + k) = omega arith in ap (λ j. take j (x ∷ (xs ++ ys))) e ∙ ap (λ t. x ∷ t) (take_past xs ys k)

puts_some : (done here rest all : List (List ℕ)) (a b c : Option (List ℕ)) → Takes a b (concat done) → all ≡ done ++ (here ++ rest) → PutsSome here b c → PutsSome all a c
puts_some done here rest all a b c taken is (n, more) =
    let (m, e) = some_of_all done here rest n in
    let first : concat (take m all) ≡ concat done ++ concat (take n here) = ap (λ bs. concat (take m bs)) is ∙ ap concat e ∙ concat-append done (take n here) in
    (m, subst (λ (t : List ℕ). Takes a c t) (sym first) (Takes-then a b c (concat done) (concat (take n here)) taken more))

size_of-append : (xs ys : List (List ℕ)) → size_of (xs ++ ys) ≡ size_of xs + size_of ys
size_of-append xs ys = ap length (concat-append xs ys) ∙ length-append (concat xs) (concat ys)

puts_front : (done here rest all : List (List ℕ)) (a b c : Option (List ℕ)) → Takes a b (concat done) → all ≡ done ++ (here ++ rest) → PutsFront here b c → PutsFront all a c
puts_front done here rest all a b c taken is (front, (others, whole), short, more) =
    let text : concat all ≡ (concat done ++ front) ++ (others ++ concat rest) =
    ap concat is ∙ concat-append done (here ++ rest) ∙ ap (λ t. concat done ++ t) (concat-append here rest)
    ∙ ap (λ t. concat done ++ (t ++ concat rest)) whole
    ∙ ap (λ t. concat done ++ t) (append_assoc front others (concat rest))
    ∙ sym (append_assoc (concat done) front (others ++ concat rest)) in
    let size : size_of all ≡ size_of done + (size_of here + size_of rest) =
    ap size_of is ∙ size_of-append done (here ++ rest) ∙ ap (λ n. size_of done + n) (size_of-append here rest) in
    let put : length (concat done ++ front) ≡ size_of done + length front = length-append (concat done) front in (
      concat done ++ front,
      (others ++ concat rest, text),
      omega (arith, size, put, short),
      Takes-then a b c (concat done) front taken more,
    )

leaves_all : (room : Option ℕ) → LeavesRoom room room 0
leaves_all None = refl
leaves_all (Some r) = (r, refl, omega arith)

-- nothing was put yet
pub puts-none : (table : Meaning) (all : List (List ℕ)) (s : SinkSeen) → WhereTold table (PutsSoFar all all s s)
puts-none table all s = told table.told (record { done = []; split = refl; put = Takes-nothing s.text; room = leaves_all s.room })

more_put : (all here rest : List (List ℕ)) (a b c : SinkSeen) → PutsSoFar all (here ++ rest) a b → Takes b.text c.text (concat here) × LeavesRoom b.room c.room (size_of here) → PutsSoFar all rest a c
more_put all here rest a b c p q = record {
  done = p.done ++ here;
  split = p.split ∙ sym (append_assoc p.done here rest);
  put = subst (λ (t : List ℕ). Takes a.text c.text t) (sym (concat-append p.done here)) (Takes-then a.text b.text c.text (concat p.done) (concat here) p.put q.0);
  room = subst (λ (n : ℕ). LeavesRoom a.room c.room n) (sym (size_of-append p.done here)) (LeavesRoom-chain a.room b.room c.room (size_of p.done) (size_of here) p.room q.1);
}

both_put : (here : List (List ℕ)) (b c : SinkSeen) → Takes b.text c.text (concat here) → LeavesRoom b.room c.room (size_of here) → Takes b.text c.text (concat here) × LeavesRoom b.room c.room (size_of here)
both_put here b c t r = (t, r)

-- a step was run after others
pub puts-more : (table : Meaning) (all here rest : List (List ℕ)) (a b c : SinkSeen) → WhereTold table (PutsSoFar all (here ++ rest) a b) → Puts table here b c → WhereTold table (PutsSoFar all rest a c)
puts-more table all here rest a b c p q =
    told_both table.told (more_put all here rest a b c) p (told_both table.told (both_put here b c) q.text q.room)

-- no block is to come
pub puts-all : (table : Meaning) (all : List (List ℕ)) (a b : SinkSeen) → WhereTold table (PutsSoFar all [] a b) → b.faults ≡ a.faults → Puts table all a b
puts-all table all a b p same = record {
  text = told_then table.told (λ s. subst (λ (bs : List (List ℕ)). Takes a.text b.text (concat bs)) (sym (s.split ∙ append-nil s.done)) s.put) p;
  room = told_then table.told (λ s. subst (λ (bs : List (List ℕ)). LeavesRoom a.room b.room (size_of bs)) (sym (s.split ∙ append-nil s.done)) s.room) p;
  no_fault = same;
}

-- there is room for a step where there was room for all
room_left : (all here rest : List (List ℕ)) (a b : SinkSeen) → PutsSoFar all (here ++ rest) a b → (HasRoom b.room (size_of here) → ⊥) → HasRoom a.room (size_of all) → ⊥
room_left all here rest a b p none (r, is, fits) =
    let size : size_of all ≡ size_of p.done + (size_of here + size_of rest) =
    ap size_of p.split ∙ size_of-append p.done (here ++ rest) ∙ ap (λ n. size_of p.done + n) (size_of-append here rest) in
    let (s, now, sum) = subst (λ (o : Option ℕ). LeavesRoom o b.room (size_of p.done)) is p.room in
    none (s, now, omega (arith, sum, size, fits))

between : (table : Meaning) (all here rest : List (List ℕ)) (a b c : SinkSeen) → WhereTold table (PutsSoFar all (here ++ rest) a b) → b.faults ≡ a.faults → StopsBetween table here b c → StopsBetween table all a c
between table all here rest a b c p same q = record {
  some = told_both table.told (λ s t. puts_some s.done here rest all a.text b.text c.text s.put s.split t) p q.some;
  no_fault = q.no_fault ∙ same;
}

-- a step stopped after others
pub stops-after : (table : Meaning) (all here rest : List (List ℕ)) (a b c : SinkSeen) (fault : SelectFault) → WhereTold table (PutsSoFar all (here ++ rest) a b) → b.faults ≡ a.faults → Stops table here b c fault → Stops table all a c fault
stops-after table all here rest a b c ReadFault p same q = between table all here rest a b c p same q
stops-after table all here rest a b c (Damaged at) p same q = between table all here rest a b c p same q
stops-after table all here rest a b c NoMemory p same q = between table all here rest a b c p same q
stops-after table all here rest a b c WriteFault p same q =
    let rose = q.rose in
    let later = q.later in
    record {
      rose = omega (arith, same, rose);
      later = omega (arith, same, later);
      front = told_both table.told (λ s f. puts_front s.done here rest all a.text b.text c.text s.put s.split f) p q.front;
      no_room = told_both table.told (λ s n. room_left all here rest a b s n) p q.no_room;
    }

-- the counts after one step more, where the rows are told
pub counts-more : (table means : Meaning) (settings : Settings) (left rest : List Step) (step : Step) (b c all : Counts) → left ≡ step ∷ rest → WhereTold table (counts_after settings left table b ≡ all) → means ≡ table
    → WhereTold means (c ≡ counts_after_request settings step.request means b) → WhereTold table (counts_after (settings_after settings step) rest table c ≡ all)
counts-more table means settings left rest step b c all is so_far same counted =
    let here : WhereTold table (c ≡ counts_after_request settings step.request table b) = subst (λ (m : Meaning). WhereTold m (c ≡ counts_after_request settings step.request m b)) same counted in
    told_both table.told (λ e f. ap (counts_after (settings_after settings step) rest table) f ∙ ap (λ steps. counts_after settings steps table b) (sym is) ∙ e) so_far here

-- counts that stay
pub counts_same : (table : Meaning) (c : Counts) → WhereTold table (c ≡ c)
counts_same table c = told table.told refl

-- a step that puts nothing
pub puts_nothing : (table : Meaning) (s : SinkSeen) → Puts table [] s s
puts_nothing table s = record { text = told table.told (Takes-nothing s.text); room = told table.told (leaves_all s.room); no_fault = refl }
