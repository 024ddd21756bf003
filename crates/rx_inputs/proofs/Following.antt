-- Files that are read one after the other.
use Rattle.std.proofs.Common.{◌≡◌, ◌≤◌, ℕ, ◌+◌, Bool, List, [], ◌∷◌, ◌++◌, Option, subst, arith}
use Rattle.rx_value.specs.declared.shapes.Schema.{Schema as TheSchema}
use Rattle.rx_outside.specs.Files.{most_taken, TakesUpTo}
use Rattle.rx_outside.proofs.Chains.{TakesUpTo-chain, TakesUpTo-within}
use Rattle.rx_index.specs.declared.indexed.Indexed.{Indexed}
use Rattle.rx_words.specs.Words.{SelectFiles}
use Rattle.rx_inputs.specs.declared.inputs.Input.TheVariants.{Schema, Data, Script}
use Rattle.rx_inputs.specs.Refusals.{limit_of}
use Rattle.rx_inputs.specs.Checked.{Checked, AcceptsAs}
use Rattle.rx_inputs.specs.Checked.Checked.{Accepts, Refuses, Untold}
use Rattle.rx_inputs.specs.Files.{schema_of_file, table_of_file, statistics_by}
use Rattle.rx_inputs.specs.Reads.{File, file, unless_refused, statistics_files, script_file, files_after, files_behind, files_read, AreSure, most_bytes}

-- ---- how many bytes

most_bytes-append : (told : List ℕ → Option (List ℕ)) (xs ys : List File) → most_bytes told (xs ++ ys) ≡ most_bytes told xs + most_bytes told ys
most_bytes-append told [] ys = omega arith
most_bytes-append told (x ∷ xs) ys = let h = most_bytes-append told xs ys in omega (arith, h)

module _ {A : Type 0} (told : List ℕ → Option (List ℕ)) where
  -- what is read after a check is no more than all that may be
  no_more : (checked : Checked A) (files : List File) (next : A → List File) → ((a : A) → most_bytes told (next a) ≤ most_bytes told files) → most_bytes told (unless_refused checked files next) ≤ most_bytes told files
  no_more (Accepts a) files next h = h a
  no_more (Refuses refusal) files next h = omega arith
  no_more Untold files next h = omega arith

  -- and where it gives a value, no less than what is read after that
  no_less : (checked : Checked A) (a : A) (files : List File) (next : A → List File) → AcceptsAs checked a → most_bytes told (next a) ≤ most_bytes told files → most_bytes told (next a) ≤ most_bytes told (unless_refused checked files next)
  no_less (Accepts b) a files next e h = subst (λ x. most_bytes told (next x) ≤ most_bytes told (next b)) e (omega arith)
  no_less (Refuses refusal) a files next e h = absurd e
  no_less Untold a files next e h = h

after_all : (told : List ℕ → Option (List ℕ)) (names : SelectFiles) (t : Indexed) → most_bytes told (files_after told names t) ≤ most_bytes told (statistics_files names.statistics ++ script_file names)
after_all told names t =
    let fs = statistics_files names.statistics in
    let rest = unless_refused (statistics_by told names.statistics t) (script_file names) (λ s. script_file names) in
    omega (arith, most_bytes-append told fs rest, most_bytes-append told fs (script_file names), no_more told (statistics_by told names.statistics t) (script_file names) (λ s. script_file names) (λ s. omega arith))

behind_all : (told : List ℕ → Option (List ℕ)) (names : SelectFiles) (schema : TheSchema) → most_bytes told (files_behind told names schema) ≤ most_bytes told (file Data names.rows ∷ statistics_files names.statistics ++ script_file names)
behind_all told names schema =
    let h = no_more told (table_of_file schema (told names.rows)) (statistics_files names.statistics ++ script_file names) (files_after told names) (after_all told names) in
    omega (arith, h)

-- the schema was accepted, and the files behind it were read
pub taken_behind : (told then : List ℕ → Option (List ℕ)) (names : SelectFiles) (schema : TheSchema) (a b c : ℕ) → then ≡ told → AcceptsAs (schema_of_file (told names.schema)) schema → TakesUpTo (most_taken (told names.schema) (limit_of Schema)) a b → TakesUpTo (most_bytes then (files_behind then names schema)) b c → TakesUpTo (most_bytes told (files_read told names)) a c
taken_behind told then names schema a b c stays e h more =
    let g = subst (λ (t : List ℕ → Option (List ℕ)). TakesUpTo (most_bytes t (files_behind t names schema)) b c) stays more in
    let few = no_less told (schema_of_file (told names.schema)) schema (file Data names.rows ∷ statistics_files names.statistics ++ script_file names) (files_behind told names) e (behind_all told names schema) in
    TakesUpTo-within _ _ a c (omega (arith, few)) (TakesUpTo-chain _ _ a b c h g)

-- the table was made, and the files behind the data were read
pub taken_after : (told then : List ℕ → Option (List ℕ)) (names : SelectFiles) (schema : TheSchema) (t : Indexed) (a b c : ℕ) → then ≡ told → AcceptsAs (table_of_file schema (told names.rows)) t → TakesUpTo (most_taken (told names.rows) (limit_of Data)) a b → TakesUpTo (most_bytes then (files_after then names t)) b c → TakesUpTo (most_bytes told (files_behind told names schema)) a c
taken_after told then names schema t a b c stays e h more =
    let g = subst (λ (f : List ℕ → Option (List ℕ)). TakesUpTo (most_bytes f (files_after f names t)) b c) stays more in
    let few = no_less told (table_of_file schema (told names.rows)) t (statistics_files names.statistics ++ script_file names) (files_after told names) e (after_all told names t) in
    TakesUpTo-within _ _ a c (omega (arith, few)) (TakesUpTo-chain _ _ a b c h g)

-- the statistics were accepted, and the script was read
pub taken_script : (told then : List ℕ → Option (List ℕ)) (names : SelectFiles) (t : Indexed) (s : List (List ℕ)) (a b c : ℕ) → then ≡ told → AcceptsAs (statistics_by told names.statistics t) s → TakesUpTo (most_bytes told (statistics_files names.statistics)) a b → TakesUpTo (most_taken (then names.script) (limit_of Script)) b c → TakesUpTo (most_bytes told (files_after told names t)) a c
taken_script told then names t s a b c stays e h more =
    let g = subst (λ (f : List ℕ → Option (List ℕ)). TakesUpTo (most_taken (f names.script) (limit_of Script)) b c) stays more in
    let fs = statistics_files names.statistics in
    let checked = statistics_by told names.statistics t in
    let few = no_less told checked s (script_file names) (λ s. script_file names) e (omega arith) in
    TakesUpTo-within _ _ a c (omega (arith, few, most_bytes-append told fs (unless_refused checked (script_file names) (λ s. script_file names)))) (TakesUpTo-chain _ _ a b c h g)

-- the statistics alone were read
pub taken_statistics : (told : List ℕ → Option (List ℕ)) (names : SelectFiles) (t : Indexed) (a b : ℕ) → TakesUpTo (most_bytes told (statistics_files names.statistics)) a b → TakesUpTo (most_bytes told (files_after told names t)) a b
taken_statistics told names t a b h =
    let fs = statistics_files names.statistics in
    TakesUpTo-within _ _ a b (omega (arith, most_bytes-append told fs (unless_refused (statistics_by told names.statistics t) (script_file names) (λ s. script_file names)))) h

-- ---- what can't fail

AreSure-parts : (sure : List ℕ → Bool) (xs ys : List File) → AreSure sure (xs ++ ys) → AreSure sure xs × AreSure sure ys
AreSure-parts sure [] ys h = (tt, h)
AreSure-parts sure (x ∷ xs) ys h = let p = AreSure-parts sure xs ys h.1 in ((h.0, p.0), p.1)

AreSure-append : (sure : List ℕ → Bool) (xs ys : List File) → AreSure sure xs → AreSure sure ys → AreSure sure (xs ++ ys)
AreSure-append sure [] ys h g = g
AreSure-append sure (x ∷ xs) ys h g = (h.0, AreSure-append sure xs ys h.1 g)

module _ {A : Type 0} (sure : List ℕ → Bool) where
  sure_next : (checked : Checked A) (a : A) (files : List File) (next : A → List File) → AcceptsAs checked a → (AreSure sure files → AreSure sure (next a)) → AreSure sure (unless_refused checked files next) → AreSure sure (next a)
  sure_next (Accepts b) a files next e f h = subst (λ x. AreSure sure (next x)) e h
  sure_next (Refuses refusal) a files next e f h = absurd e
  sure_next Untold a files next e f h = f h

  sure_all : (checked : Checked A) (files : List File) (next : A → List File) → ((a : A) → AreSure sure files → AreSure sure (next a)) → AreSure sure files → AreSure sure (unless_refused checked files next)
  sure_all (Accepts a) files next f h = f a h
  sure_all (Refuses refusal) files next f h = tt
  sure_all Untold files next f h = h

sure_after : (told : List ℕ → Option (List ℕ)) (sure : List ℕ → Bool) (names : SelectFiles) (t : Indexed) → AreSure sure (statistics_files names.statistics ++ script_file names) → AreSure sure (files_after told names t)
sure_after told sure names t h =
    let p = AreSure-parts sure (statistics_files names.statistics) (script_file names) h in
    AreSure-append sure (statistics_files names.statistics) _ p.0 (sure_all sure (statistics_by told names.statistics t) (script_file names) (λ s. script_file names) (λ s g. g) p.1)

-- where the files that are read can't fail, those behind the schema can't
pub sure_behind : (told : List ℕ → Option (List ℕ)) (sure : List ℕ → Bool) (names : SelectFiles) (schema : TheSchema) → AcceptsAs (schema_of_file (told names.schema)) schema → AreSure sure (files_read told names) → AreSure sure (files_behind told names schema)
sure_behind told sure names schema e h =
    sure_next sure (schema_of_file (told names.schema)) schema (file Data names.rows ∷ statistics_files names.statistics ++ script_file names) (files_behind told names) e
    (λ g. (g.0, sure_all sure (table_of_file schema (told names.rows)) (statistics_files names.statistics ++ script_file names) (files_after told names) (λ t. sure_after told sure names t) g.1)) h.1

-- nor those behind the data
pub sure_rest : (told : List ℕ → Option (List ℕ)) (sure : List ℕ → Bool) (names : SelectFiles) (schema : TheSchema) (t : Indexed) → AcceptsAs (table_of_file schema (told names.rows)) t → AreSure sure (files_behind told names schema) → AreSure sure (files_after told names t)
sure_rest told sure names schema t e h =
    sure_next sure (table_of_file schema (told names.rows)) t (statistics_files names.statistics ++ script_file names) (files_after told names) e (sure_after told sure names t) h.1

-- nor the statistics
pub sure_statistics : (told : List ℕ → Option (List ℕ)) (sure : List ℕ → Bool) (names : SelectFiles) (t : Indexed) → AreSure sure (files_after told names t) → AreSure sure (statistics_files names.statistics)
sure_statistics told sure names t h = (AreSure-parts sure (statistics_files names.statistics) _ h).0

-- nor the script
pub sure_script : (told : List ℕ → Option (List ℕ)) (sure : List ℕ → Bool) (names : SelectFiles) (t : Indexed) (s : List (List ℕ)) → AcceptsAs (statistics_by told names.statistics t) s → AreSure sure (files_after told names t) → AreSure sure (script_file names)
sure_script told sure names t s e h =
    sure_next sure (statistics_by told names.statistics t) s (script_file names) (λ s. script_file names) e (λ g. g) (AreSure-parts sure (statistics_files names.statistics) _ h).1
