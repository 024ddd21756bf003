-- The records of a text.
use Rattle.std.specs.Prelude.{◌≡◌, ℕ, ◌+◌, Bool, true, false, List, [], ◌∷◌, length, Option, Some, None, IsSome}
use Rattle.std.specs.Borrow.{Bor}
use Rattle.csv.specs.Reading.{records, records_from, default_config, strip_bom, source_of, reader_config, reader_trim, reader_state, Ready}
use Rattle.csv.specs.declared.parser.State.{State}
use Rattle.csv.specs.declared.reader.Reader.{Reader}
use Rattle.csv.specs.declared.reader.Trim.TheVariants as trim

-- those that the format's machine reads with no header row, after a byte order mark
abbrev pub records_of : List ℕ → List (List (List ℕ))
records_of text = records default_config (strip_bom text)

-- the bytes that a reader has still to read, where it didn't fail
abbrev pub unread : Reader (Bor (List ℕ)) → Option (List ℕ)
unread reader = source_of (λ (s : Bor (List ℕ)). Some s.now) reader

-- the records of these bytes, read from a state of the machine on
abbrev pub records_after : State → List ℕ → List (List (List ℕ))
records_after state bytes = records_from default_config (length bytes + 1) state bytes

-- the same, where the bytes are known
abbrev pub records_in : State → Option (List ℕ) → List (List (List ℕ))
records_in state None = []
records_in state (Some bytes) = records_after state bytes

-- the records that a reader has still to give
abbrev pub records_left : Reader (Bor (List ℕ)) → List (List (List ℕ))
records_left reader = records_in (reader_state reader) (unread reader)

-- A reader of bytes that reads as the definition does, and didn't fail.
pub record IsPlain (reader : Reader (Bor (List ℕ))) : Type 0 where
  pub config : reader_config reader ≡ default_config
  pub trim : reader_trim reader ≡ trim.None
  pub ready : Ready reader
  pub known : IsSome (unread reader)

-- a record was taken from the front of those that were left, or none was left
abbrev pub Takes : Bool → List (List ℕ) → List (List (List ℕ)) → List (List (List ℕ)) → Type 0
Takes true fields before after = before ≡ fields ∷ after
Takes false fields before after = before ≡ []
