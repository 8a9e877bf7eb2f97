-- The conversations of a filter.
use Rattle.std.specs.Prelude.{◌≡◌, ℕ, ◌≤◌, ◌⊎◌, true, false, List, Option, Some, None, IfSome, length, take, option_map}
use Rattle.ci_io.specs.Causes.{Rose}
use Rattle.ci_chunk.specs.Statuses.{s_ok, access, end_of_chunks, unknown_format}
use Rattle.ci_chunk.specs.declared.status.Status.{Status as Code}
use Rattle.ci_chunk.specs.declared.talk.Answer.{Answer}
use Rattle.ci_chunk.specs.declared.talk.Answer.TheVariants as said
use Rattle.ci_chunk.specs.declared.talk.Call.{Call}
use Rattle.ci_chunk.specs.declared.talk.Call.TheVariants.{Init, GetChunk, GetText, GetValue}
use Rattle.ci_files.specs.Files.{File, contents}
use Rattle.ci_filters.specs.Contents.{Item}
use Rattle.ci_filters.specs.Formats.{Format}
use Rattle.ci_filters.specs.Reading.{Open, fresh, say_chunk, say_text, say_value}
use Rattle.ci_filters.specs.Texts.{file_bytes}

-- a filter: the files, where they are told, how many reads failed, and the document that is open
pub record Reader : Type 0 where
  pub told : Option (List File)
  pub faults : ℕ
  pub document : Option Open

-- the path isn't one that the filter takes
pub record Passes (format : Format) (before : Reader) (path : List ℕ) (status : Code) (after : Reader) : Type 0 where
  pub not_taken : format.accepts path ≡ false
  pub says : status ≡ unknown_format
  pub leaves : after ≡ record before { document = None }

-- the file wasn't read: its files failed once more
pub record Fails (format : Format) (before : Reader) (path : List ℕ) (status : Code) (after : Reader) : Type 0 where
  pub taken : format.accepts path ≡ true
  pub rose : Rose before.faults after.faults
  pub says : status ≡ access
  pub leaves : after ≡ record { told = before.told; faults = after.faults; document = None }

-- what Init answers, by the chunks of the document, and what is open then
abbrev pub opening_status : Option (List Item) → Code
opening_status (Some items) = s_ok
opening_status None = unknown_format

-- the file was read, and this is the document that it has
pub record Reads (format : Format) (before : Reader) (path : List ℕ) (status : Code) (after : Reader) : Type 0 where
  pub taken : format.accepts path ≡ true
  pub bytes : List ℕ
  pub bound : length bytes ≤ file_bytes
  pub found : IfSome before.told (λ files. bytes ≡ take file_bytes (contents files path))
  pub says : status ≡ opening_status (format.items path bytes)
  pub leaves : after ≡ record before { document = option_map fresh (format.items path bytes) }

-- Init: one of the three
abbrev pub Opens : Format → Reader → List ℕ → Code → Reader → Type 0
Opens format before path status after =
    Passes format before path status after ⊎ Fails format before path status after ⊎ Reads format before path status after

-- where no document is open there are no chunks
abbrev pub say_open : (Open → Answer × Open) → Option Open → Answer × Option Open
say_open say None = (said.Status end_of_chunks, None)
say_open say (Some document) = let it = say document in (it.0, Some it.1)

-- what is said of the document, and what is left of it
abbrev pub Tells : (Open → Answer × Open) → Reader → Answer → Reader → Type 0
Tells say before answer after = let it = say_open say before.document in
    (answer ≡ it.0) × (after ≡ record before { document = it.1 })

-- the answer to a call
abbrev pub Answers : Format → Reader → Call → Answer → Reader → Type 0
Answers format before (Init flags path) answer after =
    (status : Code) × (answer ≡ said.Status status) × Opens format before path status after
Answers format before GetChunk answer after = Tells say_chunk before answer after
Answers format before (GetText max) answer after = Tells (say_text max) before answer after
Answers format before GetValue answer after = Tells say_value before answer after

-- a call was answered; or nothing was said, for want of memory, and nothing has changed
abbrev pub IsAnswered : Format → Reader → Call → Option Answer → Reader → Type 0
IsAnswered format before call (Some answer) after = Answers format before call answer after
IsAnswered format before call None after = after ≡ before
