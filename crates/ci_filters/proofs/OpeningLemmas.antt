-- What is open behind an Init.
use Rattle.std.proofs.Common.{◌≡◌, ℕ, ◌≤◌, true, List, length, take, Option, Some, None, IfSome, IfNone, option_map, refl, sym, inl, inr}
use Rattle.ci_io.specs.Causes.{Rose}
use Rattle.ci_chunk.specs.Statuses.{access, s_ok, unknown_format}
use Rattle.ci_chunk.specs.declared.status.Status.{Status as Code}
use Rattle.ci_files.specs.Files.{File, contents}
use Rattle.ci_filters.specs.Contents.{Item}
use Rattle.ci_filters.specs.Formats.{Format}
use Rattle.ci_filters.specs.Reading.{Open, fresh}
use Rattle.ci_filters.specs.Talking.{Opens, Reader, opening_status}
use Rattle.ci_filters.specs.Texts.{file_bytes}

-- the file wasn't read
pub begin_fails : (format : Format) (before : Reader) (path : List ℕ) (told told_after : Option (List File))
    (faults faults_after : ℕ) (document : Option Open)
    → ◌≡◌ {A = Reader} (record { told = told; faults = faults; document = document }) before
    → format.accepts path ≡ true → Rose faults faults_after → told_after ≡ told
    → Opens format before path access (record { told = told_after; faults = faults_after; document = None })
begin_fails format before path told told_after faults faults_after document is taken rose same =
    rw (sym is) (inr (inl record { taken = taken; rose = rose; says = refl; leaves = rw same refl }))

status_is : (items : Option (List Item)) (opened : Option Open) (status : Code) → opened ≡ option_map fresh items
    → IfSome opened (λ _. status ≡ s_ok) → IfNone opened (status ≡ unknown_format) → status ≡ opening_status items
status_is None opened status is some none = rw is at none
status_is (Some items) opened status is some none = rw is at some

-- the file was read
pub begin_reads : (format : Format) (before : Reader) (path asked bytes : List ℕ) (told told_after : Option (List File))
    (faults faults_after : ℕ) (document opened : Option Open) (status : Code)
    → ◌≡◌ {A = Reader} (record { told = told; faults = faults; document = document }) before
    → format.accepts path ≡ true → asked ≡ path → length bytes ≤ file_bytes
    → IfSome told (λ files. bytes ≡ take file_bytes (contents files asked)) → told_after ≡ told → faults_after ≡ faults
    → opened ≡ option_map fresh (format.items path bytes)
    → IfSome opened (λ _. status ≡ s_ok) → IfNone opened (status ≡ unknown_format)
    → Opens format before path status (record { told = told_after; faults = faults_after; document = opened })
begin_reads format before path asked bytes told told_after faults faults_after document opened status is taken same_path bound found same_told same_faults opens some none =
    let here : IfSome told (λ files. bytes ≡ take file_bytes (contents files path)) = rw same_path at found in
    rw (sym is) (inr (inr record {
      taken = taken;
      bytes = bytes;
      bound = bound;
      found = here;
      says = status_is (format.items path bytes) opened status opens some none;
      leaves = rw (same_told, same_faults, opens) refl;
    }))
