-- What was handed in to a change list.
use Rattle.std.specs.Prelude.{ℕ, Bool, ◌==◌, ◌||◌, not, bytes_eq, List, [], ◌∷◌, ◌++◌, filter, length, if◌then◌else◌}
use Rattle.std.specs.List.{list_any}
use Rattle.ci_base.specs.declared.numbers.Seq.{Seq}
use Rattle.ci_change.specs.declared.batch.Batch.{Batch}
use Rattle.ci_change.specs.declared.notice.Notice.{Notice}
use Rattle.ci_change.specs.declared.notice.What.{What}

-- the notice with these parts
abbrev pub notice_of : List ℕ → Seq → What → Notice
notice_of path seq what = record { path = path; seq = seq; what = what }

-- the notices, the served numbers of paths, the charges and the refusals, each in the order in which they came
pub record History : Type 0 where
  pub notices : List Notice
  pub served : List (List ℕ × Seq)
  pub charges : List (List ℕ × Seq)
  pub refusals : List (List ℕ × Seq)

-- such a history, and in how many steps it came
pub record Remembered : Type 0 where
  pub history : History
  pub steps : ℕ

-- such a history, with the batches that are out, and how often a notice is to be tried
pub record HandedIn : Type 0 where
  pub notices : List Notice
  pub served : List (List ℕ × Seq)
  pub charges : List (List ℕ × Seq)
  pub refusals : List (List ℕ × Seq)
  pub out : List Batch
  pub retries : ℕ

abbrev pub no_history : History
no_history = record { notices = []; served = []; charges = []; refusals = [] }

-- nothing yet
abbrev pub nothing : ℕ → HandedIn
nothing retries = record {
  notices = [];
  served = [];
  charges = [];
  refusals = [];
  out = [];
  retries = retries;
}

-- one notice more
abbrev pub with_notice : HandedIn → Notice → HandedIn
with_notice handed notice = record handed { notices = handed.notices ++ notice ∷ [] }

-- one served number more
abbrev pub with_served : HandedIn → List ℕ → Seq → HandedIn
with_served handed path seq = record handed { served = handed.served ++ (path, seq) ∷ [] }

-- a batch more that is out, unless it is empty
abbrev pub with_batch : HandedIn → Batch → HandedIn
with_batch handed batch =
    record handed { out = if length batch.docs == 0 then handed.out else handed.out ++ batch ∷ [] }

-- the batches with a number
abbrev pub numbered : ℕ → List Batch → List Batch
numbered number batches = filter (λ b. b.number == number) batches

-- the batch with the number is out no more
abbrev pub without_batch : HandedIn → ℕ → HandedIn
without_batch handed number =
    record handed { out = filter (λ b. not (b.number == number)) handed.out }

abbrev pub was_noted : List Notice → List ℕ → Bool
was_noted notices path = list_any (λ n. bytes_eq n.path path) notices

abbrev pub was_served : List (List ℕ × Seq) → List ℕ → Bool
was_served served path = list_any (λ s. bytes_eq s.0 path) served

-- the path was noted or served
abbrev pub is_known : HandedIn → List ℕ → Bool
is_known handed path = was_noted handed.notices path || was_served handed.served path
