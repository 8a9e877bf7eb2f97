-- Which notices are pending, which are set aside as unfiltered, and which a batch may take.
use Rattle.std.specs.Prelude.{◌==◌, ℕ, Bool, true, false, ◌&&◌, ◌||◌, not, max, nat_le, nat_lt, List, [], ◌∷◌, bytes_eq, count_by, filter, map, IsPermutation}
use Rattle.std.specs.Cmp.Lexicographic.{slice_cmp}
use Rattle.std.specs.List.{list_any}
use Rattle.std.specs.List.Sorted.{IsSortedByKey}
use Rattle.std.specs.Ordering.{nat_cmp}
use Rattle.ci_base.specs.declared.numbers.Seq.{Seq}
use Rattle.ci_change.specs.declared.batch.Batch.{Batch}
use Rattle.ci_change.specs.declared.notice.Notice.{Notice}
use Rattle.ci_change.specs.declared.notice.What.{What}
use Rattle.ci_change.specs.declared.notice.What.TheVariants.{Changed, Deleted}
use Rattle.ci_change.specs.HandedIn.{HandedIn}

-- the greatest of some numbers, or 0
abbrev pub greatest : List ℕ → ℕ
greatest [] = 0
greatest (n ∷ ns) = max n (greatest ns)

-- the number of a path's latest notice, which is its greatest since numbers ascend, or 0
abbrev pub latest_number : List Notice → List ℕ → ℕ
latest_number notices path =
    greatest (map (λ n. n.seq.0) (filter (λ n. bytes_eq n.path path) notices))

-- a path's served number: the greatest that was handed in for it, or 0
abbrev pub served_number : List (List ℕ × Seq) → List ℕ → ℕ
served_number served path =
    greatest (map (λ s. s.1.0) (filter (λ s. bytes_eq s.0 path) served))

-- a notice is unserved where it is the latest of its path, and above the path's served number
abbrev pub is_unserved : List Notice → List (List ℕ × Seq) → Notice → Bool
is_unserved notices served n =
    (n.seq.0 == latest_number notices n.path) && nat_lt (served_number served n.path) n.seq.0

-- the unserved ones of some notices, under these served numbers
abbrev pub unserved_of : List Notice → List (List ℕ × Seq) → List Notice
unserved_of notices served = filter (is_unserved notices served) notices

abbrev pub unserved : HandedIn → List Notice
unserved handed = unserved_of handed.notices handed.served

-- how many charges name a path and a number
abbrev pub charges_of : List (List ℕ × Seq) → List ℕ → ℕ → ℕ
charges_of charges path number = count_by (λ c. bytes_eq c.0 path && c.1.0 == number) charges

-- how often a notice was tried and failed
abbrev pub attempts : List (List ℕ × Seq) → Notice → ℕ
attempts charges n = charges_of charges n.path n.seq.0

-- it failed as often as it is to be tried
abbrev pub is_spent : ℕ → List (List ℕ × Seq) → Notice → Bool
is_spent retries charges n = nat_le retries (attempts charges n)

-- some refusal names a path and a number
abbrev pub is_refused : List (List ℕ × Seq) → List ℕ → ℕ → Bool
is_refused refusals path number = list_any (λ r. bytes_eq r.0 path && r.1.0 == number) refusals

-- its filter refused it, or it failed as often as it is to be tried
abbrev pub is_set_aside : ℕ → List (List ℕ × Seq) → List (List ℕ × Seq) → Notice → Bool
is_set_aside retries charges refusals n =
    is_refused refusals n.path n.seq.0 || is_spent retries charges n

-- the unserved notices that are still to be tried, in the order in which they came
abbrev pub pending : HandedIn → List Notice
pending handed =
    filter (λ n. not (is_set_aside handed.retries handed.charges handed.refusals n)) (unserved handed)

-- the unserved notices that are to be tried no more, and are set aside
abbrev pub unfiltered : HandedIn → List Notice
unfiltered handed =
    filter (is_set_aside handed.retries handed.charges handed.refusals) (unserved handed)

-- the notices with a number
abbrev pub with_number : ℕ → List Notice → List Notice
with_number number notices = filter (λ n. n.seq.0 == number) notices

-- the notices of a path
abbrev pub with_path : List ℕ → List Notice → List Notice
with_path path notices = filter (λ n. bytes_eq n.path path) notices

-- one of the notices is of the path
abbrev pub has_notice_of : List ℕ → List Notice → Bool
has_notice_of path notices = list_any (λ n. bytes_eq n.path path) notices

-- notices by their numbers and kinds
abbrev pub kinds : List Notice → List (Seq × What)
kinds notices = map (λ n. (n.seq, n.what)) notices

abbrev pub is_changed : What → Bool
is_changed Changed = true
is_changed Deleted = false

-- its document was changed
abbrev pub is_change : Notice → Bool
is_change n = is_changed n.what

-- one of the documents has the path
abbrev pub has_path : List (List ℕ × Seq) → List ℕ → Bool
has_path docs path = list_any (λ d. bytes_eq d.0 path) docs

-- a batch that is out has the path
abbrev pub is_out : List Batch → List ℕ → Bool
is_out out path = list_any (λ b. has_path b.docs path) out

-- a pending Changed notice is free where no batch that is out has its path
abbrev pub is_free : List Batch → Notice → Bool
is_free out n = is_changed n.what && not (is_out out n.path)

-- the free notices, in the order in which they came
abbrev pub free : HandedIn → List Notice
free handed = filter (is_free handed.out) (pending handed)

-- the documents of some notices, each with the number of its notice
abbrev pub docs_of : List Notice → List (List ℕ × Seq)
docs_of notices = map (λ n. (n.path, n.seq)) notices

abbrev pub paths_of : List Notice → List (List ℕ)
paths_of notices = map (λ n. n.path) notices

-- the same paths, in byte order
pub record ListsPaths (paths list : List (List ℕ)) : Type 0 where
  pub same : IsPermutation paths list
  pub order : IsSortedByKey (λ p. p) (slice_cmp nat_cmp) list

-- the same notices, in byte order of their paths
pub record ListsByPath (notices list : List Notice) : Type 0 where
  pub same : IsPermutation notices list
  pub order : IsSortedByKey (λ n. n.path) (slice_cmp nat_cmp) list
