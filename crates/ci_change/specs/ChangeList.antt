-- What a change list keeps true of its register.
use Rattle.std.specs.Prelude.{◌≡◌, ◌<◌, ◌≤◌, ◌||◌, ℕ, IsTrue, List, not, All, AllPairs, filter, length}
use Rattle.ci_change.specs.declared.batch.Batch.{Batch}
use Rattle.ci_change.specs.Charges.{was_reached}
use Rattle.ci_change.specs.HandedIn.{History, was_noted, was_served}
use Rattle.ci_change.specs.Pending.{charges_of, is_change, is_refused, is_set_aside, latest_number, served_number, unserved_of, has_path, is_out}
use Rattle.ci_change.specs.Register.{Kept, counted}
use Rattle.ci_change.specs.Rows.{has_row, numbers_at}

-- the register has the numbers of what was handed in, and its unserved notices; the ready ones are
-- those of changed documents that are pending
pub record IsUpToDate (past : History) (kept : Kept) (retries : ℕ) : Type 0 where
  pub latest : (path : List ℕ) →
      (numbers_at kept.rows path).latest ≡ latest_number past.notices path
  pub served : (path : List ℕ) →
      (numbers_at kept.rows path).served ≡ served_number past.served path
  pub attempts : (path : List ℕ) → (numbers_at kept.rows path).attempts
      ≡ counted (charges_of past.charges path (latest_number past.notices path))
  pub refused : (path : List ℕ) → (numbers_at kept.rows path).refused
      ≡ is_refused past.refusals path (latest_number past.notices path)
  pub known : (path : List ℕ) →
      IsTrue (was_noted past.notices path || was_served past.served path) →
      IsTrue (has_row kept.rows path)
  pub unserved : kept.unserved ≡ unserved_of past.notices past.served
  pub ready : kept.ready ≡ filter is_change
      (filter (λ n. not (is_set_aside retries past.charges past.refusals n))
      (unserved_of past.notices past.served))
  pub ascending : AllPairs (λ a b. a.seq.0 < b.seq.0) past.notices
  pub charged : All (λ c. IsTrue (was_reached past.notices c.0 c.1.0)) past.charges
  pub rejected : All (λ r. IsTrue (was_reached past.notices r.0 r.1.0)) past.refusals

-- the rows tell which paths are in a batch that is out, and each is in one of them at most
pub record IsMarked (kept : Kept) (out : List Batch) : Type 0 where
  pub marks : (path : List ℕ) → (numbers_at kept.rows path).is_out ≡ is_out out path
  pub apart : (path : List ℕ) → length (filter (λ b. has_path b.docs path) out) ≤ 1
