-- What was handed in, as calls change it.
use Rattle.std.proofs.Common.{◌≡◌, ◌==◌, ◌<◌, ℕ, not, List, All, filter, ap, sym, subst}
use Rattle.ci_change.specs.declared.batch.Batch.{Batch}
use Rattle.ci_change.specs.declared.notice.Notice.{Notice}
use Rattle.ci_change.specs.HandedIn.{History, HandedIn, without_batch}

pub given_back : (handed : HandedIn) (past : History) (out after : List Batch) (retries number : ℕ) → record { notices = past.notices; served = past.served; charges = past.charges; refusals = past.refusals; out = out; retries = retries } ≡ handed
    → after ≡ filter (λ b. not (b.number == number)) out → record { notices = past.notices; served = past.served; charges = past.charges; refusals = past.refusals; out = after; retries = retries } ≡ without_batch handed number
given_back handed past out after retries number is kept =
    let as_out : List Batch → HandedIn = λ bs. record { notices = past.notices; served = past.served; charges = past.charges; refusals = past.refusals; out = bs; retries = retries } in
    subst (λ (h : HandedIn). as_out after ≡ without_batch h number) is (ap as_out kept)

-- what is asked of the notices that callers see is so of those of the past
pub newest_of_past : (handed : HandedIn) (past : History) (out : List Batch) (retries number : ℕ) → record { notices = past.notices; served = past.served; charges = past.charges; refusals = past.refusals; out = out; retries = retries } ≡ handed
    → All (λ n. n.seq.0 < number) handed.notices → All (λ n. n.seq.0 < number) past.notices
newest_of_past handed past out retries number is all = subst (λ (ns : List Notice). All (λ n. n.seq.0 < number) ns) (sym (ap (λ (h : HandedIn). h.notices) is)) all
