-- A notice was tried in vain: what the row of its path tells, and what was handed in.
use Rattle.std.proofs.Common.{◌≡◌, ◌==◌, ◌&&◌, ◌||◌, ◌+◌, ℕ, nat_le, nat_lt, Bool, true, false, IsTrue, List, All, bytes_eq, refl, sym, ap, ◌∙◌, arith, if◌then◌else◌}
use Rattle.std.proofs.lemmas.Bool.Decides.{nat_tests}
use Rattle.ci_base.specs.declared.numbers.Seq.{Seq}
use Rattle.ci_change.specs.declared.notice.Notice.{Notice}
use Rattle.ci_change.specs.declared.rows.Numbers.{Numbers}
use Rattle.ci_change.specs.ChangeList.{IsUpToDate}
use Rattle.ci_change.specs.Charges.{was_reached, charges_with, refusals_with}
use Rattle.ci_change.specs.HandedIn.{History}
use Rattle.ci_change.specs.Pending.{charges_of, is_refused, is_set_aside, is_spent, latest_number}
use Rattle.ci_change.specs.Register.{Kept, counted, tried, tried_once}
use Rattle.ci_change.specs.Rows.{numbers_at}
use Rattle.ci_change.proofs.ChargeLemmas.{charges_of-with, is_refused-with, or-none, reached-with}
use Rattle.ci_change.proofs.UnservedLemmas.{bytes_eq-same}

-- ---- the numbers of a path whose notice was tried

module _ {X : Type 0} (part : Numbers → X) (numbers : Numbers) (refuses : Bool) (kept : part (tried_once numbers refuses) ≡ part numbers) where
  pub tried-part : (number : ℕ) → part (tried numbers number refuses) ≡ part numbers
  tried-part number = by (nat_lt 0 number && numbers.latest == number)
    where
      by : (b : Bool) → part (if b then tried_once numbers refuses else numbers) ≡ part numbers
      by true = kept
      by false = refl

pub tried-latest : (numbers : Numbers) (number : ℕ) (refuses : Bool) → (tried numbers number refuses).latest ≡ numbers.latest
tried-latest numbers number refuses = tried-part (λ n. n.latest) numbers refuses refl number

pub tried-served : (numbers : Numbers) (number : ℕ) (refuses : Bool) → (tried numbers number refuses).served ≡ numbers.served
tried-served numbers number refuses = tried-part (λ n. n.served) numbers refuses refl number

pub tried-out : (numbers : Numbers) (number : ℕ) (refuses : Bool) → (tried numbers number refuses).is_out ≡ numbers.is_out
tried-out numbers number refuses = tried-part (λ n. n.is_out) numbers refuses refl number

attempts-by : (numbers : Numbers) (count : ℕ) (b : Bool) → numbers.attempts ≡ counted count
    → (if b then tried_once numbers false else numbers).attempts ≡ counted (if b then count + 1 else count)
attempts-by numbers count true is = omega (arith, is)
attempts-by numbers count false is = is

refused-by : (numbers : Numbers) (b : Bool) → (if b then tried_once numbers true else numbers).refused ≡ (numbers.refused || b)
refused-by numbers true = refl
refused-by numbers false = sym (or-none numbers.refused)

same-test : (latest number : ℕ) → (nat_lt 0 number && latest == number) ≡ ((nat_lt 0 number && nat_le number latest) && number == latest)
same-test latest number = grind (arith, nat_tests)

-- ---- what was handed in

-- with these charges and refusals a notice of the path was tried in vain, and its row has these numbers
pub record IsTrial (past : History) (charges refusals : List (List ℕ × Seq)) (path : List ℕ) (put : Numbers) : Type 0 where
  pub attempts : put.attempts ≡ counted (charges_of charges path (latest_number past.notices path))
  pub refused : put.refused ≡ is_refused refusals path (latest_number past.notices path)
  pub charges_elsewhere : (other : List ℕ) (number : ℕ) → bytes_eq path other ≡ false → charges_of charges other number ≡ charges_of past.charges other number
  pub refusals_elsewhere : (other : List ℕ) (number : ℕ) → bytes_eq path other ≡ false → is_refused refusals other number ≡ is_refused past.refusals other number
  pub grows : (retries : ℕ) (n : Notice) → is_set_aside retries charges refusals n ≡ false → is_set_aside retries past.charges past.refusals n ≡ false
  pub charged : All (λ c. IsTrue (was_reached past.notices c.0 c.1.0)) charges
  pub rejected : All (λ r. IsTrue (was_reached past.notices r.0 r.1.0)) refusals

never : (reached : Bool) (b : Bool) → b ≡ false → (same : Bool) → (reached && (b && same)) ≡ false
never true b is same = ap (λ c. c && same) is
never false b is same = refl

module _ (past : History) (kept : Kept) (retries : ℕ) (up : IsUpToDate past kept retries) (path : List ℕ) (seq : Seq) where
  abbrev latest : ℕ
  latest = latest_number past.notices path

  abbrev reached : Bool
  reached = was_reached past.notices path seq.0

  abbrev old : Numbers
  old = numbers_at kept.rows path

  -- the row tells that the latest notice was tried where what was handed in does
  is_tried-latest : (nat_lt 0 seq.0 && old.latest == seq.0) ≡ (reached && (bytes_eq path path && seq.0 == latest))
  is_tried-latest =
      ap (λ l. nat_lt 0 seq.0 && l == seq.0) (up.latest path) ∙ same-test latest seq.0 ∙ ap (λ b. reached && (b && seq.0 == latest)) (sym (bytes_eq-same path))

  count-if : (b : Bool) (more count : ℕ) → b ≡ false → (if b then more else count) ≡ count
  count-if b more count is = ap (λ c. if c then more else count) is

  more-spent : (limit : ℕ) (refused b : Bool) (count : ℕ) → (refused || nat_le limit (if b then count + 1 else count)) ≡ false → (refused || nat_le limit count) ≡ false
  more-spent limit true b count fails = fails
  more-spent limit false true count fails = grind (arith, nat_tests, fails)
  more-spent limit false false count fails = fails

  -- it failed
  pub failed-trial : IsTrial past (charges_with past.notices past.charges path seq) past.refusals path (tried old seq.0 false)
  failed-trial = record {
    attempts =
        ap (λ b. (if b then tried_once old false else old).attempts) is_tried-latest
        ∙ attempts-by old (charges_of past.charges path latest) (reached && (bytes_eq path path && seq.0 == latest)) (up.attempts path)
        ∙ ap counted (sym (charges_of-with past.notices past.charges path seq path latest));
    refused = tried-part (λ n. n.refused) old false (or-none old.refused) seq.0 ∙ up.refused path;
    charges_elsewhere = λ other number apart.
        charges_of-with past.notices past.charges path seq other number
        ∙ count-if _ (charges_of past.charges other number + 1) (charges_of past.charges other number) (never reached (bytes_eq path other) apart (seq.0 == number));
    refusals_elsewhere = λ other number apart. refl;
    grows = λ limit n fails.
        more-spent limit (is_refused past.refusals n.path n.seq.0) _ (charges_of past.charges n.path n.seq.0)
        (ap (λ count. is_refused past.refusals n.path n.seq.0 || nat_le limit count) (sym (charges_of-with past.notices past.charges path seq n.path n.seq.0)) ∙ fails);
    charged = reached-with past.notices past.charges path seq up.charged;
    rejected = up.rejected;
  }

  less-refused : (refused b spent : Bool) → ((refused || b) || spent) ≡ false → (refused || spent) ≡ false
  less-refused true b spent fails = fails
  less-refused false true spent fails = (let never = fails in cc)
  less-refused false false spent fails = fails

  -- its filter refused it
  pub refused-trial : IsTrial past past.charges (refusals_with past.notices past.refusals path seq) path (tried old seq.0 true)
  refused-trial = record {
    attempts = tried-part (λ n. n.attempts) old true refl seq.0 ∙ up.attempts path;
    refused =
        ap (λ b. (if b then tried_once old true else old).refused) is_tried-latest
        ∙ refused-by old (reached && (bytes_eq path path && seq.0 == latest)) ∙ ap (λ r. r || (reached && (bytes_eq path path && seq.0 == latest))) (up.refused path)
        ∙ sym (is_refused-with past.notices past.refusals path seq path latest);
    charges_elsewhere = λ other number apart. refl;
    refusals_elsewhere = λ other number apart.
        is_refused-with past.notices past.refusals path seq other number
        ∙ ap (λ b. is_refused past.refusals other number || b) (never reached (bytes_eq path other) apart (seq.0 == number)) ∙ or-none _;
    grows = λ limit n fails.
        less-refused (is_refused past.refusals n.path n.seq.0) _ (is_spent limit past.charges n)
        (ap (λ b. b || is_spent limit past.charges n) (sym (is_refused-with past.notices past.refusals path seq n.path n.seq.0)) ∙ fails);
    charged = up.charged;
    rejected = reached-with past.notices past.refusals path seq up.rejected;
  }
