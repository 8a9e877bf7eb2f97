-- What `read_rows` says of the grammar.
use Rattle.std.proofs.Common.{◌≡◌, ℕ, List, Result, Ok, Err, sym, ap, ◌∙◌, IfOk, IsErrOf}
use Rattle.std.specs.Global.{Vec}
use Rattle.ci_front.proofs.FrontLemmas.{AreBytes}
use Rattle.ci_rows_format.specs.declared.fault.RowsFault.{RowsFault}
use Rattle.ci_rows_format.specs.declared.fault.RowsFault.TheVariants as faults
use Rattle.ci_rows_format.specs.declared.row.Row.{Row}
use Rattle.ci_rows_format.specs.Reading.{Gives, rows_of}
use Rattle.ci_rows_format.specs.Rows.{IsRows, rows_spelling}
use Rattle.ci_rows_format.proofs.RowLemmas.{rows_take, rows_again}

pub read_ok : (bytes : List ℕ) (r : Result (Vec Row) RowsFault) → AreBytes bytes → Gives (λ rows. rows.items) r (rows_of bytes)
    → IfOk r (λ rows. IsRows rows.items × (rows_spelling rows.items ≡ bytes))
read_ok bytes (Ok rows) fits gives = rows_take bytes rows.items fits gives
read_ok bytes (Err e) fits gives = tt

pub read_bad : (bytes : List ℕ) (r : Result (Vec Row) RowsFault) → Gives (λ rows. rows.items) r (rows_of bytes)
    → IsErrOf r faults.BadRows → (rows : List Row) → IsRows rows → rows_spelling rows ≡ bytes → ⊥
read_bad bytes (Ok rows) gives bad others is e = absurd cc
read_bad bytes (Err faults.BadRows) gives bad rows is e = absurd (let some = sym (rows_again rows is) ∙ ap rows_of e ∙ gives in cc)
read_bad bytes (Err faults.OutOfMemory) gives bad rows is e = absurd cc
