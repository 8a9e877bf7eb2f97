use Rattle.std.proofs.Common.{◌≡◌, ℕ, suc, ◌-◌, ◌<◌, List, Err, sym, ap, ◌∙◌, arith}
use Rattle.ci_dialect.specs.declared.fault.QueryFault.TheVariants.{TooDeep}
use Rattle.ci_dialect.specs.declared.sign.Opener.{Opener}
use Rattle.ci_dialect.specs.Grammar.{behind, opened}
use Rattle.ci_dialect.specs.Left.{Left, next, place}
use Rattle.ci_query.specs.Reading.{read}
use Rattle.ci_query.proofs.parsing.+opened.Goals as goal

opened-none : (noise : List (List ℕ)) (depth : ℕ) (by : Opener) (l : Left) → depth ≡ 0 → read (opened noise depth by) l ≡ Err (TooDeep (place l))
unfolding opened
opened-none noise depth by l none = ap (λ n. read (opened noise n by) l) none

opened-some : (noise : List (List ℕ)) (depth : ℕ) (by by' : Opener) (l l' : Left) → 0 < depth → by ≡ by' → l' ≡ next l
    → read (opened noise depth by) l ≡ read (behind noise (opened noise (depth - 1)) by') l'
unfolding opened
opened-some noise depth by by' l l' some same step =
    let deeper : depth ≡ suc (depth - 1) = omega arith in
    ap (λ n. read (opened noise n by) l) deeper
    ∙ ap (λ b. read (behind noise (opened noise (depth - 1)) b) (next l)) same
    ∙ ap (λ m. read (behind noise (opened noise (depth - 1)) by') m) (sym step)

pub returns-then-depth-eq0 : goal.returns-then-depth-eq0
returns-then-depth-eq0 t c other =
    opened-none c.args.noise.now c.args.depth c.args.by c.args.reader.now (omega arith)
    ∙ ap (λ at. Err (TooDeep at)) (sym c.place-at.ensures)

pub returns-in-Parenthesis : goal.returns-in-Parenthesis
returns-in-Parenthesis t c =
    let some : 0 < c.args.depth = omega arith in
    rw (opened-some c.args.noise.now c.args.depth c.args.by _ c.args.reader.now _ some c.in-Parenthesis.is c.step.ensures) c.query.ensures

pub returns-in-Not : goal.returns-in-Not
returns-in-Not t c =
    let some : 0 < c.args.depth = omega arith in
    rw (opened-some c.args.noise.now c.args.depth c.args.by _ c.args.reader.now _ some c.in-Not.is c.step.ensures) c.negation.ensures
