use Rattle.std.proofs.Common.{[], ◌∷◌, length, arith}
use Rattle.std.proofs.lemmas.List.{take_rest}
use Rattle.ci_paths.proofs.Prefixes.{starts_with-append}
use Rattle.ci_paths.proofs.prefix.is_at_or_under.Goals as goal

pub returns-then-starts_with : goal.returns-then-starts_with
returns-then-starts_with c =
    let path = c.args.path.now in
    let top = c.args.top.now in
    grind (arith, starts_with-append path top (47 ∷ []), take_rest path (length top))

pub returns-else-starts_with : goal.returns-else-starts_with
returns-else-starts_with c = grind (arith, starts_with-append c.args.path.now c.args.top.now (47 ∷ []))
