use Rattle.std.proofs.Common.{◌<◌, length, refl, sym, ap, ◌∙◌, arith, drop}
use Rattle.ci_pieces.specs.Front.{quoted}
use Rattle.ci_pieces.proofs.FrontLemmas.{behind-quoted, quoted-closed}
use Rattle.ci_pieces.proofs.front.quoted.Goals as goal

pub returns : goal.returns
returns c =
    let behind = c.behind_byte-behind.result.now in
    let at = c.len_to_quote-len.result in
    let within : at < length behind = omega arith in
    let found = ap quoted (sym c.behind_byte-behind.ensures) ∙ quoted-closed behind at c.len_to_quote-len.ensures.first within in
    let rest = c.behind_byte.ensures ∙ ap (drop 1) (c.split_at.ensures.back ∙ ap (drop at) c.behind_byte-behind.ensures) in
    rw found (record { kind = refl; says = c.split_at.ensures.front; rest = behind-quoted c.args.text.now _ at rest })
