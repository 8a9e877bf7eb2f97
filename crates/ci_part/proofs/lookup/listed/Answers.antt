use Rattle.std.proofs.Common.{◌≡◌, List, ap, get_or, rules, subst, sym, ◌∙◌}
use Rattle.std.proofs.lemmas.Fn.{always_returns_same}
use Rattle.std.proofs.lemmas.Result.{IfOk-weaker}
use Rattle.ci_keys.specs.Key.{key_cmp}
use Rattle.ci_segment.specs.Segment.{Item}
use Rattle.ci_part.specs.View.{AreBeside}
use Rattle.ci_part.proofs.BesideLemmas.{beside_at, beside_none}
use Rattle.ci_part.proofs.lookup.listed.Goals as goal
use Rattle.ci_wordlist.specs.Filing.{Posting}

pub returns-in-Ok : goal.returns-in-Ok
returns-in-Ok c =
    let by_key = c.in-Ok.ensures.position (λ item. key_cmp item.0 c.args.key.now) (always_returns_same _ _ _ (λ a r g called. search rules)) in
    let found = beside_at c.args.keys.now c.args.key.now c.requires c.in-Ok.at c.index-keys-at.result c.in-Ok.ensures.bound by_key c.index-keys-at.is in
    let item = c.index-keys-at.result in
    let here = ap (λ (i : Item). i.1) c.index-keys-at.is in
    IfOk-weaker c.copy.result (λ (ps : List Posting). ps ≡ (get_or c.args.keys.now c.in-Ok.at item).1) (λ (ps : List Posting). AreBeside c.args.key.now c.args.keys.now ps)
    (λ ps is. subst (AreBeside c.args.key.now c.args.keys.now) (here ∙ sym is) found) c.copy.ensures

pub returns-in-Err : goal.returns-in-Err
returns-in-Err c =
    let by_key = c.in-Err.ensures.position (λ item. key_cmp item.0 c.args.key.now) (always_returns_same _ _ _ (λ a r g called. search rules)) in
    subst (AreBeside c.args.key.now c.args.keys.now) (sym c.no_postings.ensures) (beside_none c.args.keys.now c.args.key.now c.requires c.in-Err.field-0 by_key)
