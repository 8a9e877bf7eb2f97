use Rattle.std.proofs.Common.{rules}
use Rattle.std.proofs.lemmas.Fn.{always_returns_same}
use Rattle.ci_keys.specs.Key.{key_cmp}
use Rattle.ci_keys.proofs.Beside.{StandBeside-found, StandBeside-none}
use Rattle.ci_keys.proofs.entry.places_beside.Goals as goal

pub returns-in-Ok : goal.returns-in-Ok
returns-in-Ok c =
    let by_key = c.in-Ok.ensures.position (λ word. key_cmp word.0 c.args.key.now) (always_returns_same _ _ _ (λ a r g called. search rules)) in
    rw (c.items.ensures.items, ← c.index-words-at.is) (StandBeside-found c.args.words.now c.args.key.now c.requires c.in-Ok.at c.index-words-at.result c.in-Ok.ensures.bound by_key c.index-words-at.is)

pub returns-in-Err : goal.returns-in-Err
returns-in-Err c =
    let by_key = c.in-Err.ensures.position (λ word. key_cmp word.0 c.args.key.now) (always_returns_same _ _ _ (λ a r g called. search rules)) in
    StandBeside-none c.args.words.now c.args.key.now c.requires c.in-Err.field-0 by_key
