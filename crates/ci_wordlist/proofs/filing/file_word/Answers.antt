use Rattle.std.proofs.Common.{◌≡◌, cond, Some, ap, subst, ◌∙◌, ◌++◌, ◌∷◌, []}
use Rattle.std.specs.BTreeMap.{get}
use Rattle.std.specs.Ordering.{is_eq}
use Rattle.ci_keys.specs.Key.{key_cmp}
use Rattle.ci_keys.specs.declared.key.Key.{Key}
use Rattle.ci_wordlist.specs.Filing.{held}
use Rattle.ci_wordlist.proofs.FilingLemmas.{word_held}
use Rattle.ci_wordlist.proofs.filing.file_word.Goals as goal

pub returns-clause-held : goal.returns-clause-held
returns-clause-held c =
    word_held c.args.index.now c.take_out-postings.new.index c.insert.new.self c.args.key.now (c.args.doc, c.args.places.now) c.push.new.self
    c.take_out-postings.ensures.others
    (λ q. subst (λ (k : Key). get key_cmp c.insert.new.self q ≡ cond (is_eq (key_cmp k q)) (Some c.push.new.self) (get key_cmp c.take_out-postings.new.index q)) c.in_ok-copy-2.ensures (c.in_ok-insert.ensures.updates.0 q))
    (c.in_ok-push.ensures.items ∙ ap (λ ps. ps ++ (c.args.doc, c.in_ok-copy.field-0) ∷ []) c.take_out-postings.ensures.held
    ∙ ap (λ places. held c.args.index.now c.args.key.now ++ (c.args.doc, places) ∷ []) c.in_ok-copy.ensures)
