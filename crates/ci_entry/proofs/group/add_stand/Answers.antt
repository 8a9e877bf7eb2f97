use Rattle.std.proofs.Common.{◌-◌, ◌++◌, ◌∷◌, [], ap, ◌∙◌, arith, sym}
use Rattle.std.specs.Ordering.{is_eq}
use Rattle.ci_keys.specs.Key.{key_cmp}
use Rattle.ci_entry.proofs.GroupLemmas.{words-joined, words-begun}
use Rattle.ci_entry.proofs.ListLemmas.{last_read}
use Rattle.ci_entry.proofs.group.add_stand.Goals as goal
use Rattle.ci_entry.proofs.group.add_stand.Goals.{else-count-gt0-via-then-count-gt0+else-has_key, else-count-gt0-via-else-count-gt0}

pub returns-in_ok-add : goal.returns-in_ok-add
returns-in_ok-add c all same =
    let list = c.args.words.now.items in
    let n = c.len-count.result - 1 in
    let d = c.index_mut-last.result.now in
    let last = last_read list n n d c.index.result.now (omega arith) (omega arith) c.index.ensures in
    let key = ap (λ (word : _). is_eq (key_cmp word.0 c.args.key)) last ∙ sym c.if-has_key.ensures in
    words-joined all list n d c.add.new.self (c.args.key, c.args.place) same (omega arith) key
    (c.in_ok-add.ensures ∙ ap (λ word. (word.0, word.1 ++ c.args.place ∷ [])) c.index_mut-last.ensures.value)

pub returns-in_ok-push : goal.returns-in_ok-push
returns-in_ok-push c all same =
    rw (c.in_ok-push.ensures.items, c.in_ok-begin.ensures)
    (words-begun all c.args.words.now.items (c.args.key, c.args.place) same (λ n d last. elim c.else-count-gt0.branch [
      | else-count-gt0-via-then-count-gt0+else-has_key w ↦
          rw (last_read c.args.words.now.items n (c.len-count.result - 1) d w.index.result.now last (omega arith) w.index.ensures) (sym w.if-has_key.ensures)
      | else-count-gt0-via-else-count-gt0 w ↦ absurd (omega arith)
    ]))
