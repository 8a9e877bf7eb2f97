use Rattle.std.proofs.Common.{◌+◌, ◌++◌, All, length, sym, ap, subst, ◌∙◌, arith}
use Rattle.std.specs.List.{enumerate_from, filter_map}
use Rattle.std.specs.Vec.Iter.{into_iter_items}
use Rattle.std.proofs.lemmas.List.Elements.{All-tail}
use Rattle.ci_words.specs.Words.{IsWord}
use Rattle.ci_words.proofs.CountLemmas.{length-words}
use Rattle.ci_entry.specs.Words.{kept_word}
use Rattle.ci_entry.proofs.ListLemmas.{append-cons_option}
use Rattle.ci_entry.proofs.word.add_run.Goals as goal

pub loop-word-init : goal.loop-word-init
loop-word-init c =
    let given = c.into_iter-word-iterator.ensures.into_iter_gives.0 in
    let items = given ∙ c.in_ok-word-items.ensures.words in
    record {
      made = ap (λ ws. c.args.found.now.items ++ filter_map (kept_word c.args.noise.now c.args.property.0) (enumerate_from c.args.begin ws)) items;
      count = ap (λ ws. c.args.begin + length ws) items;
      few = length-words c.args.text.now c.utf8.text;
      each = subst (All IsWord) (sym given) c.in_ok-word-items.ensures.each;
      keys = c.requires.keys;
    }

pub loop-word-preserved : goal.loop-word-preserved
loop-word-preserved c =
    let kept = kept_word c.args.noise.now c.args.property.0 in
    let rest = into_iter_items c.next.new.self in
    record {
      made = ap (λ l. l ++ filter_map kept (enumerate_from (c.loop-word.place + 1) rest)) c.in_ok-add_word.ensures.ok
          ∙ append-cons_option c.loop-word.found.items (kept (c.loop-word.place, c.in-Some.word)) (filter_map kept (enumerate_from (c.loop-word.place + 1) rest))
          ∙ sym (ap (λ ws. c.loop-word.found.items ++ filter_map kept (enumerate_from c.loop-word.place ws)) c.in-Some.ensures.steps.0)
          ∙ c.loop-word.invariant.made;
      count = omega (arith, ap length c.in-Some.ensures.steps.0, c.loop-word.invariant.count);
      few = c.loop-word.invariant.few;
      each = All-tail IsWord c.in-Some.word rest (subst (All IsWord) c.in-Some.ensures.steps.0 c.loop-word.invariant.each);
      keys = c.in_ok-add_word.ensures.keys;
    }
