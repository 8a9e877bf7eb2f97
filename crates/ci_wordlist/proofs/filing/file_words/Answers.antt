use Rattle.ci_wordlist.specs.Filing.{held}
use Rattle.ci_wordlist.proofs.FilingLemmas.{words_held}
use Rattle.ci_wordlist.proofs.filing.file_words.Goals as goal

pub loop-key-preserved : goal.loop-key-preserved
loop-key-preserved c = record {
  held = λ k. words_held k c.args.doc c.args.words.now c.loop-key.key-index c.loop-key-item.result (held c.args.index.now k) (held c.loop-key.index k) (held c.file_word.new.index k)
      c.loop-key-test.true c.loop-key-item.is (c.loop-key.invariant.held k) (c.in_ok-file_word.ensures.held k);
  some = c.in_ok-file_word.ensures.some;
  order = c.in_ok-file_word.ensures.order;
}
