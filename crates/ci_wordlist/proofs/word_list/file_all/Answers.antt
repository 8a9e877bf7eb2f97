use Rattle.std.proofs.Common.{All, map, subst, arith, ap, ◌∙◌}
use Rattle.std.specs.List.{zip}
use Rattle.std.proofs.lemmas.List.{take_all}
use Rattle.ci_keys.specs.Entry.{EntryLists, IsWords}
use Rattle.ci_rows_format.proofs.WriteLemmas.{all_more}
use Rattle.ci_wordlist.specs.Filing.{held, postings_of}
use Rattle.ci_wordlist.proofs.BatchLemmas.{document_held, zip_short}
use Rattle.ci_wordlist.proofs.word_list.file_all.Goals as goal

pub loop-at-preserved : goal.loop-at-preserved
loop-at-preserved c = record {
  held = λ key. document_held key c.args.docs.now c.args.entries.now c.loop-at.at _ c.index-entries-at.result c.words.result.now (held c.loop-at.index key) (held c.file_words.new.index key)
      (omega (arith, c.loop-at-test.true, c.requires)) c.loop-at-test.true c.index-entries-at.is c.words.ensures.items (c.loop-at.invariant.held key) (c.in_ok-file_words.ensures.held key);
  some = c.in_ok-file_words.ensures.some;
  order = c.in_ok-file_words.ensures.order;
  words = all_more (λ (entry : EntryLists). IsWords entry.words) c.args.entries.now c.loop-at.at c.index-entries-at.result c.loop-at-test.true c.index-entries-at.is c.loop-at.invariant.words c.words.ensures.words;
}

pub returns-clause-held : goal.returns-clause-held
returns-clause-held c = λ key.
    c.loop-at.invariant.held key ∙ ap (postings_of key) (take_all c.loop-at.at (zip c.args.docs.now (map (λ entry. entry.words) c.args.entries.now)) (zip_short c.args.docs.now c.args.entries.now c.loop-at.at c.loop-at-test.false))

pub returns-clause-words : goal.returns-clause-words
returns-clause-words c =
    subst (λ entries. All (λ (entry : EntryLists). IsWords entry.words) entries) (take_all c.loop-at.at c.args.entries.now c.loop-at-test.false) c.loop-at.invariant.words
