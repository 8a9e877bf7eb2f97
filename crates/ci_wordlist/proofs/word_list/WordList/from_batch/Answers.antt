use Rattle.std.proofs.Common.{ap, ◌∙◌, length, map}
use Rattle.std.specs.List.{zip}
use Rattle.ci_keys.specs.Entry.{EntryLists}
use Rattle.ci_wordlist.specs.Filing.{kept_docs, postings_of}
use Rattle.ci_wordlist.proofs.BatchLemmas.{are_keys, are_postings, as_many, stand_for}
use Rattle.ci_wordlist.proofs.word_list.WordList.from_batch.Goals as goal

pub file_all-requires : goal.file_all-requires
file_all-requires c =
    ap length (c.as_slice-2.ensures.value ∙ c.in_ok-docs.ensures ∙ ap kept_docs c.as_slice.ensures.value) ∙ as_many c.args.rows.items c.args.entries.now c.requires.entries

pub keys_of-requires : goal.keys_of-requires
keys_of-requires c =
    are_postings c.args.rows.items c.args.entries.now c.requires.rows c.in_ok-index.ensures.words c.in_ok-index.index c.in_ok-index.ensures.order c.in_ok-index.ensures.some
    (λ key. c.in_ok-index.ensures.held key ∙ ap (λ docs. postings_of key (zip docs (map (λ (entry : EntryLists). entry.words) c.args.entries.now))) (c.as_slice-2.ensures.value ∙ c.in_ok-docs.ensures ∙ ap kept_docs c.as_slice.ensures.value))

pub invariant_of-result : goal.invariant_of-result
invariant_of-result c = record {
  rows = c.requires.rows;
  keys = are_keys c.args.rows.items c.args.entries.now c.requires.rows c.in_ok-index.ensures.words c.in_ok-index.index c.in_ok-index.ensures.order c.in_ok-index.ensures.some
      (λ key. c.in_ok-index.ensures.held key ∙ ap (λ docs. postings_of key (zip docs (map (λ (entry : EntryLists). entry.words) c.args.entries.now))) (c.as_slice-2.ensures.value ∙ c.in_ok-docs.ensures ∙ ap kept_docs c.as_slice.ensures.value))
      c.in_ok-keys.keys.items c.in_ok-keys.ensures;
}

pub returns-clause-keys : goal.returns-clause-keys
returns-clause-keys c =
    stand_for c.args.rows.items c.args.entries.now c.requires.rows c.in_ok-index.ensures.words c.in_ok-index.index c.in_ok-index.ensures.order c.in_ok-index.ensures.some
    (λ key. c.in_ok-index.ensures.held key ∙ ap (λ docs. postings_of key (zip docs (map (λ (entry : EntryLists). entry.words) c.args.entries.now))) (c.as_slice-2.ensures.value ∙ c.in_ok-docs.ensures ∙ ap kept_docs c.as_slice.ensures.value))
    c.in_ok-keys.keys.items c.in_ok-keys.ensures
