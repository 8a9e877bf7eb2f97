use Rattle.ci_entry.proofs.GroupedLemmas.{stands-words_of}
use Rattle.ci_entry.proofs.entry.entry_of.Goals as goal

pub returns-clause-words : goal.returns-clause-words
returns-clause-words c =
    let noise = c.args.noise.now in
    let pieces = c.args.transcript.now in
    λ key place. rw (c.new.ensures.entry, c.in_ok-words.ensures.list, c.items-pieces.ensures.pieces) (stands-words_of noise pieces key place)
