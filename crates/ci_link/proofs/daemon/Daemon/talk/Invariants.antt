use Rattle.std.proofs.Common.{take}
use Rattle.ci_link.proofs.TalkLemmas.{SoFar}
use Rattle.ci_link.proofs.daemon.Daemon.talk.Given as goal

-- the documents before this place were read
abbrev pub invariant-loop-place : goal.invariant-loop-place
invariant-loop-place g l = SoFar l.fn.self l.self (take l.place l.batch.docs) l.outcomes
