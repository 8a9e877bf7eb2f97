use Rattle.ci_play.proofs.play.play.Goals as goal

pub returns-in-Answer-clause-ok : goal.returns-in-Answer-clause-ok
returns-in-Answer-clause-ok g c = rw c.in-Answer.is c.play_answer.ensures.ok

pub returns-in-Answer-clause-refused : goal.returns-in-Answer-clause-refused
returns-in-Answer-clause-refused g c = rw c.in-Answer.is c.play_answer.ensures.refused

pub returns-in-BatchDied-clause-ok : goal.returns-in-BatchDied-clause-ok
returns-in-BatchDied-clause-ok g c = rw c.in-BatchDied.is c.play_death.ensures.plays

pub returns-in-ReturnBatch-clause-ok : goal.returns-in-ReturnBatch-clause-ok
returns-in-ReturnBatch-clause-ok g c = rw c.in-ReturnBatch.is c.play_return.ensures.plays
