use Rattle.std.proofs.Common.{arith, All, subst}
use Rattle.std.specs.Vec.Iter.{into_iter_items}
use Rattle.std.proofs.lemmas.Grind.{common_steps}
use Rattle.std.proofs.lemmas.List.Elements.{All-tail}
use Rattle.ci_keys.specs.Places.{IsPlaces}
use Rattle.ci_entry.specs.Words.{Word}
use Rattle.ci_entry.proofs.group.finish_all.Goals as goal

pub loop-word-preserved : goal.loop-word-preserved
loop-word-preserved c = record {
  made = grind (arith, common_steps);
  places = All-tail (λ (word : Word). IsPlaces word.1) c.in-Some.word (into_iter_items c.next.new.self) (subst (All (λ (word : Word). IsPlaces word.1)) c.in-Some.ensures.steps.0 c.loop-word.invariant.places);
}
