use Rattle.std.proofs.Common.{[], ◌∷◌, ◌++◌, ℕ, ◌∙◌, refl, sym, subst, arith, length-append}
use Rattle.ci_daemon.specs.Replying.{IsWithin}
use Rattle.ci_daemon.proofs.ServingLemmas.{served_behind, served_unbegun, serves_more, serves_none}
use Rattle.ci_daemon.proofs.serve.serve_filters.Goals as goal

pub returns-in-Err-clause-served : goal.returns-in-Err-clause-served
returns-in-Err-clause-served g c = served_unbegun _ _ _

pub loop-answered-init : goal.loop-answered-init
loop-answered-init g c = record {
  rounds = [];
  serves = rw c.in-Ok.ensures (serves_none _ _ _);
  number = refl;
  count = refl;
  within = tt;
  read = refl;
  wrote = refl;
}

pub returns-in-Err-serve_call-clause-served : goal.returns-in-Err-serve_call-clause-served
returns-in-Err-serve_call-clause-served g c =
    served_behind _ _ _ _ _ _ _ _ _ _ _ c.loop-answered.invariant.count c.in-Err-serve_call.ensures.not_spent c.loop-answered.invariant.serves c.in-Err-serve_call.ensures.err

pub loop-answered-preserved : goal.loop-answered-preserved
loop-answered-preserved g c =
    let P : ℕ → Type 0 = λ n. IsWithin n c.in-Ok-serve_call.next in
    record {
      rounds = c.loop-answered.invariant.rounds ++ c.in-Ok-serve_call.ensures.ok.round ∷ [];
      serves = serves_more _ _ _ _ _ _ _ _ c.loop-answered.invariant.rounds c.loop-answered.invariant.count c.loop-answered.invariant.serves c.in-Ok-serve_call.ensures.ok;
      number = omega (arith, c.loop-answered.invariant.number, length-append c.loop-answered.invariant.rounds (c.in-Ok-serve_call.ensures.ok.round ∷ []));
      count = c.serve_call.auto.filters ∙ c.loop-answered.invariant.count;
      within = subst P (sym c.serve_call.auto.filters) c.in-Ok-serve_call.ensures.within;
      read = c.in-Ok-serve_call.ensures.read ∙ c.loop-answered.invariant.read;
      wrote = c.in-Ok-serve_call.ensures.wrote ∙ c.loop-answered.invariant.wrote;
    }
