use Rattle.std.proofs.Common.{◌≡◌, length, slice_get}
use Rattle.std.specs.Prelude.{IfSome}
use Rattle.ci_daemon.specs.Questions.{AreAsked}
use Rattle.ci_daemon.specs.Rounds.{refusals}
use Rattle.ci_daemon.proofs.answering.open_document.Given as goal

-- the filters before this place don't take the document
abbrev pub invariant-loop-place : goal.invariant-loop-place
invariant-loop-place g l = record {
  refused : AreAsked (λ at talk. IfSome (slice_get l.fn.filters at) (λ f. (goal.Filter-dyn g (f.vtable, f.value)).talks f.value talk)) (refusals l.call l.place)
      (λ at talk. IfSome (slice_get l.filters at) (λ f. (goal.Filter-dyn g (f.vtable, f.value)).talks f.value talk));
  count : length l.filters ≡ length l.fn.filters;
}
