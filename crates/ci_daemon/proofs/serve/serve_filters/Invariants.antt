use Rattle.std.proofs.Common.{◌≡◌, List, length, slice_get}
use Rattle.std.specs.Prelude.{IfSome}
use Rattle.ci_daemon.specs.Replying.{IsWithin}
use Rattle.ci_daemon.specs.Rounds.{Round}
use Rattle.ci_daemon.specs.Serving.{Serves, begun}
use Rattle.ci_daemon.proofs.serve.serve_filters.Given as goal

-- so many calls were answered, and nothing failed
abbrev pub invariant-loop-answered : goal.invariant-loop-answered
invariant-loop-answered g l = record {
  rounds : List Round;
  serves : Serves (length l.fn.filters) (λ at talk. IfSome (slice_get l.fn.filters at) (λ f. (goal.Filter-dyn g (f.vtable, f.value)).talks f.value talk))
      (begun (g.S.Source.left l.fn.source) (g.K.Sink.written l.fn.sink)) rounds
      (record { held = l.hearing; document = l.document; left = g.S.Source.left l.source; written = g.K.Sink.written l.sink })
      (λ at talk. IfSome (slice_get l.filters at) (λ f. (goal.Filter-dyn g (f.vtable, f.value)).talks f.value talk));
  number : length rounds ≡ l._answered;
  count : length l.filters ≡ length l.fn.filters;
  within : IsWithin (length l.filters) l.document;
  read : g.S.Source.faults l.source ≡ g.S.Source.faults l.fn.source;
  wrote : g.K.Sink.faults l.sink ≡ g.K.Sink.faults l.fn.sink;
}
