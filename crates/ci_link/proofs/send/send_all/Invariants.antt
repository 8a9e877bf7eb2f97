use Rattle.std.proofs.Common.{◌≡◌, ◌-◌, ◌≤◌, length, take}
use Rattle.std.specs.Io.KnownBytes.{Appends}
use Rattle.ci_link.proofs.send.send_all.Given as goal

-- the front of `done` bytes was sent, and no send failed
abbrev pub invariant-loop-done : goal.invariant-loop-done
invariant-loop-done g l = record {
  within : l.done ≤ length l.bytes;
  appended : Appends (g.L.Link.sent l.initial.link) (g.L.Link.sent l.link) (take l.done l.bytes);
  given : g.L.Link.given l.link ≡ g.L.Link.given l.initial.link;
  more : g.L.Link.more l.link ≡ g.L.Link.more l.initial.link;
  count : g.L.Link.faults l.link ≡ g.L.Link.faults l.initial.link;
}

abbrev pub decreases-loop-done : goal.decreases-loop-done
decreases-loop-done g l = length l.bytes - l.done
