use Rattle.std.proofs.Common.{append_assoc}
use Rattle.ci_wire.specs.Frame.{chunk_bytes}
use Rattle.ci_wire.proofs.encode.push_chunk.Goals as goal

pub returns-clause-bytes : goal.returns-clause-bytes
unfolding chunk_bytes
returns-clause-bytes c =
    rw (
      c.in_ok-push_u32-5.ensures,
      c.in_ok-push_u32-4.ensures,
      c.in_ok-push_u32-3.ensures,
      c.in_ok-push_u16.ensures,
      c.in_ok-push_u32-2.ensures,
      c.in_ok-push-2.ensures.items,
      c.byte_of_state.ensures,
      c.in_ok-push.ensures.items,
      c.byte_of_break.ensures,
      c.in_ok-push_u32.ensures,
    ) (simp append_assoc)
