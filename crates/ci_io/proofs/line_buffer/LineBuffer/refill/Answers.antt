use Rattle.std.proofs.Common.{arith, ◌≡◌, ◌+◌, ◌++◌, take, drop, ap, ◌∙◌, length-take, length-drop}
use Rattle.std.specs.Vec.{with_items}
use Rattle.std.proofs.lemmas.List.{with_items_is}
use Rattle.ci_io.proofs.Held.{drop-take-add}
use Rattle.ci_io.proofs.line_buffer.LineBuffer.refill.Goals as goal

pub returns-clause-ok : goal.returns-clause-ok
returns-clause-ok g c =
    let roomy = c.make_room-from.new.bytes in
    let bytes = c.take_behind.new.bytes in
    let n = c.in_ok-count.count in
    let from = c.make_room-from.result.0 in
    let to = c.make_room-from.result.1 in
    let read = c.in_ok-count.ensures in
    let made : (with_items c.self.inside.bytes roomy).items ≡ roomy = with_items_is c.self.inside.bytes roomy (omega arith) in
    let filled : (with_items (with_items c.self.inside.bytes roomy) bytes).items ≡ bytes = with_items_is (with_items c.self.inside.bytes roomy) bytes (omega arith) in
    let same : take to bytes ≡ take to roomy = read.front ∙ ap (take to) (c.deref_mut-2.ensures.value ∙ made) in
    let kept : drop from (take to roomy) ≡ c.args.self.now =
    c.make_room-from.ensures.held ∙ ap (λ l. drop c.self.inside.from (take c.self.inside.to l)) c.deref_mut.ensures.value ∙ c.self.view_is in
    record {
      part = take n (drop to bytes);
      count = simp (length-take, length-drop) (omega (arith, read.bound));
      held = ap (λ l. drop from (take (to + n) l)) filled ∙ drop-take-add roomy bytes from to n c.make_room-from.ensures.stays_ordered (omega (arith, read.bound)) same ∙ ap (λ l. l ++ take n (drop to bytes)) kept;
      left = read.bytes.0;
      ended = read.ended;
    }
