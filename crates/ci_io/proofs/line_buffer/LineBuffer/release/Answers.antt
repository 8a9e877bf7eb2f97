use Rattle.std.proofs.Common.{drop, ap, sym, ◌∙◌}
use Rattle.std.proofs.lemmas.List.{drop-drop}
use Rattle.ci_io.proofs.line_buffer.LineBuffer.release.Goals as goal

pub returns : goal.returns
returns c = sym (drop-drop c.args.count c.self.inside.from _) ∙ ap (drop c.args.count) c.self.view_is
