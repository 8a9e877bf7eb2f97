use Rattle.std.proofs.Common.{arith, rules, ap, sym, ◌∙◌, ◌++◌, drop, List, ℕ, subst}
use Rattle.std.proofs.lemmas.List.{drop-append-le}
use Rattle.ci_wire.specs.Stream.{IsBad}
use Rattle.ci_wire.proofs.StreamLemmas.{bad_more}
use Rattle.ci_wire.proofs.frames.Frames.feed.Goals as goal

pub invariant_of-self-2 : goal.invariant_of-self-2
invariant_of-self-2 c =
    let e = ap (λ b. drop c.drop_taken-self-inside.result b) c.in_ok-extend_from_slice.ensures.items
    ∙ drop-append-le c.drop_taken-self-inside.result c.drop_taken-self-inside.new.bytes.items c.args.bytes.now (omega (arith, c.drop_taken-self-inside.ensures.within))
    ∙ ap (λ b. b ++ c.args.bytes.now) c.drop_taken-self-inside.ensures.kept in
    (search rules, λ bad. let P : List ℕ → Type 0 = λ b. IsBad b in subst P (sym e) (bad_more _ c.args.bytes.now (c.self.invariant.1 bad)))
