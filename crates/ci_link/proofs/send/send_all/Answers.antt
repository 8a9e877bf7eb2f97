use Rattle.std.proofs.Common.{arith, ℕ, List, ◌++◌, length, take, drop, ◌+◌, ◌-◌, ◌∙◌, ap, sym, subst, length-take, length-drop}
use Rattle.std.specs.Prelude.{Option}
use Rattle.std.proofs.Math.Seq.{take-add}
use Rattle.std.proofs.lemmas.List.{take_rest}
use Rattle.std.proofs.KnownBytes.{Appends-trans}
use Rattle.std.specs.Io.KnownBytes.{Appends}
use Rattle.ci_link.proofs.send.send_all.Goals as goal

-- a front of the rest behind a front is a longer front
Appends-front : (a b c : Option (List ℕ)) (bytes : List ℕ) (done n : ℕ)
    → Appends a b (take done bytes) → Appends b c (take n (take (length bytes - done) (drop done bytes))) → Appends a c (take (done + n) bytes)
Appends-front a b c bytes done n before more =
    let rest = take_rest bytes done in
    subst (Appends a c) (sym (take-add done n bytes ∙ ap (λ l. take done bytes ++ take n l) (sym rest))) (Appends-trans a b c _ _ before more)

pub loop-done-preserved : goal.loop-done-preserved
loop-done-preserved g c = record {
  within = omega (arith, c.in_ok-done.ensures.bound, length-take {A = ℕ}, length-drop {A = ℕ});
  appended = Appends-front _ _ _ c.args.bytes.now c.loop-done.done c.in_ok-done.field-0 c.loop-done.invariant.appended c.in_ok-done.ensures.ok;
  given = c.in_ok-done.ensures.given ∙ c.loop-done.invariant.given;
  more = c.in_ok-done.ensures.more ∙ c.loop-done.invariant.more;
  count = c.in_ok-done.ensures.cause.kept ∙ c.loop-done.invariant.count;
}
