use Rattle.std.proofs.Common.{◌≡◌, get_or, ap, sym, rules}
use Rattle.std.specs.Option.{option_map}
use Rattle.std.proofs.lemmas.List.{get_or_default}
use Rattle.ci_base.specs.declared.numbers.PropNo.{PropNo}
use Rattle.ci_base.specs.declared.value.Value.{Value}
use Rattle.ci_entry.specs.Values.{first_value, valued, values_of}
use Rattle.ci_entry.proofs.ListLemmas.{filter_map-taken, filter_map-passed}
use Rattle.ci_entry.proofs.ValueLemmas.{IsValues-values_of}
use Rattle.ci_entry.proofs.value.values_of.Goals as goal
use Rattle.ci_entry.proofs.value.values_of.Goals.{in-Some+in_ok-copy+in_ok-push, in_default}

pub loop-number-preserved : goal.loop-number-preserved
loop-number-preserved c =
    let within = c.loop-number-test.true in
    let at = c.loop-number.number-index in
    let n = get_or valued at 0 in
    let read = get_or_default valued at 0 n within in
    let values_of_property = first_value c.args.pieces.now in
    elim c.match-first_value.branch [
      | in-Some+in_ok-copy+in_ok-push w ↦
          rw (w.values-is, w.in_ok-push.ensures.items, w.in_ok-copy.ensures, c.loop-number.invariant)
          (sym (filter_map-taken values_of_property valued at n within read (record { 0 = n }, w.in-Some.value.now) (ap (option_map {U = PropNo × Value} (λ v. (record { 0 = n }, v))) w.in-Some.ensures)))
      | in_default w ↦
          rw (w.values-is, c.loop-number.invariant)
          (sym (filter_map-passed values_of_property valued at n within read (ap (option_map {U = PropNo × Value} (λ v. (record { 0 = n }, v))) w.in_default.ensures)))
    ]

pub returns-clause-values : goal.returns-clause-values
returns-clause-values c =
    let all : c.loop-number.values.items ≡ values_of c.args.pieces.now = search rules in
    rw all (IsValues-values_of c.args.pieces.now)
