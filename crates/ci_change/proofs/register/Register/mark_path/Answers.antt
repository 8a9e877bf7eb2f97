use Rattle.std.proofs.Common.{sym, ap, ◌∙◌, arith, subst, bytes_eq}
use Rattle.std.proofs.lemmas.List.{length-map}
use Rattle.ci_change.specs.declared.rows.Numbers.{Numbers}
use Rattle.ci_change.specs.Register.{Kept, kept_of, IsOwn, Marks}
use Rattle.ci_change.proofs.FindLemmas.{count-found}
use Rattle.ci_change.proofs.MarkLemmas.{Marks-put, Counted-marked}
use Rattle.ci_change.proofs.RegisterLemmas.{length-same_keys, map-same_keys, places-mono}
use Rattle.ci_change.proofs.RowsLemmas.{slice_get-position}
use Rattle.ci_change.proofs.SkipLemmas.{HeldBelow-marked}
use Rattle.ci_change.proofs.register.Register.mark_path.Goals as goal

marks : (c : goal.After-put_numbers) → Marks (kept_of c.self.inside.rows.entries c.self.inside.order.entries c.self.inside.ready.entries)
    (kept_of c.put_numbers.new.rows.entries c.self.inside.order.entries c.self.inside.ready.entries) (λ other. bytes_eq c.args.path.now other) c.args.is_out
marks c =
    let place = slice_get-position _ _ _ (sym c.in-Some.ensures.index) in
    let read = c.numbers_of-numbers.ensures c.args.path.now place in
    let put : Numbers → Numbers = λ n. record n { is_out = c.args.is_out } in
    Marks-put _ _ c.args.path.now _ c.args.is_out (c.put_numbers.ensures.puts c.args.path.now place) (ap put read)
    (map-same_keys _ _ _ c.put_numbers.ensures.paths) (map-same_keys _ _ _ c.put_numbers.ensures.paths)

pub invariant_of-self : goal.invariant_of-self
invariant_of-self c =
    let place = slice_get-position _ _ _ (sym c.in-Some.ensures.index) in
    let read = c.numbers_of-numbers.ensures c.args.path.now place in
    let same = length-same_keys _ _ c.put_numbers.ensures.paths in
    let rows = c.self.inside.rows.entries in
    let own = subst (λ (k : Kept). IsOwn k c.args.path.now) (sym c.self.view_is) c.requires.own in
    let found = count-found rows c.numbers_of-numbers.result.latest c.self.inside.ready.entries c.contains_key-has.result c.self.invariant.1.ordered c.contains_key-has.ensures in (
      record { places = places-mono _ _ _ (omega arith) c.self.invariant.0.places; ordered = c.self.invariant.0.ordered },
      record { places = places-mono _ _ _ (omega arith) c.self.invariant.1.places; ordered = c.self.invariant.1.ordered },
      Counted-marked _ _ c.args.path.now c.args.is_out c.self.inside.held c.len-all.result _ c.contains_key-has.result (marks c) own c.self.invariant.2 (rw (sym read) found) (c.len-all.ensures.len ∙ sym (length-map _ _)) (rw (sym read) c.moved-self-inside.ensures),
      HeldBelow-marked _ _ c.args.path.now c.args.is_out c.self.inside.from _ c.contains_key-has.result (marks c) own c.self.invariant.3 (rw (sym read) found) (rw (sym read) c.lowered-self-inside.ensures),
    )

pub returns-in-Some : goal.returns-in-Some
returns-in-Some c =
    let new = kept_of c.put_numbers.new.rows.entries c.self.inside.order.entries c.self.inside.ready.entries in
    subst (λ (k : Kept). Marks k new (λ other. bytes_eq c.args.path.now other) c.args.is_out) c.self.view_is (marks c)
