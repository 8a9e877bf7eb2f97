use Rattle.std.proofs.Common.{sym, ap, subst, ◌∙◌, arith, Bool}
use Rattle.std.proofs.lemmas.List.{length-map}
use Rattle.ci_change.specs.declared.rows.Numbers.{Numbers}
use Rattle.ci_change.specs.Register.{Kept, kept_of, IsHeldBelow, Tries}
use Rattle.ci_change.specs.Rows.{numbers_at}
use Rattle.ci_change.proofs.TrialLemmas.{tried-out}
use Rattle.ci_change.proofs.CountLemmas.{Counted-tried}
use Rattle.ci_change.proofs.RegisterLemmas.{Tries-put, length-same_keys, places-given_up, places-mono}
use Rattle.ci_change.proofs.RowsLemmas.{slice_get-position}
use Rattle.ci_change.proofs.SkipLemmas.{HeldBelow-tried}
use Rattle.ci_change.proofs.register.Register.tried.Goals as goal

tries : (c : goal.After-self-1) → Tries c.args.self.now (kept_of c.put_numbers.new.rows.entries c.self.inside.order.entries c.give_up.new.ready.entries) c.args.path.now c.args.seq.0 c.args.refuses c.args.retries
tries c =
    let place = slice_get-position _ _ _ (sym c.in-Some.ensures.index) in
    Tries-put c.args.self.now _ _ _ _ _ c.args.path.now c.numbers_of.result _ c.args.seq.0 c.args.refuses c.args.retries c.self.view_is
    (c.numbers_of.ensures c.args.path.now place) c.put_numbers.ensures.paths c.tried-numbers.ensures (c.put_numbers.ensures.puts c.args.path.now place) c.give_up.ensures.entries

pub returns-in-Some : goal.returns-in-Some
returns-in-Some = tries

pub invariant_of-self : goal.invariant_of-self
invariant_of-self c =
    let same = length-same_keys _ _ c.put_numbers.ensures.paths in
    let path = c.args.path.now in
    let place = slice_get-position _ _ _ (sym c.in-Some.ensures.index) in
    let read = c.numbers_of.ensures path place ∙ ap (λ (k : Kept). numbers_at k.rows path) c.self.view_is in
    let is_out : Numbers → Bool = λ n. n.is_out in
    let out = ap is_out c.tried-numbers.ensures ∙ tried-out c.numbers_of.result c.args.seq.0 c.args.refuses ∙ ap is_out read in
    let below = subst (λ (k : Kept). IsHeldBelow k c.self.inside.from) c.self.view_is c.self.invariant.3 in (
      record { places = places-mono _ _ _ (omega arith) c.self.invariant.0.places; ordered = c.self.invariant.0.ordered },
      record { places = places-given_up _ _ _ _ c.tried-numbers.result c.args.retries c.self.invariant.1.places (omega arith) c.give_up.ensures.entries; ordered = c.give_up.ensures.ordered },
      Counted-tried c.args.self.now _ _ _ _ c.self.view_is c.self.inside.held c.len-was.result c.len.result c.self.invariant.2 c.len-was.ensures.len (c.len.ensures.len ∙ sym (length-map _ _))
          c.tried-numbers.result.is_out _ c.recounted-self-inside.ensures path c.args.seq.0 c.args.refuses c.args.retries (tries c) c.requires.own out,
      HeldBelow-tried c.args.self.now _ c.self.inside.from _ (omega arith) below path c.args.seq.0 c.args.refuses c.args.retries (tries c),
    )
