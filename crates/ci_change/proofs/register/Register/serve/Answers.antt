use Rattle.std.proofs.Common.{refl, ap, sym, subst, ◌∙◌, arith}
use Rattle.std.proofs.lemmas.List.{length-map}
use Rattle.ci_change.specs.declared.rows.Numbers.{Numbers}
use Rattle.ci_change.specs.Register.{Kept, kept_of, IsHeldBelow, Serves}
use Rattle.ci_change.specs.Rows.{numbers_at}
use Rattle.ci_change.proofs.CountLemmas.{Counted-served, Counted-stays}
use Rattle.ci_change.proofs.RegisterLemmas.{Stays-from_keeps, OnErr-always, length-same_keys, places-mono, places-retired, Serves-retired}
use Rattle.ci_change.proofs.SkipLemmas.{HeldBelow-served, HeldBelow-stays}
use Rattle.ci_change.proofs.register.Register.serve.Goals as goal

pub invariant_of-self : goal.invariant_of-self
invariant_of-self c =
    let grows = c.place_of.ensures.keeps.grows in
    let stays = Stays-from_keeps _ _ _ _ _ _ _ refl c.place_of.ensures.keeps c.self.invariant.0.places c.self.invariant.1.places refl refl in (
      record { places = places-mono _ _ _ grows c.self.invariant.0.places; ordered = c.self.invariant.0.ordered },
      record { places = places-mono _ _ _ grows c.self.invariant.1.places; ordered = c.self.invariant.1.ordered },
      Counted-stays _ _ c.self.inside.held stays c.self.invariant.2,
      HeldBelow-stays _ _ c.self.inside.from _ (omega arith) c.self.invariant.3 stays,
    )

pub returns-in_err-place-clause-err : goal.returns-in_err-place-clause-err
returns-in_err-place-clause-err c =
    OnErr-always _ (Stays-from_keeps c.args.self.now _ _ _ _ _ _ c.self.view_is c.place_of.ensures.keeps c.self.invariant.0.places c.self.invariant.1.places refl refl)

serves : (c : goal.After-put_numbers) → Serves c.args.self.now (kept_of c.put_numbers.new.rows.entries c.retire.new.order.entries c.retire-2.new.order.entries) c.args.path.now c.args.seq.0
serves c =
    let place = c.in_ok-place.ensures.place in
    Serves-retired c.args.self.now _ _ _ _ _ _ _ c.args.path.now c.numbers_of-numbers.result c.self.view_is c.place_of.ensures.keeps c.self.invariant.0.places c.self.invariant.1.places
    (c.numbers_of-numbers.ensures c.args.path.now place) c.put_numbers.ensures.paths
    _ c.args.seq.0 c.max-served.ensures c.retire.ensures.entries c.retire-2.ensures.entries (c.put_numbers.ensures.puts c.args.path.now place)

pub invariant_of-self-2 : goal.invariant_of-self-2
invariant_of-self-2 c =
    let same = length-same_keys _ _ c.put_numbers.ensures.paths in
    let grows = c.place_of.ensures.keeps.grows in
    let path = c.args.path.now in
    let read = c.numbers_of-numbers.ensures path c.in_ok-place.ensures.place ∙ c.place_of.ensures.keeps.numbers path ∙ ap (λ (k : Kept). numbers_at k.rows path) c.self.view_is in
    let out = ap (λ (n : Numbers). n.is_out) read in
    let below = subst (λ (k : Kept). IsHeldBelow k c.self.inside.from) c.self.view_is c.self.invariant.3 in (
      record { places = places-retired _ _ _ _ _ _ c.self.invariant.0.places (omega arith) c.retire.ensures.entries; ordered = c.retire.ensures.ordered },
      record { places = places-retired _ _ _ _ _ _ c.self.invariant.1.places (omega arith) c.retire-2.ensures.entries; ordered = c.retire-2.ensures.ordered },
      Counted-served c.args.self.now _ _ _ _ c.self.view_is c.self.inside.held c.len-was.result c.len.result c.self.invariant.2 c.len-was.ensures.len (c.len.ensures.len ∙ sym (length-map _ _))
          c.numbers_of-numbers.result.is_out _ c.recounted-self-inside.ensures path c.args.seq.0 (serves c) c.requires.own out,
      HeldBelow-served c.args.self.now _ c.self.inside.from _ (omega arith) below path c.args.seq.0 (serves c),
    )

pub returns-clause-ok : goal.returns-clause-ok
returns-clause-ok = serves
