use Rattle.std.proofs.Common.{refl, ap, sym, subst, ◌∙◌, ◌<◌, arith, true}
use Rattle.std.proofs.lemmas.List.{length-map}
use Rattle.ci_change.specs.declared.rows.Numbers.{Numbers}
use Rattle.ci_change.specs.HandedIn.{notice_of}
use Rattle.ci_change.specs.Register.{Kept, kept_of, IsHeldBelow, Notes}
use Rattle.ci_change.specs.Rows.{numbers_at}
use Rattle.ci_change.proofs.RegisterLemmas.{All-from_notices, Stays-from_keeps, OnErr-always, length-same_keys, places-mono, places-renewed, Notes-renewed}
use Rattle.ci_change.proofs.CountLemmas.{Counted-noted, Counted-stays}
use Rattle.ci_change.proofs.SkipLemmas.{HeldBelow-noted, HeldBelow-stays}
use Rattle.ci_change.proofs.register.Register.note.Goals as goal

pub returns-in_err-place-clause-err : goal.returns-in_err-place-clause-err
returns-in_err-place-clause-err c =
    OnErr-always _ (Stays-from_keeps c.args.self.now _ _ _ _ _ _ c.self.view_is c.place_of.ensures.keeps c.self.invariant.0.places c.self.invariant.1.places refl refl)

pub renew-requires-clause-newest : goal.renew-requires-clause-newest
renew-requires-clause-newest c = All-from_notices c.self.inside.rows.entries _ _ c.args.seq.0 (ap (λ (k : Kept). k.unserved) c.self.view_is) c.requires.newest

pub renew-requires-clause-newest_ready : goal.renew-requires-clause-newest_ready
renew-requires-clause-newest_ready c = All-from_notices c.self.inside.rows.entries _ _ c.args.seq.0 (ap (λ (k : Kept). k.ready) c.self.view_is) c.requires.newest_ready

pub invariant_of-self : goal.invariant_of-self
invariant_of-self c =
    let grows = c.place_of.ensures.keeps.grows in
    let stays = Stays-from_keeps _ _ _ _ _ _ _ refl c.place_of.ensures.keeps c.self.invariant.0.places c.self.invariant.1.places refl refl in (
      record { places = places-mono _ _ _ grows c.self.invariant.0.places; ordered = c.self.invariant.0.ordered },
      record { places = places-mono _ _ _ grows c.self.invariant.1.places; ordered = c.self.invariant.1.ordered },
      Counted-stays _ _ c.self.inside.held stays c.self.invariant.2,
      HeldBelow-stays _ _ c.self.inside.from _ (omega arith) c.self.invariant.3 stays,
    )

pub invariant_of-self-in_err-renew : goal.invariant_of-self-in_err-renew
invariant_of-self-in_err-renew c =
    let grows = c.place_of.ensures.keeps.grows in
    let same = c.in_err-renew.ensures in
    let stays = Stays-from_keeps _ _ _ _ _ _ _ refl c.place_of.ensures.keeps c.self.invariant.0.places c.self.invariant.1.places same.order_err same.ready_err in (
      record { places = rw same.order_err (places-mono _ _ _ grows c.self.invariant.0.places); ordered = c.renew.ensures.order_ordered },
      record { places = rw same.ready_err (places-mono _ _ _ grows c.self.invariant.1.places); ordered = c.renew.ensures.ready_ordered },
      Counted-stays _ _ c.self.inside.held stays c.self.invariant.2,
      HeldBelow-stays _ _ c.self.inside.from _ (omega arith) c.self.invariant.3 stays,
    )

pub renew-requires-clause-latest : goal.renew-requires-clause-latest
renew-requires-clause-latest c some =
    let path = c.args.path.now in
    let read = c.numbers_of-numbers.ensures path c.in_ok-place.ensures.place ∙ c.place_of.ensures.keeps.numbers path ∙ ap (λ (k : Kept). numbers_at k.rows path) c.self.view_is in
    subst (λ (n : Numbers). n.latest < c.args.seq.0) (sym read) (c.requires.latest some)

pub returns-in_err-renew-clause-err : goal.returns-in_err-renew-clause-err
returns-in_err-renew-clause-err c =
    OnErr-always _ (Stays-from_keeps c.args.self.now _ _ _ _ _ _ c.self.view_is c.place_of.ensures.keeps c.self.invariant.0.places c.self.invariant.1.places c.in_err-renew.ensures.order_err c.in_err-renew.ensures.ready_err)

notes : (c : goal.After-put_numbers) → Notes c.args.self.now (kept_of c.put_numbers.new.rows.entries c.renew.new.order.entries c.renew.new.ready.entries)
    (notice_of c.args.path.now c.args.seq c.args.what) c.args.joins
notes c =
    let place = c.in_ok-place.ensures.place in
    Notes-renewed c.args.self.now _ _ _ _ _ _ _ c.args.path.now c.numbers_of-numbers.result c.self.view_is c.place_of.ensures.keeps c.self.invariant.0.places c.self.invariant.1.places
    (c.numbers_of-numbers.ensures c.args.path.now place) c.put_numbers.ensures.paths
    _ c.args.joins place c.in_ok-renew.ensures.order c.in_ok-renew.ensures.ready (c.put_numbers.ensures.puts c.args.path.now place)

pub invariant_of-self-2 : goal.invariant_of-self-2
invariant_of-self-2 c =
    let same = length-same_keys _ _ c.put_numbers.ensures.paths in
    let grows = c.place_of.ensures.keeps.grows in
    let place = c.in_ok-place.ensures.within in
    let had = c.numbers_of-numbers.result in
    let path = c.args.path.now in
    let read = c.numbers_of-numbers.ensures path c.in_ok-place.ensures.place ∙ c.place_of.ensures.keeps.numbers path ∙ ap (λ (k : Kept). numbers_at k.rows path) c.self.view_is in
    let out = ap (λ (n : Numbers). n.is_out) read in
    let lower = c.min-self-inside.ensures in
    let below = subst (λ (k : Kept). IsHeldBelow k c.self.inside.from) c.self.view_is c.self.invariant.3 in (
      record { places = places-renewed _ _ _ _ had _ true c.self.invariant.0.places (omega arith) (omega arith) c.in_ok-renew.ensures.order; ordered = c.renew.ensures.order_ordered },
      record { places = places-renewed _ _ _ _ had _ c.args.joins c.self.invariant.1.places (omega arith) (omega arith) c.in_ok-renew.ensures.ready; ordered = c.renew.ensures.ready_ordered },
      Counted-noted c.args.self.now _ _ _ _ c.self.view_is c.self.inside.held c.len-was.result c.len.result c.self.invariant.2 c.len-was.ensures.len (c.len.ensures.len ∙ sym (length-map _ _)) had.is_out _
          c.recounted-self-inside.ensures _ c.args.joins (notes c) c.requires.own out,
      HeldBelow-noted c.args.self.now _ c.self.inside.from _ (omega (arith, lower)) below (notice_of path c.args.seq c.args.what) c.args.joins (notes c) (omega (arith, lower)),
    )

pub returns-clause-ok : goal.returns-clause-ok
returns-clause-ok = notes
