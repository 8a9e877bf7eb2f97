use Rattle.std.proofs.Common.{◌≡◌, ◌∙◌, Option, Some, None, refl, sym, ap}
use Rattle.ci_base.specs.declared.numbers.Seq.{Seq}
use Rattle.ci_change.specs.declared.notice.What.{What}
use Rattle.ci_change.specs.declared.notice.What.TheVariants.{Changed, Deleted}
use Rattle.ci_holdings.proofs.DeletionLemmas.{unserved-is, unserved-other}
use Rattle.ci_holdings.proofs.holdings.Holdings.deletion.Goals as goal

pub returns-in-Some-default-Deleted-clause-some : goal.returns-in-Some-default-Deleted-clause-some
returns-in-Some-default-Deleted-clause-some g c =
    let kind = c.in-Some-default-Deleted.ensures in
    rw (← c.self.view_is) (unserved-is _ _ _ c.self.invariant.1.tracks c.args.path.now c.in-Some-default-Deleted.seq _ (rw c.in-Some-default-Deleted.field-0-1-is at kind))

abbrev kind_of : Option (Seq × What) → Option What
kind_of None = None
kind_of (Some k) = Some k.1

changed_apart : (kind : Option (Seq × What)) (s : Seq) → kind_of kind ≡ Some Changed → kind ≡ Some (s, Deleted) → ⊥
changed_apart kind s changed e = let same : Some Changed ≡ Some Deleted = sym changed ∙ ap kind_of e in cc

none_apart : (kind : Option (Seq × What)) (s : Seq) → kind ≡ None → kind ≡ Some (s, Deleted) → ⊥
none_apart kind s none e = cc

pub returns-in-Some-default-Changed-clause-none : goal.returns-in-Some-default-Changed-clause-none
returns-in-Some-default-Changed-clause-none g c seq =
    rw (← c.self.view_is) (unserved-other _ _ _ c.self.invariant.1.tracks c.args.path.now seq (Some (c.in-Some-default-Changed.field-0-0, c.in-Some-default-Changed.field-0-1)) c.in-Some-default-Changed.ensures
    (λ s e. changed_apart _ s (ap Some c.in-Some-default-Changed.field-0-1-is) e))

pub returns-in-None-clause-none : goal.returns-in-None-clause-none
returns-in-None-clause-none g c seq =
    rw (← c.self.view_is) (unserved-other _ _ _ c.self.invariant.1.tracks c.args.path.now seq None c.in-None.ensures (λ s e. none_apart None s refl e))
