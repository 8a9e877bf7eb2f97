-- Bytes of a source that are held, and the frames in them.
use Rattle.std.proofs.Common.{◌≡◌, ◌≢◌, ℕ, ◌-◌, ◌<◌, List, [], ◌++◌, Option, length, ap, sym, ◌∙◌, arith, subst, inl, inr, ◌⊎◌, append_assoc, append-nil, length-append}
use Rattle.std.specs.Io.KnownBytes.{IsAtEnd}
use Rattle.std.proofs.KnownBytes.{Consumes-nil, Consumes-kept, Consumes-trans}
use Rattle.std.proofs.lemmas.List.{nil_from_length}
use Rattle.ci_wire.specs.Stream.{BeginsWithFrame, IsPartial}
use Rattle.ci_wire.specs.declared.frame.Frame.{Frame}
use Rattle.ci_wire.proofs.LengthLemmas.{partial_short}
use Rattle.ci_daemon.specs.Hearing.{Breaks, Falters, Feeds, FeedsSome, Hears, Lapses}
use Rattle.ci_daemon.specs.declared.ended.Ended.{Ended}
use Rattle.ci_daemon.specs.declared.ended.Ended.TheVariants.{Quiet, ReadFault, WriteFault, BadFrame, Spent, OutOfMemory}

-- nothing was taken yet
pub feeds_none : (held : List ℕ) (left : Option (List ℕ)) → Feeds held left held left
feeds_none held left = record { taken = []; consumed = Consumes-nil left; held_are = sym (append-nil held) }

-- and then some more was
pub feeds_more : (held : List ℕ) (left : Option (List ℕ)) (more : List ℕ) (mid : Option (List ℕ)) (again : List ℕ) (holds : List ℕ) (leaves : Option (List ℕ)) (number : ℕ)
    → Feeds held left more mid → again ≡ more → FeedsSome again mid holds leaves number → Feeds held left holds leaves
feeds_more held left more mid again holds leaves number p same q = record {
  taken = p.taken ++ q.taken;
  consumed = Consumes-trans left mid leaves p.taken q.taken p.consumed q.consumed;
  held_are = q.held_are ∙ ap (λ l. l ++ q.taken) (same ∙ p.held_are) ∙ append_assoc held p.taken q.taken;
}

-- a frame begins what is held
pub hears_held : (held : List ℕ) (left : Option (List ℕ)) (more : List ℕ) (mid : Option (List ℕ)) (holds : List ℕ) (frame : Frame)
    → Feeds held left more mid → BeginsWithFrame more frame holds → Hears held left holds mid frame
hears_held held left more mid holds frame p begins = record {
  taken = p.taken;
  consumed = p.consumed;
  begins = (let P : List ℕ → Type 0 = λ l. BeginsWithFrame l frame holds in subst P p.held_are begins);
}

-- what is held tells why no call was taken
pub falters_held : (held : List ℕ) (left : Option (List ℕ)) (more : List ℕ) (mid : Option (List ℕ)) (ended : Ended)
    → Feeds held left more mid → Breaks ended more mid → Falters held left mid ended
falters_held held left more mid ended p why = record {
  taken = p.taken;
  consumed = p.consumed;
  why = (let P : List ℕ → Type 0 = λ l. Breaks ended l mid in subst P p.held_are why);
}

-- the source failed, or there was no room for what it gave
pub falters_lapsed : (held : List ℕ) (left : Option (List ℕ)) (more : List ℕ) (mid leaves : Option (List ℕ)) (ended : Ended)
    → Feeds held left more mid → IsPartial more → Lapses mid leaves ended → Falters held left leaves ended
falters_lapsed held left more mid leaves ReadFault p partial lapses = record {
  taken = p.taken;
  consumed = Consumes-kept left mid leaves p.taken p.consumed lapses;
  why = (let P : List ℕ → Type 0 = λ l. IsPartial l in subst P p.held_are partial);
}
falters_lapsed held left more mid leaves OutOfMemory p partial lapses = record {
  taken = p.taken ++ lapses.0;
  consumed = Consumes-trans left mid leaves p.taken lapses.0 p.consumed lapses.1;
  why = tt;
}
falters_lapsed held left more mid leaves Quiet p partial lapses = absurd lapses
falters_lapsed held left more mid leaves WriteFault p partial lapses = absurd lapses
falters_lapsed held left more mid leaves BadFrame p partial lapses = absurd lapses
falters_lapsed held left more mid leaves Spent p partial lapses = absurd lapses

-- what is taken makes the held bytes longer
pub held_longer : (held again more : List ℕ) (left leaves : Option (List ℕ)) (number : ℕ) → IsPartial held → again ≡ held
    → FeedsSome again left more leaves number → number ≢ 0 → 131083 - length more < 131083 - length held
held_longer held again more left leaves number partial same some any =
    omega (arith, partial_short held partial, ap length same, ap length some.held_are, length-append again some.taken, some.count)

-- the source's end was told
pub falters_ended : (held : List ℕ) (left : Option (List ℕ)) (more : List ℕ) (mid : Option (List ℕ)) (again holds : List ℕ) (leaves : Option (List ℕ)) (number : ℕ) (ended : Ended)
    → Feeds held left more mid → IsPartial more → again ≡ more → FeedsSome again mid holds leaves number → number ≡ 0 → IsAtEnd leaves
    → (ended ≡ Quiet → holds ≡ []) → (ended ≡ BadFrame → holds ≢ []) → (ended ≡ Quiet) ⊎ (ended ≡ BadFrame) → Falters held left leaves ended
falters_ended held left more mid again holds leaves number ended p partial same q none over quiet within two =
    let fed = feeds_more held left more mid again holds leaves number p same q in
    let kept : holds ≡ more = q.held_are ∙ ap (λ l. again ++ l) (nil_from_length q.taken (q.count ∙ none)) ∙ append-nil again ∙ same in
    let here : IsPartial holds = (let P : List ℕ → Type 0 = λ l. IsPartial l in subst P (sym kept) partial) in
    let Q : Ended → Type 0 = λ e. Falters held left leaves e in
    elim two [
      | inl e ↦ subst Q (sym e) (falters_held held left holds leaves Quiet fed (quiet e, over))
      | inr e ↦ subst Q (sym e) (falters_held held left holds leaves BadFrame fed (inr (inr (record { some = within e; partial = here; over = over }))))
    ]
