-- What the catalogue keeps of beginning a batch.
use Rattle.std.proofs.Common.{[], ◌≡◌, ◌∙◌, ⊎_elim, inl, inr, ℕ, length, Option, Some, None, Ok, Err, refl, ap, sym, subst, append-nil}
use Rattle.ci_change.specs.declared.batch.Batch.{Batch}
use Rattle.ci_journal.specs.declared.event.Happened.{Happened}
use Rattle.ci_journal.specs.declared.event.Happened.TheVariants.{Begun}
use Rattle.ci_journal.specs.Folds.{numbered_paths}
use Rattle.ci_journal.specs.Tells.{event}
use Rattle.ci_book.specs.declared.core_fault.CoreFault.{CoreFault}
use Rattle.ci_book.specs.declared.refusal.Refusal.{Refusal}
use Rattle.ci_book.specs.declared.core_fault.CoreFault.TheVariants.{OutOfMemory}
use Rattle.ci_holdings.specs.Batches.{Begins, HaltsBeginning, IsNextBatch, RefusesBeginning, Starved}
use Rattle.ci_core.specs.Catalog.{IsCatalog, IsCaused}
use Rattle.ci_holdings.specs.Core.{Core}
use Rattle.ci_core.specs.Fixed.{KeepsFixed, PrintsAfter}
use Rattle.ci_book.specs.Refusal.{tried_at}
use Rattle.ci_holdings.specs.Refusals.{Halts}
use Rattle.ci_holdings.specs.Steps.{Makes}
use Rattle.ci_core.proofs.CatalogLemmas.{IsCatalog-step, IsMade, KeepsFixed-step, Refuses-step, caused-at, no_ends, noted-now, prints-stays}

-- want of memory before it was known what would come
caused-starved : (old made : Core) {refusal : Option Refusal} {by : ℕ} → Starved old made
    → IsCaused (record made { refusal = refusal }) (record { by = by; at = length old.sheet.events; fault = OutOfMemory; tried = None })
caused-starved old made {refusal} {by} starved =
    caused-at (record made { refusal = refusal }) old.sheet.events [] by (length old.sheet.events) OutOfMemory None (starved.stays.events ∙ sym (append-nil old.sheet.events)) refl no_ends

module _ (old made : Core) (earlier : Option Refusal) (by max : ℕ) (unrefused : earlier ≡ None) where
  abbrev held : Core
  held = record old { refusal = earlier }

  -- the refusal that is kept
  abbrev refused_as : CoreFault → Option Happened → Option Refusal
  refused_as fault tried = Some (record { by = by; at = length old.sheet.events; fault = fault; tried = tried })

  step-begun : (batch : Batch) → IsNextBatch old.terms old.sheet.events max batch → Makes old made (event by (Begun batch)) → IsMade {T = Batch} old made earlier (event by (Begun batch)) (Ok batch) earlier
  step-begun batch next makes = record {
    unrefused = unrefused;
    may = record { next = next.number; some = next.some; most = max; first = next.docs };
    ok = makes;
    err = tt;
    kept = refl;
    told = tt;
  }

  step-refused : (batch : Batch) (fault : CoreFault) (tried : Option Happened) → IsNextBatch old.terms old.sheet.events max batch → tried ≡ tried_at fault (Begun batch) → Halts old made (event by (Begun batch)) fault
      → IsMade {T = Batch} old made earlier (event by (Begun batch)) (Err fault) (refused_as fault tried)
  step-refused batch fault tried next told halts = record {
    unrefused = unrefused;
    may = record { next = next.number; some = next.some; most = max; first = next.docs };
    ok = tt;
    err = halts;
    kept = tt;
    told = ap (λ t. refused_as fault t) told;
  }

  -- ---- nothing was free, or a batch is out

  pub IsCatalog-begun : (batch : Option Batch) → Begins old made by max batch → IsCatalog held → IsCatalog (record made { refusal = earlier })
  IsCatalog-begun None begins catalog =
      let noted = noted-now held catalog.numbered unrefused in
      rw unrefused (record { numbered = begins.1.numbered ∙ noted ∙ sym (ap (λ t. numbered_paths t made.sheet.events) begins.1.told.terms ∙ ap (numbered_paths old.terms) begins.1.stays.events); cause = tt })
  IsCatalog-begun (Some batch) begins catalog =
      IsCatalog-step {T = Batch} old made earlier (event by (Begun batch)) (Ok batch) earlier (step-begun batch begins.0 begins.1) catalog

  pub KeepsFixed-begun : (batch : Option Batch) → Begins old made by max batch → KeepsFixed held (record made { refusal = earlier })
  KeepsFixed-begun None begins fixed has =
      let prints = subst (PrintsAfter fixed old.sheet) unrefused has.prints in
      rw unrefused (record {
        limit = begins.1.stays.limit ∙ has.limit;
        most = begins.1.told.most ∙ has.most;
        terms = begins.1.told.terms ∙ has.terms;
        prints = prints-stays fixed old.sheet made.sheet prints begins.1.stays;
      })
  KeepsFixed-begun (Some batch) begins fixed has =
      KeepsFixed-step {T = Batch} old made earlier (event by (Begun batch)) (Ok batch) earlier (step-begun batch begins.0 begins.1) fixed has

  pub Begins-held : (batch : Option Batch) → Begins old made by max batch → Begins held (record made { refusal = earlier }) by max batch
  Begins-held None begins = (begins.0, record { stays = begins.1.stays; told = record { terms = begins.1.told.terms; most = begins.1.told.most }; numbered = begins.1.numbered })
  Begins-held (Some batch) begins = (begins.0, record { adds = begins.1.adds; within = begins.1.within; told = record { terms = begins.1.told.terms; most = begins.1.told.most }; numbered = begins.1.numbered })

  -- ---- no batch was begun

  module _ (fault : CoreFault) (tried : Option Happened) (halts : HaltsBeginning old made by max fault tried) where
    abbrev after : Core
    after = record made { refusal = refused_as fault tried }

    pub IsCatalog-unbegun : IsCatalog held → IsCatalog after
    IsCatalog-unbegun catalog =
        ⊎_elim
        (λ none. rw (none.0, none.1) (record { numbered = tt; cause = caused-starved old made none.2 }))
        (λ full. IsCatalog-step {T = Batch} old made earlier (event by (Begun full.0)) (Err fault) (refused_as fault tried) (step-refused full.0 fault tried full.1 full.2 full.3) catalog)
        halts

    pub KeepsFixed-unbegun : KeepsFixed held after
    KeepsFixed-unbegun =
        ⊎_elim
        (λ none. λ fixed has.
        let prints = subst (PrintsAfter fixed old.sheet) unrefused has.prints in
        let stays = none.2.stays in
        rw (none.0, none.1) (record {
          limit = stays.limit ∙ has.limit;
          most = none.2.told.most ∙ has.most;
          terms = none.2.told.terms ∙ has.terms;
          prints = prints-stays fixed old.sheet made.sheet prints stays;
        }))
        (λ full. KeepsFixed-step {T = Batch} old made earlier (event by (Begun full.0)) (Err fault) (refused_as fault tried) (step-refused full.0 fault tried full.1 full.2 full.3))
        halts

    pub RefusesBeginning-of : RefusesBeginning held after by max fault
    RefusesBeginning-of =
        ⊎_elim
        (λ none. inr (inl (
          none.0,
          record {
            unrefused = unrefused;
            starved = record { stays = none.2.stays; told = record { terms = none.2.told.terms; most = none.2.told.most }; numbered = none.2.numbered };
            kept = rw (none.0, none.1) refl;
          },
        )))
        (λ full. ⊎_elim (λ over. inl over) (λ first. inr (inr (full.0, full.1, first)))
        (Refuses-step {T = Batch} old made earlier (event by (Begun full.0)) (Err fault) (refused_as fault tried) (step-refused full.0 fault tried full.1 full.2 full.3)))
        halts
