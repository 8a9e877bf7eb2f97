-- What a worker keeps true of the journal as a batch ends.
use Rattle.std.proofs.Common.{◌≡◌, ◌∙◌, ℕ, List, [], ◌∷◌, ◌++◌, Some, None, IsSome, refl, ap, sym, subst, append-nil}
use Rattle.ci_base.specs.declared.numbers.Seq.{Seq}
use Rattle.ci_change.specs.declared.batch.Batch.{Batch}
use Rattle.ci_chunk.specs.declared.outcome.Outcome.{Outcome}
use Rattle.ci_journal.specs.declared.event.Event.{Event}
use Rattle.ci_journal.specs.declared.event.Happened.TheVariants.{BatchDied, BatchDone, Returned}
use Rattle.ci_journal.specs.Filings.{out}
use Rattle.ci_journal.specs.Tells.{event}
use Rattle.ci_journal.specs.Tells.Ending.{Through as Done, Within}
use Rattle.ci_link.specs.Line.{Speaking}
use Rattle.ci_link.specs.declared.outcome.Talk.TheVariants.{Finished, Died}
use Rattle.ci_worker.specs.Links.{FitTold, Leaves, Speaks}
use Rattle.ci_worker.specs.Links.Leaves.{Dead, Starved, Untold}
use Rattle.ci_worker.specs.Talks.{batch_talk, talks}
use Rattle.ci_worker.specs.Working.{Keeps, RanOut, RoseBy, Talked, Working, failed_starts, records_behind}
use Rattle.ci_worker.proofs.HoldsLemmas.{KeepsLinks-push, failed-unstarted}
use Rattle.ci_worker.proofs.LinkLemmas.{FitTold-left, FitTold-through}
use Rattle.ci_worker.proofs.TalksLemmas.{talks-ended, talks-returned}
use Rattle.ci_worker.proofs.KeepsLemmas.{IsStopped}

-- ---- a batch ends

module _ (journal : List Event) (by : ℕ) (batch : Batch) (alone : out journal ≡ batch ∷ []) (first before now : Working) (keeps : Keeps first before journal) where
  -- each document has its outcome
  pub Keeps-done : (outcomes : List Outcome) → Talked before now batch.docs (Finished outcomes) → Keeps first now (journal ++ event by (BatchDone batch.number outcomes) ∷ [])
  Keeps-done outcomes talked =
      let e = event by (BatchDone batch.number outcomes) in
      subst (λ (w : Working). Keeps first w (journal ++ e ∷ [])) (sym talked.is) (record {
        told = subst (FitTold first.records before.records (Some talked.after)) (sym (talks-ended journal e batch (Done outcomes) alone refl))
            (FitTold-through first.records before.records (talks journal) talked.before talked.after batch.docs outcomes talked.talk
            (subst (λ h. FitTold first.records before.records h (talks journal)) talked.was keeps.told));
        failed = subst (λ n. RoseBy n first.faults before.faults) (sym (failed-unstarted journal e refl)) keeps.failed;
        links = KeepsLinks-push journal e (λ b is. absurd (cc)) (λ is. absurd (cc)) keeps.links;
      })

  -- it died within one
  pub Keeps-died : (charged : ℕ) (after : Working) → Talked before now batch.docs (Died charged) → IsStopped now after → Keeps first after (journal ++ event by (BatchDied batch.number charged) ∷ [])
  Keeps-died charged after talked stopped =
      let e = event by (BatchDied batch.number charged) in
      let last : after.records ≡ records_behind before.records (Some talked.after) = stopped.records ∙ ap (λ (w : Working). records_behind w.records w.held) talked.is in
      let on = subst (λ (w : Working). IsSome w.records → IsSome after.records) talked.is stopped.tells_on in
      record {
        told = subst (FitTold first.records after.records after.held) (sym (talks-ended journal e batch (Within charged) alone refl))
            (subst (λ h. FitTold first.records after.records h (talks journal ++ batch_talk batch.docs (Died charged) ∷ [])) (sym stopped.held)
            (FitTold-left first.records before.records after.records (talks journal) (batch_talk batch.docs (Died charged) ∷ []) talked.before talked.after
            (λ start group speaks. Dead group talked.before talked.after batch.docs charged speaks talked.talk) last on
            (subst (λ h. FitTold first.records before.records h (talks journal)) talked.was keeps.told)));
        failed = subst (λ n. RoseBy n first.faults after.faults) (sym (failed-unstarted journal e refl))
            (subst (λ n. RoseBy (failed_starts journal) first.faults n) (sym (stopped.faults ∙ ap (λ (w : Working). w.faults) talked.is)) keeps.failed);
        links = KeepsLinks-push journal e (λ b is. absurd (cc)) (λ is. absurd (cc)) keeps.links;
      }

-- ---- a talk that no event tells of

module _ (journal : List Event) (first before now after : Working) (keeps : Keeps first before journal) (stopped : IsStopped now after) where
  left_untold : (link last : Speaking) → before.held ≡ Some link → now ≡ record before { held = Some last } → ((start : Speaking) (group : _) → Speaks start group link → Leaves start group last) → Keeps first after journal
  left_untold link last was is leaves =
      let records_are : after.records ≡ records_behind before.records (Some last) = stopped.records ∙ ap (λ (w : Working). records_behind w.records w.held) is in
      let on = subst (λ (w : Working). IsSome w.records → IsSome after.records) is stopped.tells_on in
      record {
        told = subst (λ h. FitTold first.records after.records h (talks journal)) (sym stopped.held)
            (subst (FitTold first.records after.records None) (append-nil (talks journal))
            (FitTold-left first.records before.records after.records (talks journal) [] link last
            (λ start group speaks. subst (λ ts. Leaves start ts last) (sym (append-nil group)) (leaves start group speaks)) records_are on
            (subst (λ h. FitTold first.records before.records h (talks journal)) was keeps.told)));
        failed = subst (λ n. RoseBy (failed_starts journal) first.faults n) (sym (stopped.faults ∙ ap (λ (w : Working). w.faults) is)) keeps.failed;
        links = keeps.links;
      }

  -- its event was refused
  pub Keeps-untold : (docs : List (List ℕ × Seq)) (outcomes : List Outcome) → Talked before now docs (Finished outcomes) → Keeps first after journal
  Keeps-untold docs outcomes talked =
      left_untold talked.before talked.after talked.was talked.is (λ start group speaks. Untold group talked.before talked.after docs outcomes speaks talked.talk)

  -- or there was no memory for it
  pub Keeps-starved : (docs : List (List ℕ × Seq)) → RanOut before now docs → Keeps first after journal
  Keeps-starved docs ran = left_untold ran.before ran.after ran.was ran.is (λ start group speaks. Starved group ran.before ran.after docs speaks ran.talk)

-- a batch is given back
pub Keeps-returned : (journal : List Event) (by number : ℕ) (first worker : Working) → Keeps first worker journal → Keeps first worker (journal ++ event by (Returned number) ∷ [])
Keeps-returned journal by number first worker keeps =
    let e = event by (Returned number) in
    record {
      told = subst (FitTold first.records worker.records worker.held) (sym (talks-returned journal e number refl)) keeps.told;
      failed = subst (λ n. RoseBy n first.faults worker.faults) (sym (failed-unstarted journal e refl)) keeps.failed;
      links = KeepsLinks-push journal e (λ b is. absurd (cc)) (λ is. absurd (cc)) keeps.links;
    }
