-- The steps of a request that notes a document, as far as they come.
use Rattle.std.proofs.Common.{arith, ◌≡◌, ◌≤◌, ◌+◌, ◌∙◌, ℕ, false, List, [], ◌∷◌, length, Result, Ok, Err, IfErr, IfOk, OnOk, None, inl, inr, refl, ap, subst, sym}
use Rattle.std.specs.Prelude.{IsErrOf}
use Rattle.ci_base.specs.declared.numbers.Seq.{Seq}
use Rattle.ci_change.specs.declared.notice.What.{What}
use Rattle.ci_change.specs.declared.notice.What.TheVariants.{Changed}
use Rattle.ci_chunk.specs.Plain.{plain}
use Rattle.ci_journal.specs.declared.event.Happened.TheVariants.{Put, Said}
use Rattle.ci_journal.specs.declared.reply.Reply.{Reply}
use Rattle.ci_journal.specs.declared.request.Request.{Request}
use Rattle.ci_journal.specs.Folds.{is_numbered, latest, next_notice}
use Rattle.ci_journal.specs.Step.{MayPut}
use Rattle.ci_journal.specs.Tells.{event}
use Rattle.ci_journal.specs.Tells.Fate.{Filtered}
use Rattle.ci_journal.specs.Terms.{Terms}
use Rattle.ci_journal.proofs.FoldsLemmas.{latest-noted}
use Rattle.ci_book.specs.declared.core_fault.CoreFault.{CoreFault}
use Rattle.ci_book.specs.declared.core_fault.CoreFault.TheVariants.{JournalFull, TooManyDocuments}
use Rattle.ci_book.specs.Changes.{noted}
use Rattle.ci_holdings.specs.Core.{Core}
use Rattle.ci_core.specs.Fixed.{KeepsFixed}
use Rattle.ci_holdings.specs.Refusals.{IsCrowded, IsStep}
use Rattle.ci_holdings.specs.Steps.{IsUnrefused, Makes}
use Rattle.ci_server.specs.Right.{IsRight}
use Rattle.ci_server.specs.Served.{IsNotedHere, Replies, ServesSteps, StopsNoting, StopsReplying, StopsSteps}
use Rattle.ci_worker.specs.Stops.{IsAt, IsSound}
use Rattle.ci_server.specs.Turns.{AreSteps}
use Rattle.ci_server.specs.Turns.Front.{Begins}
use Rattle.ci_server.proofs.FrontLemmas.{whole-alone}
use Rattle.ci_worker.proofs.BatchLemmas.{IfErr-map, OnOk-map}
use Rattle.ci_worker.proofs.StepLemmas.{IsAt-none, next-noted, step-filed, step-noted, step-quiet}
use Rattle.ci_server.proofs.StepsLemmas.{IsAt-step, steps-serve, steps-stop}

-- the path was noted first
pub noted-at : (old a : Core) (path : List ℕ) (seq : Seq) (what : What) → IsSound old → seq.0 ≡ next_notice old.terms old.sheet.events → Makes old a (noted 0 path seq.0 what)
    → IsUnrefused old a → KeepsFixed old a → (old.refusal ≡ None → is_numbered old.numbered path ≡ false → old.most ≤ length old.numbered → IsErrOf {T = Seq} {E = CoreFault} (Ok seq) TooManyDocuments)
    → IsAt old a (noted 0 path seq.0 what ∷ [])
noted-at old a path seq what sound next makes unrefused keeps crowded =
    IsAt-step old old a [] (noted 0 path seq.0 what) (IsAt-none old sound)
    (step-noted old a path seq what sound next makes unrefused keeps (λ none new full. let never = crowded none new full in cc))

-- where it was refused for a full journal, it noted no path too many
pub uncrowded-note : (core : Core) (path : List ℕ) (number : ℕ) (what : What) (by : ℕ) (fault : CoreFault) → core.refusal ≡ None
    → (core.refusal ≡ None → is_numbered core.numbered path ≡ false → core.most ≤ length core.numbered → IsErrOf {T = Seq} {E = CoreFault} (Err fault) TooManyDocuments)
    → (used more : ℕ) → fault ≡ JournalFull used more → IsCrowded core (noted by path number what) → ⊥
uncrowded-note core path number what by fault none crowded used more full crowd =
    let same : path ≡ crowd.notice.path = let is = crowd.notes in cc in
    let told = crowded none (subst (λ p. is_numbered core.numbered p ≡ false) (sym same) crowd.new_path) crowd.many in
    let is : fault ≡ JournalFull used more = full in
    cc

-- ---- the two steps that every document's request has, whatever comes of them

-- the path was noted here, or its noting stops the request
module _ (old new : Core) (path : List ℕ) (what : What) (sound : IsSound old) (keeps : KeepsFixed old new) where
  abbrev pub number : ℕ
  number = next_notice old.terms old.sheet.events

  pub noted-here : (result : Result Seq CoreFault) → IfOk result (λ seq. seq.0 ≡ number) → IsStep old new (noted 0 path number what) result
      → (old.refusal ≡ None → is_numbered old.numbered path ≡ false → old.most ≤ length old.numbered → IsErrOf result TooManyDocuments) → IfOk result (λ seq. IsNotedHere old new path seq what)
  noted-here (Ok seq) next step crowded = record {
    next = next;
    at = noted-at old new path seq what sound next (subst (λ n. Makes old new (noted 0 path n what)) (sym next) step.ok) step.unrefused keeps crowded;
  }
  noted-here (Err fault) next step crowded = tt

  pub unnoted-here : (result : Result Seq CoreFault) → IsStep old new (noted 0 path number what) result
      → (old.refusal ≡ None → is_numbered old.numbered path ≡ false → old.most ≤ length old.numbered → IsErrOf result TooManyDocuments) → IfErr result (StopsNoting old new path what)
  unnoted-here (Ok seq) step crowded = tt
  unnoted-here (Err fault) step crowded = λ id request first.
      steps-stop old id request old new [] (noted 0 path number what) fault refl (IsAt-none old sound) (inl ([], Begins)) first step.refused keeps
      (inr (uncrowded-note old path number what 0 fault sound.unrefused crowded))

-- the reply was made, or it stops the request
module _ {T : Type 0} (now new : Core) (id : ℕ) (reply : Reply) (keeps : KeepsFixed now new) where
  pub replied : (result : Result T CoreFault) → IsStep now new (event 0 (Said id reply)) result → OnOk result (Replies now new id reply)
  replied (Ok answer) step = λ old request steps at made.
      steps-serve old id request now new steps (event 0 (Said id reply)) at (step-quiet now new (event 0 (Said id reply)) at.sound refl step.ok step.unrefused keeps refl refl) made
  replied (Err fault) step = tt

  pub unreplied : (result : Result T CoreFault) → IsStep now new (event 0 (Said id reply)) result → IfErr result (StopsReplying now new id reply)
  unreplied (Ok answer) step = tt
  unreplied (Err fault) step = λ old request steps at first made.
      steps-stop old id request now new steps (event 0 (Said id reply)) fault refl at first (inr made) step.refused keeps (inl refl)

-- a request that has no steps, of which a reply is the whole turn
module _ (now new : Core) (id : ℕ) (request : Request) (reply : Reply) (sound : IsSound now) (right : IsRight now.terms now.sheet.events [] id request reply) where
  whole : AreSteps now.terms now.sheet.events id request (event 0 (Said id reply) ∷ [])
  whole = whole-alone now.terms now.sheet.events id request reply right

  pub alone-serves : {T : Type 0} (result : Result T CoreFault) → OnOk result (Replies now new id reply) → OnOk result (ServesSteps now new id request)
  alone-serves result said = OnOk-map result (λ replies. replies now request [] (IsAt-none now sound) whole) said

  pub alone-stops : {T : Type 0} (result : Result T CoreFault) → IfErr result (StopsReplying now new id reply) → IfErr result (StopsSteps now new id request)
  alone-stops result said = IfErr-map result (λ fault stops. stops now request [] (IsAt-none now sound) (inl ([], Begins)) whole) said

-- behind a noting, its number is below the next
pub low-noted : (old a : Core) (path : List ℕ) (seq : Seq) (what : What) → seq.0 ≡ next_notice old.terms old.sheet.events → IsAt old a (noted 0 path seq.0 what ∷ []) → next_notice a.terms a.sheet.events ≡ seq.0 + 1
low-noted old a path seq what next at =
    ap (λ (t : Terms). next_notice t a.sheet.events) at.remains.told.terms ∙ ap (next_notice old.terms) at.events ∙ next-noted old.terms old.sheet.events path seq what next

-- behind the noting of a change, its text may be put
module _ (old a : Core) (path text : List ℕ) (seq : Seq) (next : seq.0 ≡ next_notice old.terms old.sheet.events) (at : IsAt old a (noted 0 path seq.0 Changed ∷ [])) where
  pub MayPut-at : MayPut a.terms a.sheet.events 0 (record { path = path; seq = seq; what = Changed })
  MayPut-at = record {
    foreground = refl;
    current = ap (λ (t : Terms). latest t a.sheet.events path) at.remains.told.terms ∙ ap (λ es. latest old.terms es path) at.events
        ∙ latest-noted old.terms old.sheet.events 0 (record { path = path; seq = seq; what = Changed });
  }

  pub put-at : (b : Core) → Makes a b (event 0 (Put path seq (plain path text))) → IsUnrefused a b → KeepsFixed a b → IsAt old b (noted 0 path seq.0 Changed ∷ event 0 (Put path seq (plain path text)) ∷ [])
  put-at b makes unrefused keeps =
      let e = event 0 (Put path seq (plain path text)) in
      IsAt-step old a b (noted 0 path seq.0 Changed ∷ []) e at
      (step-filed a b e at.sound refl makes unrefused keeps refl (record { path = path; seq = seq; fate = Filtered (plain path text) }) path seq refl refl (omega (arith, low-noted old a path seq Changed next at)))
