-- No path of a run is in two batches that are out: a batch begins with free documents, which no other has.
use Rattle.std.proofs.Common.{◌≡◌, ◌∙◌, ◌&&◌, ◌||◌, ℕ, not, ◌==◌, Bool, true, false, List, [], ◌∷◌, ◌++◌, bytes_eq, filter, take, zero, suc, refl, sym, subst}
use Rattle.std.proofs.lemmas.List.Folds.{list_any-append}
use Rattle.std.proofs.lemmas.Slice.Eq.{bytes_eq-Decides}
use Rattle.ci_base.specs.declared.numbers.Seq.{Seq}
use Rattle.ci_change.specs.declared.batch.Batch.{Batch}
use Rattle.ci_change.specs.declared.notice.Notice.{Notice}
use Rattle.ci_change.specs.Pending.{docs_of, has_path, is_changed, is_free, is_out}
use Rattle.ci_journal.specs.declared.event.Event.{Event}
use Rattle.ci_journal.specs.declared.event.Happened.{Happened}
use Rattle.ci_journal.specs.declared.event.Happened.TheVariants.{Asked, Noted, Put, Erased, Started, StartFailed, DaemonLost, Begun, BatchDone, BatchDied, Returned, Shadowed, MasterBegun, MasterStep, MasterEnded, Opened, Answered, Said}
use Rattle.ci_journal.specs.Filings.{Filings, filings, out}
use Rattle.ci_journal.specs.Pending.{pending}
use Rattle.ci_journal.specs.Step.{Chain, May, Run}
use Rattle.ci_journal.specs.Step.Chain.{NoEvent, Next}
use Rattle.ci_journal.specs.Tells.{tells}
use Rattle.ci_journal.specs.Terms.{Terms}
use Rattle.ci_journal.proofs.ChainLemmas.{Chain-run}
use Rattle.ci_journal.proofs.FoldsLemmas.{file_where, filings-push}
use Rattle.ci_play.specs.Apart.{AreApart}

-- one more batch, whose paths are in none of those before it
AreApart-push : (outs : List Batch) (begun : Batch) → AreApart outs → ((path : List ℕ) → has_path begun.docs path ≡ true → is_out outs path ≡ false) → AreApart (outs ++ begun ∷ [])
AreApart-push [] begun apart new = (λ path has. refl, tt)
AreApart-push (first ∷ outs) begun apart new =
    (λ path has. by path has (has_path begun.docs path) refl, AreApart-push outs begun apart.1 (λ path has. behind path (has_path first.docs path) (new path has)))
  where
    behind : (path : List ℕ) (b : Bool) → (b || is_out outs path) ≡ false → is_out outs path ≡ false
    behind path true none = absurd (cc)
    behind path false none = none

    by : (path : List ℕ) → has_path first.docs path ≡ true → (b : Bool) → has_path begun.docs path ≡ b → is_out (outs ++ begun ∷ []) path ≡ false
    by path has true both = absurd (let none : (has_path first.docs path || is_out outs path) ≡ false = new path both in cc)
    by path has false other =
        list_any-append (λ (b : Batch). has_path b.docs path) outs (begun ∷ []) ∙ rw (apart.0 path has) (rw other refl)

-- fewer batches
is_out-filter : (test : Batch → Bool) (outs : List Batch) (path : List ℕ) → is_out outs path ≡ false → is_out (filter test outs) path ≡ false
is_out-filter test [] path none = refl
is_out-filter test (first ∷ outs) path none = by (is_out-filter test outs path) (has_path first.docs path) refl (test first) refl none
  where
    by : (is_out outs path ≡ false → is_out (filter test outs) path ≡ false) → (b : Bool) → has_path first.docs path ≡ b → (t : Bool) → test first ≡ t → (b || is_out outs path) ≡ false → is_out (filter test (first ∷ outs)) path ≡ false
    by rest true e t s not_out = absurd (cc)
    by rest false e true s not_out = rw s (rw e (rest not_out))
    by rest false e false s not_out = rw s (rest not_out)

AreApart-filter : (test : Batch → Bool) (outs : List Batch) → AreApart outs → AreApart (filter test outs)
AreApart-filter test [] apart = tt
AreApart-filter test (first ∷ outs) apart = by (AreApart-filter test outs apart.1) (test first) refl
  where
    by : AreApart (filter test outs) → (t : Bool) → test first ≡ t → AreApart (filter test (first ∷ outs))
    by rest true e = rw e (λ path has. is_out-filter test outs path (apart.0 path has), rest)
    by rest false e = rw e rest

-- the documents that a batch takes are free: no batch that is out has their paths
free_not_out : (outs : List Batch) (notice : Notice) → is_free outs notice ≡ true → is_out outs notice.path ≡ false
free_not_out outs notice is_one = by (is_changed notice.what) (is_out outs notice.path) is_one
  where
    by : (c o : Bool) → (c && not o) ≡ true → o ≡ false
    by true true e = absurd (cc)
    by true false e = refl
    by false o e = absurd (cc)

-- a path of some documents, of which the first has it, or the others do
has_path-first : (outs : List Batch) (notice : Notice) (docs : List (List ℕ × Seq)) (path : List ℕ) → is_free outs notice ≡ true → (has_path docs path ≡ true → is_out outs path ≡ false)
    → (b : Bool) → bytes_eq notice.path path ≡ b → (b || has_path docs path) ≡ true → is_out outs path ≡ false
has_path-first outs notice docs path free_one rest true same some = subst (λ p. is_out outs p ≡ false) ((bytes_eq-Decides notice.path path).0 same) (free_not_out outs notice free_one)
has_path-first outs notice docs path free_one rest false other some = rest some

taken_not_out : (outs : List Batch) (notices : List Notice) (most : ℕ) (path : List ℕ)
    → has_path (docs_of (take most (filter (is_free outs) notices))) path ≡ true → is_out outs path ≡ false
taken_not_out outs [] zero path has = absurd (cc)
taken_not_out outs [] (suc most) path has = absurd (cc)
taken_not_out outs (notice ∷ notices) most path has = by (λ count. taken_not_out outs notices count path) (is_free outs notice) refl most has
  where
    by : ((count : ℕ) → has_path (docs_of (take count (filter (is_free outs) notices))) path ≡ true → is_out outs path ≡ false) → (f : Bool) → is_free outs notice ≡ f → (count : ℕ)
        → has_path (docs_of (take count (filter (is_free outs) (notice ∷ notices)))) path ≡ true → is_out outs path ≡ false
    by rest true e zero some = absurd (let none : false ≡ true = some in cc)
    by rest true e (suc count) some =
        has_path-first outs notice (docs_of (take count (filter (is_free outs) notices))) path e (rest count) (bytes_eq notice.path path) refl (rw e at some)
    by rest false e count some = rest count (rw e at some)

-- behind one more event
AreApart-event : (terms : Terms) (journal : List Event) (by : ℕ) (what : Happened) → AreApart (out journal) → May terms journal by what → AreApart (file_where (filings journal) (tells what).filed).out
AreApart-event terms journal by (Asked id request) apart may = apart
AreApart-event terms journal by (Noted notice) apart may = apart
AreApart-event terms journal by (Put path seq transcript) apart may = apart
AreApart-event terms journal by (Erased path seq) apart may = apart
AreApart-event terms journal by Started apart may = apart
AreApart-event terms journal by StartFailed apart may = apart
AreApart-event terms journal by DaemonLost apart may = apart
AreApart-event terms journal by (Begun batch) apart may =
    AreApart-push (out journal) batch apart
    (subst (λ (docs : List (List ℕ × Seq)). (path : List ℕ) → has_path docs path ≡ true → is_out (out journal) path ≡ false) (sym may.first) (taken_not_out (out journal) (pending terms journal) may.most))
AreApart-event terms journal by (BatchDone number outcomes) apart may = AreApart-filter (λ (b : Batch). not (b.number == number)) (out journal) apart
AreApart-event terms journal by (BatchDied number charged) apart may = AreApart-filter (λ (b : Batch). not (b.number == number)) (out journal) apart
AreApart-event terms journal by (Returned number) apart may = AreApart-filter (λ (b : Batch). not (b.number == number)) (out journal) apart
AreApart-event terms journal by Shadowed apart may = apart
AreApart-event terms journal by MasterBegun apart may = apart
AreApart-event terms journal by (MasterStep split) apart may = apart
AreApart-event terms journal by MasterEnded apart may = apart
AreApart-event terms journal by (Opened id) apart may = apart
AreApart-event terms journal by (Answered id at paths) apart may = apart
AreApart-event terms journal by (Said id reply) apart may = apart

AreApart-chain : (terms : Terms) (journal : List Event) → Chain terms journal → AreApart (out journal)
AreApart-chain terms _ NoEvent = tt
AreApart-chain terms _ (Next journal e chain may) =
    subst (λ (f : Filings). AreApart f.out) (sym (filings-push journal e)) (AreApart-event terms journal e.by e.what (AreApart-chain terms journal chain) may)

pub AreApart-run : (terms : Terms) (journal : List Event) → Run terms journal → AreApart (out journal)
AreApart-run terms journal run = AreApart-chain terms journal (Chain-run terms journal run)
