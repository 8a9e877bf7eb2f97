-- The documents of a batch, as they are settled one after the other.
use Rattle.std.proofs.Common.{◌≡◌, ◌∙◌, ◌&&◌, ◌||◌, ℕ, ◌+◌, ◌<◌, Bool, IsTrue, true, false, cond, nat_lt, List, [], ◌∷◌, ◌++◌, All, bytes_eq, length, drop, take, get_or, Some, refl, ap, sym, subst, add-one, suc}
use Rattle.std.proofs.Math.Seq.{drop-cons}
use Rattle.std.proofs.lemmas.List.Elements.{All-more, All-weaker}
use Rattle.std.proofs.lemmas.List.Folds.{list_any-append}
use Rattle.std.specs.FinMap as map_of_keys
use Rattle.std.specs.Cmp.Lexicographic.{nat_list_cmp_total}
use Rattle.std.specs.Ordering.{is_eq}
use Rattle.ci_base.specs.declared.numbers.Seq.{Seq}
use Rattle.ci_change.specs.HandedIn.{HandedIn, is_known, was_noted, was_served}
use Rattle.ci_change.specs.Pending.{served_number}
use Rattle.ci_keys.specs.Entry.{EntryLists}
use Rattle.ci_journal.specs.Terms.{Served, path_cmp}
use Rattle.ci_documents.specs.Documents.{Standings, StandFor, KeepsEntries, Serves, entry_at, has_place}
use Rattle.ci_holdings.specs.Serving.{IsSettledBy, settle, settle_all, tell, tell_all}
use Rattle.ci_holdings.specs.declared.serving.Verdict.{Verdict}
use Rattle.ci_holdings.specs.declared.serving.Verdict.TheVariants.{Filtered, Failed, Refused}
use Rattle.ci_holdings.proofs.ServedLemmas.{flipped}

-- one document served
pub StandFor-served : (served : Served) (doc : List ℕ × Seq) (entry : EntryLists) (old new : Standings) → StandFor served.documents old → Serves old new doc.0 (nat_lt (served_number served.numbers doc.0) doc.1.0) entry
    → StandFor (settle served doc (Filtered entry)).documents new
StandFor-served served doc entry old new stands serves = by (nat_lt (served_number served.numbers doc.0) doc.1.0) refl
  where
    by : (b : Bool) → nat_lt (served_number served.numbers doc.0) doc.1.0 ≡ b → StandFor (settle served doc (Filtered entry)).documents new
    by true counts other =
        rw counts (map_of_keys.get-insert nat_list_cmp_total served.documents doc.0 entry other
        ∙ ap (λ b. cond b (Some entry) (map_of_keys.get served.documents other)) (flipped other doc.0)
        ∙ ap (λ o. cond (is_eq (path_cmp doc.0 other)) (Some entry) o) (stands other)
        ∙ sym (serves.entries other ∙ ap (λ b. cond (b && is_eq (path_cmp doc.0 other)) (Some entry) (entry_at old other)) counts))
    by false counts other =
        rw counts (stands other ∙ sym (serves.entries other ∙ ap (λ b. cond (b && is_eq (path_cmp doc.0 other)) (Some entry) (entry_at old other)) counts))

-- what was told and what is left to tell come to what all of them do
pub record IsOnTheWay (served : Served) (docs : List (List ℕ × Seq)) (verdicts : List Verdict) (changes : HandedIn) (documents : Standings) (docs_left : List (List ℕ × Seq)) (left : List Verdict) : Type 0 where
  pub now : Served
  pub numbers : now.numbers ≡ changes.served
  pub stands : StandFor now.documents documents
  pub comes : settle_all now docs_left left ≡ settle_all served docs verdicts

-- one document settled
numbers-told : (served : Served) (changes : HandedIn) (doc : List ℕ × Seq) (verdict : Verdict) → served.numbers ≡ changes.served → (settle served doc verdict).numbers ≡ (tell changes doc verdict).served
numbers-told served changes doc (Filtered entry) same = ap (λ ns. ns ++ doc ∷ []) same
numbers-told served changes doc Failed same = same
numbers-told served changes doc Refused same = same

StandFor-settled : (served : Served) (doc : List ℕ × Seq) (verdict : Verdict) (old new : Standings) → StandFor served.documents old → IsSettledBy old new doc.0 (nat_lt (served_number served.numbers doc.0) doc.1.0) verdict
    → StandFor (settle served doc verdict).documents new
StandFor-settled served doc (Filtered entry) old new stands settles = StandFor-served served doc entry old new stands settles
StandFor-settled served doc Failed old new stands settles = subst (StandFor served.documents) (sym settles) stands
StandFor-settled served doc Refused old new stands settles = subst (StandFor served.documents) (sym settles) stands

-- one document more
pub IsOnTheWay-next : (served : Served) (docs : List (List ℕ × Seq)) (verdicts : List Verdict) (changes after : HandedIn) (documents settled : Standings) (doc : List ℕ × Seq) (verdict : Verdict) (before docs_left : List (List ℕ × Seq)) (still left : List Verdict)
    → before ≡ doc ∷ docs_left → still ≡ verdict ∷ left → IsOnTheWay served docs verdicts changes documents before still → after ≡ tell changes doc verdict
    → IsSettledBy documents settled doc.0 (nat_lt (served_number changes.served doc.0) doc.1.0) verdict → IsOnTheWay served docs verdicts after settled docs_left left
IsOnTheWay-next served docs verdicts changes after documents settled doc verdict before docs_left still left next first way handed settles = record {
  now = settle way.now doc verdict;
  numbers = numbers-told way.now changes doc verdict way.numbers ∙ sym (ap (λ (h : HandedIn). h.served) handed);
  stands = StandFor-settled way.now doc verdict documents settled way.stands (subst (λ ns. IsSettledBy documents settled doc.0 (nat_lt (served_number ns doc.0) doc.1.0) verdict) (sym way.numbers) settles);
  comes = sym (ap (λ ds. settle_all way.now ds still) next ∙ ap (λ vs. settle_all way.now (doc ∷ docs_left) vs) first) ∙ way.comes;
}

-- and the change list is told of it
pub told-next : (changes after end : HandedIn) (doc : List ℕ × Seq) (verdict : Verdict) (before docs_left : List (List ℕ × Seq)) (still left : List Verdict)
    → before ≡ doc ∷ docs_left → still ≡ verdict ∷ left → tell_all changes before still ≡ end → after ≡ tell changes doc verdict → tell_all after docs_left left ≡ end
told-next changes after end doc verdict before docs_left still left next first so_far handed =
    ap (λ (h : HandedIn). tell_all h docs_left left) handed
    ∙ sym (ap (λ ds. tell_all changes ds still) next ∙ ap (λ vs. tell_all changes (doc ∷ docs_left) vs) first) ∙ so_far

pub told-all : (changes end : HandedIn) (docs_left : List (List ℕ × Seq)) (left : List Verdict) → tell_all changes docs_left left ≡ end → docs_left ≡ [] → changes ≡ end
told-all changes end docs_left left so_far none = sym (ap (λ ds. tell_all changes ds left) none) ∙ so_far

-- a path that is known stays known
known-or : (noted here there : Bool) → IsTrue (noted || there) → IsTrue (noted || (there || here))
known-or true here there known = refl
known-or false here true known = refl
known-or false here false known = absurd (cc)

pub known-told : (changes : HandedIn) (doc : List ℕ × Seq) (verdict : Verdict) (path : List ℕ) → IsTrue (is_known changes path) → IsTrue (is_known (tell changes doc verdict) path)
known-told changes doc (Filtered entry) path known =
    subst (λ b. IsTrue (was_noted changes.notices path || b)) (sym (list_any-append (λ (s : List ℕ × Seq). bytes_eq s.0 path) changes.served (doc ∷ [])))
    (known-or (was_noted changes.notices path) _ (was_served changes.served path) known)
known-told changes doc Failed path known = known
known-told changes doc Refused path known = known

pub AreKnown-told : (changes after : HandedIn) (doc : List ℕ × Seq) (verdict : Verdict) (docs : List (List ℕ × Seq)) → after ≡ tell changes doc verdict → All (λ (d : List ℕ × Seq). IsTrue (is_known changes d.0)) docs
    → All (λ (d : List ℕ × Seq). IsTrue (is_known after d.0)) docs
AreKnown-told changes after doc verdict docs handed known =
    subst (λ (h : HandedIn). All (λ (d : List ℕ × Seq). IsTrue (is_known h d.0)) docs) (sym handed)
    (All-weaker (λ (d : List ℕ × Seq). IsTrue (is_known changes d.0)) (λ (d : List ℕ × Seq). IsTrue (is_known (tell changes doc verdict) d.0)) (λ d is. known-told changes doc verdict d.0 is) docs known)

-- ---- steps of loops over documents

pub KeepsEntries-after : (old mid new : Standings) → KeepsEntries old mid → KeepsEntries mid new → KeepsEntries old new
KeepsEntries-after old mid new one two = record {
  entries = λ path. two.entries path ∙ one.entries path;
  places = λ path place. two.places path (one.places path place);
}

abbrev pub HavePlaces : Standings → List (List ℕ × Seq) → Type 0
HavePlaces documents docs = All (λ (doc : List ℕ × Seq). has_place documents doc.0 ≡ true) docs

pub HavePlaces-kept : (old new : Standings) (docs : List (List ℕ × Seq)) → ((path : List ℕ) → has_place old path ≡ true → has_place new path ≡ true) → HavePlaces old docs → HavePlaces new docs
HavePlaces-kept old new docs kept have = All-weaker (λ (doc : List ℕ × Seq). has_place old doc.0 ≡ true) (λ (doc : List ℕ × Seq). has_place new doc.0 ≡ true) (λ doc place. kept doc.0 place) docs have

pub HavePlaces-settled : (old new : Standings) (path : List ℕ) (counts : Bool) (verdict : Verdict) (docs : List (List ℕ × Seq)) → IsSettledBy old new path counts verdict → HavePlaces old docs → HavePlaces new docs
HavePlaces-settled old new path counts (Filtered entry) docs settles have = HavePlaces-kept old new docs settles.places have
HavePlaces-settled old new path counts Failed docs settles have = subst (λ (s : Standings). HavePlaces s docs) (sym settles) have
HavePlaces-settled old new path counts Refused docs settles have = subst (λ (s : Standings). HavePlaces s docs) (sym settles) have

-- one place more
pub HavePlaces-more : (old new : Standings) (docs : List (List ℕ × Seq)) (i : ℕ) (doc : List ℕ × Seq) → i < length docs → doc ≡ get_or docs i doc → KeepsEntries old new → has_place new doc.0 ≡ true
    → HavePlaces old (take i docs) → HavePlaces new (take (i + 1) docs)
HavePlaces-more old new docs i doc within is keeps here have =
    All-more (λ (d : List ℕ × Seq). has_place new d.0 ≡ true) docs i doc within (HavePlaces-kept old new (take i docs) keeps.places have) (subst (λ (d : List ℕ × Seq). has_place new d.0 ≡ true) is here)

-- a document's place among all
pub HavePlaces-at : (documents : Standings) (docs : List (List ℕ × Seq)) (i : ℕ) (doc : List ℕ × Seq) → i < length docs → doc ≡ get_or docs i doc → HavePlaces documents docs → has_place documents doc.0 ≡ true
HavePlaces-at documents docs i doc within is have = subst (λ (d : List ℕ × Seq). has_place documents d.0 ≡ true) (sym is) (have i doc within)

pub AreKnown-at : (changes : HandedIn) (docs : List (List ℕ × Seq)) (i : ℕ) (doc : List ℕ × Seq) → i < length docs → doc ≡ get_or docs i doc → All (λ (d : List ℕ × Seq). IsTrue (is_known changes d.0)) docs → IsTrue (is_known changes doc.0)
AreKnown-at changes docs i doc within is known = subst (λ (d : List ℕ × Seq). IsTrue (is_known changes d.0)) (sym is) (known i doc within)

pub drop-next : (docs : List (List ℕ × Seq)) (i : ℕ) (doc : List ℕ × Seq) → i < length docs → doc ≡ get_or docs i doc → drop i docs ≡ doc ∷ drop (i + 1) docs
drop-next docs i doc within is = rw add-one (drop-cons docs i doc within ∙ ap (λ d. d ∷ drop (suc i) docs) (sym is))

-- all were settled
pub IsOnTheWay-all : (served : Served) (docs : List (List ℕ × Seq)) (verdicts : List Verdict) (changes : HandedIn) (documents : Standings) (docs_left : List (List ℕ × Seq)) (left : List Verdict)
    → IsOnTheWay served docs verdicts changes documents docs_left left → docs_left ≡ [] → StandFor (settle_all served docs verdicts).documents documents
IsOnTheWay-all served docs verdicts changes documents docs_left left way none =
    let comes = sym (ap (λ ds. settle_all way.now ds left) none) ∙ way.comes in
    subst (λ (s : Served). StandFor s.documents documents) comes way.stands
