-- The deletion of a path that is pending, if one is.
use Rattle.std.proofs.Common.{◌≡◌, ◌∙◌, ◌==◌, ℕ, nat_lt, Bool, true, false, List, [], ◌∷◌, Contains, bytes_eq, ⊎_elim, filter, Option, Some, None, option_to_list, refl, ap, sym, subst}
use Rattle.std.proofs.lemmas.Bool.{and_parts}
use Rattle.std.proofs.lemmas.Slice.Eq.{bytes_eq-Decides}
use Rattle.ci_base.specs.declared.numbers.Seq.{Seq}
use Rattle.ci_change.specs.declared.notice.Notice.{Notice}
use Rattle.ci_change.specs.declared.notice.What.{What}
use Rattle.ci_change.specs.declared.notice.What.TheVariants.{Deleted}
use Rattle.ci_change.specs.HandedIn.{HandedIn}
use Rattle.ci_change.specs.Pending.{kinds, served_number, with_path}
use Rattle.ci_change.specs.Pending as change
use Rattle.ci_keys.proofs.OneForm.{Contains-cons_cases, Contains-first, Contains-later, Contains-map, none_in_empty}
use Rattle.ci_journal.specs.declared.event.Event.{Event}
use Rattle.ci_journal.specs.Folds.{notices}
use Rattle.ci_journal.specs.Pending.{unserved_notices}
use Rattle.ci_journal.specs.Served.{served_numbers}
use Rattle.ci_journal.specs.Terms.{Terms}
use Rattle.ci_journal.specs.Step.{MayErase}
use Rattle.ci_holdings.specs.Kept.{Tracks}

-- a notice of the path is among those with its path
with_path-has : (path : List ℕ) (notices : List Notice) (n : Notice) → n.path ≡ path → Contains notices n → Contains (with_path path notices) n
with_path-has path [] n own here = absurd (none_in_empty n here)
with_path-has path (m ∷ notices) n own here = by (with_path-has path notices n own) (bytes_eq m.path path) refl
  where
    by : (Contains notices n → Contains (with_path path notices) n) → (b : Bool) → bytes_eq m.path path ≡ b → Contains (with_path path (m ∷ notices)) n
    by rest true same =
        rw same (⊎_elim (λ first. subst (λ (f : Notice). Contains (m ∷ with_path path notices) f) first (Contains-first m (with_path path notices)))
        (λ later. Contains-later m (with_path path notices) n (rest later)) (Contains-cons_cases m notices n here))
    by rest false other =
        rw other (⊎_elim (λ first. absurd (let is : bytes_eq m.path path ≡ true = (bytes_eq-Decides m.path path).1 (ap (λ (f : Notice). f.path) first ∙ own) in let no : true ≡ false = sym is ∙ other in cc))
        rest (Contains-cons_cases m notices n here))

-- and those with its path are notices of it
has-with_path : (path : List ℕ) (notices : List Notice) (n : Notice) → Contains (with_path path notices) n → Contains notices n × (n.path ≡ path)
has-with_path path [] n here = absurd (none_in_empty n here)
has-with_path path (m ∷ notices) n here = by (has-with_path path notices n) (bytes_eq m.path path) refl
  where
    by : (Contains (with_path path notices) n → Contains notices n × (n.path ≡ path)) → (b : Bool) → bytes_eq m.path path ≡ b → Contains (m ∷ notices) n × (n.path ≡ path)
    by rest true same =
        let there = rw same at here in
        ⊎_elim (λ first. subst (λ (f : Notice). Contains (m ∷ notices) f × (f.path ≡ path)) first (Contains-first m notices, (bytes_eq-Decides m.path path).0 same))
        (λ later. let more = rest later in (Contains-later m notices n more.0, more.1))
        (Contains-cons_cases m (with_path path notices) n there)
    by rest false other = let there = rw other at here in let more = rest there in (Contains-later m notices n more.0, more.1)

-- the one notice of a path
only-of_path : (path : List ℕ) (notices : List Notice) (seq : Seq) (what : What) → kinds (with_path path notices) ≡ (seq, what) ∷ [] → Contains notices (record { path = path; seq = seq; what = what })
only-of_path path notices seq what e = by (with_path path notices) refl e
  where
    by : (own : List Notice) → with_path path notices ≡ own → kinds own ≡ (seq, what) ∷ [] → Contains notices (record { path = path; seq = seq; what = what })
    by [] is e = absurd (cc)
    by (n ∷ m ∷ own) is e = absurd (cc)
    by (n ∷ []) is e =
        let there = has-with_path path notices n (subst (λ ns. Contains ns n) (sym is) (Contains-first n [])) in
        let kind : (n.seq, n.what) ≡ (seq, what) = cc in
        let number : n.seq ≡ seq = ap (λ (k : Seq × What). k.0) kind in
        let what_is : n.what ≡ what = ap (λ (k : Seq × What). k.1) kind in
        subst (λ (p : List ℕ). Contains notices (record { path = p; seq = seq; what = what })) there.1
        (subst (λ (s : Seq). Contains notices (record { path = n.path; seq = s; what = what })) number
        (subst (λ (w : What). Contains notices (record { path = n.path; seq = n.seq; what = w })) what_is there.0))

-- a notice of the path shows among the kinds of its notices
shown-of_path : (path : List ℕ) (notices : List Notice) (seq : Seq) (what : What) → Contains notices (record { path = path; seq = seq; what = what }) → Contains (kinds (with_path path notices)) (seq, what)
shown-of_path path notices seq what here =
    Contains-map (λ (n : Notice). (n.seq, n.what)) (with_path path notices) (record { path = path; seq = seq; what = what }) (with_path-has path notices (record { path = path; seq = seq; what = what }) refl here)

-- what the change list has unserved is what the journal tells
pub unserved-tracks : (terms : Terms) (events : List Event) (changes : HandedIn) → Tracks terms events changes → change.unserved changes ≡ unserved_notices terms events
unserved-tracks terms events changes tracks = rw (tracks.notices, tracks.served) refl

module _ (terms : Terms) (events : List Event) (changes : HandedIn) (tracks : Tracks terms events changes) (path : List ℕ) where
  pub unserved-is : (seq : Seq) (what : What) → kinds (with_path path (change.unserved changes)) ≡ option_to_list (Some (seq, what)) → Contains (unserved_notices terms events) (record { path = path; seq = seq; what = what })
  unserved-is seq what e = rw (← unserved-tracks terms events changes tracks) (only-of_path path (change.unserved changes) seq what e)

  -- where the path's pending notice is another, or none, no deletion is
  pub unserved-other : (seq : Seq) (kind : Option (Seq × What)) → kinds (with_path path (change.unserved changes)) ≡ option_to_list kind
      → ((s : Seq) → kind ≡ Some (s, Deleted) → ⊥) → Contains (unserved_notices terms events) (record { path = path; seq = seq; what = Deleted }) → ⊥
  unserved-other seq kind e other here =
      by kind refl (subst (λ ks. Contains ks (seq, Deleted)) e (shown-of_path path (change.unserved changes) seq Deleted (rw (unserved-tracks terms events changes tracks) here)))
    where
      by : (k : Option (Seq × What)) → kind ≡ k → Contains (option_to_list k) (seq, Deleted) → ⊥
      by None is there = none_in_empty (seq, Deleted) there
      by (Some k) is there = ⊎_elim (λ (same : k ≡ (seq, Deleted)). other seq (is ∙ ap Some same)) (λ later. none_in_empty (seq, Deleted) later) (Contains-cons_cases k [] (seq, Deleted) there)

-- what a filter keeps passes its test
filter-has : {X : Type 0} (test : X → Bool) (xs : List X) (x : X) → Contains (filter test xs) x → test x ≡ true
filter-has test [] x here = absurd (none_in_empty x here)
filter-has test (y ∷ xs) x here = by (filter-has test xs x) (test y) refl
  where
    by : (Contains (filter test xs) x → test x ≡ true) → (b : Bool) → test y ≡ b → test x ≡ true
    by rest true passes = let there = rw passes at here in ⊎_elim (λ first. subst (λ z. test z ≡ true) first passes) rest (Contains-cons_cases y (filter test xs) x there)
    by rest false fails = rest (rw fails at here)

-- a deletion that is pending is above what its path was served under
pub erasing-counts : (terms : Terms) (events : List Event) (changes : HandedIn) → Tracks terms events changes → (path : List ℕ) (seq : Seq) → MayErase terms events path seq → nat_lt (served_number changes.served path) seq.0 ≡ true
erasing-counts terms events changes tracks path seq may =
    let passes = filter-has (change.is_unserved (notices terms events) (served_numbers terms events)) (notices terms events) (record { path = path; seq = seq; what = Deleted }) may in
    rw tracks.served (and_parts (seq.0 == change.latest_number (notices terms events) path) (nat_lt (served_number (served_numbers terms events) path) seq.0) passes).1
