-- A register stays up to date when what it is told is handed in.
use Rattle.std.proofs.Common.{◌≡◌, ◌&&◌, ◌||◌, ◌<◌, ◌≤◌, ◌-◌, ◌^◌, ℕ, max, nat_le, nat_lt, not, filter, IsTrue, Bool, true, false, List, [], ◌∷◌, ◌++◌, All, bytes_eq, refl, sym, ap, subst, ◌∙◌, arith, if◌then◌else◌}
use Rattle.std.proofs.lemmas.Bool.Decides.{nat_tests}
use Rattle.std.proofs.lemmas.List.Folds.{list_any-append}
use Rattle.std.proofs.lemmas.List.Quantifiers.{all_pairs_push}
use Rattle.std.proofs.lemmas.Slice.Eq.{bytes_eq-Decides}
use Rattle.ci_base.specs.declared.numbers.Seq.{Seq}
use Rattle.ci_change.specs.declared.notice.Notice.{Notice}
use Rattle.ci_change.specs.declared.rows.Numbers.{Numbers}
use Rattle.ci_change.specs.ChangeList.{IsUpToDate}
use Rattle.ci_change.specs.HandedIn.{History, was_noted, was_served}
use Rattle.ci_change.specs.Pending.{charges_of, is_change, is_refused, is_set_aside, latest_number, served_number, unserved_of}
use Rattle.ci_change.specs.Register.{Kept, counted, tried, with_newest, without_number, without_served, Notes, Serves, Tries}
use Rattle.ci_change.specs.Rows.{has_row, numbers_at}
use Rattle.ci_change.proofs.ChargeLemmas.{charges_of-newest, is_refused-newest, reached-push}
use Rattle.ci_change.proofs.ReadyLemmas.{ready-newest, ready-served, ready-tried}
use Rattle.ci_change.proofs.TrialLemmas.{IsTrial, tried-latest, tried-served}
use Rattle.ci_change.proofs.UnservedLemmas.{latest_number-push, latest_number-le, served_number-push, unserved-push, unserved-others, unserved-served}

number-if : {X : Type 0} (part : Numbers → X) (b : Bool) (put old : Numbers) → part (if b then put else old) ≡ (if b then part put else part old)
number-if part true put old = refl
number-if part false put old = refl

-- what is said of the latest notice begins anew with a newer one
anew-if : {X : Type 0} (b : Bool) (said : ℕ → X) (latest newest : ℕ) (zero old : X) → said newest ≡ zero → max latest newest ≡ newest → old ≡ said latest
    → (if b then zero else old) ≡ said (if b then max latest newest else latest)
anew-if true said latest newest zero old none most is = sym (ap said most ∙ none)
anew-if false said latest newest zero old none most is = is

-- a number that one path keeps is kept by all
same-if : {X : Type 0} (path other : List ℕ) (number : List ℕ → X) (b : Bool) → bytes_eq path other ≡ b → (if b then number path else number other) ≡ number other
same-if path other number true same = ap number ((bytes_eq-Decides path other).0 same)
same-if path other number false apart = refl

max-if : (path other : List ℕ) (number : List ℕ → ℕ) (more : ℕ) (b : Bool) → bytes_eq path other ≡ b
    → (if b then max (number path) more else number other) ≡ (if b then max (number other) more else number other)
max-if path other number more true same = ap (λ p. max (number p) more) ((bytes_eq-Decides path other).0 same)
max-if path other number more false apart = refl

known-push : (noted here served row : Bool) → (IsTrue (noted || served) → IsTrue row) → IsTrue ((noted || (here || false)) || served) → IsTrue (here || row)
known-push noted true served row known told = refl
known-push true false served row known told = known refl
known-push false false served row known told = known told

served-push : (noted served here row : Bool) → (IsTrue (noted || served) → IsTrue row) → IsTrue (noted || (served || (here || false))) → IsTrue (here || row)
served-push noted served true row known told = refl
served-push true served false row known told = known refl
served-push false true false row known told = known refl
served-push false false false row known told = known told

module _ (past : History) (kept new : Kept) (retries : ℕ) (up : IsUpToDate past kept retries) where
  module _ (notice : Notice) (newest : All (λ n. n.seq.0 < notice.seq.0) past.notices)
      (joins : Bool) (told_joins : joins ≡ (is_change notice && nat_lt 0 retries)) (notes : Notes kept new notice joins) where
    noted-latest : (path : List ℕ) → (numbers_at new.rows path).latest ≡ latest_number (past.notices ++ notice ∷ []) path
    noted-latest path =
        let here = bytes_eq notice.path path in
        let low = latest_number-le past.notices path notice.seq.0 newest in
        let most : notice.seq.0 ≡ max (latest_number past.notices path) notice.seq.0 = omega arith in
        ap (λ (n : Numbers). n.latest) (notes.rows.numbers path) ∙ number-if (λ n. n.latest) here _ _
        ∙ ap (λ l. if here then notice.seq.0 else l) (up.latest path) ∙ ap (λ l. if here then l else latest_number past.notices path) most
        ∙ sym (latest_number-push past.notices notice path)

    noted-served : (path : List ℕ) → (numbers_at new.rows path).served ≡ served_number past.served path
    noted-served path =
        ap (λ (n : Numbers). n.served) (notes.rows.numbers path) ∙ number-if (λ n. n.served) (bytes_eq notice.path path) _ _
        ∙ same-if notice.path path (λ p. (numbers_at kept.rows p).served) _ refl ∙ up.served path

    noted-attempts : (path : List ℕ) → (numbers_at new.rows path).attempts ≡ counted (charges_of past.charges path (latest_number (past.notices ++ notice ∷ []) path))
    noted-attempts path =
        let low = latest_number-le past.notices path notice.seq.0 newest in
        let none = charges_of-newest past.notices past.charges notice newest up.charged path in
        ap (λ (n : Numbers). n.attempts) (notes.rows.numbers path) ∙ number-if (λ n. n.attempts) (bytes_eq notice.path path) _ _
        ∙ anew-if (bytes_eq notice.path path) (λ n. counted (charges_of past.charges path n)) (latest_number past.notices path) notice.seq.0 0 _ (ap counted none) (omega arith) (up.attempts path)
        ∙ ap (λ n. counted (charges_of past.charges path n)) (sym (latest_number-push past.notices notice path))

    noted-refused : (path : List ℕ) → (numbers_at new.rows path).refused ≡ is_refused past.refusals path (latest_number (past.notices ++ notice ∷ []) path)
    noted-refused path =
        let low = latest_number-le past.notices path notice.seq.0 newest in
        let none = is_refused-newest past.notices past.refusals notice newest up.rejected path in
        ap (λ (n : Numbers). n.refused) (notes.rows.numbers path) ∙ number-if (λ n. n.refused) (bytes_eq notice.path path) _ _
        ∙ anew-if (bytes_eq notice.path path) (is_refused past.refusals path) (latest_number past.notices path) notice.seq.0 false _ none (omega arith) (up.refused path)
        ∙ ap (is_refused past.refusals path) (sym (latest_number-push past.notices notice path))

    noted-known : (path : List ℕ) → IsTrue (was_noted (past.notices ++ notice ∷ []) path || was_served past.served path) → IsTrue (has_row new.rows path)
    noted-known path told =
        let split = list_any-append (λ (n : Notice). bytes_eq n.path path) past.notices (notice ∷ []) in
        notes.rows.rows path (known-push (was_noted past.notices path) (bytes_eq notice.path path) (was_served past.served path) (has_row kept.rows path) (up.known path)
        (subst (λ b. IsTrue (b || was_served past.served path)) split told))

    noted-unserved : new.unserved ≡ unserved_of (past.notices ++ notice ∷ []) past.served
    noted-unserved =
        let added : ℕ → List Notice = λ s. if nat_lt s notice.seq.0 then notice ∷ [] else [] in
        notes.unserved ∙ ap (λ s. without_number (numbers_at kept.rows notice.path).latest kept.unserved ++ added s) (up.served notice.path)
        ∙ ap (λ l. without_number l kept.unserved ++ added (served_number past.served notice.path)) (up.latest notice.path)
        ∙ ap (λ ns. without_number (latest_number past.notices notice.path) ns ++ added (served_number past.served notice.path)) up.unserved
        ∙ ap (λ ns. ns ++ added (served_number past.served notice.path)) (unserved-others past.notices past.served notice.path up.ascending)
        ∙ sym (unserved-push past.notices past.served notice newest)

    noted-ready : new.ready ≡ filter is_change (filter (λ n. not (is_set_aside retries past.charges past.refusals n)) (unserved_of (past.notices ++ notice ∷ []) past.served))
    noted-ready =
        let waits : Notice → Bool = λ n. not (is_set_aside retries past.charges past.refusals n) in
        let numbers = numbers_at kept.rows notice.path in
        let free = is_refused-newest past.notices past.refusals notice newest up.rejected notice.path in
        let none = charges_of-newest past.notices past.charges notice newest up.charged notice.path in
        let waiting : waits notice ≡ nat_lt 0 retries = ap (λ b. not (b || nat_le retries (charges_of past.charges notice.path notice.seq.0))) free ∙ ap (λ count. not (nat_le retries count)) none ∙ grind (arith, nat_tests) in
        notes.ready ∙ ap (with_newest kept.ready numbers notice) told_joins
        ∙ ap (λ ns. with_newest ns numbers notice (is_change notice && nat_lt 0 retries)) (up.ready ∙ ap (λ ns. filter is_change (filter waits ns)) (sym up.unserved))
        ∙ sym (ready-newest is_change waits kept.unserved numbers notice (is_change notice) (nat_lt 0 retries) refl waiting)
        ∙ ap (λ ns. filter is_change (filter waits ns)) (sym notes.unserved ∙ noted-unserved)

    -- a notice was handed in
    pub IsUpToDate-noted : (after : History) → after ≡ record past { notices = past.notices ++ notice ∷ [] } → IsUpToDate after new retries
    IsUpToDate-noted after told = subst (λ (h : History). IsUpToDate h new retries) (sym told) (record {
      latest = noted-latest;
      served = noted-served;
      attempts = noted-attempts;
      refused = noted-refused;
      known = noted-known;
      unserved = noted-unserved;
      ready = noted-ready;
      ascending = all_pairs_push (λ (a b : Notice). a.seq.0 < b.seq.0) past.notices notice up.ascending newest;
      charged = reached-push past.notices past.charges notice newest up.charged;
      rejected = reached-push past.notices past.refusals notice newest up.rejected;
    })

  module _ (path : List ℕ) (seq : Seq)
      (serves : Serves kept new path seq.0) where
    served-latest : (other : List ℕ) → (numbers_at new.rows other).latest ≡ latest_number past.notices other
    served-latest other =
        ap (λ (n : Numbers). n.latest) (serves.rows.numbers other) ∙ number-if (λ n. n.latest) (bytes_eq path other) _ _
        ∙ same-if path other (λ p. (numbers_at kept.rows p).latest) _ refl ∙ up.latest other

    served-served : (other : List ℕ) → (numbers_at new.rows other).served ≡ served_number (past.served ++ (path, seq) ∷ []) other
    served-served other =
        let here = bytes_eq path other in
        ap (λ (n : Numbers). n.served) (serves.rows.numbers other) ∙ number-if (λ n. n.served) here _ _
        ∙ max-if path other (λ p. (numbers_at kept.rows p).served) seq.0 here refl
        ∙ ap (λ n. if here then max n seq.0 else n) (up.served other) ∙ sym (served_number-push past.served path seq other)

    served-attempts : (other : List ℕ) → (numbers_at new.rows other).attempts ≡ counted (charges_of past.charges other (latest_number past.notices other))
    served-attempts other =
        ap (λ (n : Numbers). n.attempts) (serves.rows.numbers other) ∙ number-if (λ n. n.attempts) (bytes_eq path other) _ _
        ∙ same-if path other (λ p. (numbers_at kept.rows p).attempts) _ refl ∙ up.attempts other

    served-refused : (other : List ℕ) → (numbers_at new.rows other).refused ≡ is_refused past.refusals other (latest_number past.notices other)
    served-refused other =
        ap (λ (n : Numbers). n.refused) (serves.rows.numbers other) ∙ number-if (λ n. n.refused) (bytes_eq path other) _ _
        ∙ same-if path other (λ p. (numbers_at kept.rows p).refused) _ refl ∙ up.refused other

    served-known : (other : List ℕ) → IsTrue (was_noted past.notices other || was_served (past.served ++ (path, seq) ∷ []) other) → IsTrue (has_row new.rows other)
    served-known other told =
        let split = list_any-append (λ (s : List ℕ × Seq). bytes_eq s.0 other) past.served ((path, seq) ∷ []) in
        serves.rows.rows other (served-push (was_noted past.notices other) (was_served past.served other) (bytes_eq path other) (has_row kept.rows other) (up.known other)
        (subst (λ b. IsTrue (was_noted past.notices other || b)) split told))

    served-unserved : new.unserved ≡ unserved_of past.notices (past.served ++ (path, seq) ∷ [])
    served-unserved =
        serves.unserved ∙ ap (λ l. without_served kept.unserved l seq.0) (up.latest path)
        ∙ ap (λ ns. without_served ns (latest_number past.notices path) seq.0) up.unserved
        ∙ sym (unserved-served past.notices past.served path seq up.ascending)

    served-ready : new.ready ≡ filter is_change (filter (λ n. not (is_set_aside retries past.charges past.refusals n)) (unserved_of past.notices (past.served ++ (path, seq) ∷ [])))
    served-ready =
        let waits : Notice → Bool = λ n. not (is_set_aside retries past.charges past.refusals n) in
        let latest = (numbers_at kept.rows path).latest in
        serves.ready ∙ ap (λ ns. without_served ns latest seq.0) (up.ready ∙ ap (λ ns. filter is_change (filter waits ns)) (sym up.unserved))
        ∙ sym (ready-served is_change waits kept.unserved latest seq.0)
        ∙ ap (λ ns. filter is_change (filter waits ns)) (sym serves.unserved ∙ served-unserved)

    -- a served number was handed in
    pub IsUpToDate-served : (after : History) → after ≡ record past { served = past.served ++ (path, seq) ∷ [] } → IsUpToDate after new retries
    IsUpToDate-served after told = subst (λ (h : History). IsUpToDate h new retries) (sym told) (record {
      latest = served-latest;
      served = served-served;
      attempts = served-attempts;
      refused = served-refused;
      known = served-known;
      unserved = served-unserved;
      ready = served-ready;
      ascending = up.ascending;
      charged = up.charged;
      rejected = up.rejected;
    })

  module _ (small : retries ≤ 2 ^ 32 - 1) (charges refusals : List (List ℕ × Seq)) (path : List ℕ) (seq : Seq) (refuses : Bool) (tries : Tries kept new path seq.0 refuses retries)
      (trial : IsTrial past charges refusals path (tried (numbers_at kept.rows path) seq.0 refuses)) where
    abbrev put : Numbers
    put = tried (numbers_at kept.rows path) seq.0 refuses

    -- a part of each row is what it should be, if that of the path is and the others are as before
    tried-each : {X : Type 0} (part : Numbers → X) (said : List ℕ → X) → part put ≡ said path → ((other : List ℕ) → bytes_eq path other ≡ false → part (numbers_at kept.rows other) ≡ said other)
        → (other : List ℕ) → part (numbers_at new.rows other) ≡ said other
    tried-each part said here elsewhere other = ap part (tries.numbers other) ∙ by (bytes_eq path other) refl
      where
        by : (b : Bool) → bytes_eq path other ≡ b → part (if b then put else numbers_at kept.rows other) ≡ said other
        by true same = here ∙ ap said ((bytes_eq-Decides path other).0 same)
        by false apart = elsewhere other apart

    -- a notice was tried in vain
    pub IsUpToDate-tried : (after : History) → after ≡ record past { charges = charges; refusals = refusals } → IsUpToDate after new retries
    IsUpToDate-tried after told = subst (λ (h : History). IsUpToDate h new retries) (sym told) (record {
      latest = tried-each (λ n. n.latest) (latest_number past.notices) (tried-latest (numbers_at kept.rows path) seq.0 refuses ∙ up.latest path) (λ other apart. up.latest other);
      served = tried-each (λ n. n.served) (served_number past.served) (tried-served (numbers_at kept.rows path) seq.0 refuses ∙ up.served path) (λ other apart. up.served other);
      attempts = tried-each (λ n. n.attempts) (λ p. counted (charges_of charges p (latest_number past.notices p))) trial.attempts
          (λ other apart. up.attempts other ∙ ap counted (sym (trial.charges_elsewhere other _ apart)));
      refused = tried-each (λ n. n.refused) (λ p. is_refused refusals p (latest_number past.notices p)) trial.refused (λ other apart. up.refused other ∙ sym (trial.refusals_elsewhere other _ apart));
      known = λ other told. tries.rows other (up.known other told);
      unserved = tries.unserved ∙ up.unserved;
      ready = tries.ready ∙ sym (ready-tried past kept retries up small charges refusals path put trial (tried-latest (numbers_at kept.rows path) seq.0 refuses));
      ascending = up.ascending;
      charged = trial.charged;
      rejected = trial.rejected;
    })
