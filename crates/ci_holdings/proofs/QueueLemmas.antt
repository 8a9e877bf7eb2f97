-- The queries that wait, as one more event comes.
use Rattle.std.proofs.Common.{arith, ◌≡◌, ◌⊎◌, ⊎_elim, inl, inr, ◌∙◌, ◌==◌, ◌||◌, ℕ, ◌+◌, ◌<◌, Bool, true, false, List, [], ◌∷◌, ◌++◌, Contains, length, map, Option, Some, None, option_to_list, slice_get, zero, suc, add-one, refl, ap, sym, subst, append-nil}
use Rattle.std.proofs.lemmas.Bool.Decides.{nat_tests}
use Rattle.std.proofs.lemmas.List.{map-append}
use Rattle.std.proofs.lemmas.List.Elements.{Contains-append_left, Contains-push}
use Rattle.std.specs.List.{AllByRecursion}
use Rattle.ci_dialect.specs.declared.restriction.Restriction.{Restriction}
use Rattle.ci_keys.proofs.OneForm.{Contains-cons_cases, none_in_empty}
use Rattle.ci_journal.specs.declared.event.Event.{Event}
use Rattle.ci_journal.specs.declared.event.Happened.TheVariants.{Asked, Opened}
use Rattle.ci_journal.specs.declared.request.Request.{Request}
use Rattle.ci_journal.specs.Folds.{requests_in, request_at, is_opened}
use Rattle.ci_journal.specs.Queries.{Asks, Waits, IsFirstWaiting}
use Rattle.ci_journal.specs.Step.{Run}
use Rattle.ci_journal.specs.Tells.{event, tells}
use Rattle.ci_journal.specs.Terms.{Terms}
use Rattle.ci_journal.proofs.FoldsLemmas.{requests_in-push, is_number, is_opened-push, slice_get-append, slice_get-push}
use Rattle.ci_journal.proofs.LawLemmas.{within_or_above, get-front, get-last}
use Rattle.ci_journal.proofs.RunLemmas.{request_within, unopened_above}
use Rattle.ci_holdings.specs.declared.waiting.Waiting.{Waiting}
use Rattle.ci_holdings.specs.Asking.{TellsTree, grown}
use Rattle.ci_holdings.specs.Opening.{NoneWaits}
use Rattle.ci_holdings.specs.Waiting.{Ascend, IsQueue}

-- ---- lists of queries

each-weaker : {X : Type 0} (P Q : X → Type 0) → ((x : X) → P x → Q x) → (xs : List X) → AllByRecursion P xs → AllByRecursion Q xs
each-weaker P Q weaker [] all = tt
each-weaker P Q weaker (x ∷ xs) all = (weaker x all.0, each-weaker P Q weaker xs all.1)

each-push : {X : Type 0} (P : X → Type 0) (xs : List X) (x : X) → AllByRecursion P xs → P x → AllByRecursion P (xs ++ x ∷ [])
each-push P [] x all one = (one, tt)
each-push P (y ∷ xs) x all one = (all.0, each-push P xs x all.1 one)

each-both : {X : Type 0} (P Q R : X → Type 0) → ((x : X) → P x → Q x → R x) → (xs : List X) → AllByRecursion P xs → AllByRecursion Q xs → AllByRecursion R xs
each-both P Q R both [] ps qs = tt
each-both P Q R both (x ∷ xs) ps qs = (both x ps.0 qs.0, each-both P Q R both xs ps.1 qs.1)

Ascend-push : (queue : List Waiting) (w : Waiting) → AllByRecursion (λ (v : Waiting). v.id < w.id) queue → Ascend queue → Ascend (queue ++ w ∷ [])
Ascend-push [] w below ascend = (tt, tt)
Ascend-push (v ∷ queue) w below ascend = (each-push (λ (u : Waiting). v.id < u.id) queue w ascend.0 below.0, Ascend-push queue w below.1 ascend.1)

number-within : (P : ℕ → Type 0) (queue : List Waiting) (id : ℕ) → AllByRecursion (λ (v : Waiting). P v.id) queue → Contains (map (λ (v : Waiting). v.id) queue) id → P id
number-within P [] id all here = absurd (none_in_empty id here)
number-within P (v ∷ queue) id all here =
    ⊎_elim (λ (first : v.id ≡ id). subst P first all.0) (λ later. number-within P queue id all.1 later) (Contains-cons_cases v.id (map (λ (u : Waiting). u.id) queue) id here)

-- ---- requests of a longer journal

pub request_at-push : (journal : List Event) (e : Event) (id : ℕ) (r : Request) → request_at journal id ≡ Some r → request_at (journal ++ e ∷ []) id ≡ Some r
request_at-push journal e zero r found = absurd (cc)
request_at-push journal e (suc k) r found = ap (λ rs. slice_get rs k) (requests_in-push journal e) ∙ slice_get-append (requests_in journal) _ k r found

pub request_at-new : (journal : List Event) (by id : ℕ) (r : Request) → request_at (journal ++ event by (Asked id r) ∷ []) (length (requests_in journal) + 1) ≡ Some r
request_at-new journal by id r =
    ap (request_at (journal ++ event by (Asked id r) ∷ [])) (add-one (length (requests_in journal)))
    ∙ ap (λ rs. slice_get rs (length (requests_in journal))) (requests_in-push journal (event by (Asked id r))) ∙ slice_get-push (requests_in journal) r

-- the request was asked before, or it is that of the last event
request_at-last : (journal : List Event) (e : Event) (id : ℕ) (r : Request) → request_at (journal ++ e ∷ []) id ≡ Some r → (request_at journal id ≡ Some r) ⊎ ((id ≡ length (requests_in journal) + 1) × ((tells e.what).request ≡ Some r))
request_at-last journal e zero r found = absurd (cc)
request_at-last journal e (suc k) r found = by (tells e.what).request refl
  where
    by : (o : Option Request) → (tells e.what).request ≡ o → (slice_get (requests_in journal) k ≡ Some r) ⊎ ((suc k ≡ length (requests_in journal) + 1) × ((tells e.what).request ≡ Some r))
    by None none =
        let same : requests_in (journal ++ e ∷ []) ≡ requests_in journal = requests_in-push journal e ∙ ap (λ o. requests_in journal ++ option_to_list o) none ∙ append-nil (requests_in journal) in
        inl (ap (λ rs. slice_get rs k) (sym same) ∙ found)
    by (Some q) one =
        let grows : requests_in (journal ++ e ∷ []) ≡ requests_in journal ++ q ∷ [] = requests_in-push journal e ∙ ap (λ o. requests_in journal ++ option_to_list o) one in
        let there : slice_get (requests_in journal ++ q ∷ []) k ≡ Some r = ap (λ rs. slice_get rs k) (sym grows) ∙ found in
        ⊎_elim
        (λ above. let last = get-last (requests_in journal) q r k above there in inr (omega (arith, last.0), one ∙ ap Some last.1))
        (λ below. inl (sym (get-front (requests_in journal) (q ∷ []) k below) ∙ there))
        (within_or_above (length (requests_in journal)) k)

pub neither : (a b : Bool) → (a || b) ≡ false → (a ≡ false) × (b ≡ false)
neither true b e = absurd (cc)
neither false b e = (refl, e)

apart : (a b : ℕ) → a < b → (a == b) ≡ false
apart a b below = grind (arith, nat_tests, below)

-- ---- what waits behind a longer journal

module _ (terms : Terms) (journal : List Event) where
  pub Waits-after : (e : Event) (id : ℕ) (tree : Restriction) → is_number id (tells e.what).opening ≡ false → Waits terms journal id tree → Waits terms (journal ++ e ∷ []) id tree
  Waits-after e id tree other waits = record {
    asks = record { request = waits.asks.request; found = request_at-push journal e id waits.asks.request waits.asks.found; asks = waits.asks.asks };
    unopened = is_opened-push journal e id ∙ rw (waits.unopened, other) refl;
  }

  -- it waited before, or it was just asked
  pub Waits-before : (e : Event) (id : ℕ) (tree : Restriction) → Waits terms (journal ++ e ∷ []) id tree
      → Waits terms journal id tree ⊎ ((id ≡ length (requests_in journal) + 1) × (r : Request) × ((tells e.what).request ≡ Some r) × Asks terms.noise r tree)
  Waits-before e id tree waits =
      let asks = waits.asks in
      let unopened : (is_opened journal id || is_number id (tells e.what).opening) ≡ false = sym (is_opened-push journal e id) ∙ waits.unopened in
      ⊎_elim
      (λ found. inl (record { asks = record { request = asks.request; found = found; asks = asks.asks }; unopened = (neither (is_opened journal id) _ unopened).0 }))
      (λ last. inr (last.0, asks.request, last.1, asks.asks))
      (request_at-last journal e id asks.request asks.found)

  -- an event that asks and opens nothing
  pub IsQueue-silent : (e : Event) (queue : List Waiting) → (tells e.what).request ≡ None → (tells e.what).opening ≡ None → IsQueue terms journal queue → IsQueue terms (journal ++ e ∷ []) queue
  IsQueue-silent e queue no_request no_opening kept = record {
    each = each-weaker (λ (w : Waiting). Waits terms journal w.id w.tree) (λ (w : Waiting). Waits terms (journal ++ e ∷ []) w.id w.tree)
        (λ w waits. Waits-after e w.id w.tree (ap (is_number w.id) no_opening) waits) queue kept.each;
    every = λ id tree waits. ⊎_elim (λ before. kept.every id tree before) (λ new. absurd (let wrong : None ≡ Some new.1 = sym no_request ∙ new.2 in cc)) (Waits-before e id tree waits);
    order = kept.order;
  }

  waits-within : (queue : List Waiting) → AllByRecursion (λ (w : Waiting). Waits terms journal w.id w.tree) queue → (id : ℕ) → length (requests_in journal) < id → AllByRecursion (λ (w : Waiting). w.id < id) queue
  waits-within queue each id above =
      each-weaker (λ (w : Waiting). Waits terms journal w.id w.tree) (λ (w : Waiting). w.id < id)
      (λ w waits. omega (arith, above, (request_within journal w.id waits.asks.request waits.asks.found).1)) queue each

  same_request : (q r : Request) → Some q ≡ Some r → q ≡ r
  same_request q r e = cc

  -- a request that is asked waits behind the others, where it has a tree
  pub IsQueue-asked : (by id : ℕ) (request : Request) (queue : List Waiting) → Run terms journal → id ≡ length (requests_in journal) + 1 → (tree : Option Restriction) → TellsTree terms.noise request tree
      → IsQueue terms journal queue → IsQueue terms (journal ++ event by (Asked id request) ∷ []) (grown queue id tree)
  IsQueue-asked by id request queue run next None none kept = record {
    each = each-weaker (λ (w : Waiting). Waits terms journal w.id w.tree) (λ (w : Waiting). Waits terms (journal ++ event by (Asked id request) ∷ []) w.id w.tree)
        (λ w waits. Waits-after (event by (Asked id request)) w.id w.tree refl waits) queue kept.each;
    every = λ other its waits. ⊎_elim (λ before. kept.every other its before)
        (λ new. absurd (none its (subst (λ r. Asks terms.noise r its) (sym (same_request request new.1 new.2)) new.3))) (Waits-before (event by (Asked id request)) other its waits);
    order = kept.order;
  }
  IsQueue-asked by id request queue run next (Some tree) asks kept =
      let e : Event = event by (Asked id request) in
      let one : Waiting = record { id = id; tree = tree } in
      let above : length (requests_in journal) < id = omega (arith, next) in
      let waits_new : Waits terms (journal ++ e ∷ []) id tree = record {
        asks = record { request = request; found = ap (request_at (journal ++ e ∷ [])) next ∙ request_at-new journal by id request; asks = asks };
        unopened = is_opened-push journal e id ∙ rw (unopened_above terms journal run id above) refl;
      } in
      let shown : map (λ (w : Waiting). w.id) (queue ++ one ∷ []) ≡ map (λ (w : Waiting). w.id) queue ++ id ∷ [] = map-append (λ (w : Waiting). w.id) queue (one ∷ []) in
      record {
        each = each-push (λ (w : Waiting). Waits terms (journal ++ e ∷ []) w.id w.tree) queue one
            (each-weaker (λ (w : Waiting). Waits terms journal w.id w.tree) (λ (w : Waiting). Waits terms (journal ++ e ∷ []) w.id w.tree) (λ w waits. Waits-after e w.id w.tree refl waits) queue kept.each) waits_new;
        every = λ other its waits. subst (λ ids. Contains ids other) (sym shown)
            (⊎_elim (λ before. Contains-append_left (map (λ (w : Waiting). w.id) queue) (id ∷ []) other (kept.every other its before))
            (λ new. subst (Contains (map (λ (w : Waiting). w.id) queue ++ id ∷ [])) (next ∙ sym new.0) (Contains-push (map (λ (w : Waiting). w.id) queue) id))
            (Waits-before e other its waits));
        order = Ascend-push queue one (waits-within queue kept.each id above) kept.order;
      }

  -- the first query that waits is opened
  pub IsQueue-opened : (by : ℕ) (first : Waiting) (queue : List Waiting) → IsQueue terms journal (first ∷ queue) → IsQueue terms (journal ++ event by (Opened first.id) ∷ []) queue
  IsQueue-opened by first queue kept =
      let e : Event = event by (Opened first.id) in
      record {
        each = each-both (λ (w : Waiting). first.id < w.id) (λ (w : Waiting). Waits terms journal w.id w.tree) (λ (w : Waiting). Waits terms (journal ++ e ∷ []) w.id w.tree)
            (λ w above waits. Waits-after e w.id w.tree (apart first.id w.id above) waits) queue kept.order.0 kept.each.1;
        every = λ other its waits.
            let unopened : (is_opened journal other || (first.id == other)) ≡ false = sym (is_opened-push journal e other) ∙ waits.unopened in
            let another = (neither (is_opened journal other) (first.id == other) unopened).1 in
            ⊎_elim
            (λ before. ⊎_elim
            (λ (same : first.id ≡ other). absurd (let is : (first.id == other) ≡ true = grind (arith, nat_tests, same) in let wrong : true ≡ false = sym is ∙ another in cc))
            (λ later. later)
            (Contains-cons_cases first.id (map (λ (w : Waiting). w.id) queue) other (kept.every other its before)))
            (λ new. absurd (let wrong : None ≡ Some new.1 = new.2 in cc))
            (Waits-before e other its waits);
        order = kept.order.1;
      }

  -- the first of the queue is the first that waits
  pub IsQueue-first : (first : Waiting) (queue : List Waiting) → IsQueue terms journal (first ∷ queue) → IsFirstWaiting terms journal first.id first.tree
  IsQueue-first first queue kept = record {
    waits = kept.each.0;
    least = λ other its waits. ⊎_elim (λ (same : first.id ≡ other). omega (arith, same))
        (λ later. let above = number-within (λ n. first.id < n) queue other kept.order.0 later in omega (arith, above))
        (Contains-cons_cases first.id (map (λ (w : Waiting). w.id) queue) other (kept.every other its waits));
  }

  -- where the queue is empty none waits
  pub IsQueue-none : IsQueue terms journal [] → NoneWaits terms journal
  IsQueue-none kept id tree waits = none_in_empty id (kept.every id tree waits)

  -- one query is the first that waits
  pub same_first : (id other : ℕ) (tree its : Restriction) → IsFirstWaiting terms journal id tree → IsFirstWaiting terms journal other its → id ≡ other
  same_first id other tree its one two = let below = one.least other its two.waits in let above = two.least id tree one.waits in omega (arith, below, above)

-- nothing waits in an empty journal
pub IsQueue-empty : (terms : Terms) → IsQueue terms [] []
IsQueue-empty terms = record { each = tt; every = λ id tree waits. absurd (none id tree waits); order = tt }
  where
    none : (id : ℕ) (tree : Restriction) → Waits terms [] id tree → ⊥
    none zero tree waits = let wrong = waits.asks.found in cc
    none (suc k) tree waits = let wrong = waits.asks.found in cc
