-- When paths answer a query.
use Rattle.std.proofs.Common.{arith, ◌≡◌, ◌↔◌, ◌∙◌, ◌==◌, ◌&&◌, ℕ, Bool, true, false, List, [], ◌∷◌, Contains, find, take, Some, None, ⊎_elim, refl, ap, sym, subst}
use Rattle.std.proofs.lemmas.Bool.{and_parts}
use Rattle.std.proofs.lemmas.Bool.Decides.{nat_tests}
use Rattle.std.proofs.lemmas.List.Elements.{All-contains}
use Rattle.ci_dialect.specs.declared.restriction.Restriction.{Restriction}
use Rattle.ci_dialect.specs.Tree.{IsTree}
use Rattle.ci_journal.specs.declared.event.Event.{Event}
use Rattle.ci_journal.specs.declared.request.Request.{Request}
use Rattle.ci_journal.specs.declared.request.Request.TheVariants.{Changed, Deleted, Put, Query, Filter, Shadow, Master, Step, Scan, Pending, Unfiltered, Status, Load, Wait, Quit, Bad, Long}
use Rattle.ci_keys.proofs.OneForm.{Contains-cons_cases, Contains-first, Contains-later, none_in_empty}
use Rattle.ci_journal.specs.Folds.{is_replied}
use Rattle.ci_journal.specs.Queries.{Asks, AsksAt, OpensBefore}
use Rattle.ci_journal.specs.Served.{hits, hits_in, live_map}
use Rattle.ci_journal.specs.Step.{MayAnswer}
use Rattle.ci_journal.specs.Terms.{Terms}
use Rattle.ci_journal.proofs.LawLemmas.{same_request}
use Rattle.ci_holdings.specs.declared.question.Question.{Question}
use Rattle.ci_holdings.specs.Open.{AreOpen, IsOpen}

-- a text has one tree
abbrev pub IsOneTree : Type 0
IsOneTree = (noise : List (List ℕ)) (text : List ℕ) (tree other : Restriction) → IsTree noise text tree → IsTree noise text other → tree ≡ other

-- and so has a request
same_tree : IsOneTree → (noise : List (List ℕ)) (request : Request) (tree other : Restriction) → Asks noise request tree → Asks noise request other → tree ≡ other
same_tree law noise (Query text) tree other one two = law noise text tree other one two
same_tree law noise (Changed path) tree other one two = absurd one
same_tree law noise (Deleted path) tree other one two = absurd one
same_tree law noise (Put path text) tree other one two = absurd one
same_tree law noise Filter tree other one two = absurd one
same_tree law noise Shadow tree other one two = absurd one
same_tree law noise Master tree other one two = absurd one
same_tree law noise Step tree other one two = absurd one
same_tree law noise Scan tree other one two = absurd one
same_tree law noise Pending tree other one two = absurd one
same_tree law noise Unfiltered tree other one two = absurd one
same_tree law noise Status tree other one two = absurd one
same_tree law noise (Load seed count) tree other one two = absurd one
same_tree law noise Wait tree other one two = absurd one
same_tree law noise Quit tree other one two = absurd one
same_tree law noise Bad tree other one two = absurd one
same_tree law noise Long tree other one two = absurd one

-- the question of a query that was opened right before a place
abbrev is_at : ℕ → ℕ → Question → Bool
is_at id at q = q.id == id && q.at == at

is_at-numbers : (id at : ℕ) (p q : Question) → p ≡ q → is_at id at p ≡ true → (q.id ≡ id) × (q.at ≡ at)
is_at-numbers id at p q same here =
    let parts = and_parts (p.id == id) (p.at == at) here in
    (ap (λ (r : Question). r.id) (sym same) ∙ grind (arith, nat_tests, parts.0), ap (λ (r : Question). r.at) (sym same) ∙ grind (arith, nat_tests, parts.1))

-- what is found is there, and it is that question
abbrev IsThere : ℕ → ℕ → List Question → Question → Type 0
IsThere id at qs q = Contains qs q × (q.id ≡ id) × (q.at ≡ at)

found-first : (id at : ℕ) (p : Question) (qs : List Question) (q : Question) (b : Bool) → is_at id at p ≡ b → find (is_at id at) (p ∷ qs) ≡ Some q → (find (is_at id at) qs ≡ Some q → IsThere id at qs q) → IsThere id at (p ∷ qs) q
found-first id at p qs q true here found rest =
    let one : Some p ≡ Some q = sym (rw here refl) ∙ found in
    let same : p ≡ q = cc in
    let numbers = is_at-numbers id at p q same here in
    (subst (λ (r : Question). Contains (p ∷ qs) r) same (Contains-first p qs), numbers.0, numbers.1)
found-first id at p qs q false other found rest =
    let later = rest (sym (rw other refl) ∙ found) in
    (Contains-later p qs q later.0, later.1, later.2)

found-is : (id at : ℕ) (qs : List Question) (q : Question) → find (is_at id at) qs ≡ Some q → IsThere id at qs q
found-is id at [] q found = absurd (cc)
found-is id at (p ∷ qs) q found = found-first id at p qs q (is_at id at p) refl found (found-is id at qs q)

-- what is there is found
none-first : (id at : ℕ) (p : Question) (qs : List Question) (q : Question) (b : Bool) → is_at id at p ≡ b → find (is_at id at) (p ∷ qs) ≡ None → Contains (p ∷ qs) q → q.id ≡ id → q.at ≡ at
    → (find (is_at id at) qs ≡ None → Contains qs q → ⊥) → ⊥
none-first id at p qs q true there none here own place rest = let wrong : Some p ≡ None = sym (rw there refl) ∙ none in cc
none-first id at p qs q false other none here own place rest =
    ⊎_elim
    (λ (first : p ≡ q).
    let is : is_at id at p ≡ true = grind (arith, nat_tests, ap (λ (r : Question). r.id) first, ap (λ (r : Question). r.at) first, own, place) in
    let wrong : true ≡ false = sym is ∙ other in cc)
    (λ later. rest (sym (rw other refl) ∙ none) later)
    (Contains-cons_cases p qs q here)

none-is : (id at : ℕ) (qs : List Question) (q : Question) → find (is_at id at) qs ≡ None → Contains qs q → q.id ≡ id → q.at ≡ at → ⊥
none-is id at [] q none here own place = none_in_empty q here
none-is id at (p ∷ qs) q none here own place = none-first id at p qs q (is_at id at p) refl none here own place (λ later there. none-is id at qs q later there own place)

module _ (terms : Terms) (journal : List Event) (questions : List Question) (id at : ℕ) (paths : List (List ℕ)) (open_ : AreOpen terms journal questions) where
  -- of a query that is open they are the answer exactly where they are its hits
  answers-open : IsOneTree → is_replied journal id ≡ false → (q : Question) → IsOpen terms journal q → q.id ≡ id → q.at ≡ at → (found : List (List ℕ)) → found ≡ hits_in q.tree q.plain
      → (same : Bool) → (same ≡ true) ↔ (found ≡ paths) → (same ≡ true) ↔ MayAnswer terms journal id at paths
  answers-open law unreplied q is own place found found_is same same_is =
      let hits_are : found ≡ hits q.tree (live_map terms (take at journal)) =
      found_is ∙ ap (hits_in q.tree) is.plain ∙ ap (λ n. hits q.tree (live_map terms (take n journal))) place in (
        λ yes. record {
          unreplied = unreplied;
          right = record {
            tree = q.tree;
            asks = subst (λ n. AsksAt terms journal n q.tree) own is.asks;
            opens = subst (λ n. OpensBefore journal n at) own (subst (λ n. OpensBefore journal q.id n) place is.opens);
            hits = sym (same_is.0 yes) ∙ hits_are;
          };
        },
        λ may.
            let its = may.right.asks in
            let asked = subst (λ n. AsksAt terms journal n q.tree) own is.asks in
            let one : its.request ≡ asked.request = same_request journal id its.request asked.request its.found asked.found in
            let trees : q.tree ≡ may.right.tree = same_tree law terms.noise asked.request q.tree may.right.tree asked.asks (subst (λ r. Asks terms.noise r may.right.tree) one its.asks) in
            same_is.1 (hits_are ∙ ap (λ t. hits t (live_map terms (take at journal))) trees ∙ sym may.right.hits),
      )

  pub answers : IsOneTree → is_replied journal id ≡ false → (q : Question) → find (is_at id at) questions ≡ Some q → (found : List (List ℕ)) → found ≡ hits_in q.tree q.plain
      → (same : Bool) → (same ≡ true) ↔ (found ≡ paths) → (same ≡ true) ↔ MayAnswer terms journal id at paths
  answers law unreplied q there found found_is same same_is =
      let parts = found-is id at questions q there in
      answers-open law unreplied q (All-contains (IsOpen terms journal) questions q open_.each parts.0) parts.1 parts.2 found found_is same same_is

  -- a query that isn't open has no answer
  pub no_answer : find (is_at id at) questions ≡ None → MayAnswer terms journal id at paths → ⊥
  no_answer none may =
      let kept = open_.every id at may.right.opens may.unreplied in
      none-is id at questions kept.question none kept.here kept.own kept.place
