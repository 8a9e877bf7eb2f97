-- What one more event adds to what a journal tells: one lemma for every column, and one for a fold over it.
use Rattle.std.proofs.Common.{◌≡◌, ◌∙◌, List, [], ◌∷◌, ◌++◌, Option, Some, None, filter_map, option_to_list, refl, ap}
use Rattle.std.specs.Prelude.{fold}
use Rattle.std.proofs.lemmas.List.Elements.{filter_map-append}
use Rattle.std.proofs.lemmas.List.Sums.{fold-append}
use Rattle.ci_journal.specs.declared.event.Event.{Event}
use Rattle.ci_journal.specs.Tells.{Tells, tells, tellings}

filter_map-one : {X Y : Type 0} (f : X → Option Y) (x : X) → filter_map f (x ∷ []) ≡ option_to_list (f x)
filter_map-one {X} {Y} f x = by (f x) refl
  where
    by : (o : Option Y) → f x ≡ o → filter_map f (x ∷ []) ≡ option_to_list (f x)
    by None e = rw e
    by (Some y) e = rw e

pub filter_map-push : {X Y : Type 0} (f : X → Option Y) (xs : List X) (x : X) → filter_map f (xs ++ x ∷ []) ≡ filter_map f xs ++ option_to_list (f x)
filter_map-push f xs x = filter_map-append f xs (x ∷ []) ∙ ap (λ ys. filter_map f xs ++ ys) (filter_map-one f x)

pub tellings-push : {X : Type 0} (column : Tells → Option X) (journal : List Event) (e : Event) → tellings column (journal ++ e ∷ []) ≡ tellings column journal ++ option_to_list (column (tells e.what))
tellings-push column journal e = filter_map-push (λ (e : Event). column (tells e.what)) journal e

pub tellings-append : {X : Type 0} (column : Tells → Option X) (journal more : List Event) → tellings column (journal ++ more) ≡ tellings column journal ++ tellings column more
tellings-append column journal more = filter_map-append (λ (e : Event). column (tells e.what)) journal more

pub tellings-fold : {X Y : Type 0} (column : Tells → Option X) (step : Y → X → Y) (start : Y) (journal : List Event) (e : Event)
    → fold step start (tellings column (journal ++ e ∷ [])) ≡ fold step (fold step start (tellings column journal)) (option_to_list (column (tells e.what)))
tellings-fold column step start journal e =
    ap (λ xs. fold step start xs) (tellings-push column journal e) ∙ fold-append step start (tellings column journal) (option_to_list (column (tells e.what)))
