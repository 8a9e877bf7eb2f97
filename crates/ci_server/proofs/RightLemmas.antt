-- Each reply of a session in turns is right.
use Rattle.std.proofs.Common.{arith, ◌≡◌, ◌∙◌, ℕ, ◌+◌, ◌≤◌, List, [], ◌∷◌, ◌++◌, length, take, drop, Some, slice_get, suc, ⊎_elim, inl, inr, refl, ap, sym, subst, append-nil, append_assoc}
use Rattle.std.specs.List.{AllByRecursion}
use Rattle.std.proofs.lemmas.Bool.{cases_lt}
use Rattle.std.proofs.lemmas.List.{length-append, take_all}
use Rattle.ci_journal.specs.declared.event.Event.{Event}
use Rattle.ci_journal.specs.declared.event.Happened.{Happened}
use Rattle.ci_journal.specs.declared.event.Happened.TheVariants.{Asked, Answered, Said}
use Rattle.ci_journal.specs.declared.reply.Reply.{Reply}
use Rattle.ci_journal.specs.declared.request.Request.{Request}
use Rattle.ci_journal.specs.Tells.{event}
use Rattle.ci_journal.specs.Terms.{Terms}
use Rattle.ci_journal.proofs.LawLemmas.{get-front, get-last, take-front}
use Rattle.ci_server.specs.Right.{AllReply, IsRight, RepliesAt}
use Rattle.ci_server.specs.Session.{InTurns}
use Rattle.ci_server.specs.Turns.{AreFirst, AreSteps, IsTurnFront, Turns}
use Rattle.ci_server.specs.Turns.Turns.{None as no_turns, Turn}
use Rattle.ci_server.proofs.FrontLemmas.{IsSilent, front-adds}

drop-front : {X : Type 0} (xs : List X) (x : X) (ys : List X) → drop (length xs + 1) (xs ++ x ∷ ys) ≡ ys
drop-front [] x ys = refl
drop-front (z ∷ xs) x ys = let next : length (z ∷ xs) + 1 ≡ suc (length xs + 1) = omega arith in rw next (drop-front xs x ys)

get-between : {X : Type 0} (xs : List X) (x : X) (ys : List X) → slice_get (xs ++ x ∷ ys) (length xs) ≡ Some x
get-between [] x ys = refl
get-between (z ∷ xs) x ys = get-between xs x ys

module _ (terms : Terms) where
  -- a reply is right whatever stands behind it
  RepliesAt-longer : (journal more : List Event) (place id : ℕ) (said : Reply) → place ≤ length journal → RepliesAt terms journal place id said → RepliesAt terms (journal ++ more) place id said
  RepliesAt-longer journal more place id said within replies =
      let same : take place (journal ++ more) ≡ take place journal = take-front journal more place within in
      record {
        at = replies.at;
        before = replies.before;
        request = replies.request;
        found = get-front journal more replies.at (omega (arith, within, replies.before)) ∙ replies.found;
        right = subst (λ es. IsRight terms es (drop (replies.at + 1) es) id replies.request said) (sym same) replies.right;
      }

  -- behind one more event, where it is right if it is a reply
  AllReply-push : (journal : List Event) (e : Event) → AllReply terms journal → ((id : ℕ) (said : Reply) → e.what ≡ Said id said → RepliesAt terms (journal ++ e ∷ []) (length journal) id said)
      → AllReply terms (journal ++ e ∷ [])
  AllReply-push journal e all last place by id said found =
      elim (cases_lt place (length journal)) [
        | inl below ↦
            RepliesAt-longer journal (e ∷ []) place id said (omega (arith, below)) (all place by id said (sym (get-front journal (e ∷ []) place below) ∙ found))
        | inr above ↦
            let is = get-last journal e (event by (Said id said)) place above found in
            subst (λ n. RepliesAt terms (journal ++ e ∷ []) n id said) (sym is.0) (last id said (ap (λ (x : Event). x.what) is.1))
      ]

  -- behind events that reply to nothing
  AllReply-silent : (journal events : List Event) → AllReply terms journal → AllByRecursion IsSilent events → AllReply terms (journal ++ events)
  AllReply-silent journal [] all silent = subst (AllReply terms) (sym (append-nil journal)) all
  AllReply-silent journal (e ∷ events) all silent =
      subst (AllReply terms) (append_assoc journal (e ∷ []) events)
      (AllReply-silent (journal ++ e ∷ []) events (AllReply-push journal e all (λ id said is. absurd (silent.0 id said is))) silent.1)

  ask_silent : (id : ℕ) (request : Request) → IsSilent (event 0 (Asked id request))
  ask_silent id request other said is = absurd (cc)

  -- ---- a turn

  module _ (journal : List Event) (id : ℕ) (request : Request) (all : AllReply terms journal) where
    asked-all : AllReply terms (journal ++ event 0 (Asked id request) ∷ [])
    asked-all = AllReply-silent journal (event 0 (Asked id request) ∷ []) all (ask_silent id request, tt)

    -- the reply is right behind the steps, which stand behind the asking
    replies-last : (events : List Event) (said : Reply) → IsRight terms ((journal ++ event 0 (Asked id request) ∷ []) ++ events) events id request said
        → RepliesAt terms (((journal ++ event 0 (Asked id request) ∷ []) ++ events) ++ event 0 (Said id said) ∷ []) (length ((journal ++ event 0 (Asked id request) ∷ []) ++ events)) id said
    replies-last events said right =
        let asking = event 0 (Asked id request) in
        let before = (journal ++ asking ∷ []) ++ events in
        let parts : before ≡ journal ++ asking ∷ events = append_assoc journal (asking ∷ []) events in
        let count : length before ≡ length journal + suc (length events) = ap length parts ∙ length-append journal (asking ∷ events) in
        let all_before : take (length before) (before ++ event 0 (Said id said) ∷ []) ≡ before =
        take-front before (event 0 (Said id said) ∷ []) (length before) (omega arith) ∙ take_all (length before) before (omega arith) in
        let since : drop (length journal + 1) before ≡ events = ap (drop (length journal + 1)) parts ∙ drop-front journal asking events in
        record {
          at = length journal;
          before = omega (arith, count);
          request = request;
          found = get-front before (event 0 (Said id said) ∷ []) (length journal) (omega (arith, count)) ∙ ap (λ es. slice_get es (length journal)) parts ∙ get-between journal asking events;
          right = subst (λ es. IsRight terms es (drop (length journal + 1) es) id request said) (sym all_before)
              (subst (λ es. IsRight terms before es id request said) (sym since) right);
        }

    steps-reply : (steps : List Event) → AreSteps terms (journal ++ event 0 (Asked id request) ∷ []) id request steps → AllReply terms ((journal ++ event 0 (Asked id request) ∷ []) ++ steps)
    steps-reply steps made =
        let asked = journal ++ event 0 (Asked id request) ∷ [] in
        let before = AllReply-silent asked made.events asked-all (front-adds terms asked id request made.steps made.events made.front).silent in
        subst (λ es. AllReply terms (asked ++ es)) (sym made.events_are)
        (subst (AllReply terms) (append_assoc asked made.events (event 0 made.last ∷ []))
        (⊎_elim (λ replied. subst (λ (w : Happened). AllReply terms ((asked ++ made.events) ++ event 0 w ∷ [])) (sym replied.1)
        (AllReply-push (asked ++ made.events) (event 0 (Said id replied.0)) before (λ other said is. last made.events replied.0 replied.2 other said is)))
        (λ answered. subst (λ (w : Happened). AllReply terms ((asked ++ made.events) ++ event 0 w ∷ [])) (sym answered.3)
        (AllReply-push (asked ++ made.events) (event 0 (Answered id answered.1 answered.2)) before (λ other said is. absurd (cc)))) made.ends))
      where
        last : (events : List Event) (said : Reply) → IsRight terms ((journal ++ event 0 (Asked id request) ∷ []) ++ events) events id request said → (other : ℕ) (its : Reply) → Said id said ≡ Said other its
            → RepliesAt terms (((journal ++ event 0 (Asked id request) ∷ []) ++ events) ++ event 0 (Said id said) ∷ []) (length ((journal ++ event 0 (Asked id request) ∷ []) ++ events)) other its
        last events said right other its is =
            let number : id ≡ other = cc in
            let reply : said ≡ its = cc in
            subst (λ n. RepliesAt terms (((journal ++ event 0 (Asked id request) ∷ []) ++ events) ++ event 0 (Said id said) ∷ []) (length ((journal ++ event 0 (Asked id request) ∷ []) ++ events)) n its) number
            (subst (λ (r : Reply). RepliesAt terms (((journal ++ event 0 (Asked id request) ∷ []) ++ events) ++ event 0 (Said id said) ∷ []) (length ((journal ++ event 0 (Asked id request) ∷ []) ++ events)) id r) reply
            (replies-last events said right))

    first-reply : (events : List Event) → AreFirst terms (journal ++ event 0 (Asked id request) ∷ []) id request events → AllReply terms ((journal ++ event 0 (Asked id request) ∷ []) ++ events)
    first-reply events first =
        ⊎_elim (λ front. AllReply-silent (journal ++ event 0 (Asked id request) ∷ []) events asked-all (front-adds terms (journal ++ event 0 (Asked id request) ∷ []) id request front.0 events front.1).silent)
        (λ made. steps-reply events made) first

    front-reply : (front : List Event) → IsTurnFront terms journal id request front → AllReply terms (journal ++ front)
    front-reply front fits =
        ⊎_elim (λ none. subst (λ es. AllReply terms (journal ++ es)) (sym none) (subst (AllReply terms) (sym (append-nil journal)) all))
        (λ begun. subst (λ es. AllReply terms (journal ++ es)) (sym begun.2)
        (subst (AllReply terms) (append_assoc journal (event 0 (Asked id request) ∷ []) begun.0) (first-reply begun.0 begun.1))) fits

  -- ---- turns

  AllReply-none : AllReply terms []
  AllReply-none place by id said found = absurd (cc)

  AllReply-turns : (journal : List Event) (served : List Request) → Turns terms journal served → AllReply terms journal
  AllReply-turns _ _ no_turns = AllReply-none
  AllReply-turns _ _ (Turn journal served id request events turns turn) =
      front-reply journal id request (AllReply-turns journal served turns) events (inr (turn.steps, inr turn.made, turn.events_are))

  pub AllReply-in_turns : (journal : List Event) → InTurns terms journal → AllReply terms journal
  AllReply-in_turns journal turns =
      let whole = AllReply-turns turns.whole turns.turns.0 turns.turns.1 in
      subst (AllReply terms) (sym turns.events)
      (⊎_elim (λ none. subst (λ es. AllReply terms (turns.whole ++ es)) (sym none) (subst (AllReply terms) (sym (append-nil turns.whole)) whole))
      (λ cut. front-reply turns.whole cut.0 cut.1 whole turns.front cut.2) turns.cut)
