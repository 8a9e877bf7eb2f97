-- The rounds of a service, and what a call comes to.
use Rattle.std.proofs.Common.{◌≡◌, ◌≢◌, ℕ, ◌+◌, ◌<◌, List, [], ◌∷◌, ◌++◌, Option, Some, None, refl, sym, subst, inl, inr, append-nil}
use Rattle.std.specs.Prelude.{Bool, true, false, MatchOption}
use Rattle.std.specs.List.{AllByRecursion}
use Rattle.ci_chunk.specs.Statuses.{unknown_format}
use Rattle.ci_chunk.specs.Talk.{Talk}
use Rattle.ci_chunk.specs.declared.status.Status.{Status as Code}
use Rattle.ci_chunk.specs.declared.talk.Answer.{Answer}
use Rattle.ci_chunk.specs.declared.talk.Answer.TheVariants as said
use Rattle.ci_chunk.specs.declared.talk.Call.{Call}
use Rattle.ci_wire.specs.Frame.{CanEncode}
use Rattle.ci_daemon.specs.Questions.{AreAsked, Asks, Question}
use Rattle.ci_daemon.specs.Replying.{IsWithin, Leaves, Replies}
use Rattle.ci_daemon.specs.Rounds.{AreRounds, Fits, IsHolders, IsRound, IsUnasked, Round, given_by, is_failing, is_init, lacks, opened, question, refusals}
use Rattle.ci_daemon.specs.declared.holding.Holding.{Holding}
use Rattle.ci_daemon.specs.declared.reply.Reply.{Reply}
use Rattle.ci_daemon.proofs.QuestionLemmas.{all_more, asked_more, asked_one, asked_unheard, refusals_more, refusals_of}

-- rounds, and then others
pub rounds_more : (count : ℕ) (a b c : Option Holding) (x y : List Round) → AreRounds count a x b → AreRounds count b y c → AreRounds count a (x ++ y) c
rounds_more count a b c [] y p q = let P : Option Holding → Type 0 = λ d. AreRounds count d y c in subst P p q
rounds_more count a b c (round ∷ x) y p q = (p.0, p.1, rounds_more count p.0 b c x y p.2 q)

abbrev round_of : Call → List Question → Answer → Round
round_of call asked answer = record { call = call; asked = asked; answer = answer }

abbrev reply_of : Answer → Option Holding → Reply
reply_of answer document = record { answer = answer; document = document }

-- the goal of a call to an open document, by what its chunk lacks
by_lack : (count : ℕ) (holding : Holding) (round : Round) (after : Option Holding) (lack : Option Code) → is_init round.call ≡ false
    → lacks round.call holding.given ≡ lack
    → MatchOption lack (IsHolders holding round after) (λ status. IsUnasked status (Some holding) round after) → IsRound count (Some holding) round after
by_lack count holding round after lack other is fact =
    let P : Bool → Type 0 = λ b. Fits b count (Some holding) round after in
    let Q : Option Code → Type 0 = λ o. MatchOption o (IsHolders holding round after) (λ status. IsUnasked status (Some holding) round after) in
    subst P (sym other) (subst Q (sym is) fact)

-- the filter that holds the document has answered
pub replies_holder : (count : ℕ) (v w : ℕ → Talk → Type 0) (holding : Holding) (call : Call) (answer : Answer) → is_init call ≡ false
    → holding.filter < count → lacks call holding.given ≡ None → Asks v holding.filter call (Some answer) w → CanEncode answer
    → Replies count v (Some holding) call w (reply_of answer (Some (record holding { given = given_by answer holding.given })))
replies_holder count v w holding call answer other within has asks encodes = record {
  asked = question holding.filter call answer ∷ [];
  of_call = (refl, tt);
  by_rules = by_lack count holding (round_of call (question holding.filter call answer ∷ []) answer) _ None other has (record { asked = refl; holds = refl });
  said = asked_one v w holding.filter call answer asks;
  encodes = encodes;
  within = within;
}

-- a filter was asked behind others, and said nothing
pub leaves_behind : (v w u : ℕ → Talk → Type 0) (call : Call) (asked : List Question) (place : ℕ) → AllByRecursion (λ q. q.call ≡ call) asked → AreAsked v asked w
    → Asks w place call None u → Leaves v call u
leaves_behind v w u call asked place of_call before asks =
    let P : List Question → Type 0 = λ qs. AreAsked v qs u in
    record {
      asked = asked;
      of_call = of_call;
      said = subst P (append-nil asked) (asked_more v w u asked [] before (asked_unheard w u place call asks));
    }

-- Init is answered by the first filter that takes the document
within_opened : (count place : ℕ) (answer : Answer) (failing : Bool) → is_failing answer ≡ failing → place < count → IsWithin count (opened place answer)
within_opened count place answer true is within = rw is tt
within_opened count place answer false is within = rw is within

pub replies_taken : (count : ℕ) (v w u : ℕ → Talk → Type 0) (call : Call) (place : ℕ) (answer : Answer) → is_init call ≡ true → place < count
    → answer ≢ said.Status unknown_format → AreAsked v (refusals call place) w → Asks w place call (Some answer) u → CanEncode answer
    → Replies count v None call u (reply_of answer (opened place answer))
replies_taken count v w u call place answer init within takes before asks encodes =
    let asked = refusals call place ++ question place call answer ∷ [] in
    let P : Bool → Type 0 = λ b. Fits b count None (round_of call asked answer) (opened place answer) in
    record {
      asked = asked;
      of_call = all_more (λ q. q.call ≡ call) (refusals call place) (question place call answer ∷ []) (refusals_of call place) (refl, tt);
      by_rules = subst P (sym init) (inl (record { place = place; within = within; takes = takes; asked = refl; holds = refl }));
      said = asked_more v w u (refusals call place) (question place call answer ∷ []) before (asked_one w u place call answer asks);
      encodes = encodes;
      within = within_opened count place answer (is_failing answer) refl within;
    }

-- or by none
pub replies_unknown : (count place : ℕ) (v w : ℕ → Talk → Type 0) (call : Call) (reply : Reply) → is_init call ≡ true → place ≡ count
    → AreAsked v (refusals call place) w → reply ≡ reply_of (said.Status unknown_format) None → Replies count v None call w reply
replies_unknown count place v w call reply init all before is =
    let P : Bool → Type 0 = λ b. Fits b count None (round_of call (refusals call count) (said.Status unknown_format)) None in
    let Q : Reply → Type 0 = λ r. Replies count v None call w r in
    let R : ℕ → Type 0 = λ n. AreAsked v (refusals call n) w in
    subst Q (sym is) (record {
      asked = refusals call count;
      of_call = refusals_of call count;
      by_rules = subst P (sym init) (inr (record { asked = refl; answer = refl; holds = refl }));
      said = subst R all before;
      encodes = tt;
      within = tt;
    })

-- one more filter doesn't take it
pub refused_more : (v w u : ℕ → Talk → Type 0) (call : Call) (place : ℕ) (answer : Answer) → answer ≡ said.Status unknown_format → AreAsked v (refusals call place) w
    → Asks w place call (Some answer) u → AreAsked v (refusals call (place + 1)) u
refused_more v w u call place answer is before asks =
    let P : List Question → Type 0 = λ qs. AreAsked v qs u in
    let Q : Answer → Type 0 = λ a. Asks w place call (Some a) u in
    subst P (sym (refusals_more call place))
    (asked_more v w u (refusals call place) (question place call (said.Status unknown_format) ∷ []) before
    (asked_one w u place call (said.Status unknown_format) (subst Q is asks)))
