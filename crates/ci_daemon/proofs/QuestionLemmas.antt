-- What filters said: questions one after the other.
use Rattle.std.proofs.Common.{◌≡◌, ◌≢◌, ℕ, ◌+◌, List, [], ◌∷◌, ◌++◌, Some, None, refl, sym, ◌∙◌, subst, inl, inr, append_assoc, append-nil, zero-add}
use Rattle.std.specs.Prelude.{Result, Ok, Err, OnErr, map}
use Rattle.std.specs.List.{range_with_len, AllByRecursion}
use Rattle.std.proofs.lemmas.Bool.{cases_eq, eq-eqb, ne_eqb}
use Rattle.std.proofs.lemmas.List.{map-append}
use Rattle.std.proofs.lemmas.List.Elements.{filter-append}
use Rattle.std.proofs.lemmas.List.FromFn.{map-range_with_len_more}
use Rattle.ci_chunk.specs.Statuses.{unknown_format}
use Rattle.ci_chunk.specs.Talk.{Talk}
use Rattle.ci_chunk.specs.declared.talk.Answer.{Answer}
use Rattle.ci_chunk.specs.declared.talk.Answer.TheVariants as said
use Rattle.ci_chunk.specs.declared.talk.Call.{Call}
use Rattle.ci_daemon.specs.Questions.{AreAsked, Asks, HasSaid, Question, said_by}
use Rattle.ci_daemon.specs.Rounds.{question, refusals}

-- nothing was said
says_nothing : (a b : Talk → Type 0) → ((rest : Talk) → b rest → a rest) → HasSaid a [] b
says_nothing a b on = record { might = λ some. absurd (some refl); goes_on = on }

-- a conversation, and then another
might_more : (a b c : Talk → Type 0) (s t : Talk) → HasSaid a s b → HasSaid b t c → s ++ t ≢ [] → a (s ++ t)
might_more a b c s [] p q some = subst a (sym (append-nil s)) (p.might (λ e. some (append-nil s ∙ e)))
might_more a b c s (x ∷ t) p q some = p.goes_on (x ∷ t) (q.might (λ e. cc))

says_more : (a b c : Talk → Type 0) (s t : Talk) → HasSaid a s b → HasSaid b t c → HasSaid a (s ++ t) c
says_more a b c s t p q = record {
  might = might_more a b c s t p q;
  goes_on = λ rest after. subst a (sym (append_assoc s t rest)) (p.goes_on (t ++ rest) (q.goes_on rest after));
}

said_by-append : (place : ℕ) (x y : List Question) → said_by place (x ++ y) ≡ said_by place x ++ said_by place y
said_by-append place x y = simp (filter-append, map-append)

-- questions, and then others
pub asked_more : (a b c : ℕ → Talk → Type 0) (x y : List Question) → AreAsked a x b → AreAsked b y c → AreAsked a (x ++ y) c
asked_more a b c x y p q place =
    let P : Talk → Type 0 = λ said. HasSaid (a place) said (c place) in
    subst P (sym (said_by-append place x y)) (says_more (a place) (b place) (c place) (said_by place x) (said_by place y) (p place) (q place))

-- nothing was asked yet
pub asked_none : (a : ℕ → Talk → Type 0) → AreAsked a [] a
asked_none a place = says_nothing (a place) (a place) (λ rest after. after)

said_here : (place : ℕ) (call : Call) (answer : Answer) (at : ℕ) → place ≡ at → said_by at (question place call answer ∷ []) ≡ (call, answer) ∷ []
said_here place call answer at e = rw (eq-eqb place at e) refl

said_elsewhere : (place : ℕ) (call : Call) (answer : Answer) (at : ℕ) → (place ≡ at → ⊥) → said_by at (question place call answer ∷ []) ≡ []
said_elsewhere place call answer at other = rw (ne_eqb place at other) refl

-- one filter has answered
pub asked_one : (a b : ℕ → Talk → Type 0) (place : ℕ) (call : Call) (answer : Answer) → Asks a place call (Some answer) b → AreAsked a (question place call answer ∷ []) b
asked_one a b place call answer p at =
    let P : Talk → Type 0 = λ said. HasSaid (a at) said (b at) in
    elim (cases_eq place at) [
      | inl e ↦ subst P (sym (said_here place call answer at e))
          (let Q : ℕ → Type 0 = λ n. HasSaid (a n) ((call, answer) ∷ []) (b n) in subst Q e (record { might = λ _. p.heard.might; goes_on = p.heard.goes_on }))
      | inr other ↦ subst P (sym (said_elsewhere place call answer at other)) (says_nothing (a at) (b at) (p.others at (λ e. other (sym e))))
    ]

-- or has said nothing
pub asked_unheard : (a b : ℕ → Talk → Type 0) (place : ℕ) (call : Call) → Asks a place call None b → AreAsked a [] b
asked_unheard a b place call p at =
    elim (cases_eq place at) [
      | inl e ↦ (let Q : ℕ → Type 0 = λ n. HasSaid (a n) [] (b n) in subst Q e (says_nothing (a place) (b place) p.heard))
      | inr other ↦ says_nothing (a at) (b at) (p.others at (λ e. other (sym e)))
    ]

-- one more filter doesn't take the document
pub refusals_more : (call : Call) (count : ℕ) → refusals call (count + 1) ≡ refusals call count ++ question count call (said.Status unknown_format) ∷ []
refusals_more call count = map-range_with_len_more (λ place. question place call (said.Status unknown_format)) 0 count count (zero-add count)

-- each refusal is one of the call
all_refuse : (call : Call) (places : List ℕ) → AllByRecursion (λ q. q.call ≡ call) (map (λ place. question place call (said.Status unknown_format)) places)
all_refuse call [] = tt
all_refuse call (place ∷ places) = (refl, all_refuse call places)

pub refusals_of : (call : Call) (count : ℕ) → AllByRecursion (λ q. q.call ≡ call) (refusals call count)
refusals_of call count = all_refuse call (range_with_len 0 count)

-- what holds of two lists holds of both together
pub all_more : {X : Type 0} (P : X → Type 0) (x y : List X) → AllByRecursion P x → AllByRecursion P y → AllByRecursion P (x ++ y)
all_more {X} P [] y p q = q
all_more {X} P (e ∷ x) y p q = (p.0, all_more P x y p.1 q)

-- what holds holds at an error too
pub on_err : {T E : Type 0} (r : Result T E) (P : Type 0) → P → OnErr r P
on_err (Ok value) P fact = tt
on_err (Err fault) P fact = fact
