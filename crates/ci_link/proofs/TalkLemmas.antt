-- Documents are read one after the other.
use Rattle.std.proofs.Common.{◌≡◌, ℕ, ◌+◌, ◌<◌, ◌++◌, List, [], ◌∷◌, Some, length, take, refl, ap, sym, ◌∙◌, subst, append-nil, get_or}
use Rattle.std.specs.Prelude.{slice_get}
use Rattle.std.proofs.lemmas.List.{take_more}
use Rattle.std.proofs.lemmas.Option.{slice_get_read}
use Rattle.std.proofs.lemmas.Grind.{flat_map-append}
use Rattle.ci_base.specs.declared.numbers.Seq.{Seq}
use Rattle.ci_chunk.specs.Talk.{Talk}
use Rattle.ci_chunk.specs.declared.talk.Answer.{Answer}
use Rattle.ci_chunk.specs.declared.talk.Call.{Call}
use Rattle.ci_link.specs.Document.{Stands, asked}
use Rattle.ci_link.specs.Line.{Exchanges, Speaking, Unanswered}
use Rattle.ci_link.specs.Reading.{IsBegun, IsRead, after}
use Rattle.ci_link.specs.Reading as reading
use Rattle.ci_link.specs.Talking.{AreRead, DiesAt, DiesWithin, Reads, joined}
use Rattle.ci_link.specs.declared.document.Document.{Document}
use Rattle.ci_chunk.specs.declared.outcome.Outcome.{Outcome}
use Rattle.ci_link.proofs.LineLemmas.{dies_behind, dies_illegal, dies_unanswered, exchanges_join, exchanges_none}

-- a document's next call got no answer
pub dies_within : (a b c : Speaking) (path : List ℕ) (document : Document) (talk : Talk) (call : Call) → Stands path document talk
    → call ≡ asked path document.stage → Exchanges a b talk → Unanswered b c call → DiesWithin a c path
dies_within a b c path document talk call stands is before none = record {
  talk = talk;
  call = call;
  begun = (let P : Call → Type 0 = λ x. IsBegun path talk x in subst P (sym is) stands.begun);
  died = dies_unanswered a b c talk call before none;
}

-- or an answer that isn't legal
pub illegal_within : (a b c : Speaking) (path : List ℕ) (document : Document) (talk : Talk) (call : Call) (answer : Answer) → Stands path document talk
    → call ≡ asked path document.stage → Exchanges a b talk → Exchanges b c ((call, answer) ∷ [])
    → reading.after talk (asked path document.stage) answer ≡ reading.Illegal → DiesWithin a c path
illegal_within a b c path document talk call answer stands is before one illegal = record {
  talk = talk;
  call = call;
  begun = (let P : Call → Type 0 = λ x. IsBegun path talk x in subst P (sym is) stands.begun);
  died = dies_illegal a b c talk call answer before one (ap (λ x. reading.after talk x answer) is ∙ illegal);
}

-- or the last one
pub reads_done : (a b c : Speaking) (path : List ℕ) (document : Document) (talk : Talk) (call : Call) (answer : Answer) (outcome : Outcome)
    → Stands path document talk → call ≡ asked path document.stage → Exchanges a b talk → Exchanges b c ((call, answer) ∷ [])
    → reading.after talk (asked path document.stage) answer ≡ reading.Ends outcome → Reads a c path outcome
reads_done a b c path document talk call answer outcome stands is before one ends = record {
  talk = talk ++ (call, answer) ∷ [];
  read = record {
    before = talk;
    call = call;
    answer = answer;
    whole = refl;
    begun = (let P : Call → Type 0 = λ x. IsBegun path talk x in subst P (sym is) stands.begun);
    ends = ap (λ x. reading.after talk x answer) is ∙ ends;
  };
  exchanged = exchanges_join a b c talk ((call, answer) ∷ []) before one;
}

-- or one that another call follows
pub goes_on : (a b c : Speaking) (path : List ℕ) (document next : Document) (talk : Talk) (call : Call) (answer : Answer)
    → call ≡ asked path document.stage → Exchanges a b talk → Exchanges b c ((call, answer) ∷ [])
    → Stands path next (talk ++ (asked path document.stage, answer) ∷ []) → (x : Talk) × Stands path next x × Exchanges a c x
goes_on a b c path document next talk call answer is before one stands = (
  talk ++ (asked path document.stage, answer) ∷ [],
  stands,
  (let P : Call → Type 0 = λ x. Exchanges a c (talk ++ (x, answer) ∷ []) in subst P is (exchanges_join a b c talk ((call, answer) ∷ []) before one)),
)

-- the first documents were read
pub record SoFar (old new : Speaking) (docs : List (List ℕ × Seq)) (outcomes : List Outcome) : Type 0 where
  pub talks : List Talk
  pub read : AreRead docs talks outcomes
  pub exchanged : Exchanges old new (joined talks)

pub so_far_none : (state : Speaking) → SoFar state state [] []
so_far_none state = record { talks = []; read = tt; exchanged = exchanges_none state }

are_read_push : (docs : List (List ℕ × Seq)) (talks : List Talk) (outcomes : List Outcome) (doc : List ℕ × Seq) (talk : Talk) (outcome : Outcome)
    → AreRead docs talks outcomes → IsRead doc.0 talk outcome → AreRead (docs ++ doc ∷ []) (talks ++ talk ∷ []) (outcomes ++ outcome ∷ [])
are_read_push [] [] [] doc talk outcome read one = (one, tt)
are_read_push (d ∷ docs) (t ∷ talks) (o ∷ outcomes) doc talk outcome read one = (read.0, are_read_push docs talks outcomes doc talk outcome read.1 one)
are_read_push [] [] (o ∷ outcomes) doc talk outcome read one = absurd read
are_read_push [] (t ∷ talks) outcomes doc talk outcome read one = absurd read
are_read_push (d ∷ docs) [] outcomes doc talk outcome read one = absurd read
are_read_push (d ∷ docs) (t ∷ talks) [] doc talk outcome read one = absurd read

-- and then one more
pub so_far_push : (a b c : Speaking) (docs : List (List ℕ × Seq)) (outcomes : List Outcome) (doc : List ℕ × Seq) (outcome : Outcome)
    → SoFar a b docs outcomes → Reads b c doc.0 outcome → SoFar a c (docs ++ doc ∷ []) (outcomes ++ outcome ∷ [])
so_far_push a b c docs outcomes doc outcome p q = record {
  talks = p.talks ++ q.talk ∷ [];
  read = are_read_push docs p.talks outcomes doc q.talk outcome p.read q.read;
  exchanged = (let P : Talk → Type 0 = λ t. Exchanges a c t in
      subst P (sym (flat_map-append (λ talk. talk) p.talks (q.talk ∷ []) ∙ ap (λ t. joined p.talks ++ t) (append-nil q.talk)))
      (exchanges_join a b c (joined p.talks) q.talk p.exchanged q.exchanged));
}

-- and then the talk died
pub so_far_dies : (a b c : Speaking) (docs : List (List ℕ × Seq)) (place : ℕ) (outcomes : List Outcome) (doc : List ℕ × Seq)
    → SoFar a b (take place docs) outcomes → slice_get docs place ≡ Some doc → DiesWithin b c doc.0 → DiesAt a c docs place
so_far_dies a b c docs place outcomes doc p at q = record {
  talks = p.talks;
  outcomes = outcomes;
  read = p.read;
  path = doc.0;
  seq = doc.1;
  doc = at;
  talk = q.talk;
  call = q.call;
  begun = q.begun;
  died = dies_behind a b c (joined p.talks) q.talk q.call p.exchanged q.died;
}

-- the document at a place of the list, as a loop has it
pub doc_at : (docs shown : List (List ℕ × Seq)) (place : ℕ) (doc : List ℕ × Seq) → shown ≡ docs → place < length shown → doc ≡ get_or shown place doc
    → slice_get docs place ≡ Some doc
doc_at docs shown place doc same within is = ap (λ l. slice_get l place) (sym same) ∙ slice_get_read shown (length shown) place doc refl within is

pub docs_more : (docs shown : List (List ℕ × Seq)) (place : ℕ) (doc : List ℕ × Seq) → shown ≡ docs → place < length shown → doc ≡ get_or shown place doc
    → take (place + 1) docs ≡ take place docs ++ doc ∷ []
docs_more docs shown place doc same within is =
    ap (λ l. take (place + 1) l) (sym same) ∙ take_more shown place doc within ∙ ap (λ d. take place shown ++ d ∷ []) (sym is) ∙ ap (λ l. take place l ++ doc ∷ []) same
