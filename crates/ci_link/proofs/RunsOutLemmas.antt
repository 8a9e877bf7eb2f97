-- Memory runs out in a talk.
use Rattle.std.proofs.Common.{◌≡◌, ℕ, ◌++◌, List, [], ◌∷◌, Some, Option, refl, ap, sym, ◌∙◌, subst, append_assoc, append-nil, inl, inr, take}
use Rattle.std.specs.Prelude.{slice_get}
use Rattle.std.specs.Io.KnownBytes.{Appends}
use Rattle.std.proofs.KnownBytes.{Appends-nil, Appends-trans}
use Rattle.ci_base.specs.declared.numbers.Seq.{Seq}
use Rattle.ci_chunk.specs.Talk.{Talk}
use Rattle.ci_chunk.specs.declared.outcome.Outcome.{Outcome}
use Rattle.ci_chunk.specs.declared.talk.Answer.{Answer as Said}
use Rattle.ci_chunk.specs.declared.talk.Call.{Call as Asked}
use Rattle.ci_wire.specs.Frame.{frame_spelling}
use Rattle.ci_wire.specs.declared.frame.Frame.TheVariants.{Call}
use Rattle.ci_link.specs.Document.{Stands, asked}
use Rattle.ci_link.specs.Line.{Exchanges, GivesSome, Receives, RunsOut, RunsShort, Speaking, answers_bytes, calls_bytes}
use Rattle.ci_link.specs.Reading.{IsBegun}
use Rattle.ci_link.specs.Talking.{Reads, RunsOutAt, RunsOutWithin, joined}
use Rattle.ci_link.specs.declared.document.Document.{Document}
use Rattle.ci_chunk.specs.declared.outcome.Outcome.{Outcome}
use Rattle.ci_link.proofs.LineLemmas.{Appends-to, answers_join, calls_join, read_join}
use Rattle.ci_link.proofs.TalkLemmas.{SoFar}

-- some bytes were received, and not held
pub gives_some : (a b : Speaking) (received : List ℕ) → Appends a.given b.given received → b.sent ≡ a.sent → b.faults ≡ a.faults → GivesSome a b
gives_some a b received given sent faults = record { received = received; given = given; sent = sent; faults = faults }

-- some bytes were received before, and then some more
pub gives_more : (a b c d : Speaking) (received : List ℕ) → Receives a b received → c.given ≡ b.given → c.sent ≡ b.sent → c.faults ≡ b.faults
    → GivesSome c d → GivesSome a d
gives_more a b c d received p given sent faults more = record {
  received = received ++ more.received;
  given = Appends-trans a.given b.given d.given received more.received p.given
      (let P : Option (List ℕ) → Type 0 = λ g. Appends g d.given more.received in subst P given more.given);
  sent = more.sent ∙ sent ∙ p.sent;
  faults = more.faults ∙ faults ∙ p.faults;
}

-- and nothing more
pub gives_same : (a b c : Speaking) (received : List ℕ) → Receives a b received → c.given ≡ b.given → c.sent ≡ b.sent → c.faults ≡ b.faults → GivesSome a c
gives_same a b c received p given sent faults = record {
  received = received;
  given = (let P : Option (List ℕ) → Type 0 = λ g. Appends a.given g received in subst P (sym given) p.given);
  sent = sent ∙ p.sent;
  faults = faults ∙ p.faults;
}

-- a call wasn't spelled
pub short_unspelled : (a : Speaking) (call : Asked) → RunsShort a a call
short_unspelled a call = record {
  received = [];
  given = Appends-nil a.given;
  part = [];
  sent = Appends-nil a.sent;
  whole = inl refl;
  faults = refl;
}

-- a call was sent, and memory ran out before its answer was read
pub short_unread : (a m b : Speaking) (call : Asked) (bytes : List ℕ) → bytes ≡ frame_spelling (Call call) → Appends a.sent m.sent bytes
    → m.given ≡ a.given → m.faults ≡ a.faults → GivesSome m b → RunsShort a b call
short_unread a m b call bytes spelled sent given faults more = record {
  received = more.received;
  given = (let P : Option (List ℕ) → Type 0 = λ g. Appends g b.given more.received in subst P given more.given);
  part = bytes;
  sent = (let P : Option (List ℕ) → Type 0 = λ g. Appends a.sent g bytes in subst P (sym more.sent) sent);
  whole = inr spelled;
  faults = more.faults ∙ faults;
}

-- memory ran out at a call, behind the exchanges of its document
pub out_behind : (a b c : Speaking) (talk : Talk) (call : Asked) → Exchanges a b talk → RunsShort b c call → RunsOut a c [] talk call
out_behind a b c talk call p q = record {
  received = p.received ++ q.received;
  given = Appends-trans a.given b.given c.given p.received q.received p.given q.given;
  rest = b.fed.bytes ++ q.received;
  read = sym (append_assoc a.fed.bytes p.received q.received) ∙ ap (λ l. l ++ q.received) p.read ∙ append_assoc (answers_bytes talk) b.fed.bytes q.received;
  part = q.part;
  sent = Appends-trans a.sent b.sent c.sent (calls_bytes talk) q.part p.sent q.sent;
  whole = q.whole;
  faults = q.faults ∙ p.faults;
}

-- or behind the call's answer
pub out_heard : (a b c : Speaking) (talk : Talk) (call : Asked) (answer : Said) → Exchanges a b talk → Exchanges b c ((call, answer) ∷ []) → RunsOut a c [] talk call
out_heard a b c talk call answer p q = out_behind a b c talk call p (record {
  received = q.received;
  given = q.given;
  part = frame_spelling (Call call);
  sent = Appends-to b.sent c.sent (calls_bytes ((call, answer) ∷ [])) (frame_spelling (Call call)) (append-nil (frame_spelling (Call call))) q.sent;
  whole = inr refl;
  faults = q.faults;
})

-- and behind the exchanges of earlier documents
pub out_later : (a b c : Speaking) (earlier talk : Talk) (call : Asked) → Exchanges a b earlier → RunsOut b c [] talk call → RunsOut a c earlier talk call
out_later a b c earlier talk call p q = record {
  received = p.received ++ q.received;
  given = Appends-trans a.given b.given c.given p.received q.received p.given q.given;
  rest = q.rest;
  read = read_join a.fed.bytes p.received b.fed.bytes q.received q.rest (answers_bytes earlier) (answers_bytes talk) p.read q.read ∙ ap (λ l. l ++ q.rest) (sym (answers_join earlier talk));
  part = q.part;
  sent = Appends-to _ _ _ _ (sym (append_assoc (calls_bytes earlier) (calls_bytes talk) q.part) ∙ ap (λ l. l ++ q.part) (sym (calls_join earlier talk)))
      (Appends-trans a.sent b.sent c.sent (calls_bytes earlier) (calls_bytes talk ++ q.part) p.sent q.sent);
  whole = q.whole;
  faults = q.faults ∙ p.faults;
}

-- memory ran out at a document's next call
pub out_within : (a b c : Speaking) (path : List ℕ) (document : Document) (talk : Talk) (call : Asked) → Stands path document talk
    → call ≡ asked path document.stage → Exchanges a b talk → RunsShort b c call → RunsOutWithin a c path
out_within a b c path document talk call stands is before short = record {
  talk = talk;
  call = call;
  begun = (let P : Asked → Type 0 = λ x. IsBegun path talk x in subst P (sym is) stands.begun);
  ran_out = out_behind a b c talk call before short;
}

-- or when its answer was heard
pub out_hearing : (a b c : Speaking) (path : List ℕ) (document : Document) (talk : Talk) (call : Asked) (answer : Said) → Stands path document talk
    → call ≡ asked path document.stage → Exchanges a b talk → Exchanges b c ((call, answer) ∷ []) → RunsOutWithin a c path
out_hearing a b c path document talk call answer stands is before one = record {
  talk = talk;
  call = call;
  begun = (let P : Asked → Type 0 = λ x. IsBegun path talk x in subst P (sym is) stands.begun);
  ran_out = out_heard a b c talk call answer before one;
}

-- the outcome of a document that was read wasn't kept: as if memory had run out when its last answer was heard
pub out_reading : (a b : Speaking) (path : List ℕ) (outcome : Outcome) → Reads a b path outcome → RunsOutWithin a b path
out_reading a b path outcome p = record {
  talk = p.read.before;
  call = p.read.call;
  begun = p.read.begun;
  ran_out = record {
    received = p.exchanged.received;
    given = p.exchanged.given;
    rest = answers_bytes ((p.read.call, p.read.answer) ∷ []) ++ b.fed.bytes;
    read = p.exchanged.read ∙ ap (λ t. answers_bytes t ++ b.fed.bytes) p.read.whole ∙ ap (λ l. l ++ b.fed.bytes) (answers_join p.read.before ((p.read.call, p.read.answer) ∷ []))
        ∙ append_assoc (answers_bytes p.read.before) (answers_bytes ((p.read.call, p.read.answer) ∷ [])) b.fed.bytes;
    part = frame_spelling (Call p.read.call);
    sent = Appends-to a.sent b.sent (calls_bytes p.talk) (calls_bytes p.read.before ++ frame_spelling (Call p.read.call))
        (ap calls_bytes p.read.whole ∙ calls_join p.read.before ((p.read.call, p.read.answer) ∷ [])
        ∙ ap (λ l. calls_bytes p.read.before ++ l) (append-nil (frame_spelling (Call p.read.call)))) p.exchanged.sent;
    whole = inr refl;
    faults = p.exchanged.faults;
  };
}

-- the documents before this one were read
pub out_at : (a b c : Speaking) (docs : List (List ℕ × Seq)) (place : ℕ) (outcomes : List Outcome) (doc : List ℕ × Seq)
    → SoFar a b (take place docs) outcomes → slice_get docs place ≡ Some doc → RunsOutWithin b c doc.0 → RunsOutAt a c docs
out_at a b c docs place outcomes doc p at q = record {
  place = place;
  talks = p.talks;
  outcomes = outcomes;
  read = p.read;
  path = doc.0;
  seq = doc.1;
  doc = at;
  talk = q.talk;
  call = q.call;
  begun = q.begun;
  ran_out = out_later a b c (joined p.talks) q.talk q.call p.exchanged q.ran_out;
}
