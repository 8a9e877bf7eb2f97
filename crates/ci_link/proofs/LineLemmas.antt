-- Exchanges follow one another, and a talk dies behind them.
use Rattle.std.proofs.Common.{◌≡◌, ◌≢◌, ℕ, zero, suc, ◌+◌, ◌-◌, ◌/◌, ◌<◌, ◌≤◌, ◌++◌, lit≤, List, [], ◌∷◌, Option, length, refl, ap, sym, ◌∙◌, arith, inl, inr, subst, append_assoc, append-nil, length-append, length-drop, take, drop, take-append-drop}
use Rattle.std.specs.List.{AllByRecursion}
use Rattle.std.specs.Io.KnownBytes.{Appends}
use Rattle.std.proofs.KnownBytes.{Appends-nil, Appends-trans}
use Rattle.std.proofs.lemmas.Grind.{flat_map-append}
use Rattle.std.specs.Prelude.{IfSome, false}
use Rattle.std.proofs.lemmas.Bool.{cases_lt}
use Rattle.std.proofs.lemmas.List.{nil_from_length}
use Rattle.ci_base.specs.Varint.{groups, varint}
use Rattle.ci_base.proofs.VarintLemmas.{groups-last, groups-small, groups-great}
use Rattle.ci_io.specs.Causes.{Rose}
use Rattle.ci_io.specs.Putting.{AppendsFront}
use Rattle.ci_wire.proofs.FrontLemmas.{test_from_front}
use Rattle.ci_chunk.specs.Talk.{Talk}
use Rattle.ci_chunk.specs.declared.talk.Answer.{Answer as Said}
use Rattle.ci_chunk.specs.declared.talk.Call.{Call as Asked}
use Rattle.ci_wire.specs.Frame.{IsAnswer, frame_spelling}
use Rattle.ci_wire.specs.Stream.{BeginsWithFrame, IsBad, IsPartial}
use Rattle.ci_wire.specs.declared.frame.Frame.TheVariants.{Call, Answer}
use Rattle.ci_link.specs.Line.{Cause, NotLegal, BadBytes, Ended, Failed, Unsent, Dies, Exchanges, Falters, Hands, Receives, ReceivesSome, Speaking, Unanswered, answers_bytes, calls_bytes}
use Rattle.ci_link.specs.Reading.{Illegal, after}

-- nothing was said
pub exchanges_none : (state : Speaking) → Exchanges state state []
exchanges_none state = record {
  received = [];
  given = Appends-nil state.given;
  read = append-nil state.fed.bytes;
  sent = Appends-nil state.sent;
  faults = refl;
  grammar = tt;
}

all_join : (x y : Talk) → AllByRecursion (λ e. IsAnswer e.1) x → AllByRecursion (λ e. IsAnswer e.1) y → AllByRecursion (λ e. IsAnswer e.1) (x ++ y)
all_join [] y p q = q
all_join (e ∷ x) y p q = (p.0, all_join x y p.1 q)

pub calls_join : (x y : Talk) → calls_bytes (x ++ y) ≡ calls_bytes x ++ calls_bytes y
calls_join x y = flat_map-append (λ e. frame_spelling (Call e.0)) x y

pub answers_join : (x y : Talk) → answers_bytes (x ++ y) ≡ answers_bytes x ++ answers_bytes y
answers_join x y = flat_map-append (λ e. frame_spelling (Answer e.1)) x y

-- what was read before, and then what was read of the bytes that follow
pub read_join : (old received mid more new : List ℕ) (x y : List ℕ) → old ++ received ≡ x ++ mid → mid ++ more ≡ y ++ new
    → old ++ (received ++ more) ≡ (x ++ y) ++ new
read_join old received mid more new x y p q =
    sym (append_assoc old received more) ∙ ap (λ l. l ++ more) p ∙ append_assoc x mid more ∙ ap (λ l. x ++ l) q ∙ sym (append_assoc x y new)

pub Appends-to : (a b : Option (List ℕ)) (x y : List ℕ) → x ≡ y → Appends a b x → Appends a b y
Appends-to a b x y e p = let P : List ℕ → Type 0 = λ l. Appends a b l in subst P e p

-- exchanges, and then others
pub exchanges_join : (a b c : Speaking) (x y : Talk) → Exchanges a b x → Exchanges b c y → Exchanges a c (x ++ y)
exchanges_join a b c x y p q = record {
  received = p.received ++ q.received;
  given = Appends-trans a.given b.given c.given p.received q.received p.given q.given;
  read = read_join a.fed.bytes p.received b.fed.bytes q.received c.fed.bytes (answers_bytes x) (answers_bytes y) p.read q.read ∙ ap (λ l. l ++ c.fed.bytes) (sym (answers_join x y));
  sent = Appends-to _ _ _ _ (sym (calls_join x y)) (Appends-trans a.sent b.sent c.sent (calls_bytes x) (calls_bytes y) p.sent q.sent);
  faults = q.faults ∙ p.faults;
  grammar = all_join x y p.grammar q.grammar;
}

rose_from : (a b n : ℕ) → b ≡ a → Rose b n → Rose a n
rose_from a b n e r = let P : ℕ → Type 0 = λ m. Rose m n in subst P e r

-- a cause is the same one from an earlier state, if no call failed between
cause_from : (a b c : Speaking) (talk : Talk) (call : Asked) (part rest : List ℕ) → b.faults ≡ a.faults → Cause b c talk call part rest
    → Cause a c talk call part rest
cause_from a b c talk call part rest e (NotLegal frame behind whole begins illegal) = NotLegal frame behind whole begins illegal
cause_from a b c talk call part rest e (BadBytes whole bad) = BadBytes whole bad
cause_from a b c talk call part rest e (Ended whole partial over) = Ended whole partial over
cause_from a b c talk call part rest e (Failed whole partial rose) = Failed whole partial (rose_from a.faults b.faults c.faults e rose)
cause_from a b c talk call part rest e (Unsent front rose) = Unsent front (rose_from a.faults b.faults c.faults e rose)

-- a talk died behind the exchanges of earlier documents
pub dies_behind : (a b c : Speaking) (earlier talk : Talk) (call : Asked) → Exchanges a b earlier → Dies b c [] talk call → Dies a c earlier talk call
dies_behind a b c earlier talk call p q = record {
  received = p.received ++ q.received;
  given = Appends-trans a.given b.given c.given p.received q.received p.given q.given;
  rest = q.rest;
  read = read_join a.fed.bytes p.received b.fed.bytes q.received q.rest (answers_bytes earlier) (answers_bytes talk) p.read q.read ∙ ap (λ l. l ++ q.rest) (sym (answers_join earlier talk));
  part = q.part;
  sent = Appends-to _ _ _ _ (sym (append_assoc (calls_bytes earlier) (calls_bytes talk) q.part) ∙ ap (λ l. l ++ q.part) (sym (calls_join earlier talk)))
      (Appends-trans a.sent b.sent c.sent (calls_bytes earlier) (calls_bytes talk ++ q.part) p.sent q.sent);
  cause = cause_from a b c talk call q.part q.rest p.faults q.cause;
}

-- a call got no answer behind the exchanges of its document
pub dies_unanswered : (a b c : Speaking) (talk : Talk) (call : Asked) → Exchanges a b talk → Unanswered b c call → Dies a c [] talk call
dies_unanswered a b c talk call p q = record {
  received = p.received ++ q.received;
  given = Appends-trans a.given b.given c.given p.received q.received p.given q.given;
  rest = b.fed.bytes ++ q.received;
  read = sym (append_assoc a.fed.bytes p.received q.received) ∙ ap (λ l. l ++ q.received) p.read ∙ append_assoc (answers_bytes talk) b.fed.bytes q.received;
  part = q.part;
  sent = Appends-trans a.sent b.sent c.sent (calls_bytes talk) q.part p.sent q.sent;
  cause = cause_from a b c talk call q.part (b.fed.bytes ++ q.received) p.faults (q.cause talk);
}

-- a call got an answer that isn't legal
pub dies_illegal : (a b c : Speaking) (talk : Talk) (call : Asked) (answer : Said) → Exchanges a b talk → Exchanges b c ((call, answer) ∷ [])
    → after talk call answer ≡ Illegal → Dies a c [] talk call
dies_illegal a b c talk call answer p q illegal =
    let spelled : List ℕ = frame_spelling (Answer answer) in
    let asked_bytes : List ℕ = frame_spelling (Call call) in
    let one : answers_bytes ((call, answer) ∷ []) ≡ spelled = append-nil spelled in
    let called : calls_bytes ((call, answer) ∷ []) ≡ asked_bytes = append-nil asked_bytes in
    record {
      received = p.received ++ q.received;
      given = Appends-trans a.given b.given c.given p.received q.received p.given q.given;
      rest = spelled ++ c.fed.bytes;
      read = read_join a.fed.bytes p.received b.fed.bytes q.received c.fed.bytes (answers_bytes talk) (answers_bytes ((call, answer) ∷ [])) p.read q.read ∙ append_assoc (answers_bytes talk) (answers_bytes ((call, answer) ∷ [])) c.fed.bytes
          ∙ ap (λ l. answers_bytes talk ++ (l ++ c.fed.bytes)) one;
      part = asked_bytes;
      sent = Appends-to _ _ _ _ (ap (λ l. calls_bytes talk ++ l) called)
          (Appends-trans a.sent b.sent c.sent (calls_bytes talk) (calls_bytes ((call, answer) ∷ [])) p.sent q.sent);
      cause = NotLegal (Answer answer) c.fed.bytes refl (record { grammar = q.grammar.0; spelled = refl }) illegal;
    }

length-groups : (more n : ℕ) → length (groups more n) ≤ more + 1
length-groups zero n = rw (groups-last n) (lit≤ tt)
length-groups (suc more) n =
    elim (cases_lt n 128) [
      | inl small ↦ rw (groups-small (suc more) n small) (omega arith)
      | inr great ↦ (let k : suc more - 1 ≡ more = omega arith in rw (groups-great (suc more) n (omega arith) great, k) (omega (arith, length-groups more (n / 128))))
    ]

length-varint : (n : ℕ) → length (varint n) ≤ 10
unfolding varint
length-varint n = length-groups 9 n

-- less than a frame is less than the longest frame
pub partial_short : (bytes : List ℕ) → IsPartial bytes → length bytes < 131083
partial_short bytes (inl front) = omega (arith, (test_from_front bytes front).0)
partial_short bytes (inr lacks) = omega (arith, lacks.fewer, lacks.in_range.1, ap length lacks.whole, length-append (varint lacks.size) lacks.part, length-varint lacks.size)

-- nothing was received yet
pub receives_none : (state : Speaking) → Receives state state []
receives_none state = record { given = Appends-nil state.given; held = sym (append-nil state.fed.bytes); sent = refl; faults = refl }

-- and then some more was
pub receives_join : (a b c : Speaking) (x y : List ℕ) → Receives a b x → Receives b c y → Receives a c (x ++ y)
receives_join a b c x y p q = record {
  given = Appends-trans a.given b.given c.given x y p.given q.given;
  held = q.held ∙ ap (λ l. l ++ y) p.held ∙ append_assoc a.fed.bytes x y;
  sent = q.sent ∙ p.sent;
  faults = q.faults ∙ p.faults;
}

-- no frame came, since the bytes begin none
pub falters_bad : (a b c : Speaking) (received : List ℕ) → Receives a b received → IsBad b.fed.bytes → c.given ≡ b.given → c.sent ≡ b.sent → Falters a c
falters_bad a b c received p bad given sent = record {
  received = received;
  given = (let P : Option (List ℕ) → Type 0 = λ g. Appends a.given g received in subst P (sym given) p.given);
  sent = sent ∙ p.sent;
  why = inl (let P : List ℕ → Type 0 = λ l. IsBad l in subst P p.held bad);
}

-- no frame came, since the daemon ended
pub falters_ended : (a b c d : Speaking) (received : List ℕ) (n : ℕ) → Receives a b received → IsPartial b.fed.bytes → c.given ≡ b.given → c.sent ≡ b.sent
    → ReceivesSome c d n → n ≡ 0 → IfSome d.more (λ m. m ≡ false) → Falters a d
falters_ended a b c d received n p partial given sent none zero_bytes over =
    let nothing : none.received ≡ [] = nil_from_length none.received (none.count ∙ zero_bytes) in
    let given_on : Appends b.given d.given none.received = (let P : Option (List ℕ) → Type 0 = λ g. Appends g d.given none.received in subst P given none.receives.given) in
    record {
      received = received;
      given = Appends-to a.given d.given (received ++ none.received) received (ap (λ l. received ++ l) nothing ∙ append-nil received)
          (Appends-trans a.given b.given d.given received none.received p.given given_on);
      sent = none.receives.sent ∙ sent ∙ p.sent;
      why = inr ((let P : List ℕ → Type 0 = λ l. IsPartial l in subst P p.held partial), inl over);
    }

-- what is received makes the held bytes longer
pub held_longer : (b c d : Speaking) (n : ℕ) → c.fed.bytes ≡ b.fed.bytes → ReceivesSome c d n → n ≢ 0 → IsPartial b.fed.bytes
    → 131083 - length d.fed.bytes < 131083 - length b.fed.bytes
held_longer b c d n kept some more partial =
    omega (arith, partial_short b.fed.bytes partial, ap length kept, ap length some.receives.held, length-append c.fed.bytes some.received, some.count)

-- a call wasn't wholly sent
pub unanswered_unsent : (a b : Speaking) (call : Asked) (bytes : List ℕ) → bytes ≡ frame_spelling (Call call) → AppendsFront a.sent b.sent bytes
    → b.given ≡ a.given → Rose a.faults b.faults → Unanswered a b call
unanswered_unsent a b call bytes spelled front given rose = record {
  received = [];
  given = (let P : Option (List ℕ) → Type 0 = λ g. Appends a.given g [] in subst P (sym given) (Appends-nil a.given));
  part = take front.0 bytes;
  sent = front.2;
  cause = λ talk. Unsent (record { lacking = drop front.0 bytes; some = omega (arith, front.1, length-drop front.0 bytes); front = sym spelled ∙ sym (take-append-drop front.0 bytes) }) rose;
}

-- a call was sent, and no frame came
pub unanswered_falters : (a m b : Speaking) (call : Asked) (bytes : List ℕ) → bytes ≡ frame_spelling (Call call) → Appends a.sent m.sent bytes
    → m.given ≡ a.given → m.fed ≡ a.fed → m.faults ≡ a.faults → Falters m b → Unanswered a b call
unanswered_falters a m b call bytes spelled sent given fed faults falters =
    let held : m.fed.bytes ++ falters.received ≡ a.fed.bytes ++ falters.received = ap (λ f. f.bytes ++ falters.received) fed in
    let bad_here : IsBad (m.fed.bytes ++ falters.received) → IsBad (a.fed.bytes ++ falters.received) = λ bad. let P : List ℕ → Type 0 = λ l. IsBad l in subst P held bad in
    let partial_here : IsPartial (m.fed.bytes ++ falters.received) → IsPartial (a.fed.bytes ++ falters.received) = λ p. let P : List ℕ → Type 0 = λ l. IsPartial l in subst P held p in
    record {
      received = falters.received;
      given = (let P : Option (List ℕ) → Type 0 = λ g. Appends g b.given falters.received in subst P given falters.given);
      part = bytes;
      sent = (let P : Option (List ℕ) → Type 0 = λ g. Appends a.sent g bytes in subst P (sym falters.sent) sent);
      cause = λ talk. elim falters.why [
        | inl bad ↦ BadBytes spelled (bad_here bad)
        | inr short ↦ elim short.1 [
          | inl over ↦ Ended spelled (partial_here short.0) over
          | inr rose ↦ Failed spelled (partial_here short.0) (rose_from a.faults m.faults b.faults faults rose)
        ]
      ];
    }

-- a call was sent, and another call came
pub unanswered_call : (a m b : Speaking) (call other : Asked) (bytes : List ℕ) → bytes ≡ frame_spelling (Call call) → Appends a.sent m.sent bytes
    → m.given ≡ a.given → m.fed ≡ a.fed → Hands m b (Call other) → Unanswered a b call
unanswered_call a m b call other bytes spelled sent given fed hands =
    let held : m.fed.bytes ++ hands.received ≡ a.fed.bytes ++ hands.received = ap (λ f. f.bytes ++ hands.received) fed in
    record {
      received = hands.received;
      given = (let P : Option (List ℕ) → Type 0 = λ g. Appends g b.given hands.received in subst P given hands.given);
      part = bytes;
      sent = (let P : Option (List ℕ) → Type 0 = λ g. Appends a.sent g bytes in subst P (sym hands.sent) sent);
      cause = λ talk. NotLegal (Call other) b.fed.bytes spelled
          (let P : List ℕ → Type 0 = λ l. BeginsWithFrame l (Call other) b.fed.bytes in subst P held hands.begins) tt;
    }
