-- What a service comes to, call by call.
use Rattle.std.proofs.Common.{◌≡◌, ◌≢◌, ℕ, ◌^◌, List, [], ◌∷◌, ◌++◌, Option, length, take, refl, ap, sym, ◌∙◌, subst, append_assoc, append-nil}
use Rattle.std.specs.List.{AllByRecursion}
use Rattle.std.specs.Io.KnownBytes.{Appends}
use Rattle.std.proofs.KnownBytes.{Appends-nil, Appends-trans, Consumes-nil, Consumes-trans}
use Rattle.std.proofs.lemmas.Grind.{flat_map-append}
use Rattle.ci_chunk.specs.Talk.{Talk}
use Rattle.ci_chunk.specs.declared.talk.Call.{Call as Asked}
use Rattle.ci_wire.specs.Frame.{frame_spelling}
use Rattle.ci_wire.specs.declared.frame.Frame.TheVariants.{Call, Answer}
use Rattle.ci_daemon.specs.Hearing.{Breaks, Falters, HearsCall}
use Rattle.ci_daemon.specs.Questions.{AreAsked, Question}
use Rattle.ci_daemon.specs.Replying.{Leaves, Replies}
use Rattle.ci_daemon.specs.Rounds.{Round}
use Rattle.ci_daemon.specs.Serving.{BeginsWithCall, Cause, IsCutOff, IsLost, Served, Serves, ServesOne, Standing, Unsaid, Writes, answers_bytes, calls_bytes, questions}
use Rattle.ci_daemon.specs.declared.ended.Ended.{Ended}
use Rattle.ci_daemon.specs.declared.ended.Ended.TheVariants.{Quiet, ReadFault, WriteFault, BadFrame, Spent, OutOfMemory}
use Rattle.ci_daemon.specs.declared.holding.Holding.{Holding}
use Rattle.ci_daemon.specs.declared.reply.Reply.{Reply}
use Rattle.ci_daemon.proofs.QuestionLemmas.{all_more, asked_more, asked_none}
use Rattle.ci_daemon.proofs.RoundLemmas.{rounds_more}

abbrev standing : List ℕ → Option Holding → Option (List ℕ) → Option (List ℕ) → Standing
standing held document left written = record { held = held; document = document; left = left; written = written }

abbrev round_of : Asked → (asked : List Question) → Reply → Round
round_of call asked reply = record { call = call; asked = asked; answer = reply.answer }

-- no call was taken yet
pub serves_none : (count : ℕ) (v : ℕ → Talk → Type 0) (at : Standing) → Serves count v at [] at v
serves_none count v at = record {
  by_rules = refl;
  taken = [];
  consumed = Consumes-nil at.left;
  read = append-nil at.held;
  grammar = tt;
  written = Appends-nil at.written;
  asked = asked_none v;
}

-- what was read before, and then what was read of the bytes that follow
read_more : (old taken mid more new : List ℕ) (x y : List ℕ) → old ++ taken ≡ x ++ mid → mid ++ more ≡ y ++ new → old ++ (taken ++ more) ≡ (x ++ y) ++ new
read_more old taken mid more new x y p q =
    sym (append_assoc old taken more) ∙ ap (λ l. l ++ more) p ∙ append_assoc x mid more ∙ ap (λ l. x ++ l) q ∙ sym (append_assoc x y new)

calls_more : (old taken mid more new : List ℕ) (x y : List Round) → old ++ taken ≡ calls_bytes x ++ mid → mid ++ more ≡ calls_bytes y ++ new
    → old ++ (taken ++ more) ≡ calls_bytes (x ++ y) ++ new
calls_more old taken mid more new x y p q =
    read_more old taken mid more new (calls_bytes x) (calls_bytes y) p q ∙ ap (λ l. l ++ new) (sym (flat_map-append (λ r. frame_spelling (Call r.call)) x y))

-- answers were written, and then these bytes
answers_more : (a b c : Option (List ℕ)) (x y : List Round) (more : List ℕ) → Appends a b (answers_bytes x) → Appends b c (answers_bytes y ++ more)
    → Appends a c (answers_bytes (x ++ y) ++ more)
answers_more a b c x y more p q =
    let P : List ℕ → Type 0 = λ l. Appends a c l in
    subst P (sym (append_assoc (answers_bytes x) (answers_bytes y) more) ∙ ap (λ l. l ++ more) (sym (flat_map-append (λ r. frame_spelling (Answer r.answer)) x y)))
    (Appends-trans a b c (answers_bytes x) (answers_bytes y ++ more) p q)

appends_to : (a b : Option (List ℕ)) (x y : List ℕ) → x ≡ y → Appends a b x → Appends a b y
appends_to a b x y e p = let P : List ℕ → Type 0 = λ l. Appends a b l in subst P e p

answers_join : (a b c : Option (List ℕ)) (x y : List Round) → Appends a b (answers_bytes x) → Appends b c (answers_bytes y) → Appends a c (answers_bytes (x ++ y))
answers_join a b c x y p q =
    appends_to a c _ _ (append-nil (answers_bytes (x ++ y)))
    (answers_more a b c x y [] p (appends_to b c _ _ (sym (append-nil (answers_bytes y))) q))

-- the filters were asked in rounds, and then this
questions_more : (v w u : ℕ → Talk → Type 0) (x y : List Round) (lost : List Question) → AreAsked v (questions x) w → AreAsked w (questions y ++ lost) u
    → AreAsked v (questions (x ++ y) ++ lost) u
questions_more v w u x y lost p q =
    let P : List Question → Type 0 = λ l. AreAsked v l u in
    subst P (sym (append_assoc (questions x) (questions y) lost) ∙ ap (λ l. l ++ lost) (sym (flat_map-append (λ r. r.asked) x y)))
    (asked_more v w u (questions x) (questions y ++ lost) p q)

asked_to : (v w : ℕ → Talk → Type 0) (x y : List Question) → x ≡ y → AreAsked v x w → AreAsked v y w
asked_to v w x y e p = let P : List Question → Type 0 = λ l. AreAsked v l w in subst P e p

-- calls were answered, and then one more
pub serves_more : (count number : ℕ) (v w u : ℕ → Talk → Type 0) (a b c : Standing) (x : List Round) → number ≡ count → Serves count v a x b w
    → (p : ServesOne number w b c u) → Serves count v a (x ++ p.round ∷ []) c u
serves_more count number v w u a b c x same p one =
    let y = one.round ∷ [] in
    let P : ℕ → Type 0 = λ n. Serves n w b y c u in
    let q : Serves count w b y c u = subst P same one.serves in
    record {
      by_rules = rounds_more count a.document b.document c.document x y p.by_rules q.by_rules;
      taken = p.taken ++ q.taken;
      consumed = Consumes-trans a.left b.left c.left p.taken q.taken p.consumed q.consumed;
      read = calls_more a.held p.taken b.held q.taken c.held x y p.read q.read;
      grammar = all_more _ x y p.grammar q.grammar;
      written = answers_join a.written b.written c.written x y p.written q.written;
      asked = asked_to v u _ _ (append-nil (questions (x ++ y)))
          (questions_more v w u x y [] p.asked (asked_to w u _ _ (sym (append-nil (questions y))) q.asked));
    }

-- the service ended behind calls that were answered
cut_behind : (a b c : Option (List ℕ)) (x y : List Round) → Appends a b (answers_bytes x) → IsCutOff b c y → IsCutOff a c (x ++ y)
cut_behind a b c x y p q = record {
  whole = x ++ q.whole;
  last = q.last;
  rounds_are = ap (λ l. x ++ l) q.rounds_are ∙ sym (append_assoc x q.whole (q.last ∷ []));
  kept = q.kept;
  lacks = q.lacks;
  written = answers_more a b c x q.whole (take q.kept (frame_spelling (Answer q.last.answer))) p q.written;
}

writes_behind : (ended : Ended) (a b c : Option (List ℕ)) (x y : List Round) → Appends a b (answers_bytes x) → Writes ended b c y → Writes ended a c (x ++ y)
writes_behind WriteFault a b c x y p q = cut_behind a b c x y p q
writes_behind Quiet a b c x y p q = answers_join a b c x y p q
writes_behind ReadFault a b c x y p q = answers_join a b c x y p q
writes_behind BadFrame a b c x y p q = answers_join a b c x y p q
writes_behind Spent a b c x y p q = answers_join a b c x y p q
writes_behind OutOfMemory a b c x y p q = answers_join a b c x y p q

cause_behind : (ended : Ended) (x y : List Round) (rest : List ℕ) (left : Option (List ℕ)) → ended ≢ Spent → Cause ended y rest left → Cause ended (x ++ y) rest left
cause_behind WriteFault x y rest left early cause = tt
cause_behind Quiet x y rest left early cause = cause
cause_behind ReadFault x y rest left early cause = cause
cause_behind BadFrame x y rest left early cause = cause
cause_behind Spent x y rest left early cause = absurd (early refl)
cause_behind OutOfMemory x y rest left early cause = tt

pub served_behind : (count number : ℕ) (v w u : ℕ → Talk → Type 0) (a b : Standing) (x : List Round) (ended : Ended) (left written : Option (List ℕ))
    → number ≡ count → ended ≢ Spent → Serves count v a x b w → Served number w b ended left written u → Served count v a ended left written u
served_behind count number v w u a b x ended left written same early p stops =
    let P : ℕ → Type 0 = λ n. Served n w b ended left written u in
    let q : Served count w b ended left written u = subst P same stops in
    record {
      rounds = x ++ q.rounds;
      document = q.document;
      by_rules = rounds_more count a.document b.document q.document x q.rounds p.by_rules q.by_rules;
      taken = p.taken ++ q.taken;
      consumed = Consumes-trans a.left b.left left p.taken q.taken p.consumed q.consumed;
      rest = q.rest;
      read = calls_more a.held p.taken b.held q.taken q.rest x q.rounds p.read q.read;
      grammar = all_more _ x q.rounds p.grammar q.grammar;
      wrote = writes_behind ended a.written b.written written x q.rounds p.written q.wrote;
      cause = cause_behind ended x q.rounds q.rest left early q.cause;
      lost = q.lost;
      is_lost = q.is_lost;
      asked = questions_more v w u x q.rounds q.lost p.asked q.asked;
    }

-- no call was taken
writes_nothing : (ended : Ended) (rest : List ℕ) (left written : Option (List ℕ)) → Breaks ended rest left → Writes ended written written []
writes_nothing WriteFault rest left written why = absurd why
writes_nothing Quiet rest left written why = Appends-nil written
writes_nothing ReadFault rest left written why = Appends-nil written
writes_nothing BadFrame rest left written why = Appends-nil written
writes_nothing Spent rest left written why = absurd why
writes_nothing OutOfMemory rest left written why = Appends-nil written

cause_at_once : (ended : Ended) (rest : List ℕ) (left : Option (List ℕ)) → Breaks ended rest left → Cause ended [] rest left
cause_at_once WriteFault rest left why = absurd why
cause_at_once Quiet rest left why = why
cause_at_once ReadFault rest left why = why
cause_at_once BadFrame rest left why = why
cause_at_once Spent rest left why = absurd why
cause_at_once OutOfMemory rest left why = tt

none_lost : (ended : Ended) (rest : List ℕ) → IsLost ended rest []
none_lost WriteFault rest = refl
none_lost Quiet rest = refl
none_lost ReadFault rest = refl
none_lost BadFrame rest = refl
none_lost Spent rest = refl
none_lost OutOfMemory rest = tt

pub served_unheard : (count : ℕ) (v : ℕ → Talk → Type 0) (held : List ℕ) (document : Option Holding) (left written leaves : Option (List ℕ)) (ended : Ended)
    → Falters held left leaves ended → Served count v (standing held document left written) ended leaves written v
served_unheard count v held document left written leaves ended f = record {
  rounds = [];
  document = document;
  by_rules = refl;
  taken = f.taken;
  consumed = f.consumed;
  rest = held ++ f.taken;
  read = refl;
  grammar = tt;
  wrote = writes_nothing ended (held ++ f.taken) leaves written f.why;
  cause = cause_at_once ended (held ++ f.taken) leaves f.why;
  lost = [];
  is_lost = none_lost ended (held ++ f.taken);
  asked = asked_none v;
}

-- a call was taken, and got no answer
all_lost : (rest : List ℕ) (call : Asked) (lost : List Question) → BeginsWithCall rest call → AllByRecursion (λ q. q.call ≡ call) lost
    → AllByRecursion (λ q. BeginsWithCall rest q.call) lost
all_lost rest call [] begins of_call = tt
all_lost rest call (q ∷ lost) begins of_call =
    let P : Asked → Type 0 = λ c. BeginsWithCall rest c in (subst P (sym of_call.0) begins, all_lost rest call lost begins of_call.1)

pub served_unanswered : (count : ℕ) (v w : ℕ → Talk → Type 0) (held : List ℕ) (document : Option Holding) (left written : Option (List ℕ)) (holds : List ℕ) (leaves : Option (List ℕ)) (call : Asked)
    → HearsCall held left holds leaves call → Leaves v call w → Served count v (standing held document left written) OutOfMemory leaves written w
served_unanswered count v w held document left written holds leaves call h l = record {
  rounds = [];
  document = document;
  by_rules = refl;
  taken = h.taken;
  consumed = h.consumed;
  rest = held ++ h.taken;
  read = refl;
  grammar = tt;
  wrote = Appends-nil written;
  cause = tt;
  lost = l.asked;
  is_lost = all_lost (held ++ h.taken) call l.asked (holds, h.begins) l.of_call;
  asked = l.said;
}

-- a call was taken and answered, and the answer wasn't written to its end
read_one : (held taken holds : List ℕ) (call : Asked) (asked : List Question) (reply : Reply) → held ++ taken ≡ frame_spelling (Call call) ++ holds
    → held ++ taken ≡ calls_bytes (round_of call asked reply ∷ []) ++ holds
read_one held taken holds call asked reply e = e ∙ ap (λ l. l ++ holds) (sym (append-nil (frame_spelling (Call call))))

pub served_unsaid : (count : ℕ) (v w : ℕ → Talk → Type 0) (held : List ℕ) (document : Option Holding) (left written : Option (List ℕ)) (holds : List ℕ) (leaves : Option (List ℕ))
    (call : Asked) (reply : Reply) (wrote : Option (List ℕ)) (ended : Ended) → HearsCall held left holds leaves call → Replies count v document call w reply
    → Unsaid reply.answer written wrote ended → Served count v (standing held document left written) ended leaves wrote w
served_unsaid count v w held document left written holds leaves call reply wrote WriteFault h r u = record {
  rounds = round_of call r.asked reply ∷ [];
  document = reply.document;
  by_rules = (reply.document, r.by_rules, refl);
  taken = h.taken;
  consumed = h.consumed;
  rest = holds;
  read = read_one held h.taken holds call r.asked reply h.begins.spelled;
  grammar = (h.begins.grammar, tt);
  wrote = record { whole = []; last = round_of call r.asked reply; rounds_are = refl; kept = u.0; lacks = u.1; written = u.2 };
  cause = tt;
  lost = [];
  is_lost = refl;
  asked = asked_to v w _ _ (sym (append-nil (r.asked ++ []) ∙ append-nil r.asked)) r.said;
}
served_unsaid count v w held document left written holds leaves call reply wrote OutOfMemory h r u =
    let P : Option (List ℕ) → Type 0 = λ o. Served count v (standing held document left written) OutOfMemory leaves o w in
    subst P (sym u) (served_unanswered count v w held document left written holds leaves call h (record { asked = r.asked; of_call = r.of_call; said = r.said }))
served_unsaid count v w held document left written holds leaves call reply wrote Quiet h r u = absurd u
served_unsaid count v w held document left written holds leaves call reply wrote ReadFault h r u = absurd u
served_unsaid count v w held document left written holds leaves call reply wrote BadFrame h r u = absurd u
served_unsaid count v w held document left written holds leaves call reply wrote Spent h r u = absurd u

-- a call was taken and answered
pub serves_one : (count : ℕ) (v w : ℕ → Talk → Type 0) (held : List ℕ) (document : Option Holding) (left written : Option (List ℕ)) (holds : List ℕ) (leaves : Option (List ℕ)) (call : Asked) (reply : Reply)
    (wrote : Option (List ℕ)) → HearsCall held left holds leaves call → Replies count v document call w reply
    → Appends written wrote (frame_spelling (Answer reply.answer))
    → ServesOne count v (standing held document left written) (standing holds reply.document leaves wrote) w
serves_one count v w held document left written holds leaves call reply wrote h r said = record {
  round = round_of call r.asked reply;
  serves = record {
    by_rules = (reply.document, r.by_rules, refl);
    taken = h.taken;
    consumed = h.consumed;
    read = read_one held h.taken holds call r.asked reply h.begins.spelled;
    grammar = (h.begins.grammar, tt);
    written = appends_to written wrote _ _ (sym (append-nil (frame_spelling (Answer reply.answer)))) said;
    asked = asked_to v w _ _ (sym (append-nil r.asked)) r.said;
  };
}

-- there was no memory for the service
pub served_unbegun : (count : ℕ) (v : ℕ → Talk → Type 0) (at : Standing) → Served count v at OutOfMemory at.left at.written v
served_unbegun count v at = record {
  rounds = [];
  document = at.document;
  by_rules = refl;
  taken = [];
  consumed = Consumes-nil at.left;
  rest = at.held;
  read = append-nil at.held;
  grammar = tt;
  wrote = Appends-nil at.written;
  cause = tt;
  lost = [];
  is_lost = tt;
  asked = asked_none v;
}

-- as many calls were answered as a service may have
pub served_spent : (count : ℕ) (v w : ℕ → Talk → Type 0) (a b : Standing) (x : List Round) → Serves count v a x b w → length x ≡ 2 ^ 32
    → Served count v a Spent b.left b.written w
served_spent count v w a b x p all = record {
  rounds = x;
  document = b.document;
  by_rules = p.by_rules;
  taken = p.taken;
  consumed = p.consumed;
  rest = b.held;
  read = p.read;
  grammar = p.grammar;
  wrote = p.written;
  cause = all;
  lost = [];
  is_lost = refl;
  asked = asked_to v w _ _ (sym (append-nil (questions x))) p.asked;
}
