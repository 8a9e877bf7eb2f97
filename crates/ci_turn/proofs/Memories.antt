-- What the seats remember, when one learns more or the list grows.
use Rattle.std.proofs.Common.{◌≡◌, ◌≢◌, ℕ, true, false, List, [], ◌∷◌, ◌++◌, length, drop, All, set, sym, ap, ◌∙◌, append-nil}
use mathlib.Core.Option.{some}
use lib.ListN.{get_elem?}
use Rattle.ci_turn.specs.Views.{is_there}
use Rattle.ci_turn.specs.Rule.{Memory, Remembers, AllRemember}
use Rattle.ci_turn.proofs.Places.{each_set, each_snoc}
use Rattle.ci_turn.proofs.Fronts.{front_grows, dropped, events_stay, events_grow}

module _ {E F : Type 0} (author : E → ℕ) (fixed : F) (log : List E) (ms : List (Memory E F)) (all : AllRemember author fixed log ms) where
  pub remember_set : (id : ℕ) (a : Memory E F) → Remembers author fixed log a → AllRemember author fixed log (set ms id a)
  remember_set id a r = each_set (Remembers author fixed log) ms id a (λ i m n e. all i m e) r

  pub remember_snoc : (a : Memory E F) → Remembers author fixed log a → AllRemember author fixed log (ms ++ a ∷ [])
  remember_snoc a r = each_snoc (Remembers author fixed log) ms a all r

  -- another seat keeps what it knows where the list grows by events that aren't its own
  grows : (n : ℕ) (new : List E) → All (λ e. author e ≡ n) new → (m : Memory E F) → (is_there m.fixed ≡ true → m.number ≢ n) → m.holds ≢ true
      → Remembers author fixed log m → Remembers author fixed (log ++ new) m
  grows n new by_n m other free r = record {
    seen = front_grows m.seen log new r.seen;
    told = front_grows m.told log new r.told;
    fixed_is = r.fixed_is;
    own = λ l. events_stay author n m.number log new by_n (other l) ∙ r.own l;
    whole = λ h. absurd (free h);
  }

  -- what the holder remembers, once it gave the value back with this list
  abbrev pub gave : Memory E F → List E → Memory E F
  gave m list = record m { seen = list; own = m.own ++ drop (length m.seen) list; holds = false }

  holder_grows : (m : Memory E F) (new : List E) → All (λ e. author e ≡ m.number) new → m.holds ≡ true → Remembers author fixed log m
      → Remembers author fixed (log ++ new) (gave m (log ++ new))
  holder_grows m new by_m hold r =
      let all_seen : m.seen ≡ log = (r.whole hold).1 in
      let rest : drop (length m.seen) (log ++ new) ≡ new = ap (λ (xs : List E). drop (length xs) (log ++ new)) all_seen ∙ dropped log new in
      record {
        seen = ([], append-nil (log ++ new));
        told = front_grows m.told log new r.told;
        fixed_is = r.fixed_is;
        own = λ l. events_grow author m.number log new by_m ∙ (ap (λ (xs : List E). xs ++ new) (r.own l) ∙ ap (λ (xs : List E). m.own ++ xs) (sym rest));
        whole = λ h. absurd (cc h);
      }

  -- the holder gives the value back, with events of its own at the end of the list
  pub remember_grow : (id : ℕ) (m : Memory E F) (new : List E) → get_elem? ms id ≡ some m → All (λ e. author e ≡ m.number) new → m.holds ≡ true
      → ((i : ℕ) (q : Memory E F) → i ≢ id → get_elem? ms i ≡ some q → (is_there q.fixed ≡ true → q.number ≢ m.number) × (q.holds ≢ true))
      → AllRemember author fixed (log ++ new) (set ms id (gave m (log ++ new)))
  remember_grow id m new at by_m hold others =
      each_set (Remembers author fixed (log ++ new)) ms id (gave m (log ++ new))
      (λ i q n e. let o = others i q n e in grows m.number new by_m q o.0 o.1 (all i q e))
      (holder_grows m new by_m hold (all id m at))
