-- A path's latest notice, as one more event comes.
use Rattle.std.proofs.Common.{◌≡◌, ◌∙◌, ◌==◌, ◌↔◌, ℕ, zero, suc, Bool, true, false, List, [], ◌∷◌, ◌++◌, bytes_eq, cond, filter, Option, Some, None, slice_get, option_to_list, refl, ap, subst, sym, append-nil}
use Rattle.std.proofs.lemmas.List.Elements.{filter-append}
use Rattle.std.proofs.lemmas.Bool.Decides.{Decides-eqb}
use Rattle.std.proofs.lemmas.Slice.Eq.{bytes_eq-Decides}
use Rattle.std.specs.Option.{option_map}
use Rattle.ci_base.specs.declared.numbers.Seq.{Seq}
use Rattle.ci_change.specs.declared.notice.Notice.{Notice}
use Rattle.ci_change.specs.declared.notice.What.{What}
use Rattle.ci_change.specs.declared.notice.What.TheVariants.{Changed}
use Rattle.ci_journal.specs.declared.event.Event.{Event}
use Rattle.ci_journal.specs.Folds.{latest, new_notices}
use Rattle.ci_journal.specs.Tells.{last_of, tells}
use Rattle.ci_journal.specs.Terms.{Beginning, Terms, empty_beginning}
use Rattle.ci_journal.proofs.FoldsLemmas.{last_of-push, new_notices-push}
use Rattle.ci_play.specs.Latest.{latest_new}

abbrev of_path : List ℕ → Notice → Bool
of_path path n = bytes_eq n.path path

module _ (journal : List Event) (e : Event) (path : List ℕ) where
  told : latest_new (journal ++ e ∷ []) path ≡ last_of (filter (of_path path) (new_notices journal) ++ filter (of_path path) (option_to_list ((tells e.what).notice)))
  told =
      ap (λ ns. last_of (filter (of_path path) ns)) (new_notices-push journal e)
      ∙ ap last_of (filter-append (of_path path) (new_notices journal) (option_to_list ((tells e.what).notice)))

  -- it tells no notice
  pub latest-silent : None ≡ (tells e.what).notice → latest_new (journal ++ e ∷ []) path ≡ latest_new journal path
  latest-silent none =
      told ∙ ap (λ (o : Option Notice). last_of (filter (of_path path) (new_notices journal) ++ filter (of_path path) (option_to_list o))) (sym none)
      ∙ ap last_of (append-nil (filter (of_path path) (new_notices journal)))

  -- it tells one of another path
  pub latest-apart : (n : Notice) → Some n ≡ (tells e.what).notice → bytes_eq n.path path ≡ false → latest_new (journal ++ e ∷ []) path ≡ latest_new journal path
  latest-apart n some other =
      told ∙ ap (λ (o : Option Notice). last_of (filter (of_path path) (new_notices journal) ++ filter (of_path path) (option_to_list o))) (sym some)
      ∙ ap (λ b. last_of (filter (of_path path) (new_notices journal) ++ cond b (n ∷ []) [])) other ∙ ap last_of (append-nil (filter (of_path path) (new_notices journal)))

  -- it tells one of the path
  pub latest-own : (n : Notice) → Some n ≡ (tells e.what).notice → bytes_eq n.path path ≡ true → latest_new (journal ++ e ∷ []) path ≡ Some n
  latest-own n some same =
      told ∙ ap (λ (o : Option Notice). last_of (filter (of_path path) (new_notices journal) ++ filter (of_path path) (option_to_list o))) (sym some)
      ∙ ap (λ b. last_of (filter (of_path path) (new_notices journal) ++ cond b (n ∷ []) [])) same ∙ last_of-push (filter (of_path path) (new_notices journal)) n

-- where the session found none, a path's latest notice is its own
pub latest-own_notices : (terms : Terms) (journal : List Event) (path : List ℕ) → terms.beginning ≡ empty_beginning → latest terms journal path ≡ latest_new journal path
latest-own_notices terms journal path starts = ap (λ (b : Beginning). last_of (filter (of_path path) (b.notices ++ new_notices journal))) starts

passes : (test : Notice → Bool) (ns : List Notice) (k : ℕ) (n : Notice) → slice_get (filter test ns) k ≡ Some n → test n ≡ true
passes test [] k n e = absurd (cc)
passes test (m ∷ ns) k n e = by (passes test ns) (test m) refl k e
  where
    by : ((k : ℕ) (n : Notice) → slice_get (filter test ns) k ≡ Some n → test n ≡ true) → (t : Bool) → test m ≡ t → (k : ℕ) → slice_get (filter test (m ∷ ns)) k ≡ Some n → test n ≡ true
    by rest true is zero e = let there = rw is at e in let same : m ≡ n = cc in ap test (sym same) ∙ is
    by rest true is (suc k) e = let there = rw is at e in rest k n there
    by rest false is k e = let there = rw is at e in rest k n there

-- the latest notice of a path has it
pub latest-path : (journal : List Event) (path : List ℕ) (n : Notice) → latest_new journal path ≡ Some n → n.path ≡ path
latest-path journal path n e = (bytes_eq-Decides n.path path).0 (passes (of_path path) (new_notices journal) _ n e)

abbrev pair : Notice → Seq × What
pair n = (n.seq, n.what)

-- what the number and the kind of a path's latest notice say of it
module _ (journal : List Event) (path : List ℕ) (found seq : Seq) where
  abbrev wanted : Notice
  wanted = record { path = path; seq = seq; what = Changed }

  is_wanted : (o : Option Notice) → latest_new journal path ≡ o → option_map pair o ≡ Some (found, Changed) → found.0 ≡ seq.0 → latest_new journal path ≡ Some wanted
  is_wanted None is e same = absurd (cc)
  is_wanted (Some n) is e same =
      let whole : pair n ≡ (found, Changed) = cc in
      let seq_is = ap (λ (p : Seq × What). p.0) whole in
      let what_is = ap (λ (p : Seq × What). p.1) whole in
      let path_is = latest-path journal path n is in
      is ∙ ap (λ (p : List ℕ). let m : Notice = record { path = p; seq = n.seq; what = n.what } in Some m) path_is
      ∙ ap (λ (w : What). let m : Notice = record { path = path; seq = n.seq; what = w } in Some m) what_is
      ∙ ap (λ (k : ℕ). let s : Seq = record { 0 = k } in let m : Notice = record { path = path; seq = s; what = Changed } in Some m) (ap (λ (s : Seq). s.0) seq_is ∙ same)

  as_latest_new : option_map pair (latest_new journal path) ≡ Some (found, Changed) → (b : Bool) → b ≡ (found.0 == seq.0) → (b ≡ true) ↔ (latest_new journal path ≡ Some wanted)
  as_latest_new e b is = (
    λ yes. is_wanted (latest_new journal path) refl e ((Decides-eqb found.0 seq.0).0 (sym is ∙ yes)),
    λ latest_is.
        let both : Some (pair wanted) ≡ Some (found, Changed) = ap (option_map pair) (sym latest_is) ∙ e in
        let whole : pair wanted ≡ (found, Changed) = cc in
        is ∙ (Decides-eqb found.0 seq.0).1 (ap (λ (p : Seq × What). p.0.0) (sym whole)),
  )

  -- in a session that found no notice
  pub as_latest : option_map pair (latest_new journal path) ≡ Some (found, Changed) → (b : Bool) → b ≡ (found.0 == seq.0)
      → (terms : Terms) → terms.beginning ≡ empty_beginning → (b ≡ true) ↔ (latest terms journal path ≡ Some wanted)
  as_latest e b is terms starts = subst (λ (o : Option Notice). (b ≡ true) ↔ (o ≡ Some wanted)) (sym (latest-own_notices terms journal path starts)) (as_latest_new e b is)
