-- A register whose paths come to be in a batch that is out, or in none.
use Rattle.std.proofs.Common.{◌≡◌, ◌==◌, ◌&&◌, ◌||◌, ◌+◌, ◌-◌, ◌≤◌, ◌<◌, ℕ, IsTrue, Bool, true, false, not, cond, List, [], ◌∷◌, All, filter, take, length, get_or, bytes_eq, Some, None, Option, is_some, unwrap_or, refl, sym, ap, subst, ◌∙◌, arith, if◌then◌else◌}
use Rattle.std.proofs.lemmas.List.Filters.{length-filter_both}
use Rattle.std.proofs.lemmas.Slice.Eq.{bytes_eq-Decides}
use Rattle.std.specs.List.{list_any}
use Rattle.std.specs.Map.{lookup}
use Rattle.ci_change.specs.declared.batch.Batch.{Batch}
use Rattle.ci_change.specs.declared.notice.Notice.{Notice}
use Rattle.ci_change.specs.declared.rows.Numbers.{Numbers}
use Rattle.ci_change.specs.HandedIn.{numbered}
use Rattle.ci_change.specs.Pending.{has_path, is_out, with_number}
use Rattle.ci_change.specs.Register.{Kept, is_held, is_spare, IsCounted, IsOwn, Marks}
use Rattle.ci_change.specs.Rows.{none, has_row, numbers_at, Puts}
use Rattle.ci_change.proofs.FilterLemmas.{any-both, any-next, filter-agreed, filter-all, filter-swapped}
use Rattle.ci_change.proofs.FindLemmas.{one_if}
use Rattle.ci_change.proofs.UnservedLemmas.{bytes_eq-flip}

-- a path whose numbers aren't those of none has a row
pub has_row-by : (test : Numbers → Bool) (rows : List (List ℕ × Numbers)) (path : List ℕ) → test none ≡ false → test (numbers_at rows path) ≡ true → IsTrue (has_row rows path)
has_row-by test rows path fails passes = by (lookup (bytes_eq path) rows) refl
  where
    by : (o : Option Numbers) → lookup (bytes_eq path) rows ≡ o → IsTrue (has_row rows path)
    by None at = let no : true ≡ false = sym passes ∙ ap (λ o. test (unwrap_or o none)) at ∙ fails in cc
    by (Some numbers) at = ap is_some at

-- ---- marks, one after the other

pub Marks-agree : (old new : Kept) (one other : List ℕ → Bool) (mark : Bool) → ((path : List ℕ) → one path ≡ other path) → Marks old new one mark → Marks old new other mark
Marks-agree old new one other mark same marks = record {
  numbers = λ path. marks.numbers path ∙ ap (λ b. record (numbers_at old.rows path) { is_out = if b then mark else (numbers_at old.rows path).is_out }) (same path);
  rows = marks.rows;
  unserved = marks.unserved;
  ready = marks.ready;
}

pub Marks-none : (kept : Kept) (test : List ℕ → Bool) (mark : Bool) → ((path : List ℕ) → test path ≡ false) → Marks kept kept test mark
Marks-none kept test mark fails = record {
  numbers = λ path. ap (λ b. record (numbers_at kept.rows path) { is_out = if b then mark else (numbers_at kept.rows path).is_out }) (sym (fails path));
  rows = λ path there. there;
  unserved = refl;
  ready = refl;
}

pub Marks-then : (old mid new : Kept) (first more : List ℕ → Bool) (mark : Bool) → Marks old mid first mark → Marks mid new more mark → Marks old new (λ path. first path || more path) mark
Marks-then old mid new first more mark before after = record {
  numbers = λ path. after.numbers path ∙ ap (λ (n : Numbers). record n { is_out = if more path then mark else n.is_out }) (before.numbers path) ∙ by path (first path) (more path);
  rows = λ path there. after.rows path (before.rows path there);
  unserved = after.unserved ∙ before.unserved;
  ready = after.ready ∙ before.ready;
}
  where
    by : (path : List ℕ) (f m : Bool) → record (numbers_at old.rows path) { is_out = if m then mark else (if f then mark else (numbers_at old.rows path).is_out) }
        ≡ record (numbers_at old.rows path) { is_out = if f || m then mark else (numbers_at old.rows path).is_out }
    by path true true = refl
    by path true false = refl
    by path false true = refl
    by path false false = refl

-- the batches with a number are marked, one after the other
pub Marks-batch : (old mid new : Kept) (out : List Batch) (number at : ℕ) (batch : Batch) (has : Bool) → batch ≡ get_or out at batch → at < length out → (batch.number == number) ≡ has
    → Marks old mid (is_out (numbered number (take at out))) false → Marks mid new (λ path. has && has_path batch.docs path) false
    → Marks old new (is_out (numbered number (take (at + 1) out))) false
Marks-batch old mid new out number at batch has is within told before after =
    let holds : List ℕ → Batch → Bool = λ path b. (b.number == number) && has_path b.docs path in
    Marks-agree old new (λ path. is_out (numbered number (take at out)) path || (has && has_path batch.docs path)) (is_out (numbered number (take (at + 1) out))) false
    (λ path. ap (λ o. o || (has && has_path batch.docs path)) (any-both (λ b. b.number == number) (λ b. has_path b.docs path) (take at out))
    ∙ ap (λ h. list_any (holds path) (take at out) || (h && has_path batch.docs path)) (sym told) ∙ sym (any-next (holds path) out at batch batch is within)
    ∙ sym (any-both (λ b. b.number == number) (λ b. has_path b.docs path) (take (at + 1) out)))
    (Marks-then old mid new (is_out (numbered number (take at out))) _ false before after)

pub IsOwn-marked : (old new : Kept) (test : List ℕ → Bool) (mark : Bool) → Marks old new test mark → (path : List ℕ) → IsOwn old path → IsOwn new path
IsOwn-marked old new test mark marks path own =
    let latest : (numbers_at new.rows path).latest ≡ (numbers_at old.rows path).latest = ap (λ (n : Numbers). n.latest) (marks.numbers path) in
    subst (λ (ns : List Notice). All (λ n. (n.seq.0 == (numbers_at new.rows path).latest) ≡ bytes_eq n.path path) ns) (sym marks.ready)
    (subst (λ (l : ℕ). All (λ n. (n.seq.0 == l) ≡ bytes_eq n.path path) old.ready) (sym latest) own)

-- the path's numbers were put again with the mark
pub Marks-put : (old new : Kept) (path : List ℕ) (put : Numbers) (mark : Bool) → Puts old.rows new.rows path put → put ≡ record (numbers_at old.rows path) { is_out = mark }
    → new.unserved ≡ old.unserved → new.ready ≡ old.ready → Marks old new (λ other. bytes_eq path other) mark
Marks-put old new path put mark puts is unserved ready = record {
  numbers = λ other. puts.numbers other ∙ ap (λ n. if bytes_eq path other then n else numbers_at old.rows other) is ∙ by other (bytes_eq path other) refl;
  rows = λ other there. puts.rows other (or-right (bytes_eq path other) _ there);
  unserved = unserved;
  ready = ready;
}
  where
    or-right : (a b : Bool) → IsTrue b → IsTrue (a || b)
    or-right true b there = refl
    or-right false b there = there

    by : (other : List ℕ) (b : Bool) → bytes_eq path other ≡ b → (if b then record (numbers_at old.rows path) { is_out = mark } else numbers_at old.rows other)
        ≡ record (numbers_at old.rows other) { is_out = if b then mark else (numbers_at old.rows other).is_out }
    by other true same = ap (λ p. record (numbers_at old.rows p) { is_out = mark }) ((bytes_eq-Decides path other).0 same)
    by other false apart = refl

-- ---- the count, when one path is marked

module _ (old new : Kept) (path : List ℕ) (mark : Bool) (held all now : ℕ) (has : Bool) (marks : Marks old new (λ other. bytes_eq path other) mark) (own : IsOwn old path)
    (count : IsCounted old held) (found : length (with_number (numbers_at old.rows path).latest old.ready) ≡ one_if has) (had : all ≡ length old.ready)
    (made : held ≤ all → now ≡ held + one_if (has && mark) - one_if (has && (numbers_at old.rows path).is_out)) where
  abbrev latest : ℕ
  latest = (numbers_at old.rows path).latest

  abbrev here : Notice → Bool
  here n = n.seq.0 == latest

  abbrev elsewhere : Notice → Bool
  elsewhere n = not (n.seq.0 == latest)

  constant : (b : Bool) (ns : List Notice) → length (filter (λ _. b) ns) ≡ cond b (length ns) 0
  constant true ns = ap length (filter-all (λ _. true) ns (λ k d within. refl))
  constant false [] = refl
  constant false (n ∷ ns) = constant false ns

  -- a test that is alike for all notices of the path
  split : (test : Notice → Bool) (b : Bool) → ((n : Notice) → n.path ≡ path → test n ≡ b) → length (filter test old.ready) ≡ one_if (has && b) + length (filter test (filter elsewhere old.ready))
  split test b alike =
      let parts = length-filter_both here elsewhere (λ n. refl) (filter test old.ready) in
      let at : length (filter here (filter test old.ready)) ≡ cond b (one_if has) 0 =
      ap length (filter-swapped here test old.ready ∙ filter-agreed here test (λ _. b) old.ready
      (λ k d within is. let n = get_or old.ready k d in alike n ((bytes_eq-Decides n.path path).0 (sym (own k d within) ∙ is))))
      ∙ constant b (filter here old.ready) ∙ ap (λ l. cond b l 0) found in
      let rest = ap length (filter-swapped elsewhere test old.ready) in
      sym parts ∙ ap (λ l. l + length (filter elsewhere (filter test old.ready))) (at ∙ both has b) ∙ ap (λ l. one_if (has && b) + l) rest
    where
      both : (h c : Bool) → cond c (one_if h) 0 ≡ one_if (h && c)
      both true true = refl
      both true false = refl
      both false true = refl
      both false false = refl

  marked : (n : Notice) → is_held new.rows n ≡ (if bytes_eq path n.path then mark else is_held old.rows n)
  marked n = ap (λ (numbers : Numbers). numbers.is_out) (marks.numbers n.path)

  still : filter (is_held new.rows) (filter elsewhere old.ready) ≡ filter (is_held old.rows) (filter elsewhere old.ready)
  still = filter-agreed elsewhere (is_held new.rows) (is_held old.rows) old.ready (λ k d within is.
      let n = get_or old.ready k d in
      let other : bytes_eq path n.path ≡ false = bytes_eq-flip path n.path ∙ sym (own k d within) ∙ not-true (here n) is in
      marked n ∙ ap (λ b. if b then mark else is_held old.rows n) other)
    where
      not-true : (b : Bool) → not b ≡ true → b ≡ false
      not-true true is = sym is
      not-true false is = refl

  pub Counted-marked : IsCounted new now
  Counted-marked =
      let was = (numbers_at old.rows path).is_out in
      let before = split (is_held old.rows) was (λ n same. ap (λ p. (numbers_at old.rows p).is_out) same) in
      let after = split (is_held new.rows) mark (λ n same. ap (λ p. (numbers_at new.rows p).is_out) same ∙ at-path) in
      let within = length-filter_both (is_held old.rows) (is_spare old.rows) (λ n. refl) old.ready in
      let few : held ≤ all = omega (arith, count, within, had) in
      made few ∙ by (one_if (has && was)) (one_if (has && mark)) (length (filter (is_held old.rows) (filter elsewhere old.ready))) held (count ∙ before)
      ∙ ap (λ l. one_if (has && mark) + l) (ap length (sym still)) ∙ sym after ∙ ap (λ ns. length (filter (is_held new.rows) ns)) (sym marks.ready)
    where
      by : (a b rest held : ℕ) → held ≡ a + rest → held + b - a ≡ b + rest
      by a b rest held is = omega (arith, is)

      at-path : (numbers_at new.rows path).is_out ≡ mark
      at-path = ap (λ (numbers : Numbers). numbers.is_out) (marks.numbers path) ∙ ap (λ b. if b then mark else (numbers_at old.rows path).is_out) ((bytes_eq-Decides path path).1 refl)
