-- How many ready notices are held, as those of one path come and go, or come to be held.
use Rattle.std.proofs.Common.{◌≡◌, ◌==◌, ◌&&◌, ◌+◌, ◌-◌, ℕ, nat_le, nat_lt, Bool, true, false, not, cond, List, [], ◌∷◌, ◌++◌, append-nil, All, filter, length, map, get_or, bytes_eq, refl, sym, ap, subst, ◌∙◌, arith, if◌then◌else◌}
use Rattle.std.proofs.lemmas.List.{length-map}
use Rattle.std.proofs.lemmas.List.Elements.{filter-append, filter_agree}
use Rattle.std.proofs.lemmas.List.Filters.{length-filter_both}
use Rattle.std.proofs.lemmas.Slice.Eq.{bytes_eq-Decides}
use Rattle.ci_change.specs.declared.notice.Notice.{Notice}
use Rattle.ci_change.specs.declared.order.Entry.{Entry}
use Rattle.ci_change.specs.declared.rows.Numbers.{Numbers}
use Rattle.ci_change.specs.Register.{Kept, kept_of, is_held, is_spare, notice_at, with_newest, without_number, IsCounted, IsOwn, Notes, Serves, Stays, Tries, tried}
use Rattle.ci_change.specs.Rows.{numbers_at, sets_aside, Puts}
use Rattle.ci_change.proofs.FilterLemmas.{filter-fused}
use Rattle.ci_change.proofs.TrialLemmas.{tried-latest, tried-out}
use Rattle.ci_change.proofs.UnservedLemmas.{bytes_eq-same}

-- a row keeps its mark where what is put has the one that it had
pub Puts-out : (old new : List (List ℕ × Numbers)) (path : List ℕ) (put : Numbers) → Puts old new path put → put.is_out ≡ (numbers_at old path).is_out
    → (other : List ℕ) → (numbers_at new other).is_out ≡ (numbers_at old other).is_out
Puts-out old new path put puts kept other = ap (λ (n : Numbers). n.is_out) (puts.numbers other) ∙ by (bytes_eq path other) refl
  where
    by : (b : Bool) → bytes_eq path other ≡ b → (if b then put else numbers_at old other).is_out ≡ (numbers_at old other).is_out
    by true same = kept ∙ ap (λ p. (numbers_at old p).is_out) ((bytes_eq-Decides path other).0 same)
    by false apart = refl

-- and so does each where a notice is tried
pub Tries-out : (kept new : Kept) (path : List ℕ) (number : ℕ) (refuses : Bool) (retries : ℕ) → Tries kept new path number refuses retries → (other : List ℕ) → (numbers_at new.rows other).is_out ≡ (numbers_at kept.rows other).is_out
Tries-out kept new path number refuses retries tries other = ap (λ (n : Numbers). n.is_out) (tries.numbers other) ∙ by (bytes_eq path other) refl
  where
    by : (b : Bool) → bytes_eq path other ≡ b → (if b then tried (numbers_at kept.rows path) number refuses else numbers_at kept.rows other).is_out ≡ (numbers_at kept.rows other).is_out
    by true same = tried-out (numbers_at kept.rows path) number refuses ∙ ap (λ p. (numbers_at kept.rows p).is_out) ((bytes_eq-Decides path other).0 same)
    by false apart = refl

module _ (path : List ℕ) where
  abbrev apart : Notice → Bool
  apart n = not (bytes_eq n.path path)

  -- ---- the notices of other paths stay

  and-both : (b : Bool) → not b ≡ (not b && not b)
  and-both true = refl
  and-both false = refl

  -- a test that fails at the path passes the same ones
  kept-by : (test : Notice → Bool) (old new : List Notice) → ((n : Notice) → n.path ≡ path → test n ≡ false) → filter apart new ≡ filter apart old → filter test new ≡ filter test old
  kept-by test old new fails others = among new ∙ ap (filter test) others ∙ sym (among old)
    where
      by : (n : Notice) (b : Bool) → bytes_eq n.path path ≡ b → test n ≡ (not b && test n)
      by n true same = fails n ((bytes_eq-Decides n.path path).0 same)
      by n false other = refl

      among : (ns : List Notice) → filter test ns ≡ filter test (filter apart ns)
      among ns = filter-fused test apart test ns (λ k d within. by (get_or ns k d) (bytes_eq (get_or ns k d).path path) refl)

  others-without : (latest : ℕ) (ready : List Notice) → All (λ n. (n.seq.0 == latest) ≡ bytes_eq n.path path) ready → filter apart (without_number latest ready) ≡ filter apart ready
  others-without latest ready own =
      sym (filter-fused apart (λ n. not (n.seq.0 == latest)) apart ready
      (λ k d within. let n = get_or ready k d in and-both (bytes_eq n.path path) ∙ ap (λ b. not b && apart n) (sym (own k d within))))

  others-if : (b : Bool) (latest : ℕ) (ready : List Notice) → All (λ n. (n.seq.0 == latest) ≡ bytes_eq n.path path) ready
      → filter apart (if b then without_number latest ready else ready) ≡ filter apart ready
  others-if true latest ready own = others-without latest ready own
  others-if false latest ready own = refl

  others-newest : (ready : List Notice) (numbers : Numbers) (notice : Notice) (joins : Bool) → notice.path ≡ path → All (λ n. (n.seq.0 == numbers.latest) ≡ bytes_eq n.path path) ready
      → filter apart (with_newest ready numbers notice joins) ≡ filter apart ready
  others-newest ready numbers notice joins same own =
      filter-append apart (without_number numbers.latest ready) _ ∙ ap (λ ns. filter apart (without_number numbers.latest ready) ++ ns) (by (joins && nat_lt numbers.served notice.seq.0))
      ∙ append-nil _ ∙ others-without numbers.latest ready own
    where
      here : apart notice ≡ false
      here = ap (λ p. not (bytes_eq p path)) same ∙ ap not (bytes_eq-same path)

      by : (b : Bool) → filter apart (if b then notice ∷ [] else []) ≡ []
      by true = ap (λ b. cond b (notice ∷ []) []) here
      by false = refl

  -- ---- the count, where the notices of one path come and go

  module _ (old new : Kept) (held was is : ℕ) (marks : (other : List ℕ) → (numbers_at new.rows other).is_out ≡ (numbers_at old.rows other).is_out)
      (others : filter apart new.ready ≡ filter apart old.ready) (count : IsCounted old held) (had : was ≡ length old.ready) (has : is ≡ length new.ready) where
    recounted-by : (b : Bool) → (numbers_at old.rows path).is_out ≡ b → (if b then is - (was - held) else held) ≡ length (filter (is_held old.rows) new.ready)
    recounted-by true out =
        let spare = kept-by (is_spare old.rows) old.ready new.ready (λ n same. ap (λ p. not (numbers_at old.rows p).is_out) same ∙ ap not out) others in
        let before = length-filter_both (is_held old.rows) (is_spare old.rows) (λ n. refl) old.ready in
        let after = length-filter_both (is_held old.rows) (is_spare old.rows) (λ n. refl) new.ready in
        omega (arith, before, after, ap length spare, count, had, has)
    recounted-by false out =
        count ∙ ap length (sym (kept-by (is_held old.rows) old.ready new.ready (λ n same. ap (λ p. (numbers_at old.rows p).is_out) same ∙ out) others))

    Counted-changed : (is_out : Bool) (now : ℕ) → is_out ≡ (numbers_at old.rows path).is_out → now ≡ (if is_out then is - (was - held) else held) → IsCounted new now
    Counted-changed is_out now out made =
        made ∙ recounted-by is_out (sym out) ∙ ap length (sym (filter_agree (is_held new.rows) (is_held old.rows) (λ n. marks n.path) new.ready))

-- those that are held and those that aren't are all
pub parts : (rows : List (List ℕ × Numbers)) (kept : Kept) (order ready : List (ℕ × Entry)) (held all : ℕ) → kept_of rows order ready ≡ kept → IsCounted (kept_of rows order ready) held → all ≡ length ready
    → held + length (filter (is_spare kept.rows) kept.ready) ≡ all
parts rows kept order ready held all is count had = subst (λ (k : Kept). held + length (filter (is_spare k.rows) k.ready) ≡ all) is (
    let both = length-filter_both (is_held rows) (is_spare rows) (λ n. refl) (map (notice_at rows) ready) in
    ap (λ h. h + length (filter (is_spare rows) (map (notice_at rows) ready))) count ∙ both ∙ length-map _ _ ∙ sym had)

-- a register's call, which knows its entries
module _ (kept new : Kept) (rows : List (List ℕ × Numbers)) (order ready : List (ℕ × Entry)) (is_kept : kept_of rows order ready ≡ kept) (held was is : ℕ)
    (count : IsCounted (kept_of rows order ready) held) (had : was ≡ length ready) (has : is ≡ length new.ready) (is_out : Bool) (now : ℕ)
    (made : now ≡ (if is_out then is - (was - held) else held)) where
  counts : IsCounted kept held
  counts = subst (λ (k : Kept). IsCounted k held) is_kept count

  had_ready : was ≡ length kept.ready
  had_ready = had ∙ sym (length-map _ _) ∙ ap (λ (k : Kept). length k.ready) is_kept

  pub Counted-noted : (notice : Notice) (joins : Bool) → Notes kept new notice joins → IsOwn kept notice.path → is_out ≡ (numbers_at kept.rows notice.path).is_out → IsCounted new now
  Counted-noted notice joins notes own out =
      let path = notice.path in
      let others = ap (filter (apart path)) notes.ready ∙ others-newest path kept.ready (numbers_at kept.rows path) notice joins refl own in
      Counted-changed path kept new held was is (Puts-out _ _ _ _ notes.rows refl) others counts had_ready has is_out now out made

  pub Counted-served : (path : List ℕ) (number : ℕ) → Serves kept new path number → IsOwn kept path → is_out ≡ (numbers_at kept.rows path).is_out → IsCounted new now
  Counted-served path number serves own out =
      let latest = (numbers_at kept.rows path).latest in
      let others = ap (filter (apart path)) serves.ready ∙ others-if path (nat_le latest number) latest kept.ready own in
      Counted-changed path kept new held was is (Puts-out _ _ _ _ serves.rows refl) others counts had_ready has is_out now out made

  pub Counted-tried : (path : List ℕ) (number : ℕ) (refuses : Bool) (retries : ℕ) → Tries kept new path number refuses retries → IsOwn kept path → is_out ≡ (numbers_at kept.rows path).is_out → IsCounted new now
  Counted-tried path number refuses retries tries own out =
      let put = tried (numbers_at kept.rows path) number refuses in
      let latest = tried-latest (numbers_at kept.rows path) number refuses in
      let still = subst (λ l. All (λ (n : Notice). (n.seq.0 == l) ≡ bytes_eq n.path path) kept.ready) (sym latest) own in
      let others = ap (filter (apart path)) tries.ready ∙ others-if path (nat_lt 0 put.latest && sets_aside put retries) put.latest kept.ready still in
      Counted-changed path kept new held was is (Tries-out kept new path number refuses retries tries) others counts had_ready has is_out now out made

-- where nothing changes but the rows, so many are held
pub Counted-stays : (kept new : Kept) (held : ℕ) → Stays kept new → IsCounted kept held → IsCounted new held
Counted-stays kept new held stays count =
    count ∙ ap length (sym (ap (filter (is_held new.rows)) stays.ready ∙ filter_agree (is_held new.rows) (is_held kept.rows) (λ n. ap (λ (numbers : Numbers). numbers.is_out) (stays.numbers n.path)) kept.ready))
