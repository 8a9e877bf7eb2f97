-- What one more event adds to the folds of a journal.
use Rattle.std.proofs.Common.{arith, ◌≡◌, ◌∙◌, ℕ, ◌+◌, ◌-◌, ◌==◌, ◌||◌, Bool, true, false, List, [], ◌∷◌, ◌++◌, length, map, Option, Some, None, filter, filter_map, bytes_eq, slice_get, option_to_list, zero, suc, refl, ap, sym, append-nil, append_assoc}
use Rattle.std.specs.Prelude.{fold}
use Rattle.std.specs.List.{list_any}
use Rattle.std.proofs.lemmas.List.{length_push, map-append}
use Rattle.std.proofs.lemmas.List.Elements.{filter_map-append, filter-append}
use Rattle.std.proofs.lemmas.List.Sums.{fold-append, sum_by-append}
use Rattle.std.proofs.lemmas.List.Folds.{list_any-append}
use Rattle.std.proofs.lemmas.Grind.{flat_map-append}
use Rattle.std.proofs.lemmas.Slice.Eq.{bytes_eq-Decides}
use Rattle.ci_base.specs.declared.numbers.Seq.{Seq}
use Rattle.ci_change.specs.declared.batch.Batch.{Batch}
use Rattle.ci_change.specs.declared.notice.Notice.{Notice}
use Rattle.ci_journal.specs.declared.event.Event.{Event}
use Rattle.ci_journal.specs.declared.event.Happened.TheVariants.{Noted}
use Rattle.ci_journal.specs.Bytes.{event_bytes, journal_bytes}
use Rattle.ci_journal.specs.Filings.{Filings, nothing_filed, file, filings, batches, batch_in}
use Rattle.ci_journal.specs.Folds.{requests_in, new_notices, notices, latest, openings, is_opened, reply_numbers, is_replied, with_path, numbered_paths}
use Rattle.ci_journal.specs.Printed.{lines_of, printed}
use Rattle.ci_journal.specs.Served.{number_of, numbers_of, serve, served_by}
use Rattle.ci_journal.specs.Tells.{Tells, Filed, Filing, tells, tellings, event, last_of}
use Rattle.ci_journal.specs.Terms.{Terms, found_served}
use Rattle.ci_journal.proofs.TellsLemmas.{filter_map-push, tellings-push, tellings-fold}

pub requests_in-push : (journal : List Event) (e : Event) → requests_in (journal ++ e ∷ []) ≡ requests_in journal ++ option_to_list (tells e.what).request
requests_in-push journal e = tellings-push (λ (t : Tells). t.request) journal e

pub new_notices-push : (journal : List Event) (e : Event) → new_notices (journal ++ e ∷ []) ≡ new_notices journal ++ option_to_list (tells e.what).notice
new_notices-push journal e = tellings-push (λ (t : Tells). t.notice) journal e

pub notices-push : (terms : Terms) (journal : List Event) (e : Event) → notices terms (journal ++ e ∷ []) ≡ notices terms journal ++ option_to_list (tells e.what).notice
notices-push terms journal e =
    ap (λ ns. terms.beginning.notices ++ ns) (new_notices-push journal e) ∙ sym (append_assoc terms.beginning.notices (new_notices journal) (option_to_list (tells e.what).notice))

pub openings-push : (journal : List Event) (e : Event) → openings (journal ++ e ∷ []) ≡ openings journal ++ option_to_list (tells e.what).opening
openings-push journal e = tellings-push (λ (t : Tells). t.opening) journal e

pub reply_numbers-push : (journal : List Event) (e : Event) → reply_numbers (journal ++ e ∷ []) ≡ reply_numbers journal ++ option_to_list (tells e.what).reply
reply_numbers-push journal e = tellings-push (λ (t : Tells). t.reply) journal e

-- the number is that of the event, if it has one
abbrev pub is_number : ℕ → Option ℕ → Bool
is_number id None = false
is_number id (Some number) = number == id

any-number : (id : ℕ) (o : Option ℕ) → list_any (λ r. r == id) (option_to_list o) ≡ is_number id o
any-number id None = refl
any-number id (Some number) = or_false (number == id)
  where
    or_false : (b : Bool) → (b || false) ≡ b
    or_false true = refl
    or_false false = refl

pub is_replied-push : (journal : List Event) (e : Event) (id : ℕ) → is_replied (journal ++ e ∷ []) id ≡ (is_replied journal id || is_number id (tells e.what).reply)
is_replied-push journal e id =
    ap (λ rs. list_any (λ r. r == id) rs) (reply_numbers-push journal e) ∙ list_any-append (λ r. r == id) (reply_numbers journal) (option_to_list (tells e.what).reply)
    ∙ ap (λ b. is_replied journal id || b) (any-number id (tells e.what).reply)

pub is_opened-push : (journal : List Event) (e : Event) (id : ℕ) → is_opened (journal ++ e ∷ []) id ≡ (is_opened journal id || is_number id (tells e.what).opening)
is_opened-push journal e id =
    ap (λ os. list_any (λ o. o == id) os) (openings-push journal e) ∙ list_any-append (λ o. o == id) (openings journal) (option_to_list (tells e.what).opening)
    ∙ ap (λ b. is_opened journal id || b) (any-number id (tells e.what).opening)

pub printed-push : (journal : List Event) (e : Event) → printed (journal ++ e ∷ []) ≡ printed journal ++ lines_of e.what
printed-push journal e = flat_map-append (λ (e : Event). lines_of e.what) journal (e ∷ []) ∙ ap (λ xs. printed journal ++ xs) (append-nil (lines_of e.what))

pub journal_bytes-push : (journal : List Event) (e : Event) → journal_bytes (journal ++ e ∷ []) ≡ journal_bytes journal + event_bytes e.what
journal_bytes-push journal e = omega (arith, sum_by-append (λ (e : Event). event_bytes e.what) journal (e ∷ []))

-- a batch that the event begins
abbrev pub batch_of : Option Filed → List Batch
batch_of None = []
batch_of (Some filed) = option_to_list (batch_in filed)

pub batches-push : (journal : List Event) (e : Event) → batches (journal ++ e ∷ []) ≡ batches journal ++ batch_of (tells e.what).filed
batches-push journal e =
    ap (filter_map batch_in) (tellings-push (λ (t : Tells). t.filed) journal e) ∙ filter_map-append batch_in (tellings (λ (t : Tells). t.filed) journal) (option_to_list (tells e.what).filed)
    ∙ ap (λ bs. batches journal ++ bs) (one (tells e.what).filed)
  where
    one : (o : Option Filed) → filter_map batch_in (option_to_list o) ≡ batch_of o
    one None = refl
    one (Some filed) = filter_map-push batch_in [] filed

-- what the event files
abbrev pub file_where : Filings → Option Filed → Filings
file_where so_far None = so_far
file_where so_far (Some filed) = file so_far filed

pub filings-push : (journal : List Event) (e : Event) → filings (journal ++ e ∷ []) ≡ file_where (filings journal) (tells e.what).filed
filings-push journal e = tellings-fold (λ (t : Tells). t.filed) file nothing_filed journal e ∙ one (tells e.what).filed
  where
    one : (o : Option Filed) → fold file (filings journal) (option_to_list o) ≡ file_where (filings journal) o
    one None = refl
    one (Some filed) = refl

pub served_by-push : (terms : Terms) (filed : List Filing) (f : Filing) → served_by terms (filed ++ f ∷ []) ≡ serve terms (served_by terms filed) f
served_by-push terms filed f = fold-append (serve terms) (found_served terms.beginning) filed (f ∷ [])

pub numbers_of-push : (filed : List Filing) (f : Filing) → numbers_of (filed ++ f ∷ []) ≡ numbers_of filed ++ option_to_list (number_of f)
numbers_of-push filed f = filter_map-push number_of filed f

pub slice_get-push : {X : Type 0} (xs : List X) (x : X) → slice_get (xs ++ x ∷ []) (length xs) ≡ Some x
slice_get-push [] x = refl
slice_get-push (y ∷ ys) x = slice_get-push ys x

pub slice_get-append : {X : Type 0} (xs ys : List X) (k : ℕ) (x : X) → slice_get xs k ≡ Some x → slice_get (xs ++ ys) k ≡ Some x
slice_get-append [] ys k x e = absurd (cc)
slice_get-append (y ∷ xs) ys zero x e = e
slice_get-append (y ∷ xs) ys (suc k) x e = slice_get-append xs ys k x e

pub last_of-push : {X : Type 0} (xs : List X) (x : X) → last_of (xs ++ x ∷ []) ≡ Some x
last_of-push xs x =
    let last : length (xs ++ x ∷ []) - 1 ≡ length xs = omega (arith, length_push xs x) in
    rw last (slice_get-push xs x)

-- the notice that was just noted is its path's latest
pub latest-noted : (terms : Terms) (journal : List Event) (by : ℕ) (notice : Notice) → latest terms (journal ++ event by (Noted notice) ∷ []) notice.path ≡ Some notice
latest-noted terms journal by notice =
    let p = λ (n : Notice). bytes_eq n.path notice.path in
    let same : bytes_eq notice.path notice.path ≡ true = (bytes_eq-Decides notice.path notice.path).1 refl in
    ap (λ ns. last_of (filter p ns)) (notices-push terms journal (event by (Noted notice)))
    ∙ ap last_of (filter-append p (notices terms journal) (notice ∷ []))
    ∙ rw same (last_of-push (filter p (notices terms journal)) notice)

-- a notice numbers its path
pub numbered_paths-push : (terms : Terms) (journal : List Event) (e : Event) → numbered_paths terms (journal ++ e ∷ []) ≡ fold with_path (numbered_paths terms journal) (map (λ n. n.path) (option_to_list (tells e.what).notice))
numbered_paths-push terms journal e =
    let found = map (λ (s : List ℕ × Seq). s.0) terms.beginning.numbers in
    let more = option_to_list (tells e.what).notice in
    ap (λ ns. fold with_path [] (found ++ map (λ (n : Notice). n.path) ns)) (notices-push terms journal e)
    ∙ ap (λ ps. fold with_path [] (found ++ ps)) (map-append (λ (n : Notice). n.path) (notices terms journal) more)
    ∙ ap (fold with_path []) (sym (append_assoc found (map (λ (n : Notice). n.path) (notices terms journal)) (map (λ (n : Notice). n.path) more)))
    ∙ fold-append with_path [] (found ++ map (λ (n : Notice). n.path) (notices terms journal)) (map (λ (n : Notice). n.path) more)
