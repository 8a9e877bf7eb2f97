-- The kept documents, as one more filing comes.
use Rattle.std.proofs.Common.{◌≡◌, ◌∙◌, ◌&&◌, ℕ, Bool, true, false, cond, List, [], ◌∷◌, ◌++◌, nat_lt, fold, Option, Some, None, option_to_list, append_assoc, append-nil, refl, ap, sym}
use Rattle.std.proofs.lemmas.List.Elements.{filter_map-append}
use Rattle.std.specs.Cmp.{eq_by_cmp_equiv}
use Rattle.std.specs.Cmp.Lexicographic.{nat_list_cmp_total}
use Rattle.std.specs.FinMap as map_of_keys
use Rattle.std.specs.Ordering.{is_eq}
use Rattle.ci_base.specs.declared.numbers.Seq.{Seq}
use Rattle.ci_change.specs.Pending.{served_number}
use Rattle.ci_chunk.specs.declared.piece.Piece.{Piece}
use Rattle.ci_entry.specs.Entry.{entry_of}
use Rattle.ci_keys.specs.Entry.{EntryLists}
use Rattle.ci_journal.specs.Served.{number_of, numbers_of, serve, serve_where, served_by}
use Rattle.ci_journal.specs.Tells.{Filing}
use Rattle.ci_journal.specs.Tells.Fate.{Filtered, Gone}
use Rattle.ci_journal.specs.Terms.{path_cmp, Documents, Served, Terms, found_served}
use Rattle.ci_journal.proofs.FoldsLemmas.{numbers_of-push}
use Rattle.ci_documents.specs.Documents.{Standings, StandFor, KeepsEntries, Serves, Settles, entry_at}

-- the number that one filing serves comes last
serve-numbers : (terms : Terms) (served : Served) (f : Filing) → (serve terms served f).numbers ≡ served.numbers ++ option_to_list (number_of f)
serve-numbers terms served f = by (number_of f)
  where
    by : (o : Option (List ℕ × Seq)) → (serve_where terms served f.fate o).numbers ≡ served.numbers ++ option_to_list o
    by None = sym (append-nil served.numbers)
    by (Some doc) = refl

fold-numbers : (terms : Terms) (served : Served) (filed : List Filing) → (fold (serve terms) served filed).numbers ≡ served.numbers ++ numbers_of filed
fold-numbers terms served [] = sym (append-nil served.numbers)
fold-numbers terms served (f ∷ filed) =
    fold-numbers terms (serve terms served f) filed ∙ ap (λ ns. ns ++ numbers_of filed) (serve-numbers terms served f)
    ∙ append_assoc served.numbers (option_to_list (number_of f)) (numbers_of filed) ∙ ap (λ ns. served.numbers ++ ns) (sym (first f filed))
  where
    first : (f : Filing) (filed : List Filing) → numbers_of (f ∷ filed) ≡ option_to_list (number_of f) ++ numbers_of filed
    first f filed = filter_map-append number_of (f ∷ []) filed ∙ ap (λ ns. ns ++ numbers_of filed) (numbers_of-push [] f)

-- the numbers that were served are those of what was filed
pub served_by-numbers : (terms : Terms) (filed : List Filing) → (served_by terms filed).numbers ≡ terms.beginning.numbers ++ numbers_of filed
served_by-numbers terms filed = fold-numbers terms (found_served terms.beginning) filed

pub StandFor-keeps : (documents : Documents) (old new : Standings) → StandFor documents old → KeepsEntries old new → StandFor documents new
StandFor-keeps documents old new stands keeps path = stands path ∙ sym (keeps.entries path)

pub flipped : (one other : List ℕ) → is_eq (path_cmp one other) ≡ is_eq (path_cmp other one)
flipped one other = (eq_by_cmp_equiv nat_list_cmp_total).symm one other

-- the map and the documents get the entry of one more filtering
pub StandFor-filtered : (terms : Terms) (served : Served) (path : List ℕ) (seq : Seq) (pieces : List Piece) (entry : EntryLists) (old new : Standings) → entry ≡ entry_of terms.noise pieces
    → StandFor served.documents old → Serves old new path (nat_lt (served_number served.numbers path) seq.0) entry
    → StandFor (serve terms served (record { path = path; seq = seq; fate = Filtered pieces })).documents new
StandFor-filtered terms served path seq pieces entry old new filled stands serves = by (nat_lt (served_number served.numbers path) seq.0) refl
  where
    by : (b : Bool) → nat_lt (served_number served.numbers path) seq.0 ≡ b → StandFor (serve terms served (record { path = path; seq = seq; fate = Filtered pieces })).documents new
    by true counts other =
        rw counts (map_of_keys.get-insert nat_list_cmp_total served.documents path (entry_of terms.noise pieces) other
        ∙ ap (λ b. cond b (Some (entry_of terms.noise pieces)) (map_of_keys.get served.documents other)) (flipped other path)
        ∙ ap (λ e. cond (is_eq (path_cmp path other)) (Some e) (map_of_keys.get served.documents other)) (sym filled)
        ∙ ap (λ o. cond (is_eq (path_cmp path other)) (Some entry) o) (stands other)
        ∙ sym (serves.entries other ∙ ap (λ b. cond (b && is_eq (path_cmp path other)) (Some entry) (entry_at old other)) counts))
    by false counts other =
        rw counts (stands other ∙ sym (serves.entries other ∙ ap (λ b. cond (b && is_eq (path_cmp path other)) (Some entry) (entry_at old other)) counts))

-- the map and the documents lose the entry of an erased path
pub StandFor-erased : (terms : Terms) (served : Served) (path : List ℕ) (seq : Seq) (old new : Standings) → nat_lt (served_number served.numbers path) seq.0 ≡ true
    → StandFor served.documents old → Settles old new path None
    → StandFor (serve terms served (record { path = path; seq = seq; fate = Gone })).documents new
StandFor-erased terms served path seq old new counts stands settles other =
    rw counts (map_of_keys.get-remove nat_list_cmp_total served.documents path other
    ∙ ap (λ b. cond b None (map_of_keys.get served.documents other)) (flipped other path)
    ∙ ap (λ o. cond (is_eq (path_cmp path other)) None o) (stands other)
    ∙ sym (settles.entries other))
