-- Which documents parts cover.
use Rattle.std.proofs.Common.{◌≡◌, ℕ, ◌==◌, Bool, true, false, List, map, get_or, All, Contains, Some, inl, inr, refl, sym, ap, subst, ◌∙◌}
use Rattle.std.specs.Prelude.{slice_get}
use Rattle.std.specs.List.{list_any}
use Rattle.std.proofs.lemmas.Bool.{cases_Bool, eqb-true, eq-eqb}
use Rattle.std.proofs.lemmas.List.Elements.{All-contains}
use Rattle.std.proofs.lemmas.List.Folds.{list_any_none, list_any_at}
use Rattle.std.proofs.lemmas.Map.Keys.{any_passes_from_place}
use Rattle.ci_base.specs.declared.numbers.DocNo.{DocNo}
use Rattle.ci_rows_format.specs.declared.row.Row.{Row}
use Rattle.ci_wordlist.proofs.OrderLemmas.{all_from}
use Rattle.ci_wordlist.specs.WordList.{WordLists}
use Rattle.ci_part.specs.Covering.{covers, is_covered}
use Rattle.ci_part.specs.View.{Covers}

same_doc : (a b : DocNo) → a.0 ≡ b.0 → a ≡ b
same_doc a b e = λ i. record { 0 = e i }

pub covers_found : (part : WordLists) (doc : DocNo) (place : ℕ) → slice_get (map (λ row. row.doc) part.rows) place ≡ Some doc → true ≡ covers doc part
covers_found part doc place there = sym (any_passes_from_place (λ (other : DocNo). other.0 == doc.0) (map (λ (row : Row). row.doc) part.rows) place doc there (eq-eqb doc.0 doc.0 refl))

no_doc : (docs : List DocNo) (doc other : DocNo) → (Contains docs doc → ⊥) → Contains docs other → (other.0 == doc.0) ≡ false
no_doc docs doc other lacks has =
    elim (cases_Bool (other.0 == doc.0)) [
      | inl same ↦ absurd (lacks (subst (Contains docs) (same_doc other doc (eqb-true other.0 doc.0 same)) has))
      | inr differ ↦ differ
    ]

pub covers_none : (part : WordLists) (doc : DocNo) → ¬ Covers part doc → false ≡ covers doc part
covers_none part doc lacks =
    let docs = map (λ (row : Row). row.doc) part.rows in
    sym (list_any_none (λ (other : DocNo). other.0 == doc.0) docs (all_from (λ (other : DocNo). (other.0 == doc.0) ≡ false) docs (λ other has. no_doc docs doc other lacks has)))

covers_is : (part : WordLists) (doc : DocNo) → Covers part doc → covers doc part ≡ true
covers_is part doc (at, within, is) =
    list_any_at (λ (other : DocNo). other.0 == doc.0) (map (λ (row : Row). row.doc) part.rows) at doc within (eq-eqb (get_or (map (λ (row : Row). row.doc) part.rows) at doc).0 doc.0 (ap (λ (d : DocNo). d.0) is))

-- ---- one of some parts

passing : {X : Type 0} (p : X → Bool) (xs : List X) (x : X) → Contains xs x → p x ≡ true → list_any p xs ≡ true
passing p xs x (at, within, is) passes = list_any_at p xs at x within (subst (λ y. p y ≡ true) (sym is) passes)

pub covered_by : (parts : List WordLists) (part : WordLists) (doc : DocNo) → Contains parts part → Covers part doc → is_covered parts doc ≡ true
covered_by parts part doc among has = passing (covers doc) parts part among (covers_is part doc has)

pub none_covers : (parts : List WordLists) (doc : DocNo) → is_covered parts doc ≡ false → All (λ part. ¬ Covers part doc) parts
none_covers parts doc none = all_from (λ (part : WordLists). ¬ Covers part doc) parts (λ part among has. let yes = covered_by parts part doc among has in let no : true ≡ false = sym yes ∙ none in cc)

pub not_covered : (parts : List WordLists) (doc : DocNo) → All (λ part. ¬ Covers part doc) parts → is_covered parts doc ≡ false
not_covered parts doc none =
    list_any_none (covers doc) parts (all_from (λ (part : WordLists). covers doc part ≡ false) parts (λ part among.
    sym (covers_none part doc (All-contains (λ (part : WordLists). ¬ Covers part doc) parts part none among))))
