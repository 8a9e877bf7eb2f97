-- Small parts, and that a document has one path over all of them.
use Rattle.std.proofs.Common.{◌≡◌, ◌≤◌, List, [], ◌∷◌, length, map, All, Contains, refl, sym, ap, subst, ◌∙◌, arith}
use Rattle.std.specs.List.{AllByRecursion, AllZip, filter}
use Rattle.std.specs.List.Sorted.{IsStrictlySortedBy}
use Rattle.std.specs.Ordering.{nat_cmp}
use Rattle.std.proofs.lemmas.List.Elements.{All-contains, All-cons, All-map, All-nil}
use Rattle.ci_base.specs.declared.numbers.DocNo.{DocNo}
use Rattle.ci_base.specs.declared.numbers.Place.{Place}
use Rattle.ci_keys.specs.declared.key.Key.{Key}
use Rattle.ci_keys.specs.Entry.{EntryLists, IsWords, IsValues}
use Rattle.ci_keys.specs.Key.{IsIndexKey, key_cmp}
use Rattle.ci_keys.specs.Order.{Ascends}
use Rattle.ci_keys.specs.Places.{IsPlaces}
use Rattle.ci_rows_format.specs.declared.row.Row.{Row}
use Rattle.ci_rows_format.specs.declared.row.RowState.TheVariants.{Kept, Erased}
use Rattle.ci_rows_format.specs.declared.row.RowState.{RowState}
use Rattle.ci_rows_format.specs.Rows.{MayHave}
use Rattle.ci_wordlist.specs.WordList.{AreEntries, AreRows, WordLists}
use Rattle.ci_wordlist.specs.Filing.{is_kept}
use Rattle.ci_wordlist.proofs.OrderLemmas.{Ascends-cons, Ascends-nil}
use Rattle.ci_keys.proofs.OneForm.{none_in_empty}
use Rattle.ci_part.specs.Part.{lists_of}
use Rattle.ci_part.specs.View.{IsOneToOne}
use Rattle.ci_part.specs.declared.part.Part.{Part}
use Rattle.ci_index_rows.specs.Named.{AreNamed, IsNamed}

may_have : (state : RowState) (row : Row) → row.values ≡ [] → MayHave state row.values
may_have Kept row none = tt
may_have Erased row none = none

pub one_row : (row : Row) → row.values ≡ [] → AreRows (row ∷ [])
one_row row none = record {
  ascend = Ascends-cons (λ (row : Row). row.doc.0) nat_cmp row [] (λ z has. absurd (none_in_empty z has)) (Ascends-nil (λ (row : Row). row.doc.0) nat_cmp);
  erased = All-cons (λ (row : Row). MayHave row.state row.values) row [] (may_have row.state row none) (All-nil (λ (row : Row). MayHave row.state row.values));
}

pub one_word : (key : Key) (places : List Place) → IsIndexKey key → IsPlaces places → IsWords ((key, places) ∷ [])
one_word key places good some = record {
  keys = All-cons (λ (word : Key × List Place). IsIndexKey word.0) (key, places) [] good (All-nil (λ (word : Key × List Place). IsIndexKey word.0));
  places = All-cons (λ (word : Key × List Place). IsPlaces word.1) (key, places) [] some (All-nil (λ (word : Key × List Place). IsPlaces word.1));
  ascend = Ascends-cons (λ (word : Key × List Place). word.0) key_cmp (key, places) [] (λ z has. absurd (none_in_empty z has)) (Ascends-nil (λ (word : Key × List Place). word.0) key_cmp);
}

pub no_values : IsValues []
unfolding IsStrictlySortedBy
no_values = tt

pub one_place : (place : Place) → IsPlaces (place ∷ [])
one_place place = record {
  some = λ e. cc;
  ascend = Ascends-cons (λ (place : Place). place.0) nat_cmp place [] (λ z has. absurd (none_in_empty z has)) (Ascends-nil (λ (place : Place). place.0) nat_cmp);
}

pub one_entry : (row : Row) (entry : EntryLists) → row.state ≡ Kept → row.values ≡ [] → entry.values ≡ [] → AreEntries (row ∷ []) (entry ∷ [])
one_entry row entry kept bare none =
    let rows : filter (λ (row : Row). is_kept row.state) (row ∷ []) ≡ row ∷ [] = rw kept refl in
    subst (λ rs. AllZip (λ (row : Row) (entry : EntryLists). row.values ≡ entry.values) rs (entry ∷ [])) (sym rows) (bare ∙ sym none, tt)

pub no_entry : (row : Row) → row.state ≡ Erased → AreEntries (row ∷ []) []
no_entry row erased =
    let rows : filter (λ (row : Row). is_kept row.state) (row ∷ []) ≡ [] = rw erased refl in
    subst (λ rs. AllZip (λ (row : Row) (entry : EntryLists). row.values ≡ entry.values) rs []) (sym rows) tt

named_in : (parts : List WordLists) → All AreNamed parts → (part : WordLists) (row : Row) → Contains parts part → Contains part.rows row → IsNamed row
named_in parts all part row among has = All-contains IsNamed part.rows row (All-contains AreNamed parts part all among) has

same_letter : (a b : DocNo) → 47 ∷ a.0 ∷ [] ≡ 47 ∷ b.0 ∷ [] → a ≡ b
same_letter a b e = let n : a.0 ≡ b.0 = cc in λ i. record { 0 = n i }

one_to_one : (parts : List WordLists) → All AreNamed parts → IsOneToOne parts
one_to_one parts all = record {
  path = λ a b x y a_in b_in x_in y_in same. named_in parts all a x a_in x_in ∙ ap (λ (d : DocNo). 47 ∷ d.0 ∷ []) same ∙ sym (named_in parts all b y b_in y_in);
  document = λ a b x y a_in b_in x_in y_in same. same_letter x.doc y.doc (sym (named_in parts all a x a_in x_in) ∙ same ∙ named_in parts all b y b_in y_in);
}

pub view_of : (parts : List Part) → All (λ part. AreNamed (lists_of part)) parts → IsOneToOne (map lists_of parts)
view_of parts all = one_to_one (map lists_of parts) (All-map AreNamed lists_of parts all)
