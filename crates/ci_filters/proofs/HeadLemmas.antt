-- Lines, names and values, and how many chunks a head has.
use Rattle.std.proofs.Common.{◌≡◌, ◌≢◌, ℕ, ℤ, zero, suc, ◌+◌, ◌-◌, ◌*◌, ◌<◌, ◌≤◌, ◌&&◌, true, false, eqb, leb, List, [], ◌∷◌, ◌++◌, length, get_or, take, drop, Option, Some, None, option_map, MatchOption, refl, sym, ap, ◌∙◌, arith, inl, inr, ne_eqb, eqb-true, length-append}
use Rattle.std.proofs.lemmas.Bool.{and_parts, cases_Bool, cond_both}
use Rattle.std.proofs.lemmas.List.{get_or_at, take_all, take_at, take_more}
use Rattle.std.specs.Str.Lines.{strip_carriage_return}
use Rattle.std.specs.Str.Pattern.{FindsText, LacksTextAt, SplitsAroundMatch}
use denote.Ref.{Bor}
use Rattle.ci_base.specs.declared.numbers.PropNo.{PropNo}
use Rattle.ci_props.specs.Table.{number_of_name}
use Rattle.ci_filters.specs.Contents.{Item}
use Rattle.ci_filters.specs.declared.content.Content.TheVariants.{Words}
use Rattle.ci_filters.specs.Head.{ended_lines, onto_line, name_and_value, field_of, field_items, head_items, items_before, property_items, number_items, number_of, text_items}

-- no line feed, no line
pub ended_lines-none : (text : List ℕ) → ((i : ℕ) → i < length text → get_or text i 0 ≢ 10) → ended_lines text ≡ []
ended_lines-none [] none = refl
ended_lines-none (b ∷ text) none =
    let later = ended_lines-none text (λ i h. none (suc i) (omega arith)) in
    rw (ne_eqb b 10 (none 0 (omega arith)), later) refl

-- a line without a line feed, and a line feed
pub ended_lines-line : (line rest : List ℕ) → ((i : ℕ) → i < length line → get_or line i 0 ≢ 10)
    → ended_lines (line ++ 10 ∷ rest) ≡ line ∷ ended_lines rest
ended_lines-line [] rest none = refl
ended_lines-line (b ∷ line) rest none =
    let later = ended_lines-line line rest (λ i h. none (suc i) (omega arith)) in
    rw (ne_eqb b 10 (none 0 (omega arith)), later) refl

-- a colon with a space behind it
abbrev mark : List ℕ
mark = 58 ∷ 32 ∷ []

begins : (b : ℕ) (line : List ℕ) → (eqb b 58 && eqb (get_or line 0 0) 32) ≡ true → b ∷ line ≡ 58 ∷ 32 ∷ drop 1 line
begins b [] h = let parts = and_parts (eqb b 58) false h in let never : false ≡ true = parts.1 in cc
begins b (c ∷ line) h =
    let parts = and_parts (eqb b 58) (eqb c 32) h in
    let first : b ≡ 58 = eqb-true b 58 parts.0 in
    let second : c ≡ 32 = eqb-true c 32 parts.1 in cc

begins_not : (b : ℕ) (line : List ℕ) → LacksTextAt mark (b ∷ line) 0 → (eqb b 58 && eqb (get_or line 0 0) 32) ≡ false
begins_not b line lacks =
    elim (cases_Bool (eqb b 58 && eqb (get_or line 0 0) 32)) [
      | inl there ↦ absurd (lacks (drop 1 line) (begins b line there))
      | inr other ↦ other
    ]

no_field : (line : List ℕ) → ((i : ℕ) → i ≤ length line → LacksTextAt mark line i) → name_and_value line ≡ None
no_field [] lacks = refl
no_field (b ∷ line) lacks =
    let later = no_field line (λ i h. lacks (suc i) (omega arith)) in
    rw (begins_not b line (lacks 0 (omega arith)), later) refl

field_at : (line : List ℕ) (i : ℕ) (behind : List ℕ) → ((k : ℕ) → k < i → LacksTextAt mark line k)
    → drop i line ≡ mark ++ behind → name_and_value line ≡ Some (take i line, behind)
field_at [] zero behind lacks e = cc
field_at [] (suc i) behind lacks e = cc
field_at (b ∷ line) zero behind lacks e =
    let first : b ≡ 58 = cc in
    let second : line ≡ 32 ∷ behind = cc in
    rw (first, second) refl
field_at (b ∷ line) (suc i) behind lacks e =
    let later = field_at line i behind (λ k h. lacks (suc k) (omega arith)) e in
    rw (begins_not b line (lacks 0 (omega arith)), later) refl

-- what is cut around the first mark is the name and the value
pub split_is_field : (line : List ℕ) (found : Option (Bor (List ℕ) × Bor (List ℕ)))
    → MatchOption found (FindsText mark line None) (λ x. SplitsAroundMatch (FindsText mark) line x.0.now x.1.now)
    → option_map (λ x. (x.0.now, x.1.now)) found ≡ name_and_value line
split_is_field line None none = sym (no_field line none)
split_is_field line (Some x) split =
    let i = split.0 in
    let j = split.1 in
    let finds : FindsText mark line (Some (i, j)) = split.2 in
    let at = field_at line i (drop j line) finds.0 finds.1.split in
    let name : x.0.now ≡ take i line = split.3 in
    let value : x.1.now ≡ drop j line = split.4 in
    rw (at, name, value) refl

length-onto_line : (b : ℕ) (lines : List (List ℕ)) → length (onto_line b lines) ≡ length lines
length-onto_line b [] = refl
length-onto_line b (line ∷ lines) = refl

-- each line takes a byte at least
ended_lines-few : (text : List ℕ) → length (ended_lines text) ≤ length text
ended_lines-few [] = omega arith
ended_lines-few (b ∷ text) =
    let later = ended_lines-few text in
    let Few : List (List ℕ) → Type 0 = λ lines. length lines ≤ length (b ∷ text) in
    cond_both (eqb b 10) _ _ Few (λ _. omega arith) (λ _. omega (arith, length-onto_line b (ended_lines text)))

abbrev Pair : List Item → Type 0
Pair items = length items ≤ 2

number_items-few : (property : PropNo) (number : Option ℤ) → Pair (number_items property number)
number_items-few property None = omega arith
number_items-few property (Some number) = omega arith

text_items-few : (property : PropNo) (value : List ℕ) → Pair (text_items property value)
text_items-few property value =
    let Few : List Item → Type 0 = λ items. length (record { property = property; content = Words value } ∷ items) ≤ 2 in
    cond_both (leb (length value) 65536) _ _ Few (λ _. omega arith) (λ _. omega arith)

property_items-few : (property : Option PropNo) (value : List ℕ) → Pair (property_items property value)
property_items-few None value = omega arith
property_items-few (Some property) value =
    cond_both (eqb property.0 4) _ _ Pair (λ _. number_items-few property (number_of value))
    (λ _. cond_both (leb 5 property.0 && leb property.0 9) _ _ Pair (λ _. text_items-few property value) (λ _. omega arith))

field_items-few : (name value : List ℕ) → Pair (field_items name value)
unfolding field_items
field_items-few name value = property_items-few (number_of_name name) value

items_before-few : (field : Option (List ℕ × List ℕ)) (later : List Item) → length (items_before field later) ≤ 2 + length later
items_before-few None later = omega arith
items_before-few (Some field) later =
    omega (arith, field_items-few field.0 field.1, length-append (field_items field.0 field.1) later)

lines-few : (lines : List (List ℕ)) → length (head_items lines) ≤ 2 * length lines
lines-few [] = omega arith
lines-few (line ∷ lines) = omega (arith, lines-few lines, items_before-few (field_of line) (head_items lines))

-- a head has two chunks for a byte at most
pub head_items-few : (text : List ℕ) → length (head_items (ended_lines text)) ≤ 2 * length text
head_items-few text = omega (arith, lines-few (ended_lines text), ended_lines-few text)

-- what is cut at the first line feed is the first line, and what stands behind it
pub lines_of_split : (text : List ℕ) (found : Option (Bor (List ℕ) × Bor (List ℕ)))
    → MatchOption found ((i : ℕ) → i < length text → get_or text i 0 ≢ 10)
    (λ x. (text ≡ x.0.now ++ (10 ∷ x.1.now)) × ((i : ℕ) → i < length x.0.now → get_or x.0.now i 0 ≢ 10))
    → MatchOption found (ended_lines text ≡ []) (λ x. ended_lines text ≡ x.0.now ∷ ended_lines x.1.now)
lines_of_split text None none = ended_lines-none text none
lines_of_split text (Some x) parts = ap ended_lines parts.0 ∙ ended_lines-line x.0.now x.1.now parts.1

-- one carriage return is dropped
pub stripped : (line front : List ℕ) → line ≡ front ++ 13 ∷ [] → strip_carriage_return line ≡ front
stripped line front e =
    let long : length (front ++ 13 ∷ []) - 1 ≡ length front = omega (arith, length-append front (13 ∷ [])) in
    rw (e, long, get_or_at front 13 [] 0 (length front) refl, take_at front (13 ∷ []) (length front) refl) refl

pub not_stripped : (line : List ℕ) → ((front : List ℕ) → line ≢ front ++ 13 ∷ []) → strip_carriage_return line ≡ line
not_stripped [] none = refl
not_stripped (b ∷ rest) none =
    let line = b ∷ rest in
    let last = length line - 1 in
    let within : last < length line = omega arith in
    let more : last + 1 ≡ length line = omega arith in
    let other : get_or line last 0 ≢ 13 = λ e.
    none (take last line) (sym (take_all (last + 1) line (omega arith)) ∙ take_more line last 0 within ∙ ap (λ c. take last line ++ c ∷ []) e) in
    rw (ne_eqb (get_or line last 0) 13 other) refl

pub parts_of_split : (text : List ℕ) (found : Option (Bor (List ℕ) × Bor (List ℕ)))
    → MatchOption found ((i : ℕ) → i < length text → get_or text i 0 ≢ 10)
    (λ x. (text ≡ x.0.now ++ (10 ∷ x.1.now)) × ((i : ℕ) → i < length x.0.now → get_or x.0.now i 0 ≢ 10))
    → MatchOption found (Unit {0}) (λ x. text ≡ x.0.now ++ 10 ∷ x.1.now)
parts_of_split text None none = tt
parts_of_split text (Some x) parts = parts.0

-- the chunks of a text with properties are few enough to be numbered
pub props_few : (bytes text : List ℕ) (first all last : List Item) (item : Item) → length first ≡ 2
    → all ≡ first ++ head_items (ended_lines text) → last ≡ all ++ item ∷ [] → length text ≤ length bytes
    → length bytes ≤ 1048576 → length last < 4294967295
props_few bytes text first all last item two grown more within bound =
    rw (more, grown) (omega (
      arith,
      head_items-few text,
      length-append (first ++ head_items (ended_lines text)) (item ∷ []),
      length-append first (head_items (ended_lines text)),
    ))
