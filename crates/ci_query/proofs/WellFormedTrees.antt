-- Each tree that the grammar gives is well formed, and each fault is one of a text.
use Rattle.std.proofs.Common.{◌≡◌, ◌≢◌, ℕ, zero, suc, ◌==◌, Bool, true, false, List, [], ◌∷◌, Option, Some, None, Result, Ok, Err, IsSome, codes, find, if◌then◌else◌, refl, sym, ap, ◌∙◌, subst, inl, inr}
use Rattle.std.specs.Bool.{⊤}
use Rattle.std.specs.List.{AllByRecursion}
use Rattle.std.specs.Str.{str_eq_ignore_ascii_case}
use Rattle.std.proofs.lemmas.Bool.{cases_Bool, eqb-true}
use Rattle.std.specs.Prelude.{ℤ}
use mathlib.Core.Former.{Count}
use Rattle.ci_base.specs.declared.numbers.PropNo.{PropNo}
use Rattle.ci_props.specs.declared.property.Kind.{Kind}
use Rattle.ci_props.specs.declared.property.Kind.TheVariants as property_kind
use Rattle.ci_props.specs.declared.relation.Relation.{Relation}
use Rattle.ci_paths.specs.Prefix.{prefix_of}
use Rattle.ci_pieces.specs.declared.piece.PieceKind.{PieceKind}
use Rattle.ci_pieces.specs.declared.piece.PieceKind.TheVariants as kind
use Rattle.ci_pieces.specs.Cut.{Cut}
use Rattle.ci_dialect.specs.declared.fault.QueryFault.{QueryFault}
use Rattle.ci_dialect.specs.declared.fault.QueryFault.TheVariants.{Bad}
use Rattle.ci_dialect.specs.declared.restriction.Restriction.{Restriction, Row_of-Restriction, end_of-Restriction, more_of-Restriction, items-the_row-Restriction, items_hidden-the_row-Restriction-0}
use Rattle.ci_dialect.specs.declared.restriction.Restriction.TheVariants as restriction
use Rattle.ci_dialect.specs.declared.sign.Opener.{Opener}
use Rattle.ci_dialect.specs.declared.sign.Opener.TheVariants as opener
use Rattle.ci_dialect.specs.declared.sign.Sign.TheVariants as sign
use Rattle.ci_dialect.specs.declared.slots.Slot.{Slot}
use Rattle.ci_dialect.specs.declared.slots.Slot.TheVariants.{Word, Open}
use Rattle.ci_dialect.specs.Fault.{met_in}
use Rattle.ci_dialect.specs.Grammar.{all, end_by, near, near_by, near_operand, near_others, negation, negation_by, opened, pattern_term, prime, prime_by, property_by, property_term, query, same_property, settle, whole, words, words_of_property}
use Rattle.ci_dialect.specs.Joined.{contents, joined, property_in}
use Rattle.ci_dialect.specs.Left.{ahead, place, place_in}
use Rattle.ci_dialect.specs.Rule.{Rule, Give}
use Rattle.ci_dialect.specs.Step.{sees}
use Rattle.ci_dialect.specs.Values.{compared_by, compared_number, is_prefix, known, number_of, patterned, patterned_by, scoped, worded_by}
use Rattle.ci_dialect.specs.WellFormed.{AreTerms, AreWellFormed, IsTerm, IsWellFormed}
use Rattle.ci_dialect.proofs.TreeLemmas.{row_of}
use Rattle.ci_dialect.specs.Words.{is_noise, is_prefix_run, is_starred, phrase, prefix_said, said, said_by, slots_of, without_star, words_of}
use Rattle.ci_query.proofs.EndLemmas.{Form, Keeps, Term, Well}

-- the fault has a place in the text
abbrev pub IsMet : QueryFault → Type 0
IsMet fault = IsSome (met_in fault)

-- the rule gives trees of the form, and such faults
abbrev Yields : Rule → Form → Type 0
Yields rule form = Keeps IsMet rule form

-- ---- how well formed restrictions are joined

well-not : (r : Restriction) → IsWellFormed r → IsWellFormed (restriction.Not r)
unfolding Rattle.ci_dialect.specs.declared.restriction.Restriction.TheBlock.hidden-the_row-Restriction-1 denote.Hole.Carrier.hidden
well-not r well = (well, tt)

to-row : (m : Count) (row : Row_of-Restriction m) → AllByRecursion IsWellFormed (items-the_row-Restriction m row) → AreWellFormed row
to-row m end_of-Restriction well = tt
to-row m (more_of-Restriction r rest) well = (well.0, to-row _ rest well.1)

-- there is an operand, and each is well formed
abbrev AreOperands : List Restriction → Type 0
AreOperands all = (all ≢ []) × AllByRecursion IsWellFormed all

-- two operands and more
well-operands : (first second : Restriction) (more : List Restriction) → IsWellFormed first → AllByRecursion IsWellFormed (second ∷ more) → IsWellFormed (restriction.And (first ∷ second ∷ more))
well-operands first second more well others =
    let all = first ∷ second ∷ more in
    let row = row_of (restriction.And all) in
    let operands : AreOperands all = (λ none. cc, (well, others)) in
    let listed = subst AreOperands (sym (items_hidden-the_row-Restriction-0 all)) operands in
    (listed.0, to-row row.0 row.1 listed.1)

well-and : (first : Restriction) (others : List Restriction) → IsWellFormed first → AllByRecursion IsWellFormed others → IsWellFormed (joined restriction.And first others)
well-and first [] well others = well
well-and first (second ∷ more) well others = well-operands first second more well others

well-or : (first : Restriction) (others : List Restriction) → IsWellFormed first → AllByRecursion IsWellFormed others → IsWellFormed (joined restriction.Or first others)
well-or first [] well others = well
well-or first (second ∷ more) well others = well-operands first second more well others

-- ---- terms of `~`

well-term : (r : Restriction) (property : PropNo) → IsWellFormed r → property_in r ≡ Some property → IsTerm property r
unfolding property_in
well-term (restriction.Content other word prefix) property well is = cc
well-term (restriction.Phrase other slots) property well is = let same : other ≡ property = cc in (same, well)
well-term _ property well is = cc

well-near : (property : PropNo) (first : Restriction) (others : List Restriction) → IsTerm property first → AllByRecursion (IsTerm property) others → IsWellFormed (restriction.Proximity property (first ∷ others))
well-near property first others well rest =
    subst (AreTerms property) (sym (items_hidden-the_row-Restriction-0 (first ∷ others))) (λ none. cc, (well, rest))

-- ---- what terms say

abbrev Says : Result Restriction QueryFault → Type 0
Says r = Yields (settle r) Well

if-says : (b : Bool) (one other : Result Restriction QueryFault) → Says one → Says other → Says (if b then one else other)
if-says true one other says more = says
if-says false one other says more = more

-- places without the open ones at either end begin with a word, if there are any
abbrev BeginsWithWord : List Slot → Type 0
BeginsWithWord [] = ⊤
BeginsWithWord (Word word ∷ more) = ⊤
BeginsWithWord (Open ∷ more) = ⊥

begins-closed : (noise : List (List ℕ)) (words : List (List ℕ)) → BeginsWithWord (slots_of noise words)
begins-closed noise [] = tt
begins-closed noise (word ∷ more) =
    elim (cases_Bool (is_noise noise word)) [
      | inl noisy ↦ rw noisy (begins-closed noise more)
      | inr other ↦ rw (other, other) tt
    ]

phrase-says : (property : PropNo) (at : ℕ) (slots : List Slot) → BeginsWithWord slots → Says (phrase property at slots)
phrase-says property at [] begins = refl
phrase-says property at (Word word ∷ []) begins = tt
phrase-says property at (Word word ∷ second ∷ more) begins = tt
phrase-says property at (Open ∷ more) begins = absurd begins

prefix-says : (property : PropNo) (run : Cut) (items : List Cut) (words : List (List ℕ)) → Says (prefix_said property run items words)
prefix-says property run (item ∷ []) (word ∷ []) = if-says (is_starred (without_star run.text)) (Err (Bad run.at)) (Ok (restriction.Content property word true)) refl tt
prefix-says property run (item ∷ []) [] = refl
prefix-says property run (item ∷ []) (word ∷ second ∷ more) = refl
prefix-says property run [] ws = refl
prefix-says property run (item ∷ second ∷ more) ws = refl

said-says : (noise : List (List ℕ)) (property : PropNo) (at : ℕ) (words : List (List ℕ)) → Says (said noise property at words)
said-says noise property at [] = refl
said-says noise property at (word ∷ more) = phrase-says property at (slots_of noise (word ∷ more)) (begins-closed noise (word ∷ more))

by-says : (run : Option Cut) (noise : List (List ℕ)) (property : PropNo) (items : List Cut) → Says (said_by run noise property items)
by-says (Some run) noise property items = prefix-says property run items (words_of items)
by-says None noise property items = said-says noise property (place_in 0 items) (words_of items)

number-says : (property : PropNo) (relation : Relation) (given : Cut) (number : Option ℤ) → Says (compared_number property relation given number)
number-says property relation given (Some number) = tt
number-says property relation given None = refl

compared-says : (k : Option (PropNo × Kind)) (name : Cut) (relation : Relation) (given : Cut) → Says (compared_by k name relation given)
compared-says None name relation given = refl
compared-says (Some (property, property_kind.Words)) name relation given = refl
compared-says (Some (property, property_kind.Str)) name relation given = tt
compared-says (Some (property, property_kind.Int)) name relation given = number-says property relation given (number_of given.text)

by_kind-says : (k : Option (PropNo × Kind)) (name given : Cut) → Says (patterned_by k name given)
by_kind-says None name given = refl
by_kind-says (Some (property, property_kind.Words)) name given = refl
by_kind-says (Some (property, property_kind.Int)) name given = refl
by_kind-says (Some (property, property_kind.Str)) name given = tt

scoped-says : (given : Cut) → Says (scoped given)
scoped-says given = if-says (is_prefix given.text) (Ok (restriction.Scope (prefix_of given.text))) (Err (Bad given.at)) tt refl

patterned-says : (name given : Cut) → Says (patterned name given)
patterned-says name given =
    if-says (str_eq_ignore_ascii_case name.text (codes "scope")) (scoped given) (patterned_by (known name.text) name given) (scoped-says given) (by_kind-says (known name.text) name given)

-- ---- terms

pattern-yields : Yields pattern_term Well
unfolding pattern_term
pattern-yields = λ name given. patterned-says name given

module _ (noise : List (List ℕ)) where
  words-yield : Yields (words noise) Well
  unfolding words
  words-yield = λ found. by-says (find is_prefix_run found) noise contents found

  of_property-yields : (found : List Cut) (name : Cut) (k : Option (PropNo × Kind)) → Yields (words_of_property noise found (worded_by k name)) Well
  of_property-yields found name None = refl
  of_property-yields found name (Some (property, property_kind.Int)) = refl
  of_property-yields found name (Some (property, property_kind.Words)) = by-says (find is_prefix_run found) noise property found
  of_property-yields found name (Some (property, property_kind.Str)) = by-says (find is_prefix_run found) noise property found

  by_name-yields : (name : Cut) (k : Option PieceKind) → Yields (property_by noise name k) Well
  by_name-yields name (Some kind.Run) = λ found. of_property-yields found name (known name.text)
  by_name-yields name (Some kind.Quoted) = λ found. of_property-yields found name (known name.text)
  by_name-yields name (Some (kind.Relates relation)) = λ given. compared-says (known name.text) name relation given
  by_name-yields name _ = λ l. refl

  property-yields : Yields (property_term noise) Well
  unfolding property_term
  property-yields = λ name l. by_name-yields name (ahead l)

-- ---- rules that hold others

term-yields : (property : PropNo) (at : ℕ) (t : Restriction) (found : Option PropNo) → property_in t ≡ found → IsWellFormed t → Yields (settle (same_property property at t found)) (Term property)
term-yields property at t None is well = refl
term-yields property at t (Some other) is well =
    elim (cases_Bool (other.0 == property.0)) [
      | inl same ↦ rw same (well-term t property well (is ∙ ap (λ n. Some (record { 0 = n })) (eqb-true other.0 property.0 same)))
      | inr apart ↦ rw apart refl
    ]

module _ (noise : List (List ℕ)) (inside : Opener → Rule) (inner : (by : Opener) → Yields (inside by) Well) where
  by_kind-yields : (k : Option PieceKind) → Yields (prime_by noise inside k) Well
  by_kind-yields (Some kind.Open) = (Well, inner opener.Parenthesis, λ tree well. well)
  by_kind-yields (Some kind.Run) = words-yield noise
  by_kind-yields (Some kind.Quoted) = words-yield noise
  by_kind-yields (Some kind.Property) = property-yields noise
  by_kind-yields (Some kind.Pattern) = pattern-yields
  by_kind-yields _ = λ l. refl

  prime-yields : Yields (prime noise inside) Well
  unfolding prime
  prime-yields = λ l. by_kind-yields (ahead l)

  operand-yields : (property : PropNo) → Yields (near_operand noise inside property) (Term property)
  unfolding near_operand
  operand-yields property = λ l. (Well, prime-yields, λ tree well. term-yields property (place l) tree (property_in tree) refl well)

  more-yield : (at : ℕ) (first : Restriction) → IsWellFormed first → (found : Option PropNo) → property_in first ≡ found → Yields (near_by noise inside at first found) Well
  more-yield at first well None is = refl
  more-yield at first well (Some property) is = (Term property, operand-yields property, λ others terms. well-near property first others (well-term first property well is) terms)

  near-yields : Yields (near noise inside) Well
  unfolding near near_others
  near-yields = λ l. (
    Well,
    prime-yields,
    λ first well m. elim (sees sign.Near m) as (λ b. Yields (if b then near_others noise inside (place l) first else Give first) Well) [
      | true ↦ more-yield (place l) first well (property_in first) refl
      | false ↦ well
    ],
  )

  by_not-yields : (k : Option PieceKind) → Yields (negation_by noise inside k) Well
  by_not-yields (Some kind.Not) = (Well, inner opener.Not, λ tree well. well-not tree well)
  by_not-yields _ = near-yields

  negation-yields : Yields (negation noise inside) Well
  unfolding negation
  negation-yields = λ l. by_not-yields (ahead l)

  all-yields : Yields (all noise inside) Well
  unfolding all
  all-yields = (Well, negation-yields, λ first well. (Well, negation-yields, λ others rest. well-and first others well rest))

  query-yields : Yields (query noise inside) Well
  unfolding query
  query-yields = (Well, all-yields, λ first well. (Well, all-yields, λ others rest. well-or first others well rest))

opened-yields : (noise : List (List ℕ)) (room : ℕ) (by : Opener) → Yields (opened noise room by) Well
unfolding opened
opened-yields noise zero by = λ l. refl
opened-yields noise (suc room) opener.Parenthesis = query-yields noise (opened noise room) (opened-yields noise room)
opened-yields noise (suc room) opener.Not = negation-yields noise (opened noise room) (opened-yields noise room)

end-yields : (tree : Restriction) → IsWellFormed tree → (k : Option PieceKind) → Yields (end_by tree k) Well
end-yields tree well None = well
end-yields tree well (Some next) = λ l. refl

pub whole-yields : (noise : List (List ℕ)) → Keeps IsMet (whole noise) Well
unfolding whole
whole-yields noise = (Well, query-yields noise (opened noise 64) (opened-yields noise 64), λ tree well l. end-yields tree well (ahead l))
