-- The pieces of a text make it up, with the blanks between them.
use Rattle.std.proofs.Common.{arith, ◌≡◌, ◌∙◌, ◌<◌, ◌≤◌, ◌+◌, ◌==◌, ◌&&◌, ◌⊎◌, ℕ, zero, suc, Bool, true, false, not, List, [], ◌∷◌, ◌++◌, length, get_or, take, drop, Option, Some, None, nat_lt, slice_index, inl, inr, refl, ap, sym, subst}
use Rattle.std.specs.List.{position_or_len}
use Rattle.std.proofs.lemmas.Bool.{and_parts, eqb-true, not-false, not-true}
use Rattle.std.proofs.lemmas.Bool.Decides.{nat_tests}
use Rattle.std.proofs.lemmas.List.{drop_all, get_or-take, length-take-le, take-append-drop, take_all, take_more}
use Rattle.std.proofs.lemmas.List.Sums.{fails_before_first, passes_at_first}
use Rattle.ci_props.specs.declared.relation.Relation.TheVariants.{Lt, Le, Gt, Ge, Eq, Ne}
use Rattle.ci_pieces.specs.declared.front.Due.{Due}
use Rattle.ci_pieces.specs.declared.front.Due.TheVariants as due
use Rattle.ci_pieces.specs.declared.piece.PieceKind.{PieceKind}
use Rattle.ci_pieces.specs.declared.piece.PieceKind.TheVariants as kind
use Rattle.ci_pieces.specs.Bytes.{is_blank, is_end, is_name, is_quote, sign_kind}
use Rattle.ci_pieces.specs.Front.{Front, due_after, front_of, bare, named, plain, plain_by, quoted, relation, relation_or, run, run_kind, up_to}
use Rattle.ci_pieces.specs.Laid.{AreLaid, HasNoQuote, IsLongest, IsSpelled, StopsAt, goes_on}
use Rattle.ci_pieces.specs.Laid.IsSpelled.{Sign, Word, Bare, Quoted, Property, Pattern, Compares, Unclosed, Nameless}
use Rattle.ci_pieces.specs.Laid.AreLaid.{Ends, Blank, Piece}
use Rattle.ci_pieces.specs.Pieces.{pieces, pieces_from}
use Rattle.ci_pieces.proofs.FrontLemmas.{first_within, quote-is}
use Rattle.ci_pieces.proofs.FrontLemmas.{goes_on as ends_no_run}

drop-first : (n : ℕ) (text : List ℕ) (b : ℕ) (bs : List ℕ) → drop n text ≡ b ∷ bs → (get_or text n 0 ≡ b) × (n < length text)
drop-first zero [] b bs is = absurd (cc)
drop-first zero (x ∷ text) b bs is = (cc, omega arith)
drop-first (suc n) [] b bs is = absurd (cc)
drop-first (suc n) (x ∷ text) b bs is = let more = drop-first n text b bs is in (more.0, omega (arith, more.1))

-- ---- the bytes up to the first that passes

module _ (test : ℕ → Bool) (text : List ℕ) where
  abbrev first : ℕ
  first = position_or_len test text

  length-up_to : length (up_to test text) ≡ first
  length-up_to = length-take-le first text (first_within test text)

  fails-up_to : (place : ℕ) → place < length (up_to test text) → test (get_or (up_to test text) place 0) ≡ false
  fails-up_to place below =
      let within : place < first = omega (arith, below, length-up_to) in
      ap test (get_or-take first text place 0 within) ∙ fails_before_first test text place 0 within

  passes-behind : (b : ℕ) (bs : List ℕ) → drop (length (up_to test text)) text ≡ b ∷ bs → test b ≡ true
  passes-behind b bs is =
      let here = drop-first first text b bs (ap (λ n. drop n text) (sym length-up_to) ∙ is) in
      ap test (sym here.0) ∙ passes_at_first test text 0 here.1

  taken-up_to : take (length (up_to test text)) text ≡ up_to test text
  taken-up_to = ap (λ n. take n text) length-up_to

-- ---- one piece

-- a piece takes bytes that are there, and is spelled by them
record IsFront (found : Front) (b : ℕ) (behind : List ℕ) : Type 0 where
  within : found.more ≤ length behind
  spelled : IsSpelled found.kind found.says (b ∷ take found.more behind) (drop found.more behind)

take-none : (text : List ℕ) → take 0 text ≡ []
take-none [] = refl
take-none (x ∷ text) = refl

drop-none : (text : List ℕ) → drop 0 text ≡ text
drop-none [] = refl
drop-none (x ∷ text) = refl

-- it takes its first byte alone
alone : (says : List ℕ) (is : PieceKind) (b : ℕ) (behind : List ℕ) → IsSpelled is says (b ∷ []) behind → IsFront (record { kind = is; says = says; more = 0 }) b behind
alone says is b behind spelled = record {
  within = omega arith;
  spelled = subst (λ xs. IsSpelled is says (b ∷ xs) (drop 0 behind)) (sym (take-none behind)) (subst (IsSpelled is says (b ∷ [])) (sym (drop-none behind)) spelled);
}

within-up_to : (test : ℕ → Bool) (text : List ℕ) → length (up_to test text) ≤ length text
within-up_to test text = omega (arith, length-up_to test text, first_within test text)

longest-run : (b : ℕ) (behind : List ℕ) → is_end b ≡ false → IsLongest goes_on (b ∷ up_to is_end behind) (drop (length (up_to is_end behind)) behind)
longest-run b behind no_end = record {
  some = λ none. absurd (cc);
  each = λ place below. by place below;
  stops = λ c cs is. ap not (passes-behind is_end behind c cs is);
}
  where
    by : (place : ℕ) → place < length (b ∷ up_to is_end behind) → goes_on (get_or (b ∷ up_to is_end behind) place 0) ≡ true
    by zero below = ap not no_end
    by (suc place) below = ap not (fails-up_to is_end behind place (omega (arith, below)))

run-front : (b : ℕ) (behind : List ℕ) → is_end b ≡ false → IsFront (run b behind) b behind
run-front b behind no_end = record {
  within = within-up_to is_end behind;
  spelled = subst (λ xs. IsSpelled (run_kind (b ∷ up_to is_end behind)) (b ∷ up_to is_end behind) (b ∷ xs) (drop (length (up_to is_end behind)) behind)) (sym (taken-up_to is_end behind))
      (Word (b ∷ up_to is_end behind) (drop (length (up_to is_end behind)) behind) (longest-run b behind no_end));
}

bare-front : (b : ℕ) (behind : List ℕ) → is_end b ≡ false → IsFront (bare b behind) b behind
bare-front b behind no_end = record {
  within = within-up_to is_end behind;
  spelled = subst (λ xs. IsSpelled kind.Bare (b ∷ up_to is_end behind) (b ∷ xs) (drop (length (up_to is_end behind)) behind)) (sym (taken-up_to is_end behind))
      (Bare (b ∷ up_to is_end behind) (drop (length (up_to is_end behind)) behind) (longest-run b behind no_end));
}

-- a quote that is closed, or one that isn't
quoted-front : (b : ℕ) (behind : List ℕ) → is_quote b ≡ true → IsFront (quoted behind) b behind
quoted-front b behind is = by (nat_lt (length (up_to is_quote behind)) (length behind)) refl
  where
    by : (t : Bool) → nat_lt (length (up_to is_quote behind)) (length behind) ≡ t → IsFront (quoted behind) b behind
    by true e =
        let says = up_to is_quote behind in
        let below : length says < length behind = grind (arith, nat_tests, e) in
        let here : length says ≡ position_or_len is_quote behind = length-up_to is_quote behind in
        let closes : get_or behind (length says) 0 ≡ 34 = ap (λ n. get_or behind n 0) here ∙ quote-is _ (passes_at_first is_quote behind 0 (omega (arith, below, here))) in
        let taken : take (length says + 1) behind ≡ says ++ 34 ∷ [] =
        take_more behind (length says) 0 below ∙ ap (λ xs. xs ++ get_or behind (length says) 0 ∷ []) (taken-up_to is_quote behind) ∙ ap (λ c. says ++ c ∷ []) closes in
        rw e (record {
          within = omega (arith, below);
          spelled = subst (λ c. IsSpelled kind.Quoted says (c ∷ take (length says + 1) behind) (drop (length says + 1) behind)) (sym (quote-is b is))
              (subst (λ xs. IsSpelled kind.Quoted says (34 ∷ xs) (drop (length says + 1) behind)) (sym taken)
              (Quoted says (drop (length says + 1) behind) (fails-up_to is_quote behind)));
        })
    by false e =
        let here : length (up_to is_quote behind) ≡ position_or_len is_quote behind = length-up_to is_quote behind in
        let all : position_or_len is_quote behind ≡ length behind = grind (arith, nat_tests, e, here, first_within is_quote behind) in
        let none : HasNoQuote behind = λ place below. fails_before_first is_quote behind place 0 (omega (arith, below, all)) in
        rw e (record {
          within = omega arith;
          spelled = subst (λ c. IsSpelled kind.Broken [] (c ∷ take (length behind) behind) (drop (length behind) behind)) (sym (quote-is b is))
              (subst (λ xs. IsSpelled kind.Broken [] (34 ∷ xs) (drop (length behind) behind)) (sym (take_all (length behind) behind (omega arith)))
              (subst (λ xs. IsSpelled kind.Broken [] (34 ∷ behind) xs) (sym (drop_all (length behind) behind (omega arith))) (Unclosed behind none)));
        })

-- a name, or the sign of one alone
module _ (sign : PieceKind) (b : ℕ) (behind : List ℕ) (starts : (b ≡ 64) ⊎ (b ≡ 35))
    (spells : (says rest : List ℕ) → IsLongest is_name says rest → IsSpelled sign says (b ∷ says) rest) where
  ends_name : (c : ℕ) (cs : List ℕ) → drop (length (up_to (λ x. not (is_name x)) behind)) behind ≡ c ∷ cs → is_name c ≡ false
  ends_name c cs is = not-true (is_name c) (passes-behind (λ x. not (is_name x)) behind c cs is)

  named-front : IsFront (named sign behind) b behind
  named-front = by (length (up_to (λ x. not (is_name x)) behind) == 0) refl
    where
      by : (t : Bool) → (length (up_to (λ x. not (is_name x)) behind) == 0) ≡ t → IsFront (named sign behind) b behind
      by true e =
          let none : length (up_to (λ x. not (is_name x)) behind) ≡ 0 = eqb-true _ 0 e in
          rw e (alone [] kind.Broken b behind (Nameless b behind starts (λ c cs is. ends_name c cs (ap (λ n. drop n behind) none ∙ drop-none behind ∙ is))))
      by false e =
          let says = up_to (λ x. not (is_name x)) behind in
          rw e (record {
            within = within-up_to (λ x. not (is_name x)) behind;
            spelled = subst (λ xs. IsSpelled sign says (b ∷ xs) (drop (length says) behind)) (sym (taken-up_to (λ x. not (is_name x)) behind))
                (spells says (drop (length says) behind) (record {
                  some = λ none. absurd (let zero_is : (length (up_to (λ x. not (is_name x)) behind) == 0) ≡ true = ap (λ xs. length xs == 0) none in cc);
                  each = λ place below. not-false (is_name (get_or says place 0)) (fails-up_to (λ x. not (is_name x)) behind place below);
                  stops = ends_name;
                }));
          })

plain_by-front : (o : Option PieceKind) (b : ℕ) (behind : List ℕ) → sign_kind b ≡ o → is_blank b ≡ false → IsFront (plain_by o b behind) b behind
plain_by-front (Some sign) b behind is shown = alone [] sign b behind (Sign sign b behind is)
plain_by-front None b behind is shown = quote (is_quote b) refl
  where
    pattern : (t : Bool) → (b == 35) ≡ t → is_quote b ≡ false → (b == 64) ≡ false → IsFront (plain_by None b behind) b behind
    pattern true e no_quote no_property =
        let same : b ≡ 35 = eqb-true b 35 e in
        rw (no_quote, no_property, e) (named-front kind.Pattern b behind (inr same) (λ says rest longest. subst (λ c. IsSpelled kind.Pattern says (c ∷ says) rest) (sym same) (Pattern says rest longest)))
    pattern false e no_quote no_property = rw (no_quote, no_property, e) (run-front b behind (ends_no_run b is shown no_quote))

    property : (t : Bool) → (b == 64) ≡ t → is_quote b ≡ false → IsFront (plain_by None b behind) b behind
    property true e no_quote =
        let same : b ≡ 64 = eqb-true b 64 e in
        rw (no_quote, e) (named-front kind.Property b behind (inl same) (λ says rest longest. subst (λ c. IsSpelled kind.Property says (c ∷ says) rest) (sym same) (Property says rest longest)))
    property false e no_quote = pattern (b == 35) refl no_quote e

    quote : (t : Bool) → is_quote b ≡ t → IsFront (plain_by None b behind) b behind
    quote true e = rw e (quoted-front b behind e)
    quote false e = property (b == 64) refl e

plain-front : (b : ℕ) (behind : List ℕ) → is_blank b ≡ false → IsFront (plain b behind) b behind
plain-front b behind shown = plain_by-front (sign_kind b) b behind refl shown

-- ---- a comparison

equal-next : (behind : List ℕ) → (slice_index behind 0 == 61) ≡ true → behind ≡ 61 ∷ drop 1 behind
equal-next [] is = absurd (cc)
equal-next (x ∷ behind) is = ap (λ c. c ∷ behind) (eqb-true x 61 is)

none-next : (behind : List ℕ) → (slice_index behind 0 == 61) ≡ false → StopsAt (λ c. c == 61) behind
none-next behind is c cs same = ap (λ xs. slice_index xs 0 == 61) (sym same) ∙ is

-- one sign, or two
one-sign : (b : ℕ) (behind : List ℕ) (compares : PieceKind) → IsSpelled compares [] (b ∷ []) behind → IsFront (record { kind = compares; says = []; more = 0 }) b behind
one-sign b behind compares spelled = alone [] compares b behind spelled

two-signs : (b : ℕ) (behind : List ℕ) (compares : PieceKind) → (slice_index behind 0 == 61) ≡ true → ((rest : List ℕ) → IsSpelled compares [] (b ∷ 61 ∷ []) rest) → IsFront (record { kind = compares; says = []; more = 1 }) b behind
two-signs b behind compares next spelled =
    subst (λ xs. IsFront (record { kind = compares; says = []; more = 1 }) b xs) (sym (equal-next behind next))
    (record { within = omega arith; spelled = subst (λ xs. IsSpelled compares [] (b ∷ 61 ∷ xs) (drop 0 (drop 1 behind))) (sym (take-none (drop 1 behind))) (spelled (drop 0 (drop 1 behind))) })

relation-front : (b : ℕ) (behind : List ℕ) (found : Front) → relation b behind ≡ Some found → IsFront found b behind
relation-front b behind found is = less (b == 60) refl
  where
    not_equal : (t : Bool) → ((b == 33) && (slice_index behind 0 == 61)) ≡ t → (b == 60) ≡ false → (b == 62) ≡ false → (b == 61) ≡ false → IsFront found b behind
    not_equal true e no_less no_greater no_equal =
        let both = and_parts (b == 33) (slice_index behind 0 == 61) e in
        let same : Some (record { kind = kind.Relates Ne; says = []; more = 1 }) ≡ Some found = sym (rw (no_less, no_greater, no_equal, e) refl) ∙ is in
        let this : record { kind = kind.Relates Ne; says = []; more = 1 } ≡ found = cc in
        subst (λ (f : Front). IsFront f b behind) this
        (two-signs b behind (kind.Relates Ne) both.1 (λ rest. Compares Ne (b ∷ 61 ∷ []) rest (ap (λ c. c ∷ 61 ∷ []) (eqb-true b 33 both.0))))
    not_equal false e no_less no_greater no_equal =
        let never : None ≡ Some found = sym (rw (no_less, no_greater, no_equal, e) refl) ∙ is in
        absurd (cc)

    equal : (t : Bool) → (b == 61) ≡ t → (b == 60) ≡ false → (b == 62) ≡ false → IsFront found b behind
    equal true e no_less no_greater =
        let same : Some (record { kind = kind.Relates Eq; says = []; more = 0 }) ≡ Some found = sym (rw (no_less, no_greater, e) refl) ∙ is in
        let this : record { kind = kind.Relates Eq; says = []; more = 0 } ≡ found = cc in
        subst (λ (f : Front). IsFront f b behind) this (one-sign b behind (kind.Relates Eq) (Compares Eq (b ∷ []) behind (ap (λ c. c ∷ []) (eqb-true b 61 e))))
    equal false e no_less no_greater = not_equal ((b == 33) && (slice_index behind 0 == 61)) refl no_less no_greater e

    greater_next : (t : Bool) → (slice_index behind 0 == 61) ≡ t → (b == 62) ≡ true → (b == 60) ≡ false → IsFront found b behind
    greater_next true n e no_less =
        let same : Some (record { kind = kind.Relates Ge; says = []; more = 1 }) ≡ Some found = sym (rw (no_less, e, n) refl) ∙ is in
        let this : record { kind = kind.Relates Ge; says = []; more = 1 } ≡ found = cc in
        subst (λ (f : Front). IsFront f b behind) this
        (two-signs b behind (kind.Relates Ge) n (λ rest. Compares Ge (b ∷ 61 ∷ []) rest (ap (λ c. c ∷ 61 ∷ []) (eqb-true b 62 e))))
    greater_next false n e no_less =
        let same : Some (record { kind = kind.Relates Gt; says = []; more = 0 }) ≡ Some found = sym (rw (no_less, e, n) refl) ∙ is in
        let this : record { kind = kind.Relates Gt; says = []; more = 0 } ≡ found = cc in
        subst (λ (f : Front). IsFront f b behind) this
        (one-sign b behind (kind.Relates Gt) (Compares Gt (b ∷ []) behind (ap (λ c. c ∷ []) (eqb-true b 62 e), none-next behind n)))

    greater : (t : Bool) → (b == 62) ≡ t → (b == 60) ≡ false → IsFront found b behind
    greater true e no_less = greater_next (slice_index behind 0 == 61) refl e no_less
    greater false e no_less = equal (b == 61) refl no_less e

    less_next : (t : Bool) → (slice_index behind 0 == 61) ≡ t → (b == 60) ≡ true → IsFront found b behind
    less_next true n e =
        let same : Some (record { kind = kind.Relates Le; says = []; more = 1 }) ≡ Some found = sym (rw (e, n) refl) ∙ is in
        let this : record { kind = kind.Relates Le; says = []; more = 1 } ≡ found = cc in
        subst (λ (f : Front). IsFront f b behind) this
        (two-signs b behind (kind.Relates Le) n (λ rest. Compares Le (b ∷ 61 ∷ []) rest (ap (λ c. c ∷ 61 ∷ []) (eqb-true b 60 e))))
    less_next false n e =
        let same : Some (record { kind = kind.Relates Lt; says = []; more = 0 }) ≡ Some found = sym (rw (e, n) refl) ∙ is in
        let this : record { kind = kind.Relates Lt; says = []; more = 0 } ≡ found = cc in
        subst (λ (f : Front). IsFront f b behind) this
        (one-sign b behind (kind.Relates Lt) (Compares Lt (b ∷ []) behind (ap (λ c. c ∷ []) (eqb-true b 60 e), none-next behind n)))

    less : (t : Bool) → (b == 60) ≡ t → IsFront found b behind
    less true e = less_next (slice_index behind 0 == 61) refl e
    less false e = greater (b == 62) refl e

relation_or-front : (o : Option Front) (b : ℕ) (behind : List ℕ) → relation b behind ≡ o → is_blank b ≡ false → IsFront (relation_or o (plain b behind)) b behind
relation_or-front (Some found) b behind is shown = relation-front b behind found is
relation_or-front None b behind is shown = plain-front b behind shown

first-front : (d : Due) (b : ℕ) (behind : List ℕ) → is_blank b ≡ false → IsFront (front_of d b behind) b behind
first-front due.Any b behind shown = plain-front b behind shown
first-front due.Relation b behind shown = relation_or-front (relation b behind) b behind refl shown
first-front due.Value b behind shown = by (is_end b) refl
  where
    by : (t : Bool) → is_end b ≡ t → IsFront (front_of due.Value b behind) b behind
    by true e = rw e (plain-front b behind shown)
    by false e = rw e (bare-front b behind e)

-- ---- all pieces

-- the bytes that the last piece still takes are passed over
laid-behind : (text : List ℕ) (d : Due) (at taken : ℕ) → AreLaid (at + taken) (drop taken text) (pieces_from d at taken text)
laid-behind [] d at zero = Ends (at + 0)
laid-behind [] d at (suc taken) = Ends (at + suc taken)
laid-behind (b ∷ bs) d at (suc taken) =
    let place : at + 1 + taken ≡ at + suc taken = omega arith in
    subst (λ n. AreLaid n (drop taken bs) (pieces_from d (at + 1) taken bs)) place (laid-behind bs d (at + 1) taken)
laid-behind (b ∷ bs) d at zero =
    let place : at ≡ at + 0 = omega arith in
    subst (λ n. AreLaid n (b ∷ bs) (pieces_from d at 0 (b ∷ bs))) place (by (laid-behind bs) (is_blank b) refl)
  where
    by : ((d : Due) (at taken : ℕ) → AreLaid (at + taken) (drop taken bs) (pieces_from d at taken bs)) → (t : Bool) → is_blank b ≡ t → AreLaid at (b ∷ bs) (pieces_from d at 0 (b ∷ bs))
    by rest true e =
        let place : at + 1 + 0 ≡ at + 1 = omega arith in
        rw e (Blank at b bs (pieces_from d (at + 1) 0 bs) e (subst (λ xs. AreLaid (at + 1) xs (pieces_from d (at + 1) 0 bs)) (drop-none bs) (subst (λ n. AreLaid n (drop 0 bs) (pieces_from d (at + 1) 0 bs)) place (rest d (at + 1) 0))))
    by rest false e =
        let found = front_of d b bs in
        let one = first-front d b bs e in
        let count : at + 1 + found.more ≡ at + length (b ∷ take found.more bs) = omega (arith, length-take-le found.more bs one.within) in
        rw e (subst (λ xs. AreLaid at (b ∷ xs) (record { kind = found.kind; text = found.says; at = at } ∷ pieces_from (due_after found.kind) (at + 1) found.more bs)) (take-append-drop found.more bs)
        (Piece at found.kind found.says (b ∷ take found.more bs) (drop found.more bs) (pieces_from (due_after found.kind) (at + 1) found.more bs) one.spelled
        (subst (λ n. AreLaid n (drop found.more bs) (pieces_from (due_after found.kind) (at + 1) found.more bs)) count (rest (due_after found.kind) (at + 1) found.more))))

pub AreLaid-pieces : (text : List ℕ) → AreLaid 0 text (pieces text)
AreLaid-pieces text = subst (λ xs. AreLaid 0 xs (pieces text)) (drop-none text) (laid-behind text due.Any 0 0)
