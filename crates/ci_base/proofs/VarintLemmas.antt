-- How varints begin, and what of a list tells their number.
use Rattle.std.proofs.Common.{◌≡◌, ◌≢◌, ℕ, zero, suc, ◌+◌, ◌-◌, ◌*◌, ◌/◌, ◌%◌, ◌^◌, ◌<◌, ◌≤◌, List, [], ◌∷◌, ◌++◌, refl, ap, sym, ◌∙◌, arith, inl, inr, length, take, drop, Option, None, Some, IfNone, IfSome, take-append-drop, append_assoc, add-one, pow-suc, set}
use Rattle.std.proofs.lemmas.List.{take_more_set}
use Rattle.std.proofs.Math.Nat.{mul-le-mul_left}
use Rattle.std.proofs.lemmas.Bool.{cases_lt, lt-ltb, le-ltb}
use Rattle.ci_base.specs.Varint.{BeginsWithVarint, NoGroups, groups, varint}

-- a number below 128 is one byte
pub groups-small : (more n : ℕ) → n < 128 → groups more n ≡ n ∷ []
unfolding groups
groups-small zero n small = refl
groups-small (suc more) n small = rw (lt-ltb n 128 small)

-- a greater one begins with its low seven bits
pub groups-great : (more n : ℕ) → 0 < more → 128 ≤ n → groups more n ≡ (n % 128 + 128) ∷ groups (more - 1) (n / 128)
unfolding groups
groups-great zero n some great = absurd (omega arith)
groups-great (suc more) n some great =
    let e : suc more - 1 ≡ more = omega arith in rw (e, le-ltb n 128 great)

-- the last byte that may be has all that is left
pub groups-last : (n : ℕ) → groups 0 n ≡ n ∷ []
unfolding groups
groups-last n = refl

-- what begins with a byte of a top bit begins with the groups of a number of more than seven bits
pub record Splits (more n b : ℕ) (bytes rest : List ℕ) : Type 0 where
  pub great : 128 ≤ n
  pub low : b ≡ n % 128 + 128
  pub high : bytes ≡ groups (more - 1) (n / 128) ++ rest

pub groups-split : (more n b : ℕ) (bytes rest : List ℕ) → 0 < more → 128 ≤ b → b ∷ bytes ≡ groups more n ++ rest → Splits more n b bytes rest
groups-split more n b bytes rest some top e =
    elim (cases_lt n 128) [
      | inl small ↦ (let f : b ∷ bytes ≡ n ∷ rest = e ∙ ap (λ g. g ++ rest) (groups-small more n small) in let g : b ≡ n = cc in absurd (omega arith))
      | inr great ↦ (
          let f : b ∷ bytes ≡ (n % 128 + 128) ∷ (groups (more - 1) (n / 128) ++ rest) = e ∙ ap (λ g. g ++ rest) (groups-great more n some great) in
          record { great = great; low = cc; high = cc })
    ]

-- groups are a byte at least
pub groups-some : (more n : ℕ) (rest : List ℕ) → [] ≡ groups more n ++ rest → ⊥
groups-some zero n rest e = let f : [] ≡ n ∷ rest = e ∙ ap (λ g. g ++ rest) (groups-last n) in cc
groups-some (suc more) n rest e =
    elim (cases_lt n 128) [
      | inl small ↦ (let f : [] ≡ n ∷ rest = e ∙ ap (λ g. g ++ rest) (groups-small (suc more) n small) in cc)
      | inr great ↦ (
          let f : [] ≡ (n % 128 + 128) ∷ (groups (suc more - 1) (n / 128) ++ rest) =
          e ∙ ap (λ g. g ++ rest) (groups-great (suc more) n (omega arith) great) in cc)
    ]

-- a byte below 128 tells the number
one_small : (more a b : ℕ) (x y : List ℕ) → a < 128 → groups more a ++ x ≡ groups more b ++ y → a ≡ b
one_small zero a b x y small e =
    let f : a ∷ x ≡ b ∷ y = ap (λ g. g ++ x) (sym (groups-last a)) ∙ e ∙ ap (λ g. g ++ y) (groups-last b) in cc
one_small (suc more) a b x y small e =
    let f : a ∷ x ≡ groups (suc more) b ++ y = ap (λ g. g ++ x) (sym (groups-small (suc more) a small)) ∙ e in
    elim (cases_lt b 128) [
      | inl q ↦ (let g : a ∷ x ≡ b ∷ y = f ∙ ap (λ g. g ++ y) (groups-small (suc more) b q) in cc)
      | inr q ↦ (
          let g : a ∷ x ≡ (b % 128 + 128) ∷ (groups (suc more - 1) (b / 128) ++ y) =
          f ∙ ap (λ g. g ++ y) (groups-great (suc more) b (omega arith) q) in
          let h : a ≡ b % 128 + 128 = cc in absurd (omega arith))
    ]

-- lists that begin with groups tell the number
pub one_number : (more a b : ℕ) (x y : List ℕ) → groups more a ++ x ≡ groups more b ++ y → a ≡ b
one_number zero a b x y e =
    let f : a ∷ x ≡ b ∷ y = ap (λ g. g ++ x) (sym (groups-last a)) ∙ e ∙ ap (λ g. g ++ y) (groups-last b) in cc
one_number (suc more) a b x y e =
    elim (cases_lt a 128) [
      | inl p ↦ one_small (suc more) a b x y p e
      | inr p ↦ elim (cases_lt b 128) [
        | inl q ↦ sym (one_small (suc more) b a y x q (sym e))
        | inr q ↦ (
            let f : (a % 128 + 128) ∷ (groups (suc more - 1) (a / 128) ++ x) ≡ groups (suc more) b ++ y =
            ap (λ g. g ++ x) (sym (groups-great (suc more) a (omega arith) p)) ∙ e in
            let s = groups-split (suc more) b (a % 128 + 128) _ y (omega arith) (omega arith) f in
            let g : suc more - 1 ≡ more = omega arith in
            let h : groups more (a / 128) ++ x ≡ groups more (b / 128) ++ y = rw g at s.high in
            let i : a / 128 ≡ b / 128 = one_number more (a / 128) (b / 128) x y h in
            omega (arith, s.low))
      ]
    ]

-- nothing begins an empty list
pub no_groups-empty : (more : ℕ) (bytes : List ℕ) → length bytes ≡ 0 → NoGroups more bytes
no_groups-empty more [] none n rest small e = groups-some more n rest e
no_groups-empty more (b ∷ bytes) none n rest small e = absurd (omega arith)

-- a byte with its top bit set begins groups only where groups follow it
pub no_groups-cons : (more b : ℕ) (bytes : List ℕ) → 0 < more → 128 ≤ b → NoGroups (more - 1) bytes → NoGroups more (b ∷ bytes)
no_groups-cons more b bytes some top none n rest small e =
    let s = groups-split more n b bytes rest some top e in
    none (n / 128) rest (omega arith) s.high

-- the groups behind such a byte are those of this number alone
high_part : (more b n count high : ℕ) (bytes rest : List ℕ) → 0 < more → 128 ≤ b → take count bytes ≡ groups (more - 1) high
    → b ∷ bytes ≡ groups more n ++ rest → (128 ≤ n) × (n / 128 ≡ high)
high_part more b n count high bytes rest some top front e =
    let s = groups-split more n b bytes rest some top e in
    let f : groups (more - 1) (n / 128) ++ rest ≡ groups (more - 1) high ++ drop count bytes =
    sym s.high ∙ sym (take-append-drop count bytes) ∙ ap (λ g. g ++ drop count bytes) front in
    (s.great, one_number (more - 1) (n / 128) high rest (drop count bytes) f)

-- a last group of 0 behind it is a second spelling
pub no_groups-zero : (more b count high : ℕ) (bytes : List ℕ) → 0 < more → 128 ≤ b → high ≡ 0
    → take count bytes ≡ groups (more - 1) high → NoGroups more (b ∷ bytes)
no_groups-zero more b count high bytes some top nil front n rest small e =
    let s = high_part more b n count high bytes rest some top front e in absurd (omega (arith, s.0, s.1))

-- a number over 64 bits is none
pub no_groups-over : (more b count high : ℕ) (bytes : List ℕ) → 0 < more → 128 ≤ b → 2 ^ 64 ≤ high * 128
    → take count bytes ≡ groups (more - 1) high → NoGroups more (b ∷ bytes)
no_groups-over more b count high bytes some top over front n rest small e =
    let s = high_part more b n count high bytes rest some top front e in absurd (omega (arith, s.0, s.1))

-- a byte with its top bit set, and the groups of what isn't 0, are the groups of both
pub groups-join : (more b high : ℕ) → 0 < more → 128 ≤ b → b < 256 → high ≢ 0
    → b ∷ groups (more - 1) high ≡ groups more (high * 128 + b % 128)
groups-join more b high some top byte isnt =
    let low : b ≡ (high * 128 + b % 128) % 128 + 128 = omega arith in
    let rest : high ≡ (high * 128 + b % 128) / 128 = omega arith in
    let e : b ∷ groups (more - 1) high ≡ ((high * 128 + b % 128) % 128 + 128) ∷ groups (more - 1) ((high * 128 + b % 128) / 128) = cc in
    e ∙ sym (groups-great more (high * 128 + b % 128) some (omega arith))

-- whatever holds, holds where there is nothing
pub if_none : {X : Type 0} (o : Option X) (P : Type 0) → P → IfNone o P
if_none None P holds = holds
if_none (Some _) P holds = tt

-- what `read_groups` says with nine more bytes is what is said of a varint
pub varint_value : (o : Option (ℕ × ℕ)) (bytes : List ℕ) → IfSome o (λ found. found.0 < 2 ^ 64)
    → IfSome o (λ found. take found.1 bytes ≡ groups 9 found.0) → IfSome o (λ found. BeginsWithVarint bytes found.0)
unfolding varint
varint_value None bytes small front = tt
varint_value (Some found) bytes small front =
    record { small = small; rest = drop found.1 bytes; spelled = sym (take-append-drop found.1 bytes) ∙ ap (λ g. g ++ drop found.1 bytes) front }

pub varint_length : (o : Option (ℕ × ℕ)) → IfSome o (λ found. found.1 ≡ length (groups 9 found.0))
    → IfSome o (λ found. found.1 ≡ length (varint found.0))
unfolding varint
varint_length o count = count

pub no_varint : (o : Option (ℕ × ℕ)) (bytes : List ℕ) → IfNone o (NoGroups 9 bytes)
    → IfNone o ((number : ℕ) → ¬ BeginsWithVarint bytes number)
unfolding varint
no_varint None bytes none = λ number begins. none number begins.rest begins.small begins.spelled
no_varint (Some found) bytes none = tt

-- writing the last byte of the groups
pub spell_last : (bytes : List ℕ) (place more rest : ℕ) (value : List ℕ) → place < length bytes → rest < 128
    → take place bytes ++ groups more rest ≡ value → take (place + 1) (set bytes place rest) ≡ value
spell_last bytes place more rest value within small done =
    take_more_set bytes place rest within ∙ ap (λ g. take place bytes ++ g) (sym (groups-small more rest small)) ∙ done

-- writing a byte before it
pub spell_more : (bytes : List ℕ) (place rest : ℕ) (value : List ℕ) → place < length bytes → place < 9 → 128 ≤ rest
    → take place bytes ++ groups (9 - place) rest ≡ value
    → take (place + 1) (set bytes place (rest % 128 + 128)) ++ groups (9 - (place + 1)) (rest / 128) ≡ value
spell_more bytes place rest value within some great done =
    let n : 9 - place - 1 ≡ 9 - (place + 1) = omega arith in
    ap (λ g. g ++ groups (9 - (place + 1)) (rest / 128)) (take_more_set bytes place (rest % 128 + 128) within)
    ∙ append_assoc (take place bytes) _ _
    ∙ ap (λ m. take place bytes ++ ((rest % 128 + 128) ∷ groups m (rest / 128))) (sym n)
    ∙ ap (λ g. take place bytes ++ g) (sym (groups-great (9 - place) rest (omega arith) great)) ∙ done

-- writing the byte that may be the last
pub spell_ninth : (bytes : List ℕ) (place rest : ℕ) (value : List ℕ) → place ≡ 9 → length bytes ≡ 10
    → take place bytes ++ groups (9 - place) rest ≡ value → take 10 (set bytes 9 rest) ≡ value
spell_ninth bytes place rest value ninth ten done =
    let f : take 9 bytes ++ groups 0 rest ≡ value = rw ninth at done in
    take_more_set bytes 9 rest (omega arith) ∙ ap (λ g. take 9 bytes ++ g) (sym (groups-last rest)) ∙ f

-- what is left, times a power of the place, stays within the value
pub within_more : (rest place value : ℕ) → rest * 128 ^ place ≤ value → rest / 128 * 128 ^ (place + 1) ≤ value
within_more rest place value h =
    let e : 128 ^ (place + 1) ≡ 128 ^ place * 128 = rw add-one (pow-suc 128 place) in
    let f : rest / 128 * 128 ≤ rest = omega arith in
    let g : 128 ^ place * (rest / 128 * 128) ≤ 128 ^ place * rest = mul-le-mul_left (128 ^ place) f in
    rw e (grind (arith, g, h))
