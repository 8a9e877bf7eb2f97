-- Numbers in frames have a fixed length, and their bytes tell them.
use Rattle.std.proofs.Common.{◌≡◌, ℕ, ℤ, ◌^◌, ◌<◌, List, [], ◌∷◌, ◌++◌, length, refl, ap, sym, ◌∙◌, arith, take, drop, get_or, inl, inr, lit<, FitsSigned, take-append-drop, length-take}
use Rattle.std.specs.Int.{w16, w32, w64, from_be_bytes, to_be_bytes, cast_signed, cast_unsigned}
use Rattle.std.proofs.lemmas.Nat.{from_be_bytes-to_be_bytes_2, from_be_bytes-to_be_bytes_4, from_be_bytes-to_be_bytes_8, be_bytes_2, be_bytes_4, be_bytes_8}
use Rattle.std.proofs.lemmas.Int.{of_z-to_z}
use Rattle.std.proofs.Math.Facts.{to_z-of_z, Fits-of_z}
use Rattle.std.proofs.lemmas.Bool.{cases_lt}
use Rattle.std.proofs.lemmas.List.{get_or-take}
use Rattle.std.proofs.Math.ListN.{get_or-eq_default}
use Rattle.ci_wire.specs.Numbers.{u16_bytes, u32_bytes, i64_bytes}

-- fronts of one length are one
pub fronts : (a b x y : List ℕ) → length a ≡ length b → a ++ x ≡ b ++ y → (a ≡ b) × (x ≡ y)
fronts [] [] x y n e = (refl, e)
fronts [] (b ∷ bs) x y n e = absurd (omega arith)
fronts (a ∷ more) [] x y n e = absurd (omega arith)
fronts (a ∷ more) (b ∷ bs) x y n e =
    let first : a ≡ b = cc in
    let rest : more ++ x ≡ bs ++ y = cc in
    let r = fronts more bs x y (omega arith) rest in
    (ap (λ z. z ∷ more) first ∙ ap (λ zs. b ∷ zs) r.0, r.1)

pub length-u16 : (n : ℕ) → length (u16_bytes n) ≡ 2
unfolding u16_bytes
length-u16 n = refl

pub length-u32 : (n : ℕ) → length (u32_bytes n) ≡ 4
unfolding u32_bytes
length-u32 n = refl

pub length-i64 : (n : ℤ) → length (i64_bytes n) ≡ 8
unfolding i64_bytes
length-i64 n = refl

-- the bytes tell the number
u16_same : (m n : ℕ) → m < 2 ^ 16 → n < 2 ^ 16 → u16_bytes m ≡ u16_bytes n → m ≡ n
unfolding u16_bytes
u16_same m n p q e =
    sym (from_be_bytes-to_be_bytes_2 m p) ∙ ap (λ bs. from_be_bytes w16 bs) e ∙ from_be_bytes-to_be_bytes_2 n q

u32_same : (m n : ℕ) → m < 2 ^ 32 → n < 2 ^ 32 → u32_bytes m ≡ u32_bytes n → m ≡ n
unfolding u32_bytes
u32_same m n p q e =
    sym (from_be_bytes-to_be_bytes_4 m p) ∙ ap (λ bs. from_be_bytes w32 bs) e ∙ from_be_bytes-to_be_bytes_4 n q

pub u16_front : (m n : ℕ) (x y : List ℕ) → m < 2 ^ 16 → n < 2 ^ 16 → u16_bytes m ++ x ≡ u16_bytes n ++ y → (m ≡ n) × (x ≡ y)
u16_front m n x y p q e =
    let f = fronts (u16_bytes m) (u16_bytes n) x y (length-u16 m ∙ sym (length-u16 n)) e in
    (u16_same m n p q f.0, f.1)

pub u32_front : (m n : ℕ) (x y : List ℕ) → m < 2 ^ 32 → n < 2 ^ 32 → u32_bytes m ++ x ≡ u32_bytes n ++ y → (m ≡ n) × (x ≡ y)
u32_front m n x y p q e =
    let f = fronts (u32_bytes m) (u32_bytes n) x y (length-u32 m ∙ sym (length-u32 n)) e in
    (u32_same m n p q f.0, f.1)

pub i64_same : (m n : ℤ) → FitsSigned w64 m → FitsSigned w64 n → i64_bytes m ≡ i64_bytes n → m ≡ n
unfolding i64_bytes
i64_same m n p q e =
    let f : cast_unsigned w64 m ≡ cast_unsigned w64 n =
    sym (from_be_bytes-to_be_bytes_8 (cast_unsigned w64 m) (omega (arith, Fits-of_z p))) ∙ ap (λ bs. from_be_bytes w64 bs) e
    ∙ from_be_bytes-to_be_bytes_8 (cast_unsigned w64 n) (omega (arith, Fits-of_z q)) in
    sym (to_z-of_z p) ∙ ap (cast_signed w64) f ∙ to_z-of_z q

-- bytes, each below 256
abbrev pub AreBytes : List ℕ → Type 0
AreBytes bytes = (i : ℕ) → get_or bytes i 0 < 256

AreBytes-take : (n : ℕ) (bytes : List ℕ) → AreBytes bytes → AreBytes (take n bytes)
AreBytes-take n bytes fits i =
    elim (cases_lt i n) [
      | inl below ↦ rw get_or-take (fits i)
      | inr above ↦ rw (get_or-eq_default (take n bytes) 0 {n = i} (omega (arith, length-take n bytes))) (lit< tt)
    ]

-- lists of these lengths are their elements
pub two : (xs : List ℕ) → length xs ≡ 2 → get_or xs 0 0 ∷ get_or xs 1 0 ∷ [] ≡ xs
two [] n = absurd (omega arith)
two (a ∷ []) n = absurd (omega arith)
two (a ∷ b ∷ []) n = refl
two (a ∷ b ∷ c ∷ xs) n = absurd (omega arith)

four : (xs : List ℕ) → length xs ≡ 4 → get_or xs 0 0 ∷ get_or xs 1 0 ∷ get_or xs 2 0 ∷ get_or xs 3 0 ∷ [] ≡ xs
four (a ∷ b ∷ xs) n = ap (λ ys. a ∷ b ∷ ys) (two xs (omega arith))
four [] n = absurd (omega arith)
four (a ∷ []) n = absurd (omega arith)

eight : (xs : List ℕ) → length xs ≡ 8
    → get_or xs 0 0 ∷ get_or xs 1 0 ∷ get_or xs 2 0 ∷ get_or xs 3 0 ∷ get_or xs 4 0 ∷ get_or xs 5 0 ∷ get_or xs 6 0 ∷ get_or xs 7 0 ∷ [] ≡ xs
eight (a ∷ b ∷ c ∷ d ∷ xs) n = ap (λ ys. a ∷ b ∷ c ∷ d ∷ ys) (four xs (omega arith))
eight [] n = absurd (omega arith)
eight (a ∷ []) n = absurd (omega arith)
eight (a ∷ b ∷ []) n = absurd (omega arith)
eight (a ∷ b ∷ c ∷ []) n = absurd (omega arith)

-- the front of the bytes is the number that was read of it
pub u16_split : (bytes front rest : List ℕ) (n : ℕ) → length front ≡ 2 → AreBytes bytes
    → front ≡ take 2 bytes → rest ≡ drop 2 bytes
    → n ≡ from_be_bytes w16 (get_or front 0 0 ∷ get_or front 1 0 ∷ []) → bytes ≡ u16_bytes n ++ rest
unfolding u16_bytes
u16_split bytes front rest n two_bytes fits f r e =
    let g : to_be_bytes w16 n ≡ front = be_bytes_2 front n two_bytes (rw f (AreBytes-take 2 bytes fits)) (e ∙ ap (λ bs. from_be_bytes w16 bs) (two front two_bytes)) in
    let h : front ++ rest ≡ bytes = rw (f, r) (take-append-drop 2 bytes) in
    sym (ap (λ bs. bs ++ rest) g ∙ h)

pub u32_split : (bytes front rest : List ℕ) (n : ℕ) → length front ≡ 4 → AreBytes bytes
    → front ≡ take 4 bytes → rest ≡ drop 4 bytes
    → n ≡ from_be_bytes w32 (get_or front 0 0 ∷ get_or front 1 0 ∷ get_or front 2 0 ∷ get_or front 3 0 ∷ [])
    → bytes ≡ u32_bytes n ++ rest
unfolding u32_bytes
u32_split bytes front rest n four_bytes fits f r e =
    let g : to_be_bytes w32 n ≡ front = be_bytes_4 front n four_bytes (rw f (AreBytes-take 4 bytes fits)) (e ∙ ap (λ bs. from_be_bytes w32 bs) (four front four_bytes)) in
    let h : front ++ rest ≡ bytes = rw (f, r) (take-append-drop 4 bytes) in
    sym (ap (λ bs. bs ++ rest) g ∙ h)

-- eight bytes are the signed number that was read of them
pub i64_of : (bytes : List ℕ) (z : ℤ) → length bytes ≡ 8 → AreBytes bytes
    → z ≡ cast_signed w64 (from_be_bytes w64
    (get_or bytes 0 0 ∷ get_or bytes 1 0 ∷ get_or bytes 2 0 ∷ get_or bytes 3 0 ∷ get_or bytes 4 0 ∷ get_or bytes 5 0 ∷ get_or bytes 6 0 ∷ get_or bytes 7 0 ∷ []))
    → bytes ≡ i64_bytes (cast_signed w64 (cast_unsigned w64 z))
unfolding i64_bytes
i64_of bytes z eight_bytes fits e =
    let u = from_be_bytes w64 bytes in
    let f : z ≡ cast_signed w64 u = e ∙ ap (λ bs. cast_signed w64 (from_be_bytes w64 bs)) (eight bytes eight_bytes) in
    let small : u < 2 ^ 64 = omega (arith, fits 0, fits 1, fits 2, fits 3, fits 4, fits 5, fits 6, fits 7) in
    let g : cast_unsigned w64 z ≡ u = ap (cast_unsigned w64) f ∙ of_z-to_z w64 u small in
    let h : cast_unsigned w64 (cast_signed w64 (cast_unsigned w64 z)) ≡ u = ap (λ n. cast_unsigned w64 (cast_signed w64 n)) g ∙ of_z-to_z w64 u small in
    sym (ap (to_be_bytes w64) h ∙ be_bytes_8 bytes u eight_bytes fits refl)
