-- When two documents of batches are the same.
use Rattle.std.proofs.Common.{◌≡◌, ◌∙◌, ap, ◌&&◌, ◌==◌, ℕ, true, List, bytes_eq, refl, subst}
use Rattle.std.specs.Bool.{Decides}
use Rattle.std.proofs.lemmas.Bool.{and_parts}
use Rattle.std.proofs.lemmas.Bool.Decides.{Decides-eqb}
use Rattle.std.proofs.lemmas.Slice.Eq.{bytes_eq-Decides}
use Rattle.ci_base.specs.declared.numbers.Seq.{Seq}

same_doc : (a b : List ℕ × Seq) → a.0 ≡ b.0 → a.1.0 ≡ b.1.0 → a ≡ b
same_doc a b path number =
    ap (λ (p : List ℕ). (p, a.1)) path ∙ ap (λ (n : ℕ). let seq : Seq = record { 0 = n } in (b.0, seq)) number

equals-itself : (a : List ℕ × Seq) → (bytes_eq a.0 a.0 && (a.1.0 == a.1.0)) ≡ true
equals-itself a = rw ((bytes_eq-Decides a.0 a.0).1 refl, (Decides-eqb a.1.0 a.1.0).1 refl) refl

pub docs-Decides : (a b : List ℕ × Seq) → Decides (bytes_eq a.0 b.0 && (a.1.0 == b.1.0)) (a ≡ b)
docs-Decides a b = (
  λ both. let parts = and_parts (bytes_eq a.0 b.0) (a.1.0 == b.1.0) both in
      same_doc a b ((bytes_eq-Decides a.0 b.0).0 parts.0) ((Decides-eqb a.1.0 b.1.0).0 parts.1),
  λ same. subst (λ (x : List ℕ × Seq). (bytes_eq a.0 x.0 && (a.1.0 == x.1.0)) ≡ true) same (equals-itself a),
)
