-- A chain is led through no page twice, and how it comes to be held.
use Rattle.std.proofs.Common.{◌≡◌, ℕ, zero, suc, ◌<◌, List, [], ◌∷◌, Contains, length, get_or, refl, sym, ap, subst, ◌∙◌, arith}
use Rattle.ci_pages.specs.declared.page_use.PageUse.{PageUse}
use Rattle.ci_pages.specs.declared.page_use.PageUse.TheVariants.{Held}
use Rattle.ci_pages.specs.Tables.{IsHeldChain, IsOnce, Relinks}
use Rattle.ci_pages.specs.Uses.{Marks}
use Rattle.ci_volume.specs.Chain.{IsChain, IsDataPage, Links}

module _ (image : List ℕ) (pages : ℕ) where
  pub links_at : (chain : List ℕ) → Links image pages chain → (i : ℕ) → i < length chain → IsDataPage image pages (get_or chain i 0)
  links_at [] links i within = absurd links
  links_at (p ∷ []) links zero within = links.0
  links_at (p ∷ []) links (suc i) within = absurd (omega (arith, within))
  links_at (p ∷ q ∷ rest) links zero within = links.0
  links_at (p ∷ q ∷ rest) links (suc i) within = links_at (q ∷ rest) links.2 i (omega (arith, within))

  -- a page leads on in one way
  same_rest : (p : ℕ) (xs ys : List ℕ) → Links image pages (p ∷ xs) → Links image pages (p ∷ ys) → xs ≡ ys
  same_rest p [] [] a b = refl
  same_rest p [] (q ∷ ys) a b =
      let page = links_at (q ∷ ys) b.2 0 (omega arith) in
      absurd (omega (arith, page.data_page, sym a.1 ∙ b.1))
  same_rest p (q ∷ xs) [] a b =
      let page = links_at (q ∷ xs) a.2 0 (omega arith) in
      absurd (omega (arith, page.data_page, sym b.1 ∙ a.1))
  same_rest p (q ∷ xs) (r ∷ ys) a b =
      let same : r ≡ q = sym b.1 ∙ a.1 in
      ap (λ rest. q ∷ rest) (same_rest q xs ys a.2 (subst (λ s. Links image pages (s ∷ ys)) same b.2)) ∙ ap (λ s. s ∷ ys) (sym same)

  suffix : (xs : List ℕ) (q : ℕ) → Links image pages xs → Contains xs q → (ys : List ℕ) × Links image pages (q ∷ ys) × (length ys < length xs)
  suffix [] q links contained = absurd links
  suffix (x ∷ xs) q links (zero, below, same) = (xs, subst (λ s. Links image pages (s ∷ xs)) same links, omega arith)
  suffix (x ∷ []) q links (suc k, below, same) = absurd (omega (arith, below))
  suffix (x ∷ y ∷ xs) q links (suc k, below, same) =
      let (ys, on, less) = suffix (y ∷ xs) q links.2 (k, omega (arith, below), same) in
      (ys, on, omega (arith, less))

  not_again : (p : ℕ) (xs : List ℕ) → Links image pages (p ∷ xs) → ¬ Contains xs p
  not_again p [] links contained = absurd (omega (arith, contained.1))
  not_again p (x ∷ xs) links contained =
      let (ys, on, less) = suffix (x ∷ xs) p links.2 contained in
      absurd (omega (arith, less, ap length (same_rest p (x ∷ xs) ys links on)))

  once_of_links : (chain : List ℕ) → Links image pages chain → IsOnce chain
  once_of_links [] links = absurd links
  once_of_links (p ∷ []) links = (λ contained. absurd (omega (arith, contained.1)), tt)
  once_of_links (p ∷ q ∷ rest) links = (not_again p (q ∷ rest) links, once_of_links (q ∷ rest) links.2)

  pub once_of_chain : (first n : ℕ) (chain : List ℕ) → IsChain image pages first n chain → IsOnce chain
  once_of_chain first n chain is_chain = once_of_links chain is_chain.links

  pub one_chain : (first n : ℕ) (xs ys : List ℕ) → IsChain image pages first n xs → IsChain image pages first n ys → xs ≡ ys
  one_chain first n xs ys a b =
      let (front, begins) = a.begins in
      let (back, starts) = b.begins in
      begins ∙ ap (λ rest. first ∷ rest) (same_rest first front back (subst (Links image pages) begins a.links) (subst (Links image pages) starts b.links)) ∙ sym starts

  pub held_chain : (first n : ℕ) (chain : List ℕ) (links now_links : List ℕ) (uses now : List PageUse) → IsChain image pages first n chain
      → Marks uses now chain Held → (IsOnce chain → Relinks links now_links chain) → IsHeldChain now_links now first chain
  held_chain first n chain links now_links uses now is_chain marks relinks =
      let (front, begins) = is_chain.begins in
      let once = once_of_links chain is_chain.links in
      record {
        begins = ap (λ xs. get_or xs 0 0) begins;
        some = omega (arith, ap length begins);
        linked = (relinks once).linked;
        held = marks.each;
        once = once;
        pages = λ i within is_none. let page = links_at chain is_chain.links i within in absurd (omega (arith, page.data_page, is_none));
      }
