-- Chains and the walk along them.
use Rattle.std.proofs.Common.{◌≡◌, ℕ, ◌<◌, List, [], ◌∷◌, ◌++◌, length, refl, sym, ◌∙◌, ap, subst, arith}
use Rattle.ci_volume.specs.Chain.{IsChain, IsDataPage, Leads, Links, next_of, pages_for}

module _ (image : List ℕ) (pages : ℕ) where
  -- one page more
  pub leads_on : (first : ℕ) (front : List ℕ) (page : ℕ) → Leads image pages first front page → IsDataPage image pages page
      → Leads image pages first (front ++ page ∷ []) (next_of image page)
  leads_on first [] page leads is_data = (leads, is_data, refl)
  leads_on first (p ∷ front) page leads is_data = (leads.0, leads.1, leads_on (next_of image p) front page leads.2 is_data)

  -- pages that lead to no page are a chain
  pub links_up : (first p : ℕ) (front : List ℕ) → Leads image pages first (p ∷ front) 0 → Links image pages (p ∷ front)
  links_up first p [] leads = (leads.1, sym leads.2)
  links_up first p (q ∷ front) leads = (leads.1, sym leads.2.0, links_up (next_of image p) q front leads.2)

  data_of : (first : ℕ) (rest : List ℕ) → Links image pages (first ∷ rest) → IsDataPage image pages first
  data_of first [] links = links.0
  data_of first (q ∷ rest) links = links.0

  -- a chain that has more pages than were walked has the page that is reached
  pub reached : (first : ℕ) (rest front : List ℕ) (page : ℕ) → Links image pages (first ∷ rest) → Leads image pages first front page
      → length front < length (first ∷ rest) → IsDataPage image pages page
  reached first rest [] page links leads more = subst (λ (p : ℕ). IsDataPage image pages p) (sym leads) (data_of first rest links)
  reached first [] (p ∷ front) page links leads more = absurd (omega (arith, more))
  reached first (q ∷ rest) (p ∷ front) page links leads more =
      let on : next_of image p ≡ q = ap (next_of image) leads.0 ∙ links.1 in
      reached q rest front page links.2 (subst (λ (f : ℕ). Leads image pages f front page) on leads.2) (omega (arith, more))

  -- a chain of as many pages as were walked ends there
  pub ended : (first : ℕ) (rest front : List ℕ) (page : ℕ) → Links image pages (first ∷ rest) → Leads image pages first front page
      → length front ≡ length (first ∷ rest) → page ≡ 0
  ended first rest [] page links leads same = absurd (omega (arith, same))
  ended first [] (p ∷ []) page links leads same = leads.2 ∙ ap (next_of image) leads.0 ∙ links.1
  ended first [] (p ∷ r ∷ front) page links leads same = absurd (omega (arith, same))
  ended first (q ∷ rest) (p ∷ front) page links leads same =
      let on : next_of image p ≡ q = ap (next_of image) leads.0 ∙ links.1 in
      ended q rest front page links.2 (subst (λ (f : ℕ). Leads image pages f front page) on leads.2) (omega (arith, same))

  -- the pages that were walked are the chain, where they are as many and lead to no page
  pub chain_of : (first n : ℕ) (front : List ℕ) → Leads image pages first front 0 → length front ≡ pages_for n → 0 < length front → IsChain image pages first n front
  chain_of first n [] leads count some = absurd (omega (arith, some))
  chain_of first n (p ∷ front) leads count some = record {
    links = links_up first p front leads;
    begins = (front, ap (λ (x : ℕ). x ∷ front) leads.0);
    count = count;
  }

  pub reached_by : (first n : ℕ) (front chain : List ℕ) (page : ℕ) → IsChain image pages first n chain → Leads image pages first front page
      → length front < pages_for n → IsDataPage image pages page
  reached_by first n front chain page is_chain leads more =
      let (rest, begins) = is_chain.begins in
      reached first rest front page (subst (Links image pages) begins is_chain.links) leads (omega (arith, more, is_chain.count, ap length begins))

  pub ended_by : (first n : ℕ) (front chain : List ℕ) (page : ℕ) → IsChain image pages first n chain → Leads image pages first front page
      → length front ≡ pages_for n → page ≡ 0
  ended_by first n front chain page is_chain leads same =
      let (rest, begins) = is_chain.begins in
      ended first rest front page (subst (Links image pages) begins is_chain.links) leads (omega (arith, same, is_chain.count, ap length begins))
