-- What the outcomes of a batch make of the change list and of the documents is what the journal tells of them.
use Rattle.std.proofs.Common.{◌≡◌, ◌∙◌, ℕ, Bool, IsTrue, List, [], ◌∷◌, ◌++◌, All, fold, map, refl, ap, sym, append-nil, append_assoc, if◌then◌else◌}
use Rattle.std.proofs.lemmas.List.Elements.{All-head, All-tail}
use Rattle.ci_base.specs.declared.numbers.Seq.{Seq}
use Rattle.ci_change.specs.Charges.{was_reached}
use Rattle.ci_change.specs.HandedIn.{HandedIn}
use Rattle.ci_chunk.specs.declared.outcome.Outcome.{Outcome}
use Rattle.ci_chunk.specs.declared.outcome.Outcome.TheVariants.{Done, Failed, Refused}
use Rattle.ci_journal.specs.Filings.{filing, fate_of, fates_at_end}
use Rattle.ci_journal.specs.Pending.{charges_in, refusals_in}
use Rattle.ci_journal.specs.Served.{numbers_of, serve}
use Rattle.ci_journal.specs.Tells.Ending.{Through}
use Rattle.ci_journal.specs.Terms.{Served, Terms}
use Rattle.ci_holdings.specs.Serving.{settle, settle_all, tell_all, verdict_of}

settle-is : (terms : Terms) (served : Served) (doc : List ℕ × Seq) (outcome : Outcome) → serve terms served (filing doc (fate_of outcome)) ≡ settle served doc (verdict_of terms.noise outcome)
settle-is terms served doc (Done transcript) = refl
settle-is terms served doc (Failed status) = refl
settle-is terms served doc (Refused status) = refl

-- the outcomes of a batch settle its documents
pub settled-outcomes : (terms : Terms) (served : Served) (docs : List (List ℕ × Seq)) (outcomes : List Outcome) → fold (serve terms) served (fates_at_end docs (Through outcomes)) ≡ settle_all served docs (map (verdict_of terms.noise) outcomes)
settled-outcomes terms served [] [] = refl
settled-outcomes terms served [] (o ∷ outcomes) = refl
settled-outcomes terms served (d ∷ docs) [] = refl
settled-outcomes terms served (d ∷ docs) (o ∷ outcomes) =
    ap (λ s. fold (serve terms) s (fates_at_end docs (Through outcomes))) (settle-is terms served d o)
    ∙ settled-outcomes terms (settle served d (verdict_of terms.noise o)) docs outcomes

-- some numbers, charges and refusals more
abbrev pub more : HandedIn → List (List ℕ × Seq) → List (List ℕ × Seq) → List (List ℕ × Seq) → HandedIn
more handed numbers charges refusals = record handed {
  served = handed.served ++ numbers;
  charges = handed.charges ++ charges;
  refusals = handed.refusals ++ refusals;
}

abbrev AreReached : HandedIn → List (List ℕ × Seq) → Type 0
AreReached handed docs = All (λ (d : List ℕ × Seq). IsTrue (was_reached handed.notices d.0 d.1.0)) docs

nothing-more : (handed : HandedIn) → handed ≡ more handed [] [] []
nothing-more handed =
    ap (λ ns. let h : HandedIn = record handed { served = ns } in h) (sym (append-nil handed.served))
    ∙ ap (λ cs. let h : HandedIn = record handed { served = handed.served ++ []; charges = cs } in h) (sym (append-nil handed.charges))
    ∙ ap (λ rs. let h : HandedIn = record handed { served = handed.served ++ []; charges = handed.charges ++ []; refusals = rs } in h) (sym (append-nil handed.refusals))

-- the change list is told the numbers, the charges and the refusals among the fates
pub told-outcomes : (noise : List (List ℕ)) (handed : HandedIn) (docs : List (List ℕ × Seq)) (outcomes : List Outcome) → AreReached handed docs →
    tell_all handed docs (map (verdict_of noise) outcomes) ≡ (let filed = fates_at_end docs (Through outcomes) in more handed (numbers_of filed) (charges_in filed) (refusals_in filed))
told-outcomes noise handed [] [] reached = nothing-more handed
told-outcomes noise handed [] (o ∷ outcomes) reached = nothing-more handed
told-outcomes noise handed (d ∷ docs) [] reached = nothing-more handed
told-outcomes noise handed (d ∷ docs) (Done transcript ∷ outcomes) reached =
    let filed = fates_at_end docs (Through outcomes) in
    told-outcomes noise (record handed { served = handed.served ++ d ∷ [] }) docs outcomes (All-tail (λ (d : List ℕ × Seq). IsTrue (was_reached handed.notices d.0 d.1.0)) d docs reached)
    ∙ ap (λ ns. let h : HandedIn = record handed { served = ns; charges = handed.charges ++ charges_in filed; refusals = handed.refusals ++ refusals_in filed } in h)
    (append_assoc handed.served (d ∷ []) (numbers_of filed))
told-outcomes noise handed (d ∷ docs) (Failed status ∷ outcomes) reached =
    let filed = fates_at_end docs (Through outcomes) in
    let told : Bool → HandedIn = λ b. tell_all (record handed { charges = if b then handed.charges ++ d ∷ [] else handed.charges }) docs (map (verdict_of noise) outcomes) in
    ap told (All-head (λ (d : List ℕ × Seq). IsTrue (was_reached handed.notices d.0 d.1.0)) d docs reached)
    ∙ told-outcomes noise (record handed { charges = handed.charges ++ d ∷ [] }) docs outcomes (All-tail (λ (d : List ℕ × Seq). IsTrue (was_reached handed.notices d.0 d.1.0)) d docs reached)
    ∙ ap (λ cs. let h : HandedIn = record handed { served = handed.served ++ numbers_of filed; charges = cs; refusals = handed.refusals ++ refusals_in filed } in h)
    (append_assoc handed.charges (d ∷ []) (charges_in filed))
told-outcomes noise handed (d ∷ docs) (Refused status ∷ outcomes) reached =
    let filed = fates_at_end docs (Through outcomes) in
    let told : Bool → HandedIn = λ b. tell_all (record handed { refusals = if b then handed.refusals ++ d ∷ [] else handed.refusals }) docs (map (verdict_of noise) outcomes) in
    ap told (All-head (λ (d : List ℕ × Seq). IsTrue (was_reached handed.notices d.0 d.1.0)) d docs reached)
    ∙ told-outcomes noise (record handed { refusals = handed.refusals ++ d ∷ [] }) docs outcomes (All-tail (λ (d : List ℕ × Seq). IsTrue (was_reached handed.notices d.0 d.1.0)) d docs reached)
    ∙ ap (λ rs. let h : HandedIn = record handed { served = handed.served ++ numbers_of filed; charges = handed.charges ++ charges_in filed; refusals = rs } in h)
    (append_assoc handed.refusals (d ∷ []) (refusals_in filed))
