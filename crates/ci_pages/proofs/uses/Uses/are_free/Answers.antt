use Rattle.std.proofs.Common.{◌≡◌, ℕ, ◌∙◌, List, arith, get_or, refl, subst, sym, take_all, true, true≢false}
use Rattle.std.proofs.lemmas.List.Elements.{Contains-get_or}
use Rattle.ci_pages.specs.Uses.{AllFree, is_free, use_of}
use Rattle.ci_pages.proofs.Marking.{more_hold}
use Rattle.ci_pages.proofs.uses.Uses.are_free.Goals as goal

pub returns-then-not-is_free : goal.returns-then-not-is_free
returns-then-not-is_free c =
    let pages = c.args.pages.now in
    let i = c.loop-page.page-index in (
      λ holds. absurd (true≢false (sym holds)),
      λ all. absurd (true≢false (sym (all (get_or pages i 0) (Contains-get_or pages i 0 c.loop-page-test.true)) ∙ sym c.is_free.ensures ∙ c.if-not-is_free.true)),
    )

pub loop-page-preserved : goal.loop-page-preserved
loop-page-preserved c =
    let uses = c.args.self.now.pages.items in
    more_hold (λ page. is_free (use_of uses page) ≡ true) c.args.pages.now c.loop-page.page-index c.loop-page-test.true c.loop-page.invariant (sym c.is_free.ensures ∙ c.if-not-is_free.false)

pub returns : goal.returns
returns c =
    let all : AllFree c.args.self.now.pages.items c.args.pages.now = subst (λ (ps : List ℕ). AllFree c.args.self.now.pages.items ps) (take_all c.loop-page.page-index c.args.pages.now (omega arith)) c.loop-page.invariant in (
      λ holds. all,
      λ given. refl,
    )
