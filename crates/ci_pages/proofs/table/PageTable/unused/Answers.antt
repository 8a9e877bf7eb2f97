use Rattle.std.proofs.Common.{◌≡◌, ◌∙◌, Bool, Contains, ℕ, ap, arith, filter, refl, subst, sym}
use Rattle.ci_pages.specs.Tables.{IsOnce, is_head, is_pending, is_unused}
use Rattle.ci_pages.specs.Uses.{use_of}
use Rattle.ci_pages.specs.declared.page_use.PageUse.TheVariants.{Reserved}
use Rattle.ci_pages.proofs.Lists.{behind_head, opens, passes_within, unused_reserved}
use Rattle.ci_pages.proofs.Once.{of_filter, once_filter}
use Rattle.ci_pages.proofs.table.PageTable.unused.Goals as goal

pub pick_unused-requires : goal.pick_unused-requires
pick_unused-requires c page contained =
    let table = c.args.self.now in
    let listed = opens is_pending table.uses.pages.items table.pending.items table.pending_are in
    passes_within is_pending table.uses.pages.items page refl (listed.only page (subst (λ xs. Contains xs page) c.deref.ensures.value contained))

pub returns-clause-unused : goal.returns-clause-unused
returns-clause-unused c =
    let uses = c.args.self.now.uses.pages.items in
    subst (λ xs. c.in_ok-pages.pages.items ≡ filter (λ page. is_unused (use_of uses page)) xs) c.deref.ensures.value c.in_ok-pages.ensures

pub returns-clause-reserved : goal.returns-clause-reserved
returns-clause-reserved c page contained =
    let uses = c.args.self.now.uses.pages.items in
    let test : ℕ → Bool = λ q. is_unused (use_of uses q) in
    unused_reserved (use_of uses page) ((of_filter test c.deref.result.now page (subst (λ xs. Contains xs page) c.in_ok-pages.ensures contained)).1)

pub returns-clause-data_pages : goal.returns-clause-data_pages
returns-clause-data_pages c page contained =
    let uses = c.args.self.now.uses.pages.items in
    let test : ℕ → Bool = λ q. is_unused (use_of uses q) in
    let reserved : use_of uses page ≡ Reserved = unused_reserved (use_of uses page) ((of_filter test c.deref.result.now page (subst (λ xs. Contains xs page) c.in_ok-pages.ensures contained)).1) in (
      behind_head uses page c.args.self.now.headed (ap is_head reserved),
      omega (arith, passes_within is_pending uses page refl (ap is_pending reserved), c.args.self.now.uses.small),
    )

pub returns-clause-once : goal.returns-clause-once
returns-clause-once c once =
    let uses = c.args.self.now.uses.pages.items in
    let test : ℕ → Bool = λ q. is_unused (use_of uses q) in
    subst IsOnce (sym c.in_ok-pages.ensures) (once_filter test c.deref.result.now (subst IsOnce (sym c.deref.ensures.value) once))
