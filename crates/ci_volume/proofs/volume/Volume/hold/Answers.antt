use Rattle.std.proofs.Common.{◌∙◌, ℕ, List, subst, sym, true≢false}
use Rattle.ci_pages.specs.Tables.{IsOnce, Relinks}
use Rattle.ci_pages.specs.Uses.{AllFree, Marks, use_of}
use Rattle.ci_pages.specs.declared.page_use.PageUse.TheVariants.{Held}
use Rattle.ci_volume.specs.Chain.{IsChain}
use Rattle.ci_volume.proofs.Giving.{held_not_free, held_stays}
use Rattle.ci_volume.proofs.Holding.{held_chain, once_of_chain, one_chain}
use Rattle.ci_volume.proofs.volume.Volume.hold.Goals as goal

pub returns-then-not-are_free-clause-refused : goal.returns-then-not-are_free-clause-refused
returns-then-not-are_free-clause-refused g c refused honest chain is_chain all =
    let self = c.args.self.now in
    let image = g.D.Disk.seen self.disk in
    let walked : IsChain image self.slot.pages c.args.first c.args.size c.in_ok-chain.chain.items =
    subst (λ (p : ℕ). IsChain image p c.args.first c.args.size c.in_ok-chain.chain.items) c.bounds-bounds.ensures.pages (c.in_ok-chain.ensures.ok honest c.args.size c.page_count.ensures) in
    let same = one_chain image self.slot.pages c.args.first c.args.size chain c.in_ok-chain.chain.items is_chain walked in
    let free' : AllFree self.table.uses.pages.items c.deref.result.now =
    subst (λ (xs : List ℕ). AllFree self.table.uses.pages.items xs) (same ∙ sym c.deref.ensures.value) all in
    true≢false (sym (c.are_free.ensures.1 free') ∙ c.if-not-are_free.true)

pub returns-clause-ok : goal.returns-clause-ok
returns-clause-ok g c honest =
    let self = c.args.self.now in
    let image = g.D.Disk.seen self.disk in
    let chain = c.in_ok-chain.chain.items in
    let old = self.table in
    let new = c.hold.new.self in
    let is_chain : IsChain image self.slot.pages c.args.first c.args.size chain =
    subst (λ (p : ℕ). IsChain image p c.args.first c.args.size chain) c.bounds-bounds.ensures.pages (c.in_ok-chain.ensures.ok honest c.args.size c.page_count.ensures) in
    let marks : Marks old.uses.pages.items new.uses.pages.items chain Held =
    subst (λ (xs : List ℕ). Marks old.uses.pages.items new.uses.pages.items xs Held) c.deref-2.ensures.value c.hold.ensures.marked in
    let relinks : IsOnce chain → Relinks old.links.items new.links.items chain = λ once.
    subst (λ (xs : List ℕ). Relinks old.links.items new.links.items xs) c.deref-2.ensures.value (c.hold.ensures.linked (subst IsOnce (sym c.deref-2.ensures.value) once)) in
    record {
      chain = chain;
      is_chain = is_chain;
      marks = marks;
      relinks = relinks (once_of_chain image self.slot.pages c.args.first c.args.size chain is_chain);
      held = held_chain image self.slot.pages c.args.first c.args.size chain old.links.items new.links.items old.uses.pages.items new.uses.pages.items is_chain marks relinks;
    }

pub returns-clause-held : goal.returns-clause-held
returns-clause-held g c page held =
    let self = c.args.self.now in
    let all : AllFree self.table.uses.pages.items c.deref-2.result.now =
    subst (λ (xs : List ℕ). AllFree self.table.uses.pages.items xs) (c.deref.ensures.value ∙ sym c.deref-2.ensures.value) (c.are_free.ensures.0 c.if-not-are_free.false) in
    held_stays self.table.uses.pages.items c.hold.new.self.uses.pages.items c.deref-2.result.now Held c.hold.ensures.marked
    (λ q contained was. held_not_free (use_of self.table.uses.pages.items q) (all q contained) was) page held
