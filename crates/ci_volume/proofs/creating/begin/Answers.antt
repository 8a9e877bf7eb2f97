use Rattle.std.proofs.Common.{◌≡◌, ◌+◌, ◌<◌, ◌∙◌, ℕ, List, Contains, ap, arith, get_or, length, subst, sym}
use Rattle.std.proofs.lemmas.List.FromFn.{get_or-range_with_len, length-range_with_len}
use Rattle.std.specs.List.{range_with_len}
use Rattle.ci_pages.specs.Tables.{IsOnce, Relinks, new_uses}
use Rattle.ci_pages.specs.Uses.{Marks, is_free}
use Rattle.ci_pages.specs.declared.page_use.PageUse.TheVariants.{Held}
use Rattle.ci_pages.proofs.Lists.{all_free_new}
use Rattle.ci_volume.proofs.Founded.{range_data}
use Rattle.ci_volume.proofs.Ranges.{in_range, marks_both, range_once}
use Rattle.ci_volume.proofs.creating.begin.Goals as goal

pub prepare-requires-clause-data_pages : goal.prepare-requires-clause-data_pages
prepare-requires-clause-data_pages c page contained =
    range_data c.args.pages 3 c.args.count (omega arith) (omega (arith, c.requires.fits)) page
    (subst (λ (xs : List ℕ). Contains xs page) (c.deref.ensures.value ∙ c.in_ok-root.ensures) contained)

pub hold-requires : goal.hold-requires
hold-requires c page contained =
    let inside : Contains (range_with_len (3 + c.args.count) 16) page = subst (λ (xs : List ℕ). Contains xs page) (c.deref-2.ensures.value ∙ c.in_ok-log.ensures) contained in
    let at = in_range (3 + c.args.count) 16 page inside in
    let apart : ¬ Contains c.deref.result.now page = λ before.
    let there = in_range 3 c.args.count page (subst (λ (xs : List ℕ). Contains xs page) (c.deref.ensures.value ∙ c.in_ok-root.ensures) before) in
    absurd (omega (arith, at.0, there.1)) in
    ap is_free (c.in_ok-table.ensures.marked.others page apart)
    ∙ all_free_new c.args.pages (range_with_len (3 + c.args.count) 16) (range_data c.args.pages (3 + c.args.count) 16 (omega arith) (omega (arith, c.requires.fits))) page inside

pub returns-clause-marked : goal.returns-clause-marked
returns-clause-marked c =
    let old = new_uses c.args.pages in
    let mid = c.in_ok-table.table.uses.pages.items in
    let new = c.hold.new.self.uses.pages.items in
    marks_both old mid new 3 c.args.count 16 Held
    (subst (λ (xs : List ℕ). Marks old mid xs Held) (c.deref.ensures.value ∙ c.in_ok-root.ensures) c.in_ok-table.ensures.marked)
    (subst (λ (xs : List ℕ). Marks mid new xs Held) (c.deref-2.ensures.value ∙ c.in_ok-log.ensures) c.hold.ensures.marked)

pub returns-clause-log_held : goal.returns-clause-log_held
returns-clause-log_held c =
    let first : ℕ = 3 + c.args.count in
    let log = c.in_ok-log.log.items in
    let same : log ≡ range_with_len first 16 = c.in_ok-log.ensures in
    let value : c.deref-2.result.now ≡ log = c.deref-2.ensures.value in
    let once : IsOnce log = subst IsOnce (sym same) (range_once first 16) in
    let linked : Relinks c.in_ok-table.table.links.items c.hold.new.self.links.items log =
    subst (λ (xs : List ℕ). Relinks c.in_ok-table.table.links.items c.hold.new.self.links.items xs) value (c.hold.ensures.linked (subst IsOnce (sym value) once)) in
    let marks : Marks c.in_ok-table.table.uses.pages.items c.hold.new.self.uses.pages.items log Held =
    subst (λ (xs : List ℕ). Marks c.in_ok-table.table.uses.pages.items c.hold.new.self.uses.pages.items xs Held) value c.hold.ensures.marked in
    let size : length log ≡ 16 = ap length same ∙ length-range_with_len first 16 in
    let at : (i : ℕ) → i < 16 → get_or log i 0 ≡ first + i = λ i below. ap (λ xs. get_or xs i 0) same ∙ get_or-range_with_len first 16 i 0 below in
    let begins : get_or log 0 0 ≡ first = omega (arith, at 0 (omega arith)) in
    record {
      begins = begins;
      some = omega (arith, size);
      linked = linked.linked;
      held = marks.each;
      once = once;
      pages = λ i within is_none. absurd (omega (arith, at i (omega (arith, within, size)), is_none));
    }
