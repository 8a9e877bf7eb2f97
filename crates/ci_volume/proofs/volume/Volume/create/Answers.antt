use Rattle.std.proofs.Common.{◌≡◌, ◌+◌, ◌∙◌, ℕ, List, Contains, inl, inr, ⊎_elim, ap, arith, length, subst, sym}
use Rattle.std.specs.List.{range_with_len}
use Rattle.std.specs.Vec.{with_items}
use Rattle.ci_pages.specs.Tables.{IsHeldChain, IsOnce}
use Rattle.ci_pages.proofs.Lists.{length_new}
use Rattle.ci_volume.specs.Chain.{pages_for}
use Rattle.ci_volume.specs.Creation.{FreshOrFounded, FreshOrNew, IsNew, first_slot, log_chain, root_chain}
use Rattle.ci_volume.proofs.Founded.{range_data, to_new, to_ready}
use Rattle.ci_volume.proofs.Moments.{weakens}
use Rattle.ci_volume.proofs.Ranges.{in_range, range_once}
use Rattle.ci_volume.proofs.volume.Volume.create.Goals as goal

pub invariant_of-plan : goal.invariant_of-plan
invariant_of-plan g c =
    let size : ℕ = length c.args.root.now in
    let count : c.page_count.result ≡ pages_for size = c.page_count.ensures in
    let root = c.deref.result.now in
    let log = c.deref-in-Ok.result.now in
    let same_root : root ≡ root_chain size = c.deref.ensures.value ∙ c.in-Ok.ensures.root ∙ ap (range_with_len 3) count in
    let same_log : log ≡ log_chain size = c.deref-in-Ok.ensures.value ∙ c.in-Ok.ensures.log ∙ ap (λ n. range_with_len (3 + n) 16) count in
    record {
      root_data = λ page contained. range_data 262144 3 (pages_for size) (omega arith) (omega (arith, c.requires.fits, c.requires.most)) page (subst (λ (xs : List ℕ). Contains xs page) same_root contained);
      log_data = λ page contained. range_data 262144 (3 + pages_for size) 16 (omega arith) (omega (arith, c.requires.fits, c.requires.most)) page (subst (λ (xs : List ℕ). Contains xs page) same_log contained);
      apart = λ page here there.
          let behind = in_range (3 + pages_for size) 16 page (subst (λ (xs : List ℕ). Contains xs page) same_log here) in
          let before = in_range 3 (pages_for size) page (subst (λ (xs : List ℕ). Contains xs page) same_root there) in
          absurd (omega (arith, behind.0, before.1));
    }

pub found_volume-requires-clause-once : goal.found_volume-requires-clause-once
found_volume-requires-clause-once g c =
    let size : ℕ = length c.args.root.now in
    let count : c.page_count.result ≡ pages_for size = c.page_count.ensures in
    let root = c.deref.result.now in
    let log = c.deref-in-Ok.result.now in
    let same_root : root ≡ root_chain size = c.deref.ensures.value ∙ c.in-Ok.ensures.root ∙ ap (range_with_len 3) count in
    let same_log : log ≡ log_chain size = c.deref-in-Ok.ensures.value ∙ c.in-Ok.ensures.log ∙ ap (λ n. range_with_len (3 + n) 16) count in
    (subst IsOnce (sym same_root) (range_once 3 (pages_for size)), subst IsOnce (sym same_log) (range_once (3 + pages_for size) 16))

pub invariant_of-result-clause-account : goal.invariant_of-result-clause-account
invariant_of-result-clause-account g c = c.in-Ok.ensures.marked.size ∙ length_new c.args.pages (omega (arith, c.requires.least))

pub invariant_of-result-clause-buffer_size : goal.invariant_of-result-clause-buffer_size
invariant_of-result-clause-buffer_size g c =
    let lent = with_items c.in-Ok.begun.buffer c.found_volume.new.buffer in
    sym lent.ok.0 ∙ c.in-Ok.begun.buffer.ok.0 ∙ c.in-Ok.ensures.buffer

pub returns-in-Err-found_volume-clause-any_moment : goal.returns-in-Err-found_volume-clause-any_moment
returns-in-Err-found_volume-clause-any_moment g c honest each =
    let size : ℕ = length c.args.root.now in
    let count : c.page_count.result ≡ pages_for size = c.page_count.ensures in
    let root = c.deref.result.now in
    let log = c.deref-in-Ok.result.now in
    let same_root : root ≡ root_chain size = c.deref.ensures.value ∙ c.in-Ok.ensures.root ∙ ap (range_with_len 3) count in
    let same_log : log ≡ log_chain size = c.deref-in-Ok.ensures.value ∙ c.in-Ok.ensures.log ∙ ap (λ n. range_with_len (3 + n) 16) count in
    let slot = first_slot c.args.pages size in
    weakens g.D.Disk.moment g.D.Disk.left_since c.args.disk c.found_volume.new.disk (FreshOrFounded slot root c.args.root.now log) (FreshOrNew c.args.pages c.args.root.now)
    (λ image. ⊎_elim (λ fresh. inl fresh) (λ founded. inr (to_new c.args.pages c.args.root.now c.requires.most c.requires.some c.requires.fits root log image same_root same_log founded c.requires.least)))
    (c.found_volume.ensures.any_moment honest each)

pub returns-in-Ok-found_volume-clause-any_moment : goal.returns-in-Ok-found_volume-clause-any_moment
returns-in-Ok-found_volume-clause-any_moment g c honest each =
    let size : ℕ = length c.args.root.now in
    let count : c.page_count.result ≡ pages_for size = c.page_count.ensures in
    let root = c.deref.result.now in
    let log = c.deref-in-Ok.result.now in
    let same_root : root ≡ root_chain size = c.deref.ensures.value ∙ c.in-Ok.ensures.root ∙ ap (range_with_len 3) count in
    let same_log : log ≡ log_chain size = c.deref-in-Ok.ensures.value ∙ c.in-Ok.ensures.log ∙ ap (λ n. range_with_len (3 + n) 16) count in
    let slot = first_slot c.args.pages size in
    weakens g.D.Disk.moment g.D.Disk.left_since c.args.disk c.found_volume.new.disk (FreshOrFounded slot root c.args.root.now log) (FreshOrNew c.args.pages c.args.root.now)
    (λ image. ⊎_elim (λ fresh. inl fresh) (λ founded. inr (to_new c.args.pages c.args.root.now c.requires.most c.requires.some c.requires.fits root log image same_root same_log founded c.requires.least)))
    (c.found_volume.ensures.any_moment honest each)

pub returns-in-Ok-found_volume-clause-acknowledged : goal.returns-in-Ok-found_volume-clause-acknowledged
returns-in-Ok-found_volume-clause-acknowledged g c honest image left =
    let size : ℕ = length c.args.root.now in
    let count : c.page_count.result ≡ pages_for size = c.page_count.ensures in
    let root = c.deref.result.now in
    let log = c.deref-in-Ok.result.now in
    let same_root : root ≡ root_chain size = c.deref.ensures.value ∙ c.in-Ok.ensures.root ∙ ap (range_with_len 3) count in
    let same_log : log ≡ log_chain size = c.deref-in-Ok.ensures.value ∙ c.in-Ok.ensures.log ∙ ap (λ n. range_with_len (3 + n) 16) count in
    let seen = g.D.Disk.seen c.found_volume.new.disk in
    let new = to_new c.args.pages c.args.root.now c.requires.most c.requires.some c.requires.fits root log seen same_root same_log (c.in-Ok-found_volume.ensures.acknowledged honest) c.requires.least in
    subst (λ (i : List ℕ). IsNew c.args.pages c.args.root.now i) (sym (c.in-Ok-found_volume.ensures.stable honest image left)) new

pub returns-in-Ok-found_volume-clause-log : goal.returns-in-Ok-found_volume-clause-log
returns-in-Ok-found_volume-clause-log g c =
    let size : ℕ = length c.args.root.now in
    let count : c.page_count.result ≡ pages_for size = c.page_count.ensures in
    let same_log : c.in-Ok.begun.log.items ≡ log_chain size = c.in-Ok.ensures.log ∙ ap (λ n. range_with_len (3 + n) 16) count in
    let table = c.in-Ok.begun.table in
    subst (λ (xs : List ℕ). IsHeldChain table.links.items table.uses.pages.items (3 + pages_for size) xs) same_log
    (subst (λ (n : ℕ). IsHeldChain table.links.items table.uses.pages.items (3 + n) c.in-Ok.begun.log.items) count c.in-Ok.ensures.log_held)

pub returns-in-Ok-found_volume-clause-ready : goal.returns-in-Ok-found_volume-clause-ready
returns-in-Ok-found_volume-clause-ready g c honest image left =
    let size : ℕ = length c.args.root.now in
    let count : c.page_count.result ≡ pages_for size = c.page_count.ensures in
    let root = c.deref.result.now in
    let log = c.deref-in-Ok.result.now in
    let same_root : root ≡ root_chain size = c.deref.ensures.value ∙ c.in-Ok.ensures.root ∙ ap (range_with_len 3) count in
    let same_log : log ≡ log_chain size = c.deref-in-Ok.ensures.value ∙ c.in-Ok.ensures.log ∙ ap (λ n. range_with_len (3 + n) 16) count in
    let new = c.found_volume.new.disk in
    to_ready c.args.pages c.args.root.now c.requires.most c.requires.some c.requires.fits root log (g.D.Disk.seen new) same_root same_log (c.in-Ok-found_volume.ensures.acknowledged honest)
    (g.D.Disk.may_leave new) (c.in-Ok-found_volume.ensures.stable honest) image left
