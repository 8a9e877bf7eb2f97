use Rattle.std.proofs.Common.{◌≡◌, ◌-◌, ◌<◌, ◌∙◌, ℕ, List, Contains, ap, ap₂, arith, inl, length, slice_index, subst, sym}
use Rattle.ci_device.specs.Time.{LeavesOnly}
use Rattle.ci_pages.specs.Tables.{AllData, IsOnce, Relinks}
use Rattle.ci_pages.specs.Uses.{AllHave}
use Rattle.ci_pages.specs.declared.page_use.PageUse.TheVariants.{Held, Reserved}
use Rattle.ci_volume.specs.Accounts.{IsTurned, unused_pages}
use Rattle.ci_volume.specs.Chain.{HoldsChain, pages_for}
use Rattle.ci_volume.specs.Runs.{IsRun}
use Rattle.ci_volume.specs.Steps.{StandsEither}
use Rattle.ci_volume.specs.Volumes.{next_slot}
use Rattle.ci_volume.specs.declared.slot.Slot.{Slot}
use Rattle.ci_volume.proofs.Giving.{data_of_given}
use Rattle.ci_volume.proofs.Moments.{started}
use Rattle.ci_volume.proofs.Stored.{stored}
use Rattle.ci_volume.proofs.volume.Volume.commit.Goals as goal

pub returns-in_err-pages-clause-any_moment : goal.returns-in_err-pages-clause-any_moment
returns-in_err-pages-clause-any_moment g c honest held base apart each =
    let self = c.args.self.now in
    let given = unused_pages self.table in
    let header = c.args.header.now.root in
    let Q : List ℕ → Type 0 = StandsEither (1 - self.which) self.slot (next_slot self.slot (slice_index given 0) (length header)) held base in
    started g.D.Disk.moment g.D.Disk.left_since self.disk Q (λ image left. inl (each image (g.D.Disk.only_now self.disk image left)).stands)

pub write_generation-requires-clause-count : goal.write_generation-requires-clause-count
write_generation-requires-clause-count g c =
    ap length (c.deref-2.ensures.value ∙ c.in_ok-pages.ensures.unused) ∙ c.requires.room ∙ ap (λ (bs : List ℕ). pages_for (length bs)) (sym c.items-root.ensures)

pub write_generation-requires-clause-once : goal.write_generation-requires-clause-once
write_generation-requires-clause-once g c = subst IsOnce (sym c.deref-2.ensures.value) (c.in_ok-pages.ensures.once c.requires.once)

pub write_generation-requires-clause-data_pages : goal.write_generation-requires-clause-data_pages
write_generation-requires-clause-data_pages g c =
    subst (λ (xs : List ℕ). AllData 262144 xs) (sym c.deref-2.ensures.value) c.in_ok-pages.ensures.data_pages

pub turn_over-requires-clause-reserved : goal.turn_over-requires-clause-reserved
turn_over-requires-clause-reserved g c =
    subst (λ (xs : List ℕ). AllHave c.args.self.now.table.uses.pages.items xs Reserved) (sym c.deref-3.ensures.value) c.in_ok-pages.ensures.reserved

pub turn_over-requires-clause-once : goal.turn_over-requires-clause-once
turn_over-requires-clause-once g c = subst IsOnce (sym c.deref-3.ensures.value) (c.in_ok-pages.ensures.once c.requires.once)

pub turn_over-requires-clause-held : goal.turn_over-requires-clause-held
turn_over-requires-clause-held g c =
    subst (λ (xs : List ℕ). AllHave c.args.self.now.table.uses.pages.items xs Held) (sym c.deref-4.ensures.value) c.requires.held

pub returns-in_err-self-clause-any_moment : goal.returns-in_err-self-clause-any_moment
returns-in_err-self-clause-any_moment g c honest held base apart each =
    let self = c.args.self.now in
    let given = unused_pages self.table in
    let header = c.args.header.now.root in
    let same : c.in_ok-pages.pages.items ≡ given = c.in_ok-pages.ensures.unused in
    let same_next : c.next_of-next.result ≡ next_slot self.slot (slice_index given 0) (length header) =
    c.next_of-next.ensures ∙ ap₂ (λ (xs bs : List ℕ). next_slot self.slot (slice_index xs 0) (length bs)) (c.deref.ensures.value ∙ same) c.items-root.ensures in
    let later : self.slot.generation < c.next_of-next.result.generation = omega (arith, ap {B = ℕ} (λ (s : Slot). s.generation) c.next_of-next.ensures) in
    let written : (page : ℕ) → Contains c.deref-2.result.now page → ¬ Contains held page = λ page contained.
    apart page (subst (λ (xs : List ℕ). Contains xs page) (c.deref-2.ensures.value ∙ same) contained) in
    subst (λ (n : Slot). LeavesOnly g.D.Disk.moment g.D.Disk.left_since self.disk c.write_generation.new.disk (StandsEither (1 - self.which) self.slot n held base)) same_next
    (c.write_generation.ensures.any_moment honest self.slot held base later written each)

pub returns-clause-any_moment : goal.returns-clause-any_moment
returns-clause-any_moment g c honest held base apart each =
    let self = c.args.self.now in
    let given = unused_pages self.table in
    let header = c.args.header.now.root in
    let same : c.in_ok-pages.pages.items ≡ given = c.in_ok-pages.ensures.unused in
    let same_next : c.next_of-next.result ≡ next_slot self.slot (slice_index given 0) (length header) =
    c.next_of-next.ensures ∙ ap₂ (λ (xs bs : List ℕ). next_slot self.slot (slice_index xs 0) (length bs)) (c.deref.ensures.value ∙ same) c.items-root.ensures in
    let later : self.slot.generation < c.next_of-next.result.generation = omega (arith, ap {B = ℕ} (λ (s : Slot). s.generation) c.next_of-next.ensures) in
    let written : (page : ℕ) → Contains c.deref-2.result.now page → ¬ Contains held page = λ page contained.
    apart page (subst (λ (xs : List ℕ). Contains xs page) (c.deref-2.ensures.value ∙ same) contained) in
    subst (λ (n : Slot). LeavesOnly g.D.Disk.moment g.D.Disk.left_since self.disk c.write_generation.new.disk (StandsEither (1 - self.which) self.slot n held base)) same_next
    (c.write_generation.ensures.any_moment honest self.slot held base later written each)

pub returns-clause-acknowledged : goal.returns-clause-acknowledged
returns-clause-acknowledged g c honest held base apart each =
    let self = c.args.self.now in
    let given = unused_pages self.table in
    let header = c.args.header.now.root in
    let same : c.in_ok-pages.pages.items ≡ given = c.in_ok-pages.ensures.unused in
    let later : self.slot.generation < c.next_of-next.result.generation = omega (arith, ap {B = ℕ} (λ (s : Slot). s.generation) c.next_of-next.ensures) in
    let written : (page : ℕ) → Contains c.deref-2.result.now page → ¬ Contains held page = λ page contained.
    apart page (subst (λ (xs : List ℕ). Contains xs page) (c.deref-2.ensures.value ∙ same) contained) in
    c.in_ok-self.ensures.acknowledged honest self.slot held base later written each

pub returns-clause-next : goal.returns-clause-next
returns-clause-next g c =
    let self = c.args.self.now in
    let given = unused_pages self.table in
    let header = c.args.header.now.root in
    let same : c.in_ok-pages.pages.items ≡ given = c.in_ok-pages.ensures.unused in
    let same_next : c.next_of-next.result ≡ next_slot self.slot (slice_index given 0) (length header) =
    c.next_of-next.ensures ∙ ap₂ (λ (xs bs : List ℕ). next_slot self.slot (slice_index xs 0) (length bs)) (c.deref.ensures.value ∙ same) c.items-root.ensures in
    same_next

pub returns-clause-root : goal.returns-clause-root
returns-clause-root g c honest =
    let self = c.args.self.now in
    let image = g.D.Disk.seen c.write_generation.new.disk in
    let pages = c.in_ok-pages.pages.items in
    let bytes = c.args.header.now.root in
    let count : length pages ≡ pages_for (length bytes) = ap length c.in_ok-pages.ensures.unused ∙ c.requires.room in
    let data_pages = data_of_given self.table.uses.pages.items pages self.slot.pages self.account c.in_ok-pages.ensures.data_pages c.in_ok-pages.ensures.reserved in
    let run : IsRun image pages bytes =
    subst (λ (bs : List ℕ). IsRun image pages bs) c.items-root.ensures
    (subst (λ (xs : List ℕ). IsRun image xs c.items-root.result.now) c.deref-2.ensures.value (c.in_ok-self.ensures.root honest)) in
    let held = stored image self.slot.pages self.few pages bytes data_pages run c.requires.some count in
    let same : slice_index pages 0 ≡ c.next_of-next.result.root = sym (ap {B = ℕ} (λ (s : Slot). s.root) c.next_of-next.ensures ∙ ap (λ (xs : List ℕ). slice_index xs 0) c.deref.ensures.value) in
    let size : self.slot.pages ≡ c.next_of-next.result.pages = sym (ap {B = ℕ} (λ (s : Slot). s.pages) c.next_of-next.ensures) in
    subst (λ (n : ℕ). HoldsChain image n c.next_of-next.result.root bytes pages) size (subst (λ (first : ℕ). HoldsChain image self.slot.pages first bytes pages) same held)

pub returns-clause-turned : goal.returns-clause-turned
returns-clause-turned g c =
    subst (λ (xs : List ℕ). IsTurned c.args.self.now.table c.turn_over.new.table xs) c.deref-4.ensures.value c.turn_over.ensures.turned

pub write_generation-requires-clause-some : goal.write_generation-requires-clause-some
write_generation-requires-clause-some g c = omega (arith, ap length c.items-root.ensures, c.requires.some)

pub returns-clause-linked : goal.returns-clause-linked
returns-clause-linked g c =
    let self = c.args.self.now in
    subst (λ (xs : List ℕ). Relinks self.table.links.items c.turn_over.new.table.links.items xs) (c.deref-3.ensures.value ∙ c.in_ok-pages.ensures.unused) c.turn_over.ensures.linked

pub returns-clause-root_held : goal.returns-clause-root_held
returns-clause-root_held g c =
    subst (λ (xs : List ℕ). AllHave c.turn_over.new.table.uses.pages.items xs Held) c.deref-3.ensures.value c.turn_over.ensures.filled
