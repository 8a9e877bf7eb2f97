use Rattle.std.proofs.Common.{◌-◌, ◌∙◌, ℕ, List, ap, arith}
use Rattle.std.specs.List.{filter}
use Rattle.ci_pages.specs.Tables.{is_unused}
use Rattle.ci_pages.specs.Uses.{use_of}
use Rattle.ci_volume.specs.Steps.{IsSparedFrom, StandsBeside}
use Rattle.ci_volume.proofs.Apart.{stands_apart}
use Rattle.ci_volume.proofs.Filling.{unused_rest}
use Rattle.ci_volume.proofs.Giving.{data_of_given}
use Rattle.ci_volume.proofs.Moments.{weakens}
use Rattle.ci_volume.proofs.Stored.{stored}
use Rattle.ci_volume.proofs.volume.Volume.write_run.Goals as goal

pub returns-in_err-self-clause-any_moment : goal.returns-in_err-self-clause-any_moment
returns-in_err-self-clause-any_moment g c held base apart each =
    let self = c.args.self.now in
    let pages = c.args.pages.now in
    let which = 1 - self.which in
    weakens g.D.Disk.moment g.D.Disk.left_since self.disk c.write_chain.new.disk (IsSparedFrom (g.D.Disk.may_leave self.disk) pages) (StandsBeside self.may_be_open which self.slot held base)
    (λ image from. stands_apart pages from.0 image from.2 c.fill.ensures.data_pages self.may_be_open which self.slot held base (omega arith) apart (each from.0 from.1)) c.write_chain.ensures.any_moment

pub returns-clause-any_moment : goal.returns-clause-any_moment
returns-clause-any_moment g c held base apart each =
    let self = c.args.self.now in
    let pages = c.args.pages.now in
    let which = 1 - self.which in
    weakens g.D.Disk.moment g.D.Disk.left_since self.disk c.write_chain.new.disk (IsSparedFrom (g.D.Disk.may_leave self.disk) pages) (StandsBeside self.may_be_open which self.slot held base)
    (λ image from. stands_apart pages from.0 image from.2 c.fill.ensures.data_pages self.may_be_open which self.slot held base (omega arith) apart (each from.0 from.1)) c.write_chain.ensures.any_moment

pub returns-clause-ok : goal.returns-clause-ok
returns-clause-ok g c honest =
    let self = c.args.self.now in
    let pages = c.args.pages.now in
    let data_pages = data_of_given self.table.uses.pages.items pages self.slot.pages self.account c.fill.ensures.data_pages c.requires.reserved in
    stored (g.D.Disk.seen c.write_chain.new.disk) self.slot.pages self.few pages c.args.bytes.now data_pages (c.in_ok-self.ensures.ok honest) c.requires.some c.requires.count

pub returns-clause-unused : goal.returns-clause-unused
returns-clause-unused g c rest once split =
    let table = c.args.self.now.table in
    let new = c.fill.new.self in
    ap (λ (xs : List ℕ). filter (λ page. is_unused (use_of new.uses.pages.items page)) xs) c.fill.ensures.pending
    ∙ unused_rest table.uses.pages.items new.uses.pages.items table.pending.items c.args.pages.now rest once c.fill.ensures.marked split
