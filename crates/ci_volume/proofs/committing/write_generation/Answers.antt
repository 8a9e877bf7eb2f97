use Rattle.std.proofs.Common.{◌+◌, ◌*◌, ◌≤◌, ◌∙◌, ℕ, List, IsTrue, arith, get_or, ◌<◌, length, inl, sym}
use Rattle.std.proofs.lemmas.List.Elements.{Contains-get_or}
use Rattle.ci_volume.specs.Layout.{part}
use Rattle.ci_volume.specs.Runs.{page_of}
use Rattle.ci_volume.specs.Steps.{IsSparedFrom, StandsBeside, StandsEither}
use Rattle.ci_volume.proofs.Apart.{stands_apart}
use Rattle.ci_volume.proofs.Moments.{behind, joins, weakens}
use Rattle.ci_volume.proofs.committing.write_generation.Goals as goal

pub returns-in_err-size-clause-any_moment : goal.returns-in_err-size-clause-any_moment
returns-in_err-size-clause-any_moment g c honest slot held base later apart each =
    let which = c.args.goal.which in
    let P : List ℕ → Type 0 = StandsBeside c.args.goal.may_be_open which slot held base in
    weakens g.D.Disk.moment g.D.Disk.left_since c.args.disk.now c.write_chain.new.disk P (StandsEither which slot c.args.goal.next held base) (λ image was. inl was.stands)
    (weakens g.D.Disk.moment g.D.Disk.left_since c.args.disk.now c.write_chain.new.disk (IsSparedFrom (g.D.Disk.may_leave c.args.disk.now) c.args.pages.now) (StandsBeside c.args.goal.may_be_open which slot held base)
    (λ image from. stands_apart c.args.pages.now from.0 image from.2 c.requires.data_pages c.args.goal.may_be_open which slot held base c.requires.which apart (each from.0 from.1)) c.write_chain.ensures.any_moment)

pub returns-in_err-pass_over-clause-any_moment : goal.returns-in_err-pass_over-clause-any_moment
returns-in_err-pass_over-clause-any_moment g c honest slot held base later apart each =
    let which = c.args.goal.which in
    let old = c.args.disk.now in
    let mid = c.write_chain.new.disk in
    let new = c.pass_over.new.disk in
    let P : List ℕ → Type 0 = StandsBeside c.args.goal.may_be_open which slot held base in
    let Q : List ℕ → Type 0 = StandsEither which slot c.args.goal.next held base in
    let so_far =
    weakens g.D.Disk.moment g.D.Disk.left_since c.args.disk.now c.write_chain.new.disk (IsSparedFrom (g.D.Disk.may_leave c.args.disk.now) c.args.pages.now) (StandsBeside c.args.goal.may_be_open which slot held base)
    (λ image from. stands_apart c.args.pages.now from.0 image from.2 c.requires.data_pages c.args.goal.may_be_open which slot held base c.requires.which apart (each from.0 from.1)) c.write_chain.ensures.any_moment in
    let stands = behind g.D.Disk.moment g.D.Disk.left_since g.D.Disk.may_leave g.D.Disk.counts_now old mid P so_far in
    let honest_mid : IsTrue (g.D.Disk.honest mid) = c.write_chain.ensures.honest ∙ honest in
    joins g.D.Disk.moment g.D.Disk.left_since old mid new Q (weakens g.D.Disk.moment g.D.Disk.left_since old mid P Q (λ image was. inl was.stands) so_far)
    (c.pass_over.ensures.any_moment honest_mid slot held base later stands)

pub returns-clause-any_moment : goal.returns-clause-any_moment
returns-clause-any_moment g c honest slot held base later apart each =
    let which = c.args.goal.which in
    let old = c.args.disk.now in
    let mid = c.write_chain.new.disk in
    let new = c.pass_over.new.disk in
    let P : List ℕ → Type 0 = StandsBeside c.args.goal.may_be_open which slot held base in
    let Q : List ℕ → Type 0 = StandsEither which slot c.args.goal.next held base in
    let so_far =
    weakens g.D.Disk.moment g.D.Disk.left_since c.args.disk.now c.write_chain.new.disk (IsSparedFrom (g.D.Disk.may_leave c.args.disk.now) c.args.pages.now) (StandsBeside c.args.goal.may_be_open which slot held base)
    (λ image from. stands_apart c.args.pages.now from.0 image from.2 c.requires.data_pages c.args.goal.may_be_open which slot held base c.requires.which apart (each from.0 from.1)) c.write_chain.ensures.any_moment in
    let stands = behind g.D.Disk.moment g.D.Disk.left_since g.D.Disk.may_leave g.D.Disk.counts_now old mid P so_far in
    let honest_mid : IsTrue (g.D.Disk.honest mid) = c.write_chain.ensures.honest ∙ honest in
    joins g.D.Disk.moment g.D.Disk.left_since old mid new Q (weakens g.D.Disk.moment g.D.Disk.left_since old mid P Q (λ image was. inl was.stands) so_far)
    (c.pass_over.ensures.any_moment honest_mid slot held base later stands)

pub returns-clause-acknowledged : goal.returns-clause-acknowledged
returns-clause-acknowledged g c honest slot held base later apart each =
    let which = c.args.goal.which in
    let old = c.args.disk.now in
    let mid = c.write_chain.new.disk in
    let P : List ℕ → Type 0 = StandsBeside c.args.goal.may_be_open which slot held base in
    let so_far =
    weakens g.D.Disk.moment g.D.Disk.left_since c.args.disk.now c.write_chain.new.disk (IsSparedFrom (g.D.Disk.may_leave c.args.disk.now) c.args.pages.now) (StandsBeside c.args.goal.may_be_open which slot held base)
    (λ image from. stands_apart c.args.pages.now from.0 image from.2 c.requires.data_pages c.args.goal.may_be_open which slot held base c.requires.which apart (each from.0 from.1)) c.write_chain.ensures.any_moment in
    let stands = behind g.D.Disk.moment g.D.Disk.left_since g.D.Disk.may_leave g.D.Disk.counts_now old mid P so_far in
    let honest_mid : IsTrue (g.D.Disk.honest mid) = c.write_chain.ensures.honest ∙ honest in
    c.in_ok-pass_over.ensures.ready honest_mid slot held base later stands

pub returns-clause-root : goal.returns-clause-root
returns-clause-root g c honest i within =
    let pages = c.args.pages.now in
    let page = get_or pages i 0 in
    let le = (c.requires.data_pages page (Contains-get_or pages i 0 within)).0 in
    c.in_ok-pass_over.ensures.kept (4096 * page) (page_of (get_or pages (i + 1) 0) (part c.args.root.now (4092 * i) 4092)) (omega (arith, le)) (c.in_ok-size.ensures.ok honest i within)

pub returns-clause-stable : goal.returns-clause-stable
returns-clause-stable g c honest =
    let honest_mid : IsTrue (g.D.Disk.honest c.write_chain.new.disk) = c.write_chain.ensures.honest ∙ honest in
    c.in_ok-pass_over.ensures.stable honest_mid

pub returns-clause-sized : goal.returns-clause-sized
returns-clause-sized g c honest =
    let pages = c.args.pages.now in
    let some : 0 < length pages = omega (arith, c.requires.count, c.requires.some) in
    let run = c.in_ok-size.ensures.ok honest 0 some in
    let le = (c.requires.data_pages (get_or pages 0 0) (Contains-get_or pages 0 0 some)).0 in
    let long : 12288 ≤ length (g.D.Disk.seen c.write_chain.new.disk) = omega (arith, run.within, le) in
    c.in_ok-size.ensures.sized honest ∙ sym (c.in_ok-pass_over.ensures.size long)
