use Rattle.std.proofs.Common.{◌≡◌, ◌+◌, ◌*◌, ℕ, IsTrue, List, inl, inr, arith, get_or, refl, subst, sym, ◌∙◌}
use Rattle.std.proofs.lemmas.Bool.{cases_lt}
use Rattle.std.proofs.lemmas.List.Elements.{Contains-get_or}
use Rattle.ci_device.specs.Images.{Holds}
use Rattle.ci_volume.specs.Layout.{part}
use Rattle.ci_volume.specs.Runs.{page_of}
use Rattle.ci_volume.specs.Steps.{IsSparedFrom, IsTornFrom}
use Rattle.ci_volume.proofs.Moments.{behind, joins, started, weakens}
use Rattle.ci_volume.proofs.Spared.{holds_apart, spared_none, spared_page, spared_then}
use Rattle.ci_volume.proofs.Spelled.{apart_before, length-page_of}
use Rattle.ci_volume.proofs.writing.write_pages.Goals as goal

pub loop-at-init : goal.loop-at-init
loop-at-init g c = record {
  ok = λ honest i below. absurd (omega (arith, below));
  moments = started g.D.Disk.moment g.D.Disk.left_since c.args.disk.now (IsSparedFrom (g.D.Disk.may_leave c.args.disk.now) c.args.pages.now)
      (λ image left. (image, g.D.Disk.only_now c.args.disk.now image left, spared_none c.args.pages.now image));
  others = spared_none c.args.pages.now (g.D.Disk.seen c.args.disk.now);
  honesty = refl;
  faults = refl;
  size = c.requires.size;
}

pub write_page-requires-clause-page : goal.write_page-requires-clause-page
write_page-requires-clause-page g c =
    let pages = c.args.pages.now in
    let at = c.loop-at.at in
    (c.requires.data_pages (get_or pages at 0) (Contains-get_or pages at 0 c.loop-at-test.true)).1

pub returns-in_err-write_page-clause-any_moment : goal.returns-in_err-write_page-clause-any_moment
returns-in_err-write_page-clause-any_moment g c =
    let pages = c.args.pages.now in
    let page = get_or pages c.loop-at.at 0 in
    let contained = Contains-get_or pages c.loop-at.at 0 c.loop-at-test.true in
    let old = c.args.disk.now in
    let mid = c.loop-at.disk in
    let new = c.write_page.new.disk in
    let P : List ℕ → Type 0 = IsSparedFrom (g.D.Disk.may_leave old) pages in
    let so_far = c.loop-at.invariant.moments in
    let stands = behind g.D.Disk.moment g.D.Disk.left_since g.D.Disk.may_leave g.D.Disk.counts_now old mid P so_far in
    let step = weakens g.D.Disk.moment g.D.Disk.left_since mid new (IsTornFrom (g.D.Disk.may_leave mid) (4096 * page) 4096) P
    (λ image from. let was = stands from.0 from.1 in (was.0, was.1, spared_then pages was.0 from.0 image was.2 (spared_page pages page from.0 image contained from.2))) c.write_page.ensures.any_moment in
    joins g.D.Disk.moment g.D.Disk.left_since old mid new P so_far step

pub returns-in_err-write_page-clause-others : goal.returns-in_err-write_page-clause-others
returns-in_err-write_page-clause-others g c =
    let pages = c.args.pages.now in
    let page = get_or pages c.loop-at.at 0 in
    let contained = Contains-get_or pages c.loop-at.at 0 c.loop-at-test.true in
    let mid = g.D.Disk.seen c.loop-at.disk in
    let new = g.D.Disk.seen c.write_page.new.disk in
    spared_then pages (g.D.Disk.seen c.args.disk.now) mid new c.loop-at.invariant.others (spared_page pages page mid new contained c.write_page.ensures.others)

pub loop-at-preserved : goal.loop-at-preserved
loop-at-preserved g c =
    let pages = c.args.pages.now in
    let bytes = c.args.bytes.now in
    let at = c.loop-at.at in
    let page = get_or pages at 0 in
    let contained = Contains-get_or pages at 0 c.loop-at-test.true in
    let old = c.args.disk.now in
    let mid = c.loop-at.disk in
    let new = c.write_page.new.disk in
    record {
      ok = λ honest i below.
          let honest_mid : IsTrue (g.D.Disk.honest mid) = c.loop-at.invariant.honesty ∙ honest in
          elim (cases_lt i at) [
            | inl before ↦
                holds_apart page (g.D.Disk.seen mid) (g.D.Disk.seen new) c.write_page.ensures.others (get_or pages i 0)
                (page_of (get_or pages (i + 1) 0) (part bytes (4092 * i) 4092)) (apart_before pages i at c.requires.once c.loop-at-test.true before)
                (length-page_of (get_or pages (i + 1) 0) bytes i) (c.loop-at.invariant.ok honest i before)
            | inr here ↦
                let same : i ≡ at = omega (arith, below, here) in
                let written : Holds (g.D.Disk.seen new) (4096 * page) (page_of c.following.result c.content_at-content.result.now) = c.in_ok-write_page.ensures.ok honest_mid in
                let spelled : Holds (g.D.Disk.seen new) (4096 * page) (page_of (get_or pages (at + 1) 0) (part bytes (4092 * at) 4092)) =
                subst (λ (content : List ℕ). Holds (g.D.Disk.seen new) (4096 * page) (page_of (get_or pages (at + 1) 0) content)) c.content_at-content.ensures.part
                (subst (λ (next : ℕ). Holds (g.D.Disk.seen new) (4096 * page) (page_of next c.content_at-content.result.now)) c.following.ensures written) in
                subst (λ (j : ℕ). Holds (g.D.Disk.seen new) (4096 * get_or pages j 0) (page_of (get_or pages (j + 1) 0) (part bytes (4092 * j) 4092))) (sym same) spelled
          ];
      moments =
          let P : List ℕ → Type 0 = IsSparedFrom (g.D.Disk.may_leave old) pages in
          let so_far = c.loop-at.invariant.moments in
          let stands = behind g.D.Disk.moment g.D.Disk.left_since g.D.Disk.may_leave g.D.Disk.counts_now old mid P so_far in
          let step = weakens g.D.Disk.moment g.D.Disk.left_since mid new (IsTornFrom (g.D.Disk.may_leave mid) (4096 * page) 4096) P
          (λ image from. let was = stands from.0 from.1 in (was.0, was.1, spared_then pages was.0 from.0 image was.2 (spared_page pages page from.0 image contained from.2))) c.write_page.ensures.any_moment in
          joins g.D.Disk.moment g.D.Disk.left_since old mid new P so_far step;
      others = spared_then pages (g.D.Disk.seen old) (g.D.Disk.seen mid) (g.D.Disk.seen new) c.loop-at.invariant.others (spared_page pages page (g.D.Disk.seen mid) (g.D.Disk.seen new) contained c.write_page.ensures.others);
      honesty = c.write_page.ensures.honest ∙ c.loop-at.invariant.honesty;
      faults = c.in_ok-write_page.ensures.cause.kept ∙ c.loop-at.invariant.faults;
      size = c.write_page.ensures.buffer;
    }

pub returns-clause-ok : goal.returns-clause-ok
returns-clause-ok g c honest i within = c.loop-at.invariant.ok honest i (omega (arith, within))
