use Rattle.std.proofs.Common.{◌≡◌, ◌<◌, ◌∙◌, ap, arith, get_or, length, refl}
use Rattle.std.proofs.lemmas.List.{get_or_read}
use Rattle.ci_pages.specs.Tables.{is_held, is_leaving}
use Rattle.ci_pages.proofs.Counting.{count_less}
use Rattle.ci_pages.proofs.Letting.{begun, ends, goes_on, still_held}
use Rattle.ci_pages.proofs.Lists.{passes_within}
use Rattle.ci_pages.proofs.table.PageTable.let_go.Goals as goal

pub loop-step-init : goal.loop-step-init
loop-step-init c = record {
  walked = λ chain is_held_chain. begun c.args.self.now.links.items c.args.self.now.uses.pages.items c.args.first chain is_held_chain;
  count = omega arith;
  links = refl;
  pending = refl;
}

pub leave-requires : goal.leave-requires
leave-requires c =
    let (chain, is_held_chain) = c.requires in
    still_held c.args.self.now.links.items c.args.self.now.uses.pages.items c.args.first chain is_held_chain c.loop-step.self.uses.pages.items c.loop-step._step c.loop-step.page
    (c.loop-step.invariant.walked chain is_held_chain)

pub loop-step-preserved : goal.loop-step-preserved
loop-step-preserved c =
    let links = c.args.self.now.links.items in
    let old = c.args.self.now.uses.pages.items in
    let now = c.loop-step.self.uses.pages.items in
    let page = c.loop-step.page in
    let walked = c.loop-step.invariant in
    let (some, is_some_chain) = c.requires in
    let held = still_held links old c.args.first some is_some_chain now c.loop-step._step page (walked.walked some is_some_chain) in
    let within : page < length c.leave.new.self.links.items =
    omega (arith, passes_within is_held now page refl (ap is_held held), c.loop-step.self.linked, ap length c.leave.ensures.links) in
    let link : c.index-page.result.now ≡ get_or links page 0 =
    get_or_read c.leave.new.self.links.items page c.index-page.result.now within c.index-page.ensures 0 ∙ ap (λ ls. get_or ls page 0) (c.leave.ensures.links ∙ walked.links) in
    record {
      walked = λ chain is_held_chain. goes_on links old c.args.first chain is_held_chain now c.leave.new.self.uses.pages.items c.loop-step._step page c.index-page.result.now
          (walked.walked chain is_held_chain) c.leave.ensures.uses link c.if-page-eq0.false;
      count = omega (arith, c.leave.ensures.count, walked.count);
      links = c.leave.ensures.links ∙ walked.links;
      pending = c.leave.ensures.pending ∙ walked.pending;
    }

pub returns-then-page-eq0-clause-marked : goal.returns-then-page-eq0-clause-marked
returns-then-page-eq0-clause-marked c chain is_held_chain =
    let links = c.args.self.now.links.items in
    let old = c.args.self.now.uses.pages.items in
    let now = c.loop-step.self.uses.pages.items in
    let page = c.loop-step.page in
    let walked = c.loop-step.invariant in
    let held = still_held links old c.args.first chain is_held_chain now c.loop-step._step page (walked.walked chain is_held_chain) in
    let within : page < length c.leave.new.self.links.items =
    omega (arith, passes_within is_held now page refl (ap is_held held), c.loop-step.self.linked, ap length c.leave.ensures.links) in
    let link : c.index-page.result.now ≡ get_or links page 0 =
    get_or_read c.leave.new.self.links.items page c.index-page.result.now within c.index-page.ensures 0 ∙ ap (λ ls. get_or ls page 0) (c.leave.ensures.links ∙ walked.links) in
    ends links old c.args.first chain is_held_chain now c.leave.new.self.uses.pages.items c.loop-step._step page c.index-page.result.now
    (walked.walked chain is_held_chain) c.leave.ensures.uses link c.if-page-eq0.true

pub returns-clause-marked : goal.returns-clause-marked
returns-clause-marked c chain is_held_chain =
    let links = c.args.self.now.links.items in
    let old = c.args.self.now.uses.pages.items in
    let now = c.loop-step.self.uses.pages.items in
    let page = c.loop-step.page in
    let walked = c.loop-step.invariant in
    let held = still_held links old c.args.first chain is_held_chain now c.loop-step._step page (walked.walked chain is_held_chain) in
    let within = passes_within is_held now page refl (ap is_held held) in
    absurd (omega (arith, count_less is_leaving now page within (ap is_leaving held), c.loop-step.self.leaving_count, walked.count, c.loop-step.self.linked, ap length walked.links))
