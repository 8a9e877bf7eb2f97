use Rattle.std.proofs.Common.{◌≡◌, ⊎_elim, ◌+◌, ◌<◌, ◌≤◌, Contains, ℕ, Bool, IsTrue, true, List, [], ◌∷◌, ◌++◌, length, sym, ◌∙◌, ap, subst, arith, rules}
use Rattle.std.proofs.lemmas.Bool.{false≢true}
use Rattle.std.proofs.lemmas.List.{length_push}
use Rattle.std.proofs.lemmas.List.Elements.{Contains-push_cases}
use Rattle.ci_volume.specs.Chain.{IsDataPage, Leads, next_of, pages_for}
use Rattle.ci_volume.proofs.Links.{chain_of, ended_by, leads_on, reached_by}
use Rattle.ci_volume.proofs.Staying.{stays_then}
use Rattle.ci_volume.proofs.chains.walk.Goals as goal

pub returns-then-not-is_data_page-clause-no_chain : goal.returns-then-not-is_data_page-clause-no_chain
returns-then-not-is_data_page-clause-no_chain g c refused honest n chain same is_chain =
    let seen = g.D.Disk.seen c.args.disk.now in
    let walked = c.loop-step.invariant in
    let fewer : length c.loop-step.chain.items < pages_for n = omega (arith, walked.count, c.loop-step-test.true, same) in
    let page = reached_by seen c.args.bounds.pages c.args.first n c.loop-step.chain.items chain c.loop-step.page is_chain (walked.leads honest) fewer in
    let yes : c.is_data_page.result ≡ true = (c.is_data_page.ensures.image seen (c.requires.sized honest)).1 page in
    absurd (false≢true (sym c.if-not-is_data_page.true ∙ yes))

pub loop-step-preserved : goal.loop-step-preserved
loop-step-preserved g c =
    let seen = g.D.Disk.seen c.args.disk.now in
    let walked = c.loop-step.invariant in
    let front = c.loop-step.chain.items in
    let page = c.loop-step.page in
    let pushed : c.push.new.self.items ≡ front ++ page ∷ [] = search rules in
    record {
      leads = λ honest.
          let honest_then : IsTrue (g.D.Disk.honest c.loop-step.disk) = subst (λ (b : Bool). IsTrue b) (sym walked.stays.honesty) honest in
          let is_data : IsDataPage seen c.args.bounds.pages page = (c.is_data_page.ensures.image seen (c.requires.sized honest)).0 c.if-not-is_data_page.false in
          let next : c.in_ok-next.next ≡ next_of seen page = c.in_ok-next.ensures.ok honest_then ∙ ap (λ (image : List ℕ). next_of image page) walked.stays.bytes in
          let led = leads_on seen c.args.bounds.pages c.args.first front page (walked.leads honest) is_data in
          let reached : Leads seen c.args.bounds.pages c.args.first (front ++ page ∷ []) c.in_ok-next.next = subst (λ (q : ℕ). Leads seen c.args.bounds.pages c.args.first (front ++ page ∷ []) q) (sym next) led in
          subst (λ (xs : List ℕ). Leads seen c.args.bounds.pages c.args.first xs c.in_ok-next.next) (sym pushed) reached;
      count = ap length pushed ∙ length_push front page ∙ ap (λ (k : ℕ). k + 1) walked.count;
      stays = stays_then g.D.Disk.seen g.D.Disk.may_leave g.D.Disk.moment g.D.Disk.left_since g.D.Disk.honest c.args.disk.now c.loop-step.disk c.read_next.new.disk walked.stays c.read_next.ensures.stays;
      data_pages = λ p contained. ⊎_elim
          (λ was. walked.data_pages p was)
          (λ same. subst (λ (q : ℕ). (3 ≤ q) × (q < c.args.bounds.pages)) same (c.is_data_page.ensures.bounds c.if-not-is_data_page.false))
          (Contains-push_cases front page p (subst (λ (xs : List ℕ). Contains xs p) pushed contained));
      later = omega (arith, walked.later, c.read_next.ensures.cause.later);
    }

pub returns-then-page-ne0-clause-no_chain : goal.returns-then-page-ne0-clause-no_chain
returns-then-page-ne0-clause-no_chain g c refused honest n chain same is_chain =
    let seen = g.D.Disk.seen c.args.disk.now in
    let walked = c.loop-step.invariant in
    let all : length c.loop-step.chain.items ≡ pages_for n = omega (arith, walked.count, c.loop-step-test.false, c.loop-step.auto._step-end, same) in
    c.if-page-ne0.true (ended_by seen c.args.bounds.pages c.args.first n c.loop-step.chain.items chain c.loop-step.page is_chain (walked.leads honest) all)

pub returns-clause-ok : goal.returns-clause-ok
returns-clause-ok g c honest n same =
    let seen = g.D.Disk.seen c.args.disk.now in
    let walked = c.loop-step.invariant in
    let front = c.loop-step.chain.items in
    let all : length front ≡ pages_for n = omega (arith, walked.count, c.loop-step-test.false, c.loop-step.auto._step-end, same) in
    let some : 0 < length front = omega (arith, all, same, c.requires.some) in
    let leads = subst (λ (page : ℕ). Leads seen c.args.bounds.pages c.args.first front page) c.if-page-ne0.false (walked.leads honest) in
    chain_of seen c.args.bounds.pages c.args.first n front leads all some
