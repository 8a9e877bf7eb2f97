use Rattle.std.proofs.Common.{◌≡◌, ◌+◌, ◌<◌, ℕ, Bool, IsTrue, true, List, [], ◌∷◌, ◌++◌, length, drop, sym, ◌∙◌, ap, subst, arith}
use Rattle.std.proofs.lemmas.Bool.{false≢true}
use Rattle.std.proofs.lemmas.List.{flat_map_more, length_push}
use Rattle.std.specs.List.{flat_map}
use Rattle.ci_volume.specs.Chain.{IsDataPage, Leads, content_of, next_of, pages_for}
use Rattle.ci_volume.proofs.Holding.{one_chain}
use Rattle.ci_volume.proofs.Links.{chain_of, ended_by, leads_on, reached_by}
use Rattle.ci_volume.proofs.Staying.{stays_then}
use Rattle.ci_volume.proofs.gathering.gather.Goals as goal

pub returns-then-not-is_data_page-clause-no_chain : goal.returns-then-not-is_data_page-clause-no_chain
returns-then-not-is_data_page-clause-no_chain g c refused honest n chain same is_chain =
    let seen = g.D.Disk.seen c.args.disk.now in
    let (front, leads, count, bytes) = c.loop-step.invariant.read honest in
    let fewer : length front < pages_for n = omega (arith, count, c.loop-step-test.true, same) in
    let page = reached_by seen c.args.bounds.pages c.args.first n front chain c.loop-step.page is_chain leads fewer in
    let yes : c.is_data_page.result ≡ true = (c.is_data_page.ensures.image seen (c.requires.sized honest)).1 page in
    absurd (false≢true (sym c.if-not-is_data_page.true ∙ yes))

pub loop-step-preserved : goal.loop-step-preserved
loop-step-preserved g c =
    let seen = g.D.Disk.seen c.args.disk.now in
    let walked = c.loop-step.invariant in
    let page = c.loop-step.page in
    let first = c.args.first in
    let pages = c.args.bounds.pages in
    let pushed : c.append.new.bytes.items ≡ c.loop-step.bytes.items ++ drop 4 c.read_page.new.buffer = c.in_ok-append.ensures in
    record {
      read = λ honest.
          let honest_then : IsTrue (g.D.Disk.honest c.loop-step.disk) = subst (λ (b : Bool). IsTrue b) (sym walked.stays.honesty) honest in
          let (front, leads, count, bytes) = walked.read honest in
          let is_data : IsDataPage seen pages page = (c.is_data_page.ensures.image seen (c.requires.sized honest)).0 c.if-not-is_data_page.false in
          let next : c.in_ok-next.next ≡ next_of seen page = c.in_ok-next.ensures.next honest_then ∙ ap (λ (image : List ℕ). next_of image page) walked.stays.bytes in
          let led = leads_on seen pages first front page leads is_data in
          let content : drop 4 c.read_page.new.buffer ≡ content_of seen page = c.in_ok-next.ensures.content honest_then ∙ ap (λ (image : List ℕ). content_of image page) walked.stays.bytes in (
            front ++ page ∷ [],
            subst (λ (q : ℕ). Leads seen pages first (front ++ page ∷ []) q) (sym next) led,
            length_push front page ∙ ap (λ (k : ℕ). k + 1) count,
            pushed ∙ ap (λ xs. xs ++ drop 4 c.read_page.new.buffer) bytes ∙ ap (λ xs. flat_map (content_of seen) front ++ xs) content
                ∙ flat_map_more (content_of seen) [] front page,
          );
      stays = stays_then g.D.Disk.seen g.D.Disk.may_leave g.D.Disk.moment g.D.Disk.left_since g.D.Disk.honest c.args.disk.now c.loop-step.disk c.read_page.new.disk walked.stays c.read_page.ensures.stays;
      later = omega (arith, walked.later, c.read_page.ensures.cause.later);
      size = c.read_page.ensures.buffer;
    }

pub returns-then-page-ne0-clause-no_chain : goal.returns-then-page-ne0-clause-no_chain
returns-then-page-ne0-clause-no_chain g c refused honest n chain same is_chain =
    let seen = g.D.Disk.seen c.args.disk.now in
    let (front, leads, count, bytes) = c.loop-step.invariant.read honest in
    let all : length front ≡ pages_for n = omega (arith, count, c.loop-step-test.false, c.loop-step.auto._step-end, same) in
    c.if-page-ne0.true (ended_by seen c.args.bounds.pages c.args.first n front chain c.loop-step.page is_chain leads all)

pub returns-clause-is_chain : goal.returns-clause-is_chain
returns-clause-is_chain g c honest n same =
    let seen = g.D.Disk.seen c.args.disk.now in
    let (front, leads, count, bytes) = c.loop-step.invariant.read honest in
    let all : length front ≡ pages_for n = omega (arith, count, c.loop-step-test.false, c.loop-step.auto._step-end, same) in
    let ends = subst (λ (page : ℕ). Leads seen c.args.bounds.pages c.args.first front page) c.if-page-ne0.false leads in
    (front, chain_of seen c.args.bounds.pages c.args.first n front ends all (omega (arith, all, same, c.requires.some)))

pub returns-clause-ok : goal.returns-clause-ok
returns-clause-ok g c honest n chain same is_chain =
    let seen = g.D.Disk.seen c.args.disk.now in
    let (front, leads, count, bytes) = c.loop-step.invariant.read honest in
    let all : length front ≡ pages_for n = omega (arith, count, c.loop-step-test.false, c.loop-step.auto._step-end, same) in
    let ends = subst (λ (page : ℕ). Leads seen c.args.bounds.pages c.args.first front page) c.if-page-ne0.false leads in
    let walked = chain_of seen c.args.bounds.pages c.args.first n front ends all (omega (arith, all, same, c.requires.some)) in
    bytes ∙ ap (λ xs. flat_map (content_of seen) xs) (one_chain seen c.args.bounds.pages c.args.first n front chain walked is_chain)
