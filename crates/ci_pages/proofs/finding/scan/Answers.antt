use Rattle.std.proofs.Common.{arith}
use Rattle.ci_pages.specs.Uses.{is_free, use_of}
use Rattle.ci_pages.proofs.Frees.{put_size, scanned}
use Rattle.ci_pages.proofs.finding.scan.Goals as goal

pub loop-page-preserved : goal.loop-page-preserved
loop-page-preserved c =
    let uses = c.args.pages.now in
    record {
      so_far = scanned uses c.loop-page.page c.loop-page.out.items c.put.new.out.items (omega arith) c.loop-page.invariant.so_far c.in_ok-put.ensures.ok;
      count = omega (arith, put_size (is_free (use_of uses c.loop-page.page)) c.loop-page.page c.loop-page.out.items c.put.new.out.items c.in_ok-put.ensures.ok);
    }
