use Rattle.std.proofs.Common.{sym}
use Rattle.ci_server.proofs.QueryLemmas.{is_met}
use Rattle.ci_server.proofs.serve_query.first_fault.Goals as goal

pub returns-in-Some : goal.returns-in-Some
returns-in-Some c =
    let met = sym c.in-Some.ensures in
    let first = rw c.as_str.ensures at c.in-Err.ensures.err in
    record { none = c.requires; fault = c.in-Err.fault; first = first (is_met c.in-Err.fault c.in-Some.met met); met = met }
