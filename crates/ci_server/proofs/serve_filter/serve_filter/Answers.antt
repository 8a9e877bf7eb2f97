use Rattle.std.proofs.Common.{◌∙◌, true, false}
use Rattle.std.proofs.lemmas.Result.{err_from_is_err_and}
use Rattle.ci_journal.specs.declared.request.Request.TheVariants.{Filter}
use Rattle.ci_worker.proofs.BatchLemmas.{IfErr-map, OnOk-map}
use Rattle.ci_worker.proofs.KeepsLemmas.{Holds-goes, Keeps-goes}
use Rattle.ci_server.proofs.BesideLemmas.{OnOk-given, out-beside}
use Rattle.ci_server.proofs.FilterLemmas.{filter-may_say, filter-starves, filter-stops, first-filter, whole-denied, whole-filtered}
use Rattle.ci_server.proofs.serve_filter.serve_filter.Goals as goal

pub returns-in_err-filter-clause-err : goal.returns-in_err-filter-clause-err
returns-in_err-filter-clause-err g c =
    let p = err_from_is_err_and c.from_residual.result c.from_residual.ensures.1 in
    rw (p.1, p.2) (filter-stops c.args.catalog.now c.args.id c.filter.new.catalog _ c.in_err-filter.ensures.err)

pub returns-in_err-reply-clause-err : goal.returns-in_err-reply-clause-err
returns-in_err-reply-clause-err g c =
    let p = err_from_is_err_and c.from_residual-in_err-reply.result c.from_residual-in_err-reply.ensures.1 in
    let filters = rw c.if-branch.true at c.in_ok-filter.ensures.ok in
    rw (p.1, p.2) (filter-starves c.args.catalog.now c.args.id c.filter.new.catalog true filters)

pub say_reply-requires : goal.say_reply-requires
say_reply-requires g c =
    let filters = rw c.if-branch.true at c.in_ok-filter.ensures.ok in
    filter-may_say c.args.catalog.now c.args.id c.filter.new.catalog true filters c.requires.asked.may_reply

pub returns-then-branch-clause-ok : goal.returns-then-branch-clause-ok
returns-then-branch-clause-ok g c =
    let filters = rw c.if-branch.true at c.in_ok-filter.ensures.ok in
    let whole = whole-filtered c.args.catalog.now c.args.id c.filter.new.catalog filters c.in_ok-reply.reply c.in_ok-reply.ensures in
    OnOk-map c.say_reply.result (λ replies. replies c.args.catalog.now Filter filters.goes.events filters.goes.at whole) c.say_reply.ensures.ok

pub returns-then-branch-clause-back : goal.returns-then-branch-clause-back
returns-then-branch-clause-back g c =
    let filters = rw c.if-branch.true at c.in_ok-filter.ensures.ok in
    OnOk-given c.say_reply.result (out-beside c.filter.new.catalog.sheet.events c.say_reply.new.catalog.sheet.events c.say_reply.ensures.beside ∙ filters.back)

pub returns-then-branch-clause-holds : goal.returns-then-branch-clause-holds
returns-then-branch-clause-holds g c =
    OnOk-given c.say_reply.result
    (Holds-goes c.filter.new.catalog.sheet.events c.say_reply.new.catalog.sheet.events c.say_reply.ensures.beside c.filter.new.self 0 c.in_ok-filter.ensures.holds)

pub returns-then-branch-clause-err : goal.returns-then-branch-clause-err
returns-then-branch-clause-err g c =
    let filters = rw c.if-branch.true at c.in_ok-filter.ensures.ok in
    let first = first-filter c.args.catalog.now c.args.id c.filter.new.catalog true filters in
    let whole = whole-filtered c.args.catalog.now c.args.id c.filter.new.catalog filters c.in_ok-reply.reply c.in_ok-reply.ensures in
    IfErr-map c.say_reply.result (λ fault stops. stops c.args.catalog.now Filter filters.goes.events filters.goes.at first whole) c.say_reply.ensures.err

pub returns-then-branch-clause-keeps : goal.returns-then-branch-clause-keeps
returns-then-branch-clause-keeps g c = λ first keeps.
    Keeps-goes c.filter.new.catalog.sheet.events c.say_reply.new.catalog.sheet.events c.say_reply.ensures.beside first c.filter.new.self
    (c.in_ok-filter.ensures.keeps first keeps)

pub say_reply-requires-2 : goal.say_reply-requires-2
say_reply-requires-2 g c =
    let filters = rw c.if-branch.false at c.in_ok-filter.ensures.ok in
    filter-may_say c.args.catalog.now c.args.id c.filter.new.catalog false filters c.requires.asked.may_reply

pub returns-clause-ok : goal.returns-clause-ok
returns-clause-ok g c =
    let filters = rw c.if-branch.false at c.in_ok-filter.ensures.ok in
    let whole = whole-denied c.args.catalog.now c.args.id c.filter.new.catalog filters in
    OnOk-map c.say_reply-2.result (λ replies. replies c.args.catalog.now Filter filters.goes.events filters.goes.at whole) c.say_reply-2.ensures.ok

pub returns-clause-back : goal.returns-clause-back
returns-clause-back g c =
    let filters = rw c.if-branch.false at c.in_ok-filter.ensures.ok in
    OnOk-given c.say_reply-2.result (out-beside c.filter.new.catalog.sheet.events c.say_reply-2.new.catalog.sheet.events c.say_reply-2.ensures.beside ∙ filters.back)

pub returns-clause-holds : goal.returns-clause-holds
returns-clause-holds g c =
    OnOk-given c.say_reply-2.result
    (Holds-goes c.filter.new.catalog.sheet.events c.say_reply-2.new.catalog.sheet.events c.say_reply-2.ensures.beside c.filter.new.self 0 c.in_ok-filter.ensures.holds)

pub returns-clause-err : goal.returns-clause-err
returns-clause-err g c =
    let filters = rw c.if-branch.false at c.in_ok-filter.ensures.ok in
    let first = first-filter c.args.catalog.now c.args.id c.filter.new.catalog false filters in
    let whole = whole-denied c.args.catalog.now c.args.id c.filter.new.catalog filters in
    IfErr-map c.say_reply-2.result (λ fault stops. stops c.args.catalog.now Filter filters.goes.events filters.goes.at first whole) c.say_reply-2.ensures.err

pub returns-clause-keeps : goal.returns-clause-keeps
returns-clause-keeps g c = λ first keeps.
    Keeps-goes c.filter.new.catalog.sheet.events c.say_reply-2.new.catalog.sheet.events c.say_reply-2.ensures.beside first c.filter.new.self
    (c.in_ok-filter.ensures.keeps first keeps)
