use Rattle.std.proofs.Common.{◌≡◌, ◌∙◌, sym, ap, subst}
use Rattle.std.proofs.lemmas.Result.{IfOk-weaker}
use Rattle.ci_journal.specs.Requests.{IsAskable, request_of, text_request}
use Rattle.ci_journal.proofs.RequestLemmas.{bytes_request-text, bytes_request-bad, IsAskable-request_of}
use Rattle.ci_journal.proofs.request.Request.read.Goals as goal

pub returns-in-Ok : goal.returns-in-Ok
returns-in-Ok c =
    let text : c.in-Ok.text.now ≡ c.in-Text.bytes = c.in-Ok.ensures.cases.0 ∙ c.items.ensures in
    let whole = rw c.items.ensures at c.in-Ok.ensures.cases.1 in
    let same : text_request c.in-Ok.text.now ≡ request_of c.args.line.now =
    ap text_request text ∙ sym (bytes_request-text c.in-Text.bytes whole) ∙ sym (ap request_of c.in-Text.is) in
    record {
      ok = IfOk-weaker c.read_text.result (λ request. request ≡ text_request c.in-Ok.text.now) (λ request. request ≡ request_of c.args.line.now) (λ request e. e ∙ same) c.read_text.ensures;
      askable = IfOk-weaker c.read_text.result (λ request. request ≡ text_request c.in-Ok.text.now) IsAskable
          (λ request e. subst IsAskable (sym (e ∙ same)) (IsAskable-request_of c.args.line.now c.requires.short)) c.read_text.ensures;
    }

pub returns-in-Err : goal.returns-in-Err
returns-in-Err c =
    let none = rw c.items.ensures at c.in-Err.ensures.cases.0 in
    record { ok = bytes_request-bad c.in-Text.bytes none ∙ sym (ap request_of c.in-Text.is); askable = tt }
