use Rattle.std.proofs.Common.{arith, ◌≡◌, ◌≢◌, ℕ, List, [], length, take, drop, Result, Ok, Err, ap, ◌∙◌}
use Rattle.std.specs.Prelude.{OnErr}
use Rattle.std.proofs.lemmas.List.{take_all, drop_all}
use Rattle.std.proofs.lemmas.Result.{err_from_is_err_and}
use Rattle.ci_io.specs.Lines.{without_return}
use Rattle.ci_io.specs.Reading.{Reading}
use Rattle.ci_io.proofs.LongLines.{IsEndless-gathered, Loses-gathered}
use Rattle.ci_io.proofs.TakenLines.{IsShort-taken, Keeps-gathers, Loses-none, Loses-refused, TakesAll-gathered, TakesFed-gathered, TakesLine-ended, TakesLine-gathered}
use Rattle.ci_io.proofs.line_reader.LineReader.read_line.Goals as goal

on_err : {T E : Type 0} (r : Result T E) (P : Type 0) → P → OnErr r P
on_err (Ok value) P fact = tt
on_err (Err fault) P fact = fact

-- as many of the held bytes as are shown are all of them
take-shown : (shown held : List ℕ) → shown ≡ held → take (length shown) held ≡ held
take-shown shown held same = take_all (length shown) held (omega (arith, ap length same))

drop-shown : (shown held : List ℕ) → shown ≡ held → drop (length shown) held ≡ []
drop-shown shown held same = drop_all (length shown) held (omega (arith, ap length same))

pub returns-in_err-found-clause-err : goal.returns-in_err-found-clause-err
returns-in_err-found-clause-err g c =
    on_err c.from_residual.result _ (Loses-none c.args.self.now c.find_end.new.self (Keeps-gathers c.args.self.now c.find_end.new.self c.in_err-found.ensures.gathers))

pub returns-in_err-text-in-Feed-clause-err : goal.returns-in_err-text-in-Feed-clause-err
returns-in_err-text-in-Feed-clause-err g c =
    let refused = c.in_err-text-in-Feed.ensures in
    on_err c.from_residual-in_err-text-in-Feed.result _ (Loses-refused c.args.self.now c.find_end.new.self c.hand_out.new.self c.in_ok-found.ensures.gathers refused.err refused.left)

pub returns-in_err-text-in-Source-2-clause-err : goal.returns-in_err-text-in-Source-2-clause-err
returns-in_err-text-in-Source-2-clause-err g c =
    let refused = c.in_err-text-in-Source-2.ensures in
    on_err c.from_residual-in_err-text-in-Source-2.result _
    (Loses-refused c.args.self.now c.find_end.new.self c.hand_out-in-Source-2.new.self c.in_ok-found.ensures.gathers refused.err refused.left)

pub returns-in_err-pass_over-in-Beyond-clause-err : goal.returns-in_err-pass_over-in-Beyond-clause-err
returns-in_err-pass_over-in-Beyond-clause-err g c =
    on_err c.from_residual-in_err-pass_over-in-Beyond.result _
    (Loses-gathered c.args.self.now c.find_end.new.self c.pass_over.new.self c.in_ok-found.ensures.gathers c.in_err-pass_over-in-Beyond.ensures.err)

pub returns-in_err-pass_over-in-Beyond-clause-endless : goal.returns-in_err-pass_over-in-Beyond-clause-endless
returns-in_err-pass_over-in-Beyond-clause-endless g c = λ e.
    let residual = c.from_residual-in_err-pass_over-in-Beyond in
    let p = err_from_is_err_and residual.result residual.ensures.1 in
    IsEndless-gathered c.args.self.now c.find_end.new.self c.pass_over.new.self c.in_ok-found.ensures.gathers (c.in_err-pass_over-in-Beyond.ensures.endless (let h = p in cc))

pub returns-in_ok-text-in-Feed-clause-ok : goal.returns-in_ok-text-in-Feed-clause-ok
returns-in_ok-text-in-Feed-clause-ok g c =
    let text = c.in_ok-text-in-Feed.ensures in
    let found = c.in_ok-found.ensures in
    let (_, feed, short) = rw c.in-Feed.is at found.ok in
    TakesLine-gathered c.args.self.now c.find_end.new.self c.hand_out.new.self c.in-Feed.feed c.in_ok-text-in-Feed.text found.gathers feed short text.text text.ok text.left

pub returns-in_ok-text-in-Feed-clause-fed : goal.returns-in_ok-text-in-Feed-clause-fed
returns-in_ok-text-in-Feed-clause-fed g c = λ _.
    let text = c.in_ok-text-in-Feed.ensures in
    let found = c.in_ok-found.ensures in
    let (_, feed, short) = rw c.in-Feed.is at found.ok in
    TakesFed-gathered c.args.self.now c.find_end.new.self c.hand_out.new.self c.in-Feed.feed c.in_ok-text-in-Feed.text found.gathers feed short text.text text.ok text.left

pub returns-in_ok-text-in-Source-2-clause-ok : goal.returns-in_ok-text-in-Source-2-clause-ok
returns-in_ok-text-in-Source-2-clause-ok g c =
    let text = c.in_ok-text-in-Source-2.ensures in
    let found = c.in_ok-found.ensures in
    let (_, last) = rw c.in-Source-2.is at found.ok in
    let held = c.find_end.new.self.held in
    let shown : c.held-held.result.now ≡ held = c.held-held.ensures.items ∙ ap (λ (r : Reading). r.held) c.self.view_is in
    let some : held ≢ [] = λ e. let none : length c.held-held.result.now ≡ 0 = ap length (shown ∙ e) in omega arith in
    TakesLine-ended c.args.self.now c.find_end.new.self c.hand_out-in-Source-2.new.self c.in_ok-text-in-Source-2.text found.gathers last some
    (text.text ∙ ap without_return (take-shown _ _ shown)) (text.ok ∙ drop-shown _ _ shown) text.left

pub returns-in_ok-text-in-Source-2-clause-last : goal.returns-in_ok-text-in-Source-2-clause-last
returns-in_ok-text-in-Source-2-clause-last g c = λ _.
    let text = c.in_ok-text-in-Source-2.ensures in
    let found = c.in_ok-found.ensures in
    let (_, last) = rw c.in-Source-2.is at found.ok in
    let shown : c.held-held.result.now ≡ c.find_end.new.self.held = c.held-held.ensures.items ∙ ap (λ (r : Reading). r.held) c.self.view_is in
    TakesAll-gathered c.args.self.now c.find_end.new.self c.hand_out-in-Source-2.new.self found.gathers last (text.ok ∙ drop-shown _ _ shown) text.left

pub returns-in_ok-text-in-Feed-clause-short : goal.returns-in_ok-text-in-Feed-clause-short
returns-in_ok-text-in-Feed-clause-short g c =
    let (_, _, short) = rw c.in-Feed.is at c.in_ok-found.ensures.ok in
    IsShort-taken c.find_end.new.self.held c.in_ok-text-in-Feed.text c.in-Feed.feed short c.in_ok-text-in-Feed.ensures.text

pub returns-in_ok-text-in-Source-2-clause-short : goal.returns-in_ok-text-in-Source-2-clause-short
returns-in_ok-text-in-Source-2-clause-short g c =
    let (_, last) = rw c.in-Source-2.is at c.in_ok-found.ensures.ok in
    let shown : c.held-held.result.now ≡ c.find_end.new.self.held = c.held-held.ensures.items ∙ ap (λ (r : Reading). r.held) c.self.view_is in
    IsShort-taken c.find_end.new.self.held c.in_ok-text-in-Source-2.text (length c.held-held.result.now)
    (omega (arith, ap length shown, last.short)) c.in_ok-text-in-Source-2.ensures.text
