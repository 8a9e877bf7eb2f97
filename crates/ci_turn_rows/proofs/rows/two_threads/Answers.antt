use Rattle.std.proofs.Common.{rules, ◌≡◌, ◌∙◌, ℕ, ◌+◌, ◌<◌, Some, List, [], ◌∷◌, All, length, subst, sym, ap, arith}
use Rattle.ci_turn.specs.Calls.{knows}
use Rattle.ci_turn.specs.Views.{StandsFor}
use Rattle.ci_turn_rows.specs.declared.tally.Entry.{Entry}
use Rattle.ci_turn_rows.specs.declared.tally.Tally.{Tally}
use Rattle.ci_turn_rows.specs.Turns.{entries_of, turns_of}
use Rattle.ci_turn_rows.proofs.Turns.{two_lengths, turns_length}
use Rattle.ci_turn_rows.proofs.rows.two_threads.Goals as goal

pub returns-clause-total : goal.returns-clause-total
returns-clause-total g c =
    let t : Tally = c.close.result in
    let f : (knows c.join.new.seat).fixed ≡ Some 5 = search rules in
    let m : (knows c.join.new.seat).made ≡ 1 = search rules in
    let s : t.total ≡ 5 + length t.entries.items = subst (StandsFor (λ (v : Tally) (n : ℕ). v.total ≡ n + length v.entries.items) t) f c.close.ensures.fixed in
    let n : length t.entries.items ≡ length (entries_of 0 t.entries.items) + length (entries_of 1 t.entries.items) =
    two_lengths (λ (e : Entry). e.seat) t.entries.items (λ k h. c.close.ensures.others k (subst (λ (b : ℕ). b < k) (sym m) h)) in
    let a : entries_of 0 t.entries.items ≡ turns_of 0 c.args.count = search rules in
    let w = knows c.in-Some-Some.two in
    let j : (knows c.join.new.seat).joined ≡ (w.number, w.own) ∷ [] = first_of (search rules, grind (arith, rules)) in
    let q : w.number ≡ 1 = search rules in
    let o : w.own ≡ turns_of 1 c.args.count = first_of (search rules, grind (arith, rules)) in
    let e : entries_of w.number t.entries.items ≡ w.own =
    (subst (All (λ (i : ℕ × List Entry). entries_of i.0 t.entries.items ≡ i.1)) j c.close.ensures.joined) 0 (0, []) (omega arith) in
    let b : entries_of 1 t.entries.items ≡ turns_of 1 c.args.count = subst (λ (k : ℕ). entries_of k t.entries.items ≡ w.own) q e ∙ o in
    let x : length (entries_of 0 t.entries.items) ≡ c.args.count = ap length a ∙ turns_length 0 c.args.count in
    let y : length (entries_of 1 t.entries.items) ≡ c.args.count = ap length b ∙ turns_length 1 c.args.count in
    omega arith
