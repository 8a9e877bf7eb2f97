use Rattle.std.proofs.Common.{All, map, subst}
use Rattle.std.specs.Global.{Vec}
use Rattle.std.proofs.lemmas.List.Elements.{All-tail}
use Rattle.ci_keys.specs.Postings.{IsPostings}
use Rattle.ci_keys.specs.declared.key.Key.{Key}
use Rattle.ci_wordlist.specs.Filing.{Posting}
use Rattle.ci_wordlist.proofs.BatchLemmas.{keys_more}
use Rattle.ci_wordlist.proofs.filing.keys_of.Goals as goal

pub loop-key-preserved : goal.loop-key-preserved
loop-key-preserved c = record {
  made = keys_more c.loop-key.keys.items c.push.new.self.items (map (λ key. (key.0, key.1.items)) c.args.index.entries) c.in-Some.key c.in-Some.postings c.new.result c.loop-key.key-iterator c.next.new.self c.in-Some.ensures.steps c.in_ok-push.ensures.items c.new.ensures c.loop-key.invariant.made;
  postings = All-tail (λ (key : Key × Vec Posting). IsPostings key.1.items) (c.in-Some.key, c.in-Some.postings) c.next.new.self (subst (All (λ (key : Key × Vec Posting). IsPostings key.1.items)) c.in-Some.ensures.steps c.loop-key.invariant.postings);
}
