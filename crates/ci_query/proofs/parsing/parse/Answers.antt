use Rattle.std.proofs.Common.{◌≡◌, subst}
use Rattle.ci_dialect.specs.Grammar.{whole}
use Rattle.ci_dialect.specs.Left.{start}
use Rattle.ci_query.specs.Reading.{Reads, read}
use Rattle.ci_query.proofs.ParseLemmas.{given-every_fault, given-every_tree, given-fault, given-tree, given-well_formed}
use Rattle.ci_query.proofs.parsing.parse.Goals as goal

pub returns : goal.returns
returns c =
    let begins : c.new.result ≡ start c.args.text.now = cc (c.as_slice.ensures.value, c.in_ok-pieces.ensures) in
    let reads = subst (λ l. Reads (read (whole c.args.noise.now) l) c.whole.result c.whole.new.reader) begins c.whole.ensures in record {
      ok = given-tree c.args.noise.now c.args.text.now c.whole.result _ reads;
      err = given-fault c.args.noise.now c.args.text.now c.whole.result _ reads;
      every_tree = given-every_tree c.args.noise.now c.args.text.now c.whole.result _ reads;
      every_fault = given-every_fault c.args.noise.now c.args.text.now c.whole.result _ reads;
      well_formed = given-well_formed c.args.noise.now c.args.text.now c.whole.result _ reads;
    }
