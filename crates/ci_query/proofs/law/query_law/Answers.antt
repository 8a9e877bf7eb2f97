use Rattle.ci_query.proofs.ParseLemmas.{fault-met, never_both, one_fault, one_tree, tree-well, tree_or_fault}
use Rattle.ci_query.proofs.law.query_law.Goals as goal

pub returns : goal.returns
returns c = record {
  one_tree = one_tree;
  one_fault = one_fault;
  never_both = never_both;
  tree_or_fault = tree_or_fault;
  in_the_text = fault-met;
  well_formed = tree-well;
}
