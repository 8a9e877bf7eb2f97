-- The whole of a text.
use Rattle.std.proofs.Common.{◌≡◌, ◌≢◌, ◌⊎◌, IfErr, IfOk, IsSome, ℕ, List, Result, Ok, Err, refl, sym, ap, ◌∙◌, subst, inl, inr}
use Rattle.ci_dialect.specs.declared.fault.QueryFault.{QueryFault}
use Rattle.ci_dialect.specs.declared.fault.QueryFault.TheVariants.{OutOfMemory}
use Rattle.ci_dialect.specs.declared.restriction.Restriction.{Restriction}
use Rattle.ci_dialect.specs.Fault.{met_in}
use Rattle.ci_dialect.specs.FirstFault.{IsFirstFault}
use Rattle.ci_dialect.specs.Grammar.{whole}
use Rattle.ci_dialect.specs.Left.{Left, start}
use Rattle.ci_dialect.specs.Rule.{Comes}
use Rattle.ci_dialect.specs.Step.{Outcome}
use Rattle.ci_dialect.specs.Tree.{IsTree}
use Rattle.ci_dialect.specs.WellFormed.{IsWellFormed}
use Rattle.ci_query.specs.Reading.{Reads, read}
use Rattle.ci_query.proofs.ComesLemmas.{comes-one, comes-read}
use Rattle.ci_query.proofs.EndLemmas.{Ends, IsOf, Well, ends}
use Rattle.ci_query.proofs.WellFormedTrees.{IsMet, whole-yields}

-- ---- the one tree or the first fault of a text

abbrev tree_of : Restriction → Outcome Restriction → Restriction
tree_of other (Ok found) = found.0
tree_of other (Err fault) = other

-- one outcome has one tree
tree-same : (o : Outcome Restriction) {tree other : Restriction} {l m : Left} → Ok (tree, l) ≡ o → Ok (other, m) ≡ o → tree ≡ other
tree-same o {tree = tree} one another = ap (tree_of tree) one ∙ sym (ap (tree_of tree) another)

module _ (noise : List (List ℕ)) (text : List ℕ) where
  abbrev whole-read : Outcome Restriction
  whole-read = read (whole noise) (start text)

  tree-comes : (tree : Restriction) (rest : Left) → whole-read ≡ Ok (tree, rest) → IsTree noise text tree
  tree-comes tree rest reads = record { rest = rest; comes = subst (λ o. Comes (whole noise) (start text) o) reads (comes-read (whole noise) (start text)) }

  fault-comes : (fault : QueryFault) → whole-read ≡ Err fault → IsFirstFault noise text fault
  fault-comes fault reads = record { comes = subst (λ o. Comes (whole noise) (start text) o) reads (comes-read (whole noise) (start text)) }

  tree-read : (tree : Restriction) (is : IsTree noise text tree) → Ok (tree, is.rest) ≡ whole-read
  tree-read tree is = comes-one (whole noise) (start text) (Ok (tree, is.rest)) is.comes

  fault-read : (fault : QueryFault) → IsFirstFault noise text fault → Err fault ≡ whole-read
  fault-read fault is = comes-one (whole noise) (start text) (Err fault) is.comes

  pub one_tree : (tree other : Restriction) → IsTree noise text tree → IsTree noise text other → tree ≡ other
  one_tree tree other a b = tree-same whole-read (tree-read tree a) (tree-read other b)

  pub one_fault : (fault other : QueryFault) → IsFirstFault noise text fault → IsFirstFault noise text other → fault ≡ other
  one_fault fault other a b = let same = fault-read fault a ∙ sym (fault-read other b) in cc

  pub never_both : (tree : Restriction) (fault : QueryFault) → IsTree noise text tree → IsFirstFault noise text fault → ⊥
  never_both tree fault a b = let same = tree-read tree a ∙ sym (fault-read fault b) in cc

  either-so : (o : Outcome Restriction) → whole-read ≡ o → ((tree : Restriction) × IsTree noise text tree) ⊎ ((fault : QueryFault) × IsFirstFault noise text fault)
  either-so (Ok found) reads = inl (found.0, tree-comes found.0 found.1 reads)
  either-so (Err fault) reads = inr (fault, fault-comes fault reads)

  pub tree_or_fault : ((tree : Restriction) × IsTree noise text tree) ⊎ ((fault : QueryFault) × IsFirstFault noise text fault)
  tree_or_fault = either-so whole-read refl

  abbrev IsRight : Outcome Restriction → Type 0
  IsRight o = Ends IsMet (IsOf Well) (start text) o

  right-so : IsRight whole-read
  right-so = ends IsMet (λ fault met. met) (whole noise) Well (whole-yields noise) (start text)

  pub tree-well : (tree : Restriction) → IsTree noise text tree → IsWellFormed tree
  tree-well tree is = (subst IsRight (sym (tree-read tree is)) right-so).0

  pub fault-met : (fault : QueryFault) → IsFirstFault noise text fault → IsSome (met_in fault)
  fault-met fault is = subst IsRight (sym (fault-read fault is)) right-so

  -- ---- what a call answers that reads the whole

  abbrev Answers : Result Restriction QueryFault → Left → Type 0
  Answers r new = Reads whole-read r new

  pub given-tree : (r : Result Restriction QueryFault) (new : Left) → Answers r new → IfOk r (λ tree. IsTree noise text tree)
  given-tree (Ok tree) new reads = tree-comes tree new reads
  given-tree (Err fault) new reads = tt

  pub given-fault : (r : Result Restriction QueryFault) (new : Left) → Answers r new → IfErr r (λ fault. fault ≢ OutOfMemory → IsFirstFault noise text fault)
  given-fault (Ok tree) new reads = tt
  given-fault (Err fault) new reads = λ other. fault-comes fault (reads other)

  pub given-every_tree : (r : Result Restriction QueryFault) (new : Left) → Answers r new → (tree : Restriction) → IsTree noise text tree → r ≢ Err OutOfMemory → r ≡ Ok tree
  given-every_tree (Ok found) new reads tree is other = ap (λ t. Ok t) (tree-same whole-read (sym reads) (tree-read tree is))
  given-every_tree (Err fault) new reads tree is other = let same = tree-read tree is ∙ reads (λ e. other (ap (λ f. Err f) e)) in cc

  pub given-every_fault : (r : Result Restriction QueryFault) (new : Left) → Answers r new → (fault : QueryFault) → IsFirstFault noise text fault → r ≢ Err OutOfMemory → r ≡ Err fault
  given-every_fault (Ok found) new reads fault is other = let same = fault-read fault is ∙ reads in cc
  given-every_fault (Err found) new reads fault is other = let same = fault-read fault is ∙ reads (λ e. other (ap (λ f. Err f) e)) in cc

  pub given-well_formed : (r : Result Restriction QueryFault) (new : Left) → Answers r new → IfOk r IsWellFormed
  given-well_formed (Ok tree) new reads = tree-well tree (tree-comes tree new reads)
  given-well_formed (Err fault) new reads = tt
