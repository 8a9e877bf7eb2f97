-- What reading says of the grammar.
use Rattle.std.proofs.Common.{◌≡◌, ℕ, ◌-◌, ◌<◌, List, Option, length, Result, Ok, Err, sym, ap, ◌∙◌, IsErrOf}
use Rattle.ci_front.specs.Front.{Front}
use Rattle.ci_front.specs.Front.{many_at}
use Rattle.ci_front.proofs.CodeLemmas.{many_ends, with_front}
use Rattle.ci_front.proofs.FrontLemmas.{some_is}
use Rattle.ci_segment.specs.Chain.{chain_at, whole_chain}
use Rattle.ci_segment.specs.Postings.{IsSpelledPostings, Posting, postings_bytes}
use Rattle.ci_segment.specs.Reading.{Fails, postings_of}
use Rattle.ci_segment.specs.declared.fault.SegmentFault.{SegmentFault}
use Rattle.ci_segment.specs.declared.fault.SegmentFault.TheVariants as faults
use Rattle.ci_segment.proofs.ChainLemmas.{chain_stops, whole_stops, with_all}
use Rattle.ci_segment.proofs.PostingsLemmas.{postings_again}

-- a list ends where one of its values isn't read
pub list_ends : {C X : Type 0} (at : C → Front X) (next : C → X → C) (e : SegmentFault) (front : List X) (count i : ℕ) (before : C) (bytes : List ℕ) (total : Option (List X × List ℕ)) → i < count → Fails e (at before bytes)
    → with_front front (chain_at at next before (count - i) bytes) ≡ total → Fails e total
list_ends at next faults.BadSegment front count i before bytes total lt h so_far = chain_stops at next front count i before bytes total lt h so_far
list_ends at next faults.OutOfMemory front count i before bytes total lt h so_far = tt

pub all_ends : {C X : Type 0} (at : C → Front X) (next : C → X → C) (e : SegmentFault) (front : List X) (most i : ℕ) (before : C) (bytes : List ℕ) (total : Option (List X)) → i < most → 0 < length bytes → Fails e (at before bytes)
    → with_all front (whole_chain at next before (most - i) bytes) ≡ total → Fails e total
all_ends at next faults.BadSegment front most i before bytes total lt long h so_far = whole_stops at next front most i before bytes total lt long h so_far
all_ends at next faults.OutOfMemory front most i before bytes total lt long h so_far = tt

pub many_list_ends : {X : Type 0} (at : Front X) (e : SegmentFault) (front : List X) (count i : ℕ) (bytes : List ℕ) (total : Option (List X × List ℕ)) → i < count → Fails e (at bytes)
    → with_front front (many_at at (count - i) bytes) ≡ total → Fails e total
many_list_ends at faults.BadSegment front count i bytes total lt h so_far = many_ends at front count i bytes total lt h so_far
many_list_ends at faults.OutOfMemory front count i bytes total lt h so_far = tt

-- postings of one spelling are the same
pub one_postings : (a b : List Posting) → IsSpelledPostings a → IsSpelledPostings b → postings_bytes a ≡ postings_bytes b → a ≡ b
one_postings a b p q e = some_is a b (sym (postings_again a p) ∙ ap postings_of e ∙ postings_again b q)

pub not_postings : {T : Type 0} (bytes : List ℕ) (e : SegmentFault) → Fails e (postings_of bytes) → IsErrOf {T = T} (Err e) faults.BadSegment → (postings : List Posting) → IsSpelledPostings postings → postings_bytes postings ≡ bytes → ⊥
not_postings bytes faults.BadSegment gives bad postings are e = absurd (let some = sym (postings_again postings are) ∙ ap postings_of e ∙ gives in cc)
not_postings bytes faults.OutOfMemory gives bad postings are e = absurd cc

-- the fault that was answered
abbrev pub fault_in : {T : Type 0} → SegmentFault → Result T SegmentFault → SegmentFault
fault_in other (Ok x) = other
fault_in other (Err e) = e
