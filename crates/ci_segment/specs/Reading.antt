-- How postings are read. The functions of this crate cite it; the laws of spellings say what it means.
use Rattle.std.specs.Prelude.{◌≡◌, ℕ, ◌+◌, ◌^◌, ◌==◌, ◌&&◌, Bool, true, List, Option, Some, None, Result, Ok, Err, ⊤, length, nat_lt, if◌then◌else◌}
use Rattle.ci_base.specs.declared.numbers.Place.{Place}
use Rattle.ci_front.specs.Front.{Front, ◌>>=◌, both_at, number_at, seen_at}
use Rattle.ci_segment.specs.Chain.{chain_at, whole_chain}
use Rattle.ci_segment.specs.Postings.{Posting, after_place, after_posting}
use Rattle.ci_segment.specs.declared.fault.SegmentFault.{SegmentFault}
use Rattle.ci_segment.specs.declared.fault.SegmentFault.TheVariants as faults

-- a difference that leads from the number before to one above it
abbrev pub is_gap : Option ℕ → ℕ → Bool
is_gap None gap = nat_lt gap (2 ^ 32)
is_gap (Some before) gap = nat_lt 0 gap && nat_lt (before + gap) (2 ^ 32)

abbrev pub over_gap : Option ℕ → ℕ → ℕ
over_gap None gap = gap
over_gap (Some before) gap = before + gap

unfoldable pub gap_at : Option ℕ → Front ℕ
gap_at before = seen_at (is_gap before) (over_gap before) number_at

abbrev pub place_at : Option ℕ → Front Place
place_at before = seen_at (λ n. true) (λ n. record { 0 = n }) (gap_at before)

unfoldable pub places_at : Front (List Place)
places_at bytes =
    number_at bytes >>= λ count.
    if count.0 == 0 then None else chain_at place_at after_place None count.0 count.1

abbrev pub posting_of : ℕ × List Place → Posting
posting_of p = (record { 0 = p.0 }, p.1)

unfoldable pub posting_at : Option ℕ → Front Posting
posting_at before = seen_at (λ p. true) posting_of (both_at (gap_at before) places_at)

unfoldable pub postings_of : List ℕ → Option (List Posting)
postings_of bytes = whole_chain posting_at after_posting None (length bytes) bytes

-- what a function returned, seen by `view`, is what is read, unless there was no memory
abbrev pub Fails : {Y : Type 0} → SegmentFault → Option Y → Type 0
Fails faults.BadSegment read = read ≡ None
Fails faults.OutOfMemory read = ⊤

abbrev pub Gives : {X Y : Type 0} → (X → Y) → Result X SegmentFault → Option Y → Type 0
Gives view (Ok x) read = read ≡ Some (view x)
Gives view (Err e) read = Fails e read
