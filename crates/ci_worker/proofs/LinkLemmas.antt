-- The talks go on fitting the links: as a link is taken, as a talk over it is had, and as it is given back.
use Rattle.std.proofs.Common.{◌≡◌, ◌∙◌, ℕ, Bool, List, [], ◌∷◌, ◌++◌, Option, Some, None, IsSome, nat_lt, refl, ap, sym, subst, append-nil, append_assoc}
use Rattle.ci_base.specs.declared.numbers.Seq.{Seq}
use Rattle.ci_chunk.specs.declared.outcome.Outcome.{Outcome}
use Rattle.ci_link.specs.Line.{Speaking}
use Rattle.ci_link.specs.Records.{IsFresh, IsTold, record_of, with_record}
use Rattle.ci_link.specs.Talking.{Finishes}
use Rattle.ci_link.specs.declared.outcome.Talk.TheVariants.{Finished}
use Rattle.ci_link.specs.declared.record.LinkRecord.{LinkRecord}
use Rattle.ci_worker.specs.Links.{FitHeld, FitRecords, FitTold, IsUnused, Leaves, Records, Speaks}
use Rattle.ci_worker.specs.Links.FitRecords.{Link}
use Rattle.ci_worker.specs.Links.Leaves.{Between}
use Rattle.ci_worker.specs.Links.Speaks.{Silent, Through}
use Rattle.ci_worker.specs.Talks.{BatchTalk, batch_talk}
use Rattle.ci_worker.specs.Working.{records_behind}

-- ---- what a spawner that tells its records says of a link that it took back

pub record Entry (before : List LinkRecord) (told : Option (List LinkRecord)) (link : Speaking) : Type 0 where
  pub entry : LinkRecord
  pub records : Records link entry
  pub told_is : told ≡ Some (before ++ entry ∷ [])

entry-of : (before : List LinkRecord) (told : Option (List LinkRecord)) (link : Speaking) (sent given : Option (List ℕ)) (more : Option Bool) → link.sent ≡ sent → link.given ≡ given → link.more ≡ more
    → told ≡ with_record (Some before) (record_of sent given more link.faults) → IsSome told → Entry before told link
entry-of before told link (Some sent) (Some given) (Some more) s g m is some = record {
  entry = record { sent = sent; given = given; rose = nat_lt 0 link.faults; more = more };
  records = record { sent = s; given = g; more = m; rose = refl };
  told_is = is;
}
entry-of before told link None given more s g m is some = let none = subst IsSome is some in absurd (cc)
entry-of before told link (Some sent) None more s g m is some = let none = subst IsSome is some in absurd (cc)
entry-of before told link (Some sent) (Some given) None s g m is some = let none = subst IsSome is some in absurd (cc)

entry-behind : (before : List LinkRecord) (told : Option (List LinkRecord)) (link : Speaking) → told ≡ records_behind (Some before) (Some link) → IsSome told → Entry before told link
entry-behind before told link is some = entry-of before told link link.sent link.given link.more refl refl refl is some

-- ---- a link is taken

unused-told : (link : Speaking) (sent given : Option (List ℕ)) (more : Option Bool) → link.sent ≡ sent → link.given ≡ given → IsFresh sent given link.faults → IsTold sent given more → link.fed.bytes ≡ [] → IsUnused link
unused-told link (Some sent) (Some given) more s g fresh told unread = record { sent = s ∙ ap Some fresh.none_sent; given = g ∙ ap Some fresh.none_given; read = unread; faults = fresh.no_fault }
unused-told link None given more s g fresh told unread = absurd (let none = told.told_sent in cc)
unused-told link (Some sent) None more s g fresh told unread = absurd (let none = told.told_given in cc)

-- it tells its bytes where the spawner tells its records
pub FitTold-taken : (first told : Option (List LinkRecord)) (talks : List BatchTalk) (link : Speaking) → IsFresh link.sent link.given link.faults → link.fed.bytes ≡ [] → (IsSome told → IsTold link.sent link.given link.more)
    → FitTold first told None talks → FitTold first told (Some link) talks
FitTold-taken None told talks link fresh unread tells fit = tt
FitTold-taken (Some before) told talks link fresh unread tells fit = (
  fit.0,
  fit.1,
  record {
    earlier = talks;
    fit = fit.2;
    group = [];
    whole = sym (append-nil talks);
    first = link;
    unused = unused-told link link.sent link.given link.more refl refl fresh (tells (subst IsSome (sym fit.1) (some_of (before ++ fit.0)))) unread;
    speaks = Silent;
  },
)
  where
    some_of : {X : Type 0} (x : X) → IsSome (Some x)
    some_of x = refl

-- ---- a talk is had to its end

pub FitTold-through : (first told : Option (List LinkRecord)) (talks : List BatchTalk) (link now : Speaking) (docs : List (List ℕ × Seq)) (outcomes : List Outcome) → Finishes link now docs outcomes
    → FitTold first told (Some link) talks → FitTold first told (Some now) (talks ++ batch_talk docs (Finished outcomes) ∷ [])
FitTold-through None told talks link now docs outcomes finishes fit = tt
FitTold-through (Some before) told talks link now docs outcomes finishes fit =
    let held = fit.2 in
    let one = batch_talk docs (Finished outcomes) in (
      fit.0,
      fit.1,
      record {
        earlier = held.earlier;
        fit = held.fit;
        group = held.group ++ one ∷ [];
        whole = ap (λ ts. ts ++ one ∷ []) held.whole ∙ append_assoc held.earlier held.group (one ∷ []);
        first = held.first;
        unused = held.unused;
        speaks = Through held.group link now docs outcomes held.speaks finishes;
      },
    )

-- ---- the link is given back

left-behind : (records : List LinkRecord) (talks more : List BatchTalk) (link last : Speaking) (entry : LinkRecord) → FitHeld records talks link → ((first : Speaking) (group : List BatchTalk) → Speaks first group link → Leaves first (group ++ more) last)
    → Records last entry → FitRecords (records ++ entry ∷ []) (talks ++ more)
left-behind records talks more link last entry held leaves tells =
    subst (FitRecords (records ++ entry ∷ [])) (sym (append_assoc held.earlier held.group more) ∙ ap (λ ts. ts ++ more) (sym held.whole))
    (Link records held.earlier (held.group ++ more) entry held.fit
    (record { first = held.first; unused = held.unused; last = last; leaves = leaves held.first held.group held.speaks; records = tells }))

-- as it was left behind these talks, and perhaps one in which it died
pub FitTold-left : (first told after : Option (List LinkRecord)) (talks more : List BatchTalk) (link last : Speaking) → ((start : Speaking) (group : List BatchTalk) → Speaks start group link → Leaves start (group ++ more) last)
    → after ≡ records_behind told (Some last) → (IsSome told → IsSome after) → FitTold first told (Some link) talks → FitTold first after None (talks ++ more)
FitTold-left None told after talks more link last leaves is tells_on fit = tt
FitTold-left (Some before) told after talks more link last leaves is tells_on fit =
    let own : after ≡ records_behind (Some (before ++ fit.0)) (Some last) = is ∙ ap (λ rs. records_behind rs (Some last)) fit.1 in
    let some = tells_on (subst IsSome (sym fit.1) refl) in
    let e = entry-behind (before ++ fit.0) after last own some in
    (fit.0 ++ e.entry ∷ [], e.told_is ∙ ap Some (append_assoc before fit.0 (e.entry ∷ [])), left-behind fit.0 talks more link last e.entry fit.2 leaves e.records)

-- between two talks
pub FitTold-stopped : (first told after : Option (List LinkRecord)) (talks : List BatchTalk) (held : Option Speaking) → after ≡ records_behind told held → (IsSome told → IsSome after) → FitTold first told held talks → FitTold first after None talks
FitTold-stopped first told after talks None is tells_on fit = subst (λ rs. FitTold first rs None talks) (sym is) fit
FitTold-stopped first told after talks (Some link) is tells_on fit =
    subst (FitTold first after None) (append-nil talks)
    (FitTold-left first told after talks [] link link (λ start group speaks. subst (λ ts. Leaves start ts link) (sym (append-nil group)) (Between group link speaks)) is tells_on fit)
