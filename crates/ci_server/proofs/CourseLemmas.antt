-- All that the end of a session says.
use Rattle.std.proofs.Common.{arith, ◌≡◌, ◌≢◌, ◌∙◌, ◌≤◌, ◌<◌, ◌++◌, ℕ, List, [], All, length, Option, Some, None, inl, inr, refl, ap, sym, subst, append-nil}
use Rattle.std.specs.Io.KnownBytes.{Appends}
use Rattle.ci_io.specs.Reading.{Reading, ahead}
use Rattle.ci_journal.specs.declared.event.Event.{Event}
use Rattle.ci_book.specs.Book.{IsWithin}
use Rattle.ci_journal.specs.declared.request.Request.TheVariants as request
use Rattle.ci_journal.specs.Folds.{numbered_paths, requests_in}
use Rattle.ci_journal.specs.Printed.{printed}
use Rattle.ci_journal.specs.Step.{Run}
use Rattle.ci_journal.specs.Step.Run.{Empty}
use Rattle.ci_journal.specs.Tells.{last_of}
use Rattle.ci_journal.specs.Terms.{Terms}
use Rattle.ci_journal.proofs.LawLemmas.{AllAnswer-run}
use Rattle.ci_holdings.specs.Core.{Core, terms_of}
use Rattle.ci_core.specs.Fixed.{Fixed, HasFixed}
use Rattle.ci_holdings.specs.Opening.{NoneWaits}
use Rattle.ci_holdings.proofs.QueueLemmas.{IsQueue-empty, IsQueue-none}
use Rattle.ci_holdings.proofs.WithinLemmas.{IsWithin-whole}
use Rattle.ci_link.specs.declared.record.LinkRecord.{LinkRecord}
use Rattle.ci_worker.specs.Links.{FitTold}
use Rattle.ci_worker.specs.Links.FitRecords.{NoLink}
use Rattle.ci_worker.specs.Talks.{BatchTalk, talks}
use Rattle.ci_worker.specs.Working.{Keeps, KeepsOn, RoseBy, Working, failed_starts}
use Rattle.ci_base.specs.declared.numbers.Seq.{Seq}
use Rattle.ci_change.specs.declared.batch.Batch.{Batch}
use Rattle.std.proofs.lemmas.List.Elements.{All-nil}
use Rattle.ci_journal.specs.Filings.{out}
use Rattle.ci_server.specs.declared.status.Status.{Status}
use Rattle.ci_server.specs.declared.status.Status.TheVariants.{Done, Usage, ReadFault, WriteFault, JournalFull, TooManyDocuments, OutOfMemory, EndlessLine}
use Rattle.ci_server.specs.Course.{Course, HasCause, IsComplete, IsDriven, IsServed, IsTold, unheld}
use Rattle.ci_server.specs.Progress.{Ends, FitsLine}
use Rattle.ci_server.specs.Requests.{requests}
use Rattle.ci_server.specs.Served.{IsBetween}
use Rattle.ci_worker.specs.Stops.{AreBelowNext}
use Rattle.ci_server.specs.Session.{EndsBetween, EndsByQuit, AsksFirst, InTurns, IsWhole, EndsWell}
use Rattle.ci_server.specs.Turns.Turns.{None as no_turns}
use Rattle.ci_server.specs.Turns.{Turns}
use Rattle.ci_server.proofs.ProgressLemmas.{Progress-none, Ends-stop}
use Rattle.ci_server.proofs.RightLemmas.{AllReply-in_turns}
use Rattle.ci_server.proofs.SessionLemmas.{fits, has_now, whole, all_printed, bounded, cut_off, journal_full, crowded}
use Rattle.ci_server.proofs.SourceLemmas.{all_lines, done, ends_at_quit, left_at_quit, taken_at_fault, taken_at_long, endless, read_fault}
use Rattle.ci_worker.proofs.StopLemmas.{StopsIn-starved}

-- nothing was noted or served in a session that found nothing
below-fresh : (noise : List (List ℕ)) (retries : ℕ) → AreBelowNext (terms_of noise retries) []
below-fresh noise retries = record { latest = λ path. omega arith; served = λ path. omega arith; out = All-nil (λ (b : Batch). All (λ (d : List ℕ × Seq). d.1.0 < 1) b.docs) }

-- a catalogue that was just made
pub IsBetween-fresh : (core : Core) (noise : List (List ℕ)) (retries : ℕ) → core.terms ≡ terms_of noise retries → core.sheet.events ≡ [] → core.numbered ≡ [] → core.refusal ≡ None → IsBetween core
IsBetween-fresh core noise retries terms fresh none_numbered unrefused = record {
  sound = record {
    unrefused = unrefused;
    numbered = none_numbered ∙ ap (numbered_paths (terms_of noise retries)) (sym fresh) ∙ ap (λ (t : Terms). numbered_paths t core.sheet.events) (sym terms);
    room = rw none_numbered (omega arith);
    below = subst (λ (t : Terms). AreBelowNext t core.sheet.events) (sym terms) (subst (AreBelowNext (terms_of noise retries)) (sym fresh) (below-fresh noise retries));
    plain = ap (λ (t : Terms). t.in_lists) terms;
  };
  replied = λ earlier some below. absurd (let count : length (requests_in core.sheet.events) ≡ 0 = ap (λ es. length (requests_in es)) fresh in omega (arith, count, some, below));
  all_opened = subst (NoneWaits core.terms) (sym fresh) (IsQueue-none core.terms [] (IsQueue-empty core.terms));
  back = ap out fresh;
}

-- there was no memory for a reader
pub Ends-unread : (first : Reading) (start : Core) → start.sheet.events ≡ [] → IsBetween start → Ends first start first start OutOfMemory
Ends-unread first start fresh between =
    Ends-stop first start first first start start OutOfMemory (Progress-none first start fresh between)
    (StopsIn-starved (FitsLine start.terms (ahead first) start.sheet.events) start between.sound (inl refl))

-- ---- a session without any cause ends well

good_status : (status : Status) → status ≢ Usage → status ≢ ReadFault → status ≢ WriteFault → ((used more : ℕ) → status ≢ JournalFull used more) → status ≢ TooManyDocuments → EndsWell status
good_status Done usage read write full many = inl refl
good_status OutOfMemory usage read write full many = inr (inl refl)
good_status EndlessLine usage read write full many = inr (inr refl)
good_status Usage usage read write full many = absurd (usage refl)
good_status ReadFault usage read write full many = absurd (read refl)
good_status WriteFault usage read write full many = absurd (write refl)
good_status (JournalFull used more) usage read write full many = absurd (full used more refl)
good_status TooManyDocuments usage read write full many = absurd (many refl)

complete : (c : Course) → HasCause c → IsComplete c
complete c cause read write full many =
    good_status c.status cause.usage (λ is. read (cause.read_fault is)) (λ is. write (cause.write_fault is)) (λ used more is. full used more (cause.journal_full used more is)) (λ is. many (cause.crowded is))

-- what follows of the run and of its turns
served-from : (c : Course) → Run c.terms c.journal → InTurns c.terms c.journal → (EndsBetween c.status → IsWhole c.terms c.journal) → IsServed c
served-from c run turns whole = record {
  run = run;
  answers = AllAnswer-run c.terms c.journal run;
  replies = AllReply-in_turns c.terms c.journal turns;
  turns = turns;
  whole = whole;
}

abbrev pub course : Fixed → Reading → Reading → Core → Working → Working → Status → Course
course fixed first now core before after status = record {
  terms = fixed.terms;
  limit = fixed.limit;
  most = fixed.most;
  bytes = ahead first;
  left = now.left;
  read_faults = first.faults;
  read_faults_after = now.faults;
  written = fixed.written;
  written_after = core.sheet.written;
  write_faults = fixed.faults;
  write_faults_after = core.sheet.faults;
  records = before.records;
  records_after = after.records;
  spawn_faults = before.faults;
  spawn_faults_after = after.faults;
  status = status;
  journal = core.sheet.events;
}

module _ (first : Reading) (start : Core) (now : Reading) (core : Core) (before after : Working) (fixed : Fixed) (status : Status) (has : HasFixed fixed start) (ends : Ends first start now core status) where
  at : (s : Status) → status ≡ s → Ends first start now core s
  at s is = subst (Ends first start now core) is ends

  causes : HasCause (course fixed first now core before after status)
  causes = record {
    usage = λ is. at Usage is;
    read_fault = λ is. read_fault first start now core (at ReadFault is);
    write_fault = λ is. ((at WriteFault is).prints fixed has).rose;
    journal_full = λ used more is. journal_full first start now core fixed has used more (at (JournalFull used more) is);
    crowded = λ is. crowded first start now core fixed has (at TooManyDocuments is);
    endless = λ is. endless first start now core (at EndlessLine is);
  }

  pub IsTold-ends : Run core.terms core.sheet.events → IsWithin core.sheet.limit core.sheet.events → IsDriven (course fixed first now core before after status) → length now.held ≤ 65537 → IsTold (course fixed first now core before after status)
  IsTold-ends run within driven short =
      let all = fits first start now core fixed has status ends in
      record {
        served = served-from (course fixed first now core before after status) (subst (λ (t : Terms). Run t core.sheet.events) (has_now first start now core fixed has status ends).terms run)
            (subst (λ (t : Terms). InTurns t core.sheet.events) has.terms all.turns)
            (λ between. subst (λ (t : Terms). IsWhole t core.sheet.events) has.terms (whole first start now core fixed has status ends between));
        asked = record {
          lines = all.lines;
          all_lines = λ is. all_lines first start now core (at Done is);
          done = λ is. done first start now core (at Done is);
          ends_at_quit = ends_at_quit first start now core status ends;
          left_at_quit = λ is. left_at_quit first start now core short (at Done is);
          taken_at_fault = λ is. taken_at_fault first start now core (at ReadFault is);
          taken_at_long = λ is. taken_at_long first start now core (at EndlessLine is);
        };
        prints = record {
          all_printed = λ other. (all_printed first start now core fixed has status ends other).written;
          cut_off = λ is. cut_off first start now core fixed has (at WriteFault is);
        };
        cause = causes;
        complete = complete (course fixed first now core before after status) causes;
        driven = driven;
        bounds = record {
          within = subst (λ n. IsWithin n core.sheet.events) (has_now first start now core fixed has status ends).limit within;
          bounded = bounded first start now core fixed has status ends;
        };
      }

-- what is handed out is what the session left
pub IsTold-handed : (c : Course) (bytes left : Option (List ℕ)) (reads reads_after : ℕ) (written_after : Option (List ℕ)) (writes_after : ℕ) (records_after : Option (List LinkRecord)) (spawns_after : ℕ) (status : Status) (journal : List Event)
    → bytes ≡ c.bytes → left ≡ c.left → reads ≡ c.read_faults → reads_after ≡ c.read_faults_after → written_after ≡ c.written_after → writes_after ≡ c.write_faults_after → records_after ≡ c.records_after → spawns_after ≡ c.spawn_faults_after → status ≡ c.status → journal ≡ c.journal → IsTold c
    → IsTold (record c { bytes = bytes; left = left; read_faults = reads; read_faults_after = reads_after; written_after = written_after; write_faults_after = writes_after; records_after = records_after; spawn_faults_after = spawns_after; status = status; journal = journal })
IsTold-handed c bytes left reads reads_after written_after writes_after records_after spawns_after status journal b l r ra w wa k f s j told = rw (b, l, r, ra, w, wa, k, f, s, j) told

-- ---- a session that did nothing

run-idle : (terms : Terms) (journal : List Event) → journal ≡ [] → Run terms journal
run-idle terms journal none = subst (Run terms) (sym none) Empty

turns-idle : (terms : Terms) (journal : List Event) → journal ≡ [] → InTurns terms journal
turns-idle terms journal none = record { whole = []; turns = ([], no_turns); front = []; events = none; cut = inl refl }

lines-idle : (bytes : Option (List ℕ)) (journal : List Event) → journal ≡ [] → AsksFirst bytes journal
lines-idle None journal none = subst (λ es. AsksFirst None es) (sym none) tt
lines-idle (Some all) journal none = (requests all, ap (λ es. requests_in es ++ requests all) (sym none))

printed-idle : (written : Option (List ℕ)) (journal : List Event) → journal ≡ [] → Appends written written (printed journal)
printed-idle None journal none = tt
printed-idle (Some bytes) journal none = sym (append-nil bytes) ∙ ap (λ es. bytes ++ printed es) (sym none)

quit-idle : (journal : List Event) → journal ≡ [] → EndsByQuit journal → ⊥
quit-idle journal none quits = let never : None ≡ Some request.Quit = sym (ap (λ es. last_of (requests_in es)) none) ∙ quits in cc

bounded-idle : (noise : List (List ℕ)) (retries most : ℕ) (journal : List Event) → journal ≡ [] → length (numbered_paths (terms_of noise retries) journal) ≤ most
bounded-idle noise retries most journal none = subst (λ es. length (numbered_paths (terms_of noise retries) es) ≤ most) (sym none) (omega arith)

within-idle : (limit : ℕ) (journal : List Event) → journal ≡ [] → IsWithin limit journal
within-idle limit journal none = subst (IsWithin limit) (sym none) (IsWithin-whole limit [] (omega arith))

-- nothing was started
pub driven-idle : (records : Option (List LinkRecord)) (faults : ℕ) (journal : List Event) → journal ≡ [] → Keeps (unheld records faults) (unheld records faults) journal
driven-idle records faults journal none = subst (Keeps (unheld records faults) (unheld records faults)) (sym none) (record {
  told = told records;
  failed = omega arith;
  links = record { begins = λ place by batch found. absurd (cc); starts = λ place by found. absurd (cc) };
})
  where
    told : (records : Option (List LinkRecord)) → FitTold records records None []
    told None = tt
    told (Some before) = ([], ap Some (sym (append-nil before)), NoLink)

-- and what was kept true holds of the spawner that is handed out
pub driven-closed : (records told : Option (List LinkRecord)) (faults told_faults : ℕ) (start worker : Working) (before now : List Event) → start ≡ unheld records faults → before ≡ [] → KeepsOn start before worker now
    → ((first : Option (List LinkRecord)) (talks : List BatchTalk) → FitTold first worker.records worker.held talks → FitTold first told None talks) → told_faults ≡ worker.faults
    → Keeps (unheld records faults) (unheld told told_faults) now
driven-closed records told faults told_faults start worker before now is none keeps_on closes same =
    let begun : Keeps (unheld records faults) start before = subst (λ (w : Working). Keeps (unheld records faults) w before) (sym is) (driven-idle records faults before none) in
    let last = keeps_on (unheld records faults) begun in
    record {
      told = closes records (talks now) last.told;
      failed = subst (RoseBy (failed_starts now) faults) (sym same) last.failed;
      links = last.links;
    }

cause-idle : (c : Course) → c.status ≡ OutOfMemory → HasCause c
cause-idle c starves = record {
  usage = λ is. absurd (cc);
  read_fault = λ is. absurd (cc);
  write_fault = λ is. absurd (cc);
  journal_full = λ used more is. absurd (cc);
  crowded = λ is. absurd (cc);
  endless = λ is. absurd (cc);
}

-- for want of memory
pub IsTold-idle : (c : Course) (noise : List (List ℕ)) (retries : ℕ) → c.terms ≡ terms_of noise retries → c.journal ≡ [] → c.status ≡ OutOfMemory → c.written_after ≡ c.written → c.records_after ≡ c.records → c.spawn_faults_after ≡ c.spawn_faults → IsTold c
IsTold-idle c noise retries terms none starves kept same_records same_faults = record {
  served = served-from c (run-idle c.terms c.journal none) (turns-idle c.terms c.journal none) (λ _. ([], subst (λ es. Turns c.terms es []) (sym none) no_turns));
  asked = record {
    lines = lines-idle c.bytes c.journal none;
    all_lines = λ is. absurd (cc);
    done = λ is. absurd (cc);
    ends_at_quit = λ quits _. absurd (quit-idle c.journal none quits);
    left_at_quit = λ is. absurd (cc);
    taken_at_fault = λ is. absurd (cc);
    taken_at_long = λ is. absurd (cc);
  };
  prints = record {
    all_printed = λ _. subst (λ w. Appends c.written w (printed c.journal)) (sym kept) (printed-idle c.written c.journal none);
    cut_off = λ is. absurd (cc);
  };
  cause = cause-idle c starves;
  complete = complete c (cause-idle c starves);
  driven = subst (λ rs. Keeps (unheld c.records c.spawn_faults) (unheld rs c.spawn_faults_after) c.journal) (sym same_records)
      (subst (λ n. Keeps (unheld c.records c.spawn_faults) (unheld c.records n) c.journal) (sym same_faults) (driven-idle c.records c.spawn_faults c.journal none));
  bounds = record {
    within = within-idle c.limit c.journal none;
    bounded = subst (λ (t : Terms). length (numbered_paths t c.journal) ≤ c.most) (sym terms) (bounded-idle noise retries c.most c.journal none);
  };
}
