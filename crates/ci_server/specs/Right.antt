-- Which replies are right to a request, whatever was asked between and by whomever its steps were made.
use Rattle.std.specs.Prelude.{◌≡◌, ◌<◌, ◌≤◌, ◌+◌, ℕ, true, List, drop, take, Some, Contains, length, slice_get}
use Rattle.ci_base.specs.declared.numbers.Seq.{Seq}
use Rattle.ci_change.specs.declared.notice.Notice.{Notice}
use Rattle.ci_change.specs.declared.notice.What.{What}
use Rattle.ci_change.specs.declared.notice.What.TheVariants.{Changed, Deleted}
use Rattle.ci_change.specs.Pending.{ListsByPath, ListsPaths, paths_of}
use Rattle.ci_chunk.specs.Plain.{plain}
use Rattle.ci_dialect.specs.declared.fault.QueryFault.{QueryFault}
use Rattle.ci_dialect.specs.declared.fault.QueryKind.{QueryKind}
use Rattle.ci_dialect.specs.declared.restriction.Restriction.{Restriction}
use Rattle.ci_dialect.specs.Fault.{met_in}
use Rattle.ci_dialect.specs.FirstFault.{IsFirstFault}
use Rattle.ci_dialect.specs.Tree.{IsTree}
use Rattle.ci_journal.specs.declared.event.Event.{Event}
use Rattle.ci_journal.specs.declared.event.Happened.{Happened}
use Rattle.ci_journal.specs.declared.event.Happened.TheVariants.{Asked, Noted, Put, Erased, Said}
use Rattle.ci_journal.specs.declared.reply.Reply.{Reply}
use Rattle.ci_journal.specs.declared.reply.Reply.TheVariants as reply
use Rattle.ci_journal.specs.declared.request.Request.{Request}
use Rattle.ci_journal.specs.declared.request.Request.TheVariants as request
use Rattle.ci_journal.specs.Folds.{is_replied}
use Rattle.ci_journal.specs.Pending.{pending, unfiltered}
use Rattle.ci_journal.specs.Tells.{event}
use Rattle.ci_journal.specs.Terms.{Terms}
use Rattle.ci_worker.specs.Way.{IsFiltered, IsHopeless}

-- one of the events tells this
abbrev pub Happens : List Event → Happened → Type 0
Happens events what = (by : ℕ) × Contains events (event by what)

-- the path was noted under this number
abbrev pub Notes : List Event → List ℕ → What → Seq → Type 0
Notes events path kind seq = Happens events (Noted (record { path = path; seq = seq; what = kind }))

-- each request with a lesser number has its reply
abbrev pub AreRepliedBefore : List Event → ℕ → Type 0
AreRepliedBefore journal id = (earlier : ℕ) → 0 < earlier → earlier < id → is_replied journal earlier ≡ true

-- the text has no tree: its first fault is of this kind, and so many bytes stand before it
pub record HasFault (noise : List (List ℕ)) (text : List ℕ) (kind : QueryKind) (place : ℕ) : Type 0 where
  pub none : (tree : Restriction) → ¬ IsTree noise text tree
  pub fault : QueryFault
  pub first : IsFirstFault noise text fault
  pub met : met_in fault ≡ Some (kind, place)

-- at a point since the asking all was filtered, and so many documents are set aside; or no daemon can be had
abbrev pub IsFilterReply : Terms → List Event → List Event → Reply → Type 0
IsFilterReply terms journal since (reply.Filtered count) =
    (count ≡ length (unfiltered terms journal))
    × (at : ℕ) × (length journal ≤ at + length since) × IsFiltered terms (take at journal)
IsFilterReply terms journal since reply.NoDaemon = IsHopeless terms journal since
IsFilterReply terms journal since _ = ⊥

-- what is said to a request of this number is right behind the journal, of which the events since its asking are given;
-- a line that isn't known is told so, and so is one that no step serves yet
abbrev pub IsRight : Terms → List Event → List Event → ℕ → Request → Reply → Type 0
IsRight terms journal since id (request.Changed path) said =
    (said ≡ reply.Ok) × (seq : Seq) × Notes since path Changed seq
IsRight terms journal since id (request.Deleted path) said =
    (said ≡ reply.Ok) × (seq : Seq) × Notes since path Deleted seq × Happens since (Erased path seq)
IsRight terms journal since id (request.Put path text) said =
    (said ≡ reply.Ok) × (seq : Seq) × Notes since path Changed seq × Happens since (Put path seq (plain path text))
IsRight terms journal since id (request.Query text) said =
    (kind : QueryKind) × (place : ℕ) × (said ≡ reply.QueryFault kind place) × HasFault terms.noise text kind place
IsRight terms journal since id request.Filter said = IsFilterReply terms journal since said
IsRight terms journal since id request.Pending said =
    (notices : List Notice) × (said ≡ reply.Pending notices) × ListsByPath (pending terms journal) notices
IsRight terms journal since id request.Unfiltered said =
    (paths : List (List ℕ)) × (said ≡ reply.Unfiltered paths) × ListsPaths (paths_of (unfiltered terms journal)) paths
IsRight terms journal since id request.Wait said = (said ≡ reply.Done) × AreRepliedBefore journal id
IsRight terms journal since id request.Quit said = (said ≡ reply.Bye) × AreRepliedBefore journal id
IsRight terms journal since id request.Long said = said ≡ reply.Long
IsRight terms journal since id _ said = said ≡ reply.Bad

-- the reply at a place is right to the request of its number, which was asked before
pub record RepliesAt (terms : Terms) (journal : List Event) (place id : ℕ) (said : Reply) : Type 0 where
  pub at : ℕ
  pub before : at < place
  pub request : Request
  pub found : slice_get journal at ≡ Some (event 0 (Asked id request))
  pub right : IsRight terms (take place journal) (drop (at + 1) (take place journal)) id request said

-- each reply of the journal is
abbrev pub AllReply : Terms → List Event → Type 0
AllReply terms journal =
    (place by id : ℕ) (said : Reply) → slice_get journal place ≡ Some (event by (Said id said)) →
    RepliesAt terms journal place id said
