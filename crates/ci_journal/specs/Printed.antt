-- The lines that events print. Each reply begins with the request's number.
use Rattle.std.specs.Prelude.{◌≡◌, ◌<◌, ℕ, Bool, true, false, IsTrue, All, List, [], ◌∷◌, ◌++◌, Option, length, codes, decimal, flat_map, take, unwrap_or}
use Rattle.std.specs.Io.KnownBytes.{Appends}
use Rattle.ci_base.specs.declared.numbers.PropNo.{PropNo}
use Rattle.ci_change.specs.declared.notice.Notice.{Notice}
use Rattle.ci_change.specs.declared.notice.What.{What}
use Rattle.ci_change.specs.declared.notice.What.TheVariants.{Changed, Deleted}
use Rattle.ci_dialect.specs.declared.fault.QueryKind.{QueryKind}
use Rattle.ci_dialect.specs.declared.fault.QueryKind.TheVariants as kind
use Rattle.ci_props.specs.Table.{name_of_number}
use Rattle.ci_journal.specs.declared.counts.Counts.{Counts}
use Rattle.ci_journal.specs.declared.counts.Shape.{Shape}
use Rattle.ci_journal.specs.declared.counts.Shape.TheVariants as shape
use Rattle.ci_journal.specs.declared.event.Event.{Event}
use Rattle.ci_journal.specs.declared.event.Happened.{Happened}
use Rattle.ci_journal.specs.declared.event.Happened.TheVariants.{BatchDied, Returned, Answered, Said}
use Rattle.ci_journal.specs.declared.reply.Reply.{Reply}
use Rattle.ci_journal.specs.declared.reply.Reply.TheVariants as reply

-- a printed line
abbrev pub line : List ℕ → List ℕ
line text = text ++ codes "\n"

abbrev pub what_text : What → List ℕ
what_text Changed = codes "changed"
what_text Deleted = codes "deleted"

-- `changed P` or `deleted P`
abbrev pub notice_line : Notice → List ℕ
notice_line notice = line (what_text notice.what ++ codes " " ++ notice.path)

-- a property's name, or its number where it has none
abbrev pub property_text : PropNo → List ℕ
property_text property = unwrap_or (name_of_number property.0) (decimal property.0)

abbrev pub kind_text : QueryKind → List ℕ
kind_text kind.Bad = codes "Bad"
kind_text kind.UnknownProperty = codes "UnknownProperty"
kind_text kind.WrongKind = codes "WrongKind"
kind_text kind.TooDeep = codes "TooDeep"
kind_text kind.TooLong = codes "TooLong"
kind_text kind.OnlyNoise = codes "OnlyNoise"

abbrev pub shape_text : Shape → List ℕ
shape_text shape.Absent = codes "none"
shape_text shape.Whole = codes "whole"
shape_text shape.Half = codes "half"

abbrev pub status_text : Counts → List ℕ
status_text c =
    codes "status documents " ++ decimal c.documents ++ codes " pending " ++ decimal c.pending
    ++ codes " unfiltered " ++ decimal c.unfiltered ++ codes " lists " ++ decimal c.lists
    ++ codes " shadows " ++ decimal c.shadows ++ codes " master " ++ shape_text c.master

-- a reply's first line behind the request's number
abbrev pub reply_text : Reply → List ℕ
reply_text reply.Ok = codes "ok"
reply_text reply.Bad = codes "bad"
reply_text reply.Long = codes "long"
reply_text reply.Outside = codes "outside"
reply_text (reply.QueryFault kind at) = codes "query fault " ++ kind_text kind ++ codes " at " ++ decimal at
reply_text (reply.Filtered count) = codes "filtered " ++ decimal count
reply_text reply.NoDaemon = codes "nodaemon"
reply_text reply.Shadowed = codes "shadowed"
reply_text reply.Merged = codes "merged"
reply_text reply.Begun = codes "begun"
reply_text (reply.Split key) = codes "split " ++ property_text key.property ++ codes " " ++ key.word
reply_text (reply.Scanned changed deleted skipped) =
    codes "scan " ++ decimal changed ++ codes " " ++ decimal deleted ++ codes " " ++ decimal skipped
reply_text reply.ListFault = codes "listfault"
reply_text (reply.Pending notices) = codes "pending " ++ decimal (length notices)
reply_text (reply.Unfiltered paths) = codes "unfiltered " ++ decimal (length paths)
reply_text (reply.Status counts) = status_text counts
reply_text (reply.Loaded count bytes) = codes "loaded " ++ decimal count ++ codes " " ++ decimal bytes
reply_text reply.Done = codes "done"
reply_text reply.Bye = codes "bye"

-- the lines below it
abbrev pub list_lines : Reply → List ℕ
list_lines (reply.Pending notices) = flat_map notice_line notices
list_lines (reply.Unfiltered paths) = flat_map line paths
list_lines _ = []

abbrev pub reply_lines : ℕ → Reply → List ℕ
reply_lines id said = line (decimal id ++ codes " " ++ reply_text said) ++ list_lines said

-- `ID hits K at A`, and a line for each path
abbrev pub answer_lines : ℕ → ℕ → List (List ℕ) → List ℕ
answer_lines id at paths =
    line (decimal id ++ codes " hits " ++ decimal (length paths) ++ codes " at " ++ decimal at) ++ flat_map line paths

-- what an event prints: answers and replies, and nothing else
abbrev pub lines_of : Happened → List ℕ
lines_of (Answered id at paths) = answer_lines id at paths
lines_of (Said id said) = reply_lines id said
lines_of _ = []

-- what a journal prints
abbrev pub printed : List Event → List ℕ
printed journal = flat_map (λ e. lines_of e.what) journal

-- a batch's end, which is never refused
abbrev pub ends_batch : Happened → Bool
ends_batch (BatchDied number charged) = true
ends_batch (Returned number) = true
ends_batch _ = false

abbrev pub AreEnds : List Event → Type 0
AreEnds events = All (λ e. IsTrue (ends_batch e.what)) events

-- the journal was printed, but for bytes at the end of one event's lines, behind which batches ended alone
pub record PrintsCut (old new : Option (List ℕ)) (journal : List Event) : Type 0 where
  pub front : List Event
  pub last : Event
  pub ends : List Event
  pub events : journal ≡ front ++ last ∷ ends
  pub each : AreEnds ends
  pub count : ℕ
  pub short : count < length (lines_of last.what)
  pub written : Appends old new (printed front ++ take count (lines_of last.what))
