-- The turns of the requests that note a document, and of a query: their steps one by one, and the whole.
use Rattle.std.proofs.Common.{◌≡◌, ℕ, false, List, [], ◌∷◌, ◌++◌, inl, inr, refl, subst}
use Rattle.ci_base.specs.declared.numbers.Seq.{Seq}
use Rattle.ci_change.specs.declared.notice.What.TheVariants.{Changed, Deleted}
use Rattle.ci_chunk.specs.declared.piece.Piece.{Piece}
use Rattle.ci_chunk.specs.Plain.{plain}
use Rattle.ci_keys.proofs.OneForm.{Contains-first, Contains-later}
use Rattle.ci_journal.specs.declared.event.Event.{Event}
use Rattle.ci_journal.specs.declared.event.Happened.TheVariants.{Noted, Put, Erased, Opened, Answered, Said}
use Rattle.ci_journal.specs.declared.reply.Reply.TheVariants as reply
use Rattle.ci_journal.specs.declared.request.Request.TheVariants as request
use Rattle.ci_journal.specs.Queries.{IsAnswer}
use Rattle.ci_journal.specs.Step.{step_of}
use Rattle.ci_journal.specs.Tells.{event}
use Rattle.ci_journal.specs.Terms.{Terms}
use Rattle.ci_book.specs.Changes.{noted}
use Rattle.ci_server.specs.Turns.{AreFirst, AreSteps, Front}
use Rattle.ci_server.specs.Turns.Front.{Goes}
use Rattle.ci_server.proofs.FrontLemmas.{front-one, whole-replied}

-- entries aren't kept in word lists, so a put and an erasure add one event
one_put : (terms : Terms) (journal : List Event) (path : List ℕ) (seq : Seq) (pieces : List Piece) → terms.in_lists ≡ false → step_of terms journal 0 (Put path seq pieces) ≡ event 0 (Put path seq pieces) ∷ []
one_put terms journal path seq pieces plain_list = rw plain_list refl

one_erased : (terms : Terms) (journal : List Event) (path : List ℕ) (seq : Seq) → terms.in_lists ≡ false → step_of terms journal 0 (Erased path seq) ≡ event 0 (Erased path seq) ∷ []
one_erased terms journal path seq plain_list = rw plain_list refl

module _ (terms : Terms) (journal : List Event) (id : ℕ) (path : List ℕ) (seq : Seq) where
  -- ---- `changed`

  front-changed : Front terms journal id (request.Changed path) (Noted (record { path = path; seq = seq; what = Changed }) ∷ []) (noted 0 path seq.0 Changed ∷ [])
  front-changed = front-one terms journal id (request.Changed path) (Noted (record { path = path; seq = seq; what = Changed })) (refl, seq, refl)

  pub first-changed : AreFirst terms journal id (request.Changed path) (noted 0 path seq.0 Changed ∷ [])
  first-changed = inl (Noted (record { path = path; seq = seq; what = Changed }) ∷ [], front-changed)

  pub whole-changed : AreSteps terms journal id (request.Changed path) (noted 0 path seq.0 Changed ∷ event 0 (Said id reply.Ok) ∷ [])
  whole-changed = whole-replied terms journal id (request.Changed path) (Noted (record { path = path; seq = seq; what = Changed }) ∷ []) (noted 0 path seq.0 Changed ∷ []) reply.Ok front-changed (refl, seq, (0, Contains-first (noted 0 path seq.0 Changed) []))

  -- ---- `deleted`

  front-deletion : Front terms journal id (request.Deleted path) (Noted (record { path = path; seq = seq; what = Deleted }) ∷ []) (noted 0 path seq.0 Deleted ∷ [])
  front-deletion = front-one terms journal id (request.Deleted path) (Noted (record { path = path; seq = seq; what = Deleted })) (inl (refl, seq, refl))

  pub first-deletion : AreFirst terms journal id (request.Deleted path) (noted 0 path seq.0 Deleted ∷ [])
  first-deletion = inl (Noted (record { path = path; seq = seq; what = Deleted }) ∷ [], front-deletion)

  module _ (plain_list : terms.in_lists ≡ false) where
    front-erased : Front terms journal id (request.Deleted path) (Noted (record { path = path; seq = seq; what = Deleted }) ∷ Erased path seq ∷ []) (noted 0 path seq.0 Deleted ∷ event 0 (Erased path seq) ∷ [])
    front-erased =
        subst (λ es. Front terms journal id (request.Deleted path) (Noted (record { path = path; seq = seq; what = Deleted }) ∷ Erased path seq ∷ []) (noted 0 path seq.0 Deleted ∷ es))
        (one_erased terms (journal ++ noted 0 path seq.0 Deleted ∷ []) path seq plain_list)
        (Goes (Noted (record { path = path; seq = seq; what = Deleted }) ∷ []) (noted 0 path seq.0 Deleted ∷ []) (Erased path seq) front-deletion (inr (seq, refl, refl)))

    pub first-erased : AreFirst terms journal id (request.Deleted path) (noted 0 path seq.0 Deleted ∷ event 0 (Erased path seq) ∷ [])
    first-erased = inl (Noted (record { path = path; seq = seq; what = Deleted }) ∷ Erased path seq ∷ [], front-erased)

    pub whole-deleted : AreSteps terms journal id (request.Deleted path) (noted 0 path seq.0 Deleted ∷ event 0 (Erased path seq) ∷ event 0 (Said id reply.Ok) ∷ [])
    whole-deleted =
        let erased = event 0 (Erased path seq) in
        whole-replied terms journal id (request.Deleted path) (Noted (record { path = path; seq = seq; what = Deleted }) ∷ Erased path seq ∷ []) (noted 0 path seq.0 Deleted ∷ erased ∷ []) reply.Ok front-erased
        (refl, seq, (0, Contains-first (noted 0 path seq.0 Deleted) (erased ∷ [])), (0, Contains-later (noted 0 path seq.0 Deleted) (erased ∷ []) erased (Contains-first erased [])))

  -- ---- `put`

  module _ (text : List ℕ) where
    front-change : Front terms journal id (request.Put path text) (Noted (record { path = path; seq = seq; what = Changed }) ∷ []) (noted 0 path seq.0 Changed ∷ [])
    front-change = front-one terms journal id (request.Put path text) (Noted (record { path = path; seq = seq; what = Changed })) (inl (refl, seq, refl))

    pub first-change : AreFirst terms journal id (request.Put path text) (noted 0 path seq.0 Changed ∷ [])
    first-change = inl (Noted (record { path = path; seq = seq; what = Changed }) ∷ [], front-change)

    module _ (plain_list : terms.in_lists ≡ false) where
      front-put : Front terms journal id (request.Put path text) (Noted (record { path = path; seq = seq; what = Changed }) ∷ Put path seq (plain path text) ∷ [])
          (noted 0 path seq.0 Changed ∷ event 0 (Put path seq (plain path text)) ∷ [])
      front-put =
          subst (λ es. Front terms journal id (request.Put path text) (Noted (record { path = path; seq = seq; what = Changed }) ∷ Put path seq (plain path text) ∷ []) (noted 0 path seq.0 Changed ∷ es))
          (one_put terms (journal ++ noted 0 path seq.0 Changed ∷ []) path seq (plain path text) plain_list)
          (Goes (Noted (record { path = path; seq = seq; what = Changed }) ∷ []) (noted 0 path seq.0 Changed ∷ []) (Put path seq (plain path text)) front-change (inr (seq, refl, refl)))

      pub first-put : AreFirst terms journal id (request.Put path text) (noted 0 path seq.0 Changed ∷ event 0 (Put path seq (plain path text)) ∷ [])
      first-put = inl (Noted (record { path = path; seq = seq; what = Changed }) ∷ Put path seq (plain path text) ∷ [], front-put)

      pub whole-put : AreSteps terms journal id (request.Put path text) (noted 0 path seq.0 Changed ∷ event 0 (Put path seq (plain path text)) ∷ event 0 (Said id reply.Ok) ∷ [])
      whole-put =
          let filtered = event 0 (Put path seq (plain path text)) in
          whole-replied terms journal id (request.Put path text) (Noted (record { path = path; seq = seq; what = Changed }) ∷ Put path seq (plain path text) ∷ []) (noted 0 path seq.0 Changed ∷ filtered ∷ []) reply.Ok front-put
          (refl, seq, (0, Contains-first (noted 0 path seq.0 Changed) (filtered ∷ [])), (0, Contains-later (noted 0 path seq.0 Changed) (filtered ∷ []) filtered (Contains-first filtered [])))

-- ---- `query`

module _ (terms : Terms) (journal : List Event) (id : ℕ) (text : List ℕ) where
  front-opened : Front terms journal id (request.Query text) (Opened id ∷ []) (event 0 (Opened id) ∷ [])
  front-opened = front-one terms journal id (request.Query text) (Opened id) (refl, refl)

  pub first-opened : AreFirst terms journal id (request.Query text) (event 0 (Opened id) ∷ [])
  first-opened = inl (Opened id ∷ [], front-opened)

  pub whole-answered : (at : ℕ) (paths : List (List ℕ)) → IsAnswer terms (journal ++ event 0 (Opened id) ∷ []) id at paths
      → AreSteps terms journal id (request.Query text) (event 0 (Opened id) ∷ event 0 (Answered id at paths) ∷ [])
  whole-answered at paths answers = record {
    steps = Opened id ∷ [];
    events = event 0 (Opened id) ∷ [];
    front = front-opened;
    last = Answered id at paths;
    ends = inr (refl, at, paths, refl, answers);
    events_are = refl;
  }
