-- Which unserved notices are pending, as the rows of a register that is up to date tell it.
use Rattle.std.proofs.Common.{◌≡◌, ◌==◌, ◌&&◌, ◌||◌, ◌≤◌, ◌-◌, ◌^◌, ℕ, nat_le, Bool, true, not, bytes_eq, is_some, option_to_list, Option, Some, None, List, filter, get_or, length, sym, ap, ◌∙◌}
use Rattle.std.specs.List.{list_any}
use Rattle.std.proofs.lemmas.List.{length-map}
use Rattle.std.proofs.lemmas.List.Elements.{filter_passes}
use Rattle.std.proofs.lemmas.Slice.Eq.{bytes_eq-Decides}
use Rattle.ci_base.specs.declared.numbers.Seq.{Seq}
use Rattle.ci_change.specs.declared.notice.Notice.{Notice}
use Rattle.ci_change.specs.declared.notice.What.{What}
use Rattle.ci_change.specs.ChangeList.{IsUpToDate}
use Rattle.ci_change.specs.HandedIn.{History}
use Rattle.ci_change.specs.Pending.{charges_of, has_notice_of, is_refused, is_set_aside, is_unserved, kinds, latest_number, unserved_of, with_path}
use Rattle.ci_change.specs.Register.{Kept, is_given_up, waits}
use Rattle.ci_change.specs.Rows.{numbers_at, sets_aside}
use Rattle.ci_change.proofs.ChargeLemmas.{le-counted}
use Rattle.ci_change.proofs.FilterLemmas.{any-both, any-constant, any-filter, filter-agreed}
use Rattle.ci_change.proofs.UnservedLemmas.{unserved-is_latest}

module _ (past : History) (kept : Kept) (retries : ℕ) (up : IsUpToDate past kept retries) (small : retries ≤ 2 ^ 32 - 1) where
  abbrev is_aside : Notice → Bool
  is_aside = is_set_aside retries past.charges past.refusals

  abbrev notices_left : List Notice
  notices_left = unserved_of past.notices past.served

  -- its row tells of an unserved notice whether it is set aside
  given_up-aside : (n : Notice) → is_unserved past.notices past.served n ≡ true → is_given_up kept.rows retries n ≡ is_aside n
  given_up-aside n unserved =
      let latest = latest_number past.notices n.path in
      ap (λ b. b || nat_le retries (numbers_at kept.rows n.path).attempts) (up.refused n.path)
      ∙ ap (λ b. is_refused past.refusals n.path latest || b) (ap (nat_le retries) (up.attempts n.path) ∙ le-counted retries _ small)
      ∙ ap (λ l. is_refused past.refusals n.path l || nat_le retries (charges_of past.charges n.path l)) (sym (unserved-is_latest past.notices past.served n unserved))

  pub given_up_are_unfiltered : filter (is_given_up kept.rows retries) kept.unserved ≡ filter is_aside notices_left
  given_up_are_unfiltered =
      ap (filter (is_given_up kept.rows retries)) up.unserved
      ∙ filter-agreed (is_unserved past.notices past.served) (is_given_up kept.rows retries) is_aside past.notices (λ k d within unserved. given_up-aside (get_or past.notices k d) unserved)

  pub waiting_are_pending : filter (waits kept.rows retries) kept.unserved ≡ filter (λ n. not (is_aside n)) notices_left
  waiting_are_pending =
      ap (filter (waits kept.rows retries)) up.unserved
      ∙ filter-agreed (is_unserved past.notices past.served) (waits kept.rows retries) (λ n. not (is_aside n)) past.notices (λ k d within unserved. ap not (given_up-aside (get_or past.notices k d) unserved))

  module _ (path : List ℕ) where
    abbrev pub here : Notice → Bool
    here n = bytes_eq n.path path

    -- an unserved notice of the path is set aside where its row is
    aside-here : (n : Notice) → is_unserved past.notices past.served n ≡ true → here n ≡ true → is_aside n ≡ sets_aside (numbers_at kept.rows path) retries
    aside-here n unserved same = sym (given_up-aside n unserved) ∙ ap (λ p. sets_aside (numbers_at kept.rows p) retries) ((bytes_eq-Decides n.path path).0 same)

    pub some-is : (found : Option (Seq × What)) → kinds (with_path path notices_left) ≡ option_to_list found → is_some found ≡ list_any here notices_left
    some-is found is = by found (sym (length-map (with_path path notices_left) (λ (n : Notice). (n.seq, n.what))) ∙ ap length is) ∙ sym (any-filter here notices_left)
      where
        by : (o : Option (Seq × What)) → length (with_path path notices_left) ≡ length (option_to_list o) → is_some o ≡ not (length (with_path path notices_left) == 0)
        by (Some x) count = ap (λ n. not (n == 0)) (sym count)
        by None count = ap (λ n. not (n == 0)) (sym count)

    -- the path is unfiltered where it has an unserved notice, and its row is set aside
    pub unfiltered-has : (sets_aside (numbers_at kept.rows path) retries && list_any here notices_left) ≡ has_notice_of path (filter is_aside notices_left)
    unfiltered-has =
        let unserved = filter_passes (is_unserved past.notices past.served) past.notices in
        sym (any-constant is_aside here (sets_aside (numbers_at kept.rows path) retries) notices_left (λ k d within same. aside-here (get_or notices_left k d) (unserved k d within) same))
        ∙ sym (any-both is_aside here notices_left)
