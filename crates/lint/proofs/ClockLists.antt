-- Clocks and the marks that follow them, according to tables of first leads.
use Rattle.std.proofs.Common.{◌≡◌, ℕ, ◌+◌, ◌<◌, not, ◌&&◌, ◌||◌, cond, List, [], ◌∷◌, length, take, get_or, Option, Some, None, find, is_some, refl, ap, ◌∙◌}
use Rattle.std.specs.Option.{option_map_or, option_or}
use Rattle.sheet.specs.SheetContents.{SheetView}
use Rattle.compose.specs.declared.mark.DesignMark.{DesignMark}
use Rattle.lint.specs.declared.clock.Clock.{Clock}
use Rattle.lint.specs.declared.crossings.Crossing.{Crossing}
use Rattle.lint.specs.declared.lead.Lead.{Lead}
use Rattle.lint.specs.declared.warning.Warning.{Warning}
use Rattle.lint.specs.Kinds.{follows_of}
use Rattle.lint.specs.Leads.{is_at, leads_into, mark_on}
use Rattle.lint.specs.Lists.{each_from, spot}
use Rattle.lint.specs.Periods.{driver_of, follows_by, has_period, is_crossed, is_join_into, is_one_value, is_period, is_timed, lead_clock, mark_period, period_by, place_period, sheet_periods}
use Rattle.lint.specs.Rules.{is_linear}
use Rattle.lint.specs.Step.{AreFirst, FirstLeads, clock_by, clocked_by, crossed_by, driver_by, first_at, follows_clock, given_at, is_period_into, place_clocked, sheet_clocked, timed_by}
use Rattle.lint.proofs.EachLists.{each_same}
use Rattle.lint.proofs.FirstLists.{any_same, first_more, some_any}

abbrev driven : Lead → DesignMark → Clock
driven lead driver = record { driver = driver; shift = lead.shift; range = lead.range; place = spot lead.to.part lead.origin }

module _ (joins : FirstLeads) (leads : List Lead) (are_joins : AreFirst is_join_into joins leads) where
  driver_same : (mark : DesignMark) → driver_by joins mark ≡ driver_of leads mark
  driver_same mark = ap (λ found. option_map_or (λ (lead : Lead). lead.from) found mark) (are_joins mark)

  pub clock_same : (lead : Lead) → clock_by joins lead ≡ lead_clock leads lead
  clock_same lead = ap (λ driver. cond (is_period lead && is_linear lead.kind) (driven lead driver ∷ []) []) (driver_same lead.to)

  module _ (periods : FirstLeads) (are_periods : AreFirst is_period_into periods leads) where
    period_same : (mark : DesignMark) → is_some (first_at periods mark) ≡ has_period leads mark
    period_same mark = ap is_some (are_periods mark) ∙ some_any (is_period_into mark) leads

    timed_same : (mark : DesignMark) → timed_by joins periods mark ≡ is_timed leads mark
    timed_same mark =
        ap (λ b. b || is_some (first_at periods (driver_by joins mark))) (period_same mark)
        ∙ ap (λ b. has_period leads mark || b) (period_same (driver_by joins mark) ∙ ap (has_period leads) (driver_same mark))

    follows_same : (mark : DesignMark) (lead : Lead) → (leads_into mark lead && follows_clock joins periods lead) ≡ follows_by leads mark lead
    unfolding follows_by
    follows_same mark lead = ap (λ b. leads_into mark lead && (is_linear lead.kind && (not (is_one_value lead.range) && b))) (timed_same lead.from)

    -- one more lead by which a mark may follow a clock
    pub follows_more : (mark : DesignMark) (n : ℕ) (lead : Lead) (before after : Option Lead) → n < length leads → lead ≡ get_or leads n lead → before ≡ find (follows_by leads mark) (take n leads)
        → after ≡ option_or before (given_at mark (follows_clock joins periods lead) lead) → after ≡ find (follows_by leads mark) (take (n + 1) leads)
    follows_more mark n lead before after within is held noted =
        first_more (follows_by leads mark) leads n lead before after within is held (noted ∙ ap (λ b. option_or before (cond b (Some lead) None)) (follows_same mark lead))

    module _ (clocks : FirstLeads) (are_clocks : AreFirst (follows_by leads) clocks leads) (crossings : List Crossing) where
      crossed_same : (mark : DesignMark) → crossed_by periods crossings mark ≡ is_crossed leads crossings mark
      crossed_same mark =
          any_same (λ (crossing : Crossing). is_at crossing.to mark && not (is_some (first_at periods crossing.from))) (λ (crossing : Crossing). is_at crossing.to mark && not (has_period leads crossing.from))
          (λ crossing. ap (λ b. is_at crossing.to mark && not b) (period_same crossing.from)) crossings

      clocked_same : (mark : DesignMark) (found : Option Lead) → clocked_by periods crossings mark found ≡ period_by leads crossings mark found
      clocked_same mark None = refl
      clocked_same mark (Some lead) =
          let warning : Warning = follows_of mark (spot mark.part lead.origin) in
          ap (λ b. cond (not b && crossed_by periods crossings mark) (warning ∷ []) []) (period_same mark)
          ∙ ap (λ b. cond (not (has_period leads mark) && b) (warning ∷ []) []) (crossed_same mark)

      mark_clocked : (mark : DesignMark) → clocked_by periods crossings mark (first_at clocks mark) ≡ mark_period leads crossings mark
      mark_clocked mark = ap (clocked_by periods crossings mark) (are_clocks mark) ∙ clocked_same mark (find (follows_by leads mark) leads)

      -- the tables give the warnings of all marks
      pub sheets_clocked : (sheets : List SheetView) → each_from (sheet_clocked periods clocks crossings) 0 sheets ≡ each_from (sheet_periods leads crossings) 0 sheets
      sheets_clocked sheets =
          each_same (sheet_clocked periods clocks crossings) (sheet_periods leads crossings)
          (λ part sheet. each_same (place_clocked periods clocks crossings part) (place_period leads crossings part) (λ k mark. mark_clocked (mark_on part k)) 0 sheet.marks) 0 sheets
