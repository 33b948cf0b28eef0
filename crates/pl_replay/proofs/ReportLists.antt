-- Lists of reports, one for each part.
use Rattle.std.proofs.Common.{◌≡◌, ◌≢◌, false, ℕ, ◌∷◌, ◌++◌, ◌&&◌, List, [], length, Bool, refl, sym, subst, ap, ◌∙◌, ◌+◌, ◌<◌, ◌≤◌, take, get_or}
use Rattle.std.specs.List.{AllZip}
use Rattle.std.proofs.lemmas.Option.{same_Some}
use Rattle.std.proofs.lemmas.List.{take_all, take_more}
use Rattle.pl_event.proofs.Lists.{list_all_push, zip_push, zip_through}
use Rattle.pl_context.specs.TailViews.{TailView}
use Rattle.pl_head.specs.Transports.{TransportState}
use Rattle.pl_head.specs.HeadStand.{HeadView}
use Rattle.pl_part.specs.Parts.{ChannelPartView}
use Rattle.pl_channel.specs.Ends.{EndsHold}
use Rattle.pl_channel.specs.PlanStand.{HeadKeepsPlan}
use Rattle.pl_world.specs.declared.report.ChannelReport.{ChannelReport}
use Rattle.pl_world.specs.declared.report.Stands.{Stands}
use Rattle.pl_world.specs.declared.report.Stands.TheVariants as stands
use Rattle.pl_world.specs.Plans.{ChannelPlan, Plan}
use Rattle.pl_world.specs.Reports.{AllKeepToPlan, AllReportPlan, ReportsPlan}
use Rattle.pl_world.proofs.PlannedReports.{report_keeps}
use Rattle.pl_replay.specs.Reported.{AreDrained, HasEnds, HaveEnds, IsPartStands, ReportsItsPlan, is_drained}

-- the next of them, and what goes with it
pub zip_more : {A B : Type 0} (R : A → B → Type 0) (xs : List A) (i : ℕ) (x : A) (ys : List B) (y : B) (zs : List B) → i < length xs → x ≡ get_or xs i x → zs ≡ ys ++ y ∷ []
    → AllZip R (take i xs) ys → R x y → AllZip R (take (i + 1) xs) zs
zip_more R xs i x ys y zs there is pushed all one =
    let taken : take (i + 1) xs ≡ take i xs ++ x ∷ [] = take_more xs i x there ∙ ap (λ z. take i xs ++ z ∷ []) (sym is) in
    rw (taken, pushed) (zip_push R (take i xs) ys x y all one)

-- all of them were taken
pub zip_whole : {A B : Type 0} (R : A → B → Type 0) (xs : List A) (i : ℕ) (ys zs : List B) → length xs ≤ i → zs ≡ ys → AllZip R (take i xs) ys → AllZip R xs zs
zip_whole R xs i ys zs end same all = rw same (subst (λ (front : List _). AllZip R front ys) (take_all i xs end) all)

-- so each keeps to it
pub all_keep : (ps : List ChannelPlan) (rs : List ChannelReport) → AllReportPlan ps rs → AllKeepToPlan ps rs
all_keep [] [] each = tt
all_keep (p ∷ ps) (r ∷ rs) each = (report_keeps p r each.0, all_keep ps rs each.1)
all_keep [] (r ∷ rs) each = elim each [ ]
all_keep (p ∷ ps) [] each = elim each [ ]

module _ {S T : Type 0} (state : T → TransportState) where
  -- the ends of a part are the only ones that it has
  pub reports_its_plan : (part : ChannelPartView S T) (own : HasEnds part) (report : ChannelReport)
      → ((plan : Plan) (number : ℕ) (p : ChannelPlan) → EndsHold state false plan number p own.tail own.head → HeadKeepsPlan state p own.head → ReportsPlan p report)
      → ReportsItsPlan state part report
  reports_its_plan part own report planned plan number p ends held keeps =
      let head = same_Some ends.head own.head (sym ends.has_head ∙ own.has_head) in
      planned plan number p
      (subst (λ (tail : TailView). EndsHold state false plan number p tail own.head) (same_Some ends.tail own.tail (sym ends.has_tail ∙ own.has_tail))
      (subst (λ (head : HeadView T). EndsHold state false plan number p ends.tail head) head held))
      (subst (HeadKeepsPlan state p) head keeps)

  -- each report is one of its channel's plan
  pub all_planned : (plan : Plan) (parts : List (ChannelPartView S T)) (reports : List ChannelReport) → AllZip (ReportsItsPlan state) parts reports → HaveEnds state plan parts → AllReportPlan plan.channels reports
  all_planned plan parts reports each have =
      zip_through (ReportsItsPlan state) ReportsPlan plan.channels parts reports have.count
      (λ c p part planned there r reported. let held = have.each c p part planned there in reported plan c p held.0 held.1 held.2)
      each

  -- the next part is looked at
  pub one_more_drained : (parts : List (ChannelPartView S T)) (i : ℕ) (part : ChannelPartView S T) (b : Bool) (s : Stands) (here : Bool) → i < length parts → part ≡ get_or parts i part → here ≡ is_drained s
      → AreDrained state (take i parts) b → IsPartStands state part s → AreDrained state (take (i + 1) parts) (b && here)
  one_more_drained parts i part b s here there item is so_far one = record {
    stands = so_far.stands ++ s ∷ [];
    each = zip_more (IsPartStands state) parts i part so_far.stands s (so_far.stands ++ s ∷ []) there item refl so_far.each one;
    is = ap (λ (drained : Bool). b && drained) is ∙ ap (λ (drained : Bool). drained && is_drained s) so_far.is ∙ sym (list_all_push is_drained so_far.stands s);
  }

-- only a channel that stands drained is
pub not_drained : (s : Stands) → s ≢ stands.Drained → is_drained s ≡ false
not_drained stands.Drained other = elim (other refl) [ ]
not_drained stands.Open other = refl
not_drained (stands.Failed cause) other = refl
