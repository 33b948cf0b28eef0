-- A plan of which one channel has one burst more.
use Rattle.std.proofs.Common.{◌≡◌, ◌≢◌, ℕ, zero, suc, ◌+◌, ◌<◌, ◌^◌, List, [], ◌∷◌, length, Some, refl, sym, ap, subst, ◌∙◌, inl, inr}
use Rattle.std.specs.Prelude.{slice_get, All}
use Rattle.std.specs.List.{sum_by}
use Rattle.std.proofs.lemmas.Bool.Decides.{eqb_tells}
use Rattle.std.proofs.lemmas.List.Sums.{sum_by-cons}
use Rattle.std.proofs.lemmas.Option.{none-some, same_Some}
use Rattle.pl_event.specs.declared.elements.Element.{Element}
use Rattle.pl_event.proofs.Lists.{All-at, All-from-at}
use Rattle.pl_world.specs.Plans.{ChannelPlan, Plan, planned_head_hop}
use Rattle.pl_world.specs.PlanRules.{IsChannelPlan, IsPlan, IsSmallChannel, IsSmallPlan}
use Rattle.pl_channel.specs.Feeding.{fed_channel, fed_channels, plan_fed}

module _ (burst : List Element) where
  pub fed-at : (number : ℕ) (ps : List ChannelPlan) (p : ChannelPlan) → slice_get ps number ≡ Some p → slice_get (fed_channels number burst ps) number ≡ Some (fed_channel burst p)
  fed-at number [] p at = absurd (none-some p at)
  fed-at zero (q ∷ ps) p at = ap (λ (x : ChannelPlan). Some (fed_channel burst x)) (same_Some q p at)
  fed-at (suc number) (q ∷ ps) p at = fed-at number ps p at

  pub others-at : (number other : ℕ) (ps : List ChannelPlan) → other ≢ number → slice_get (fed_channels number burst ps) other ≡ slice_get ps other
  others-at number other [] off = refl
  others-at zero zero (q ∷ ps) off = absurd (off refl)
  others-at zero (suc other) (q ∷ ps) off = refl
  others-at (suc number) zero (q ∷ ps) off = refl
  others-at (suc number) (suc other) (q ∷ ps) off = others-at number other ps (λ e. off (ap suc e))

  pub fed-count : (number : ℕ) (ps : List ChannelPlan) → length (fed_channels number burst ps) ≡ length ps
  fed-count number [] = refl
  fed-count zero (q ∷ ps) = refl
  fed-count (suc number) (q ∷ ps) = ap suc (fed-count number ps)

  -- it has as many lanes
  fed-lanes : (number : ℕ) (ps : List ChannelPlan) → sum_by (λ (p : ChannelPlan). planned_head_hop p + 1) (fed_channels number burst ps) ≡ sum_by (λ (p : ChannelPlan). planned_head_hop p + 1) ps
  fed-lanes number [] = refl
  fed-lanes zero (q ∷ ps) = refl
  fed-lanes (suc number) (q ∷ ps) =
      let lanes = λ (p : ChannelPlan). planned_head_hop p + 1 in
      sum_by-cons lanes q (fed_channels number burst ps) ∙ ap (λ (n : ℕ). lanes q + n) (fed-lanes number ps) ∙ sym (sum_by-cons lanes q ps)

  fed-ruled : (executors : ℕ) (p : ChannelPlan) → IsChannelPlan executors p → IsChannelPlan executors (fed_channel burst p)
  fed-ruled executors p is = record {
    upwards = is.upwards;
    turn = is.turn;
    downwards = is.downwards;
    lawful_inbound = is.lawful_inbound;
    lawful_outbound = is.lawful_outbound;
    hops = is.hops;
    marks = is.marks;
    placed = is.placed;
  }

  module _ (number : ℕ) (plan : Plan) (p : ChannelPlan) (at : slice_get plan.channels number ≡ Some p) where
    -- what the fed channel and the others have, all have
    all-fed : (P : ChannelPlan → Type 0) → P (fed_channel burst p) → All P plan.channels → All P (fed_channels number burst plan.channels)
    all-fed P own all = All-from-at P (fed_channels number burst plan.channels) (λ d q is. elim (eqb_tells d number) [
      | inl here ↦ subst P (same_Some (fed_channel burst p) q (sym (fed-at number plan.channels p at) ∙ (λ i. slice_get (fed_channels number burst plan.channels) (sym here.1 i)) ∙ is)) own
      | inr there ↦ All-at P plan.channels d q all (sym (others-at number d plan.channels there.1) ∙ is)
    ])

    pub plan-ruled : IsPlan plan → IsPlan (plan_fed number burst plan)
    plan-ruled is = record {
      channels = all-fed (IsChannelPlan plan.executors) (fed-ruled plan.executors p (All-at (IsChannelPlan plan.executors) plan.channels number p is.channels at)) is.channels;
      capacity = is.capacity;
    }

    pub plan-small : IsSmallChannel (fed_channel burst p) → IsSmallPlan plan → IsSmallPlan (plan_fed number burst plan)
    plan-small own is = record {
      channels = all-fed IsSmallChannel own is.channels;
      lanes = subst (λ (n : ℕ). n < 2 ^ 16) (sym (fed-lanes number plan.channels)) is.lanes;
    }
