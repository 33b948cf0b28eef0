-- An item that may stand in its lane is the next of what that lane carries.
use Rattle.std.proofs.Common.{◌≡◌, ℕ, ◌+◌, ◌<◌, List, length, Some, refl, ap, sym, ◌∙◌, subst, arith}
use Rattle.std.proofs.lemmas.Option.{same_Some}
use Rattle.pl_event.specs.declared.events.Event.{Event}
use Rattle.pl_event.specs.declared.envelopes.Envelope.{Envelope}
use Rattle.pl_event.specs.declared.envelopes.Kind.{Kind}
use Rattle.pl_event.specs.declared.envelopes.Kind.TheVariants.{Data, Flags}
use Rattle.pl_event.specs.Hops.{data_lane}
use Rattle.pl_event.specs.Fitting.{Fits, FitsAsFlag}
use Rattle.pl_event.specs.Worlds.{World, FitsWorld, FitsAsKind, MayCome, content_of}
use Rattle.pl_context.specs.ContextViews.{number_limit}
use Rattle.pl_flow.specs.Flows.{IsGood}
use Rattle.pl_part.proofs.EventLists.{fits-within}
use Rattle.pl_event.specs.declared.limits.TheConstants.{MAX_ITEMS}

module _ (world : World) (e : Envelope) (good : IsGood world e) where
  pub flag-fits : e.lane.kind ≡ Flags → (n : ℕ) → e.number ≡ n → FitsAsFlag n e.item
  unfolding FitsWorld
  flag-fits is n number = subst (λ m. FitsAsFlag m e.item) number (subst (λ k. FitsAsKind world k e) is good.fits)

  pub data-may : e.lane.kind ≡ Data → MayCome world e.item
  unfolding FitsWorld
  data-may is = (subst (λ k. FitsAsKind world k e) is good.fits).3

  module _ (channel hop : ℕ) (in_channel : e.lane.channel ≡ channel) (at_hop : e.lane.hop ≡ hop) (events : List Event) (own : content_of world (data_lane channel hop) ≡ Some events) (n : ℕ) where
    pub data-fits : e.lane.kind ≡ Data → e.number ≡ n → Fits events n e.item
    unfolding FitsWorld
    data-fits is number =
        let lane : e.lane ≡ data_lane channel hop = (λ i. record { channel = in_channel i; kind = is i; hop = at_hop i }) in
        let f = subst (λ k. FitsAsKind world k e) is good.fits in
        let all : f.0 ≡ events = same_Some f.0 events (sym f.1 ∙ ap (λ l. content_of world l) lane ∙ own) in
        subst (λ (y : List Event × ℕ). Fits y.0 y.1 e.item) (λ i. (all i, number i)) f.2

    -- its number is below the limit of its kind
    pub within-limit : length events + 1 < MAX_ITEMS → (e.lane.kind ≡ Data → e.number ≡ n) → e.number < number_limit e.lane.kind
    within-limit few number = by e.lane.kind refl
      where
        by : (k : Kind) → e.lane.kind ≡ k → e.number < number_limit k
        by Data is =
            let within = fits-within events n e.item (data-fits is (number is)) in
            let same = number is in
            omega (arith, within, few, same)
        by Flags is = good.small
