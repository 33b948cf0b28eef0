-- Which items may stand at a number: a failure wherever an item does, an end behind the last event.
use Rattle.std.proofs.Common.{◌≡◌, ℕ, zero, suc, ◌≤◌, ◌<◌, ◌+◌, List, [], ◌∷◌, length, slice_get, Some, true, refl, sym, ap, subst, arith}
use Rattle.pl_event.specs.declared.envelopes.Envelope.{Envelope}
use Rattle.pl_event.specs.declared.envelopes.Item.{Item}
use Rattle.pl_event.specs.declared.envelopes.Item.TheVariants as item
use Rattle.pl_event.specs.declared.envelopes.Kind.{Kind}
use Rattle.pl_event.specs.declared.envelopes.Kind.TheVariants.{Data, Flags}
use Rattle.pl_event.specs.declared.envelopes.Lane.{Lane}
use Rattle.pl_event.specs.declared.events.Event.{Event}
use Rattle.pl_event.specs.declared.outcomes.Cause.{Cause}
use Rattle.pl_event.specs.Fitting.{Fits}
use Rattle.pl_event.specs.Worlds.{World, FitsAsKind, FitsWorld, MayCome, content_of, may_fail}
use Rattle.pl_context.specs.OutputsViews.{failure_of, stand_in}
use Rattle.pl_flow.specs.Flows.{IsGood}
use Rattle.pl_event.specs.declared.limits.TheConstants.{MAX_ITEMS}

within : (events : List Event) (n : ℕ) (e : Event) → slice_get events n ≡ Some e → n ≤ length events
within [] n e at = cc
within (x ∷ xs) zero e at = omega arith
within (x ∷ xs) (suc n) e at = let h = within xs n e at in omega (arith, h)

failure-fits : (events : List Event) (n : ℕ) (i : Item) → Fits events n i → Fits events n (failure_of i)
failure-fits events n (item.Event e) f = within events n e f
failure-fits events n item.End f = omega (arith, f)
failure-fits events n (item.Fail c) f = f
failure-fits events n (item.Flag b) f = absurd f

failure-comes : (world : World) (i : Item) → MayCome world i → MayCome world (failure_of i)
failure-comes world (item.Event e) m = refl
failure-comes world item.End m = refl
failure-comes world (item.Fail c) m = m
failure-comes world (item.Flag b) m = refl

-- where an item of a data lane may stand, so may the failure that takes its place
pub stand_in-good : (world : World) (x : Envelope) → x.lane.kind ≡ Data → IsGood world x → IsGood world (record x { item = failure_of x.item })
unfolding FitsWorld
stand_in-good world x kind good =
    let f = subst (λ k. FitsAsKind world k x) kind good.fits in record {
      fits = subst (λ k. FitsAsKind world k (record x { item = failure_of x.item })) (sym kind) (f.0, f.1, failure-fits f.0 x.number x.item f.2, failure-comes world x.item f.3);
      small = good.small;
    }

-- what takes the place of an item: on a data lane a failure, on a flags lane nothing
pub stand_in-data : (x : Envelope) → x.lane.kind ≡ Data → stand_in x ≡ record x { item = failure_of x.item } ∷ []
stand_in-data x kind = ap (λ (k : Kind). elim k as (λ (z : Kind). List Envelope) [ Data ↦ record x { item = failure_of x.item } ∷ [] | Flags ↦ [] ]) kind

pub stand_in-flags : (x : Envelope) → x.lane.kind ≡ Flags → stand_in x ≡ []
stand_in-flags x kind = ap (λ (k : Kind). elim k as (λ (z : Kind). List Envelope) [ Data ↦ record x { item = failure_of x.item } ∷ [] | Flags ↦ [] ]) kind

module _ (world : World) (lane : Lane) (events : List Event) (n : ℕ) (kind : lane.kind ≡ Data) (content : content_of world lane ≡ Some events) (few : length events + 1 < MAX_ITEMS) where
  -- a failure may stand up to the end of its lane
  pub failure-good : (cause : Cause) → may_fail world cause ≡ true → n ≤ length events → IsGood world (record { lane = lane; number = n; item = item.Fail cause })
  unfolding FitsWorld
  failure-good cause may early = record {
    fits = subst (λ k. FitsAsKind world k (record { lane = lane; number = n; item = item.Fail cause })) (sym kind) (events, content, early, may);
    small = omega (arith, early, few);
  }

  -- an end stands behind the last event
  pub end-good : n ≡ length events → IsGood world (record { lane = lane; number = n; item = item.End })
  unfolding FitsWorld
  end-good last = record {
    fits = subst (λ k. FitsAsKind world k (record { lane = lane; number = n; item = item.End })) (sym kind) (events, content, last, tt);
    small = omega (arith, last, few);
  }
