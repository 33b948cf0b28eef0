-- The stages of a part that holds, each by what its lane carries.
use Rattle.std.proofs.Common.{◌≡◌, ℕ, zero, suc, List, [], ◌∷◌, get_or, Option, Some, None, refl, ap, sym, ◌∙◌, subst}
use Rattle.std.proofs.lemmas.Option.{none-some, same_Some}
use Rattle.pl_event.specs.declared.envelopes.Lane.{Lane}
use Rattle.pl_event.specs.declared.events.Event.{Event}
use Rattle.pl_event.specs.Hops.{data_lane}
use Rattle.pl_event.specs.Meaning.{Meaning}
use Rattle.pl_event.specs.Worlds.{World, content_of}
use Rattle.pl_context.specs.ContextViews.{ContextView}
use Rattle.pl_head.specs.Transports.{TransportState}
use Rattle.pl_part.specs.declared.kept.KeptStage.{KeptStage}
use Rattle.pl_part.specs.LaneStages.{LaneStage}
use Rattle.pl_part.specs.Keeping.{AreLaneStages, kept_stage, kept_stages, part_stages}
use Rattle.pl_part.specs.Parts.{ChannelPartView, PartHolds}

-- a stage that is kept is that of the context at its hop
pub kept-at : {S : Type 0} (contexts : List (Option (ContextView S))) (hop : ℕ) (k : KeptStage S) → get_or (kept_stages contexts) hop None ≡ Some k → (c : ContextView S) × (get_or contexts hop None ≡ Some c) × (k ≡ kept_stage c)
kept-at [] hop k is = absurd (none-some k is)
kept-at (None ∷ contexts) zero k is = absurd (none-some k is)
kept-at (Some c ∷ contexts) zero k is = (c, refl, same_Some k (kept_stage c) (sym is))
kept-at (slot ∷ contexts) (suc hop) k is = kept-at contexts hop k is

module _ {S T : Type 0} (world : World) (meaning : S → Meaning) (stands_after : S → List Event → Type 0) (state : T → TransportState) (p : ChannelPartView S T) (holds : PartHolds world meaning stands_after state p) where
  pub lane-stages : AreLaneStages world stands_after p.path.channel (part_stages p)
  lane-stages = record {
    each = λ hop k is.
        let found = kept-at p.path.contexts hop k is in
        let c = found.0 in
        let stands = holds.path.contexts hop c found.1 in
        let own = stands.0.holds in
        let lane : data_lane c.channel c.hop ≡ data_lane p.path.channel hop = λ i. data_lane (stands.1.channel_is i) (stands.1.hop_is i) in (
          stands.0.events,
          ap (λ (l : Lane). content_of world l) (sym lane) ∙ own.wired.own,
          subst (λ (x : KeptStage S). LaneStage stands_after stands.0.events x.standing x.stage) (sym found.2) own.staged,
        );
  }

  -- however they are written
  pub given-lanes : (stages : List (Option (KeptStage S))) → stages ≡ part_stages p → AreLaneStages world stands_after p.path.channel stages
  given-lanes stages same = subst (λ (l : List (Option (KeptStage S))). AreLaneStages world stands_after p.path.channel l) (sym same) lane-stages
