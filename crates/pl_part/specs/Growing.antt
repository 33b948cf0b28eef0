-- A channel that is fed a burst: its part with that burst to read, between a world and one in which its lanes carry more.
use Rattle.std.specs.Prelude.{◌≡◌, ℕ, ◌+◌, ◌<◌, true, List, ◌++◌, length, Some}
use Rattle.std.specs.Option.{option_map}
use Rattle.pl_event.specs.declared.elements.Element.{Element}
use Rattle.pl_event.specs.declared.events.Event.{Event}
use Rattle.pl_event.specs.Hops.{data_lane}
use Rattle.pl_event.specs.Inputs.{burst_events}
use Rattle.pl_event.specs.Meaning.{Meaning}
use Rattle.pl_event.specs.Worlds.{World, content_of}
use Rattle.pl_context.specs.declared.standing.Standing.TheVariants as standings
use Rattle.pl_context.specs.ContextViews.{ContextView}
use Rattle.pl_context.specs.TailViews.{TailView}
use Rattle.pl_head.specs.HeadStand.{HeadView, fed_head}
use Rattle.pl_head.specs.InputStand.{takes_bursts}
use Rattle.pl_part.specs.ContextHolds.{IsPlanned}
use Rattle.pl_part.specs.Paths.{context_at}
use Rattle.pl_part.specs.Parts.{ChannelPartView, head_hop}
use Rattle.pl_event.specs.declared.limits.TheConstants.{MAX_ITEMS}

-- a part whose head, where that is among its nodes, is to read one burst more
abbrev pub fed_part : {S T : Type 0} → List Element → ChannelPartView S T → ChannelPartView S T
fed_part burst p = record p { head = option_map (fed_head burst) p.head }

-- a lane carries in another world what it carries in this one, and nothing else
abbrev pub CarriesSame : World → World → ℕ → ℕ → Type 0
CarriesSame world world' channel hop = content_of world' (data_lane channel hop) ≡ content_of world (data_lane channel hop)

-- Each data lane of a channel carries in another world just what it carries in this one. Lanes may fail there for the same causes.
pub record CarriesAll (world world' : World) (channel : ℕ) : Type 0 where
  pub lanes : (hop : ℕ) (events : List Event) → content_of world (data_lane channel hop) ≡ Some events → content_of world' (data_lane channel hop) ≡ Some events
  pub refuses : world'.refuses ≡ world.refuses

-- Each data lane of a channel carries in another world what it carries in this one, with more behind it or nothing, and is
-- short there too. Lanes may fail there for the same causes.
pub record CarriesMore (world world' : World) (channel : ℕ) : Type 0 where
  pub lanes : (hop : ℕ) (events : List Event) → content_of world (data_lane channel hop) ≡ Some events
      → (rest : List Event) × (content_of world' (data_lane channel hop) ≡ Some (events ++ rest)) × (length (events ++ rest) + 1 < MAX_ITEMS)
  pub refuses : world'.refuses ≡ world.refuses

-- A part may be fed this burst between two worlds. The lanes of its channel carry more in the second, and the first of them
-- this burst behind what it carries; and there too each of its contexts makes of its lane what the next lanes carry. The lane
-- of a node that has ended carries no more there. A burst more may come.
pub record MayBeFed {S T : Type 0} (world world' : World) (meaning : S → Meaning) (burst : List Element) (p : ChannelPartView S T) : Type 0 where
  pub more : CarriesMore world world' p.path.channel
  pub input : (events : List Event) → content_of world (data_lane p.path.channel 0) ≡ Some events → content_of world' (data_lane p.path.channel 0) ≡ Some (events ++ burst_events burst)
  pub contexts : (hop : ℕ) (c : ContextView S) → context_at p.path hop ≡ Some c → (events : List Event) × IsPlanned world' (meaning c.stage) events p.path.channel hop p.path.tail_hop
  pub context_ended : (hop : ℕ) (c : ContextView S) → context_at p.path hop ≡ Some c → c.standing ≡ standings.Ended → CarriesSame world world' p.path.channel hop
  pub tail_ended : (t : TailView) → p.path.tail ≡ Some t → t.standing ≡ standings.Ended → CarriesSame world world' p.path.channel p.path.tail_hop
  pub head_ended : (h : HeadView T) → p.head ≡ Some h → h.standing ≡ standings.Ended → CarriesSame world world' p.path.channel (head_hop p)
  pub reads : (h : HeadView T) → p.head ≡ Some h → takes_bursts h.input ≡ true
