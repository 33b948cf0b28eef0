-- Contexts: how one stands after a list of events, and what it puts out.
use Rattle.std.specs.Prelude.{◌≡◌, ◌+◌, ◌≤◌, ◌<◌, List, [], ◌∷◌, ◌++◌, length, Bool, true, false}
use Rattle.pl_event.specs.declared.events.Event.{Event}
use Rattle.pl_event.specs.declared.outcomes.Cause.TheVariants.{Memory}
use Rattle.pl_event.specs.declared.envelopes.Kind.{Kind}
use Rattle.pl_event.specs.declared.envelopes.Kind.TheVariants.{Data, Flags}
use Rattle.pl_event.specs.declared.envelopes.Item.{Item}
use Rattle.pl_event.specs.declared.envelopes.Item.TheVariants as item
use Rattle.pl_event.specs.declared.envelopes.Envelope.{Envelope}
use Rattle.pl_event.specs.declared.stages.Changed.{Changed}
use Rattle.pl_event.specs.Meaning.{Meaning, up_of, down_of, turned_after}
use Rattle.pl_event.specs.Changes.{changed_up, changed_down}
use Rattle.pl_context.specs.declared.ports.Port.{Port}
use Rattle.pl_context.specs.declared.standing.Standing.{Standing}
use Rattle.pl_context.specs.declared.standing.Standing.TheVariants as standings
use Rattle.pl_context.specs.declared.standing.Took.{Took}
use Rattle.pl_context.specs.declared.standing.Took.TheVariants as took
use Rattle.pl_context.specs.Standings.{has_failed}
use Rattle.pl_context.specs.OutputsViews.{OutputsView, PutsAll, Appends}
use Rattle.pl_context.specs.Ports.{as_items, end_after, offered, put_out, port_after, FlagPasses}
use Rattle.pl_context.specs.ContextViews.{ContextView, SameNode}
use Rattle.pl_event.specs.declared.limits.TheConstants.{MAX_ITEMS}

-- What a stage makes of an event x after the events xs, as items of its two lanes: its end goes down where it has quit.
abbrev pub ups : Meaning → List Event → Event → List Item
ups m xs x = as_items (m.up xs x)

abbrev pub downs : Meaning → List Event → Event → List Item
downs m xs x = as_items (m.down xs x) ++ end_after (turned_after m (xs ++ x ∷ []))

-- the last item of the lanes of a context that comes to stand so
abbrev pub last_item : Standing → Item
last_item standings.Open = item.End
last_item standings.Ended = item.End
last_item (standings.Failed cause) = item.Fail cause

-- what both lanes are offered, the lane upwards first
abbrev pub offers : Port → Port → List Item → List Item → List Envelope
offers up down above below = offered up above ++ offered down below

-- Both ports, the lane upwards and the one downwards, were given these items, and the list had room for all of them: those
-- that go up come first.
pub record PutsBoth (above below : List Item) (p q : Port) (before : OutputsView) (p' q' : Port) (after : OutputsView) : Type 0 where
  pub up : p' ≡ port_after above p
  pub down : q' ≡ port_after below q
  pub out : Appends before (put_out before.stopped p above ++ put_out before.stopped q below) after

-- There is not room for all of these items, and nothing is put out.
pub record PutsNone (above below : List Item) (p q : Port) (before : OutputsView) (p' q' : Port) (after : OutputsView) : Type 0 where
  pub up : p' ≡ p
  pub down : q' ≡ q
  pub items : after.items ≡ before.items
  pub stopped : after.stopped ≡ before.stopped
  pub room : before.room ≤ after.room
  pub why : before.room < length (offers p q above below)

-- a context that took one item more, of this kind
abbrev pub counted : {S : Type 0} → Kind → ContextView S → ContextView S
counted Data c = record c { taken = c.taken + 1 }
counted Flags c = record c { flags_taken = c.flags_taken + 1 }

-- a context has ended or failed: both lanes were given their last item
abbrev pub closed : {S : Type 0} → Standing → ContextView S → ContextView S
closed standing c =
    record c { standing = standing; up = port_after (last_item standing ∷ []) c.up; down = port_after (last_item standing ∷ []) c.down }

module _ {S : Type 0} (meaning : S → Meaning) (stands_after : S → List Event → Type 0) where
  -- A stage with its two ports stands after these events, and each open port was given what the stage makes of them.
  pub record PartsStand (stage : S) (up down : Port) (xs : List Event) : Type 0 where
    pub stands : stands_after stage xs
    pub above : up.is_open ≡ true → up.made ≡ length (up_of (meaning stage) xs)
    pub below : down.is_open ≡ true → down.made ≡ length (down_of (meaning stage) xs)

  -- a context that is open stands after these events
  abbrev pub StandsAfter : ContextView S → List Event → Type 0
  StandsAfter c xs = PartsStand c.stage c.up c.down xs

  -- What an event after these makes has numbers below 2^31.
  pub record IsSmall (stage : S) (up down : Port) (xs : List Event) (x : Event) : Type 0 where
    pub stands : stands_after stage xs
    pub above : up.is_open ≡ true → up.made + length (ups (meaning stage) xs x) ≤ MAX_ITEMS
    pub below : down.is_open ≡ true → down.made + length (downs (meaning stage) xs x) ≤ MAX_ITEMS

  -- An event was run: after whichever events the context stood, it has put out what its stage makes of this one, with
  -- the next numbers, and stands after those and this one.
  pub record Runs (c : ContextView S) (x : Event) (before : OutputsView) (c' : ContextView S) (after : OutputsView) : Type 0 where
    pub same : c' ≡ record c { stage = c'.stage; up = c'.up; down = c'.down }
    pub up : (xs : List Event) → stands_after c.stage xs → c'.up ≡ port_after (ups (meaning c.stage) xs x) c.up
    pub down : (xs : List Event) → stands_after c.stage xs → c'.down ≡ port_after (downs (meaning c.stage) xs x) c.down
    pub out : (xs : List Event) → stands_after c.stage xs →
        Appends before (put_out before.stopped c.up (ups (meaning c.stage) xs x) ++ put_out before.stopped c.down (downs (meaning c.stage) xs x)) after
    pub stage : (xs : List Event) → stands_after c.stage xs → stands_after c'.stage (xs ++ x ∷ [])
    pub stands : (xs : List Event) → StandsAfter c xs → StandsAfter c' (xs ++ x ∷ [])

  -- A stage took an event and changed it in its place: what stands there then goes this way, and besides these go down.
  pub record ChangesOne (stage : S) (x : Event) (way : Changed) (stage' : S) (x' : Event) (made : List Event) : Type 0 where
    pub up : (xs : List Event) → stands_after stage xs → (meaning stage).up xs x ≡ changed_up way x'
    pub down : (xs : List Event) → stands_after stage xs → (meaning stage).down xs x ≡ changed_down way x' ++ made
    pub stays_open : (xs : List Event) → stands_after stage xs → (meaning stage).ended (xs ++ x ∷ []) ≡ false
    pub stands : (xs : List Event) → stands_after stage xs → stands_after stage' (xs ++ x ∷ [])

  -- the same of an item, which is an event, and of what stands in its place
  abbrev pub ChangesItem : S → Item → Changed → S → Item → List Event → Type 0
  ChangesItem stage i way stage' i' made =
      (x : Event) × (x' : Event) × (i ≡ item.Event x) × (i' ≡ item.Event x') × ChangesOne stage x way stage' x' made

-- A context ends or fails: both lanes are given their last item. The lane upwards comes first.
pub record GivesLast {S : Type 0} (standing : Standing) (c : ContextView S) (before : OutputsView) (c' : ContextView S) (after : OutputsView) : Type 0 where
  pub context : c' ≡ closed standing c
  pub out : PutsAll before (offers c.up c.down (last_item standing ∷ []) (last_item standing ∷ [])) after

module _ {S : Type 0} (meaning : S → Meaning) (stands_after : S → List Event → Type 0) (is_spent : S → Bool) where
  -- An event failed its context, out of memory: the stage met a fault, or there was not room for what it makes.
  pub record RunsOut (c : ContextView S) (x : Event) (before : OutputsView) (c' : ContextView S) (after : OutputsView) : Type 0 where
    pub closes : GivesLast (standings.Failed Memory) (record c { stage = c'.stage }) before c' after
    pub why : is_spent c'.stage ≡ false → (xs : List Event) → stands_after c.stage xs →
        before.room < length (offers c.up c.down (ups (meaning c.stage) xs x) (downs (meaning c.stage) xs x))

  -- what an open context answers to an event, and how it stands then
  abbrev pub TakesEvent : ContextView S → Event → OutputsView → Took → ContextView S → OutputsView → Type 0
  TakesEvent c x before took.Ran c' after = Runs meaning stands_after c x before c' after
  TakesEvent c x before (took.Failed cause) c' after = (cause ≡ Memory) × RunsOut c x before c' after
  TakesEvent c x before took.Ended c' after = ⊥
  TakesEvent c x before took.Dropped c' after = ⊥

  -- What an open context answers to a data item (ChannelHandlerContext). (A flag does not stand on its data lane, and
  -- nothing comes of it.)
  abbrev pub TakesItem : ContextView S → Item → OutputsView → Took → ContextView S → OutputsView → Type 0
  TakesItem c (item.Event x) before answer c' after = TakesEvent c x before answer c' after
  TakesItem c item.End before answer c' after = (answer ≡ took.Ended) × GivesLast standings.Ended c before c' after
  TakesItem c (item.Fail cause) before answer c' after = (answer ≡ took.Failed cause) × GivesLast (standings.Failed cause) c before c' after
  TakesItem c (item.Flag value) before answer c' after = (answer ≡ took.Ran) × (c' ≡ c) × (after ≡ before)

  -- What a context, which has counted it, does with a data item: one that is open takes it, and fails by an event where its
  -- stage is spent; one that has ended, or has failed, is as it was.
  pub record TakesData (c : ContextView S) (i : Item) (before : OutputsView) (answer : Took) (c' : ContextView S) (after : OutputsView) : Type 0 where
    pub same_meaning : meaning c'.stage ≡ meaning c.stage
    pub same_node : SameNode c c'
    pub takes : c.standing ≡ standings.Open → TakesItem c i before answer c' after
    pub spent : c.standing ≡ standings.Open → is_spent c.stage ≡ true → (x : Event) → i ≡ item.Event x → answer ≡ took.Failed Memory
    pub ended : c.standing ≡ standings.Ended → (answer ≡ took.Ran) × (c' ≡ c) × (after ≡ before)
    pub dropped : has_failed c.standing ≡ true → (answer ≡ took.Dropped) × (c' ≡ c) × (after ≡ before)

-- the numbers that an item makes are small
abbrev pub MakesFew : {S : Type 0} → (S → Meaning) → (S → List Event → Type 0) → ContextView S → Item → Type 0
MakesFew meaning stands_after c (item.Event x) = (xs : List Event) × IsSmall meaning stands_after c.stage c.up c.down xs x
MakesFew meaning stands_after c item.End = Unit {0}
MakesFew meaning stands_after c (item.Fail cause) = Unit {0}
MakesFew meaning stands_after c (item.Flag value) = Unit {0}

-- What a context answers to a flag (ChannelInboundHandler). It has not failed, and hands the flag on. (Nothing comes
-- of any other item, which does not stand on a flags lane.)
abbrev pub TakesFlag : {S : Type 0} → ContextView S → Item → OutputsView → Took → ContextView S → OutputsView → Type 0
TakesFlag c (item.Flag value) before answer c' after =
    (answer ≡ took.Ran) × (c' ≡ record c { flags = c'.flags }) × FlagPasses c.flags value before c'.flags after
TakesFlag c (item.Event x) before answer c' after = (answer ≡ took.Ran) × (c' ≡ c) × (after ≡ before)
TakesFlag c item.End before answer c' after = (answer ≡ took.Ran) × (c' ≡ c) × (after ≡ before)
TakesFlag c (item.Fail cause) before answer c' after = (answer ≡ took.Ran) × (c' ≡ c) × (after ≡ before)
