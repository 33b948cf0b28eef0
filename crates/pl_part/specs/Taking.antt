-- What a node answers to the next item of one of its lanes, what it puts out, and how it stands then; and what a context does
-- when a lane that it writes is refused.
use Rattle.std.specs.Prelude.{◌≡◌, List, Bool, true, false}
use Rattle.pl_event.specs.declared.events.Event.{Event}
use Rattle.pl_event.specs.declared.envelopes.Envelope.{Envelope}
use Rattle.pl_event.specs.declared.envelopes.Kind.{Kind}
use Rattle.pl_event.specs.declared.envelopes.Kind.TheVariants.{Data, Flags}
use Rattle.pl_event.specs.declared.outcomes.Cause.TheVariants.{Refused}
use Rattle.pl_event.specs.Meaning.{Meaning}
use Rattle.pl_context.specs.declared.standing.Standing.TheVariants as standings
use Rattle.pl_context.specs.declared.standing.Took.{Took}
use Rattle.pl_context.specs.declared.standing.Took.TheVariants as took
use Rattle.pl_context.specs.Standings.{is_over, has_failed}
use Rattle.pl_context.specs.ContextViews.{ContextView}
use Rattle.pl_context.specs.Contexts.{TakesItem, TakesFlag, GivesLast, counted}
use Rattle.pl_context.specs.OutputsViews.{OutputsView}
use Rattle.pl_context.specs.TailViews.{TailView, RecordsItem, RecordsFlagItem, counted as tail_counted}

module _ {S : Type 0} (meaning : S → Meaning) (stands_after : S → List Event → Type 0) (is_spent : S → Bool) where
  -- An open context puts out what its stage makes of the item. One that has ended hands flags on, and nothing else. One that has
  -- failed puts out nothing.
  pub record ContextTakes (c : ContextView S) (e : Envelope) (before : OutputsView) (answer : Took) (c' : ContextView S) (after : OutputsView) : Type 0 where
    pub meant : meaning c'.stage ≡ meaning c.stage
    pub open_item : e.lane.kind ≡ Data → c.standing ≡ standings.Open → TakesItem meaning stands_after is_spent (counted Data c) e.item before answer c' after
    pub ended : e.lane.kind ≡ Data → c.standing ≡ standings.Ended → (answer ≡ took.Ran) × (c' ≡ counted Data c) × (after ≡ before)
    pub flags : e.lane.kind ≡ Flags → has_failed c.standing ≡ false → TakesFlag (counted Flags c) e.item before answer c' after
    pub dropped : has_failed c.standing ≡ true → (answer ≡ took.Dropped) × (c' ≡ counted e.lane.kind c) × (after ≡ before)

-- A lane of this kind that it writes is refused. Of a data lane an open context fails, with `Refused` and by a call, and gives
-- each of its open data lanes that failure; one that has ended or failed is as it was. A flag is dropped, and nothing else.
pub record ContextRefused {S : Type 0} (k : Kind) (c : ContextView S) (before : OutputsView) (c' : ContextView S) (after : OutputsView) : Type 0 where
  pub fails : k ≡ Data → c.standing ≡ standings.Open → GivesLast (standings.Failed Refused) (record c { failed_by_call = true }) before c' after
  pub over : is_over c.standing ≡ true → (c' ≡ c) × (after ≡ before)
  pub flag : k ≡ Flags → (c' ≡ c) × (after ≡ before)

-- An open tail records the item. One that has ended records flags, and nothing else. One that has failed records nothing. None
-- hands its record over.
pub record TailTakes (t : TailView) (e : Envelope) (answer : Took) (t' : TailView) : Type 0 where
  pub handed : t'.handed ≡ t.handed
  pub open_item : e.lane.kind ≡ Data → t.standing ≡ standings.Open → RecordsItem (tail_counted Data t) e.item answer t'
  pub ended : e.lane.kind ≡ Data → t.standing ≡ standings.Ended → (answer ≡ took.Ran) × (t' ≡ tail_counted Data t)
  pub flags : e.lane.kind ≡ Flags → has_failed t.standing ≡ false → (answer ≡ took.Ran) × RecordsFlagItem (tail_counted Flags t) e.item t'
  pub dropped : has_failed t.standing ≡ true → (answer ≡ took.Dropped) × (t' ≡ tail_counted e.lane.kind t)
