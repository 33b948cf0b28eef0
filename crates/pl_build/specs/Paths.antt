-- What is true of each pipeline that is being built, and of each that was built.
use Rattle.std.specs.Prelude.{◌≡◌, ◌+◌, ◌≤◌, List, [], length, All, true, false, count_by}
use Rattle.pl_event.specs.declared.events.Event.{Event}
use Rattle.pl_event.specs.Meaning.{Meaning}
use Rattle.pl_event.specs.Paths.{is_outbound, is_turn}
use Rattle.pl_build.specs.declared.limits.TheConstants.{MAX_HANDLERS, MAX_MARK}
use Rattle.pl_build.specs.Pipelines.{PipelineBuilderView, PlacedView, AreNew}

-- What holds of a pipeline that is being built: no stage has had a step. There are not too many handlers, and the
-- marks are in order.
pub record IsPipeline {S : Type 0} (stands_after : S → List Event → Type 0) (pipeline : PipelineBuilderView S) : Type 0 where
  pub stages : AreNew stands_after pipeline.handlers
  pub within : length pipeline.handlers ≤ MAX_HANDLERS
  pub order : pipeline.low ≤ pipeline.high
  pub high : pipeline.high ≤ MAX_MARK

-- What holds of a pipeline that is built: just one turn inbound, and outbound handlers alone outbound. No stage of
-- the two chains has had a step, the inbound one has not one outbound handler, and there is an executor for each hop.
pub record IsPath {S : Type 0} (meaning : S → Meaning) (stands_after : S → List Event → Type 0) (path : PlacedView S) : Type 0 where
  pub inbound : All (λ stage. stands_after stage []) path.inbound
  pub outbound : All (λ stage. stands_after stage []) path.outbound
  pub upwards : All (λ stage. is_outbound (meaning stage).direction ≡ false) path.inbound
  pub downwards : All (λ stage. is_outbound (meaning stage).direction ≡ true) path.outbound
  pub turn : count_by (λ stage. is_turn (meaning stage).direction) path.inbound ≡ 1
  pub within : length path.inbound + length path.outbound ≤ MAX_HANDLERS
  pub hops : length path.executors ≡ length path.inbound + length path.outbound + 2
  pub order : path.low ≤ path.high
  pub high : path.high ≤ MAX_MARK

-- The two chains of a pipeline that was built are its handlers. None of them has had a step. Inbound there is one turn,
-- and no outbound handler; outbound there are no others.
pub record AreChains {S : Type 0} (meaning : S → Meaning) (stands_after : S → List Event → Type 0) (path : PlacedView S) (up down : List S) : Type 0 where
  pub inbound : up ≡ path.inbound
  pub outbound : down ≡ path.outbound
  pub new_inbound : All (λ stage. stands_after stage []) up
  pub new_outbound : All (λ stage. stands_after stage []) down
  pub upwards : All (λ stage. is_outbound (meaning stage).direction ≡ false) up
  pub downwards : All (λ stage. is_outbound (meaning stage).direction ≡ true) down
  pub turn : count_by (λ stage. is_turn (meaning stage).direction) up ≡ 1
