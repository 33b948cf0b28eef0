use Rattle.std.proofs.Common.{◌≡◌, ◌-◌, ◌++◌, ◌∷◌, [], List, None, false, sym, ap, subst, ◌∙◌}
use Rattle.pl_event.specs.declared.events.Event.{Event}
use Rattle.pl_world.specs.Plans.{channel_planned}
use Rattle.pl_world.specs.Worlds.{recorded}
use Rattle.pl_live.specs.declared.live.TheConstants.{MAX_FED}
use Rattle.pl_live.specs.LiveStand.{LiveStands}
use Rattle.pl_live.proofs.LiveStarts.{is-allowed, starts-from}
use Rattle.pl_live.proofs.live.Live.new.Goals as goal
use Rattle.pl_live.proofs.live.Live.new.Goals.{After-into_stations}

-- its world has this channel alone
pipelines : (g : _) (c : After-into_stations g) → c.push.new.self ≡ c.args.pipeline ∷ []
pipelines g c = c.in_ok-push.ensures.items ∙ ap (λ (l : List _). l ++ c.args.pipeline ∷ []) c.new-pipelines.ensures

inputs : (g : _) (c : After-into_stations g) → c.push-2.new.self ≡ record { bursts = []; abort_after = None } ∷ []
inputs g c = c.in_ok-push-2.ensures.items ∙ (λ i. c.new-inputs.ensures i ++ record { bursts = c.new.ensures i; abort_after = None } ∷ [])

transports : (g : _) (c : After-into_stations g) → c.push-3.new.self ≡ c.args.transport ∷ []
transports g c = c.in_ok-push-3.ensures.items ∙ ap (λ (l : List _). l ++ c.args.transport ∷ []) c.new-transports.ensures

alone : (g : _) (c : After-into_stations g) → c.in_ok-world.world.channels ≡ (record { pipeline = c.args.pipeline; input = record { bursts = []; abort_after = None }; transport = c.args.transport }) ∷ []
alone g c = c.in_ok-world.ensures.answers.channels ∙ (λ i. recorded (pipelines g c i) (inputs g c i) (transports g c i))

begun : (g : _) (c : After-into_stations g) → LiveStands g.S.Stage.meaning g.S.Stage.stands_after g.T.Transport.state (channel_planned g.S.Stage.meaning g.T.Transport.state (record { pipeline = c.args.pipeline; input = record { bursts = []; abort_after = None }; transport = c.args.transport })) (record { stations = c.into_stations.result; room = MAX_FED - 1; ends = false; delivered = 0; front = []; gone = 0; consumed = 0 })
begun g c = starts-from g.S.Stage.meaning g.S.Stage.stands_after g.T.Transport.state g.met.S.Thrifty.thrifty c.args.pipeline c.args.transport c.in_ok-world.world.executors c.in_ok-world.world.channels c.in-Ok.net c.into_stations.result c.in_ok-world.ensures.answers.executors (alone g c) c.into_stations.ensures c.in-Ok.ensures.begins

-- with no event next
started : (g : _) (c : After-into_stations g) (front : List Event) → front ≡ [] → LiveStands g.S.Stage.meaning g.S.Stage.stands_after g.T.Transport.state (channel_planned g.S.Stage.meaning g.T.Transport.state (record { pipeline = c.args.pipeline; input = record { bursts = []; abort_after = None }; transport = c.args.transport })) (record { stations = c.into_stations.result; room = MAX_FED - 1; ends = false; delivered = 0; front = front; gone = 0; consumed = 0 })
started g c front none =
    subst (λ (events : List Event). LiveStands g.S.Stage.meaning g.S.Stage.stands_after g.T.Transport.state (channel_planned g.S.Stage.meaning g.T.Transport.state (record { pipeline = c.args.pipeline; input = record { bursts = []; abort_after = None }; transport = c.args.transport })) (record { stations = c.into_stations.result; room = MAX_FED - 1; ends = false; delivered = 0; front = events; gone = 0; consumed = 0 }))
    (sym none) (begun g c)

pub invariant_of-live : goal.invariant_of-live
invariant_of-live g c = (channel_planned g.S.Stage.meaning g.T.Transport.state (record { pipeline = c.args.pipeline; input = record { bursts = []; abort_after = None }; transport = c.args.transport }), started g (goal.at.invariant_of-live g c).After-into_stations c.new-3.result.items c.new-3.ensures.items)

pub returns-clause-rests : goal.returns-clause-rests
returns-clause-rests g c = c.advance.ensures.rests (channel_planned g.S.Stage.meaning g.T.Transport.state (record { pipeline = c.args.pipeline; input = record { bursts = []; abort_after = None }; transport = c.args.transport })) (started g (goal.at.returns-clause-rests g c).After-into_stations c.new-3.result.items c.new-3.ensures.items)

pub returns-clause-allowed : goal.returns-clause-allowed
returns-clause-allowed g c =
    let then = (goal.at.returns-clause-allowed g c).After-into_stations in
    is-allowed c.push.new.self c.push-2.new.self c.push-3.new.self c.args.pipeline c.args.transport (pipelines g then) (inputs g then) (transports g then) c.in_ok-world.ensures.answers.allowed
