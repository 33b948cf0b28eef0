use Rattle.std.proofs.Common.{◌≡◌, ◌++◌, ◌∷◌, [], inl, inr, ap, sym, ◌∙◌, append_assoc, arith}
use Rattle.std.proofs.lemmas.List.{nil_from_length}
use Rattle.pl_world.specs.Worlds.{recorded}
use Rattle.pl_world.proofs.WorldLimits.{no_pipeline_left, no_input_left, no_transport_left}
use Rattle.pl_world.proofs.worlds.joined.Goals as goal

pub returns : goal.returns
returns g c =
    let at = c.loop-pipeline.pipeline-iterator in
    let pipelines = at.a.a.rest in
    let inputs = at.a.b.rest in
    let transports = at.b.rest in
    let all = recorded c.args.pipelines.items c.args.inputs.items c.args.transports.items in
    elim c.in-None.ensures.steps [
      | inl h ↦ elim h.1 [
        | inl i ↦ no_pipeline_left c.loop-pipeline.channels.items pipelines.items inputs.items transports.items all (nil_from_length pipelines.items (omega (arith, i.1.0, pipelines.ok))) c.loop-pipeline.invariant
        | inr i ↦ no_input_left c.loop-pipeline.channels.items pipelines.items inputs.items transports.items all (nil_from_length inputs.items (omega (arith, i.1.0, inputs.ok))) c.loop-pipeline.invariant
      ]
      | inr h ↦ no_transport_left c.loop-pipeline.channels.items pipelines.items inputs.items transports.items all (nil_from_length transports.items (omega (arith, h.1.0, transports.ok))) c.loop-pipeline.invariant
    ]

pub loop-pipeline-preserved : goal.loop-pipeline-preserved
loop-pipeline-preserved g c =
    let took = c.in-Some.ensures.steps in
    let before = c.loop-pipeline.channels.items in
    let next = c.next.new.self in
    let rest = recorded next.a.a.rest.items next.a.b.rest.items next.b.rest.items in
    ap (λ channels. channels ++ rest) c.in_ok-push.ensures.items ∙ append_assoc before (_ ∷ []) rest
    ∙ (λ i. before ++ recorded (sym took.0.0.0 i) (sym took.0.1.0 i) (sym took.1.0 i)) ∙ c.loop-pipeline.invariant

pub loop-pipeline-init : goal.loop-pipeline-init
loop-pipeline-init g c =
    let at = c.into_iter-pipeline-iterator.result in
    let gives = c.into_iter-pipeline-iterator.ensures.into_iter_gives in
    let outer = c.zip-pipeline-items.ensures in
    let inner = c.zip.ensures in
    let pipelines : at.a.a.rest.items ≡ c.args.pipelines.items = (λ i. (gives i).a.a.rest.items) ∙ (λ i. (outer.first i).a.rest.items) ∙ (λ i. (inner.first i).rest.items) ∙ c.into_iter.ensures.rest in
    let inputs : at.a.b.rest.items ≡ c.args.inputs.items = (λ i. (gives i).a.b.rest.items) ∙ (λ i. (outer.first i).b.rest.items) ∙ inner.second.0 in
    let transports : at.b.rest.items ≡ c.args.transports.items = (λ i. (gives i).b.rest.items) ∙ outer.second.0 in
    λ i. c.in_ok-channels.ensures.items i ++ recorded (pipelines i) (inputs i) (transports i)
