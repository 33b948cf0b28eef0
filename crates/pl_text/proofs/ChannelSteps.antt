-- One channel that is built is one channel of the definition.
use Rattle.std.proofs.Common.{◌≡◌, ◌≢◌, ℕ, List, [], ◌∷◌, ◌++◌, map, Option, Some, None, Result, Ok, Err, sym, refl, ap, subst, ◌∙◌, unwrap_or}
use Rattle.pl_event.specs.Meaning.{Meaning}
use Rattle.pl_event.specs.Inputs.{Bursts}
use Rattle.pl_event.specs.Paths.{inbound_chain, outbound_chain}
use Rattle.pl_build.specs.declared.named_stages.NamedStage.{NamedStage}
use Rattle.pl_build.specs.declared.faults.BuildFault.{BuildFault}
use Rattle.pl_build.specs.declared.faults.BuildFault.TheVariants.{Memory}
use Rattle.pl_build.specs.Pipelines.{PipelineBuilderView, PlacedView, meanings}
use Rattle.pl_build.specs.Refusals.{unless, marks_answer, building_fault}
use Rattle.pl_build.specs.Executors.{GroupsView, HasPlaced, sizes_of, executor_after, hop_executors, groups_of}
use Rattle.pl_head.specs.Transports.{TransportState, new_state}
use Rattle.pl_world.specs.Plans.{ChannelPlan, channel_planned}
use Rattle.pl_text.specs.declared.session_text.outline.ChannelOutline.{ChannelOutline}
use Rattle.pl_text.specs.SessionReading.{◌>>=◌}
use Rattle.pl_text.specs.SessionBuilding.{meant, all_edited, pipeline_built, channel_built, IsChannelBuilt}
use Rattle.pl_text.proofs.MeantPipelines.{groups_of-meant, meanings-meant, building_fault-meant, hop_executors-meant}

unless_none : (o : Option BuildFault) → o ≡ None → unless o ≡ Ok tt
unless_none None e = refl
unless_none (Some f) e = cc

unless_some : (o : Option BuildFault) (f : BuildFault) → f ≡ unwrap_or o Memory → f ≢ Memory → unless o ≡ Err f
unless_some None f is other = absurd (other is)
unless_some (Some g) f is other = ap (λ (h : BuildFault). Err h) (sym is)

then_ok : {A B F : Type 0} (r : Result A F) (next : A → Result B F) (x : A) (y : Result B F) → r ≡ Ok x → next x ≡ y → (r >>= next) ≡ y
then_ok r next x y is e = ap (λ t. t >>= next) is ∙ e

then_err : {A B F : Type 0} (r : Result A F) (next : A → Result B F) (f : F) → r ≡ Err f → (r >>= next) ≡ Err f
then_err r next f is = ap (λ t. t >>= next) is

module _ {S T : Type 0} (meaning : S → Meaning) (state : T → TransportState) where
  pub pipeline_made : (sizes : List (List ℕ × ℕ)) (channel : ChannelOutline) (old new : PipelineBuilderView S) (u : Unit {0})
      → all_edited [] channel.edits ≡ Ok (meant meaning old.handlers) → marks_answer channel.low channel.high ≡ Ok u → new ≡ record old { low = channel.low; high = channel.high }
      → building_fault meaning sizes new.handlers ≡ None → pipeline_built sizes channel ≡ Ok (meant meaning new.handlers)
  unfolding pipeline_built
  pipeline_made sizes channel old new u edits marks set none =
      let same : meant meaning old.handlers ≡ meant meaning new.handlers = ap (λ (p : PipelineBuilderView S). meant meaning p.handlers) (sym set) in
      then_ok (all_edited [] channel.edits) _ (meant meaning new.handlers) (Ok (meant meaning new.handlers)) (edits ∙ ap (λ (hs : List (NamedStage Meaning)). Ok hs) same)
      (then_ok (marks_answer channel.low channel.high) _ u (Ok (meant meaning new.handlers)) marks
      (then_ok (unless (building_fault (λ m. m) sizes (meant meaning new.handlers))) _ tt (Ok (meant meaning new.handlers)) (unless_none _ (building_fault-meant meaning sizes new.handlers ∙ none)) refl))

  pub pipeline_refused : (sizes : List (List ℕ × ℕ)) (channel : ChannelOutline) (old new : PipelineBuilderView S) (u : Unit {0}) (f : BuildFault)
      → all_edited [] channel.edits ≡ Ok (meant meaning old.handlers) → marks_answer channel.low channel.high ≡ Ok u → new ≡ record old { low = channel.low; high = channel.high }
      → f ≡ unwrap_or (building_fault meaning sizes new.handlers) Memory → f ≢ Memory → pipeline_built sizes channel ≡ Err f
  unfolding pipeline_built
  pipeline_refused sizes channel old new u f edits marks set is other =
      let same : meant meaning old.handlers ≡ meant meaning new.handlers = ap (λ (p : PipelineBuilderView S). meant meaning p.handlers) (sym set) in
      then_ok (all_edited [] channel.edits) _ (meant meaning new.handlers) (Err f) (edits ∙ ap (λ (hs : List (NamedStage Meaning)). Ok hs) same)
      (then_ok (marks_answer channel.low channel.high) _ u (Err f) marks
      (then_err (unless (building_fault (λ m. m) sizes (meant meaning new.handlers))) _ f
      (ap unless (building_fault-meant meaning sizes new.handlers) ∙ unless_some (building_fault meaning sizes new.handlers) f is other)))

  plan_of_parts : List Meaning → List Meaning → List ℕ → ℕ → ℕ → Option ℕ → Option ℕ → Bursts → Option ℕ → ChannelPlan
  plan_of_parts i o e l h w f r t = record { inbound = i; outbound = o; executors = e; low = l; high = h; window = w; fail_at = f; bursts = r; abort_after = t }

  plan_is : (a b : ChannelPlan) → a.inbound ≡ b.inbound → a.outbound ≡ b.outbound → a.executors ≡ b.executors → a.low ≡ b.low → a.high ≡ b.high → a.window ≡ b.window → a.fail_at ≡ b.fail_at → a.bursts ≡ b.bursts → a.abort_after ≡ b.abort_after → a ≡ b
  unfolding plan_of_parts
  plan_is a b i o e l h w f r t =
      ap (λ (x : List Meaning). plan_of_parts x a.outbound a.executors a.low a.high a.window a.fail_at a.bursts a.abort_after) i
      ∙ ap (λ (x : List Meaning). plan_of_parts b.inbound x a.executors a.low a.high a.window a.fail_at a.bursts a.abort_after) o
      ∙ ap (λ (x : List ℕ). plan_of_parts b.inbound b.outbound x a.low a.high a.window a.fail_at a.bursts a.abort_after) e
      ∙ ap (λ (x : ℕ). plan_of_parts b.inbound b.outbound b.executors x a.high a.window a.fail_at a.bursts a.abort_after) l
      ∙ ap (λ (x : ℕ). plan_of_parts b.inbound b.outbound b.executors b.low x a.window a.fail_at a.bursts a.abort_after) h
      ∙ ap (λ (x : Option ℕ). plan_of_parts b.inbound b.outbound b.executors b.low b.high x a.fail_at a.bursts a.abort_after) w
      ∙ ap (λ (x : Option ℕ). plan_of_parts b.inbound b.outbound b.executors b.low b.high b.window x a.bursts a.abort_after) f
      ∙ ap (λ (x : Bursts). plan_of_parts b.inbound b.outbound b.executors b.low b.high b.window b.fail_at x a.abort_after) r
      ∙ ap (λ (x : Option ℕ). plan_of_parts b.inbound b.outbound b.executors b.low b.high b.window b.fail_at b.bursts x) t

  pub channel_is_built : (before after : GroupsView) (channel : ChannelOutline) (old new : PipelineBuilderView S) (path : PlacedView S) (transport : T) (u : Unit {0})
      → all_edited [] channel.edits ≡ Ok (meant meaning old.handlers) → marks_answer channel.low channel.high ≡ Ok u → new ≡ record old { low = channel.low; high = channel.high }
      → building_fault meaning (sizes_of before) new.handlers ≡ None
      → map meaning path.inbound ≡ inbound_chain (meanings meaning new.handlers) → map meaning path.outbound ≡ outbound_chain (meanings meaning new.handlers)
      → ((earlier : List (List (Option (List ℕ)))) → HasPlaced before earlier → path.executors ≡ hop_executors (executor_after before.loops (sizes_of before) earlier) meaning new.handlers)
      → (path.low ≡ new.low) × (path.high ≡ new.high)
      → ((earlier : List (List (Option (List ℕ)))) → HasPlaced before earlier → HasPlaced after (earlier ++ groups_of new.handlers ∷ []))
      → state transport ≡ new_state (Some channel.window) channel.fail_at
      → IsChannelBuilt before after channel (channel_planned meaning state (record { pipeline = path; input = record { bursts = channel.bursts; abort_after = channel.abort_after }; transport = transport }))
  channel_is_built before after channel old new path transport u edits marks set none inbound outbound executors levels counted new_transport = record {
    handlers = meant meaning new.handlers;
    built = pipeline_made (sizes_of before) channel old new u edits marks set none;
    placed = λ earlier placed. plan_is (channel_planned meaning state (record { pipeline = path; input = record { bursts = channel.bursts; abort_after = channel.abort_after }; transport = transport })) (channel_built before.loops (sizes_of before) earlier channel (meant meaning new.handlers))
        (inbound ∙ ap inbound_chain (sym (meanings-meant meaning new.handlers)))
        (outbound ∙ ap outbound_chain (sym (meanings-meant meaning new.handlers)))
        (executors earlier placed ∙ sym (hop_executors-meant meaning (executor_after before.loops (sizes_of before) earlier) new.handlers))
        (levels.0 ∙ ap (λ (p : PipelineBuilderView S). p.low) set)
        (levels.1 ∙ ap (λ (p : PipelineBuilderView S). p.high) set)
        (ap (λ (s : TransportState). s.window) new_transport)
        (ap (λ (s : TransportState). s.fail_at) new_transport)
        refl
        refl;
    counted = λ earlier placed. subst (λ (gs : List (Option (List ℕ))). HasPlaced after (earlier ++ gs ∷ [])) (sym (groups_of-meant meaning new.handlers)) (counted earlier placed);
  }
