-- What nodes keep at each call they keep in each move, and so do the channels of a net keep to their plan.
use Rattle.std.proofs.Common.{◌≡◌, ℕ, zero, suc, Bool, true, List, length, Some, refl, ap, sym, ◌∙◌, subst, inl, inr}
use Rattle.std.specs.Prelude.{slice_get}
use Rattle.std.proofs.Math.ListN.{set}
use Rattle.std.proofs.lemmas.Bool.Decides.{eqb_tells}
use Rattle.std.proofs.lemmas.List.{length-set}
use Rattle.pl_event.specs.declared.events.Event.{Event}
use Rattle.pl_event.specs.declared.envelopes.Envelope.{Envelope}
use Rattle.pl_event.specs.Meaning.{Meaning}
use Rattle.pl_event.proofs.Lists.{at_set_same, at_set_other}
use Rattle.pl_context.specs.declared.standing.Took.{Took}
use Rattle.pl_context.specs.OutputsViews.{OutputsView}
use Rattle.pl_flow.specs.declared.head_moves.HeadMove.{HeadMove}
use Rattle.pl_flow.specs.declared.head_moves.HeadMove.TheVariants as head
use Rattle.pl_head.specs.declared.heads.ReadStep.{ReadStep}
use Rattle.pl_head.specs.HeadStand.{HeadView}
use Rattle.pl_head.specs.Transports.{TransportState}
use Rattle.pl_net.specs.NodesViews.{NodesView}
use Rattle.pl_net.specs.Nets.{StationsView, IsStep, Steps, WorksListOff, RunsTask, Gives}
use Rattle.pl_part.specs.Parts.{ChannelPartView, SamePart, PartTakes, PartReads, PartMoves}
use Rattle.pl_channel.specs.Lanes.{world_of}
use Rattle.pl_channel.specs.PlanStand.{PartKeepsPlan, PartsKeepPlan}
use Rattle.pl_channel.proofs.HeadLanes.{HeadBegins, part-begins}
use Rattle.pl_channel.proofs.PlanLemmas.{part-takes-keeps, part-reads-keeps, part-writes-keeps}
use Rattle.pl_channel.specs.Channels.{ChannelsStand, HasMoved, home_of}
use Rattle.pl_replay.specs.Moves.{nodes_view, nodes_take, nodes_move, MakesMove}
use Rattle.pl_replay.specs.declared.channels.Channels.{Channels}
use Rattle.pl_world.specs.declared.moves.Move.{Move}
use Rattle.pl_world.specs.declared.moves.Move.TheVariants.{Read, Task, Hand, Out}
use Rattle.pl_world.specs.Plans.{ChannelPlan, Plan}

module _ {N : Type 0} (view_of : N → NodesView) (takes : N → Envelope → OutputsView → N → OutputsView → Type 0) (P : N → Type 0)
    (keeps : (n n' : N) (e : Envelope) (before after : OutputsView) → takes n e before n' after → P n → P n') where
  step-keeps : (x : ℕ) (c c' : StationsView N) → IsStep view_of takes x c c' → P c.nodes → P c'.nodes
  step-keeps x c c' s held = elim s.becomes [
    | inl call ↦ keeps c.nodes c'.nodes s.envelope s.mid c'.work call.taken held
    | inr keep ↦ subst P (sym keep.nodes) held
  ]

  steps-keep : (n x : ℕ) (c c' : StationsView N) → Steps view_of takes x n c c' → P c.nodes → P c'.nodes
  steps-keep zero x c c' s held = subst (λ (v : StationsView N). P v.nodes) (sym s) held
  steps-keep (suc n) x c c' s held = step-keeps x s.0 c' s.2 (steps-keep n x c s.0 s.1 held)

  pub settles-keep : (x : ℕ) (c c' : StationsView N) → WorksListOff view_of takes x c c' → P c.nodes → P c'.nodes
  settles-keep x c c' s held = steps-keep s.count x c c' s.steps held

  pub task-keeps : (x : ℕ) (c c' : StationsView N) → RunsTask view_of takes x c c' → P c.nodes → P c'.nodes
  task-keeps x c c' r held = settles-keep x r.mid c' r.settles (keeps c.nodes r.mid.nodes r.envelope c.work r.mid.work r.taken held)

  pub gives-keep : (moves : N → HeadMove → ℕ → OutputsView → N → OutputsView → Type 0) → (x : ℕ) (by : HeadMove) (channel : ℕ) (c c' : StationsView N)
      → ((n' : N) (before after : OutputsView) → moves c.nodes by channel before n' after → P c.nodes → P n') → Gives view_of takes moves x by channel c c' → P c.nodes → P c'.nodes
  gives-keep moves x by channel c c' kept g held = settles-keep x (record c { nodes = g.nodes; work = g.work }) c' g.settles (kept g.nodes c.work g.work g.moved held)

-- ---- the plan

module _ {S T : Type 0} (meaning : S → Meaning) (stands_after : S → List Event → Type 0) (is_spent : S → Bool) (state : T → TransportState) (may_refuse : T → ℕ → Type 0) (plan : Plan) where
  moved-keeps : (does : ChannelPartView S T → ChannelPartView S T → Type 0) → (ps ps' : List (ChannelPartView S T)) (c : ℕ)
      → ((p : ChannelPlan) (part part' : ChannelPartView S T) → slice_get plan.channels c ≡ Some p → slice_get ps c ≡ Some part → SamePart part part' → does part part' → PartKeepsPlan state p part → PartKeepsPlan state p part')
      → HasMoved does ps c ps' → PartsKeepPlan state plan ps → PartsKeepPlan state plan ps'
  moved-keeps does ps ps' c kept m k = record {
    count = ap length m.becomes ∙ length-set ps c m.after ∙ k.count;
    each = each;
  }
    where
      each : (d : ℕ) (p : ChannelPlan) (part : ChannelPartView S T) → slice_get plan.channels d ≡ Some p → slice_get ps' d ≡ Some part → PartKeepsPlan state p part
      each d p part planned is =
          let now : slice_get (set ps c m.after) d ≡ Some part = sym (ap (λ (l : List (ChannelPartView S T)). slice_get l d) m.becomes) ∙ is in
          elim (eqb_tells d c) [
            | inl here ↦
                let same = at_set_same ps c m.after part (subst (λ (i : ℕ). slice_get (set ps c m.after) i ≡ Some part) here.1 now) in
                let own = subst (λ (i : ℕ). slice_get plan.channels i ≡ Some p) here.1 planned in
                subst (PartKeepsPlan state p) (sym same) (kept p m.before m.after own m.was m.same m.done (k.each c p m.before own m.was))
            | inr there ↦ k.each d p part planned (at_set_other ps c d m.after part there.1 now)
          ]

  abbrev keeps : Channels S T → Type 0
  keeps n = PartsKeepPlan state plan n.parts.items

  takes-kept : (n n' : Channels S T) (e : Envelope) (before after : OutputsView) → nodes_take meaning stands_after is_spent state n e before n' after → keeps n → keeps n'
  takes-kept n n' e before after t = moved-keeps (λ part part'. (answer : Took) × PartTakes meaning stands_after is_spent state part e before answer part' after) n.parts.items n'.parts.items e.lane.channel
      (λ p part part' planned was same w. part-takes-keeps meaning stands_after is_spent state p part part' e before after w.0 same w.1) t

  part-moves-keeps : (p : ChannelPlan) (part part' : ChannelPartView S T) (by : HeadMove) (before after : OutputsView) → ((h : HeadView T) → part.head ≡ Some h → HeadBegins state p h) → SamePart part part'
      → PartMoves state may_refuse part by before true part' after → PartKeepsPlan state p part → PartKeepsPlan state p part'
  part-moves-keeps p part part' head.Read before after begins same m =
      part-reads-keeps meaning stands_after is_spent state p part part' before after same (subst (λ (answer : ReadStep). PartReads state part before answer part' after) (m.gave refl) m.reads)
  part-moves-keeps p part part' head.Out before after begins same m = part-writes-keeps meaning stands_after is_spent state p may_refuse part part' before after m.answer same m.writes begins

  module _ (refuses : Bool) where
    -- the nodes hold in the world of the plan
    abbrev holds : Channels S T → Type 0
    holds n = ChannelsStand (world_of refuses plan) meaning stands_after state n.parts.items

    moves-kept : (n n' : Channels S T) (by : HeadMove) (channel : ℕ) (before after : OutputsView) → holds n → nodes_move state may_refuse n by channel before n' after → keeps n → keeps n'
    moves-kept n n' by channel before after stand m k = moved-keeps (λ part part'. PartMoves state may_refuse part by before true part' after) n.parts.items n'.parts.items channel
        (λ p part part' planned was same moved kept.
        let own = stand.parts channel part was in
        part-moves-keeps p part part' by before after (part-begins state refuses plan channel p planned meaning stands_after part own.holds own.channel kept) same moved kept)
        m k

    gives-kept : (by : HeadMove) (channel : ℕ) (c c' : StationsView (Channels S T)) → holds c.nodes
        → Gives (nodes_view meaning) (nodes_take meaning stands_after is_spent state) (nodes_move state may_refuse) (home_of c.nodes.parts.items channel) by channel c c' → keeps c.nodes → keeps c'.nodes
    gives-kept by channel c c' stand g k = gives-keep (nodes_view meaning) (nodes_take meaning stands_after is_spent state) keeps takes-kept (nodes_move state may_refuse) (home_of c.nodes.parts.items channel) by channel c c'
        (λ n' before after m kept. moves-kept c.nodes n' by channel before after stand m kept) g k

    -- Whatever move is made, the nodes of all channels go on as the plan has them.
    pub makes-keeps : (capacity : ℕ) (move : Move) (c c' : StationsView (Channels S T)) → holds c.nodes → MakesMove meaning stands_after is_spent state may_refuse capacity move c c' → keeps c.nodes → keeps c'.nodes
    makes-keeps capacity (Read channel) c c' stand m k = gives-kept head.Read channel c c' stand m k
    makes-keeps capacity (Task x) c c' stand m k = task-keeps (nodes_view meaning) (nodes_take meaning stands_after is_spent state) keeps takes-kept x c c' m k
    makes-keeps capacity (Hand x) c c' stand m k = subst keeps (sym m.hands.nodes) k
    makes-keeps capacity (Out channel) c c' stand m k = gives-kept head.Out channel c c' stand m k
