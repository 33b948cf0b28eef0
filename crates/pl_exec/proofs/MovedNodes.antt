-- The nodes of an executor stand, whatever one of them has done.
use Rattle.std.proofs.Common.{◌≡◌, ℕ, Bool, true, false, List, Some, slice_get, ap, sym, ◌∙◌, subst}
use Rattle.pl_event.specs.declared.events.Event.{Event}
use Rattle.pl_event.specs.declared.envelopes.Envelope.{Envelope}
use Rattle.pl_event.specs.Meaning.{Meaning}
use Rattle.pl_event.specs.Worlds.{World}
use Rattle.pl_context.specs.declared.standing.Took.{Took}
use Rattle.pl_context.specs.OutputsViews.{OutputsView}
use Rattle.pl_flow.specs.Flows.{IsGood}
use Rattle.pl_flow.specs.declared.head_moves.HeadMove.{HeadMove}
use Rattle.pl_flow.specs.declared.head_moves.HeadMove.TheVariants as head
use Rattle.pl_head.specs.declared.heads.ReadStep.{ReadStep}
use Rattle.pl_head.specs.declared.heads.ReadStep.TheVariants as reading
use Rattle.pl_head.specs.HeadStand.{HeadView}
use Rattle.pl_head.specs.Transports.{TransportState}
use Rattle.pl_part.specs.Paths.{context_at}
use Rattle.pl_part.specs.Parts.{ChannelPartView, PartHolds, SamePart, PartReads, PartMoves, head_hop}
use Rattle.pl_part.specs.PartCalls.{Taken, Given, PartRefused}
use Rattle.pl_channel.specs.Lanes.{world_of}
use Rattle.pl_channel.specs.PlanStand.{PartKeepsPlan}
use Rattle.pl_channel.proofs.HeadLanes.{HeadBegins, part-begins}
use Rattle.pl_channel.proofs.PlanLemmas.{part-takes-keeps, part-reads-keeps, part-writes-keeps}
use Rattle.pl_channel.proofs.HeadMoves.{read-idle}
use Rattle.pl_channel.proofs.OneChannel.{changed, at-was}
use Rattle.pl_exec.specs.ExecutorNodes.{NoneRefused, NodesStand, enters, nobody, entered_executor}
use Rattle.pl_exec.proofs.ExecutorNodeLemmas.{own-stands, enters-here, head-there, nodes-stand, refused-keeps}
use Rattle.pl_exec.proofs.CallLemmas.{take-refuses-none}
use Rattle.pl_world.specs.Plans.{ChannelPlan, Plan}

held-gave : reading.Held ≡ reading.Gave → ⊥
held-gave e = cc

done-gave : reading.Done ≡ reading.Gave → ⊥
done-gave e = cc

-- the head of a part has made a read step, or none
read-keeps : {S T : Type 0} (meaning : S → Meaning) (stands_after : S → List Event → Type 0) (is_spent : S → Bool) (state : T → TransportState) (q : ChannelPlan) (p p' : ChannelPartView S T) (b a : OutputsView) (answer : ReadStep)
    → SamePart p p' → PartReads state p b answer p' a → PartKeepsPlan state q p → PartKeepsPlan state q p'
read-keeps meaning stands_after is_spent state q p p' b a reading.Gave same r k = part-reads-keeps meaning stands_after is_spent state q p p' b a same r k
read-keeps meaning stands_after is_spent state q p p' b a reading.Held same r k = subst (PartKeepsPlan state q) (sym (read-idle state p b p' a reading.Held r held-gave).0) k
read-keeps meaning stands_after is_spent state q p p' b a reading.Done same r k = subst (PartKeepsPlan state q) (sym (read-idle state p b p' a reading.Done r done-gave).0) k

-- it has made a move, or none
move-keeps : {S T : Type 0} (meaning : S → Meaning) (stands_after : S → List Event → Type 0) (is_spent : S → Bool) (state : T → TransportState) (may_refuse : T → ℕ → Type 0) (q : ChannelPlan) (p p' : ChannelPartView S T) (b a : OutputsView)
    (by : HeadMove) (made : Bool) → SamePart p p' → PartMoves state may_refuse p by b made p' a → ((h : HeadView T) → p.head ≡ Some h → HeadBegins state q h) → PartKeepsPlan state q p → PartKeepsPlan state q p'
move-keeps meaning stands_after is_spent state may_refuse q p p' b a head.Read made same m begins k = read-keeps meaning stands_after is_spent state q p p' b a m.answer same m.reads k
move-keeps meaning stands_after is_spent state may_refuse q p p' b a head.Out made same m begins k = part-writes-keeps meaning stands_after is_spent state q may_refuse p p' b a m.answer same m.writes begins k

move-path : {S T : Type 0} (state : T → TransportState) (may_refuse : T → ℕ → Type 0) (p p' : ChannelPartView S T) (b a : OutputsView) (by : HeadMove) (made : Bool) → PartMoves state may_refuse p by b made p' a → p'.path ≡ p.path
move-path state may_refuse p p' b a head.Read made m = m.reads.path
move-path state may_refuse p p' b a head.Out made m = m.writes.path

module _ {S T : Type 0} (ps : List (ChannelPartView S T)) (c : ℕ) (p p' : ChannelPartView S T) (was : slice_get ps c ≡ Some p) where
  module _ (world : World) (plan : Plan) (meaning : S → Meaning) (stands_after : S → List Event → Type 0) (is_spent : S → Bool) (state : T → TransportState) (me : ℕ) (refused : Bool)
      (stand : NodesStand world plan meaning stands_after state me refused ps) where
    -- one has taken what is for this executor
    pub take-stands : (e : Envelope) (b : OutputsView) (answer : Took) (a : OutputsView) → e.lane.channel ≡ c → entered_executor ps e.lane ≡ me → IsGood world e → Taken meaning stands_after state is_spent p e b answer p' a
        → NodesStand world plan meaning stands_after state me refused (changed ps c p p' was)
    take-stands e b answer a of here good t =
        let own = own-stands ps c p p' was world plan meaning stands_after state me refused stand in
        let holds = t.holds world own.holds good in
        let entered = enters-here me c p own.resident own.channel own.holds.hops e.lane stand.number of (sym (at-was ps c p p' was (λ (q : ChannelPartView S T). enters q e.lane) nobody e.lane.channel of) ∙ here) in
        nodes-stand ps c p p' was world plan meaning stands_after state me refused stand refused (λ r. r) t.puts.same holds
        (λ r. take-refuses-none world meaning stands_after is_spent state p p' e b answer a t.puts.same holds t.takes (head-there p e.lane entered) (own.called r))
        (λ q planned k. part-takes-keeps meaning stands_after is_spent state q p p' e b a answer t.puts.same t.takes k)

    -- the contexts are as they were
    same-calls : p'.path ≡ p.path → refused ≡ false → NoneRefused p'
    same-calls path r hop x at =
        let own = own-stands ps c p p' was world plan meaning stands_after state me refused stand in
        own.called r hop x (sym (ap (λ z. context_at z hop) path) ∙ at)

    -- its head has made a move, or none
    pub move-stands : world ≡ world_of true plan → (may_refuse : T → ℕ → Type 0) (by : HeadMove) (b : OutputsView) (made : Bool) (a : OutputsView) → Given meaning stands_after state p (head_hop p) b p' a → PartMoves state may_refuse p by b made p' a
        → NodesStand world plan meaning stands_after state me refused (changed ps c p p' was)
    move-stands is_world may_refuse by b made a t m =
        let own = own-stands ps c p p' was world plan meaning stands_after state me refused stand in
        nodes-stand ps c p p' was world plan meaning stands_after state me refused stand refused (λ s. s) t.puts.same (t.holds world own.holds) (same-calls (move-path state may_refuse p p' b a by made m))
        (λ q planned k.
        let holds = subst (λ (w : World). PartHolds w meaning stands_after state p) is_world own.holds in
        move-keeps meaning stands_after is_spent state may_refuse q p p' b a by made t.puts.same m (part-begins state true plan c q planned meaning stands_after p holds own.channel k) k)

    -- something that it wrote was refused
    pub refuse-stands : (hop : ℕ) (b a : OutputsView) → world.refuses ≡ true → PartRefused meaning stands_after state p hop b p' a → p'.head ≡ p.head → NodesStand world plan meaning stands_after state me true (changed ps c p p' was)
    refuse-stands hop b a refuses t head =
        let own = own-stands ps c p p' was world plan meaning stands_after state me refused stand in
        nodes-stand ps c p p' was world plan meaning stands_after state me refused stand true (λ s. absurd (never s)) t.puts.same (t.holds world refuses own.holds) (λ s. absurd (never s))
        (λ q planned k. refused-keeps state q p p' t.puts.same head k)
      where
        never : true ≡ false → ⊥
        never s = cc
