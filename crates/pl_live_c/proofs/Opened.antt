-- How the channel of a session is opened.
use Rattle.std.proofs.Common.{◌≡◌, ℕ, ◌<◌, List, [], ◌∷◌, ◌++◌, length, get_or, map, ap, sym, ◌∙◌, subst, arith, nat_lt, None, false, true}
use Rattle.std.specs.Prelude.{All}
use Rattle.std.proofs.lemmas.Bool.{lt-ltb}
use Rattle.std.proofs.lemmas.List.{length-map, length-append}
use Rattle.std.proofs.lemmas.List.Elements.{All-head, All-weaker}
use Rattle.std.proofs.lemmas.List.Sums.{list_all-from_AllPass}
use Rattle.pl_stages.specs.declared.handlers.Handler.{Handler}
use Rattle.pl_stages.specs.contracts.handlers.HandlerStage.TheImpl as handler
use Rattle.pl_head.specs.Transports.{MemoryTransportView, memory_state}
use Rattle.pl_world.specs.declared.session.Recorded.{Recorded}
use Rattle.pl_world.specs.declared.session.Session.{Session}
use Rattle.pl_world.specs.Plans.{ChannelPlan}
use Rattle.pl_world.specs.PlanRules.{IsChannelPlan}
use Rattle.pl_world.specs.Worlds.{IsWorld}
use Rattle.pl_live.specs.LiveStand.{consumed_of}
use Rattle.pl_live_c.specs.declared.channels.Channel.{Channel}
use Rattle.pl_live_c.specs.Channels.{IsToBeFed, IsAlone, RecordsAs, OpensAs, RestsAt, session_planned, recorded_planned}

-- one that stands alone
pub alone : {A : Type 0} (before after : List A) (x : A) → before ≡ after ++ x ∷ [] → length after ≡ 0 → before ≡ x ∷ []
alone before [] x is none = is
alone before (y ∷ ys) x is none = absurd (omega arith)

module _ (session : Session) where
  -- A session whose one channel is to be fed has one, and that has this plan.
  pub has_one : (p : ChannelPlan) → IsToBeFed (session_planned session) p → length session.world.channels ≡ 1
  has_one p fed = sym (length-map session.world.channels recorded_planned) ∙ ap length fed.alone

  pub planned_by : (r : Recorded Handler MemoryTransportView) (p : ChannelPlan) → session.world.channels ≡ r ∷ [] → IsToBeFed (session_planned session) p → recorded_planned r ≡ p
  planned_by r p is fed =
      let plans : recorded_planned r ∷ [] ≡ p ∷ [] = sym (ap (map recorded_planned) is) ∙ fed.alone in
      ap (λ (ps : List ChannelPlan). get_or ps 0 p) plans

  -- so its only channel is to be fed
  pub is_fed : (r : Recorded Handler MemoryTransportView) (p : ChannelPlan) → session.world.channels ≡ r ∷ [] → IsToBeFed (session_planned session) p → (r.input.bursts ≡ []) × (r.input.abort_after ≡ None)
  is_fed r p is fed =
      let same = planned_by r p is fed in
      (ap (λ (q : ChannelPlan). q.bursts) same ∙ fed.bursts, ap (λ (q : ChannelPlan). q.abort_after) same ∙ fed.abort_after)

  -- and none stands before it
  pub is_last : (p : ChannelPlan) (before : List (Recorded Handler MemoryTransportView)) (r : Recorded Handler MemoryTransportView) → session.world.channels ≡ before ++ r ∷ [] → IsToBeFed (session_planned session) p → length before ≡ 0
  is_last p before r is fed = omega (arith, has_one p fed, ap length is, length-append before (r ∷ []))

  -- its channel, with an executor that is there at each hop
  pub is_alone : (r : Recorded Handler MemoryTransportView) → IsWorld handler.meaning-value.it memory_state session.world → session.world.executors ≡ 1 → session.world.channels ≡ r ∷ []
      → r.input.bursts ≡ [] → r.input.abort_after ≡ None → IsAlone session r
  is_alone r world one is bursts abort_after =
      let ruled = (world.ruled 1 (omega arith)).channels in
      let first : IsChannelPlan session.world.executors (recorded_planned r) = All-head (IsChannelPlan session.world.executors) (recorded_planned r) []
      (subst (λ (cs : List (Recorded Handler MemoryTransportView)). All (IsChannelPlan session.world.executors) (map recorded_planned cs)) is ruled) in
      record {
        alone = is;
        to_be_fed = record { alone = ap (map recorded_planned) is; executors = one; bursts = bursts; abort_after = abort_after };
        placed = list_all-from_AllPass (λ (x : ℕ). nat_lt x 1) r.pipeline.executors
            (All-weaker (λ (x : ℕ). x < session.world.executors) (λ (x : ℕ). nat_lt x 1 ≡ true) (λ x before. lt-ltb x 1 (omega (arith, before, one))) r.pipeline.executors first.placed);
      }

-- the channel that is opened with the pipeline and the transport of that one
pub opened : (text : List ℕ) (r : Recorded Handler MemoryTransportView) (c : Channel) → RecordsAs text r
    → RestsAt (recorded_planned (record { pipeline = r.pipeline; input = record { bursts = []; abort_after = None }; transport = r.transport })) c.live
    → (c.live.delivered ≡ 0) × (consumed_of c.live ≡ 0) × (c.live.ends ≡ false) → OpensAs text c
opened text r c records rests started = record {
  plan = recorded_planned r;
  planned = records.planned;
  rests = subst (λ (p : ChannelPlan). RestsAt p c.live) (λ i. record (recorded_planned r) { bursts = sym records.planned.to_be_fed.bursts i; abort_after = sym records.planned.to_be_fed.abort_after i }) rests;
  delivered = started.0;
  consumed = started.1;
  ends = started.2;
}
