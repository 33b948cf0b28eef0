-- A head that has taken nothing.
use Rattle.std.proofs.Common.{◌≡◌, ℕ, ◌+◌, ◌<◌, Bool, true, false, ◌||◌, cond, not, [], length, None, refl, sym, ap, ap₂, ◌∙◌, subst, arith}
use Rattle.std.proofs.lemmas.Bool.{lt-leb, lt-ltb}
use Rattle.pl_event.specs.declared.envelopes.Lane.{Lane}
use Rattle.pl_event.specs.Hops.{same_lane, data_lane, flags_lane}
use Rattle.pl_event.specs.Inputs.{recorded_input}
use Rattle.pl_event.specs.Worlds.{World, content_of}
use Rattle.pl_context.specs.declared.standing.Standing.TheVariants as standings
use Rattle.pl_context.specs.declared.ports.Port.{Port}
use Rattle.pl_context.specs.Standings.{cause_of}
use Rattle.pl_flow.specs.Flows.{point, nowhere}
use Rattle.pl_head.specs.declared.inputs.ReadPlan.{ReadPlan}
use Rattle.pl_head.specs.ReadSteps.{plan_steps}
use Rattle.pl_head.specs.Transports.{TransportState}
use Rattle.pl_head.specs.HeadStand.{HeadView, HeadStandsAfter, ReadsStand, HasFewFlags, gone_of}
use Rattle.pl_part.specs.ContextHolds.{port_point}
use Rattle.pl_part.specs.TailHolds.{MayFailFor}
use Rattle.pl_part.specs.HeadHolds.{HeadHolds, IsHeadPlanned, head_writes, head_came, head_taken}
use Rattle.pl_part.proofs.HeadTaken.{took-none}
use Rattle.pl_event.specs.declared.limits.TheConstants.{MAX_ITEMS}

-- what `Head::new` says of a head
pub record IsFresh {T : Type 0} (state : T → TransportState) (plan : ReadPlan) (channel hop : ℕ) (h : HeadView T) : Type 0 where
  pub after : HeadStandsAfter state h [] [] []
  pub reads : ReadsStand plan 0 false h
  pub entrance : h.input.port.lane ≡ data_lane channel 0
  pub at_hop : (h.channel ≡ channel) × (h.hop ≡ hop)
  pub flags : h.buffer.flags ≡ record { lane = flags_lane channel 0; made = 0; is_open = true }
  pub taken : h.taken ≡ 0
  pub standing : h.standing ≡ standings.Open
  pub failure : h.failure ≡ None
  pub few : HasFewFlags h
  pub gone : gone_of h ≡ (0, false)

module _ {T : Type 0} (state : T → TransportState) (plan : ReadPlan) (channel hop : ℕ) (h : HeadView T) (new : IsFresh state plan channel hop h) where
  pub new-holds : (world : World) → IsHeadPlanned world plan channel hop → length (recorded_input plan.bursts) + 1 < MAX_ITEMS → HeadHolds state world h
  new-holds world p few = record {
    plan = plan;
    events = p.events;
    holds = record {
      own = (λ i. content_of world (data_lane (new.at_hop.0 i) (new.at_hop.1 i))) ∙ p.own;
      few = p.few;
      took = took-none state p.events h new.after new.taken new.standing (ap (λ (x : ℕ × Bool). x.0) new.gone);
      most = omega (arith, new.taken);
      may = subst (λ s. MayFailFor world (cause_of s)) (sym new.standing) tt;
      may_itself = subst (MayFailFor world) (sym new.failure) tt;
      input = (λ i. content_of world (data_lane (new.at_hop.0 i) 0)) ∙ p.input;
      few_input = few;
      reads = (0, false, new.reads);
      entrance = new.entrance ∙ ap (λ n. data_lane n 0) (sym new.at_hop.0);
      flags = ap (λ (p : Port). p.lane) new.flags ∙ ap (λ n. flags_lane n 0) (sym new.at_hop.0);
      few_flags = new.few;
    };
  }

  some-steps : 0 < plan_steps plan
  some-steps = omega arith

  -- the lane of its reads is at its start
  reads-start : port_point h.input.port ≡ point 0 false
  reads-start =
      ap₂ (λ (n : ℕ) (goes_on : Bool). point n (not goes_on))
      (new.reads.made ∙ ap {B = ℕ} (λ (b : Bool). (0 + cond b 1 0) + 0) (lt-leb (plan_steps plan) 0 some-steps))
      (new.reads.is_open ∙ lt-ltb 0 (plan_steps plan) some-steps)

  flags-start : port_point h.buffer.flags ≡ point 0 false
  flags-start = ap port_point new.flags

  pub new-came : (l : Lane) → head_writes h l ≡ true → head_came h l ≡ point 0 false
  new-came l writes = by (same_lane l (data_lane h.channel 0)) (same_lane l (flags_lane h.channel 0)) writes
    where
      by : (a b : Bool) → (a || b) ≡ true → cond a (port_point h.input.port) (cond b (port_point h.buffer.flags) nowhere) ≡ point 0 false
      by true b w = reads-start
      by false true w = flags-start
      by false false w = cc

  pub new-taken : (l : Lane) → head_taken h l ≡ 0
  new-taken l = by (same_lane l (data_lane h.channel h.hop))
    where
      by : (b : Bool) → cond b h.taken 0 ≡ 0
      by true = new.taken
      by false = refl
