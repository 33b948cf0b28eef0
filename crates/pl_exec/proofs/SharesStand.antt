-- The parts of an executor that are its shares of channels before any move: they stand.
use Rattle.std.proofs.Common.{◌≡◌, ◌≢◌, ℕ, ◌+◌, ◌-◌, ◌<◌, ◌≤◌, Bool, true, false, not, ◌&&◌, List, length, map, get_or, slice_get, Option, Some, refl, ap, sym, ◌∙◌, subst, ⊎_elim, arith}
use Rattle.std.specs.Prelude.{◌==◌, is_some, if◌then◌else◌}
use Rattle.std.specs.Option.{option_map_or}
use Rattle.std.proofs.lemmas.Bool.{cond-true, cond-false, cases_Bool, both_ways, or_left, eqb-true, eq-eqb, ne_eqb, false_from_ne_true}
use Rattle.std.proofs.Math.Bool.{and-true}
use Rattle.std.proofs.lemmas.Option.{same_Some, slice_get_within}
use Rattle.pl_event.specs.declared.events.Event.{Event}
use Rattle.pl_event.specs.declared.envelopes.Lane.{Lane}
use Rattle.pl_event.specs.declared.stages.Direction.{Direction}
use Rattle.pl_event.specs.declared.stages.Direction.TheVariants.{Inbound, Outbound, Turn}
use Rattle.pl_event.specs.Hops.{data_lane, same_lane}
use Rattle.pl_event.specs.Meaning.{Meaning}
use Rattle.pl_event.specs.Worlds.{World}
use Rattle.pl_event.proofs.SameLanes.{same_lane-self}
use Rattle.pl_build.specs.declared.limits.TheConstants.{MAX_EXECUTORS}
use Rattle.pl_context.specs.declared.ports.Port.{Port}
use Rattle.pl_context.specs.declared.standing.Standing.{Standing}
use Rattle.pl_context.specs.declared.standing.Standing.TheVariants as standings
use Rattle.pl_context.specs.Standings.{is_over, has_failed}
use Rattle.pl_context.specs.TailViews.{TailView}
use Rattle.pl_context.specs.ContextViews.{ContextView, IsHop, down_hop}
use Rattle.pl_flow.specs.Flows.{Point, point, nowhere}
use Rattle.pl_head.specs.HeadStand.{HeadView, gone_of}
use Rattle.pl_head.specs.Transports.{TransportState}
use Rattle.pl_part.specs.ContextHolds.{port_point, context_writes, context_came}
use Rattle.pl_part.specs.Paths.{IsAt, context_at, writer_hop, enters_path}
use Rattle.pl_part.specs.Parts.{ChannelPartView, PartHolds, head_hop, has_entered, part_writes, part_came}
use Rattle.pl_part.specs.Shares.{IsShare, IsShareOf, executor_of, only_if}
use Rattle.pl_part.proofs.ShareLemmas.{share-entered, only-some}
use Rattle.pl_channel.specs.Lanes.{world_of}
use Rattle.pl_channel.specs.WholeParts.{IsAtStart, IsWholePart, AreWholeParts}
use Rattle.pl_channel.specs.PlanStand.{PartKeepsPlan}
use Rattle.pl_channel.specs.Channels.{HasAllNodes}
use Rattle.pl_channel.proofs.WholeParts.{has-all-nodes, recorded-at, starts-keep}
use Rattle.pl_channel.proofs.Wholes.{enters, to-hop}
use Rattle.pl_world.specs.declared.session.Recorded.{Recorded}
use Rattle.pl_world.specs.Plans.{ChannelPlan, Plan, channel_planned}
use Rattle.pl_exec.specs.ExecutorNodes.{has_node, IsResident, ShareStands, NodesStand}
use Rattle.pl_exec.specs.SessionWords.{SeatsView, IsUnused}
use Rattle.pl_exec.specs.Sharing.{AreDealt, AreSharesOf}
use Rattle.pl_exec.specs.Telling.{Tells, TellsAt}
use Rattle.pl_exec.proofs.SeatLemmas.{dealt-at, new-tells}
use Rattle.pl_event.proofs.Lists.{at-index}

-- ---- which nodes a share has

-- a node is there where its data lane enters one
node-entered : {S T : Type 0} (p : ChannelPartView S T) (hop : ℕ) → has_node p hop ≡ has_entered p (data_lane p.path.channel hop)
node-entered p hop = ⊎_elim
    (λ (t : (hop == head_hop p) ≡ true).
    let same = ap (λ (h : ℕ). same_lane (data_lane p.path.channel hop) (data_lane p.path.channel h)) (sym (eqb-true hop (head_hop p) t)) ∙ same_lane-self (data_lane p.path.channel hop) in
    cond-true (hop == head_hop p) (is_some p.head) _ t
    ∙ sym (and-true (is_some p.head)) ∙ ap (λ (b : Bool). is_some p.head && b) (sym same)
    ∙ sym (cond-true (hop == head_hop p) _ (enters_path p.path (data_lane p.path.channel hop)) t))
    (λ (f : (hop == head_hop p) ≡ false).
    let node = if hop == p.path.tail_hop then is_some p.path.tail else is_some (context_at p.path hop) in
    cond-false (hop == head_hop p) (is_some p.head) node f
    ∙ ap (λ (b : Bool). b && node) (sym (eq-eqb p.path.channel p.path.channel refl))
    ∙ sym (cond-false (hop == head_hop p) _ (enters_path p.path (data_lane p.path.channel hop)) f))
    (cases_Bool (hop == head_hop p))

module _ {S T : Type 0} (x : ℕ) (p share : ChannelPartView S T) (hops : length p.path.executors ≡ head_hop p + 1) (whole : HasAllNodes p) (is : IsShare x p share) where
  has-entered : (hop : ℕ) → hop ≤ head_hop p → has_entered p (data_lane p.path.channel hop) ≡ true
  has-entered hop within = enters p hops whole (data_lane p.path.channel hop) refl (to-hop p (data_lane p.path.channel hop) hops within (λ e. ap (λ (h : ℕ). data_lane p.path.channel h) e))

  share-resident : IsResident x share
  share-resident = record {
    nodes = λ hop within.
        let slots = is.path.slots in
        node-entered share hop
        ∙ ap (λ (c : ℕ). has_entered share (data_lane c hop)) is.path.channel
        ∙ share-entered (λ (e : ℕ). e == x) p share is (data_lane p.path.channel hop)
        ∙ ap (λ (b : Bool). b && (executor_of p.path hop == x)) (has-entered hop (omega (arith, within, slots)))
        ∙ ap (λ (es : List ℕ). get_or es hop 0 == x) (sym is.path.executors);
  }

-- ---- a context that has come nowhere: no call of it has failed

opened : (p : Port) → port_point p ≡ point 0 false → p.is_open ≡ true
opened p e = by p.is_open (ap (λ (q : Point). q.over) e)
  where
    by : (b : Bool) → not b ≡ false → b ≡ true
    by true e = refl
    by false e = cc

failed-over : (s : Standing) → has_failed s ≡ true → is_over s ≡ true
failed-over standings.Open e = e
failed-over standings.Ended e = refl
failed-over (standings.Failed cause) e = refl

module _ {S T : Type 0} (world : World) (meaning : S → Meaning) (stands_after : S → List Event → Type 0) (state : T → TransportState) (p : ChannelPartView S T) (holds : PartHolds world meaning stands_after state p)
    (unmoved : IsAtStart meaning p) (hop : ℕ) (c : ContextView S) (at : context_at p.path hop ≡ Some c) where
  is-at : IsAt meaning p.path.channel hop p.path.tail_hop p.path.turn c
  is-at = (holds.path.contexts hop c at).1

  -- what it writes to the next hop is at its start
  at-start : (d : Direction) (l : Lane) → (meaning c.stage).direction ≡ d → l.hop ≡ hop + 1 → hop ≢ p.path.tail_hop → context_writes d c l ≡ true → context_came d c l ≡ point 0 false
  at-start d l direction next off writes = sym came ∙ unmoved.came l (wrote ∙ writes)
    where
      first : (l.hop == 0) ≡ false
      first = ne_eqb l.hop 0 (λ e. omega (arith, e, next))

      writer : writer_hop p.path l.hop ≡ hop
      writer =
          cond-false (l.hop == 0) _ (if l.hop == p.path.tail_hop + 1 then p.path.turn else l.hop - 1) first
          ∙ cond-false (l.hop == p.path.tail_hop + 1) p.path.turn (l.hop - 1) (ne_eqb l.hop (p.path.tail_hop + 1) (λ e. off (omega (arith, e, next)))) ∙ omega (arith, next)

      slot : context_at p.path (writer_hop p.path l.hop) ≡ Some c
      slot = ap (λ (h : ℕ). context_at p.path h) writer ∙ at

      wrote : part_writes meaning p l ≡ context_writes d c l
      wrote =
          cond-false (l.hop == 0) _ _ first ∙ ap (λ (o : Option (ContextView S)). option_map_or (λ (k : ContextView S). context_writes (meaning k.stage).direction k l) o false) slot
          ∙ ap (λ (e : Direction). context_writes e c l) direction

      came : part_came meaning p l ≡ context_came d c l
      came =
          cond-false (l.hop == 0) _ _ first ∙ ap (λ (o : Option (ContextView S)). option_map_or (λ (k : ContextView S). context_came (meaning k.stage).direction k l) o nowhere) slot
          ∙ ap (λ (e : Direction). context_came e c l) direction

  -- one of its ports is open
  port-open : (G : Type 0) → (c.up.is_open ≡ true → G) → (c.down.is_open ≡ true → G) → G
  port-open G up down = by (meaning c.stage).direction refl is-at.fits
    where
      upwards : c.up.lane ≡ data_lane p.path.channel (hop + 1)
      upwards = ap (λ (ls : List Lane). get_or ls 0 c.up.lane) is-at.lanes

      same : (l : Lane) → same_lane l l ≡ true
      same l = same_lane-self l

      by : (d : Direction) → (meaning c.stage).direction ≡ d → IsHop d hop p.path.tail_hop → G
      by Inbound e fits = up (opened c.up (sym (cond-true (same_lane c.up.lane c.up.lane) (port_point c.up) _ (same c.up.lane))
          ∙ at-start Inbound c.up.lane e (ap (λ (l : Lane). l.hop) upwards) (λ t. omega (arith, t, fits.0)) (or_left (same_lane c.up.lane c.up.lane) _ (same c.up.lane))))
      by Turn e fits = up (opened c.up (sym (cond-true (same_lane c.up.lane c.up.lane) (port_point c.up) _ (same c.up.lane))
          ∙ at-start Turn c.up.lane e (ap (λ (l : Lane). l.hop) upwards) (λ t. omega (arith, t, fits.0)) (or_left (same_lane c.up.lane c.up.lane) _ (same c.up.lane))))
      by Outbound e fits = down (opened c.down (sym (cond-true (same_lane c.down.lane c.down.lane) (port_point c.down) _ (same c.down.lane))
          ∙ at-start Outbound c.down.lane e (ap (λ (ls : List Lane). (get_or ls 1 c.up.lane).hop) is-at.lanes ∙ ap (λ (d : Direction). down_hop d hop p.path.tail_hop) e) (λ t. omega (arith, t, fits.0)) (or_left (same_lane c.down.lane c.down.lane) _ (same c.down.lane))))

  pub none-failed : c.failed_by_call ≡ false
  none-failed = false_from_ne_true c.failed_by_call (λ failed.
      let held = (holds.path.contexts hop c at).0.holds in
      let over = failed-over c.standing (held.by_call failed) in
      port-open ⊥ (λ up. both_ways c.up.is_open (held.up_over over) up) (λ down. both_ways c.down.is_open (held.down_over over) down))

-- ---- the shares of all channels

module _ {S T : Type 0} (meaning : S → Meaning) (stands_after : S → List Event → Type 0) (state : T → TransportState) (plan : Plan) (rs : List (Recorded S T)) (planned : plan.channels ≡ map (channel_planned meaning state) rs)
    (wholes : List (ChannelPartView S T)) (placed : AreWholeParts meaning stands_after state rs wholes) (x : ℕ) (parts : List (ChannelPartView S T)) (are : AreSharesOf meaning stands_after state wholes x parts) where
  -- a share is that of a placed channel
  pub record IsPlacedShare (c : ℕ) (share : ChannelPartView S T) : Type 0 where
    pub whole : ChannelPartView S T
    pub at : slice_get wholes c ≡ Some whole
    pub recorded : Recorded S T
    pub planned_at : slice_get plan.channels c ≡ Some (channel_planned meaning state recorded)
    pub is_placed : IsWholePart meaning stands_after state c recorded whole
    pub holds : PartHolds (world_of true plan) meaning stands_after state whole
    pub keeps : PartKeepsPlan state (channel_planned meaning state recorded) whole
    pub is : IsShareOf meaning stands_after state (λ e. e == x) whole share

  pub whole-of : (c : ℕ) (share : ChannelPartView S T) → slice_get parts c ≡ Some share → IsPlacedShare c share
  whole-of c share at =
      let size = are.count in
      let within = slice_get_within parts c share at in
      let whole = at-index wholes c (omega (arith, size, within)) in
      let r = recorded-at meaning stands_after state plan rs planned wholes placed c whole.0 whole.1 in
      record {
        whole = whole.0;
        at = whole.1;
        recorded = r.0;
        planned_at = r.2;
        is_placed = r.3;
        holds = r.3.holds true plan r.2;
        keeps = (starts-keep meaning stands_after state plan rs planned wholes placed).each c (channel_planned meaning state r.0) whole.0 r.2 whole.1;
        is = are.each c whole.0 share whole.1 at;
      }

  part-stands : (refused : Bool) (c : ℕ) (share : ChannelPartView S T) → IsPlacedShare c share → ShareStands (world_of true plan) meaning stands_after state x refused c share
  part-stands refused c share s = record {
    holds = s.is.holds (world_of true plan) s.holds;
    channel = s.is.share_is.path.channel ∙ s.is_placed.whole.channel_is;
    within = let tail = s.is.share_is.path.tail_hop ∙ s.keeps.tail_at in let head = s.is.share_is.path.slots ∙ s.keeps.head_at in omega (arith, tail, head);
    resident = share-resident x s.whole share s.holds.hops (has-all-nodes meaning state c (channel_planned meaning state s.recorded) s.recorded.transport s.whole s.is_placed.whole) s.is.share_is;
    called = λ unrefused hop k at. none-failed (world_of true plan) meaning stands_after state s.whole s.holds s.is_placed.unmoved hop k
        (only-some (executor_of s.whole.path hop == x) (context_at s.whole.path hop) k (sym (s.is.share_is.path.contexts hop) ∙ at));
  }

  -- of what there is none there is none in a share
  none-of : {A C : Type 0} (count : A → C) (zero : C) (mine : Bool) (slot : Option A) → option_map_or count slot zero ≡ zero → option_map_or count (only_if mine slot) zero ≡ zero
  none-of count zero true slot none = none
  none-of count zero false slot none = refl

  part-keeps : (c : ℕ) (share : ChannelPartView S T) (s : IsPlacedShare c share) → PartKeepsPlan state (channel_planned meaning state s.recorded) share
  part-keeps c share s = record {
    executors = s.is.share_is.path.executors ∙ s.keeps.executors;
    tail_at = s.is.share_is.path.tail_hop ∙ s.keeps.tail_at;
    head_at = s.is.share_is.path.slots ∙ s.keeps.head_at;
    head = λ h at. s.keeps.head h (only-some (executor_of s.whole.path (head_hop s.whole) == x) s.whole.head h (sym s.is.share_is.head ∙ at));
    handed = ap (λ (o : Option TailView). option_map_or (λ (t : TailView). t.handed) o 0) s.is.share_is.path.tail ∙ none-of (λ (t : TailView). t.handed) 0 (executor_of s.whole.path s.whole.path.tail_hop == x) s.whole.path.tail s.keeps.handed;
    gone = ap (λ (o : Option (HeadView T)). option_map_or (λ (h : HeadView T). gone_of h) o (0, false)) s.is.share_is.head ∙ none-of (λ (h : HeadView T). gone_of h) (0, false) (executor_of s.whole.path (head_hop s.whole) == x) s.whole.head s.keeps.gone;
  }

  pub shares-stand : (refused : Bool) → plan.executors ≤ MAX_EXECUTORS → x < plan.executors → NodesStand (world_of true plan) plan meaning stands_after state x refused parts
  shares-stand refused few within = record {
    parts = λ c share at. part-stands refused c share (whole-of c share at);
    keeps = record {
      count = are.count ∙ (starts-keep meaning stands_after state plan rs planned wholes placed).count;
      each = λ c q share is at.
          let s = whole-of c share at in
          subst (λ (k : ChannelPlan). PartKeepsPlan state k share) (same_Some (channel_planned meaning state s.recorded) q (sym s.planned_at ∙ is)) (part-keeps c share s);
    };
    number = omega (arith, few, within);
  }

  -- seats that nobody has used tell how their heads stand
  pub shares-tell : (heads seats : List (Option SeatsView)) → ((c : ℕ) (s : SeatsView) → slice_get heads c ≡ Some (Some s) → IsUnused s) → AreDealt heads parts seats → length heads ≡ length parts
      → (c : ℕ) → TellsAt seats parts c
  shares-tell heads seats new dealt same c s share h at there is =
      let w = whole-of c share there in
      let first = w.is_placed.whole.head in
      let head-is : first.0 ≡ h = same_Some first.0 h (sym first.1 ∙ only-some (executor_of w.whole.path (head_hop w.whole) == x) w.whole.head h (sym w.is.share_is.head ∙ is)) in
      subst (Tells s) head-is
      (new-tells state c (channel_planned meaning state w.recorded) w.recorded.transport first.0 s first.2 (new c s (dealt-at heads parts seats dealt same c s at)))
