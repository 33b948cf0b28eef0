-- What holds where a channel's lanes carry some events holds where they carry more behind them, but of a node that has ended.
use Rattle.std.proofs.Common.{◌≡◌, ℕ, ◌+◌, ◌<◌, ◌≤◌, Bool, true, false, not, ◌&&◌, List, [], ◌∷◌, ◌++◌, length, take, get_or, Option, Some, None, refl, sym, ap, subst, ◌∙◌, arith, length-append}
use Rattle.std.specs.Prelude.{is_some}
use Rattle.std.specs.Option.{option_map}
use Rattle.std.specs.List.{flat_map}
use Rattle.std.proofs.lemmas.Bool.{both_ways, and_parts}
use Rattle.std.proofs.lemmas.List.{take-append-le, append-nil}
use Rattle.std.proofs.lemmas.List.Concat.{flat_map-append}
use Rattle.std.proofs.lemmas.Option.{none-some, same_Some}
use Rattle.pl_event.specs.declared.elements.Element.{Element}
use Rattle.pl_event.specs.declared.envelopes.Lane.{Lane}
use Rattle.pl_event.specs.declared.events.Event.{Event}
use Rattle.pl_event.specs.declared.events.Event.TheVariants as event
use Rattle.pl_event.specs.declared.outcomes.Cause.{Cause}
use Rattle.pl_event.specs.declared.outcomes.Cause.TheVariants.{Memory, Refused, Aborted, Transport}
use Rattle.pl_event.specs.Hops.{data_lane}
use Rattle.pl_event.specs.Inputs.{Bursts, burst_events, recorded_input}
use Rattle.pl_event.specs.Meaning.{Meaning, up_of, down_of}
use Rattle.pl_event.specs.Worlds.{World, content_of}
use Rattle.pl_context.specs.declared.standing.Standing.{Standing}
use Rattle.pl_context.specs.declared.standing.Standing.TheVariants as standings
use Rattle.pl_context.specs.Standings.{cause_of, has_failed}
use Rattle.pl_context.specs.TailViews.{TailView}
use Rattle.pl_context.specs.ContextViews.{ContextView, has_down, down_hop}
use Rattle.pl_context.specs.Contexts.{StandsAfter}
use Rattle.pl_head.specs.declared.inputs.ReadPlan.{ReadPlan}
use Rattle.pl_head.specs.InputStand.{InputView, InputStands, fed_plan, takes_bursts}
use Rattle.pl_head.specs.HeadCalls.{HeadFeeds}
use Rattle.pl_head.specs.HeadStand.{HeadView, fed_head}
use Rattle.pl_head.specs.Transports.{TransportState}
use Rattle.pl_head.proofs.FedPlans.{fed_stands}
use Rattle.pl_part.proofs.HeadTaken.{took-from}
use Rattle.pl_part.specs.LaneStages.{LaneStage}
use Rattle.pl_part.specs.ContextHolds.{IsWired, IsPlanned, HoldsWith, ContextHolds}
use Rattle.pl_part.specs.TailHolds.{MayFailFor, TailHolds, TailHoldsWith}
use Rattle.pl_part.specs.HeadHolds.{HeadTook, HeadHolds}
use Rattle.pl_part.specs.Paths.{IsAt, context_at}
use Rattle.pl_part.specs.Parts.{ChannelPartView, PartHolds, head_hop}
use Rattle.pl_part.specs.Growing.{fed_part, CarriesAll, CarriesSame, MayBeFed}
use Rattle.pl_event.specs.declared.limits.TheConstants.{MAX_ITEMS}

-- ---- nodes, whose own lane carries these events and then the rest

may-grow : (world world' : World) (cause : Option Cause) → world'.refuses ≡ world.refuses → MayFailFor world cause → MayFailFor world' cause
may-grow world world' None same may = tt
may-grow world world' (Some Memory) same may = refl
may-grow world world' (Some Refused) same may = same ∙ may
may-grow world world' (Some Aborted) same may = refl
may-grow world world' (Some Transport) same may = refl

module _ (world world' : World) (events rest : List Event) where
  tail-grows : (t : TailView) → TailHoldsWith world events t → (t.standing ≡ standings.Ended → events ++ rest ≡ events)
      → content_of world' (data_lane t.channel t.hop) ≡ Some (events ++ rest) → length (events ++ rest) + 1 < MAX_ITEMS → MayFailFor world' (cause_of t.standing)
      → TailHoldsWith world' (events ++ rest) t
  tail-grows t s all own few may =
      let size = length-append events rest in
      record {
        own = own;
        few = few;
        gone = s.gone;
        handed = s.handed;
        taken = λ o. let x = s.taken o in let n = x.0 in (omega (arith, n, size), x.1 ∙ sym (take-append-le t.taken events rest n));
        ended = λ e. s.ended e ∙ sym (all e);
        failed = λ f. let x = s.failed f in let n = x.1 in (x.0, omega (arith, n, size), x.2 ∙ sym (take-append-le x.0 events rest n));
        may = may;
        flags = s.flags;
        flags_most = s.flags_most;
        flags_all = s.flags_all;
        few_taken = s.few_taken;
        few_flags = s.few_flags;
      }

  module _ {S : Type 0} (meaning : S → Meaning) (stands_after : S → List Event → Type 0) (m : Meaning) (c : ContextView S) (s : HoldsWith world meaning stands_after m events c)
      (all : c.standing ≡ standings.Ended → events ++ rest ≡ events) where
    open-taken : c.standing ≡ standings.Open → take c.taken (events ++ rest) ≡ take c.taken events
    open-taken o = take-append-le c.taken events rest (s.within o)

    -- what it took, while it has not failed
    same-taken : (standing : Standing) → c.standing ≡ standing → has_failed standing ≡ false → take c.taken (events ++ rest) ≡ take c.taken events
    same-taken standings.Open is f = open-taken is
    same-taken standings.Ended is f = ap (λ (xs : List Event). take c.taken xs) (all is)
    same-taken (standings.Failed cause) is f = absurd (both_ways true f refl)

    -- the first events of its lane are those
    stage-grows : LaneStage stands_after (events ++ rest) c.standing c.stage
    stage-grows = record {
      begun = λ m.
          let first = s.staged.begun m in
          let few = first.1 in
          let size = length-append events rest in
          (first.0, omega (arith, few, size), subst (λ (xs : List Event). stands_after c.stage xs) (sym (take-append-le first.0 events rest few)) first.2);
      whole = λ e. subst (λ (xs : List Event). stands_after c.stage xs) (sym (all e)) (s.staged.whole e);
    }

    context-grows : IsWired world' m (events ++ rest) c.channel c.hop c.up.lane c.down.lane c.flags.lane → HoldsWith world' meaning stands_after m (events ++ rest) c
    context-grows wired =
        let size = length-append events rest in
        record {
          meant = s.meant;
          wired = wired;
          within = λ o. let n = s.within o in omega (arith, n, size);
          stood = λ o. subst (λ (xs : List Event). StandsAfter meaning stands_after c xs) (sym (open-taken o)) (s.stood o);
          staged = stage-grows;
          up_open = s.up_open;
          down_open = λ o. s.down_open o ∙ ap (λ (xs : List Event). has_down m.direction && not (m.ended xs)) (sym (open-taken o));
          up_over = s.up_over;
          down_over = s.down_over;
          ended = λ e. subst (λ (xs : List Event). length xs ≤ c.taken) (sym (all e)) (s.ended e);
          up_given = λ e has. s.up_given e has ∙ ap (λ (xs : List Event). length (up_of m xs) + 1) (sym (all e));
          down_given = λ f has closed. s.down_given f has closed ∙ ap (λ (xs : List Event). length (down_of m xs) + 1) (sym (same-taken c.standing refl f));
          flags_open = s.flags_open;
          flags = s.flags;
          by_call = s.by_call;
          few = s.few;
        }

-- ---- a head, which is fed

pub input-more : (burst : List Element) (bursts : Bursts) → recorded_input (bursts ++ burst ∷ []) ≡ recorded_input bursts ++ burst_events burst
input-more burst bursts =
    ap (λ (es : List Event). event.Active ∷ es)
    (flat_map-append burst_events bursts (burst ∷ []) ∙ ap (λ (es : List Event). flat_map burst_events bursts ++ es) (append-nil (burst_events burst)))

not-some : {A : Type 0} (o : Option A) → is_some o ≡ false → o ≡ None
not-some None e = refl
not-some (Some x) e = absurd (both_ways true e refl)

not-failed : (failed left : Bool) → (not failed && left) ≡ true → failed ≡ false
not-failed false left e = refl
not-failed true left e = absurd (both_ways false refl e)

not-true : (b : Bool) → not b ≡ true → b ≡ false
not-true false e = refl
not-true true e = absurd (both_ways false refl e)

-- where a burst more may come the reads are open, with no abort behind them
pub reads-open : (r : InputView) → takes_bursts r ≡ true → (r.port.is_open ≡ true) × (r.aborts ≡ false)
reads-open r more = let both = and_parts r.port.is_open (not r.aborts) more in (both.0, not-true r.aborts both.1)

-- and they go by the bursts of their plan alone
pub reads-on : (plan : ReadPlan) (reads : ℕ) (failed : Bool) (r : InputView) → InputStands plan reads failed r → takes_bursts r ≡ true → InputStands (fed_plan plan.bursts) reads false r
reads-on plan reads failed r s more =
    let may = reads-open r more in
    let none : plan.abort_after ≡ None = not-some plan.abort_after (sym s.aborts ∙ may.1) in
    let live : failed ≡ false = not-failed failed _ (sym s.is_open ∙ may.0) in
    subst (λ (x : Option ℕ × Bool). InputStands (record { bursts = plan.bursts; abort_after = x.0 }) reads x.1 r) (λ i. (none i, live i)) s

module _ {T : Type 0} (state : T → TransportState) (burst : List Element) (h : HeadView T) where
  -- it has taken as much
  head-took : (events rest : List Event) → HeadTook state events h → (h.standing ≡ standings.Ended → events ++ rest ≡ events) → HeadTook state (events ++ rest) (fed_head burst h)
  head-took events rest s all =
      let size = length-append events rest in
      let within = s.within in
      took-from state events h (fed_head burst h) s s.sizes s.after refl refl (events ++ rest) (omega (arith, within, size)) (sym (take-append-le s.count events rest within)) s.most s.running
      (λ e. s.ended e ∙ ap (λ (xs : List Event). length xs) (sym (all e)))

  head-grows : (world world' : World) (rest : List Event) (s : HeadHolds state world h) → world'.refuses ≡ world.refuses → (h.standing ≡ standings.Ended → s.events ++ rest ≡ s.events)
      → content_of world' (data_lane h.channel h.hop) ≡ Some (s.events ++ rest) → length (s.events ++ rest) + 1 < MAX_ITEMS
      → content_of world' (data_lane h.channel 0) ≡ Some (recorded_input s.plan.bursts ++ burst_events burst) → length (recorded_input s.plan.bursts ++ burst_events burst) + 1 < MAX_ITEMS
      → takes_bursts h.input ≡ true → HeadHolds state world' (fed_head burst h)
  head-grows world world' rest s refuses all own few input few_input more =
      let t = s.holds in
      let size = length-append s.events rest in
      let most = t.most in
      let bursts = s.plan.bursts in
      let again = sym (input-more burst bursts) in
      record {
        plan = fed_plan (bursts ++ burst ∷ []);
        events = s.events ++ rest;
        holds = record {
          own = own;
          few = few;
          took = head-took s.events rest t.took all;
          most = omega (arith, most, size);
          may = may-grow world world' (cause_of h.standing) refuses t.may;
          may_itself = may-grow world world' h.failure refuses t.may_itself;
          input = input ∙ ap Some again;
          few_input = subst (λ (xs : List Event). length xs + 1 < MAX_ITEMS) again few_input;
          reads = (t.reads.0, false, fed_stands bursts burst t.reads.0 h.input (reads-open h.input more).0 (reads-on s.plan t.reads.0 t.reads.1 h.input t.reads.2 more));
          entrance = t.entrance;
          flags = t.flags;
          few_flags = t.few_flags;
        };
      }

-- ---- a call that feeds the head of a part

module _ {S T : Type 0} (p v : ChannelPartView S T) (is : v ≡ p) (h : HeadView T) (at : v.head ≡ Some h) where
  pub has-head : p.head ≡ Some h
  has-head = sym (ap (λ (x : ChannelPartView S T). x.head) is) ∙ at

  module _ (burst : List Element) (h' : HeadView T) where
    pub fed-of : h' ≡ fed_head burst h → record v { head = Some h' } ≡ fed_part burst p
    fed-of same =
        ap (λ (x : HeadView T). record v { head = Some x }) same
        ∙ (λ i. record { path = v.path; head = option_map (fed_head burst) (sym at i) })
        ∙ ap (λ (x : ChannelPartView S T). fed_part burst x) is

    pub kept-of : h' ≡ h → record v { head = Some h' } ≡ p
    kept-of same = ap (λ (x : HeadView T). record v { head = Some x }) same ∙ (λ i. record { path = v.path; head = sym at i }) ∙ is

    pub feeds-of : HeadFeeds burst h h' → (x fed : HeadView T) → p.head ≡ Some x → Some h' ≡ Some fed → HeadFeeds burst x fed
    feeds-of feeds x fed own new =
        subst (λ (y : HeadView T). HeadFeeds burst x y) (same_Some h' fed new) (subst (λ (y : HeadView T). HeadFeeds burst y h') (same_Some h x (sym has-head ∙ own)) feeds)

-- ---- a part

module _ {S T : Type 0} (world world' : World) (meaning : S → Meaning) (stands_after : S → List Event → Type 0) (state : T → TransportState) (burst : List Element) (p : ChannelPartView S T)
    (f : MayBeFed world world' meaning burst p) (s : PartHolds world meaning stands_after state p) where
  abbrev channel : ℕ
  channel = p.path.channel

  -- a lane that carries no more carries all that there is
  all-there : (hop : ℕ) (events rest : List Event) → content_of world (data_lane channel hop) ≡ Some events → content_of world' (data_lane channel hop) ≡ Some (events ++ rest) → CarriesSame world world' channel hop → events ++ rest ≡ events
  all-there hop events rest own more same = same_Some (events ++ rest) events (sym more ∙ same ∙ own)

  -- what a node's own lane carries, at the node's place
  own-at : (w : World) (number at hop : ℕ) (events : List Event) → number ≡ channel → at ≡ hop → content_of w (data_lane number at) ≡ Some events → content_of w (data_lane channel hop) ≡ Some events
  own-at w number at hop events there is own = (λ i. content_of w (data_lane (sym there i) (sym is i))) ∙ own

  at-own : (w : World) (number at hop : ℕ) (events : List Event) → number ≡ channel → at ≡ hop → content_of w (data_lane channel hop) ≡ Some events → content_of w (data_lane number at) ≡ Some events
  at-own w number at hop events there is own = (λ i. content_of w (data_lane (there i) (is i))) ∙ own

  module _ (hop : ℕ) (c : ContextView S) (events : List Event) (at : IsAt meaning channel hop p.path.tail_hop p.path.turn c) (planned : IsPlanned world' (meaning c.stage) events channel hop p.path.tail_hop) where
    -- the lanes of a context are those of its place
    above-is : c.up.lane ≡ data_lane channel (hop + 1)
    above-is = ap (λ (ls : List Lane). get_or ls 0 c.up.lane) at.lanes

    below-is : c.down.lane ≡ data_lane channel (down_hop (meaning c.stage).direction hop p.path.tail_hop)
    below-is = ap (λ (ls : List Lane). get_or ls 1 c.down.lane) at.lanes

    wired-again : (before : List Event) → IsWired world (meaning c.stage) before c.channel c.hop c.up.lane c.down.lane c.flags.lane → IsWired world' (meaning c.stage) events c.channel c.hop c.up.lane c.down.lane c.flags.lane
    wired-again before w = record {
      own = at-own world' c.channel c.hop hop events at.channel_is at.hop_is planned.own;
      up = λ has. ap (content_of world') above-is ∙ planned.up has;
      down = λ has. ap (content_of world') below-is ∙ planned.down has;
      up_kind = w.up_kind;
      down_kind = w.down_kind;
      flags_kind = w.flags_kind;
      apart = w.apart;
      few = planned.few;
      few_up = planned.few_up;
      few_down = planned.few_down;
    }

  context-holds : (hop : ℕ) (c : ContextView S) → context_at p.path hop ≡ Some c → ContextHolds world' meaning stands_after c × IsAt meaning channel hop p.path.tail_hop p.path.turn c
  context-holds hop c there =
      let was = s.path.contexts hop c there in
      let held = was.0 in
      let at = was.1 in
      let events = held.events in
      let own = own-at world c.channel c.hop hop events at.channel_is at.hop_is held.holds.wired.own in
      let more = f.more.lanes hop events own in
      let planned = f.contexts hop c there in
      let same : planned.0 ≡ events ++ more.0 = same_Some planned.0 (events ++ more.0) (sym planned.1.own ∙ more.1) in
      let wired = wired-again hop c planned.0 at planned.1 events held.holds.wired in (
        record {
          events = events ++ more.0;
          holds = context-grows world world' events more.0 meaning stands_after (meaning c.stage) c held.holds (λ e. all-there hop events more.0 own more.1 (f.context_ended hop c there e))
              (subst (λ (xs : List Event). IsWired world' (meaning c.stage) xs c.channel c.hop c.up.lane c.down.lane c.flags.lane) same wired);
        },
        at,
      )

  tail-holds : (t : TailView) → p.path.tail ≡ Some t → TailHolds world' t × (t.channel ≡ channel) × (t.hop ≡ p.path.tail_hop)
  tail-holds t there =
      let was = s.path.tail t there in
      let held = was.0 in
      let events = held.events in
      let own = own-at world t.channel t.hop p.path.tail_hop events was.1 was.2 held.holds.own in
      let more = f.more.lanes p.path.tail_hop events own in (
        record {
          events = events ++ more.0;
          holds = tail-grows world world' events more.0 t held.holds (λ e. all-there p.path.tail_hop events more.0 own more.1 (f.tail_ended t there e))
              (at-own world' t.channel t.hop p.path.tail_hop (events ++ more.0) was.1 was.2 more.1) more.2 (may-grow world world' (cause_of t.standing) f.more.refuses held.holds.may);
        },
        was.1,
        was.2,
      )

  head-holds : (h : HeadView T) → p.head ≡ Some h → HeadHolds state world' (fed_head burst h) × (h.channel ≡ channel) × (h.hop ≡ head_hop p)
  head-holds h there =
      let was = s.head h there in
      let held = was.0 in
      let events = held.events in
      let read = recorded_input held.plan.bursts in
      let own = own-at world h.channel h.hop (head_hop p) events was.1 was.2 held.holds.own in
      let more = f.more.lanes (head_hop p) events own in
      let first = own-at world h.channel 0 0 read was.1 refl held.holds.input in
      let fed = f.input read first in
      let short = f.more.lanes 0 read first in
      let same : read ++ short.0 ≡ read ++ burst_events burst = same_Some (read ++ short.0) (read ++ burst_events burst) (sym short.1 ∙ fed) in (
        head-grows state burst h world world' more.0 held f.more.refuses (λ e. all-there (head_hop p) events more.0 own more.1 (f.head_ended h there e))
            (at-own world' h.channel h.hop (head_hop p) (events ++ more.0) was.1 was.2 more.1) more.2
            (at-own world' h.channel 0 0 (read ++ burst_events burst) was.1 refl fed) (subst (λ (xs : List Event). length xs + 1 < MAX_ITEMS) same short.2) (f.reads h there),
        was.1,
        was.2,
      )

  fed-holds : (o : Option (HeadView T)) → ((h : HeadView T) → o ≡ Some h → HeadHolds state world' (fed_head burst h) × (h.channel ≡ channel) × (h.hop ≡ head_hop p))
      → (h : HeadView T) → option_map (fed_head burst) o ≡ Some h → HeadHolds state world' h × (h.channel ≡ channel) × (h.hop ≡ head_hop p)
  fed-holds None holds h at = absurd (none-some h at)
  fed-holds (Some x) holds h at =
      subst (λ (y : HeadView T). HeadHolds state world' y × (y.channel ≡ channel) × (y.hop ≡ head_hop p)) (same_Some (fed_head burst x) h at) (holds x refl)

  -- Fed that burst, it holds in the second world.
  pub part-grows : PartHolds world' meaning stands_after state (fed_part burst p)
  part-grows = record {
    path = record { contexts = context-holds; tail = tail-holds; few = s.path.few };
    head = fed-holds p.head head-holds;
    hops = s.hops;
  }

-- ---- a part of which no lane carries more

module _ {S T : Type 0} (world world' : World) (meaning : S → Meaning) (stands_after : S → List Event → Type 0) (state : T → TransportState) (p : ChannelPartView S T)
    (same : CarriesAll world world' p.path.channel) (s : PartHolds world meaning stands_after state p) where
  -- what a lane of the channel carries
  still : (l : Lane) (hop : ℕ) (events : List Event) → l ≡ data_lane p.path.channel hop → content_of world l ≡ Some events → content_of world' l ≡ Some events
  still l hop events is own = ap (content_of world') is ∙ same.lanes hop events (sym (ap (content_of world) is) ∙ own)

  as-much : {events : List Event} → events ++ [] ≡ events
  as-much {events = events} = append-nil events

  short : (events : List Event) → length events + 1 < MAX_ITEMS → length (events ++ []) + 1 < MAX_ITEMS
  short events few = subst (λ (xs : List Event). length xs + 1 < MAX_ITEMS) (sym as-much) few

  context-stays : (hop : ℕ) (c : ContextView S) → context_at p.path hop ≡ Some c → ContextHolds world' meaning stands_after c × IsAt meaning p.path.channel hop p.path.tail_hop p.path.turn c
  context-stays hop c there =
      let was = s.path.contexts hop c there in
      let events = was.0.events in
      let w = was.0.holds.wired in
      let at = was.1 in
      let wired : IsWired world' (meaning c.stage) events c.channel c.hop c.up.lane c.down.lane c.flags.lane = record {
        own = still (data_lane c.channel c.hop) hop events (λ i. data_lane (at.channel_is i) (at.hop_is i)) w.own;
        up = λ has. still c.up.lane (hop + 1) (up_of (meaning c.stage) events) (ap (λ (ls : List Lane). get_or ls 0 c.up.lane) at.lanes) (w.up has);
        down = λ has. still c.down.lane (down_hop (meaning c.stage).direction hop p.path.tail_hop) (down_of (meaning c.stage) events) (ap (λ (ls : List Lane). get_or ls 1 c.down.lane) at.lanes) (w.down has);
        up_kind = w.up_kind;
        down_kind = w.down_kind;
        flags_kind = w.flags_kind;
        apart = w.apart;
        few = w.few;
        few_up = w.few_up;
        few_down = w.few_down;
      } in (
        record {
          events = events ++ [];
          holds = context-grows world world' events [] meaning stands_after (meaning c.stage) c was.0.holds (λ _. as-much)
              (subst (λ (xs : List Event). IsWired world' (meaning c.stage) xs c.channel c.hop c.up.lane c.down.lane c.flags.lane) (sym as-much) wired);
        },
        at,
      )

  tail-stays : (t : TailView) → p.path.tail ≡ Some t → TailHolds world' t × (t.channel ≡ p.path.channel) × (t.hop ≡ p.path.tail_hop)
  tail-stays t there =
      let was = s.path.tail t there in
      let events = was.0.events in
      let held = was.0.holds in (
        record {
          events = events ++ [];
          holds = tail-grows world world' events [] t held (λ _. as-much)
              (still (data_lane t.channel t.hop) p.path.tail_hop events (λ i. data_lane (was.1 i) (was.2 i)) held.own ∙ ap Some (sym as-much))
              (short events held.few) (may-grow world world' (cause_of t.standing) same.refuses held.may);
        },
        was.1,
        was.2,
      )

  head-stays : (h : HeadView T) → p.head ≡ Some h → HeadHolds state world' h × (h.channel ≡ p.path.channel) × (h.hop ≡ head_hop p)
  head-stays h there =
      let was = s.head h there in
      let held = was.0.holds in (
        record {
          plan = was.0.plan;
          events = was.0.events;
          holds = record {
            own = still (data_lane h.channel h.hop) (head_hop p) was.0.events (λ i. data_lane (was.1 i) (was.2 i)) held.own;
            few = held.few;
            took = held.took;
            most = held.most;
            may = may-grow world world' (cause_of h.standing) same.refuses held.may;
            may_itself = may-grow world world' h.failure same.refuses held.may_itself;
            input = still (data_lane h.channel 0) 0 (recorded_input was.0.plan.bursts) (λ i. data_lane (was.1 i) 0) held.input;
            few_input = held.few_input;
            reads = held.reads;
            entrance = held.entrance;
            flags = held.flags;
            few_flags = held.few_flags;
          };
        },
        was.1,
        was.2,
      )

  -- It holds in the second world too.
  pub part-stays : PartHolds world' meaning stands_after state p
  part-stays = record {
    path = record { contexts = context-stays; tail = tail-stays; few = s.path.few };
    head = head-stays;
    hops = s.hops;
  }
