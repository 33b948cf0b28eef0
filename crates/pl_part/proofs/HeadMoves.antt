-- A head moves: how it stands then, and what it has put out.
use Rattle.std.proofs.Common.{◌≡◌, ℕ, suc, ◌+◌, ◌≤◌, ◌<◌, ◌^◌, Bool, true, false, not, ◌||◌, ◌&&◌, cond, List, [], ◌∷◌, ◌++◌, length, take, Option, Some, None, refl, sym, ap, ◌∙◌, subst, ⊎_elim, arith, inl, inr, append-nil, append_assoc}
use Rattle.std.specs.Prelude.{is_some, if◌then◌else◌, nat_lt}
use Rattle.std.specs.List.{slice_get}
use Rattle.std.proofs.lemmas.Option.{slice_get_within}
use Rattle.std.proofs.lemmas.Bool.{cases_Bool, both_ways, cond-true, cond-false, and_parts, ltb-true, or_right, or_left, and_right, not-true}
use Rattle.std.proofs.Math.Bool.{and-false}
use Rattle.pl_event.specs.declared.events.Event.{Event}
use Rattle.pl_event.specs.declared.outcomes.Cause.{Cause}
use Rattle.pl_event.specs.declared.outcomes.Cause.TheVariants.{Memory, Aborted}
use Rattle.pl_event.specs.declared.envelopes.Kind.TheVariants.{Data, Flags}
use Rattle.pl_event.specs.declared.envelopes.Item.{Item}
use Rattle.pl_event.specs.declared.envelopes.Item.TheVariants as item
use Rattle.pl_event.specs.declared.envelopes.Lane.{Lane}
use Rattle.pl_event.specs.declared.envelopes.Envelope.{Envelope}
use Rattle.pl_event.specs.Fitting.{Fits}
use Rattle.pl_event.specs.Hops.{same_hop, same_lane, data_lane, flags_lane}
use Rattle.pl_event.specs.Inputs.{recorded_input}
use Rattle.pl_event.specs.Worlds.{World, MayCome, content_of, may_fail, closes}
use Rattle.pl_event.proofs.SameLanes.{same_lane-equal, same_lane-self}
use Rattle.pl_context.specs.declared.ports.Port.{Port}
use Rattle.pl_context.specs.declared.standing.Standing.{Standing}
use Rattle.pl_context.specs.declared.standing.Standing.TheVariants as standings
use Rattle.pl_context.specs.declared.standing.Took.{Took}
use Rattle.pl_context.specs.declared.standing.Took.TheVariants as took
use Rattle.pl_context.specs.Standings.{is_over, cause_of}
use Rattle.pl_context.specs.Stops.{HasPlaces, AreAmong}
use Rattle.pl_context.specs.OutputsViews.{OutputsView, PutsAll}
use Rattle.pl_context.specs.Ports.{numbered, offered, port_after, all_go_on}
use Rattle.pl_flow.specs.Flows.{Point, point, nowhere, IsGood}
use Rattle.pl_flow.specs.Makes.{Makes, AreGood}
use Rattle.pl_flow.proofs.ItemLemmas.{failure-good}
use Rattle.pl_flow.proofs.MakeLemmas.{makes-none, makes-then}
use Rattle.pl_head.specs.declared.inputs.ReadPlan.{ReadPlan}
use Rattle.pl_head.specs.declared.heads.OutStep.{OutStep}
use Rattle.pl_head.specs.declared.heads.OutStep.TheVariants as step
use Rattle.pl_head.specs.declared.heads.ReadStep.{ReadStep}
use Rattle.pl_head.specs.declared.heads.ReadStep.TheVariants as reading
use Rattle.pl_head.specs.Marks.{Change, Removed, flags}
use Rattle.pl_head.specs.Transports.{TransportState}
use Rattle.pl_head.specs.Writes.{out}
use Rattle.pl_head.specs.MarksStand.{SendsFlags}
use Rattle.pl_head.specs.ReadSteps.{entrance, bursts_read, plan_steps, has_step, read_items, step_items, is_abort, brings_failure, brings_abort, next_step_items, steps_after}
use Rattle.pl_head.specs.InputStand.{InputView, InputStands}
use Rattle.pl_head.specs.HeadStand.{HeadView, BufferAfter, HeadStandsAfter, ReadsStand, Aborts, EntersHead, lane_over, Answers, waiting_at, events_before, events_from, item_sizes, standing_after, cause_of_item, cause_of_step, step_sizes, HasFewFlags, gone_of}
use Rattle.pl_head.proofs.ReadSteps.{items_of_step, number_of_step, abort_is, stands_after}
use Rattle.pl_head.proofs.FlagSteps.{places_stay}
use Rattle.pl_part.specs.ContextHolds.{port_point}
use Rattle.pl_part.specs.TailHolds.{MayFailFor}
use Rattle.pl_part.specs.HeadHolds.{HeadHolds, HeadHoldsWith, HeadTook, head_writes, head_came, head_lanes}
use Rattle.pl_head.specs.HeadCalls.{HeadTakes, HeadReads, HeadWrites, HeadAborts}
use Rattle.pl_part.specs.Counts.{head_done}
use Rattle.pl_part.specs.PartCalls.{HeadGiven}
use Rattle.pl_part.proofs.Causes.{may-first}
use Rattle.pl_part.proofs.HeadTaken.{took-again, took-same}
use Rattle.pl_part.proofs.EventLists.{split-at, fits-within}
use Rattle.pl_part.proofs.ItemFits.{data-fits, data-may}
use Rattle.pl_part.proofs.PortMakes.{makes-to, moved, port-puts}
use Rattle.pl_part.proofs.HeadFlags.{flags-fit, flags-make, passes-more, with_port}
use Rattle.pl_part.proofs.ReadItems.{step-good, number-within, one-most, items-most}
use Rattle.pl_part.proofs.ContextPlaces.{puts-places, offered-among}
use Rattle.pl_part.proofs.ContextCounts.{puts-length, offered-length}

-- ---- a lane that is open

open-is : (s : Standing) (closed : Bool) → (is_over s || closed) ≡ false → s ≡ standings.Open
open-is standings.Open closed e = refl
open-is standings.Ended closed e = cc
open-is (standings.Failed c) closed e = cc

-- ---- the lanes of a head

apart : (channel : ℕ) (l : Lane) → same_lane l (data_lane channel 0) ≡ true → same_lane l (flags_lane channel 0) ≡ false
apart channel l d = ⊎_elim
    (λ (t : same_lane l (flags_lane channel 0) ≡ true).
    let both : data_lane channel 0 ≡ flags_lane channel 0 = sym (same_lane-equal l (data_lane channel 0) d) ∙ same_lane-equal l (flags_lane channel 0) t in
    absurd (no (ap (λ (m : Lane). m.kind) both)))
    (λ (f : same_lane l (flags_lane channel 0) ≡ false). f)
    (cases_Bool (same_lane l (flags_lane channel 0)))
  where
    no : Data ≡ Flags → ⊥
    no e = cc

-- how far two lanes have come
abbrev pub two_came : ℕ → Point → Point → Lane → Point
two_came channel x y l = cond (same_lane l (data_lane channel 0)) x (cond (same_lane l (flags_lane channel 0)) y nowhere)

flags-came : (channel : ℕ) (x : Point) (f f' : Port) → f.lane ≡ flags_lane channel 0 → (l : Lane) → two_came channel x (port_point f') l ≡ with_port (two_came channel x (port_point f)) f f' l
flags-came channel x f f' lane l = ⊎_elim
    (λ (t : same_lane l f.lane ≡ true).
    let here = ap (λ (m : Lane). same_lane l m) (sym lane) ∙ t in
    let other : same_lane l (data_lane channel 0) ≡ false = ⊎_elim
    (λ (d : same_lane l (data_lane channel 0) ≡ true). absurd (both_ways (same_lane l (flags_lane channel 0)) (apart channel l d) here))
    (λ (d : same_lane l (data_lane channel 0) ≡ false). d)
    (cases_Bool (same_lane l (data_lane channel 0))) in
    cond-false (same_lane l (data_lane channel 0)) x _ other
    ∙ cond-true (same_lane l (flags_lane channel 0)) (port_point f') nowhere here
    ∙ sym (cond-true (same_lane l f.lane) (port_point f') (two_came channel x (port_point f) l) t))
    (λ (n : same_lane l f.lane ≡ false).
    let off = ap (λ (m : Lane). same_lane l m) (sym lane) ∙ n in
    ap (λ (p : Point). cond (same_lane l (data_lane channel 0)) x p)
    (cond-false (same_lane l (flags_lane channel 0)) (port_point f') nowhere off ∙ sym (cond-false (same_lane l (flags_lane channel 0)) (port_point f) nowhere off))
    ∙ sym (cond-false (same_lane l f.lane) (port_point f') (two_came channel x (port_point f) l) n))
    (cases_Bool (same_lane l f.lane))

reads-came : (channel : ℕ) (p : Port) (is : List Item) (x y : Point) → p.lane ≡ data_lane channel 0 → x ≡ port_point (port_after is p)
    → (l : Lane) → two_came channel x y l ≡ moved (two_came channel (port_point p) y) p (port_after is p) l
reads-came channel p is x y lane at l = ⊎_elim
    (λ (t : same_lane l (data_lane channel 0) ≡ true).
    let here = ap (λ (m : Lane). same_lane l m) lane ∙ t in
    cond-true (same_lane l (data_lane channel 0)) x _ t ∙ at
    ∙ ⊎_elim
    (λ (o : p.is_open ≡ true). sym (cond-true (p.is_open && same_lane l p.lane) (port_point (port_after is p)) (two_came channel (port_point p) y l) (ap (λ (b : Bool). b && same_lane l p.lane) o ∙ here)))
    (λ (s : p.is_open ≡ false).
    ap (λ (b : Bool). point (cond b (p.made + length is) p.made) (not (b && all_go_on is))) s ∙ ap (λ (b : Bool). point p.made (not b)) (sym s)
    ∙ sym (cond-true (same_lane l (data_lane channel 0)) (port_point p) _ t)
    ∙ sym (cond-false (p.is_open && same_lane l p.lane) (port_point (port_after is p)) (two_came channel (port_point p) y l) (ap (λ (b : Bool). b && same_lane l p.lane) s)))
    (cases_Bool p.is_open))
    (λ (n : same_lane l (data_lane channel 0) ≡ false).
    let off = ap (λ (m : Lane). same_lane l m) lane ∙ n in
    cond-false (same_lane l (data_lane channel 0)) x _ n
    ∙ sym (cond-false (same_lane l (data_lane channel 0)) (port_point p) _ n)
    ∙ sym (cond-false (p.is_open && same_lane l p.lane) (port_point (port_after is p)) (two_came channel (port_point p) y l) (and_right p.is_open (same_lane l p.lane) off)))
    (cases_Bool (same_lane l (data_lane channel 0)))

module _ {T : Type 0} (state : T → TransportState) (h : HeadView T) where
  -- the flags that were sent, whichever sizes were added and removed
  flags-sent : (ys zs : List Event) (sizes : List Change) → HeadStandsAfter state h ys zs sizes → h.buffer.flags.is_open ≡ true → h.buffer.flags.made ≡ length (flags h.buffer.low h.buffer.high sizes)
  flags-sent ys zs sizes after o = by h.failure after
    where
      by : (f : Option Cause) → BufferAfter f (state h.transport).accepted h.buffer ys zs (is_over h.standing) sizes → h.buffer.flags.made ≡ length (flags h.buffer.low h.buffer.high sizes)
      by None a = a.1.marks.sent o
      by (Some c) a = a.marks.sent o

  -- before a failure of its own nothing is taken late
  none-late : (ys zs : List Event) (sizes : List Change) → HeadStandsAfter state h ys zs sizes → h.failure ≡ None → zs ≡ []
  none-late ys zs sizes after e = (subst (λ (f : Option Cause). BufferAfter f (state h.transport).accepted h.buffer ys zs (is_over h.standing) sizes) e after).0

-- It has taken nothing, and is at its place; it holds again, and what it has put is the next of its lanes.
pub record Moved {T : Type 0} (state : T → TransportState) (world : World) (plan : ReadPlan) (events : List Event) (h h' : HeadView T) (b a : OutputsView) : Type 0 where
  pub same_node : (h'.channel ≡ h.channel) × (h'.hop ≡ h.hop) × (gone_of h' ≡ gone_of h)
  pub taken : h'.taken ≡ h.taken
  pub holds : HeadHoldsWith state world plan events h'
  pub makes : Makes world (head_writes h) (head_came h) (head_came h') b a
  pub places : (lanes : List Lane) → AreAmong (head_lanes h) lanes → HasPlaces b.stopped lanes → HasPlaces a.stopped lanes
  pub more : head_done h + length a.items ≤ head_done h' + length b.items

-- ---- why it has failed

may-item : (world : World) (failed : Bool) (i : Item) (answer : Took) → Answers failed i answer → MayFailFor world (cause_of_item i answer)
may-item world failed (item.Event x) answer (inl ran) = subst (λ r. MayFailFor world (cause_of_item (item.Event x) r)) (sym ran) tt
may-item world failed (item.Event x) answer (inr memory) = subst (λ r. MayFailFor world (cause_of_item (item.Event x) r)) (sym memory.0) refl
may-item world failed item.End answer a = tt
may-item world failed (item.Fail c) answer a = tt
may-item world failed (item.Flag v) answer a = tt

may-step : (world : World) (answer : OutStep) → MayFailFor world (cause_of_step answer)
may-step world (step.Wrote n) = tt
may-step world step.Idle = tt
may-step world step.Failed = refl

may-after : (world : World) (failed : Bool) (i : Item) → MayCome world i → MayFailFor world (cause_of (standing_after failed i))
may-after world failed (item.Event x) may = tt
may-after world true item.End may = tt
may-after world false item.End may = tt
may-after world true (item.Fail c) may = tt
may-after world false (item.Fail c) may = may
may-after world failed (item.Flag v) may = tt

module _ {T : Type 0} (state : T → TransportState) (world : World) (plan : ReadPlan) (events : List Event) (h : HeadView T) (k : HeadHoldsWith state world plan events h) where
  abbrev Held : HeadView T → Type 0
  Held z = HeadHoldsWith state world plan events z

  -- What comes of a move in which it takes nothing.
  abbrev Moves : HeadView T → OutputsView → OutputsView → Type 0
  Moves z b a = Moved state world plan events h z b a

  -- it holds again, at its place
  pub again : (h' : HeadView T) → h'.channel ≡ h.channel → h'.hop ≡ h.hop → h'.taken ≤ length events + 1 → HeadTook state events h' → (reads : ℕ) × (failed : Bool) × ReadsStand plan reads failed h'
      → h'.input.port.lane ≡ h.input.port.lane → h'.buffer.flags.lane ≡ h.buffer.flags.lane → HasFewFlags h' → MayFailFor world (cause_of h'.standing) → MayFailFor world h'.failure → Held h'
  again h' c p most t reads entrance fl few may itself = record {
    own = (λ i. content_of world (data_lane (c i) (p i))) ∙ k.own;
    few = k.few;
    took = t;
    most = most;
    may = may;
    may_itself = itself;
    input = (λ i. content_of world (data_lane (c i) 0)) ∙ k.input;
    few_input = k.few_input;
    reads = reads;
    entrance = entrance ∙ k.entrance ∙ ap (λ n. data_lane n 0) (sym c);
    flags = fl ∙ k.flags ∙ ap (λ n. flags_lane n 0) (sym c);
    few_flags = few;
  }

  still-may : (h' : HeadView T) → h'.standing ≡ h.standing → MayFailFor world (cause_of h'.standing)
  still-may h' same = subst (λ s. MayFailFor world (cause_of s)) (sym same) k.may

  -- ---- its lanes

  writes-flags : head_writes h h.buffer.flags.lane ≡ true
  writes-flags = or_right (same_lane h.buffer.flags.lane (data_lane h.channel 0)) _ (ap (λ (m : Lane). same_lane m (flags_lane h.channel 0)) k.flags ∙ same_lane-self (flags_lane h.channel 0))

  writes-reads : head_writes h h.input.port.lane ≡ true
  writes-reads = or_left (same_lane h.input.port.lane (data_lane h.channel 0)) _ (ap (λ (m : Lane). same_lane m (data_lane h.channel 0)) k.entrance ∙ same_lane-self (data_lane h.channel 0))

  few-made : (h' : HeadView T) → h'.taken ≤ length events + 1 → HasFewFlags h' → h'.buffer.flags.made < 2 ^ 32
  few-made h' most few = let small = k.few in omega (arith, most, few, small)

  -- flags that sizes send, with the reads where they are
  flags-makes : (x : Point) (ys zs : List Event) (sizes more : List Change) (b a : OutputsView) (f : Port) → HeadStandsAfter state h ys zs sizes
      → SendsFlags h.buffer.low h.buffer.high sizes more h.buffer.flags b f a → f.made < 2 ^ 32
      → Makes world (head_writes h) (two_came h.channel x (port_point h.buffer.flags)) (two_came h.channel x (port_point f)) b a
  flags-makes x ys zs sizes more b a f after sends small =
      let from = two_came h.channel x (port_point h.buffer.flags) in
      makes-to world (head_writes h) from (with_port from h.buffer.flags f) (two_came h.channel x (port_point f)) b a
      (flags-make world (head_writes h) sends.added h.buffer.flags f b a from (ap (λ (m : Lane). m.kind) k.flags) writes-flags
      (λ o. flags-fit h.buffer.low h.buffer.high sizes more sends.added h.buffer.flags.made sends.flags_are (flags-sent state h ys zs sizes after o)) small
      (flags-at x) sends.passes)
      (λ l n. flags-came h.channel x h.buffer.flags f k.flags l)
    where
      flags-at : (x : Point) → two_came h.channel x (port_point h.buffer.flags) h.buffer.flags.lane ≡ port_point h.buffer.flags
      flags-at x =
          ap (λ (m : Lane). two_came h.channel x (port_point h.buffer.flags) m) k.flags
          ∙ cond-false (same_lane (flags_lane h.channel 0) (data_lane h.channel 0)) x _ (off (same_lane (flags_lane h.channel 0) (data_lane h.channel 0)) refl)
          ∙ cond-true (same_lane (flags_lane h.channel 0) (flags_lane h.channel 0)) (port_point h.buffer.flags) nowhere (same_lane-self (flags_lane h.channel 0))
        where
          off : (b : Bool) → same_lane (flags_lane h.channel 0) (data_lane h.channel 0) ≡ b → same_lane (flags_lane h.channel 0) (data_lane h.channel 0) ≡ false
          off false e = e
          off true e = absurd (both_ways (same_lane (flags_lane h.channel 0) (flags_lane h.channel 0)) (apart h.channel (flags_lane h.channel 0) e) (same_lane-self (flags_lane h.channel 0)))

  -- items of the lane of its reads, with the flags where they are
  reads-makes : (y x : Point) (is : List Item) (b a : OutputsView) → (h.input.port.is_open ≡ true → AreGood world h.input.port.lane h.input.port.made is) → x ≡ port_point (port_after is h.input.port)
      → PutsAll b (offered h.input.port is) a → Makes world (head_writes h) (two_came h.channel (port_point h.input.port) y) (two_came h.channel x y) b a
  reads-makes y x is b a good at puts =
      let from = two_came h.channel (port_point h.input.port) y in
      makes-to world (head_writes h) from (moved from h.input.port (port_after is h.input.port)) (two_came h.channel x y) b a
      (port-puts world (head_writes h) from h.input.port (λ o. writes-reads)
      (λ o. ap (λ (m : Lane). from m) k.entrance ∙ cond-true (same_lane (data_lane h.channel 0) (data_lane h.channel 0)) (port_point h.input.port) _ (same_lane-self (data_lane h.channel 0))
      ∙ ap (λ (q : Bool). point h.input.port.made (not q)) o) is good b a puts)
      (λ l n. reads-came h.channel h.input.port is x y k.entrance at l)

  -- nothing was put
  stays-makes : (h' : HeadView T) (b a : OutputsView) → h' ≡ h → a ≡ b → Makes world (head_writes h) (head_came h) (head_came h') b a
  stays-makes h' b a same out =
      subst (λ (z : HeadView T). Makes world (head_writes h) (head_came h) (head_came z) b a) (sym same)
      (makes-none world (head_writes h) (head_came h) b a (ap (λ (o : OutputsView). o.items) out) (ap (λ (o : OutputsView). o.stopped) out))

  -- flags that came on the list were given to their port
  flags-more : (sizes more : List Change) (b a : OutputsView) (f : Port) → SendsFlags h.buffer.low h.buffer.high sizes more h.buffer.flags b f a
      → h.buffer.flags.made + length a.items ≤ f.made + length b.items
  flags-more sizes more b a f sends = passes-more sends.added h.buffer.flags f b a (ap (λ (m : Lane). m.kind) k.flags) sends.passes

  -- and so were items of its reads
  reads-more : (is : List Item) (b a : OutputsView) → PutsAll b (offered h.input.port is) a → h.input.port.made + length a.items ≤ (port_after is h.input.port).made + length b.items
  reads-more is b a puts =
      let put = puts-length (offered h.input.port is) b a puts in
      let given = offered-length h.input.port is in
      omega (arith, put, given)

  -- it took little, and made little
  pub head-few : head_done h < 2 ^ 34
  head-few =
      let most = k.most in
      let few = k.few in
      let flags_few = k.few_flags in
      let input_few = k.few_input in
      let items = items-most plan k.reads.0 in
      let made = k.reads.2.made in
      let end = one-most k.reads.1 in
      omega (arith, most, few, flags_few, input_few, items, made, end)

  -- the places stay while flags are sent
  flags-places : (lanes : List Lane) → AreAmong (head_lanes h) lanes → (ys zs : List Event) (sizes more : List Change) (b a : OutputsView) (f : Port)
      → SendsFlags h.buffer.low h.buffer.high sizes more h.buffer.flags b f a → HasPlaces b.stopped lanes → HasPlaces a.stopped lanes
  flags-places lanes among ys zs sizes more b a f sends places =
      places_stay sends.added h.buffer.flags f b a lanes sends.passes places
      (λ q m. among q (or_right (same_hop q (data_lane h.channel 0)) _ (ap (λ (g : Lane). same_hop q g || false) (sym k.flags) ∙ m)))

  -- and while items of its reads are put
  reads-places : (lanes : List Lane) → AreAmong (head_lanes h) lanes → (is : List Item) (b a : OutputsView) → PutsAll b (offered h.input.port is) a → HasPlaces b.stopped lanes → HasPlaces a.stopped lanes
  reads-places lanes among is b a puts places =
      puts-places lanes (offered h.input.port is) b a
      (offered-among lanes h.input.port is (λ q m. among q (or-first (same_hop q (data_lane h.channel 0)) _ (ap (λ (g : Lane). same_hop q g || false) (sym k.entrance) ∙ m)))) places puts
    where
      or-first : (a b : Bool) → (a || false) ≡ true → (a || b) ≡ true
      or-first true b e = refl
      or-first false b e = absurd (both_ways false refl e)

  -- ---- it takes an item

  module _ (e : Envelope) (enters : EntersHead h e.lane) (number : e.number ≡ h.taken) (good : IsGood world e) where
    item-fits : Fits events h.taken e.item
    item-fits = data-fits world e good h.channel h.hop (ap (λ (m : Lane). m.channel) enters) (ap (λ (m : Lane). m.hop) enters) events k.own h.taken (ap (λ (m : Lane). m.kind) enters) number

    module _ (b a : OutputsView) (answer : Took) (h' : HeadView T) (t : HeadTakes state h e b answer h' a) where
      now-taken : h'.taken ≤ length events + 1
      now-taken = let within = fits-within events h.taken e.item item-fits in let one = t.taken in omega (arith, within, one)

      abbrev some-sizes : List Event → List Change → List Change
      some-sizes ys sizes = sizes ++ item_sizes (is_some h.failure) e.item answer (waiting_at state h ys) (waiting_at state h' (ys ++ events_before (is_some h.failure) e.item answer))

      -- its lane is open
      module _ (live : lane_over h ≡ false) where
        is-open : h.standing ≡ standings.Open
        is-open = open-is h.standing h.is_closed live

        count : h.taken ≡ k.took.count
        count = k.took.running live

        -- after the events that it took, and what the item brought
        stood-now : (f : Bool) (i : Item) (r : Took) → is_some h.failure ≡ f → e.item ≡ i → answer ≡ r
            → HeadStandsAfter state h' (k.took.ys ++ events_before f i r) (k.took.zs ++ events_from f i r) (some-sizes k.took.ys k.took.sizes)
        stood-now f i r ef ei er =
            subst (λ (y : Bool × Item × Took). HeadStandsAfter state h' (k.took.ys ++ events_before y.0 y.1 y.2) (k.took.zs ++ events_from y.0 y.1 y.2) (some-sizes k.took.ys k.took.sizes)) (λ j. (ef j, ei j, er j))
            (t.stood live k.took.ys k.took.zs k.took.sizes k.took.after)

        standing-now : (f : Bool) (i : Item) → is_some h.failure ≡ f → e.item ≡ i → h'.standing ≡ standing_after f i
        standing-now f i ef ei = t.standing is-open ∙ (λ j. standing_after (ef j) (ei j))

        closed-now : (f : Bool) (i : Item) → is_some h.failure ≡ f → e.item ≡ i → h'.is_closed ≡ (f && closes i)
        closed-now f i ef ei = t.closed live ∙ (λ j. ef j && closes (ei j))

        -- before a failure of its own it took nothing late
        none-before : h.failure ≡ None → k.took.zs ≡ []
        none-before none = none-late state h k.took.ys k.took.zs k.took.sizes k.took.after none

        over-not : {G : Type 0} (s : Standing) → h'.standing ≡ s → is_over s ≡ false → is_over h'.standing ≡ true → G
        over-not s is n o = absurd (both_ways (is_over h'.standing) (ap is_over is ∙ n) o)

        ended-not : {G : Type 0} (s : Standing) → h'.standing ≡ s → (s ≡ standings.Ended → ⊥) → h'.standing ≡ standings.Ended → G
        ended-not s is n o = absurd (n (sym is ∙ o))

        open-no : standings.Open ≡ standings.Ended → ⊥
        open-no q = absurd (both_ways false refl (ap is_over q))

        -- all that it took, the forgotten first
        seen : k.took.gone ++ (k.took.ys ++ k.took.zs) ≡ take k.took.count events
        seen = sym (append_assoc k.took.gone k.took.ys k.took.zs) ∙ k.took.in_order

        gone-now : h'.gone ≡ length (out k.took.gone)
        gone-now = ap (λ (z : HeadView T). z.gone) t.same ∙ k.took.bytes

        never-now : h'.has_forgotten ≡ false → k.took.gone ≡ []
        never-now none = k.took.never (ap (λ (z : HeadView T). z.has_forgotten) (sym t.same) ∙ none)

        -- the item is the next event of its lane
        one-more : (ys zs : List Event) (x : Event) → slice_get events h.taken ≡ Some x → ys ++ zs ≡ (k.took.ys ++ k.took.zs) ++ x ∷ []
            → HeadStandsAfter state h' ys zs (some-sizes k.took.ys k.took.sizes) → h'.standing ≡ standings.Open → HeadTook state events h'
        one-more ys zs x fits same after standing =
            let at : slice_get events k.took.count ≡ Some x = ap (λ n. slice_get events n) (sym count) ∙ fits in
            let next : k.took.count + 1 ≡ suc k.took.count = omega arith in
            let within = slice_get_within events k.took.count x at in
            let one = t.taken in
            record {
              gone = k.took.gone;
              bytes = gone-now;
              flushed = k.took.flushed;
              never = never-now;
              ys = ys;
              zs = zs;
              sizes = some-sizes k.took.ys k.took.sizes;
              after = after;
              count = k.took.count + 1;
              within = omega (arith, within);
              in_order =
                  append_assoc k.took.gone ys zs ∙ ap (λ (new : List Event). k.took.gone ++ new) same ∙ sym (append_assoc k.took.gone (k.took.ys ++ k.took.zs) (x ∷ []))
                  ∙ ap (λ (all : List Event). all ++ x ∷ []) seen ∙ sym (split-at events k.took.count x at).2 ∙ ap (λ n. take n events) (sym next);
              most = omega (arith, one, count);
              running = λ o. omega (arith, one, count);
              ended = λ o. ended-not standings.Open standing open-no o;
              none_late = λ o. over-not standings.Open standing refl o;
            }

        -- The item closes its lane.
        no-more : HeadStandsAfter state h' (k.took.ys ++ []) (k.took.zs ++ []) (some-sizes k.took.ys k.took.sizes) → lane_over h' ≡ true
            → (h'.standing ≡ standings.Ended → h.taken ≡ length events) → (is_over h'.standing ≡ true → k.took.zs ≡ []) → HeadTook state events h'
        no-more after over ended none = record {
          gone = k.took.gone;
          bytes = gone-now;
          flushed = k.took.flushed;
          never = never-now;
          ys = k.took.ys ++ [];
          zs = k.took.zs ++ [];
          sizes = some-sizes k.took.ys k.took.sizes;
          after = after;
          count = k.took.count;
          within = k.took.within;
          in_order = (λ i. (k.took.gone ++ append-nil k.took.ys i) ++ append-nil k.took.zs i) ∙ k.took.in_order;
          most = let one = t.taken in omega (arith, one, count);
          running = λ o. absurd (both_ways (lane_over h') o over);
          ended = λ o. sym count ∙ ended o;
          none_late = λ o. append-nil k.took.zs ∙ none o;
        }

        -- the head has not failed before
        first-took : h.failure ≡ None → (i : Item) → e.item ≡ i → Fits events h.taken i → (r : Took) → answer ≡ r → Answers false i r → HeadTook state events h'
        first-took none (item.Event x) ei fits r er (inl ran) =
            one-more (k.took.ys ++ x ∷ []) (k.took.zs ++ []) x fits
            ((λ i. (k.took.ys ++ x ∷ []) ++ (none-before none i ++ [])) ∙ append-nil (k.took.ys ++ x ∷ [])
            ∙ ap (λ (seen : List Event). seen ++ x ∷ []) (sym (append-nil k.took.ys) ∙ (λ i. k.took.ys ++ sym (none-before none) i)))
            (stood-now false (item.Event x) took.Ran (ap is_some none) ei (er ∙ ran)) (standing-now false (item.Event x) (ap is_some none) ei)
        first-took none (item.Event x) ei fits r er (inr failed) =
            one-more (k.took.ys ++ []) (k.took.zs ++ x ∷ []) x fits
            ((λ i. append-nil k.took.ys i ++ (k.took.zs ++ x ∷ [])) ∙ sym (append_assoc k.took.ys k.took.zs (x ∷ [])))
            (stood-now false (item.Event x) (took.Failed Memory) (ap is_some none) ei (er ∙ failed.0)) (standing-now false (item.Event x) (ap is_some none) ei)
        first-took none item.End ei fits r er ans =
            no-more (stood-now false item.End r (ap is_some none) ei er)
            (or_left (is_over h'.standing) h'.is_closed (ap is_over (standing-now false item.End (ap is_some none) ei)))
            (λ o. fits) (λ o. none-before none)
        first-took none (item.Fail c) ei fits r er ans =
            let standing = standing-now false (item.Fail c) (ap is_some none) ei in
            no-more (stood-now false (item.Fail c) r (ap is_some none) ei er)
            (or_left (is_over h'.standing) h'.is_closed (ap is_over standing))
            (λ o. ended-not (standings.Failed c) standing (λ q. failed-no c q) o) (λ o. none-before none)
          where
            failed-no : (c : Cause) → standings.Failed c ≡ standings.Ended → ⊥
            failed-no c q = cc
        first-took none (item.Flag v) ei fits r er ans = absurd fits

        -- it has failed before
        late-took : (c : Cause) → h.failure ≡ Some c → (i : Item) → e.item ≡ i → Fits events h.taken i → HeadTook state events h'
        late-took c f (item.Event x) ei fits =
            one-more (k.took.ys ++ []) (k.took.zs ++ x ∷ []) x fits
            ((λ i. append-nil k.took.ys i ++ (k.took.zs ++ x ∷ [])) ∙ sym (append_assoc k.took.ys k.took.zs (x ∷ [])))
            (stood-now true (item.Event x) answer (ap is_some f) ei refl) (standing-now true (item.Event x) (ap is_some f) ei)
        late-took c f item.End ei fits =
            let standing = standing-now true item.End (ap is_some f) ei in
            no-more (stood-now true item.End answer (ap is_some f) ei refl) (or_right (is_over h'.standing) h'.is_closed (closed-now true item.End (ap is_some f) ei))
            (λ o. ended-not standings.Open standing open-no o) (λ o. over-not standings.Open standing refl o)
        late-took c f (item.Fail d) ei fits =
            let standing = standing-now true (item.Fail d) (ap is_some f) ei in
            no-more (stood-now true (item.Fail d) answer (ap is_some f) ei refl) (or_right (is_over h'.standing) h'.is_closed (closed-now true (item.Fail d) (ap is_some f) ei))
            (λ o. ended-not standings.Open standing open-no o) (λ o. over-not standings.Open standing refl o)
        late-took c f (item.Flag v) ei fits = absurd fits

        live-took : (f : Option Cause) → h.failure ≡ f → HeadTook state events h'
        live-took None f = first-took f e.item refl item-fits answer refl (subst (λ (q : Bool). Answers q e.item answer) (ap is_some f) (t.answers live))
        live-took (Some c) f = late-took c f e.item refl item-fits

      -- its lane is over: it only counts
      over-took : lane_over h ≡ true → HeadTook state events h'
      over-took over =
          subst (λ (z : HeadView T). HeadTook state events z) (sym (t.over over).1)
          (took-again state events h (record h { taken = h'.taken }) k.took k.took.sizes k.took.after refl refl
          (let most = k.took.most in let one = t.taken in omega (arith, most, one)) (λ live. absurd (both_ways (lane_over h) live over)))

      now-took : HeadTook state events h'
      now-took = ⊎_elim over-took (λ (live : lane_over h ≡ false). live-took live h.failure refl) (cases_Bool (lane_over h))

      now-may : MayFailFor world (cause_of h'.standing)
      now-may = ⊎_elim
          (λ (o : lane_over h ≡ true). still-may h' (ap (λ (z : HeadView T). z.standing) (t.over o).1))
          (λ (live : lane_over h ≡ false).
          subst (λ s. MayFailFor world (cause_of s)) (sym (t.standing (is-open live)))
          (may-after world (is_some h.failure) e.item (data-may world e good (ap (λ (m : Lane). m.kind) enters))))
          (cases_Bool (lane_over h))

      now-itself : MayFailFor world h'.failure
      now-itself = ⊎_elim
          (λ (o : lane_over h ≡ true). subst (MayFailFor world) (sym (ap (λ (z : HeadView T). z.failure) (t.over o).1)) k.may_itself)
          (λ (live : lane_over h ≡ false).
          subst (MayFailFor world) (sym (t.failure (is-open live)))
          (may-first world h.failure (cause_of_item e.item answer) k.may_itself (may-item world (is_some h.failure) e.item answer (t.answers live))))
          (cases_Bool (lane_over h))

      pub take-holds : Held h'
      take-holds =
          again h' (ap (λ (z : HeadView T). z.channel) t.same) (ap (λ (z : HeadView T). z.hop) t.same) now-taken now-took
          (k.reads.0, k.reads.1, subst (λ (i : InputView). InputStands plan k.reads.0 k.reads.1 i) (sym (ap (λ (z : HeadView T). z.input) t.same)) k.reads.2)
          (ap (λ (z : HeadView T). z.input.port.lane) t.same) t.marks.lane t.few now-may now-itself

      moved-makes : Makes world (head_writes h) (head_came h) (two_came h.channel (port_point h.input.port) (port_point h'.buffer.flags)) b a
      moved-makes = ⊎_elim
          (λ (o : lane_over h ≡ true).
          let over = t.over o in
          subst (λ (f : Port). Makes world (head_writes h) (head_came h) (two_came h.channel (port_point h.input.port) (port_point f)) b a) (sym (ap (λ (z : HeadView T). z.buffer.flags) over.1))
          (stays-makes h b a refl over.2))
          (λ (live : lane_over h ≡ false).
          flags-makes (port_point h.input.port) k.took.ys k.took.zs k.took.sizes _ b a h'.buffer.flags k.took.after (t.flags live k.took.ys k.took.zs k.took.sizes k.took.after)
          (few-made h' now-taken t.few))
          (cases_Bool (lane_over h))

      pub take-makes : Makes world (head_writes h) (head_came h) (head_came h') b a
      take-makes =
          subst (λ (y : ℕ × Point). Makes world (head_writes h) (head_came h) (two_came y.0 y.1 (port_point h'.buffer.flags)) b a)
          (λ i. (ap (λ (z : HeadView T). z.channel) (sym t.same) i, ap (λ (z : HeadView T). port_point z.input.port) (sym t.same) i)) moved-makes

      -- what came on the list was made, and one item more was taken
      pub take-more : head_done h + length a.items + 1 ≤ head_done h' + length b.items
      take-more = ⊎_elim over live (cases_Bool (lane_over h))
        where
          over : lane_over h ≡ true → head_done h + length a.items + 1 ≤ head_done h' + length b.items
          over o =
              let n = t.over o in
              let one = t.taken in
              let reads = ap (λ (z : HeadView T). z.input.port.made) n.1 in
              let made = ap (λ (z : HeadView T). z.buffer.flags.made) n.1 in
              let none = ap (λ (y : OutputsView). length y.items) n.2 in
              omega (arith, one, reads, made, none)

          live : lane_over h ≡ false → head_done h + length a.items + 1 ≤ head_done h' + length b.items
          live is =
              let put = flags-more k.took.sizes _ b a h'.buffer.flags (t.flags is k.took.ys k.took.zs k.took.sizes k.took.after) in
              let one = t.taken in
              let reads = ap (λ (z : HeadView T). z.input.port.made) t.same in
              omega (arith, put, one, reads)

      pub take-places : (lanes : List Lane) → AreAmong (head_lanes h) lanes → HasPlaces b.stopped lanes → HasPlaces a.stopped lanes
      take-places lanes among places = ⊎_elim
          (λ (over : lane_over h ≡ true). subst (λ (o : OutputsView). HasPlaces o.stopped lanes) (sym (t.over over).2) places)
          (λ (live : lane_over h ≡ false).
          flags-places lanes among k.took.ys k.took.zs k.took.sizes _ b a h'.buffer.flags (t.flags live k.took.ys k.took.zs k.took.sizes k.took.after) places)
          (cases_Bool (lane_over h))

  -- ---- it makes a write

  module _ (may_refuse : T → ℕ → Type 0) (b a : OutputsView) (answer : OutStep) (h' : HeadView T) (w : HeadWrites state may_refuse h b answer h' a) where
    write-taken : h'.taken ≡ h.taken
    write-taken = ap (λ (z : HeadView T). z.taken) w.same

    write-most : h'.taken ≤ length events + 1
    write-most = let most = k.most in let same = write-taken in omega (arith, most, same)

    write-took : HeadTook state events h'
    write-took =
        took-same state events h h' k.took (k.took.sizes ++ step_sizes answer (waiting_at state h k.took.ys) (waiting_at state h' k.took.ys)) (w.stood k.took.ys k.took.zs k.took.sizes k.took.after)
        (ap (λ (z : HeadView T). z.standing) w.same) (ap (λ (z : HeadView T). gone_of z) w.same) write-taken (ap (λ (z : HeadView T). lane_over z) w.same)

    write-holds : Held h'
    write-holds =
        again h' (ap (λ (z : HeadView T). z.channel) w.same) (ap (λ (z : HeadView T). z.hop) w.same) write-most write-took
        (k.reads.0, k.reads.1, subst (λ (i : InputView). InputStands plan k.reads.0 k.reads.1 i) (sym (ap (λ (z : HeadView T). z.input) w.same)) k.reads.2)
        (ap (λ (z : HeadView T). z.input.port.lane) w.same) w.marks.lane w.few
        (still-may h' (ap (λ (z : HeadView T). z.standing) w.same))
        (subst (MayFailFor world) (sym w.failure) (may-first world h.failure (cause_of_step answer) k.may_itself (may-step world answer)))

    write-makes : Makes world (head_writes h) (head_came h) (head_came h') b a
    write-makes =
        subst (λ (y : ℕ × Point). Makes world (head_writes h) (head_came h) (two_came y.0 y.1 (port_point h'.buffer.flags)) b a)
        (λ i. (ap (λ (z : HeadView T). z.channel) (sym w.same) i, ap (λ (z : HeadView T). port_point z.input.port) (sym w.same) i))
        (flags-makes (port_point h.input.port) k.took.ys k.took.zs k.took.sizes _ b a h'.buffer.flags k.took.after (w.flags k.took.ys k.took.zs k.took.sizes k.took.after)
        (few-made h' write-most w.few))

    write-more : head_done h + length a.items ≤ head_done h' + length b.items
    write-more =
        let put = flags-more k.took.sizes _ b a h'.buffer.flags (w.flags k.took.ys k.took.zs k.took.sizes k.took.after) in
        let count = write-taken in
        let reads = ap (λ (z : HeadView T). z.input.port.made) w.same in
        omega (arith, put, count, reads)

    pub write-moved : Moves h' b a
    write-moved = record {
      same_node = (ap (λ (z : HeadView T). z.channel) w.same, ap (λ (z : HeadView T). z.hop) w.same, ap (λ (z : HeadView T). gone_of z) w.same);
      taken = write-taken;
      holds = write-holds;
      makes = write-makes;
      places = λ lanes among. flags-places lanes among k.took.ys k.took.zs k.took.sizes _ b a h'.buffer.flags (w.flags k.took.ys k.took.zs k.took.sizes k.took.after);
      more = write-more;
    }

  -- ---- it fails, and its reads with it

  reads-kind : h.input.port.lane.kind ≡ Data
  reads-kind = ap (λ (m : Lane). m.kind) k.entrance

  reads-content : content_of world h.input.port.lane ≡ Some (recorded_input plan.bursts)
  reads-content = ap (λ (m : Lane). content_of world m) k.entrance ∙ k.input

  steps-left : h.input.port.is_open ≡ true → (k.reads.1 ≡ false) × (k.reads.0 < plan_steps plan)
  steps-left o =
      let both = and_parts (not k.reads.1) (nat_lt k.reads.0 (plan_steps plan)) (sym k.reads.2.is_open ∙ o) in
      (not-true k.reads.1 both.0, ltb-true k.reads.0 (plan_steps plan) both.1)

  failure-next : (cause : Cause) → may_fail world cause ≡ true → h.input.port.is_open ≡ true → AreGood world h.input.port.lane h.input.port.made (item.Fail cause ∷ [])
  failure-next cause may o =
      let early = number-within plan k.reads.0 (steps-left o).1 in
      let number = number_of_step plan k.reads.0 k.reads.1 h.input k.reads.2 o in
      (failure-good world h.input.port.lane (recorded_input plan.bursts) h.input.port.made reads-kind reads-content k.few_input cause may (omega (arith, early, number)), (λ g. refl), tt)

  module _ (b a : OutputsView) (h' : HeadView T) (f : Aborts state h b h' a) (reads : (reads : ℕ) × (failed : Bool) × ReadsStand plan reads failed h') (lane : h'.buffer.flags.lane ≡ h.buffer.flags.lane) (few : HasFewFlags h') where
    abort-most : h'.taken ≤ length events + 1
    abort-most = let most = k.most in let same = ap (λ (z : HeadView T). z.taken) f.same in omega (arith, most, same)

    abort-took : HeadTook state events h'
    abort-took =
        took-same state events h h' k.took (k.took.sizes ++ Removed (waiting_at state h k.took.ys) ∷ []) (f.stands k.took.ys k.took.zs k.took.sizes k.took.after)
        (ap (λ (z : HeadView T). z.standing) f.same) (ap (λ (z : HeadView T). gone_of z) f.same) (ap (λ (z : HeadView T). z.taken) f.same) (ap (λ (z : HeadView T). lane_over z) f.same)

    abort-holds : Held h'
    abort-holds =
        again h' (ap (λ (z : HeadView T). z.channel) f.same) (ap (λ (z : HeadView T). z.hop) f.same) abort-most abort-took reads
        (ap (λ (z : HeadView T). z.input.port.lane) f.same) lane few
        (still-may h' (ap (λ (z : HeadView T). z.standing) f.same)) (subst (MayFailFor world) (sym (ap (λ (z : HeadView T). z.failure) f.same)) refl)

    abort-makes : Makes world (head_writes h) (head_came h) (head_came h') b a
    abort-makes =
        let is = item.Fail Aborted ∷ [] in
        let mid = two_came h.channel (port_point h.input.port) (port_point h'.buffer.flags) in
        let last = two_came h.channel (port_point h'.input.port) (port_point h'.buffer.flags) in
        subst (λ (n : ℕ). Makes world (head_writes h) (head_came h) (two_came n (port_point h'.input.port) (port_point h'.buffer.flags)) b a) (ap (λ (z : HeadView T). z.channel) (sym f.same))
        (makes-then world (head_writes h) (head_came h) mid last b f.between a
        (flags-makes (port_point h.input.port) k.took.ys k.took.zs k.took.sizes (Removed (waiting_at state h k.took.ys) ∷ []) b f.between h'.buffer.flags k.took.after
        (f.flags k.took.ys k.took.zs k.took.sizes k.took.after) (few-made h' abort-most few))
        (reads-makes (port_point h'.buffer.flags) (port_point h'.input.port) is f.between a (failure-next Aborted refl)
        (ap (λ (z : HeadView T). port_point z.input.port) f.same ∙ ap (λ (q : Bool). point (cond h.input.port.is_open (h.input.port.made + 1) h.input.port.made) (not q)) (sym (and-false h.input.port.is_open)))
        f.puts))

    abort-more : head_done h + length a.items ≤ head_done h' + length b.items
    abort-more =
        let sent = flags-more k.took.sizes (Removed (waiting_at state h k.took.ys) ∷ []) b f.between h'.buffer.flags (f.flags k.took.ys k.took.zs k.took.sizes k.took.after) in
        let put = reads-more (item.Fail Aborted ∷ []) f.between a f.puts in
        let count = ap (λ (z : HeadView T). z.taken) f.same in
        let reads = ap (λ (z : HeadView T). z.input.port.made) f.same in
        omega (arith, sent, put, count, reads)

    abort-moved : Moves h' b a
    abort-moved = record {
      same_node = (ap (λ (z : HeadView T). z.channel) f.same, ap (λ (z : HeadView T). z.hop) f.same, ap (λ (z : HeadView T). gone_of z) f.same);
      taken = ap (λ (z : HeadView T). z.taken) f.same;
      holds = abort-holds;
      makes = abort-makes;
      places = λ lanes among places.
          reads-places lanes among (item.Fail Aborted ∷ []) f.between a f.puts
          (flags-places lanes among k.took.ys k.took.zs k.took.sizes (Removed (waiting_at state h k.took.ys) ∷ []) b f.between h'.buffer.flags (f.flags k.took.ys k.took.zs k.took.sizes k.took.after) places);
      more = abort-more;
    }

  -- nothing moves
  stays : (b : OutputsView) → Moves h b b
  stays b = record {
    same_node = (refl, refl, refl);
    taken = refl;
    holds = k;
    makes = stays-makes h b b refl refl;
    places = λ lanes among places. places;
    more = omega arith;
  }

  stays-moved : (h' : HeadView T) (b a : OutputsView) → h' ≡ h → a ≡ b → Moves h' b a
  stays-moved h' b a same out = subst (λ (y : HeadView T × OutputsView). Moves y.0 b y.1) (λ i. (sym same i, sym out i)) (stays b)

  -- ---- it makes a read step

  module _ (b a : OutputsView) (answer : ReadStep) (h' : HeadView T) (r : HeadReads state h b answer h' a) where
    module _ (gave : answer ≡ reading.Gave) where
      left : h.input.port.is_open ≡ true
      left = ⊎_elim (λ (t : h.input.port.is_open ≡ true). t) (λ (s : h.input.port.is_open ≡ false). absurd (no (sym gave ∙ r.is_left.1 s))) (cases_Bool h.input.port.is_open)
        where
          no : reading.Gave ≡ reading.Done → ⊥
          no e = cc

      reads-now : (reads : ℕ) × (failed : Bool) × ReadsStand plan reads failed h'
      reads-now = (steps_after plan k.reads.0 h.failure, brings_failure plan k.reads.0 h.failure, r.reads gave plan k.reads.0 k.reads.1 k.reads.2)

      -- What it brings, and where that leaves its lane.
      module _ (off : brings_abort plan k.reads.0 h.failure ≡ false) where
        abbrev items : List Item
        items = next_step_items plan k.reads.0 h.failure

        same : h' ≡ record h { input = h'.input }
        same = r.same gave plan k.reads.0 k.reads.1 k.reads.2 off

        number : h.input.port.made ≡ read_items (bursts_read plan) k.reads.0
        number = number_of_step plan k.reads.0 k.reads.1 h.input k.reads.2 left

        put : PutsAll b (offered h.input.port items) a
        put =
            subst (λ (es : List Envelope). PutsAll b es a)
            ((λ i. numbered (sym k.entrance i) (sym number i) items) ∙ sym (cond-true h.input.port.is_open (numbered h.input.port.lane h.input.port.made items) [] left))
            (r.puts gave plan k.reads.0 k.reads.1 k.reads.2 off)

        good : (f : Option Cause) → h.failure ≡ f → AreGood world h.input.port.lane h.input.port.made (next_step_items plan k.reads.0 f)
        good None e =
            subst (λ (m : ℕ). AreGood world h.input.port.lane m (step_items (bursts_read plan) k.reads.0)) (sym number)
            (step-good plan k.reads.0 (steps-left left).1 world h.input.port.lane reads-kind reads-content k.few_input (ap (λ (f : Option Cause). brings_abort plan k.reads.0 f) (sym e) ∙ off))
        good (Some c) e = failure-next c (subst (MayFailFor world) e k.may_itself) left

        at : (f : Option Cause) → h.failure ≡ f → port_point h'.input.port ≡ port_point (port_after (next_step_items plan k.reads.0 f) h.input.port)
        at None e =
            let none : is_abort plan k.reads.0 ≡ false = ap (λ (q : Option Cause). brings_abort plan k.reads.0 q) (sym e) ∙ off in
            let one = subst (λ (q : Option Cause). InputStands plan (steps_after plan k.reads.0 q) (brings_failure plan k.reads.0 q) h'.input) e (r.reads gave plan k.reads.0 k.reads.1 k.reads.2) in
            let now : InputStands plan (k.reads.0 + 1) false h'.input = subst (λ (q : Bool). InputStands plan (if q then k.reads.0 else k.reads.0 + 1) q h'.input) none one in
            let stepped = stands_after plan k.reads.0 k.reads.1 h.input k.reads.2 left (abort_is plan k.reads.0 k.reads.1 h.input k.reads.2 left ∙ none) in
            let made = now.made ∙ ap (λ (q : Bool). read_items (bursts_read plan) (k.reads.0 + 1) + (if q then 1 else 0)) (sym (steps-left left).0) ∙ sym stepped.made in
            let open_ = now.is_open ∙ ap (λ (q : Bool). has_step plan (k.reads.0 + 1) q) (sym (steps-left left).0) ∙ sym stepped.is_open in
            (λ i. point (made i) (not (open_ i)))
            ∙ ap (λ (is : List Item). port_point (port_after is h.input.port)) (items_of_step plan k.reads.0 k.reads.1 h.input k.reads.2 left)
        at (Some c) e =
            let now : InputStands plan k.reads.0 true h'.input =
            subst (λ (q : Option Cause). InputStands plan (steps_after plan k.reads.0 q) (brings_failure plan k.reads.0 q) h'.input) e (r.reads gave plan k.reads.0 k.reads.1 k.reads.2) in
            let made : h'.input.port.made ≡ h.input.port.made + 1 = now.made ∙ ap (λ (m : ℕ). m + 1) (sym number) in
            let more : h.input.port.made + 1 ≡ cond h.input.port.is_open (h.input.port.made + 1) h.input.port.made = sym (cond-true h.input.port.is_open (h.input.port.made + 1) h.input.port.made left) in
            let shut : h'.input.port.is_open ≡ (h.input.port.is_open && false) = now.is_open ∙ sym (and-false h.input.port.is_open) in
            (λ i. point ((made ∙ more) i) (not (shut i)))

        step-took : HeadTook state events h'
        step-took =
            subst (λ (z : HeadView T). HeadTook state events z) (sym same) (took-same state events h (record h { input = h'.input }) k.took k.took.sizes k.took.after refl refl refl refl)

        step-holds : Held h'
        step-holds =
            again h' (ap (λ (z : HeadView T). z.channel) same) (ap (λ (z : HeadView T). z.hop) same)
            (let most = k.most in let still = ap (λ (z : HeadView T). z.taken) same in omega (arith, most, still)) step-took reads-now
            r.entrance_stays r.marks.lane r.few
            (still-may h' (ap (λ (z : HeadView T). z.standing) same)) (subst (MayFailFor world) (sym (ap (λ (z : HeadView T). z.failure) same)) k.may_itself)

        step-makes : Makes world (head_writes h) (head_came h) (head_came h') b a
        step-makes =
            subst (λ (y : ℕ × Point). Makes world (head_writes h) (head_came h) (two_came y.0 (port_point h'.input.port) y.1) b a)
            (λ i. (ap (λ (z : HeadView T). z.channel) (sym same) i, ap (λ (z : HeadView T). port_point z.buffer.flags) (sym same) i))
            (reads-makes (port_point h.buffer.flags) (port_point h'.input.port) items b a (λ o. good h.failure refl) (at h.failure refl) put)

        step-more : head_done h + length a.items ≤ head_done h' + length b.items
        step-more =
            let given = reads-more items b a put in
            let reads = ap (λ (p : Point). p.next) (at h.failure refl) in
            let count = ap (λ (z : HeadView T). z.taken) same in
            let sent = ap (λ (z : HeadView T). z.buffer.flags.made) same in
            omega (arith, given, reads, count, sent)

        step-moved : Moves h' b a
        step-moved = record {
          same_node = (ap (λ (z : HeadView T). z.channel) same, ap (λ (z : HeadView T). z.hop) same, ap (λ (z : HeadView T). gone_of z) same);
          taken = ap (λ (z : HeadView T). z.taken) same;
          holds = step-holds;
          makes = step-makes;
          places = λ lanes among. reads-places lanes among items b a put;
          more = step-more;
        }

    pub read-moved : Moves h' b a
    read-moved = by answer refl
      where
        held-no : reading.Held ≡ reading.Gave → ⊥
        held-no e = cc

        done-no : reading.Done ≡ reading.Gave → ⊥
        done-no e = cc

        by : (s : ReadStep) → answer ≡ s → Moves h' b a
        by reading.Gave gave = ⊎_elim
            (λ (on : brings_abort plan k.reads.0 h.failure ≡ true). abort-moved b a h' (r.aborts gave plan k.reads.0 k.reads.1 k.reads.2 on) (reads-now gave) r.marks.lane r.few)
            (λ (off : brings_abort plan k.reads.0 h.failure ≡ false). step-moved gave off)
            (cases_Bool (brings_abort plan k.reads.0 h.failure))
        by reading.Held e = let i = r.idle (λ g. held-no (sym e ∙ g)) in stays-moved h' b a i.0 i.1
        by reading.Done e = let i = r.idle (λ g. done-no (sym e ∙ g)) in stays-moved h' b a i.0 i.1

  -- ---- it is aborted

  pub aborted-moved : (b a : OutputsView) (h' : HeadView T) → HeadAborts state h b h' a → Moves h' b a
  aborted-moved b a h' f = by h.failure refl
    where
      by : (s : Option Cause) → h.failure ≡ s → Moves h' b a
      by None live = abort-moved b a h' (f.aborts live) (k.reads.0, h.input.port.is_open || k.reads.1, f.reads live plan k.reads.0 k.reads.1 k.reads.2) f.marks.lane f.few
      by (Some c) e = let i = f.failed (ap (λ (q : Option Cause). is_some q) e) in stays-moved h' b a i.0 i.1

-- It is so in each world where it held.
given : {T : Type 0} (state : T → TransportState) (h h' : HeadView T) (b a : OutputsView) → (world : World) × HeadHolds state world h
    → ((world : World) (plan : ReadPlan) (events : List Event) → HeadHoldsWith state world plan events h → Moved state world plan events h h' b a) → HeadGiven state h b h' a
given state h h' b a some moved =
    let one = moved some.0 some.1.plan some.1.events some.1.holds in
    record {
      same_node = one.same_node;
      taken = one.taken;
      holds = λ world held. record { plan = held.plan; events = held.events; holds = (moved world held.plan held.events held.holds).holds };
      made = λ world held. (moved world held.plan held.events held.holds).makes;
      placed = one.places;
      more = one.more;
    }

-- So it is with each move of its own.
module _ {T : Type 0} (state : T → TransportState) (h h' : HeadView T) (b a : OutputsView) (some : (world : World) × HeadHolds state world h) where
  pub read-given : (answer : ReadStep) → HeadReads state h b answer h' a → HeadGiven state h b h' a
  read-given answer r = given state h h' b a some (λ world plan events held. read-moved state world plan events h held b a answer h' r)

  pub write-given : (may_refuse : T → ℕ → Type 0) (answer : OutStep) → HeadWrites state may_refuse h b answer h' a → HeadGiven state h b h' a
  write-given may_refuse answer w = given state h h' b a some (λ world plan events held. write-moved state world plan events h held may_refuse b a answer h' w)

  pub abort-given : HeadAborts state h b h' a → HeadGiven state h b h' a
  abort-given f = given state h h' b a some (λ world plan events held. aborted-moved state world plan events h held b a h' f)
