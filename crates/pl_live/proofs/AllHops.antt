-- A live channel of which nothing has failed: where all came on its first lane, all of each lane was taken, hop by hop.
use Rattle.std.proofs.Common.{◌≡◌, ◌≢◌, ℕ, zero, suc, ◌+◌, ◌-◌, ◌<◌, ◌≤◌, ◌==◌, Bool, true, false, cond, List, [], ◌∷◌, length, Option, Some, refl, sym, ap, subst, ◌∙◌, inl, inr, arith}
use Rattle.std.specs.Prelude.{if◌then◌else◌, is_some, slice_get}
use Rattle.std.specs.List.{count_by}
use Rattle.std.specs.Option.{option_map_or}
use Rattle.std.proofs.lemmas.Bool.{and_from, and_parts, both_ways, cases_Bool, cond-true, cond-false, eq-eqb, ne_eqb}
use Rattle.std.proofs.lemmas.List.Sums.{sum_by-cons}
use Rattle.std.proofs.lemmas.Option.{same_Some, slice_get_within}
use Rattle.pl_event.specs.declared.events.Event.{Event}
use Rattle.pl_event.specs.declared.envelopes.Kind.TheVariants.{Data}
use Rattle.pl_event.specs.declared.envelopes.Lane.{Lane}
use Rattle.pl_event.specs.declared.stages.Direction.{Direction}
use Rattle.pl_event.specs.declared.stages.Direction.TheVariants.{Inbound, Outbound, Turn}
use Rattle.pl_event.specs.Hops.{same_hop, same_lane, data_lane}
use Rattle.pl_event.specs.Meaning.{Meaning}
use Rattle.pl_event.specs.Paths.{is_turn}
use Rattle.pl_event.proofs.Lists.{some-of}
use Rattle.pl_event.proofs.SameLanes.{same_lane-self}
use Rattle.pl_context.specs.Standings.{has_failed}
use Rattle.pl_context.specs.ContextViews.{ContextView, IsHop, has_up, has_down, down_hop}
use Rattle.pl_context.specs.TailViews.{TailView, kind_taken, taken_of as tail_taken_of}
use Rattle.pl_head.specs.HeadStand.{HeadView}
use Rattle.pl_head.specs.Transports.{TransportState}
use Rattle.pl_part.specs.HeadHolds.{head_taken}
use Rattle.pl_part.specs.Paths.{IsAt, context_at, enters_path, path_taken, writer_hop}
use Rattle.pl_part.specs.Parts.{ChannelPartView, head_hop, part_standing, part_taken}
use Rattle.pl_world.specs.Plans.{ChannelPlan, content, tail_hop, planned_head_hop}
use Rattle.pl_world.specs.PlanRules.{IsChannelPlan}
use Rattle.pl_world.specs.Reports.{tail_of, head_of}
use Rattle.pl_channel.specs.Channels.{ChannelsStand, taken_of, came_of, writes_of}
use Rattle.pl_channel.specs.Lanes.{world_of}
use Rattle.pl_channel.proofs.Feeding.{above-at}
use Rattle.pl_channel.proofs.Wholes.{enters, to-hop}
use Rattle.pl_live.specs.LiveStand.{GoesByPlan, alone}
use Rattle.pl_live.proofs.ContextsGive.{IsThrough, is, of-part, taken-here, up-through, down-through}

some-passes : {A : Type 0} (test : A → Bool) (xs : List A) → 1 ≤ count_by test xs → (i : ℕ) × (x : A) × (slice_get xs i ≡ Some x) × (test x ≡ true)
some-passes test [] some = absurd (omega (arith, some))
some-passes test (x ∷ xs) some = elim (cases_Bool (test x)) [
  | inl passes ↦ (0, x, refl, passes)
  | inr fails ↦
      let here = ap {B = ℕ} (λ (b : Bool). cond b 1 0) fails in
      let rest = some-passes test xs (omega (arith, some, here, sum_by-cons (λ z. cond (test z) 1 0) x xs)) in
      (suc rest.0, rest.1, rest.2, rest.3)
]

-- ---- which lanes a stage has

goes-up : (d : Direction) (hop k : ℕ) → IsHop d hop k → hop < k → has_up d ≡ true
goes-up Inbound hop k at before = refl
goes-up Turn hop k at before = refl
goes-up Outbound hop k at before = let past = at.0 in absurd (omega (arith, past, before))

goes-down : (d : Direction) (hop k : ℕ) → IsHop d hop k → k < hop → (has_down d ≡ true) × (down_hop d hop k ≡ hop + 1)
goes-down Inbound hop k at past = let before = at.0 in absurd (omega (arith, past, before))
goes-down Turn hop k at past = let before = at.0 in absurd (omega (arith, past, before))
goes-down Outbound hop k at past = (refl, refl)

turn-down : (d : Direction) (hop k : ℕ) → is_turn d ≡ true → (has_down d ≡ true) × (down_hop d hop k ≡ k + 1)
turn-down Inbound hop k turn = absurd (both_ways false refl turn)
turn-down Turn hop k turn = (refl, refl)
turn-down Outbound hop k turn = absurd (both_ways false refl turn)

-- So many items more than its events came on the first lane.
module _ {S T : Type 0} (meaning : S → Meaning) (stands_after : S → List Event → Type 0) (state : T → TransportState) (p : ChannelPlan) (ps : List (ChannelPartView S T)) (part : ChannelPartView S T)
    (stand : ChannelsStand (world_of false (alone p)) meaning stands_after state ps) (here : slice_get ps 0 ≡ Some part) (ends : Bool) (goes : GoesByPlan meaning stands_after state p ends part) (rule : IsChannelPlan 1 p)
    (sound : has_failed (part_standing part) ≡ false) (all-taken : (l : Lane) → writes_of meaning ps l ≡ true → taken_of ps l ≡ (came_of meaning ps l).next)
    (more : ℕ) (least : more ≤ 1) (first : IsThrough p ps more 0) where
  -- ---- contexts

  slot : (hop : ℕ) → hop < head_hop part → hop ≢ part.path.tail_hop → (c : ContextView S) × (context_at part.path hop ≡ Some c)
  slot hop before other =
      let l = data_lane part.path.channel hop in
      let stands = stand.parts 0 part here in
      let entered = enters part stands.holds.hops stands.whole l refl (to-hop part l stands.holds.hops (omega (arith, before)) (λ e. absurd (omega (arith, e, before)))) in
      let inside : enters_path part.path l ≡ true = sym (cond-false (hop == head_hop part) _ (enters_path part.path l) (ne_eqb hop (head_hop part) (λ e. omega (arith, e, before)))) ∙ entered in
      some-of (context_at part.path hop)
      (sym (cond-false (hop == part.path.tail_hop) (is_some part.path.tail) (is_some (context_at part.path hop)) (ne_eqb hop part.path.tail_hop other))
      ∙ (and_parts (part.path.channel == part.path.channel) (if hop == part.path.tail_hop then is_some part.path.tail else is_some (context_at part.path hop)) inside).1)

  at-place : (hop : ℕ) (c : ContextView S) → context_at part.path hop ≡ Some c → IsAt meaning part.path.channel hop part.path.tail_hop part.path.turn c
  at-place = is meaning stands_after state p ps part stand here goes.head_at

  -- the one at a hop whose lane is through has taken all of it
  took : (hop : ℕ) → hop < head_hop part → hop ≢ part.path.tail_hop → IsThrough p ps more hop → (c : ContextView S) × (context_at part.path hop ≡ Some c) × (length (content p hop) + more ≤ c.taken)
  took hop before other through =
      let c = slot hop before other in
      let same = taken-here meaning stands_after state p ps part stand here goes.head_at hop c.0 c.1 before other in
      (c.0, c.1, omega (arith, same, through))

  writer-next : (hop n : ℕ) → n ≡ hop + 1 → hop ≢ part.path.tail_hop → writer_hop part.path n ≡ hop
  writer-next hop n at other =
      let back : n - 1 ≡ hop = omega (arith, at) in
      cond-false (n == 0) _ _ (ne_eqb n 0 (λ e. omega (arith, e, at)))
      ∙ cond-false (n == part.path.tail_hop + 1) part.path.turn (n - 1) (ne_eqb n (part.path.tail_hop + 1) (λ e. other (omega (arith, e, at))))
      ∙ back

  writer-turn : writer_hop part.path (tail_hop p + 1) ≡ part.path.turn
  writer-turn =
      let tail = goes.tail_at in
      cond-false (tail_hop p + 1 == 0) _ _ (ne_eqb (tail_hop p + 1) 0 (λ e. omega (arith, e)))
      ∙ cond-true (tail_hop p + 1 == part.path.tail_hop + 1) part.path.turn (tail_hop p + 1 - 1) (eq-eqb (tail_hop p + 1) (part.path.tail_hop + 1) (omega (arith, tail)))

  -- ---- hop by hop

  inbound : (hop : ℕ) → hop ≤ tail_hop p → IsThrough p ps more hop
  inbound zero near = first
  inbound (suc hop) near =
      let tail = goes.tail_at in
      let head = goes.head_at in
      let next : suc hop ≡ hop + 1 = omega arith in
      let other : hop ≢ part.path.tail_hop = λ e. omega (arith, e, near, tail) in
      let c = took hop (omega (arith, near, head)) other (inbound hop (omega (arith, near))) in
      up-through meaning stands_after state p ps part stand here head hop c.0 c.1 (omega (arith, near)) (suc hop) (λ e. omega (arith, e)) (omega (arith, near)) (writer-next hop (suc hop) next other) sound all-taken more least c.2
      (goes-up (meaning c.0.stage).direction hop part.path.tail_hop (at-place hop c.0 c.1).fits (omega (arith, near, tail))) next

  -- the turn is the context that means what the plan says of a turn
  turned-at : (hop : ℕ) (m : Meaning) → slice_get p.inbound hop ≡ Some m → is_turn m.direction ≡ true → IsThrough p ps more (tail_hop p + 1)
  turned-at hop m planned turns =
      let tail = goes.tail_at in
      let head = goes.head_at in
      let within = slice_get_within p.inbound hop m planned in
      let c = took hop (omega (arith, within, head)) (λ e. omega (arith, e, within, tail)) (inbound hop (omega (arith, within))) in
      let same = same_Some m (meaning c.0.stage) (sym planned ∙ above-at p.inbound p.outbound hop (meaning c.0.stage) within (goes.meant hop c.0 c.1)) in
      let turn = ap (λ (n : Meaning). is_turn n.direction) (sym same) ∙ turns in
      let down = turn-down (meaning c.0.stage).direction hop part.path.tail_hop turn in
      down-through meaning stands_after state p ps part stand here head hop c.0 c.1 (omega (arith, within)) (tail_hop p + 1) (λ e. omega (arith, e)) (omega arith) (writer-turn ∙ sym ((at-place hop c.0 c.1).turned turn)) sound all-taken more least c.2
      down.0 (down.1 ∙ ap (λ (k : ℕ). k + 1) tail)

  turned : IsThrough p ps more (tail_hop p + 1)
  turned =
      let once = rule.turn in
      let one = some-passes (λ (m : Meaning). is_turn m.direction) p.inbound (omega (arith, once)) in turned-at one.0 one.1 one.2 one.3

  outbound : (i hop : ℕ) → hop ≡ tail_hop p + 1 + i → hop ≤ planned_head_hop p → IsThrough p ps more hop
  outbound zero hop at far = let last : tail_hop p + 1 ≡ hop = omega (arith, at) in subst (λ (k : ℕ). IsThrough p ps more k) last turned
  outbound (suc i) hop at far =
      let tail = goes.tail_at in
      let head = goes.head_at in
      let before = tail_hop p + 1 + i in
      let next : hop ≡ before + 1 = omega (arith, at) in
      let other : before ≢ part.path.tail_hop = λ e. omega (arith, e, tail) in
      let c = took before (omega (arith, far, next, head)) other (outbound i before refl (omega (arith, far, next))) in
      let down = goes-down (meaning c.0.stage).direction before part.path.tail_hop (at-place before c.0 c.1).fits (omega (arith, tail)) in
      down-through meaning stands_after state p ps part stand here head before c.0 c.1 (omega (arith, far, next)) hop (λ e. omega (arith, e, at)) far (writer-next before hop next other) sound all-taken more least c.2 down.0 (down.1 ∙ sym next)

  -- ---- the ends

  pub tail-took : (t : TailView) → part.path.tail ≡ Some t → length (tail_of p) + more ≤ t.taken
  tail-took t has =
      let tail = goes.tail_at in
      let head = goes.head_at in
      let k = tail_hop p in
      let l = data_lane 0 k in
      let stands = stand.parts 0 part here in
      let at = stands.holds.path.tail t has in
      let same =
      of-part ps part here (λ (q : ChannelPartView S T). part_taken q l) 0
      ∙ cond-false (k == head_hop part) _ (path_taken part.path l) (ne_eqb k (head_hop part) (λ e. omega (arith, e, head)))
      ∙ cond-true (k == part.path.tail_hop) _ _ (eq-eqb k part.path.tail_hop (sym tail))
      ∙ ap (λ (o : Option TailView). option_map_or (λ (x : TailView). tail_taken_of x l) o 0) has
      ∙ cond-true (same_hop l (record { channel = t.channel; kind = Data; hop = t.hop })) (kind_taken t Data) 0
      (and_from (0 == t.channel) (k == t.hop) (eq-eqb 0 t.channel (sym (at.1 ∙ stands.channel))) (eq-eqb k t.hop (sym (at.2 ∙ tail)))) in
      omega (arith, same, inbound k (omega arith))

  pub head-took : (h : HeadView T) → part.head ≡ Some h → length (head_of p) + more ≤ h.taken
  head-took h has =
      let head = goes.head_at in
      let k = planned_head_hop p in
      let l = data_lane 0 k in
      let stands = stand.parts 0 part here in
      let at = stands.holds.head h has in
      let lane : l ≡ data_lane h.channel h.hop = λ i. data_lane (sym (at.1 ∙ stands.channel) i) (sym (at.2 ∙ head) i) in
      let same =
      of-part ps part here (λ (q : ChannelPartView S T). part_taken q l) 0
      ∙ cond-true (k == head_hop part) _ (path_taken part.path l) (eq-eqb k (head_hop part) (sym head))
      ∙ ap (λ (o : Option (HeadView T)). option_map_or (λ (x : HeadView T). head_taken x l) o 0) has
      ∙ cond-true (same_lane l (data_lane h.channel h.hop)) h.taken 0 (ap (λ (k : Lane). same_lane l k) (sym lane) ∙ same_lane-self l) in
      omega (arith, same, outbound (length p.outbound) k refl (omega arith))
