-- What a part has handed over or forgotten makes it hold no less.
use Rattle.std.proofs.Common.{◌≡◌, ℕ, ◌+◌, ◌*◌, ◌≤◌, Bool, true, false, List, [], ◌++◌, length, Option, Some, None, refl, sym, ap, subst, ◌∙◌, arith, length-append, append-nil, append_assoc}
use Rattle.std.specs.Prelude.{if◌then◌else◌}
use Rattle.std.specs.Option.{option_map, option_map_or}
use Rattle.std.proofs.lemmas.Bool.{both_ways}
use Rattle.std.proofs.lemmas.Option.{none-some, same_Some}
use Rattle.pl_event.specs.declared.events.Event.{Event}
use Rattle.pl_event.specs.Meaning.{Meaning}
use Rattle.pl_event.specs.Worlds.{World}
use Rattle.pl_context.specs.declared.standing.Standing.{Standing}
use Rattle.pl_context.specs.Standings.{cause_of}
use Rattle.pl_context.specs.TailViews.{TailView, handed_over}
use Rattle.pl_head.specs.Buffers.{OutboundBufferView}
use Rattle.pl_head.specs.HeadCalls.{HeadForgets}
use Rattle.pl_head.specs.HeadStand.{HeadView, HasFewFlags, gone_of}
use Rattle.pl_head.specs.InputStand.{InputView, InputStands}
use Rattle.pl_head.specs.Transports.{TransportState}
use Rattle.pl_head.specs.Writes.{out}
use Rattle.pl_head.proofs.Forgetting.{out-behind, unflushed-behind}
use Rattle.pl_part.specs.Forgetting.{PartForgets, part_handed, path_handed}
use Rattle.pl_part.specs.HeadHolds.{HeadHolds, HeadTook}
use Rattle.pl_part.specs.Parts.{ChannelPartView, PartHolds, part_gone}
use Rattle.pl_part.specs.Paths.{PathPartView, PathHolds}
use Rattle.pl_part.specs.TailHolds.{TailHolds, MayFailFor}
use Rattle.pl_part.proofs.HeadMoves.{again}

-- ---- a tail that has handed its record over

module _ (world : World) where
  tail-hands : (t : TailView) → TailHolds world t → TailHolds world (handed_over t)
  tail-hands t s =
      let h = s.holds in
      let whole = append-nil (h.gone ++ t.events) in
      record {
        events = s.events;
        holds = record {
          own = h.own;
          few = h.few;
          gone = h.gone ++ t.events;
          handed = length-append h.gone t.events ∙ ap (λ (n : ℕ). n + length t.events) h.handed;
          taken = λ o. let x = h.taken o in (x.0, whole ∙ x.1);
          ended = λ o. whole ∙ h.ended o;
          failed = λ o. let x = h.failed o in (x.0, x.1, whole ∙ x.2);
          may = h.may;
          flags = h.flags;
          flags_most = h.flags_most;
          flags_all = h.flags_all;
          few_taken = h.few_taken;
          few_flags = h.few_flags;
        };
      }

  pub path-hands : {S : Type 0} (meaning : S → Meaning) (stands_after : S → List Event → Type 0) (p : PathPartView S) → PathHolds world meaning stands_after p → PathHolds world meaning stands_after (path_handed p)
  path-hands meaning stands_after p s = record { contexts = s.contexts; tail = by p.tail s.tail; few = s.few }
    where
      by : (o : Option TailView) → ((t : TailView) → o ≡ Some t → TailHolds world t × (t.channel ≡ p.channel) × (t.hop ≡ p.tail_hop))
          → (t : TailView) → option_map handed_over o ≡ Some t → TailHolds world t × (t.channel ≡ p.channel) × (t.hop ≡ p.tail_hop)
      by None holds t at = absurd (none-some t at)
      by (Some x) holds t at =
          let s = holds x refl in
          subst (λ (y : TailView). TailHolds world y × (y.channel ≡ p.channel) × (y.hop ≡ p.tail_hop)) (same_Some (handed_over x) t at) (tail-hands x s.0, s.1, s.2)

-- ---- a head that has forgotten what it took

module _ {T : Type 0} (state : T → TransportState) (h h' : HeadView T) (f : HeadForgets state h h') where
  taken-same : h'.taken ≡ h.taken
  taken-same = ap (λ (z : HeadView T). z.taken) f.same

  few : HasFewFlags h → HasFewFlags h'
  few s =
      subst (λ (y : ℕ × Bool × ℕ). y.0 + (if y.1 then 1 else 0) ≤ 2 * y.2)
      (λ i. (ap (λ (b : OutboundBufferView). b.flags.made) (sym f.writes) i, ap (λ (b : OutboundBufferView). b.is_unwritable) (sym f.writes) i, sym taken-same i)) s

  module _ (events : List Event) (t : HeadTook state events h) where
    took : HeadTook state events h'
    took =
        let stood = f.stood t.ys t.zs t.sizes t.after in
        let first = stood.1 in
        let left = stood.2 in
        let left-is = stood.3 in
        let written = stood.4 in
        let size = ap (λ (bs : List ℕ). length bs) (out-behind t.gone first t.flushed) ∙ length-append (out t.gone) (out first) in
        let more = f.gone in
        let bytes = t.bytes in
        let accepted = ap (λ (bs : List ℕ). length bs) written.output in
        record {
          gone = t.gone ++ first;
          bytes = omega (arith, size, more, bytes, accepted);
          flushed = unflushed-behind t.gone first t.flushed written.flushed;
          never = λ none. absurd (both_ways true (sym (ap (λ (z : HeadView T). z.has_forgotten) f.same) ∙ none) refl);
          ys = left;
          zs = [];
          sizes = t.sizes;
          after = stood.5;
          count = t.count;
          within = t.within;
          in_order =
              append-nil ((t.gone ++ first) ++ left) ∙ append_assoc t.gone first left ∙ ap (λ (ys : List Event). t.gone ++ ys) left-is
              ∙ sym (append-nil (t.gone ++ t.ys)) ∙ ap (λ (zs : List Event). (t.gone ++ t.ys) ++ zs) (sym stood.0) ∙ t.in_order;
          most = let most = t.most in let same = taken-same in omega (arith, most, same);
          running = λ o. taken-same ∙ t.running f.is_open;
          ended = λ o. t.ended (ap (λ (z : HeadView T). z.standing) (sym f.same) ∙ o);
          none_late = λ o. refl;
        }

  pub head-forgets : (world : World) → HeadHolds state world h → HeadHolds state world h'
  head-forgets world s =
      let k = s.holds in
      record {
        plan = s.plan;
        events = s.events;
        holds = again state world s.plan s.events h k h' (ap (λ (z : HeadView T). z.channel) f.same) (ap (λ (z : HeadView T). z.hop) f.same)
            (let most = k.most in let same = taken-same in omega (arith, most, same)) (took s.events k.took)
            (k.reads.0, k.reads.1, subst (λ (i : InputView). InputStands s.plan k.reads.0 k.reads.1 i) (sym (ap (λ (z : HeadView T). z.input) f.same)) k.reads.2)
            (ap (λ (z : HeadView T). z.input.port.lane) f.same) (ap (λ (b : OutboundBufferView). b.flags.lane) f.writes) (few k.few_flags)
            (subst (λ (x : Standing). MayFailFor world (cause_of x)) (sym (ap (λ (z : HeadView T). z.standing) f.same)) k.may)
            (subst (MayFailFor world) (sym (ap (λ (z : HeadView T). z.failure) f.same)) k.may_itself);
      }

-- ---- a part

pub part-forgets : {S T : Type 0} (world : World) (meaning : S → Meaning) (stands_after : S → List Event → Type 0) (state : T → TransportState) (p p' : ChannelPartView S T) → PartForgets state p p'
    → PartHolds world meaning stands_after state p → PartHolds world meaning stands_after state p'
part-forgets world meaning stands_after state p p' f s =
    subst (λ (x : ChannelPartView _ _). PartHolds world meaning stands_after state x) (sym f.is) (record {
      path = s.path;
      head = λ h at.
          let own = s.head f.before f.has_head in
          let same = f.forgets.same in
          subst (λ (y : HeadView _). HeadHolds state world y × (y.channel ≡ p.path.channel) × (y.hop ≡ length p.path.contexts)) (same_Some f.after h at)
          (head-forgets state f.before f.after f.forgets world own.0, ap (λ (z : HeadView _). z.channel) same ∙ own.1, ap (λ (z : HeadView _). z.hop) same ∙ own.2);
      hops = s.hops;
    })

pub part-hands : {S T : Type 0} (world : World) (meaning : S → Meaning) (stands_after : S → List Event → Type 0) (state : T → TransportState) (p : ChannelPartView S T) → PartHolds world meaning stands_after state p → PartHolds world meaning stands_after state (part_handed p)
part-hands world meaning stands_after state p s = record { path = path-hands world meaning stands_after p.path s.path; head = s.head; hops = s.hops }

-- ---- a call of its tail

module _ {S : Type 0} (p v : PathPartView S) (is : v ≡ p) where
  module _ (t t' : TailView) (at : v.tail ≡ Some t) (goes : t' ≡ handed_over t) where
    pub hands-over : record v { tail = Some t' } ≡ path_handed p
    hands-over =
        ap (λ (x : TailView). record v { tail = Some x }) goes
        ∙ (λ i. record v { tail = option_map handed_over (sym at i) })
        ∙ ap (λ (x : PathPartView S). path_handed x) is

  module _ (at : v.tail ≡ None) where
    pub none-over : v ≡ path_handed p
    none-over = (λ i. record v { tail = (at ∙ sym (ap (λ (o : Option TailView). option_map handed_over o) at)) i }) ∙ ap (λ (x : PathPartView S). path_handed x) is

-- ---- a call of its head

module _ {S T : Type 0} (p v : ChannelPartView S T) (is : v ≡ p) where
  pub call-forgets : (state : T → TransportState) (h h' : HeadView T) → v.head ≡ Some h → HeadForgets state h h' → PartForgets state p (record v { head = Some h' })
  call-forgets state h h' at f = record {
    before = h;
    has_head = sym (ap (λ (x : ChannelPartView S T). x.head) is) ∙ at;
    after = h';
    forgets = f;
    is = ap (λ (x : ChannelPartView S T). record x { head = Some h' }) is;
  }

  -- It holds, whether it could or not.
  pub forgets-or-not : (state : T → TransportState) (h h' : HeadView T) → v.head ≡ Some h → (world : World) (meaning : S → Meaning) (stands_after : S → List Event → Type 0) (r : Bool) → (r ≡ true → HeadForgets state h h') → (r ≡ false → h' ≡ h)
      → PartHolds world meaning stands_after state p → PartHolds world meaning stands_after state (record v { head = Some h' })
  forgets-or-not state h h' at world meaning stands_after true f kept s = part-forgets world meaning stands_after state p (record v { head = Some h' }) (call-forgets state h h' at (f refl)) s
  forgets-or-not state h h' at world meaning stands_after false f kept s =
      subst (λ (x : ChannelPartView S T). PartHolds world meaning stands_after state x)
      (sym is ∙ (λ i. record v { head = at i }) ∙ ap (λ (x : HeadView T). record v { head = Some x }) (sym (kept refl))) s

  pub gone-at : (h : HeadView T) → v.head ≡ Some h → h.gone ≡ (part_gone p).0
  gone-at h at = sym (ap (λ (o : Option (HeadView T)). (option_map_or (λ (x : HeadView T). gone_of x) o (0, false)).0) at) ∙ ap (λ (x : ChannelPartView S T). (part_gone x).0) is

  pub none-gone : v.head ≡ None → 0 ≡ (part_gone p).0
  none-gone at = sym (ap (λ (o : Option (HeadView T)). (option_map_or (λ (x : HeadView T). gone_of x) o (0, false)).0) at) ∙ ap (λ (x : ChannelPartView S T). (part_gone x).0) is
