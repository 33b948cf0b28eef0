-- A net of one channel before any move, as a live channel that was fed nothing.
use Rattle.std.proofs.Common.{◌≡◌, ℕ, zero, suc, ◌+◌, ◌-◌, Bool, true, false, List, [], ◌∷◌, ◌++◌, length, map, get_or, Option, Some, None, refl, sym, ap, subst, ◌∙◌, arith}
use Rattle.std.specs.Prelude.{is_some, slice_get, ◌&&◌}
use Rattle.std.specs.Option.{option_map}
use Rattle.std.proofs.lemmas.Bool.{both_ways}
use Rattle.std.proofs.lemmas.List.{map-append}
use Rattle.std.proofs.lemmas.List.Elements.{All-head, All-map}
use Rattle.std.proofs.lemmas.Option.{none-some, same_Some}
use Rattle.pl_event.specs.declared.events.Event.{Event}
use Rattle.pl_event.specs.Meaning.{Meaning}
use Rattle.pl_stages.specs.Counts.{IsThrifty}
use Rattle.pl_build.specs.Pipelines.{PlacedView}
use Rattle.pl_context.specs.ContextViews.{ContextView}
use Rattle.pl_head.specs.HeadStand.{HeadView}
use Rattle.pl_head.specs.Transports.{TransportState}
use Rattle.pl_net.specs.Nets.{no_backlogs}
use Rattle.pl_net.specs.declared.stations.Stations.{Stations}
use Rattle.pl_part.specs.NewParts.{new_slots}
use Rattle.pl_part.specs.Parts.{ChannelPartView}
use Rattle.pl_world.specs.declared.session.Recorded.{Recorded}
use Rattle.pl_head.specs.declared.inputs.ReadPlan.{ReadPlan}
use Rattle.pl_world.specs.Limits.{is_placed, is_within}
use Rattle.pl_world.specs.Plans.{ChannelPlan, channel_planned, planned}
use Rattle.pl_world.specs.PlanRules.{IsSmallChannel}
use Rattle.pl_world.specs.Reports.{tail_of}
use Rattle.pl_channel.specs.Feeding.{MeansPlan}
use Rattle.pl_channel.specs.WholeParts.{IsNewHead}
use Rattle.pl_replay.specs.Starts.{HasPlannedStages, NetBegins, transports_of}
use Rattle.pl_replay.specs.declared.channels.Channels.{Channels}
use Rattle.pl_live.specs.declared.live.TheConstants.{MAX_FED}
use Rattle.pl_live.specs.LiveStand.{IsUnclosed, LiveStands, ReadsFed, gone_in, handed_in}

-- ---- what new contexts mean

module _ {S : Type 0} (meaning : S → Meaning) (channel k : ℕ) where
  abbrev means : Option (ContextView S) → Option Meaning
  means slot = option_map (λ (c : ContextView S). meaning c.stage) slot

  new-meanings : (hop : ℕ) (stages : List S) → map means (new_slots meaning channel k hop stages) ≡ map (λ (m : Meaning). Some m) (map meaning stages)
  new-meanings hop [] = refl
  new-meanings hop (stage ∷ stages) = ap (λ (l : List (Option Meaning)). Some (meaning stage) ∷ l) (new-meanings (hop + 1) stages)

  at-slot : (slots : List (Option (ContextView S))) (hop : ℕ) (c : ContextView S) → get_or slots hop None ≡ Some c → get_or (map means slots) hop None ≡ Some (meaning c.stage)
  at-slot [] hop c at = absurd (none-some c at)
  at-slot (slot ∷ slots) zero c at = ap means at
  at-slot (slot ∷ slots) (suc hop) c at = at-slot slots hop c at

pub new-means : {S T : Type 0} (meaning : S → Meaning) (stands_after : S → List Event → Type 0) (number : ℕ) (p : ChannelPlan) (part : ChannelPartView S T) → HasPlannedStages meaning stands_after number p part → MeansPlan meaning p part
new-means meaning stands_after number p part new hop c at =
    let k = length new.inbound in
    let all : map (means meaning number k) part.path.contexts ≡ map (λ (m : Meaning). Some m) p.inbound ++ None ∷ map (λ (m : Meaning). Some m) p.outbound =
    ap (λ (l : List (Option (ContextView _))). map (means meaning number k) l) new.stages.contexts_are
    ∙ map-append (means meaning number k) (new_slots meaning number k 0 new.inbound) (None ∷ new_slots meaning number k (k + 1) new.outbound)
    ∙ (λ i. new-meanings meaning number k 0 new.inbound i ++ None ∷ new-meanings meaning number k (k + 1) new.outbound i)
    ∙ (λ i. map (λ (m : Meaning). Some m) (new.inbound_are i) ++ None ∷ map (λ (m : Meaning). Some m) (new.outbound_are i)) in
    ap (λ (l : List (Option Meaning)). get_or l hop None) (sym all) ∙ at-slot meaning number k part.path.contexts hop c at

-- ---- a live channel

-- a list of one
one-of : {A : Type 0} (xs : List A) → length xs ≡ 1 → (x : A) × (xs ≡ x ∷ [])
one-of [] e = absurd (omega (arith, e))
one-of (x ∷ []) e = (x, refl)
one-of (x ∷ y ∷ xs) e = absurd (omega (arith, e))

module _ {S T : Type 0} (meaning : S → Meaning) (stands_after : S → List Event → Type 0) (state : T → TransportState) (thrifty : (stage : S) → IsThrifty (meaning stage)) (pipeline : PlacedView S) (transport : T) where
  abbrev r : Recorded S T
  r = record { pipeline = pipeline; input = record { bursts = []; abort_after = None }; transport = transport }

  abbrev p : ChannelPlan
  p = channel_planned meaning state r

  -- its head has read nothing, and has taken nothing
  new-reads : (h : HeadView T) → IsNewHead state 0 p transport h → ReadsFed p false h
  new-reads h new = record { reads = 0; failed = false; stand = new.reads; by_failure = λ e. absurd (both_ways true (sym e) refl); not_ended = λ _. omega arith }

  pub starts : (stations : Stations (Channels S T)) → NetBegins meaning stands_after state (planned meaning state 1 1 (r ∷ [])) (transports_of (r ∷ [])) stations
      → LiveStands meaning stands_after state p (record { stations = stations; room = MAX_FED - 1; ends = false; delivered = 0; front = []; gone = 0; consumed = 0 })
  starts stations begins =
      let n = begins.stands in
      let one = one-of stations.nodes.parts.items n.keeps.count in
      let at : slice_get stations.nodes.parts.items 0 ≡ Some one.0 = ap (λ (ps : List (ChannelPartView S T)). slice_get ps 0) one.1 in
      let keeps = n.keeps.each 0 p one.0 refl at in
      let first = begins.begins.each 0 p transport one.0 refl refl at in
      let whole = first.0 in
      let head = whole.head in
      let own = λ (Holds : HeadView T → Type 0) (holds : Holds head.0) (h : HeadView T) (there : one.0.head ≡ Some h). subst Holds (same_Some head.0 h (sym head.1 ∙ there)) holds in
      record {
        plan = record {
          ruled = n.ruled;
          small = All-head IsSmallChannel p [] n.small.channels;
          thrifty_inbound = All-map IsThrifty meaning pipeline.inbound (λ k d below. thrifty (get_or pipeline.inbound k d));
          thrifty_outbound = All-map IsThrifty meaning pipeline.outbound (λ k d below. thrifty (get_or pipeline.outbound k d));
        };
        fed = refl;
        goes = record {
          part = one.0;
          is_alone = one.1;
          by_plan = record {
            executors_are = keeps.executors;
            tail_at = keeps.tail_at;
            head_at = keeps.head_at;
            meant = new-means meaning stands_after 0 p one.0 first.1;
            has_head = ap (λ (o : Option (HeadView T)). is_some o) head.1;
            has_tail = ap (λ (o : Option _). is_some o) whole.tail;
            reads = own (ReadsFed p false) (new-reads head.0 head.2);
            window = own (λ h. (state h.transport).window ≡ p.window) (ap (λ (t : T). (state t).window) head.2.transport_is);
            unclosed = own IsUnclosed (λ _. head.2.closed);
          };
        };
        handed = record {
          events = record { before = []; rest = tail_of p; in_order = refl; delivered_is = refl; handed_is = sym (ap (λ (ps : List (ChannelPartView S T)). handed_in ps) one.1 ∙ keeps.handed) };
          gone_is = sym (ap (λ (ps : List (ChannelPartView S T)). gone_in ps) one.1 ∙ ap (λ (x : ℕ × Bool). x.0) keeps.gone);
          consumed_within = omega arith;
        };
        executors = n.executors;
        backlogs = no_backlogs;
        stands = n.stands;
        rests = n.rests;
      }

  -- So it does where the net is that of a world with this channel alone.
  pub starts-from : (executors : ℕ) (channels : List (Recorded S T)) (net stations : Stations (Channels S T)) → executors ≡ 1 → channels ≡ r ∷ [] → stations ≡ net
      → NetBegins meaning stands_after state (planned meaning state 1 executors channels) (transports_of channels) net → LiveStands meaning stands_after state p (record { stations = stations; room = MAX_FED - 1; ends = false; delivered = 0; front = []; gone = 0; consumed = 0 })
  starts-from executors channels net stations one only same begins = starts stations (
      subst (λ (x : ℕ × List (Recorded S T) × Stations (Channels S T)). NetBegins meaning stands_after state (planned meaning state 1 x.0 x.1) (transports_of x.1) x.2) (λ i. (one i, only i, sym same i)) begins
      )

-- ---- a world of one channel

module _ {S T : Type 0} (pipelines : List (PlacedView S)) (inputs : List ReadPlan) (transports : List T) (pipeline : PlacedView S) (transport : T) (one : pipelines ≡ pipeline ∷ []) (input : inputs ≡ record { bursts = []; abort_after = None } ∷ []) (only : transports ≡ transport ∷ []) where
  -- it is within its limits just where its handlers are on executor 0
  within-is : is_within pipelines inputs transports 1 ≡ is_placed 1 pipeline
  within-is = (λ i. is_within (one i) (input i) (only i) 1) ∙ by (is_placed 1 pipeline)
    where
      by : (b : Bool) → ((b && true) && true) ≡ b
      by true = refl
      by false = refl

  pub is-allowed : is_within pipelines inputs transports 1 ≡ true → is_placed 1 pipeline ≡ true
  is-allowed within = sym within-is ∙ within
