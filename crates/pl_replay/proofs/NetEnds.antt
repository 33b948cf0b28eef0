-- Each channel of a net has its two ends, and they hold in the world of the plan.
use Rattle.std.proofs.Common.{◌≡◌, ℕ, true, false, List, length, get_or, nat_lt, slice_get, Option, Some, None, refl, sym, ap, ◌∙◌}
use Rattle.std.specs.Prelude.{All, IfSome, IfNone, MatchOption}
use Rattle.std.specs.Option.{option_map_or}
use Rattle.std.proofs.lemmas.Bool.{ltb-true}
use Rattle.std.proofs.lemmas.Option.{none-some, slice_get_read}
use Rattle.pl_event.specs.declared.events.Event.{Event}
use Rattle.pl_event.specs.Meaning.{Meaning}
use Rattle.pl_event.proofs.Lists.{All-at, All-from-at, some-of}
use Rattle.pl_context.specs.TailViews.{TailView}
use Rattle.pl_context.specs.WaitingViews.{Entry}
use Rattle.pl_head.specs.HeadStand.{HeadView, gone_of}
use Rattle.pl_head.specs.Transports.{TransportState}
use Rattle.pl_net.specs.declared.stations.Stations.{Stations}
use Rattle.pl_part.specs.Parts.{ChannelPartView}
use Rattle.pl_replay.specs.NetStand.{NetStands}
use Rattle.pl_replay.specs.Reported.{HasEnds, HaveEnds}
use Rattle.pl_replay.specs.declared.channels.Channels.{Channels}
use Rattle.pl_world.specs.Plans.{Plan}

module _ {S T : Type 0} (meaning : S → Meaning) (stands_after : S → List Event → Type 0) (state : T → TransportState) (plan : Plan) (backlogs : ℕ → List (Entry (Unit {0}))) (stations : Stations (Channels S T)) (n : NetStands meaning stands_after state plan backlogs stations) where
  has-ends : (c : ℕ) (part : ChannelPartView S T) → slice_get stations.nodes.parts.items c ≡ Some part → HasEnds part
  has-ends c part at =
      let whole = (n.stands.hold.parts c part at).whole in
      let tail = some-of part.path.tail whole.tail in
      let head = some-of part.head whole.head in
      record { tail = tail.0; head = head.0; has_tail = tail.1; has_head = head.1 }

  pub all-have-ends : All HasEnds stations.nodes.parts.items
  all-have-ends = All-from-at HasEnds stations.nodes.parts.items has-ends

  pub have-ends : HaveEnds state plan stations.nodes.parts.items
  have-ends = record {
    count = n.keeps.count;
    each = λ c p part planned at.
        let stands = n.stands.hold.parts c part at in
        let keeps = n.keeps.each c p part planned at in
        let ends = has-ends c part at in
        let tail = stands.holds.path.tail ends.tail ends.has_tail in
        let head = stands.holds.head ends.head ends.has_head in (
          ends,
          record {
            planned = planned;
            tail_holds = tail.0;
            tail_channel = tail.1 ∙ stands.channel;
            tail_at = tail.2 ∙ keeps.tail_at;
            head_holds = head.0;
            head_channel = head.1 ∙ stands.channel;
            head_at = head.2 ∙ keeps.head_at;
            handed = sym (ap (λ (o : Option TailView). option_map_or (λ (t : TailView). t.handed) o 0) ends.has_tail) ∙ keeps.handed;
            gone = sym (ap (λ (o : Option (HeadView T)). option_map_or (λ (h : HeadView T). gone_of h) o (0, false)) ends.has_head) ∙ keeps.gone;
          },
          keeps.head ends.head ends.has_head,
        );
  }

-- The part that stands at a number has both ends.
module _ {S T : Type 0} (own parts : List (ChannelPartView S T)) (same : parts ≡ own) (ends : All HasEnds parts) (c : ℕ) (part : ChannelPartView S T) (there : true ≡ nat_lt c (length parts)) (is : part ≡ get_or parts c part) where
  stands-at : slice_get parts c ≡ Some part
  stands-at = slice_get_read parts (length parts) c part refl (ltb-true c (length parts) (sym there)) is

  pub own-at : slice_get own c ≡ Some part
  own-at = sym (ap (λ (l : List (ChannelPartView S T)). slice_get l c) same) ∙ stands-at

  pub its-ends : HasEnds part
  its-ends = All-at HasEnds parts c part ends stands-at

-- and what a part has is found in it
pub end-found : {A B : Type 0} {P : A → Type 0} (Past : Type 0) (found : Option A) (view : A → B) (own : Option B) (end : B) → own ≡ Some end → IfSome found (λ x. own ≡ Some (view x)) → IfNone found (own ≡ None)
    → ((x : A) → own ≡ Some (view x) → P x) → MatchOption found Past P
end-found Past None view own end has some none then = absurd (none-some end (sym none ∙ has))
end-found Past (Some x) view own end has some none then = then x some
