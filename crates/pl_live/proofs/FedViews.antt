-- A part that is fed a burst differs in nothing but what its head is to read: executors see it as it was.
use Rattle.std.proofs.Common.{◌≡◌, ℕ, ◌+◌, Bool, false, ◌&&◌, List, [], ◌∷◌, length, Option, Some, None, refl, ap, subst, ◌∙◌}
use Rattle.std.specs.Prelude.{◌==◌, is_some, nat_lt, if◌then◌else◌}
use Rattle.std.specs.Option.{option_map, option_map_or}
use Rattle.std.proofs.lemmas.Option.{none-some, same_Some}
use Rattle.pl_event.specs.declared.elements.Element.{Element}
use Rattle.pl_event.specs.declared.envelopes.Lane.{Lane}
use Rattle.pl_event.specs.Meaning.{Meaning}
use Rattle.pl_flow.specs.Flows.{Point, nowhere}
use Rattle.pl_head.specs.HeadStand.{HeadView, fed_head, gone_of}
use Rattle.pl_part.specs.Counts.{part_done, path_done, head_done}
use Rattle.pl_part.specs.Growing.{fed_part}
use Rattle.pl_part.specs.HeadHolds.{head_came, head_taken, head_writes}
use Rattle.pl_part.specs.Parts.{ChannelPartView, SamePart, head_hop, part_came, part_taken, part_writes}
use Rattle.pl_part.specs.Paths.{path_came, path_taken, path_writes}
use Rattle.pl_channel.specs.Channels.{HasAllNodes, data_lanes_of, writes_here}
use Rattle.pl_channel.proofs.OneChannel.{home-stays, origin-stays, target-stays, taken-none, unchanged}
use Rattle.pl_replay.specs.Views.{channels_view}

module _ {S T : Type 0} (burst : List Element) (part : ChannelPartView S T) where
  abbrev fed : ChannelPartView S T
  fed = fed_part burst part

  -- ---- its head

  -- what is said of a head, or of none, whatever is left to be read
  pub of-head : {A : Type 0} (f : HeadView T → A) (none : A) → ((h : HeadView T) → f (fed_head burst h) ≡ f h) → option_map_or f fed.head none ≡ option_map_or f part.head none
  of-head f none same = by part.head
    where
      by : (o : Option (HeadView T)) → option_map_or f (option_map (fed_head burst) o) none ≡ option_map_or f o none
      by None = refl
      by (Some h) = same h

  pub still-there : is_some fed.head ≡ is_some part.head
  still-there = by part.head
    where
      by : (o : Option (HeadView T)) → is_some (option_map (fed_head burst) o) ≡ is_some o
      by None = refl
      by (Some h) = refl

  -- what holds of the head that was fed
  pub head-fed : (P : HeadView T → Type 0) → ((h : HeadView T) → part.head ≡ Some h → P (fed_head burst h)) → (h : HeadView T) → fed.head ≡ Some h → P h
  head-fed P holds = by part.head holds
    where
      by : (o : Option (HeadView T)) → ((h : HeadView T) → o ≡ Some h → P (fed_head burst h)) → (h : HeadView T) → option_map (fed_head burst) o ≡ Some h → P h
      by None holds h at = absurd (none-some h at)
      by (Some x) holds h at = subst P (same_Some (fed_head burst x) h at) (holds x refl)

  -- ---- its nodes

  same-part : SamePart part fed
  same-part = record {
    path = record { channel = refl; executors = refl; contexts = refl; tail = refl; tail_hop = refl; turn = refl; handed = refl };
    head = still-there;
    gone = of-head (λ h. gone_of h) (0, false) (λ h. refl);
  }

  pub fed-whole : HasAllNodes part → HasAllNodes fed
  fed-whole w = record { outbound = w.outbound; filled = w.filled; tail = w.tail; head = still-there ∙ w.head }

  pub fed-done : part_done fed ≡ part_done part
  fed-done = ap (λ (n : ℕ). path_done part.path + n) (of-head (λ h. head_done h) 0 (λ h. refl))

  fed-taken : (l : Lane) → part_taken fed l ≡ part_taken part l
  fed-taken l = ap (λ (n : ℕ). if l.hop == head_hop part then n else path_taken part.path l) (of-head (λ h. head_taken h l) 0 (λ h. refl))

  module _ (meaning : S → Meaning) where
    fed-writes : (l : Lane) → part_writes meaning fed l ≡ part_writes meaning part l
    fed-writes l = ap (λ (b : Bool). if l.hop == 0 then b else path_writes meaning part.path l) (of-head (λ h. head_writes h l) false (λ h. refl))

    fed-came : (l : Lane) → part_came meaning fed l ≡ part_came meaning part l
    fed-came l = ap (λ (p : Point). if l.hop == 0 then p else path_came meaning part.path l) (of-head (λ h. head_came h l) nowhere (λ h. refl))

    -- alone, it is seen as it was
    pub fed-view : channels_view meaning (fed ∷ []) ≡ channels_view meaning (part ∷ [])
    fed-view = λ i. record {
      channels = 1;
      home = home-stays (part ∷ []) 0 part fed refl same-part i;
      origin = origin-stays (part ∷ []) 0 part fed refl same-part i;
      lanes = record {
        target = target-stays (part ∷ []) 0 part fed refl same-part i;
        written = λ l. unchanged (part ∷ []) 0 part fed refl (λ (q : ChannelPartView S T). writes_here meaning q l) false (ap (λ (b : Bool). nat_lt l.hop (length part.path.executors) && b) (fed-writes l)) l.channel i;
        taken = taken-none (part ∷ []) 0 part fed refl fed-taken i;
        came = λ l. unchanged (part ∷ []) 0 part fed refl (λ (q : ChannelPartView S T). part_came meaning q l) nowhere (fed-came l) l.channel i;
        places = data_lanes_of (part ∷ []);
      };
      work_done = 0 + fed-done i;
    }
