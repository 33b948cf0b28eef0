-- What taking an item leaves of a part whose nodes go by the plan of a live channel: they go by it still, the head reads and
-- sends as before, and nothing is handed over or forgotten.
use Rattle.std.proofs.Common.{◌≡◌, ℕ, zero, suc, ◌==◌, Bool, true, false, List, [], ◌∷◌, length, Option, Some, None, refl, sym, ap, subst, ◌∙◌, inl, inr}
use Rattle.std.specs.Prelude.{is_some, slice_get, slice_set, ◌&&◌, ◌||◌}
use Rattle.std.proofs.lemmas.Bool.{both_ways, cases_Bool, or_left}
use Rattle.std.proofs.lemmas.List.{length-map}
use Rattle.std.proofs.lemmas.Option.{none-some, same_Some}
use Rattle.pl_event.specs.declared.events.Event.{Event}
use Rattle.pl_event.specs.declared.envelopes.Envelope.{Envelope}
use Rattle.pl_event.specs.declared.outcomes.Cause.{Cause}
use Rattle.pl_event.specs.Meaning.{Meaning}
use Rattle.pl_event.specs.Worlds.{closes}
use Rattle.pl_event.proofs.Lists.{some-of}
use Rattle.pl_context.specs.declared.standing.Standing.{Standing}
use Rattle.pl_context.specs.declared.standing.Standing.TheVariants as standings
use Rattle.pl_context.specs.declared.standing.Took.{Took}
use Rattle.pl_context.specs.Standings.{is_over}
use Rattle.pl_context.specs.ContextViews.{ContextView}
use Rattle.pl_context.specs.OutputsViews.{OutputsView}
use Rattle.pl_head.specs.HeadCalls.{HeadTakes}
use Rattle.pl_head.specs.HeadStand.{HeadView, first_cause, cause_of_item, lane_over}
use Rattle.pl_head.specs.InputStand.{InputStands, fed_plan}
use Rattle.pl_head.specs.Transports.{TransportState}
use Rattle.pl_part.specs.Paths.{path_handed_over}
use Rattle.pl_part.specs.Parts.{ChannelPartView, SamePart, PartTakes, head_hop, part_gone}
use Rattle.pl_channel.specs.Channels.{HasMoved}
use Rattle.pl_channel.specs.Feeding.{MeansPlan}
use Rattle.pl_world.specs.Plans.{ChannelPlan}
use Rattle.pl_live.specs.LiveStand.{IsUnclosed, ReadsFed, GoesByPlan}
use Rattle.pl_live.proofs.Meant.{takes-means}

-- a head that has failed has
pub some-failed : (f later : Option Cause) → is_some f ≡ true → is_some (first_cause f later) ≡ true
some-failed None later e = absurd (both_ways true (sym e) refl)
some-failed (Some cause) later e = refl

pub none-before : (f later : Option Cause) → first_cause f later ≡ None → f ≡ None
none-before None later e = refl
none-before (Some cause) later e = absurd (none-some cause (sym e))

is-open : (s : Standing) (closed : Bool) → (is_over s || closed) ≡ false → s ≡ standings.Open
is-open standings.Open closed e = refl
is-open standings.Ended closed e = absurd (both_ways true e refl)
is-open (standings.Failed cause) closed e = absurd (both_ways true e refl)

-- ---- what follows a part

module _ {S T : Type 0} where
  -- A part follows another: the head, which reads and sends as it did, has failed where it had; and nothing is handed over or
  -- forgotten.
  pub record Follows (part part' : ChannelPartView S T) : Type 0 where
    pub head : (h : HeadView T) → part.head ≡ Some h → (h' : HeadView T) × (part'.head ≡ Some h') × (h'.input ≡ h.input) × (h'.transport ≡ h.transport) × (is_some h.failure ≡ true → is_some h'.failure ≡ true) × (IsUnclosed h → IsUnclosed h')
    pub handed : path_handed_over part'.path ≡ path_handed_over part.path
    pub gone : part_gone part' ≡ part_gone part

  pub follows-self : (part : ChannelPartView S T) → Follows part part
  follows-self part = record { head = λ h at. (h, at, refl, refl, λ f. f, λ u. u); handed = refl; gone = refl }

  pub follows-on : (a b c : ChannelPartView S T) → Follows a b → Follows b c → Follows a c
  follows-on a b c f g = record {
    head = λ h at.
        let x = f.head h at in
        let y = g.head x.0 x.1 in
        (y.0, y.1, y.2 ∙ x.2, y.3 ∙ x.3, λ failed. y.4 (x.4 failed), λ u. y.5 (x.5 u));
    handed = g.handed ∙ f.handed;
    gone = g.gone ∙ f.gone;
  }

  -- ---- an item taken

  module _ (meaning : S → Meaning) (stands_after : S → List Event → Type 0) (is_spent : S → Bool) (state : T → TransportState) where
    head-takes : (h h' : HeadView T) (e : Envelope) (b : OutputsView) (answer : Took) (a : OutputsView) → HeadTakes state h e b answer h' a → (s : Standing) → h.standing ≡ s → is_some h.failure ≡ true → is_some h'.failure ≡ true
    head-takes h h' e b answer a t standings.Open is failed = ap (λ (f : Option Cause). is_some f) (t.failure is) ∙ some-failed h.failure (cause_of_item e.item answer) failed
    head-takes h h' e b answer a t standings.Ended is failed = ap (λ (x : HeadView T). is_some x.failure) (t.over (over-by (ap is_over is))).1 ∙ failed
      where
        over-by : is_over h.standing ≡ true → lane_over h ≡ true
        over-by over = or_left (is_over h.standing) h.is_closed over
    head-takes h h' e b answer a t (standings.Failed cause) is failed = ap (λ (x : HeadView T). is_some x.failure) (t.over (over-by (ap is_over is))).1 ∙ failed
      where
        over-by : is_over h.standing ≡ true → lane_over h ≡ true
        over-by over = or_left (is_over h.standing) h.is_closed over

    takes-unclosed : (h h' : HeadView T) (e : Envelope) (b : OutputsView) (answer : Took) (a : OutputsView) → HeadTakes state h e b answer h' a → IsUnclosed h → IsUnclosed h'
    takes-unclosed h h' e b answer a t was none = elim (cases_Bool (lane_over h)) [
      | inl over ↦ let same = (t.over over).1 in ap (λ (x : HeadView T). x.is_closed) same ∙ was (sym (ap (λ (x : HeadView T). x.failure) same) ∙ none)
      | inr going ↦
          let unfailed = none-before h.failure (cause_of_item e.item answer) (sym (t.failure (is-open h.standing h.is_closed going)) ∙ none) in
          t.closed going ∙ ap (λ (f : Option Cause). is_some f && closes e.item) unfailed
    ]

    pub takes-follow : (part part' : ChannelPartView S T) (e : Envelope) (b : OutputsView) (answer : Took) (a : OutputsView) → SamePart part part' → PartTakes meaning stands_after is_spent state part e b answer part' a → Follows part part'
    takes-follow part part' e b answer a same t = elim (cases_Bool (e.lane.hop == head_hop part)) [
      | inl here ↦ record {
        head = λ h at.
            let took = t.head h here at in
            (took.0, took.1, ap (λ (x : HeadView T). x.input) took.2.same, ap (λ (x : HeadView T). x.transport) took.2.same, λ failed. head-takes h took.0 e b answer a took.2 h.standing refl failed, λ u. takes-unclosed h took.0 e b answer a took.2 u);
        handed = same.path.handed;
        gone = same.gone;
      }
      | inr away ↦ record {
        head = λ h at. (h, (t.path away).1 ∙ at, refl, refl, λ f. f, λ u. u);
        handed = same.path.handed;
        gone = same.gone;
      }
    ]

  -- ---- the plan

  module _ (meaning : S → Meaning) (stands_after : S → List Event → Type 0) (state : T → TransportState) (p : ChannelPlan) (ends : Bool) where
    reads-kept : (h h' : HeadView T) → h'.input ≡ h.input → (is_some h.failure ≡ true → is_some h'.failure ≡ true) → ReadsFed p ends h → ReadsFed p ends h'
    reads-kept h h' input fails r = record {
      reads = r.reads;
      failed = r.failed;
      stand = subst (InputStands (fed_plan p.bursts) r.reads r.failed) (sym input) r.stand;
      by_failure = λ f. fails (r.by_failure f);
      not_ended = r.not_ended;
    }

    -- a head reads what was fed, by the plan
    abbrev pub IsHeadFed : HeadView T → Type 0
    IsHeadFed h = ReadsFed p ends h × ((state h.transport).window ≡ p.window) × IsUnclosed h

    -- Nodes that are the same and mean the same go by the plan, where what follows does.
    pub goes-same : (part part' : ChannelPartView S T) → SamePart part part' → MeansPlan meaning p part' → ((h' : HeadView T) → part'.head ≡ Some h' → IsHeadFed h')
        → GoesByPlan meaning stands_after state p ends part → GoesByPlan meaning stands_after state p ends part'
    goes-same part part' same means head g = record {
      executors_are = same.path.executors ∙ g.executors_are;
      tail_at = same.path.tail_hop ∙ g.tail_at;
      head_at = sym (length-map part'.path.contexts (λ (slot : Option (ContextView S)). is_some slot)) ∙ ap length same.path.contexts ∙ length-map part.path.contexts (λ (slot : Option (ContextView S)). is_some slot) ∙ g.head_at;
      meant = means;
      has_head = same.head ∙ g.has_head;
      has_tail = same.path.tail ∙ g.has_tail;
      reads = λ h' at. (head h' at).0;
      window = λ h' at. (head h' at).1;
      unclosed = λ h' at. (head h' at).2;
    }

    -- The head of a part that follows reads what was fed.
    follows-head : (part part' : ChannelPartView S T) → Follows part part' → GoesByPlan meaning stands_after state p ends part → (h' : HeadView T) → part'.head ≡ Some h' → IsHeadFed h'
    follows-head part part' f g h' at =
        let was = some-of part.head g.has_head in
        let now = f.head was.0 was.1 in
        let own : now.0 ≡ h' = same_Some now.0 h' (sym now.1 ∙ at) in
        subst (λ (x : HeadView T). IsHeadFed x) own (reads-kept was.0 now.0 now.2 now.4 (g.reads was.0 was.1), ap (λ (x : T). (state x).window) now.3 ∙ g.window was.0 was.1, now.5 (g.unclosed was.0 was.1))

    -- An item is taken: the part goes by the plan, and follows.
    pub takes-go : (is_spent : S → Bool) (part part' : ChannelPartView S T) (e : Envelope) (b : OutputsView) (answer : Took) (a : OutputsView) → SamePart part part' → PartTakes meaning stands_after is_spent state part e b answer part' a
        → GoesByPlan meaning stands_after state p ends part → GoesByPlan meaning stands_after state p ends part' × Follows part part'
    takes-go is_spent part part' e b answer a same t g =
        let f = takes-follow meaning stands_after is_spent state part part' e b answer a same t in
        (goes-same part part' same (takes-means meaning p part part' stands_after is_spent state e b a answer same g.has_head t g.tail_at g.meant) (follows-head part part' f g) g, f)

-- ---- a channel that is alone

-- the part that moved is the only one
pub one-moved : {S T : Type 0} (does : ChannelPartView S T → ChannelPartView S T → Type 0) (part : ChannelPartView S T) (parts parts' : List (ChannelPartView S T)) (c : ℕ) → parts ≡ part ∷ [] → HasMoved does parts c parts'
    → (part' : ChannelPartView S T) × (parts' ≡ part' ∷ []) × SamePart part part' × does part part'
one-moved does part parts parts' zero is m =
    let own : part ≡ m.before = same_Some part m.before (sym (ap (λ (ps : List (ChannelPartView _ _)). slice_get ps 0) is) ∙ m.was) in (
      m.after,
      m.becomes ∙ ap (λ (ps : List (ChannelPartView _ _)). slice_set ps 0 m.after) is,
      subst (λ (q : ChannelPartView _ _). SamePart q m.after) (sym own) m.same,
      subst (λ (q : ChannelPartView _ _). does q m.after) (sym own) m.done,
    )
one-moved does part parts parts' (suc c) is m = absurd (none-some m.before (sym (ap (λ (ps : List (ChannelPartView _ _)). slice_get ps (suc c)) is) ∙ m.was))
