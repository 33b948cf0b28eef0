-- What a write of its head leads to in a live channel, and when there is none.
use Rattle.std.proofs.Common.{◌≡◌, ◌≢◌, ℕ, suc, ◌≤◌, Bool, true, false, List, [], length, Option, Some, None, refl, sym, ap, ◌∙◌, arith, ⊎_elim}
use Rattle.std.specs.Prelude.{is_some, slice_get, vec_len, not, ◌||◌, nat_le}
use Rattle.std.proofs.lemmas.Bool.{cases_Bool, both_ways, leb-false}
use Rattle.std.proofs.lemmas.Option.{same_Some}
use Rattle.pl_event.specs.declared.events.Event.{Event}
use Rattle.pl_event.specs.declared.outcomes.Cause.{Cause}
use Rattle.pl_event.specs.Meaning.{Meaning}
use Rattle.pl_context.specs.OutputsViews.{OutputsView}
use Rattle.pl_flow.specs.declared.head_moves.HeadMove.TheVariants as by
use Rattle.pl_head.specs.declared.heads.OutStep.{OutStep}
use Rattle.pl_head.specs.declared.heads.OutStep.TheVariants as step
use Rattle.pl_head.specs.HeadCalls.{HeadWrites}
use Rattle.pl_head.specs.InputStand.{InputView, steps_left}
use Rattle.pl_head.specs.HeadStand.{HeadView, HeadStandsAfter, cause_of_step, first_cause, is_idle}
use Rattle.pl_head.specs.Marks.{Change}
use Rattle.pl_head.specs.Transports.{TransportState}
use Rattle.pl_head.specs.Writes.{flushed_writes, out}
use Rattle.pl_net.specs.declared.stations.Stations.{Stations}
use Rattle.pl_part.specs.Parts.{ChannelPartView}
use Rattle.pl_channel.specs.Channels.{MayWrite}
use Rattle.pl_replay.specs.declared.channels.Channels.{Channels}
use Rattle.pl_world.specs.Plans.{ChannelPlan}
use Rattle.pl_live.specs.LiveStand.{LiveView, LiveStands, IsWritten, ReadsSame, accepted_in, head_in, parts_of}
use Rattle.pl_live.proofs.Moved.{accepted-at, head-in, has-moved, left-at, open-at, stands-moved}
use Rattle.pl_live.proofs.Reading.{writes-go}
use Rattle.pl_live.proofs.ReadMoves.{Made, Runs, head, ran}
use Rattle.pl_live.proofs.Sent.{offers-some}

-- ---- a head

module _ {T : Type 0} (state : T → TransportState) (may_refuse : T → ℕ → Type 0) (h h' : HeadView T) (b a : OutputsView) (answer : OutStep) (made : answer ≢ step.Idle) (w : HeadWrites state may_refuse h b answer h' a) where
  -- A write that was made has sent something or failed, where a call accepts a byte.
  pub sent-some : (size : ℕ) (ys zs : List Event) (sizes : List Change) → HeadStandsAfter state h ys zs sizes → (state h.transport).window ≡ Some (suc size)
      → length (state h'.transport).accepted ≤ length (state h.transport).accepted → is_some h'.failure ≡ true
  sent-some size ys zs sizes after window none = by-answer answer refl
    where
      waits : is_idle state h ys ≡ false
      waits = ⊎_elim (λ (idle : is_idle state h ys ≡ true). absurd (made ((w.waits ys zs sizes after).1 idle))) (λ (f : is_idle state h ys ≡ false). f) (cases_Bool (is_idle state h ys))

      flushed : (f : Bool) (least : Bool) → (f || least) ≡ false → least ≡ false
      flushed true least e = absurd (both_ways true e refl)
      flushed false least e = e

      by-answer : (s : OutStep) → answer ≡ s → is_some h'.failure ≡ true
      by-answer step.Idle is = absurd (made is)
      by-answer (step.Wrote n) is =
          let wrote = w.wrote n is in
          let full = w.full n (suc size) ys zs sizes is after window in
          let left = leb-false (length (out ys)) (length (state h.transport).accepted) (flushed (is_some h.failure) (nat_le (length (out ys)) (length (state h.transport).accepted)) waits) in
          let some = offers-some 0 (length (state h.transport).accepted) (flushed_writes ys) (omega arith) (omega (arith, left)) in
          absurd (omega (arith, wrote, full, some, none))
      by-answer step.Failed is = ap (λ (f : Option Cause). is_some f) w.failure ∙ failed h.failure answer is
        where
          failed : (f : Option Cause) (s : OutStep) → s ≡ step.Failed → is_some (first_cause f (cause_of_step s)) ≡ true
          failed (Some cause) s is = refl
          failed None s is = ap (λ (x : OutStep). is_some (cause_of_step x)) is

  pub grows : length (state h.transport).accepted ≤ length (state h'.transport).accepted
  grows = by-answer answer refl
    where
      by-answer : (s : OutStep) → answer ≡ s → length (state h.transport).accepted ≤ length (state h'.transport).accepted
      by-answer step.Idle is = absurd (made is)
      by-answer (step.Wrote n) is = let wrote = w.wrote n is in omega (arith, wrote)
      by-answer step.Failed is = let kept = ap (λ (l : List ℕ). length l) (w.kept is) in omega (arith, kept)

-- ---- a live channel

module _ {S T : Type 0} (meaning : S → Meaning) (stands_after : S → List Event → Type 0) (is_spent : S → Bool) (state : T → TransportState) (may_refuse : T → ℕ → Type 0) where
  -- a live channel after a write: it stands, and has made no read; and where no more was accepted, its head has failed
  pub record IsOffered (p : ChannelPlan) (live : LiveView S T) (stations' : Stations (Channels S T)) : Type 0 where
    pub stands : LiveStands meaning stands_after state p (record live { stations = stations' })
    pub reads : ReadsSame (parts_of live) stations'.nodes.parts.items
    pub grew : length (accepted_in state (parts_of live)) ≤ length (accepted_in state stations'.nodes.parts.items)
    pub failed : length (accepted_in state stations'.nodes.parts.items) ≤ length (accepted_in state (parts_of live)) → (w : ℕ) (h : HeadView T) → p.window ≡ Some (suc w) → head_in stations'.nodes.parts.items ≡ Some h → h.failure ≡ None → ⊥

  module _ (p : ChannelPlan) (live : LiveView S T) (s : LiveStands meaning stands_after state p live) where
    abbrev part : ChannelPartView S T
    part = s.goes.part

    abbrev own : (h : HeadView T) × (part.head ≡ Some h)
    own = head meaning stands_after is_spent state may_refuse p live s

    at : slice_get (parts_of live) 0 ≡ Some part
    at = ap (λ (ps : List (ChannelPartView S T)). slice_get ps 0) s.goes.is_alone

    pub is-offered : (stations' : Stations (Channels S T)) → Runs meaning stands_after is_spent state may_refuse live by.Out stations' → stations'.work.items ≡ [] → vec_len stations'.stations ≡ vec_len live.stations.stations → IsOffered p live stations'
    is-offered stations' runs rests count =
        let m = has-moved meaning stands_after is_spent state p live s (Made meaning stands_after is_spent state may_refuse by.Out) stations' (ran meaning stands_after is_spent state may_refuse live by.Out stations' runs) rests count in
        let alone = s.goes.is_alone in
        let r = writes-go meaning stands_after state may_refuse p live.ends part m.then live.stations.work m.after m.same s.goes.by_plan m.moved in
        let on = m.settles r.goes in
        let now = on.3.head r.h' r.is in
        let bytes-was = ap (λ (l : List ℕ). length l) (accepted-at part (parts_of live) alone state own.0 own.1) in
        let bytes-are = ap (λ (l : List ℕ). length l) (accepted-at on.0 stations'.nodes.parts.items on.1 state now.0 now.1 ∙ ap (λ (t : T). (state t).accepted) now.3) in
        let more = grows state may_refuse own.0 r.h' live.stations.work m.after r.answer r.made r.wrote in
        let took = ((s.stands.hold.parts 0 part at).holds.head own.0 own.1).0.holds.took in
        record {
          stands = stands-moved meaning stands_after is_spent state p live s (Made meaning stands_after is_spent state may_refuse by.Out) stations' (ran meaning stands_after is_spent state may_refuse live by.Out stations' runs) rests count on.0 on.1 on.2 (on.3.handed ∙ m.same.path.handed) (on.3.gone ∙ m.same.gone) (omega (arith, more, bytes-was, bytes-are));
          reads =
              let input : now.0.input ≡ own.0.input = now.2 ∙ ap (λ (x : HeadView T). x.input) r.wrote.same in (
                left-at on.0 stations'.nodes.parts.items on.1 now.0 now.1 ∙ ap (λ (i : InputView). steps_left i) input ∙ sym (left-at part (parts_of live) alone own.0 own.1),
                open-at on.0 stations'.nodes.parts.items on.1 now.0 now.1 ∙ ap (λ (i : InputView). i.port.is_open) input ∙ sym (open-at part (parts_of live) alone own.0 own.1),
              );
          grew = omega (arith, more, bytes-was, bytes-are);
          failed = λ none w h window is unfailed.
              let new : now.0 ≡ h = same_Some now.0 h (sym now.1 ∙ sym (head-in on.0 stations'.nodes.parts.items on.1) ∙ is) in
              let failed = now.4 (sent-some state may_refuse own.0 r.h' live.stations.work m.after r.answer r.made r.wrote w took.ys took.zs took.sizes took.after (s.goes.by_plan.window own.0 own.1 ∙ window) (omega (arith, none, bytes-was, bytes-are))) in
              both_ways (is_some now.0.failure) (ap (λ (f : Option Cause). is_some f) (ap (λ (x : HeadView T). x.failure) new ∙ unfailed)) failed;
        }

    -- where none was made, no flushed byte waits
    pub not-offered : MayWrite state (parts_of live) 0 false → (h : HeadView T) → head_in (parts_of live) ≡ Some h → IsWritten state h
    not-offered may h is ys zs sizes after = not-not (is_idle state h ys) (may part h ys zs sizes at (sym (head-in part (parts_of live) s.goes.is_alone) ∙ is) after)
      where
        not-not : (b : Bool) → false ≡ not b → b ≡ true
        not-not true e = refl
        not-not false e = absurd (both_ways true (sym e) refl)
