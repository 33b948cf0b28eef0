-- By channel the seats on its words, while the nodes stand.
use Rattle.std.proofs.Common.{◌≡◌, ◌≢◌, ℕ, zero, suc, ◌-◌, ◌<◌, Bool, List, [], drop, length, map, replicate, set, slice_get, Option, Some, None, refl, ap, sym, ◌∙◌, subst, arith, inl, inr, ⊎_elim}
use Rattle.std.specs.Prelude.{◌∷◌, is_some, slice_set}
use Rattle.std.specs.Option.{option_map, option_map_or}
use Rattle.std.proofs.lemmas.Bool.{cases_eq}
use Rattle.std.proofs.lemmas.Bool.Decides.{eqb_tells}
use Rattle.std.proofs.lemmas.List.{length-map, length-replicate, length-set, set-get_or}
use Rattle.std.proofs.lemmas.Option.{none-some, same_Some, slice_get-map, slice_get_within, get_or_from_slice_get}
use Rattle.pl_event.specs.declared.events.Event.{Event}
use Rattle.pl_event.specs.declared.outcomes.Cause.{Cause}
use Rattle.pl_event.specs.Meaning.{Meaning}
use Rattle.pl_event.specs.Worlds.{World}
use Rattle.pl_event.proofs.Lists.{All-at, at_set_same, at_set_other, at-index}
use Rattle.pl_context.specs.Standings.{is_over}
use Rattle.pl_head.specs.Buffers.{untold}
use Rattle.pl_head.specs.HeadStand.{BufferAfter, HeadView}
use Rattle.pl_head.specs.Transports.{TransportState}
use Rattle.pl_part.specs.Parts.{ChannelPartView}
use Rattle.pl_part.specs.Told.{IsTold, part_untold, told_head}
use Rattle.pl_part.proofs.ShareLemmas.{only-some}
use Rattle.pl_part.proofs.ToldLemmas.{none-told}
use Rattle.pl_channel.specs.WholeParts.{IsNewHead}
use Rattle.pl_words.specs.declared.watermark.TheConstants.{MAX_SETS}
use Rattle.pl_world.specs.declared.session.Recorded.{Recorded}
use Rattle.pl_world.specs.Plans.{ChannelPlan, Plan, channel_planned}
use Rattle.pl_world.specs.PlanRules.{IsChannelPlan, IsPlan}
use Rattle.pl_exec.specs.ExecutorNodes.{NodesStand}
use Rattle.pl_exec.specs.SessionWords.{ChannelNames, SeatsView, AreHeadSeatsOf, AreNewlySeated, AreSeatsOf, AreUnused, IsUnused, recorded_marks, seats_marks, seats_names}
use Rattle.pl_exec.specs.Sharing.{AreDealt}
use Rattle.pl_exec.specs.Telling.{AreSeated, IsSeated, IsToldAt, KeepsOthers, Tells, TellsAt, plan_marks}

-- ---- what was told

pub told-at : {S T : Type 0} (ps : List (ChannelPartView S T)) (c : ℕ) (p p' : ChannelPartView S T) → slice_get ps c ≡ Some p → IsTold p p' → IsToldAt ps c (slice_set ps c p')
told-at ps c p p' was told = record { before = p; after = p'; was = was; becomes = refl; told = told }

pub none-told-at : {S T : Type 0} (ps : List (ChannelPartView S T)) (c : ℕ) → c < length ps → IsToldAt ps c ps
none-told-at ps c within =
    let p = at-index ps c within in
    record {
      before = p.0;
      after = p.0;
      was = p.1;
      becomes = sym (ap (λ (x : ChannelPartView _ _). set ps c x) (sym (get_or_from_slice_get ps c p.0 p.0 p.1)) ∙ set-get_or ps c p.0);
      told = none-told p.0;
    }

-- ---- what seats tell

-- seats that have told how a head stands, after it told some of its settled writes
pub tells-told : {S T : Type 0} (p p' : ChannelPartView S T) (s : SeatsView) → IsTold p p' → part_untold p' ≡ []
    → ((x : HeadView T) → p.head ≡ Some x → s.mark.sets < MAX_SETS - 1 → (s.mark.pending ≡ x.buffer.pending) × (s.mark.unwritable ≡ x.buffer.is_unwritable)) → (h : HeadView T) → p'.head ≡ Some h → Tells s h
tells-told {T = T} p p' s told none says h is = by p.head refl
  where
    after : (o : Option (HeadView T)) → p.head ≡ o → option_map (told_head told.so_many) o ≡ Some h
    after o at = sym (ap (option_map (told_head told.so_many)) at) ∙ sym (ap (λ (q : ChannelPartView _ T). q.head) told.is) ∙ is

    by : (o : Option (HeadView T)) → p.head ≡ o → Tells s h
    by None at = absurd (none-some h (after None at))
    by (Some x) at =
        let same : told_head told.so_many x ≡ h = same_Some (told_head told.so_many x) h (after (Some x) at) in
        record {
          pending = λ below. (says x at below).0 ∙ ap (λ (y : HeadView T). y.buffer.pending) same;
          flag = λ below. (says x at below).1 ∙ ap (λ (y : HeadView T). y.buffer.is_unwritable) same;
          all = sym (ap (λ (o : Option (HeadView T)). option_map_or (λ (y : HeadView T). untold y.buffer) o []) is) ∙ none;
        }

-- so it is with the channel that was told
pub tells-at : {S T : Type 0} (seats : List (Option SeatsView)) (ps : List (ChannelPartView S T)) (c : ℕ) (s' : SeatsView) (p' : ChannelPartView S T) → ((h : HeadView T) → p'.head ≡ Some h → Tells s' h)
    → TellsAt (slice_set seats c (Some s')) (slice_set ps c p') c
tells-at seats ps c s' p' tells s p h at here is =
    let own : s ≡ s' = same_Some s s' (at_set_same seats c (Some s') (Some s) at) in
    let part : p ≡ p' = at_set_same ps c p' p here in
    subst (λ (z : SeatsView). Tells z h) (sym own) (tells h (sym (ap (λ (q : ChannelPartView _ _). q.head) part) ∙ is))

-- its head is as it was
pub head-tells : {S T : Type 0} (seats : List (Option SeatsView)) (ps : List (ChannelPartView S T)) (c : ℕ) (p p' : ChannelPartView S T) → slice_get ps c ≡ Some p → p'.head ≡ p.head → TellsAt seats ps c → TellsAt seats (slice_set ps c p') c
head-tells seats ps c p p' was same tells s q h at here is = tells s p h at was (sym same ∙ sym (ap (λ (x : ChannelPartView _ _). x.head) (at_set_same ps c p' q here)) ∙ is)

-- so do the seats of all channels, where the others and their heads are as they were
pub all-tell : {S T : Type 0} (seats seats' : List (Option SeatsView)) (ps ps' : List (ChannelPartView S T)) (c : ℕ) → ((x : ℕ) → TellsAt seats ps x) → KeepsOthers seats c seats'
    → ((x : ℕ) (p : ChannelPartView S T) → x ≢ c → slice_get ps' x ≡ Some p → slice_get ps x ≡ Some p) → TellsAt seats' ps' c → (x : ℕ) → TellsAt seats' ps' x
all-tell seats seats' ps ps' c tells slots parts here x s p h at there is = ⊎_elim
    (λ (e : x ≡ c). subst (TellsAt seats' ps') (sym e) here s p h at there is)
    (λ (other : x ≢ c). tells x s p h (slots x (Some s) other at) (parts x p other there) is)
    (cases_eq x c)

-- what was told of a channel of which something was done: the other parts are as they were
pub others-told : {S T : Type 0} (ps : List (ChannelPartView S T)) (c : ℕ) (p' : ChannelPartView S T) (ps' : List (ChannelPartView S T)) → IsToldAt (slice_set ps c p') c ps' → (x : ℕ) (p : ChannelPartView S T) → x ≢ c
    → slice_get ps' x ≡ Some p → slice_get ps x ≡ Some p
others-told ps c p' ps' t x p other there = at_set_other ps c x p' p other (at_set_other (set ps c p') c x t.after p other (ap (λ (l : List (ChannelPartView _ _)). slice_get l x) (sym t.becomes) ∙ there))

-- ---- the marks of a plan

-- are those of its channels
pub planned-marks : {S T : Type 0} (meaning : S → Meaning) (state : T → TransportState) (rs : List (Recorded S T)) → map recorded_marks rs ≡ map plan_marks (map (channel_planned meaning state) rs)
planned-marks meaning state [] = refl
planned-marks meaning state (r ∷ rs) = ap (λ (ms : List (ℕ × ℕ)). recorded_marks r ∷ ms) (planned-marks meaning state rs)

-- ---- the seats of one channel

module _ (words : List ChannelNames) (plan : Plan) (seats : List (Option SeatsView)) (seated : AreSeated words plan seats) (c : ℕ) where
  -- the seats and the head of a channel have the same marks
  pub seat-marks : {S T : Type 0} (world : World) (meaning : S → Meaning) (stands_after : S → List Event → Type 0) (state : T → TransportState) (me : ℕ) (refused : Bool) (ps : List (ChannelPartView S T)) (p : ChannelPartView S T) (s : SeatsView)
      → NodesStand world plan meaning stands_after state me refused ps → slice_get ps c ≡ Some p → slice_get seats c ≡ Some (Some s) → (h : HeadView T) → p.head ≡ Some h
      → (s.mark.low ≡ h.buffer.low) × (s.mark.high ≡ h.buffer.high)
  seat-marks world meaning stands_after state me refused ps p s stand at seat h is =
      let within = slice_get_within ps c p at in
      let size = stand.keeps.count in
      let q = at-index plan.channels c (omega (arith, within, size)) in
      let k = (stand.keeps.each c q.0 p q.1 at).head h is in
      let m = (seated.each c s seat).marks q.0 q.1 in
      (m.0 ∙ sym k.low, m.1 ∙ sym k.high)

  -- other seats with the same names and marks
  pub seat-told : (s s' : SeatsView) → slice_get seats c ≡ Some (Some s) → AreSeatsOf words c s' → (s'.mark.low ≡ s.mark.low) × (s'.mark.high ≡ s.mark.high) → AreSeated words plan (slice_set seats c (Some s'))
  seat-told s s' seat own same = record {
    count = length-set seats c (Some s') ∙ seated.count;
    each = λ k z at. elim (eqb_tells k c) [
      | inl is ↦
          let slot : Some z ≡ Some s' = at_set_same seats c (Some s') (Some z) (subst (λ (i : ℕ). slice_get (set seats c (Some s')) i ≡ Some (Some z)) is.1 at) in
          subst (λ (y : ℕ × SeatsView). IsSeated words plan y.0 y.1) (λ i. (sym is.1 i, sym (same_Some z s' slot) i)) here
      | inr other ↦ seated.each k z (at_set_other seats c k (Some s') (Some z) other.1 at)
    ];
  }
    where
      here : IsSeated words plan c s'
      here = record {
        own = own;
        marks = λ p planned. let m = (seated.each c s seat).marks p planned in (same.0 ∙ m.0, same.1 ∙ m.1);
        ordered = let o = (seated.each c s seat).ordered in let low = same.0 in let high = same.1 in omega (arith, o, low, high);
      }

-- ---- seats that nobody has used

-- they tell how a new head stands
pub new-tells : {T : Type 0} (state : T → TransportState) (number : ℕ) (p : ChannelPlan) (transport : T) (h : HeadView T) (s : SeatsView) → IsNewHead state number p transport h → IsUnused s → Tells s h
new-tells state number p transport h s head seats =
    let after = subst (λ (f : Option Cause). BufferAfter f (state h.transport).accepted h.buffer [] [] (is_over h.standing) []) head.failure head.after in
    record {
      pending = λ below. ap (λ (x : SeatsView). x.mark.pending) seats ∙ sym after.1.marks.pending_is;
      flag = λ below. ap (λ (x : SeatsView). x.mark.unwritable) seats ∙ sym after.1.marks.unwritable_is;
      all = λ i. drop (head.told i) (head.settled i);
    }

-- those of an executor are those of the channels of their numbers
module _ {S T : Type 0} (heads : List (Option SeatsView)) (ps : List (ChannelPartView S T)) (seats : List (Option SeatsView)) (dealt : AreDealt heads ps seats) (same : length heads ≡ length ps) where
  pub dealt-at : (c : ℕ) (s : SeatsView) → slice_get seats c ≡ Some (Some s) → slice_get heads c ≡ Some (Some s)
  dealt-at c s at =
      let within = slice_get_within seats c (Some s) at in
      let size = dealt.count in
      let one = at-index heads c (omega (arith, within, size)) in
      let p = at-index ps c (omega (arith, within, size, same)) in
      one.1 ∙ ap (λ (o : Option SeatsView). Some o) (only-some (is_some p.0.head) one.0 s (sym (dealt.each c one.0 p.0 (Some s) one.1 p.1 at)))

  pub all-seated : (words : List ChannelNames) (plan : Plan) → IsPlan plan → AreNewlySeated words (map plan_marks plan.channels) heads → AreSeated words plan seats
  all-seated words plan ruled new = record {
    count = dealt.count ∙ new.count ∙ length-map plan.channels plan_marks;
    each = λ c s at.
        let here = dealt-at c s at in
        let seat = new.each c s here in
        let within = slice_get_within heads c (Some s) here in
        let counts = new.count in
        let sizes = length-map plan.channels plan_marks in
        let q = at-index plan.channels c (omega (arith, within, counts, sizes)) in
        let same-marks : (p : ChannelPlan) → slice_get plan.channels c ≡ Some p → seats_marks s ≡ plan_marks p =
        λ p planned. same_Some (seats_marks s) (plan_marks p) (sym seat.marked ∙ slice_get-map plan_marks plan.channels c ∙ ap (option_map plan_marks) planned) in
        record {
          own = seat.own;
          marks = λ p planned. let e = same-marks p planned in (ap (λ (m : ℕ × ℕ). m.0) e, ap (λ (m : ℕ × ℕ). m.1) e);
          ordered =
              let e = same-marks q.0 q.1 in
              let low = ap (λ (m : ℕ × ℕ). m.0) e in
              let high = ap (λ (m : ℕ × ℕ). m.1) e in
              let o = (All-at (IsChannelPlan plan.executors) plan.channels c q.0 ruled.channels q.1).marks in
              omega (arith, low, high, o);
        };
  }

-- ---- the seats with which a run starts

-- those of all channels
pub each-new : (words : List ChannelNames) (marks : List (ℕ × ℕ)) (heads : List SeatsView) (seats : List (Option SeatsView)) → seats ≡ map (λ (s : SeatsView). Some s) heads → AreHeadSeatsOf words heads → map seats_marks heads ≡ marks → AreUnused heads
    → AreNewlySeated words marks seats
each-new words marks heads seats are own marked unused = subst (AreNewlySeated words marks) (sym are) (record {
  count = length-map heads (λ (s : SeatsView). Some s) ∙ sym (length-map heads seats_marks) ∙ ap (λ (ms : List (ℕ × ℕ)). length ms) marked;
  each = λ c s at.
      let one = at-index heads c (let within = slice_get_within (map (λ (s : SeatsView). Some s) heads) c (Some s) at in let size = length-map heads (λ (s : SeatsView). Some s) in omega (arith, within, size)) in
      let here : Some one.0 ≡ Some s = same_Some (Some one.0) (Some s) (sym (slice_get-map (λ (s : SeatsView). Some s) heads c ∙ ap (option_map (λ (s : SeatsView). Some s)) one.1) ∙ at) in
      let there : slice_get heads c ≡ Some s = one.1 ∙ here in
      record {
        own = ap (λ (l : List ChannelNames). slice_get l c) (sym own) ∙ slice_get-map seats_names heads c ∙ ap (option_map seats_names) there;
        marked = ap (λ (l : List (ℕ × ℕ)). slice_get l c) (sym marked) ∙ slice_get-map seats_marks heads c ∙ ap (option_map seats_marks) there;
        unused = All-at IsUnused heads c s unused there;
      };
})

-- those of none
pub none-new : (words : List ChannelNames) (marks : List (ℕ × ℕ)) (n : ℕ) (seats : List (Option SeatsView)) → seats ≡ replicate n None → n ≡ length marks → AreNewlySeated words marks seats
none-new words marks n seats are count =
    let none : Option SeatsView = None in
    subst (AreNewlySeated words marks) (sym are) (record {
      count = length-replicate n none ∙ count;
      each = λ c s at. absurd (none-at n c s at);
    })
  where
    none-at : (m c : ℕ) (s : SeatsView) → slice_get (replicate m None) c ≡ Some (Some s) → ⊥
    none-at zero c s at = none-some (Some s) at
    none-at (suc m) zero s at = none-some s (same_Some None (Some s) at)
    none-at (suc m) (suc c) s at = none-at m c s at
