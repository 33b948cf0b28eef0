-- What says that a move is enabled, and what hinders it.
use Rattle.std.proofs.Common.{◌≡◌, ℕ, ◌<◌, ◌≤◌, Bool, true, false, ◌==◌, ◌&&◌, not, List, [], length, slice_get, nat_lt, Option, Some, None, refl, ap, sym, ◌∙◌, subst, arith}
use Rattle.std.specs.Prelude.{is_some, IsSome}
use Rattle.std.specs.List.{find, position}
use Rattle.std.specs.Option.{option_map, option_map_or}
use Rattle.std.proofs.lemmas.Bool.{eqb-true, eqb-false, lt-ltb, ltb-true}
use Rattle.std.proofs.lemmas.Option.{same_Some}
use Rattle.pl_event.specs.declared.events.Event.{Event}
use Rattle.pl_event.specs.Meaning.{Meaning}
use Rattle.pl_event.proofs.Lists.{slice_get_none}
use Rattle.pl_context.proofs.Firsts.{find-None-position, find-Some-position}
use Rattle.pl_context.proofs.WaitingCalls.{none-long}
use Rattle.pl_head.specs.declared.inputs.ReadPlan.{ReadPlan}
use Rattle.pl_head.specs.HeadStand.{HeadView, HeadStandsAfter, ReadsStand, is_idle, is_read_held}
use Rattle.pl_head.specs.Marks.{Change}
use Rattle.pl_head.specs.ReadSteps.{has_step}
use Rattle.pl_head.specs.Transports.{TransportState}
use Rattle.pl_context.specs.WaitingViews.{Entry, Holds}
use Rattle.pl_net.specs.Nets.{StationView, queue_at, has_room}
use Rattle.pl_net.specs.declared.stations.Stations.{Stations}
use Rattle.pl_part.specs.Parts.{ChannelPartView}
use Rattle.pl_channel.specs.Channels.{MayRead, MayWrite}
use Rattle.pl_replay.specs.Hindrances.{OfHead, TellsHindrance}
use Rattle.pl_replay.specs.MoveModel.{is_there}
use Rattle.pl_replay.specs.NetStand.{NetStands}
use Rattle.pl_replay.specs.declared.channels.Channels.{Channels}
use Rattle.pl_replay.specs.declared.nets.hindrances.Hindrance.{Hindrance}
use Rattle.pl_replay.specs.declared.nets.hindrances.Hindrance.TheVariants.{NoReadStep, BurstHeld, EmptyQueue, EmptyBacklog, FullQueues, NothingFlushed, HeadFailed}
use Rattle.pl_world.specs.declared.moves.Move.{Move}
use Rattle.pl_world.specs.declared.moves.Move.TheVariants.{Read, Task, Hand, Out}
use Rattle.pl_world.specs.Plans.{Plan}

-- ---- by the head of a channel

module _ {S T : Type 0} (state : T → TransportState) (parts : List (ChannelPartView S T)) (c : ℕ) (part : ChannelPartView S T) (head : HeadView T) (at : slice_get parts c ≡ Some part) (has : part.head ≡ Some head) where
  same-head : (p : ChannelPartView S T) (h : HeadView T) → slice_get parts c ≡ Some p → p.head ≡ Some h → head ≡ h
  same-head p h at' has' = same_Some head h (sym has ∙ ap (λ (x : ChannelPartView S T). x.head) (same_Some part p (sym at ∙ at')) ∙ has')

  of-head : (P : HeadView T → Type 0) → P head → OfHead P parts c
  of-head P holds = λ p h at' has'. subst P (same-head p h at' has') holds

  may-read-by : (b : Bool) → ((plan : ReadPlan) (reads : ℕ) (failed : Bool) (ys zs : List Event) (sizes : List Change) → ReadsStand plan reads failed head → HeadStandsAfter state head ys zs sizes
      → b ≡ (has_step plan reads failed && not (is_read_held state plan reads head ys))) → MayRead state parts c b
  may-read-by b says = λ p h plan reads failed ys zs sizes at' has'.
      subst (λ (k : HeadView T). ReadsStand plan reads failed k → HeadStandsAfter state k ys zs sizes → b ≡ (has_step plan reads failed && not (is_read_held state plan reads k ys))) (same-head p h at' has')
      (says plan reads failed ys zs sizes)

  may-write-by : (b : Bool) → ((ys zs : List Event) (sizes : List Change) → HeadStandsAfter state head ys zs sizes → b ≡ not (is_idle state head ys)) → MayWrite state parts c b
  may-write-by b says = λ p h ys zs sizes at' has'.
      subst (λ (k : HeadView T). HeadStandsAfter state k ys zs sizes → b ≡ not (is_idle state k ys)) (same-head p h at' has') (says ys zs sizes)

  -- of a read step, by whether one is left
  reads-by : (left : Bool) → ((plan : ReadPlan) (reads : ℕ) (failed : Bool) → ReadsStand plan reads failed head → left ≡ has_step plan reads failed) → (b held : Bool) → b ≡ (left && not held)
      → ((plan : ReadPlan) (reads : ℕ) (failed : Bool) (ys zs : List Event) (sizes : List Change) → ReadsStand plan reads failed head → HeadStandsAfter state head ys zs sizes
      → (left && not held) ≡ (left && not (is_read_held state plan reads head ys))) → MayRead state parts c b
  reads-by left steps b held is same = may-read-by b (λ plan reads failed ys zs sizes stood after.
      is ∙ same plan reads failed ys zs sizes stood after ∙ ap (λ (l : Bool). l && not (is_read_held state plan reads head ys)) (steps plan reads failed stood))

  -- and of one that is left by whether it is held
  waits-by : (left : Bool) → ((plan : ReadPlan) (reads : ℕ) (failed : Bool) → ReadsStand plan reads failed head → left ≡ has_step plan reads failed)
      → (held : Bool) → ((plan : ReadPlan) (reads : ℕ) (failed : Bool) (ys zs : List Event) (sizes : List Change) → ReadsStand plan reads failed head → HeadStandsAfter state head ys zs sizes → held ≡ is_read_held state plan reads head ys)
      → left ≡ true → (b : Bool) → b ≡ not held → MayRead state parts c b
  waits-by left steps held holds some b is = reads-by left steps b held (is ∙ ap (λ (l : Bool). l && not held) (sym some)) (λ plan reads failed ys zs sizes stood after. ap (λ (h : Bool). left && not h) (holds plan reads failed ys zs sizes stood after))

  -- of a write by whether all that is flushed is written
  writes-by : (written : Bool) → ((ys zs : List Event) (sizes : List Change) → HeadStandsAfter state head ys zs sizes → written ≡ is_idle state head ys) → (b : Bool) → b ≡ not written → MayWrite state parts c b
  writes-by written idle b is = may-write-by b (λ ys zs sizes after. is ∙ ap not (idle ys zs sizes after))

none-of : {A : Type 0} (o : Option A) → is_some o ≡ false → o ≡ None
none-of None none = refl
none-of (Some x) none = cc

-- ---- by what waits at an executor

-- there is none of a number where its place is empty
no-station : {A : Type 0} (es : List StationView) (x executors : ℕ) → None ≡ slice_get es x → length es ≡ executors → nat_lt x executors ≡ true → A
no-station es x executors none count there = absurd (let within = ltb-true x executors there in let past = slice_get_none es x (sym none) in omega (arith, within, past, count))

not-empty : (n : ℕ) (none : Bool) → none ≡ (n == 0) → not none ≡ nat_lt 0 n
not-empty n true e = ap (nat_lt 0) (sym (eqb-true n 0 (sym e)))
not-empty n false e = sym (lt-ltb 0 n (let some = eqb-false n 0 (sym e) in omega (arith, some)))

module _ (es : List StationView) (x : ℕ) (e : StationView) (at : Some e ≡ slice_get es x) where
  queue-is : e.queue ≡ queue_at es x
  queue-is = ap (λ (o : Option StationView). option_map_or (λ (z : StationView). z.queue) o []) at

  may-take-by : (none : Bool) → none ≡ (length e.queue == 0) → not none ≡ nat_lt 0 (length (queue_at es x))
  may-take-by none says = not-empty (length e.queue) none says ∙ ap (λ zs. nat_lt 0 (length zs)) queue-is

  queue-empty : length e.queue ≡ 0 → queue_at es x ≡ []
  queue-empty none = sym queue-is ∙ none-long e.queue none

-- a first one is found where it has a place
found-at : {A B : Type 0} (f : A → B) (p : A → Bool) (xs : List A) → is_some (option_map f (find p xs)) ≡ is_some (position p xs)
found-at {A} f p xs = by (find p xs) refl
  where
    by : (o : Option A) → find p xs ≡ o → is_some (option_map f (find p xs)) ≡ is_some (position p xs)
    by None is = ap (λ (z : Option A). is_some (option_map f z)) is ∙ ap is_some (sym (find-None-position p xs is))
    by (Some z) is = ap (λ (o : Option A). is_some (option_map f o)) is ∙ ap is_some (sym (find-Some-position p xs z is).1)

-- whether an executor has one to hand over
may-hand-by : (es : List StationView) (capacity held : ℕ) (backlog : List (Entry (Unit {0}))) (answer : Option ℕ) (some : Bool) → some ≡ is_some answer
    → answer ≡ option_map (λ (e : Entry (Unit {0})). e.target) (find (λ (e : Entry (Unit {0})). has_room es capacity e.target) backlog) → capacity ≡ held
    → some ≡ is_some (position (λ (e : Entry (Unit {0})). has_room es held e.target) backlog)
may-hand-by es capacity held backlog answer some is said same =
    is ∙ ap (λ (o : Option ℕ). is_some o) said ∙ found-at (λ (e : Entry (Unit {0})). e.target) (λ (e : Entry (Unit {0})). has_room es capacity e.target) backlog
    ∙ ap (λ (m : ℕ). is_some (position (λ (e : Entry (Unit {0})). has_room es m e.target) backlog)) same

module _ {S T : Type 0} (meaning : S → Meaning) (stands_after : S → List Event → Type 0) (state : T → TransportState) (net : Stations (Channels S T)) (x : ℕ) (next : Option ℕ)
    (says : (plan : Plan) (backlogs : ℕ → List (Entry (Unit {0}))) → NetStands meaning stands_after state plan backlogs net → x < length net.stations.items
    → next ≡ option_map (λ (e : Entry (Unit {0})). e.target) (find (λ (e : Entry (Unit {0})). has_room net.stations.items net.capacity e.target) (backlogs x))) (some : Bool) (is : some ≡ is_some next) where
  hands-by : (b : Bool) → b ≡ some → (plan : Plan) (backlogs : ℕ → List (Entry (Unit {0}))) → NetStands meaning stands_after state plan backlogs net → nat_lt x plan.executors ≡ true
      → b ≡ is_some (position (λ (e : Entry (Unit {0})). has_room net.stations.items plan.capacity e.target) (backlogs x))
  hands-by b same plan backlogs n there =
      let within = ltb-true x plan.executors there in
      same ∙ may-hand-by net.stations.items net.capacity plan.capacity (backlogs x) next some is (says plan backlogs n (omega (arith, within, n.executors))) n.capacity

-- ---- what is told of a move

module _ {S T : Type 0} {meaning : S → Meaning} {stands_after : S → List Event → Type 0} {is_spent : S → Bool} {state : T → TransportState} {may_refuse : T → ℕ → Type 0} {net : Stations (Channels S T)} where
  -- nothing of what is not there
  pub no-channel : {move : Move} {channel : ℕ} {told : Option Hindrance} → ((plan : Plan) → is_there plan move ≡ nat_lt channel (length plan.channels)) → length net.nodes.parts.items ≤ channel → told ≡ None → TellsHindrance meaning stands_after is_spent state may_refuse move net told
  no-channel {move} {channel} {told} named past none = record {
    enabled = λ plan backlogs n there. absurd (let within = ltb-true channel (length plan.channels) (sym (named plan) ∙ there) in omega (arith, within, past, n.keeps.count));
    reason = rw none tt;
  }

  pub no-executor : {move : Move} {told : Option Hindrance} (x : ℕ) → ((plan : Plan) → is_there plan move ≡ nat_lt x plan.executors) → None ≡ slice_get net.stations.items x → told ≡ None → TellsHindrance meaning stands_after is_spent state may_refuse move net told
  no-executor {move} {told} x named at none = record {
    enabled = λ plan backlogs n there. no-station net.stations.items x plan.executors at n.executors (sym (named plan) ∙ there);
    reason = rw none tt;
  }

  module _ {channel : ℕ} {head : HeadView T} (has : (part : ChannelPartView S T) × (slice_get net.nodes.parts.items channel ≡ Some part) × (part.head ≡ Some head)) where
    -- of a read step: whether one is left, and whether it is held
    module _ {left : Bool} (steps : (plan : ReadPlan) (reads : ℕ) (failed : Bool) → ReadsStand plan reads failed head → left ≡ has_step plan reads failed) (is_left : left ≡ head.input.port.is_open) where
      pub tells-no-step : left ≡ false → TellsHindrance meaning stands_after is_spent state may_refuse (Read channel) net (Some NoReadStep)
      tells-no-step none = record {
        enabled = λ plan backlogs n there. reads-by state net.nodes.parts.items channel has.0 head has.1 has.2 left steps false false (rw none refl) (λ plan reads failed ys zs sizes stood after. rw none refl);
        reason = λ plan backlogs n. of-head state net.nodes.parts.items channel has.0 head has.1 has.2 (λ (h : HeadView T). h.input.port.is_open ≡ false) (sym is_left ∙ none);
      }

      module _ {held : Bool} (holds : (plan : ReadPlan) (reads : ℕ) (failed : Bool) (ys zs : List Event) (sizes : List Change) → ReadsStand plan reads failed head → HeadStandsAfter state head ys zs sizes → held ≡ is_read_held state plan reads head ys) (some : left ≡ true) where
        pub tells-held : held ≡ true → TellsHindrance meaning stands_after is_spent state may_refuse (Read channel) net (Some BurstHeld)
        tells-held on = record {
          enabled = λ plan backlogs n there. waits-by state net.nodes.parts.items channel has.0 head has.1 has.2 left steps held holds some false (ap not (sym on));
          reason = λ plan backlogs n. of-head state net.nodes.parts.items channel has.0 head has.1 has.2 (λ (h : HeadView T). h.input.port.is_open ≡ true) (sym is_left ∙ some);
        }

        pub tells-read : held ≡ false → TellsHindrance meaning stands_after is_spent state may_refuse (Read channel) net None
        tells-read off = record { enabled = λ plan backlogs n there. waits-by state net.nodes.parts.items channel has.0 head has.1 has.2 left steps held holds some true (ap not (sym off)); reason = tt }

    -- of a write: whether all that is flushed is written
    module _ {written : Bool} (idle : (ys zs : List Event) (sizes : List Change) → HeadStandsAfter state head ys zs sizes → written ≡ is_idle state head ys) where
      pub tells-write : written ≡ false → TellsHindrance meaning stands_after is_spent state may_refuse (Out channel) net None
      tells-write off = record { enabled = λ plan backlogs n there. writes-by state net.nodes.parts.items channel has.0 head has.1 has.2 written idle true (ap not (sym off)); reason = tt }

      pub tells-failed : written ≡ true → IsSome head.failure → TellsHindrance meaning stands_after is_spent state may_refuse (Out channel) net (Some HeadFailed)
      tells-failed on failed = record {
        enabled = λ plan backlogs n there. writes-by state net.nodes.parts.items channel has.0 head has.1 has.2 written idle false (ap not (sym on));
        reason = λ plan backlogs n. of-head state net.nodes.parts.items channel has.0 head has.1 has.2 (λ (h : HeadView T). IsSome h.failure) failed;
      }

      pub tells-nothing-flushed : written ≡ true → is_some head.failure ≡ false → TellsHindrance meaning stands_after is_spent state may_refuse (Out channel) net (Some NothingFlushed)
      tells-nothing-flushed on sound = record {
        enabled = λ plan backlogs n there. writes-by state net.nodes.parts.items channel has.0 head has.1 has.2 written idle false (ap not (sym on));
        reason = λ plan backlogs n. of-head state net.nodes.parts.items channel has.0 head has.1 has.2 (λ (h : HeadView T). h.failure ≡ None) (none-of head.failure sound);
      }

  module _ {x : ℕ} {e : StationView} (at : Some e ≡ slice_get net.stations.items x) where
    -- of a task: whether none is queued
    module _ {none : Bool} (empty : none ≡ (length e.queue == 0)) where
      pub tells-no-task : none ≡ true → TellsHindrance meaning stands_after is_spent state may_refuse (Task x) net (Some EmptyQueue)
      tells-no-task on = record {
        enabled = λ plan backlogs n there. ap not (sym on) ∙ may-take-by net.stations.items x e at none empty;
        reason = λ plan backlogs n. queue-empty net.stations.items x e at (eqb-true (length e.queue) 0 (sym empty ∙ on));
      }

      pub tells-task : none ≡ false → TellsHindrance meaning stands_after is_spent state may_refuse (Task x) net None
      tells-task off = record { enabled = λ plan backlogs n there. ap not (sym off) ∙ may-take-by net.stations.items x e at none empty; reason = tt }

    -- of a hand-over: whether there is one to hand over
    module _ {next : Option ℕ} (says : (plan : Plan) (backlogs : ℕ → List (Entry (Unit {0}))) → NetStands meaning stands_after state plan backlogs net → x < length net.stations.items
        → next ≡ option_map (λ (e : Entry (Unit {0})). e.target) (find (λ (e : Entry (Unit {0})). has_room net.stations.items net.capacity e.target) (backlogs x))) {some : Bool} (is : some ≡ is_some next) where
      pub tells-hand : some ≡ true → TellsHindrance meaning stands_after is_spent state may_refuse (Hand x) net None
      tells-hand on = record { enabled = hands-by meaning stands_after state net x next says some is true (sym on); reason = tt }

      module _ {none : Bool} (empty : (entries : List (Entry (Unit {0}))) → Holds e.waiting entries → none ≡ (length entries == 0)) (off : some ≡ false) where
        pub tells-no-entry : none ≡ true → TellsHindrance meaning stands_after is_spent state may_refuse (Hand x) net (Some EmptyBacklog)
        tells-no-entry on = record {
          enabled = hands-by meaning stands_after state net x next says some is false (sym off);
          reason = λ plan backlogs n. none-long (backlogs x) (eqb-true (length (backlogs x)) 0 (sym (empty (backlogs x) (n.stands.runs.holds x e (sym at))) ∙ on));
        }

        pub tells-full : none ≡ false → TellsHindrance meaning stands_after is_spent state may_refuse (Hand x) net (Some FullQueues)
        tells-full some_wait = record {
          enabled = hands-by meaning stands_after state net x next says some is false (sym off);
          reason = λ plan backlogs n. let some = eqb-false (length (backlogs x)) 0 (sym (empty (backlogs x) (n.stands.runs.holds x e (sym at))) ∙ some_wait) in omega (arith, some);
        }
