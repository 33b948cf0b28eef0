use Rattle.std.proofs.Common.{◌≡◌, ◌≢◌, ℕ, ◌∷◌, ◌++◌, [], List, length, Bool, true, refl, sym, ap, subst, ◌∙◌, arith}
use Rattle.std.specs.Prelude.{◌==◌}
use Rattle.std.proofs.lemmas.Bool.{eqb-true}
use Rattle.std.proofs.lemmas.List.{nil_from_length}
use Rattle.pl_event.specs.declared.events.Event.{Event}
use Rattle.pl_event.specs.declared.stages.Changed.TheVariants.{No, Up, Down}
use Rattle.pl_event.specs.Fitting.{goes_on}
use Rattle.pl_context.specs.Standings.{has_failed}
use Rattle.pl_context.specs.Stops.{StopsView, HasPlaces}
use Rattle.pl_context.specs.declared.ports.Port.{Port}
use Rattle.pl_context.specs.Ports.{as_items, put_out}
use Rattle.pl_context.specs.declared.standing.Took.TheVariants.{Ran}
use Rattle.pl_context.specs.ContextViews.{ContextView, SameNode, lane_of, open_lanes}
use Rattle.pl_context.proofs.Places.{places-down}
use Rattle.pl_context.proofs.PortLemmas.{port_after-nil, appends-alone}
use Rattle.pl_context.proofs.ContextLemmas.{all-made, length-items, within-after, small-up, small-down, few-unchanged, counted-same, takes-unchanged, takes-open, takes-up, takes-down, takes-fault}
use Rattle.pl_context.proofs.contexts.Context.take_data.Goals as goal

-- a buffer that was found empty
found-empty : (events : List Event) (len : ℕ) (answer : Bool) → answer ≡ (len == 0) → answer ≡ true → len ≡ length events → events ≡ []
found-empty events len answer is found same = nil_from_length events (omega (arith, eqb-true len 0 (sym is ∙ found), same))

pub invariant_of-self : goal.invariant_of-self
invariant_of-self g c =
    let no = c.in-No.ensures.no refl in
    record {
      above = c.self.invariant.above;
      below = c.self.invariant.below;
      aside = c.self.invariant.aside;
      counts = omega (arith, ap (λ (s : ContextView g.row.S.Denot). s.taken) c.self.view_is, c.requires.limit);
      flag_counts = c.self.invariant.flag_counts;
      up_empty = c.self.invariant.up_empty;
      down_empty = no.2 ∙ c.self.invariant.down_empty;
    }

pub take_item-requires-clause-few : goal.take_item-requires-clause-few
take_item-requires-clause-few g c =
    let no = c.in-No.ensures.no refl in
    few-unchanged g.S.Stage.meaning g.S.Stage.stands_after _ c.args.self.now c.self.view_is c.change-changed.new.stage c.args.envelope.item c.change-changed.new.item no.0 no.1 c.requires.few

pub take_item-requires-clause-places : goal.take_item-requires-clause-places
take_item-requires-clause-places g c =
    let P : ContextView g.row.S.Denot → Type 0 = λ s. HasPlaces c.args.outputs.now.stopped (open_lanes s) in
    subst P (sym c.self.view_is) c.requires.places

pub hand_on-requires-clause-event : goal.hand_on-requires-clause-event
hand_on-requires-clause-event g c =
    let n : Up ≢ No = λ e. cc in
    ap goes_on (c.in-Up.ensures.changes n).2.3

pub hand_on-requires-clause-none : goal.hand_on-requires-clause-none
hand_on-requires-clause-none g c =
    let n : Up ≢ No = λ e. cc in
    (c.in-Up.ensures.ready n).2

pub hand_on-requires-clause-room : goal.hand_on-requires-clause-room
hand_on-requires-clause-room g c =
    let n : Up ≢ No = λ e. cc in
    λ o. (c.in-Up.ensures.ready n).1

pub hand_on-requires-clause-small : goal.hand_on-requires-clause-small
hand_on-requires-clause-small g c =
    let n : Up ≢ No = λ e. cc in
    let changes = c.in-Up.ensures.changes n in
    let few = small-up g.S.Stage.meaning g.S.Stage.stands_after _ c.args.self.now c.self.view_is c.change-changed.new.stage c.args.envelope.item c.change-changed.new.item changes.0 changes.2 (c.in-Up.ensures.ready n).0 c.requires.few in
    λ o. omega (arith, few.0 o)

pub invariant_of-self-then-is_empty : goal.invariant_of-self-then-is_empty
invariant_of-self-then-is_empty g c =
    let n : Up ≢ No = λ e. cc in
    let changes = c.in-Up.ensures.changes n in
    let few = small-up g.S.Stage.meaning g.S.Stage.stands_after _ c.args.self.now c.self.view_is c.change-changed.new.stage c.args.envelope.item c.change-changed.new.item changes.0 changes.2 (c.in-Up.ensures.ready n).0 c.requires.few in
    record {
      above = within-after c.self.inside.up c.hand_on.new.self (c.change-changed.new.item ∷ []) c.hand_on.ensures.port few.0;
      below = c.self.invariant.below;
      aside = c.self.invariant.aside;
      counts = omega (arith, ap (λ (s : ContextView g.row.S.Denot). s.taken) c.self.view_is, c.requires.limit);
      flag_counts = c.self.invariant.flag_counts;
      up_empty = c.self.invariant.up_empty;
      down_empty = found-empty c.change-changed.new.below.items c.change-changed.new.below.len c.is_empty.result c.is_empty.ensures c.if-is_empty.true c.change-changed.new.below.ok.0;
    }

pub put_changed-put-requires-clause-event : goal.put_changed-put-requires-clause-event
put_changed-put-requires-clause-event g c =
    let n : Up ≢ No = λ e. cc in
    ap goes_on (c.in-Up.ensures.changes n).2.3

pub put_changed-put-requires-clause-none : goal.put_changed-put-requires-clause-none
put_changed-put-requires-clause-none g c =
    let n : Up ≢ No = λ e. cc in
    (c.in-Up.ensures.ready n).2

pub put_changed-put-requires-clause-room : goal.put_changed-put-requires-clause-room
put_changed-put-requires-clause-room g c =
    let n : Up ≢ No = λ e. cc in
    (c.in-Up.ensures.ready n).1

pub put_changed-put-requires-clause-place_down : goal.put_changed-put-requires-clause-place_down
put_changed-put-requires-clause-place_down g c =
    λ o. places-down c.args.outputs.now.stopped c.self.inside.up c.self.inside.down c.self.inside.flags
    (subst (λ (s : ContextView g.row.S.Denot). HasPlaces c.args.outputs.now.stopped (open_lanes s)) (sym c.self.view_is) c.requires.places) o

pub put_changed-put-requires-clause-few_up : goal.put_changed-put-requires-clause-few_up
put_changed-put-requires-clause-few_up g c =
    let n : Up ≢ No = λ e. cc in
    let changes = c.in-Up.ensures.changes n in
    (small-up g.S.Stage.meaning g.S.Stage.stands_after _ c.args.self.now c.self.view_is c.change-changed.new.stage c.args.envelope.item c.change-changed.new.item changes.0 changes.2 (c.in-Up.ensures.ready n).0 c.requires.few).0

pub put_changed-put-requires-clause-few_down : goal.put_changed-put-requires-clause-few_down
put_changed-put-requires-clause-few_down g c =
    let n : Up ≢ No = λ e. cc in
    let changes = c.in-Up.ensures.changes n in
    let few = small-up g.S.Stage.meaning g.S.Stage.stands_after _ c.args.self.now c.self.view_is c.change-changed.new.stage c.args.envelope.item c.change-changed.new.item changes.0 changes.2 (c.in-Up.ensures.ready n).0 c.requires.few in
    let made = all-made changes.1 c.self.invariant.down_empty in
    λ o. omega (arith, few.1 o, ap (λ (ys : List Event). length ys) made)

pub invariant_of-self-in-Ok : goal.invariant_of-self-in-Ok
invariant_of-self-in-Ok g c =
    let n : Up ≢ No = λ e. cc in
    let changes = c.in-Up.ensures.changes n in
    let few = small-up g.S.Stage.meaning g.S.Stage.stands_after _ c.args.self.now c.self.view_is c.change-changed.new.stage c.args.envelope.item c.change-changed.new.item changes.0 changes.2 (c.in-Up.ensures.ready n).0 c.requires.few in
    let made = all-made changes.1 c.self.invariant.down_empty in
    record {
      above = within-after c.self.inside.up c.put_changed-put.new.up (c.change-changed.new.item ∷ []) c.in-Ok.ensures.puts.up few.0;
      below = within-after c.self.inside.down c.put_changed-put.new.down (as_items c.change-changed.new.below.items) c.in-Ok.ensures.puts.down (λ o. omega (arith, few.1 o, ap (λ (ys : List Event). length ys) made, length-items c.change-changed.new.below.items));
      aside = c.self.invariant.aside;
      counts = omega (arith, ap (λ (s : ContextView g.row.S.Denot). s.taken) c.self.view_is, c.requires.limit);
      flag_counts = c.self.invariant.flag_counts;
      up_empty = c.self.invariant.up_empty;
      down_empty = c.put_changed-put.ensures.empty;
    }

pub invariant_of-self-in-Err-Memory : goal.invariant_of-self-in-Err-Memory
invariant_of-self-in-Err-Memory g c =
    record {
      above = λ o. omega (arith, ap (λ (p : Port). p.made) c.in-Err-Memory.ensures.none.up, c.self.invariant.above (sym (ap (λ (p : Port). p.is_open) c.in-Err-Memory.ensures.none.up) ∙ o));
      below = λ o. omega (arith, ap (λ (p : Port). p.made) c.in-Err-Memory.ensures.none.down, c.self.invariant.below (sym (ap (λ (p : Port). p.is_open) c.in-Err-Memory.ensures.none.down) ∙ o));
      aside = c.self.invariant.aside;
      counts = omega (arith, ap (λ (s : ContextView g.row.S.Denot). s.taken) c.self.view_is, c.requires.limit);
      flag_counts = c.self.invariant.flag_counts;
      up_empty = c.self.invariant.up_empty;
      down_empty = c.put_changed-put.ensures.empty;
    }

pub run_out-requires : goal.run_out-requires
run_out-requires g c =
    let places = subst (λ (s : ContextView g.row.S.Denot). HasPlaces c.args.outputs.now.stopped (open_lanes s)) (sym c.self.view_is) c.requires.places in
    let lanes = λ (up down : Port). lane_of up ++ lane_of down ++ lane_of c.self.inside.flags in
    subst (λ (s : StopsView). HasPlaces s (lanes c.put_changed-put.new.up c.put_changed-put.new.down)) (sym c.in-Err-Memory.ensures.none.stopped)
    (subst (λ (p : Port). HasPlaces c.args.outputs.now.stopped (lanes p c.put_changed-put.new.down)) (sym c.in-Err-Memory.ensures.none.up)
    (subst (λ (p : Port). HasPlaces c.args.outputs.now.stopped (lanes c.self.inside.up p)) (sym c.in-Err-Memory.ensures.none.down) places))

pub hand_on-requires-in-Down-clause-event : goal.hand_on-requires-in-Down-clause-event
hand_on-requires-in-Down-clause-event g c =
    let n : Down ≢ No = λ e. cc in
    ap goes_on (c.in-Down.ensures.changes n).2.3

pub hand_on-requires-in-Down-clause-none : goal.hand_on-requires-in-Down-clause-none
hand_on-requires-in-Down-clause-none g c =
    let n : Down ≢ No = λ e. cc in
    (c.in-Down.ensures.ready n).2

pub hand_on-requires-in-Down-clause-room : goal.hand_on-requires-in-Down-clause-room
hand_on-requires-in-Down-clause-room g c =
    let n : Down ≢ No = λ e. cc in
    λ o. (c.in-Down.ensures.ready n).1

pub hand_on-requires-in-Down-clause-small : goal.hand_on-requires-in-Down-clause-small
hand_on-requires-in-Down-clause-small g c =
    let n : Down ≢ No = λ e. cc in
    let changes = c.in-Down.ensures.changes n in
    let none = sym (all-made changes.1 c.self.invariant.down_empty) ∙ c.in-Down.ensures.alone refl ∙ c.self.invariant.down_empty in
    let few = small-down g.S.Stage.meaning g.S.Stage.stands_after _ c.args.self.now c.self.view_is c.change-changed.new.stage c.args.envelope.item c.change-changed.new.item changes.0 changes.2 none (c.in-Down.ensures.ready n).0 c.requires.few in
    λ o. omega (arith, few o)

pub invariant_of-self-in-Down : goal.invariant_of-self-in-Down
invariant_of-self-in-Down g c =
    let n : Down ≢ No = λ e. cc in
    let changes = c.in-Down.ensures.changes n in
    let none = sym (all-made changes.1 c.self.invariant.down_empty) ∙ c.in-Down.ensures.alone refl ∙ c.self.invariant.down_empty in
    record {
      above = c.self.invariant.above;
      below = within-after c.self.inside.down c.hand_on-in-Down.new.self (c.change-changed.new.item ∷ []) c.hand_on-in-Down.ensures.port (small-down g.S.Stage.meaning g.S.Stage.stands_after _ c.args.self.now c.self.view_is c.change-changed.new.stage c.args.envelope.item c.change-changed.new.item changes.0 changes.2 none (c.in-Down.ensures.ready n).0 c.requires.few);
      aside = c.self.invariant.aside;
      counts = omega (arith, ap (λ (s : ContextView g.row.S.Denot). s.taken) c.self.view_is, c.requires.limit);
      flag_counts = c.self.invariant.flag_counts;
      up_empty = c.self.invariant.up_empty;
      down_empty = c.in-Down.ensures.alone refl ∙ c.self.invariant.down_empty;
    }

pub returns-in-No : goal.returns-in-No
returns-in-No g c =
    let no = c.in-No.ensures.no refl in
    let takes = c.take_item.ensures in
    let same = counted-same _ c.args.self.now c.self.view_is c.change-changed.new.stage no.0 in
    record {
      same_meaning = takes.same_meaning ∙ c.in-No.ensures.meaning ∙ ap (λ (s : ContextView g.row.S.Denot). g.S.Stage.meaning s.stage) c.self.view_is;
      same_node = subst (λ (s : ContextView g.row.S.Denot). SameNode s c.take_item.new.self) same takes.same_node;
      takes = λ o. takes-unchanged g.S.Stage.meaning g.S.Stage.stands_after g.S.Stage.is_spent _ c.args.self.now c.self.view_is c.change-changed.new.stage c.args.envelope.item c.change-changed.new.item c.args.outputs.now c.take_item.new.outputs c.take_item.result c.take_item.new.self no.0 no.1
          (takes.takes (ap (λ (s : ContextView g.row.S.Denot). s.standing) c.self.view_is ∙ o));
      spent = λ o spent event is. takes.spent (ap (λ (s : ContextView g.row.S.Denot). s.standing) c.self.view_is ∙ o) (ap g.S.Stage.is_spent no.0 ∙ ap (λ (s : ContextView g.row.S.Denot). g.S.Stage.is_spent s.stage) c.self.view_is ∙ spent) event (no.1 ∙ is);
      ended = λ e.
          let h = takes.ended (ap (λ (s : ContextView g.row.S.Denot). s.standing) c.self.view_is ∙ e) in
          (h.0, h.1 ∙ same, h.2);
      dropped = λ e.
          let h = takes.dropped (ap has_failed (ap (λ (s : ContextView g.row.S.Denot). s.standing) c.self.view_is) ∙ e) in
          (h.0, h.1 ∙ same, h.2);
    }

pub returns-then-is_empty : goal.returns-then-is_empty
returns-then-is_empty g c =
    let n : Up ≢ No = λ e. cc in
    let changes = c.in-Up.ensures.changes n in
    let none : c.change-changed.new.below.items ≡ [] = found-empty c.change-changed.new.below.items c.change-changed.new.below.len c.is_empty.result c.is_empty.ensures c.if-is_empty.true c.change-changed.new.below.ok.0 in
    let s = c.args.outputs.now.stopped in
    takes-open g.S.Stage.meaning g.S.Stage.stands_after g.S.Stage.is_spent _ c.args.self.now c.self.view_is c.args.envelope.item c.args.outputs.now c.hand_on.new.outputs Ran _ (c.in-Up.ensures.ready n).0 (λ spent. n (c.in-Up.ensures.spent spent)) c.in-Up.ensures.meaning (record { channel = refl; hop = refl; taken = refl; flags_taken = refl })
    (takes-up g.S.Stage.meaning g.S.Stage.stands_after g.S.Stage.is_spent _ c.args.self.now c.self.view_is c.args.envelope.item c.change-changed.new.item changes.0 [] c.args.outputs.now c.hand_on.new.outputs c.change-changed.new.stage c.hand_on.new.self c.self.inside.down
    changes.2 c.in-Up.ensures.meaning (sym none ∙ all-made changes.1 c.self.invariant.down_empty) c.hand_on.ensures.port (sym (port_after-nil c.self.inside.down))
    (appends-alone c.args.outputs.now c.hand_on.new.outputs s c.self.inside.down (put_out s c.self.inside.up (c.change-changed.new.item ∷ [])) c.hand_on.ensures.out))

pub returns-in-Ok : goal.returns-in-Ok
returns-in-Ok g c =
    let n : Up ≢ No = λ e. cc in
    let changes = c.in-Up.ensures.changes n in
    let puts = c.in-Ok.ensures.puts in
    takes-open g.S.Stage.meaning g.S.Stage.stands_after g.S.Stage.is_spent _ c.args.self.now c.self.view_is c.args.envelope.item c.args.outputs.now c.put_changed-put.new.outputs Ran _ (c.in-Up.ensures.ready n).0 (λ spent. n (c.in-Up.ensures.spent spent)) c.in-Up.ensures.meaning (record { channel = refl; hop = refl; taken = refl; flags_taken = refl })
    (takes-up g.S.Stage.meaning g.S.Stage.stands_after g.S.Stage.is_spent _ c.args.self.now c.self.view_is c.args.envelope.item c.change-changed.new.item changes.0 c.change-changed.new.below.items c.args.outputs.now c.put_changed-put.new.outputs c.change-changed.new.stage c.put_changed-put.new.up c.put_changed-put.new.down
    changes.2 c.in-Up.ensures.meaning (all-made changes.1 c.self.invariant.down_empty) puts.up puts.down puts.out)

pub returns-in-Err-Memory : goal.returns-in-Err-Memory
returns-in-Err-Memory g c =
    let n : Up ≢ No = λ e. cc in
    let changes = c.in-Up.ensures.changes n in
    let closes = c.run_out.ensures.closes in
    takes-open g.S.Stage.meaning g.S.Stage.stands_after g.S.Stage.is_spent _ c.args.self.now c.self.view_is c.args.envelope.item c.args.outputs.now c.run_out.new.outputs c.run_out.result c.run_out.new.self (c.in-Up.ensures.ready n).0 (λ spent. n (c.in-Up.ensures.spent spent))
    (ap (λ (s : ContextView g.row.S.Denot). g.S.Stage.meaning s.stage) closes.context ∙ c.in-Up.ensures.meaning)
    (record {
      channel = ap (λ (s : ContextView g.row.S.Denot). s.channel) closes.context;
      hop = ap (λ (s : ContextView g.row.S.Denot). s.hop) closes.context;
      taken = ap (λ (s : ContextView g.row.S.Denot). s.taken) closes.context;
      flags_taken = ap (λ (s : ContextView g.row.S.Denot). s.flags_taken) closes.context;
    })
    (takes-fault g.S.Stage.meaning g.S.Stage.stands_after g.S.Stage.is_spent _ c.args.self.now c.self.view_is c.args.envelope.item c.change-changed.new.item changes.0 c.change-changed.new.below.items c.args.outputs.now c.put_changed-put.new.outputs c.run_out.new.outputs c.change-changed.new.stage c.put_changed-put.new.up c.put_changed-put.new.down c.run_out.new.self c.run_out.result
    changes.2 (all-made changes.1 c.self.invariant.down_empty) c.in-Err-Memory.ensures.none c.run_out.ensures.failed closes)

pub returns-in-Down : goal.returns-in-Down
returns-in-Down g c =
    let n : Down ≢ No = λ e. cc in
    let changes = c.in-Down.ensures.changes n in
    let none = sym (all-made changes.1 c.self.invariant.down_empty) ∙ c.in-Down.ensures.alone refl ∙ c.self.invariant.down_empty in
    takes-open g.S.Stage.meaning g.S.Stage.stands_after g.S.Stage.is_spent _ c.args.self.now c.self.view_is c.args.envelope.item c.args.outputs.now c.hand_on-in-Down.new.outputs Ran _ (c.in-Down.ensures.ready n).0 (λ spent. n (c.in-Down.ensures.spent spent)) c.in-Down.ensures.meaning (record { channel = refl; hop = refl; taken = refl; flags_taken = refl })
    (takes-down g.S.Stage.meaning g.S.Stage.stands_after g.S.Stage.is_spent _ c.args.self.now c.self.view_is c.args.envelope.item c.change-changed.new.item changes.0 c.args.outputs.now c.hand_on-in-Down.new.outputs c.change-changed.new.stage c.hand_on-in-Down.new.self
    changes.2 c.in-Down.ensures.meaning none c.hand_on-in-Down.ensures.port c.hand_on-in-Down.ensures.out)
