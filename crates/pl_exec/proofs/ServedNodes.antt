-- How often the heads of an executor's nodes have read and written, after each of their calls.
use Rattle.std.proofs.Common.{◌≡◌, ◌≢◌, ℕ, ◌+◌, ◌≤◌, Bool, true, false, List, Option, Some, None, slice_get, refl, ap, sym, ◌∙◌, subst, ⊎_elim, arith}
use Rattle.std.specs.Prelude.{◌==◌, is_some, nat_lt, if◌then◌else◌}
use Rattle.std.specs.Option.{option_map, option_map_or}
use Rattle.std.proofs.lemmas.Bool.{cases_eq, cases_Bool, both_ways}
use Rattle.std.proofs.option.Match.{None-if_not_some}
use Rattle.pl_event.specs.declared.events.Event.{Event}
use Rattle.pl_event.specs.declared.envelopes.Envelope.{Envelope}
use Rattle.pl_event.specs.Meaning.{Meaning}
use Rattle.pl_event.specs.Worlds.{World}
use Rattle.pl_context.specs.declared.standing.Took.{Took}
use Rattle.pl_context.specs.OutputsViews.{OutputsView}
use Rattle.pl_context.proofs.WaitingCalls.{at-set_there}
use Rattle.pl_flow.specs.declared.head_moves.HeadMove.{HeadMove}
use Rattle.pl_flow.specs.declared.head_moves.HeadMove.TheVariants as head
use Rattle.pl_head.specs.declared.heads.OutStep.{OutStep}
use Rattle.pl_head.specs.declared.heads.OutStep.TheVariants as step
use Rattle.pl_head.specs.declared.heads.ReadStep.{ReadStep}
use Rattle.pl_head.specs.declared.heads.ReadStep.TheVariants as reading
use Rattle.pl_head.specs.declared.inputs.ReadPlan.{ReadPlan}
use Rattle.pl_head.specs.HeadStand.{HeadView, ReadsStand}
use Rattle.pl_head.specs.ReadSteps.{brings_abort, brings_failure, has_step, plan_steps}
use Rattle.pl_head.specs.Transports.{TransportState, one_call_more}
use Rattle.pl_head.specs.HeadCalls.{HeadReads, HeadWrites}
use Rattle.pl_part.specs.Parts.{ChannelPartView, PartHolds, PartTakes, PartReads, PartWrites, PartMoves, SamePart, head_hop}
use Rattle.pl_part.specs.Told.{IsTold, told_head}
use Rattle.pl_channel.proofs.OneChannel.{changed, unchanged, at-was, at-is}
use Rattle.pl_threads.specs.Serving.{Served, ServesNone, MovesAtMostOnce}
use Rattle.pl_exec.specs.ExecutorNodes.{planned_reads, reads_made, served_by, served_of}
use Rattle.pl_channel.specs.PlanStand.{PartKeepsPlan}
use Rattle.pl_world.specs.Plans.{ChannelPlan, Plan, read_plan}
use Rattle.pl_exec.specs.Telling.{IsToldAt}

-- ---- one head

more : (n : ℕ) → n ≤ n + 1
more n = omega arith

counted-most : (n : ℕ) → one_call_more n ≤ n + 1
counted-most n = omega arith

-- one more where a failure has closed the lane
one-more : (n : ℕ) (b d : Bool) → n + (if b then 0 else (if d then 1 else 0)) ≤ n + 1
one-more n true d = omega arith
one-more n false true = omega arith
one-more n false false = omega arith

none-less : (n : ℕ) (b d : Bool) → n ≤ n + (if b then 0 else (if d then 1 else 0))
none-less n true d = omega arith
none-less n false true = omega arith
none-less n false false = omega arith

-- it is open as long as not all steps were made
none-more : (n : ℕ) (b d : Bool) → b ≡ d → n + (if b then 0 else (if d then 1 else 0)) ≡ n
none-more n true d same = omega arith
none-more n false false same = omega arith
none-more n false true same = absurd (both_ways true (sym same) refl)

-- it makes a read step, or none
module _ {T : Type 0} (state : T → TransportState) where
  read-steps : (q : ReadPlan) (reads : ℕ) (failed : Bool) (h h' : HeadView T) (b a : OutputsView) (answer : ReadStep) → ReadsStand q reads failed h → HeadReads state h b answer h' a
      → (reads_made q h' ≤ reads_made q h + 1) × ((state h'.transport).calls ≡ (state h.transport).calls)
  read-steps q reads failed h h' b a answer stands r = by answer refl
    where
      held-gave : reading.Held ≡ reading.Gave → ⊥
      held-gave e = cc

      done-gave : reading.Done ≡ reading.Gave → ⊥
      done-gave e = cc

      idle : answer ≢ reading.Gave → (reads_made q h' ≤ reads_made q h + 1) × ((state h'.transport).calls ≡ (state h.transport).calls)
      idle never = let same = (r.idle never).0 in (subst (λ (x : HeadView T). reads_made q x ≤ reads_made q h + 1) (sym same) (more (reads_made q h)), ap (λ (x : HeadView T). (state x.transport).calls) same)

      made : answer ≡ reading.Gave → reads_made q h' ≤ reads_made q h + 1
      made e =
          let was = stands.steps in
          let now = r.reads e q reads failed stands in
          let is = now.steps in
          let before = none-less h.input.steps h.input.port.is_open (nat_lt h.input.steps (plan_steps q)) in
          ⊎_elim
          (λ (fails : brings_failure q reads h.failure ≡ true).
          let stays : h'.input.steps ≡ reads = is ∙ ap (λ (c : Bool). if c then reads else reads + 1) fails in
          let after = one-more h'.input.steps h'.input.port.is_open (nat_lt h'.input.steps (plan_steps q)) in
          omega (arith, was, stays, before, after))
          (λ (goes : brings_failure q reads h.failure ≡ false).
          let next : h'.input.steps ≡ reads + 1 = is ∙ ap (λ (c : Bool). if c then reads else reads + 1) goes in
          let opened : h'.input.port.is_open ≡ nat_lt h'.input.steps (plan_steps q) = now.is_open ∙ (λ i. has_step q (sym is i) (goes i)) in
          let after = none-more h'.input.steps h'.input.port.is_open (nat_lt h'.input.steps (plan_steps q)) opened in
          omega (arith, was, next, before, after))
          (cases_Bool (brings_failure q reads h.failure))

      gave : answer ≡ reading.Gave → (reads_made q h' ≤ reads_made q h + 1) × ((state h'.transport).calls ≡ (state h.transport).calls)
      gave e = (
        made e,
        ⊎_elim
            (λ (aborts : brings_abort q reads h.failure ≡ true). ap (λ (x : HeadView T). (state x.transport).calls) (r.aborts e q reads failed stands aborts).same)
            (λ (goes : brings_abort q reads h.failure ≡ false). ap (λ (x : HeadView T). (state x.transport).calls) (r.same e q reads failed stands goes))
            (cases_Bool (brings_abort q reads h.failure)),
      )

      by : (x : ReadStep) → answer ≡ x → (reads_made q h' ≤ reads_made q h + 1) × ((state h'.transport).calls ≡ (state h.transport).calls)
      by reading.Gave e = gave e
      by reading.Held e = idle (λ (f : answer ≡ reading.Gave). held-gave (sym e ∙ f))
      by reading.Done e = idle (λ (f : answer ≡ reading.Gave). done-gave (sym e ∙ f))

-- how often one channel was served before and after a move of its head
abbrev pub ServesOnce : HeadMove → Served → Served → Type 0
ServesOnce head.Read s t = (t.reads ≤ s.reads + 1) × (t.calls ≡ s.calls)
ServesOnce head.Out s t = (t.reads ≡ s.reads) × (t.calls ≤ s.calls + 1)

-- ---- the head of a part

module _ {S T : Type 0} (state : T → TransportState) where
  of-head : (p : ChannelPartView S T) (h : HeadView T) → p.head ≡ Some h → (q : Option ChannelPlan) → served_by state q p ≡ record { reads = planned_reads q h; calls = (state h.transport).calls }
  of-head p h at q = ap (λ (o : Option (HeadView T)). option_map_or (λ (x : HeadView T). record { reads = planned_reads q x; calls = (state x.transport).calls }) o (record { reads = 0; calls = 0 })) at

  -- of a part whose head stands like another's
  same-served : (p p' : ChannelPartView S T) (h h' : HeadView T) → p.head ≡ Some h → p'.head ≡ Some h' → h'.input ≡ h.input → (state h'.transport).calls ≡ (state h.transport).calls
      → (q : Option ChannelPlan) → served_by state q p' ≡ served_by state q p
  same-served p p' h h' at at' input calls q =
      of-head p' h' at' q
      ∙ (λ i. record { reads = option_map_or (λ (c : ChannelPlan). (input i).steps + (if (input i).port.is_open then 0 else (if nat_lt (input i).steps (plan_steps (read_plan c)) then 1 else 0))) q 0; calls = calls i })
      ∙ sym (of-head p h at q)

  pub heads-equal : (p p' : ChannelPartView S T) → p'.head ≡ p.head → (q : Option ChannelPlan) → served_by state q p' ≡ served_by state q p
  heads-equal p p' e q = ap (λ (o : Option (HeadView T)). option_map_or (λ (x : HeadView T). record { reads = planned_reads q x; calls = (state x.transport).calls }) o (record { reads = 0; calls = 0 })) e

  -- it takes an item
  pub take-serves : (meaning : S → Meaning) (stands_after : S → List Event → Type 0) (is_spent : S → Bool) (p p' : ChannelPartView S T) (e : Envelope) (b a : OutputsView) (answer : Took)
      → SamePart p p' → PartTakes meaning stands_after is_spent state p e b answer p' a → (q : Option ChannelPlan) → served_by state q p' ≡ served_by state q p
  take-serves meaning stands_after is_spent p p' e b a answer same t q = ⊎_elim
      (λ (here : (e.lane.hop == head_hop p) ≡ true). by here p.head refl)
      (λ (there : (e.lane.hop == head_hop p) ≡ false). heads-equal p p' (t.path there).1 q)
      (cases_Bool (e.lane.hop == head_hop p))
    where
      by : (e.lane.hop == head_hop p) ≡ true → (o : Option (HeadView T)) → p.head ≡ o → served_by state q p' ≡ served_by state q p
      by here None at = heads-equal p p' (None-if_not_some p'.head (same.head ∙ ap (λ (o : Option (HeadView T)). is_some o) at) ∙ sym at) q
      by here (Some h) at =
          let r = t.head h here at in
          same-served p p' h r.0 at r.1 (ap (λ (x : HeadView T). x.input) r.2.same) (ap (λ (x : HeadView T). (state x.transport).calls) r.2.same) q

  -- it makes a read step, or none
  read-serves : (world : World) (meaning : S → Meaning) (stands_after : S → List Event → Type 0) (p p' : ChannelPartView S T) (b a : OutputsView) (answer : ReadStep)
      → PartHolds world meaning stands_after state p → PartReads state p b answer p' a
      → (q : Option ChannelPlan) → ((c : ChannelPlan) → q ≡ Some c → PartKeepsPlan state c p)
      → ((served_by state q p').reads ≤ (served_by state q p).reads + 1) × ((served_by state q p').calls ≡ (served_by state q p).calls)
  read-serves world meaning stands_after p p' b a answer holds r q keeps = by p.head refl
    where
      -- by the plan of the channel, or by none
      steps : (h h' : HeadView T) → p.head ≡ Some h → HeadReads state h b answer h' a → (o : Option ChannelPlan) → q ≡ o
          → (planned_reads o h' ≤ planned_reads o h + 1) × ((state h'.transport).calls ≡ (state h.transport).calls)
      steps h h' at x None is =
          let stood = (holds.head h at).0 in
          let reads = stood.holds.reads in
          (omega arith, (read-steps state stood.plan reads.0 reads.1 h h' b a answer reads.2 x).1)
      steps h h' at x (Some c) is =
          let reads = ((keeps c is).head h at).reads in
          read-steps state (read_plan c) reads.0 reads.1 h h' b a answer reads.2 x

      by : (o : Option (HeadView T)) → p.head ≡ o → ((served_by state q p').reads ≤ (served_by state q p).reads + 1) × ((served_by state q p').calls ≡ (served_by state q p).calls)
      by None at =
          let same = (r.none at).1 in
          (subst (λ (x : ChannelPartView S T). (served_by state q x).reads ≤ (served_by state q p).reads + 1) (sym same) (more (served_by state q p).reads), ap (λ (x : ChannelPartView S T). (served_by state q x).calls) same)
      by (Some h) at =
          let x = r.head h at in
          subst (λ (z : Served × Served). (z.0.reads ≤ z.1.reads + 1) × (z.0.calls ≡ z.1.calls)) (λ i. (sym (of-head p' x.0 x.1 q) i, sym (of-head p h at q) i)) (steps h x.0 at x.2 q refl)

  -- it makes a write, or none
  write-serves : (may_refuse : T → ℕ → Type 0) (p p' : ChannelPartView S T) (b a : OutputsView) (answer : OutStep) → PartWrites state may_refuse p b answer p' a
      → (q : Option ChannelPlan) → ((served_by state q p').reads ≡ (served_by state q p).reads) × ((served_by state q p').calls ≤ (served_by state q p).calls + 1)
  write-serves may_refuse p p' b a answer w q = by p.head refl
    where
      wrote-idle : (n : ℕ) → step.Wrote n ≡ step.Idle → ⊥
      wrote-idle n e = cc

      failed-idle : step.Failed ≡ step.Idle → ⊥
      failed-idle e = cc

      calls : (h h' : HeadView T) → HeadWrites state may_refuse h b answer h' a → (x : OutStep) → answer ≡ x → (state h'.transport).calls ≤ (state h.transport).calls + 1
      calls h h' hw step.Idle e = subst (λ (x : HeadView T). (state x.transport).calls ≤ (state h.transport).calls + 1) (sym (hw.idle e).0) (more (state h.transport).calls)
      calls h h' hw (step.Wrote n) e = subst (λ (k : ℕ). k ≤ (state h.transport).calls + 1) (sym (hw.called (λ (f : answer ≡ step.Idle). wrote-idle n (sym e ∙ f)))) (counted-most (state h.transport).calls)
      calls h h' hw step.Failed e = subst (λ (k : ℕ). k ≤ (state h.transport).calls + 1) (sym (hw.called (λ (f : answer ≡ step.Idle). failed-idle (sym e ∙ f)))) (counted-most (state h.transport).calls)

      by : (o : Option (HeadView T)) → p.head ≡ o → ((served_by state q p').reads ≡ (served_by state q p).reads) × ((served_by state q p').calls ≤ (served_by state q p).calls + 1)
      by None at =
          let same = (w.none at).1 in
          (ap (λ (x : ChannelPartView S T). (served_by state q x).reads) same, subst (λ (x : ChannelPartView S T). (served_by state q x).calls ≤ (served_by state q p).calls + 1) (sym same) (more (served_by state q p).calls))
      by (Some h) at =
          let x = w.head h at in
          subst (λ (z : Served × Served). (z.0.reads ≡ z.1.reads) × (z.0.calls ≤ z.1.calls + 1)) (λ i. (sym (of-head p' x.0 x.1 q) i, sym (of-head p h at q) i))
          (ap (λ (y : HeadView T). planned_reads q y) x.2.same, calls h x.0 x.2 answer refl)

  -- it makes a move, or none
  pub move-serves : (may_refuse : T → ℕ → Type 0) (world : World) (meaning : S → Meaning) (stands_after : S → List Event → Type 0) (p p' : ChannelPartView S T) (b a : OutputsView) (by : HeadMove) (made : Bool)
      → PartHolds world meaning stands_after state p → PartMoves state may_refuse p by b made p' a → (q : Option ChannelPlan) → ((c : ChannelPlan) → q ≡ Some c → PartKeepsPlan state c p) → ServesOnce by (served_by state q p) (served_by state q p')
  move-serves may_refuse world meaning stands_after p p' b a head.Read made holds m q keeps = read-serves world meaning stands_after p p' b a m.answer holds m.reads q keeps
  move-serves may_refuse world meaning stands_after p p' b a head.Out made holds m q keeps = write-serves may_refuse p p' b a m.answer m.writes q

-- ---- all parts, of which one has changed

module _ {S T : Type 0} (state : T → TransportState) (plan : Plan) (ps : List (ChannelPartView S T)) (c : ℕ) (p p' : ChannelPartView S T) (was : slice_get ps c ≡ Some p) where
  pub serves-none : ((q : Option ChannelPlan) → served_by state q p' ≡ served_by state q p) → ServesNone (served_of state plan ps) (served_of state plan (changed ps c p p' was))
  serves-none same k = unchanged ps c p p' was (λ (x : ChannelPartView S T). served_by state (slice_get plan.channels k) x) (record { reads = 0; calls = 0 }) (same (slice_get plan.channels k)) k

  -- what holds of the one before and after holds of each
  each : (R : Served → Served → Type 0) → ((s : Served) → R s s) → R (served_by state (slice_get plan.channels c) p) (served_by state (slice_get plan.channels c) p') → (k : ℕ)
      → R (served_of state plan ps k) (served_of state plan (changed ps c p p' was) k)
  each R same one k = ⊎_elim
      (λ (e : k ≡ c). subst (λ (z : Served × Served). R z.0 z.1)
      (λ i. (
        sym (at-was ps c p p' was (λ (x : ChannelPartView S T). served_by state (slice_get plan.channels k) x) (record { reads = 0; calls = 0 }) k e) i,
        sym (at-is ps c p p' was (λ (x : ChannelPartView S T). served_by state (slice_get plan.channels k) x) (record { reads = 0; calls = 0 }) k e) i,
      ))
      (subst (λ (n : ℕ). R (served_by state (slice_get plan.channels n) p) (served_by state (slice_get plan.channels n) p')) (sym e) one))
      (λ (other : k ≢ c). subst (λ (s : Served). R (served_of state plan ps k) s)
      (sym (ap (λ (o : Option (ChannelPartView S T)). option_map_or (λ (x : ChannelPartView S T). served_by state (slice_get plan.channels k) x) o (record { reads = 0; calls = 0 })) (at-set_there ps c k p' other))) (same (served_of state plan ps k)))
      (cases_eq k c)

  pub moves-once : (by : HeadMove) → ServesOnce by (served_by state (slice_get plan.channels c) p) (served_by state (slice_get plan.channels c) p') → MovesAtMostOnce by (served_of state plan ps) (served_of state plan (changed ps c p p' was))
  moves-once head.Read one = each (ServesOnce head.Read) (λ s. (more s.reads, refl)) one
  moves-once head.Out one = each (ServesOnce head.Out) (λ s. (refl, more s.calls)) one

-- ---- and where the head has told of its writes

module _ {S T : Type 0} (state : T → TransportState) where
  told-as-before : (p p' : ChannelPartView S T) → IsTold p p' → (q : Option ChannelPlan) → served_by state q p' ≡ served_by state q p
  told-as-before p p' told q =
      heads-after p.head refl
    where
      heads-after : (o : Option (HeadView T)) → p.head ≡ o → served_by state q p' ≡ served_by state q p
      heads-after None at = heads-equal state p p' (ap (λ (x : ChannelPartView S T). x.head) told.is ∙ ap (option_map (told_head told.so_many)) at ∙ sym at) q
      heads-after (Some h) at = same-served state p p' h (told_head told.so_many h) at (ap (λ (x : ChannelPartView S T). x.head) told.is ∙ ap (option_map (told_head told.so_many)) at) refl refl q

  pub told-served : (plan : Plan) (ps : List (ChannelPartView S T)) (c : ℕ) (ps' : List (ChannelPartView S T)) → IsToldAt ps c ps' → ServesNone (served_of state plan ps) (served_of state plan ps')
  told-served plan ps c ps' t k =
      ap (λ (x : List (ChannelPartView S T)). served_of state plan x k) t.becomes ∙ serves-none state plan ps c t.before t.after t.was (told-as-before t.before t.after t.told) k

  pub told-moves : (plan : Plan) (ps : List (ChannelPartView S T)) (c : ℕ) (ps' : List (ChannelPartView S T)) → IsToldAt ps c ps' → (by : HeadMove) (before : ℕ → Served) → MovesAtMostOnce by before (served_of state plan ps) → MovesAtMostOnce by before (served_of state plan ps')
  told-moves plan ps c ps' t by before once = subst (λ (after : ℕ → Served). MovesAtMostOnce by before after) (λ i k. sym (told-served plan ps c ps' t k) i) once
