-- A context takes the next item of one of its lanes: how it stands then, and what it has put out.
use Rattle.std.proofs.Common.{◌≡◌, ℕ, suc, ◌+◌, ◌<◌, ◌≤◌, ◌^◌, Bool, true, false, not, ◌&&◌, cond, List, [], ◌∷◌, ◌++◌, length, take, Some, refl, ap, sym, ◌∙◌, subst, ⊎_elim, arith, length-append}
use Rattle.std.specs.Prelude.{◌%◌, ◌==◌, if◌then◌else◌}
use Rattle.std.specs.List.{slice_get}
use Rattle.std.proofs.lemmas.List.{take_all}
use Rattle.std.proofs.lemmas.Option.{slice_get_within}
use Rattle.std.proofs.lemmas.Bool.{cases_Bool, both_ways, not-false, and_parts}
use Rattle.std.proofs.Math.Bool.{and-true}
use Rattle.pl_event.specs.declared.events.Event.{Event}
use Rattle.pl_event.specs.declared.stages.Turned.TheVariants.{Open, Ended}
use Rattle.pl_event.specs.declared.outcomes.Cause.{Cause}
use Rattle.pl_event.specs.declared.outcomes.Cause.TheVariants.{Memory}
use Rattle.pl_event.specs.declared.envelopes.Kind.{Kind}
use Rattle.pl_event.specs.declared.envelopes.Kind.TheVariants.{Data, Flags}
use Rattle.pl_event.specs.declared.envelopes.Item.{Item}
use Rattle.pl_event.specs.declared.envelopes.Item.TheVariants as item
use Rattle.pl_event.specs.declared.envelopes.Envelope.{Envelope}
use Rattle.pl_event.specs.Meaning.{Meaning, IsLawful, made_after, made-push, up_of, down_of, turned_after}
use Rattle.pl_event.specs.Fitting.{Fits, FitsAsFlag}
use Rattle.pl_context.specs.declared.added.Added.{Added}
use Rattle.pl_context.specs.declared.added.Added.TheVariants.{Last, Refused, Discarded}
use Rattle.pl_context.specs.declared.standing.Standing.{Standing}
use Rattle.pl_context.specs.declared.standing.Standing.TheVariants as standings
use Rattle.pl_context.specs.declared.standing.Took.{Took}
use Rattle.pl_context.specs.declared.standing.Took.TheVariants as took
use Rattle.pl_context.specs.Standings.{is_over, has_failed}
use Rattle.pl_context.specs.OutputsViews.{OutputsView}
use Rattle.pl_context.specs.declared.ports.Port.{Port}
use Rattle.pl_context.specs.Ports.{as_items, end_after, port_after, all_go_on, flag_port_after}
use Rattle.pl_context.specs.ContextViews.{ContextView, has_up, has_down, Enters, kind_taken, number_limit}
use Rattle.pl_context.specs.Contexts.{StandsAfter, MakesFew, Runs, GivesLast, TakesItem, TakesFlag, counted, ups, downs, last_item}
use Rattle.pl_context.proofs.PortLemmas.{all_go_on-events, all_go_on-append}
use Rattle.pl_context.proofs.ContextLemmas.{closed-port, length-items}
use Rattle.pl_event.specs.Worlds.{World, FitsWorld, FitsAsKind, MayCome, may_fail}
use Rattle.pl_flow.specs.Flows.{IsGood}
use Rattle.pl_flow.specs.Makes.{Makes}
use Rattle.pl_flow.proofs.MakeLemmas.{makes-none}
use Rattle.pl_flow.specs.Makes.{AreGood}
use Rattle.pl_flow.proofs.StageFlows.{ups-good, downs-good}
use Rattle.pl_flow.proofs.ItemLemmas.{failure-good, end-good}
use Rattle.pl_part.specs.LaneStages.{LaneStage}
use Rattle.pl_part.specs.ContextHolds.{HoldsWith, context_writes, context_came}
use Rattle.pl_part.proofs.EventLists.{split-at, fits-within, made-le, made-more, length-end, goes-on-end, still-closed, ends-good}
use Rattle.pl_part.proofs.ItemFits.{data-fits, data-may, flag-fits, within-limit}
use Rattle.pl_part.proofs.PortMakes.{both-put, both-append, flag-put}
use Rattle.pl_event.specs.declared.limits.TheConstants.{MAX_ITEMS}

open-over : (s : Standing) → s ≡ standings.Open → is_over s ≡ true → ⊥
open-over s e f = both_ways (is_over s) (ap is_over e) f

open-failed : (s : Standing) → s ≡ standings.Open → has_failed s ≡ true → ⊥
open-failed s e f = both_ways (has_failed s) (ap has_failed e) f

never-ended : (cause : Cause) → standings.Failed cause ≡ standings.Ended → ⊥
never-ended cause e = both_ways true (ap has_failed e) refl

next-take : (n : ℕ) (events : List Event) → take (n + 1) events ≡ take (suc n) events
next-take n events = let same : n + 1 ≡ suc n = omega arith in ap (λ k. take k events) same

-- how many items a port was given, once it was given more
made-few : (n m : ℕ) (o : Bool) → m ≤ MAX_ITEMS → (o ≡ true → m + n ≤ MAX_ITEMS) → cond o (m + n) m ≤ MAX_ITEMS
made-few n m true still more = more refl
made-few n m false still more = still

-- what an open port was given, with the last item of its lane
given-last : (p : Port) (last : List Item) (n : ℕ) → length last ≡ 1 → p.is_open ≡ true → (p.is_open ≡ true → p.made ≡ n) → (port_after last p).made ≡ n + 1
given-last p last n one opened made =
    let count = made opened in
    ap (λ o. if o then p.made + length last else p.made) opened ∙ omega (arith, count, one)

-- A stage that quits by this event, or has quit before, has given its lane downwards all that it makes, and the end.
quit-given : (m : Meaning) → IsLawful m → (before : List Event) (x : Event) (p : Port) → p.is_open ≡ not (m.ended before) → (p.is_open ≡ true → p.made ≡ length (down_of m before))
    → (p.is_open ≡ false → p.made ≡ length (down_of m before) + 1) → (port_after (downs m before x) p).is_open ≡ false → (port_after (downs m before x) p).made ≡ length (down_of m (before ++ x ∷ [])) + 1
quit-given m law before x p opens made given closed = by p.is_open refl
  where
    -- how much it makes of one event more
    whole : length (down_of m (before ++ x ∷ [])) ≡ length (down_of m before) + length (m.down before x)
    whole = ap length (made-push m.down before x) ∙ length-append (down_of m before) (m.down before x)

    by : (o : Bool) → p.is_open ≡ o → (port_after (downs m before x) p).made ≡ length (down_of m (before ++ x ∷ [])) + 1
    by true is =
        let ends : m.ended (before ++ x ∷ []) ≡ true = not-false (m.ended (before ++ x ∷ [])) (sym (ap (λ o. o && all_go_on (downs m before x)) is ∙ all_go_on-append (as_items (m.down before x)) (end_after (turned_after m (before ++ x ∷ []))) (all_go_on-events (m.down before x)) ∙ goes-on-end (m.ended (before ++ x ∷ []))) ∙ closed) in
        let items = length-append (as_items (m.down before x)) (end_after (turned_after m (before ++ x ∷ []))) in
        let size = length-items (m.down before x) in
        let end : length (end_after (turned_after m (before ++ x ∷ []))) ≡ 1 = ap (λ b. length (end_after (cond b Ended Open))) ends in
        let count = made is in
        ap (λ o. if o then p.made + length (downs m before x) else p.made) is ∙ omega (arith, count, items, size, end, whole)
    by false is =
        let none = ap length (law.quiet before x (not-false (m.ended before) (sym opens ∙ is))) in
        let count = given is in
        ap (λ o. if o then p.made + length (downs m before x) else p.made) is ∙ omega (arith, count, none, whole)

module _ {S : Type 0} (world : World) (meaning : S → Meaning) (stands_after : S → List Event → Type 0) (is_spent : S → Bool) (lawful : (s : S) → IsLawful (meaning s)) (events : List Event) (c : ContextView S)
    (h : HoldsWith world meaning stands_after (meaning c.stage) events c) where
  -- what a step owes
  abbrev Stepped : OutputsView → ContextView S → OutputsView → Type 0
  Stepped b c' a = HoldsWith world meaning stands_after (meaning c.stage) events c'
      × Makes world (context_writes (meaning c.stage).direction c) (context_came (meaning c.stage).direction c) (context_came (meaning c.stage).direction c') b a

  -- one item more of its data lane is few
  taken-few : (i : Item) → Fits events c.taken i → c.taken + 1 ≤ MAX_ITEMS
  taken-few i fits = let within = fits-within events c.taken i fits in let few = h.wired.few in omega (arith, within, few)

  module _ (live : c.standing ≡ standings.Open) where
    up-has : c.up.is_open ≡ true → has_up (meaning c.stage).direction ≡ true
    up-has o = sym (h.up_open live) ∙ o

    down-has : c.down.is_open ≡ true → has_down (meaning c.stage).direction ≡ true
    down-has o = (and_parts (has_down (meaning c.stage).direction) (not ((meaning c.stage).ended (take c.taken events))) (sym (h.down_open live) ∙ o)).0

    -- ---- an event

    module _ (x : Event) (fits : slice_get events c.taken ≡ Some x) where
      -- what is made of it, and of the events before, is no more than what is made of all
      made-within : (f : List Event → Event → List Event) → length (made_after f [] (take c.taken events)) + length (as_items (f (take c.taken events) x)) ≤ length (made_after f [] events)
      made-within f =
          let s = split-at events c.taken x fits in
          let more = made-more f events (take c.taken events) s.0 x s.1 in
          let size = length-items (f (take c.taken events) x) in
          omega (arith, more, size)

      small-up : c.up.is_open ≡ true → c.up.made + length (ups (meaning c.stage) (take c.taken events) x) ≤ MAX_ITEMS
      small-up o =
          let made = (h.stood live).above o in
          let more = made-within (meaning c.stage).up in
          let few = h.wired.few_up (up-has o) in
          omega (arith, made, more, few)

      small-down : c.down.is_open ≡ true → c.down.made + length (downs (meaning c.stage) (take c.taken events) x) ≤ MAX_ITEMS
      small-down o =
          let made = (h.stood live).below o in
          let more = made-within (meaning c.stage).down in
          let few = h.wired.few_down (down-has o) in
          let end = length-end (turned_after (meaning c.stage) (take c.taken events ++ x ∷ [])) in
          let both = length-append (as_items ((meaning c.stage).down (take c.taken events) x)) (end_after (turned_after (meaning c.stage) (take c.taken events ++ x ∷ []))) in
          omega (arith, made, more, few, end, both)

      event-few : MakesFew meaning stands_after c (item.Event x)
      event-few = (take c.taken events, record { stands = (h.stood live).stands; above = small-up; below = small-down })

      ups-are-good : c.up.is_open ≡ true → AreGood world c.up.lane c.up.made (ups (meaning c.stage) (take c.taken events) x)
      ups-are-good o =
          let s = split-at events c.taken x fits in
          ups-good world (meaning c.stage) c.up.lane events (take c.taken events) s.0 x c.up.made h.wired.up_kind (h.wired.up (up-has o)) (h.wired.few_up (up-has o)) s.1 ((h.stood live).above o)

      downs-are-good : c.down.is_open ≡ true → AreGood world c.down.lane c.down.made (downs (meaning c.stage) (take c.taken events) x)
      downs-are-good o =
          let s = split-at events c.taken x fits in
          let d = down-has o in
          ends-good world (meaning c.stage) (lawful c.stage) c.down.lane events (take c.taken events) s.0 x c.down.made h.wired.down_kind (h.wired.down d) (h.wired.few_down d) s.1 ((h.stood live).below o)
          (downs-good world (meaning c.stage) c.down.lane events (take c.taken events) s.0 x c.down.made h.wired.down_kind (h.wired.down d) (h.wired.few_down d) s.1 ((h.stood live).below o))

      -- Once its lane downwards is over, it was given all that was made, and the end: by this event, or before.
      ran-given : has_down (meaning c.stage).direction ≡ true → (port_after (downs (meaning c.stage) (take c.taken events) x) c.down).is_open ≡ false
          → (port_after (downs (meaning c.stage) (take c.taken events) x) c.down).made ≡ length (down_of (meaning c.stage) (take c.taken events ++ x ∷ [])) + 1
      ran-given has closed = quit-given (meaning c.stage) (lawful c.stage) (take c.taken events) x c.down (h.down_open live ∙ ap (λ b. b && not ((meaning c.stage).ended (take c.taken events))) has)
          (h.stood live).below (h.down_given (ap has_failed live) has) closed

      ran : (b a : OutputsView) (c' : ContextView S) → meaning c'.stage ≡ meaning c.stage → Runs meaning stands_after (counted Data c) x b c' a → Stepped b c' a
      ran b a c' meant r =
          let s = split-at events c.taken x fits in
          let before = take c.taken events in
          let at = (h.stood live).stands in
          let U = ups (meaning c.stage) before x in
          let D = downs (meaning c.stage) before x in
          let z : ContextView S = record (counted Data c) { stage = c'.stage; up = port_after U c.up; down = port_after D c.down } in
          let same : c' ≡ z = r.same ∙ (λ i. record (counted Data c) { stage = c'.stage; up = r.up before at i; down = r.down before at i }) in
          let more : take (c.taken + 1) events ≡ before ++ x ∷ [] = next-take c.taken events ∙ s.2 in
          let ended = (meaning c.stage).ended in
          let within = slice_get_within events c.taken x fits in
          let stood : StandsAfter meaning stands_after z (take (c.taken + 1) events) = subst (λ (y : ContextView S × List Event). StandsAfter meaning stands_after y.0 y.1) (λ i. (same i, sym more i)) (r.stands before (h.stood live)) in
          let shut : (c.down.is_open && all_go_on D) ≡ (has_down (meaning c.stage).direction && not (ended (take (c.taken + 1) events))) =
          (λ i. h.down_open live i && (all_go_on-append (as_items ((meaning c.stage).down before x)) (end_after (turned_after (meaning c.stage) (before ++ x ∷ []))) (all_go_on-events ((meaning c.stage).down before x)) ∙ goes-on-end (ended (before ++ x ∷ []))) i)
          ∙ still-closed (has_down (meaning c.stage).direction) (ended before) (ended (before ++ x ∷ [])) ((lawful c.stage).stays_ended before x)
          ∙ ap (λ zs. has_down (meaning c.stage).direction && not (ended zs)) (sym more) in (
            subst (λ (y : ContextView S). HoldsWith world meaning stands_after (meaning c.stage) events y) (sym same) (record {
              meant = meant;
              wired = h.wired;
              within = λ o. omega (arith, within);
              stood = λ o. stood;
              staged = record { begun = λ m. (c.taken + 1, omega (arith, within), stood.stands); whole = λ e. absurd (open-over c.standing live (ap is_over e)) };
              up_open = λ o. (λ i. h.up_open live i && all_go_on-events ((meaning c.stage).up before x) i) ∙ and-true (has_up (meaning c.stage).direction);
              down_open = λ o. shut;
              up_over = λ o. absurd (open-over c.standing live o);
              down_over = λ o. absurd (open-over c.standing live o);
              ended = λ o. absurd (open-over c.standing live (ap is_over o));
              up_given = λ o. absurd (open-over c.standing live (ap is_over o));
              down_given = λ f has closed. ran-given has closed ∙ ap (λ zs. length (down_of (meaning c.stage) zs) + 1) (sym more);
              flags_open = h.flags_open;
              flags = h.flags;
              by_call = h.by_call;
              few = record {
                taken = taken-few (item.Event x) fits;
                flags_taken = h.few.flags_taken;
                up = made-few (length U) c.up.made c.up.is_open h.few.up small-up;
                down = made-few (length D) c.down.made c.down.is_open h.few.down small-down;
                flags = h.few.flags;
              };
            }),
            subst (λ (y : ContextView S). Makes world (context_writes (meaning c.stage).direction c) (context_came (meaning c.stage).direction c) (context_came (meaning c.stage).direction y) b a) (sym same)
                (both-append (has_up (meaning c.stage).direction) (has_down (meaning c.stage).direction) c.up c.down c.flags up-has down-has h.wired.apart world U D ups-are-good downs-are-good b a (r.out before at)),
          )

    -- ---- the last item of its lanes

    seen : c.taken ≡ length events → length (up_of (meaning c.stage) (take c.taken events)) ≡ length (up_of (meaning c.stage) events)
    seen all = ap (λ zs. length (up_of (meaning c.stage) zs)) (take_all c.taken events (omega (arith, all)))

    -- its lane downwards, once it has taken all
    down-last : (standing : Standing) (t : ℕ) → c.taken ≡ length events → t ≡ c.taken + 1 → has_down (meaning c.stage).direction ≡ true
        → (port_after (last_item standing ∷ []) c.down).made ≡ length (down_of (meaning c.stage) (take t events)) + 1
    down-last standing t all one has = by c.down.is_open refl ∙ ap (λ zs. length (down_of (meaning c.stage) zs) + 1) (take_all c.taken events (omega (arith, all)) ∙ sym (take_all t events (omega (arith, all, one))))
      where
        by : (o : Bool) → c.down.is_open ≡ o → (port_after (last_item standing ∷ []) c.down).made ≡ length (down_of (meaning c.stage) (take c.taken events)) + 1
        by true is = given-last c.down (last_item standing ∷ []) (length (down_of (meaning c.stage) (take c.taken events))) refl is (h.stood live).below
        by false is = ap (λ o. if o then c.down.made + 1 else c.down.made) is ∙ h.down_given (ap has_failed live) has is

    -- one item more of a lane is few
    last-few : (f : List Event → Event → List Event) (made : ℕ) → made ≡ length (made_after f [] (take c.taken events)) → length (made_after f [] events) + 1 < MAX_ITEMS → made + 1 ≤ MAX_ITEMS
    last-few f made is few = let le = made-le f c.taken events in omega (arith, is, le, few)

    closing : (standing : Standing) → is_over standing ≡ true → (st : S) (t : ℕ) (fb : Bool) → t ≤ MAX_ITEMS → meaning st ≡ meaning c.stage → (fb ≡ true → has_failed standing ≡ true)
        → (has_failed standing ≡ false → (c.taken ≡ length events) × (t ≡ c.taken + 1)) → LaneStage stands_after events standing st
        → (c.up.is_open ≡ true → IsGood world (record { lane = c.up.lane; number = c.up.made; item = last_item standing }))
        → (c.down.is_open ≡ true → IsGood world (record { lane = c.down.lane; number = c.down.made; item = last_item standing }))
        → (b a : OutputsView) (c' : ContextView S) → GivesLast standing (record c { stage = st; taken = t; failed_by_call = fb }) b c' a → Stepped b c' a
    closing standing over st t fb small meant call whole staged up down b a c' k =
        let last = last_item standing ∷ [] in
        let z : ContextView S = record c { stage = st; taken = t; failed_by_call = fb; standing = standing; up = port_after last c.up; down = port_after last c.down } in
        let same : c' ≡ z = k.context in (
          subst (λ (y : ContextView S). HoldsWith world meaning stands_after (meaning c.stage) events y) (sym same) (record {
            meant = meant;
            wired = h.wired;
            within = λ o. absurd (open-over standing o over);
            stood = λ o. absurd (open-over standing o over);
            staged = staged;
            up_open = λ o. absurd (open-over standing o over);
            down_open = λ o. absurd (open-over standing o over);
            up_over = λ o. closed-port standing c.up (port_after last c.up) (last_item standing) refl refl;
            down_over = λ o. closed-port standing c.down (port_after last c.down) (last_item standing) refl refl;
            ended = λ e. let w = whole (ap has_failed e) in omega (arith, w.0, w.1);
            up_given = λ e has. given-last c.up last (length (up_of (meaning c.stage) events)) refl (h.up_open live ∙ has) (λ o. (h.stood live).above o ∙ seen (whole (ap has_failed e)).0);
            down_given = λ f has closed. down-last standing t (whole f).0 (whole f).1 has;
            flags_open = h.flags_open;
            flags = λ f. h.flags (ap has_failed live);
            by_call = call;
            few = record {
              taken = small;
              flags_taken = h.few.flags_taken;
              up = made-few 1 c.up.made c.up.is_open h.few.up (λ o. last-few (meaning c.stage).up c.up.made ((h.stood live).above o) (h.wired.few_up (up-has o)));
              down = made-few 1 c.down.made c.down.is_open h.few.down (λ o. last-few (meaning c.stage).down c.down.made ((h.stood live).below o) (h.wired.few_down (down-has o)));
              flags = h.few.flags;
            };
          }),
          subst (λ (y : ContextView S). Makes world (context_writes (meaning c.stage).direction c) (context_came (meaning c.stage).direction c) (context_came (meaning c.stage).direction y) b a) (sym same)
              (both-put (has_up (meaning c.stage).direction) (has_down (meaning c.stage).direction) c.up c.down c.flags up-has down-has h.wired.apart world last last
              (λ o. (up o, (λ e. refl), tt)) (λ o. (down o, (λ e. refl), tt)) b a k.out),
        )

    not-called : (standing : Standing) → c.failed_by_call ≡ true → has_failed standing ≡ true
    not-called standing e = absurd (open-failed c.standing live (h.by_call e))

    -- nothing is said of one whose context fails out of memory
    spent-staged : (st : S) → LaneStage stands_after events (standings.Failed Memory) st
    spent-staged st = record { begun = λ m. absurd (m refl); whole = λ e. absurd (never-ended Memory e) }

    -- a stage that has taken nothing more, where its context fails
    still-staged : (cause : Cause) → LaneStage stands_after events (standings.Failed cause) c.stage
    still-staged cause = record { begun = λ m. (c.taken, h.within live, (h.stood live).stands); whole = λ e. absurd (never-ended cause e) }

    failing : (cause : Cause) → may_fail world cause ≡ true → (st : S) (t : ℕ) (fb : Bool) → t ≤ MAX_ITEMS → meaning st ≡ meaning c.stage → LaneStage stands_after events (standings.Failed cause) st → (b a : OutputsView) (c' : ContextView S)
        → GivesLast (standings.Failed cause) (record c { stage = st; taken = t; failed_by_call = fb }) b c' a → Stepped b c' a
    failing cause may st t fb small meant staged b a c' k = closing (standings.Failed cause) refl st t fb small meant (λ e. refl) (λ f. absurd (both_ways true f refl)) staged
        (λ o. let made = (h.stood live).above o in let le = made-le (meaning c.stage).up c.taken events in
        failure-good world c.up.lane (up_of (meaning c.stage) events) c.up.made h.wired.up_kind (h.wired.up (up-has o)) (h.wired.few_up (up-has o)) cause may (omega (arith, made, le)))
        (λ o. let made = (h.stood live).below o in let le = made-le (meaning c.stage).down c.taken events in
        failure-good world c.down.lane (down_of (meaning c.stage) events) c.down.made h.wired.down_kind (h.wired.down (down-has o)) (h.wired.few_down (down-has o)) cause may (omega (arith, made, le)))
        b a c' k

    ending : c.taken ≡ length events → (b a : OutputsView) (c' : ContextView S) → GivesLast standings.Ended (counted Data c) b c' a → Stepped b c' a
    ending last b a c' k =
        let all : take c.taken events ≡ events = take_all c.taken events (omega (arith, last)) in
        closing standings.Ended refl c.stage (c.taken + 1) c.failed_by_call (taken-few item.End last) refl (not-called standings.Ended) (λ f. (last, refl))
        (record { begun = λ m. (c.taken, h.within live, (h.stood live).stands); whole = λ e. subst (λ (xs : List Event). stands_after c.stage xs) all (h.stood live).stands })
        (λ o. end-good world c.up.lane (up_of (meaning c.stage) events) c.up.made h.wired.up_kind (h.wired.up (up-has o)) (h.wired.few_up (up-has o)) ((h.stood live).above o ∙ ap (λ zs. length (up_of (meaning c.stage) zs)) all))
        (λ o. end-good world c.down.lane (down_of (meaning c.stage) events) c.down.made h.wired.down_kind (h.wired.down (down-has o)) (h.wired.few_down (down-has o)) ((h.stood live).below o ∙ ap (λ zs. length (down_of (meaning c.stage) zs)) all))
        b a c' k

    -- ---- any item of its data lane

    pub taken-open : (i : Item) → Fits events c.taken i → MayCome world i → (answer : Took) (b a : OutputsView) (c' : ContextView S) → meaning c'.stage ≡ meaning c.stage
        → TakesItem meaning stands_after is_spent (counted Data c) i b answer c' a → Stepped b c' a
    taken-open (item.Event x) fits may took.Ran b a c' meant t = ran x fits b a c' meant t
    taken-open (item.Event x) fits may (took.Failed cause) b a c' meant t = failing Memory refl c'.stage (c.taken + 1) c.failed_by_call (taken-few (item.Event x) fits) meant (spent-staged c'.stage) b a c' t.1.closes
    taken-open (item.Event x) fits may took.Ended b a c' meant t = absurd t
    taken-open (item.Event x) fits may took.Dropped b a c' meant t = absurd t
    taken-open item.End fits may answer b a c' meant t = ending fits b a c' t.1
    taken-open (item.Fail cause) fits may answer b a c' meant t = failing cause may c.stage (c.taken + 1) c.failed_by_call (taken-few (item.Fail cause) fits) refl (still-staged cause) b a c' t.1
    taken-open (item.Flag value) fits may answer b a c' meant t = absurd fits

    pub few-open : (i : Item) → Fits events c.taken i → MakesFew meaning stands_after c i
    few-open (item.Event x) fits = event-few x fits
    few-open item.End fits = tt
    few-open (item.Fail cause) fits = tt
    few-open (item.Flag value) fits = absurd fits

  -- ---- one that has ended or failed

  failed-over : (s : Standing) → has_failed s ≡ true → is_over s ≡ true
  failed-over standings.Open e = e
  failed-over standings.Ended e = refl
  failed-over (standings.Failed cause) e = refl

  -- what it has seen of its lane is all, and stays so
  over-seen : is_over c.standing ≡ true → has_failed c.standing ≡ false → take c.taken events ≡ take (c.taken + 1) events
  over-seen over sound = by c.standing refl
    where
      by : (s : Standing) → c.standing ≡ s → take c.taken events ≡ take (c.taken + 1) events
      by standings.Open is = absurd (open-over c.standing is over)
      by standings.Ended is = let whole = h.ended is in take_all c.taken events (omega (arith, whole)) ∙ sym (take_all (c.taken + 1) events (omega (arith, whole)))
      by (standings.Failed cause) is = absurd (both_ways (has_failed c.standing) sound (ap has_failed is))

  counted-over : is_over c.standing ≡ true → c.taken + 1 ≤ MAX_ITEMS → (b a : OutputsView) (c' : ContextView S) → c' ≡ counted Data c → a ≡ b → Stepped b c' a
  counted-over over small b a c' same none = (
    subst (λ (y : ContextView S). HoldsWith world meaning stands_after (meaning c.stage) events y) (sym same) (record {
      meant = refl;
      wired = h.wired;
      within = λ o. absurd (open-over c.standing o over);
      stood = λ o. absurd (open-over c.standing o over);
      staged = h.staged;
      up_open = λ o. absurd (open-over c.standing o over);
      down_open = λ o. absurd (open-over c.standing o over);
      up_over = h.up_over;
      down_over = h.down_over;
      ended = λ e. let whole = h.ended e in omega (arith, whole);
      up_given = h.up_given;
      down_given = λ f has closed. h.down_given f has closed ∙ ap (λ zs. length (down_of (meaning c.stage) zs) + 1) (over-seen over f);
      flags_open = h.flags_open;
      flags = h.flags;
      by_call = h.by_call;
      few = record { taken = small; flags_taken = h.few.flags_taken; up = h.few.up; down = h.few.down; flags = h.few.flags };
    }),
    subst (λ (y : ContextView S × OutputsView). Makes world (context_writes (meaning c.stage).direction c) (context_came (meaning c.stage).direction c) (context_came (meaning c.stage).direction y.0) b y.1) (λ i. (sym same i, sym none i))
        (makes-none world (context_writes (meaning c.stage).direction c) (context_came (meaning c.stage).direction c) b b refl refl),
  )

  -- A flag more was taken, and handed on or not: so many were made, and the port is open or not.
  flag-held : c.flags_taken < 2 ^ 32 → (made : ℕ) (is_open : Bool) → made ≤ c.flags.made + 1 → (is_open ≡ true → has_up (meaning c.stage).direction ≡ true)
      → (has_failed c.standing ≡ false → is_open ≡ true → made ≡ c.flags_taken + 1)
      → HoldsWith world meaning stands_after (meaning c.stage) events (record (counted Flags c) { flags = record c.flags { made = made; is_open = is_open } })
  flag-held small made is_open most opens all =
      let few = h.few.flags in
      let taken : c.flags_taken + 1 ≤ 2 ^ 32 = omega (arith, small) in
      let above : made ≤ c.flags_taken + 1 = omega (arith, most, few) in
      assumption (h, taken, above)

  -- a flag that is not handed on
  counted-flag : (c.flags.is_open ≡ true → has_failed c.standing ≡ true) → c.flags_taken < 2 ^ 32 → (b a : OutputsView) (c' : ContextView S) → c' ≡ counted Flags c → a ≡ b → Stepped b c' a
  counted-flag shut small b a c' same none = (
    subst (λ (y : ContextView S). HoldsWith world meaning stands_after (meaning c.stage) events y) (sym same)
        (flag-held small c.flags.made c.flags.is_open (omega arith) h.flags_open (λ f o. absurd (both_ways (has_failed c.standing) f (shut o)))),
    subst (λ (y : ContextView S × OutputsView). Makes world (context_writes (meaning c.stage).direction c) (context_came (meaning c.stage).direction c) (context_came (meaning c.stage).direction y.0) b y.1) (λ i. (sym same i, sym none i))
        (makes-none world (context_writes (meaning c.stage).direction c) (context_came (meaning c.stage).direction c) b b refl refl),
  )

  dropped : (k : Kind) → has_failed c.standing ≡ true → (k ≡ Data → c.taken + 1 ≤ MAX_ITEMS) → (k ≡ Flags → c.flags_taken < 2 ^ 32) → (b a : OutputsView) (c' : ContextView S) → c' ≡ counted k c → a ≡ b → Stepped b c' a
  dropped Data f items flags b a c' same none = counted-over (failed-over c.standing f) (items refl) b a c' same none
  dropped Flags f items flags b a c' same none = counted-flag (λ o. f) (flags refl) b a c' same none

  -- ---- flags

  flag-passed : c.flags.is_open ≡ true → c.flags_taken < 2 ^ 32 → (answer : Added) → HoldsWith world meaning stands_after (meaning c.stage) events (record (counted Flags c) { flags = flag_port_after answer c.flags })
  flag-passed goes small Last = flag-held small (c.flags.made + 1) c.flags.is_open (omega arith) h.flags_open (λ f o. ap (λ n. n + 1) (h.flags f goes))
  flag-passed goes small Refused = flag-held small c.flags.made false (omega arith) (λ o. h.flags_open goes) (λ f o. absurd (both_ways false refl o))
  flag-passed goes small Discarded = flag-held small c.flags.made false (omega arith) (λ o. h.flags_open goes) (λ f o. absurd (both_ways false refl o))

  flag-good : (value : Bool) → value ≡ (c.flags_taken % 2 == 1) → c.flags_taken < 2 ^ 32 → has_failed c.standing ≡ false → c.flags.is_open ≡ true
      → IsGood world (record { lane = c.flags.lane; number = c.flags.made; item = item.Flag value })
  unfolding FitsWorld
  flag-good value fits small f o =
      let same = h.flags f o in record {
        fits = subst (λ k. FitsAsKind world k (record { lane = c.flags.lane; number = c.flags.made; item = item.Flag value })) (sym h.wired.flags_kind) (fits ∙ ap (λ n. n % 2 == 1) (sym same));
        small = omega (arith, same, small);
      }

  flag-taken : (value : Bool) → value ≡ (c.flags_taken % 2 == 1) → c.flags_taken < 2 ^ 32 → has_failed c.standing ≡ false → (answer : Took) (b a : OutputsView) (c' : ContextView S)
      → TakesFlag (counted Flags c) (item.Flag value) b answer c' a → Stepped b c' a
  flag-taken value fits small f answer b a c' t = ⊎_elim
      (λ (o : c.flags.is_open ≡ true).
      let put = t.2.put o in
      let same : c' ≡ record (counted Flags c) { flags = flag_port_after put.0 c.flags } = t.1 ∙ (λ i. record (counted Flags c) { flags = put.1 i }) in (
        subst (λ (y : ContextView S). HoldsWith world meaning stands_after (meaning c.stage) events y) (sym same) (flag-passed o small put.0),
        subst (λ (y : ContextView S). Makes world (context_writes (meaning c.stage).direction c) (context_came (meaning c.stage).direction c) (context_came (meaning c.stage).direction y) b a) (sym same)
            (flag-put (has_up (meaning c.stage).direction) (has_down (meaning c.stage).direction) c.up c.down c.flags h.flags_open h.wired.flags_kind h.wired.up_kind h.wired.down_kind world o value (flag-good value fits small f o) b a put.0 put.2),
      ))
      (λ (o : c.flags.is_open ≡ false).
      let none = t.2.closed o in
      let same : c' ≡ counted Flags c = t.1 ∙ (λ i. record (counted Flags c) { flags = none.0 i }) in
      counted-flag (λ g. absurd (both_ways c.flags.is_open o g)) small b a c' same none.1)
      (cases_Bool c.flags.is_open)

  flags-taken : (i : Item) → FitsAsFlag c.flags_taken i → c.flags_taken < 2 ^ 32 → has_failed c.standing ≡ false → (answer : Took) (b a : OutputsView) (c' : ContextView S)
      → TakesFlag (counted Flags c) i b answer c' a → Stepped b c' a
  flags-taken (item.Event x) fits small f answer b a c' t = absurd fits
  flags-taken item.End fits small f answer b a c' t = absurd fits
  flags-taken (item.Fail cause) fits small f answer b a c' t = absurd fits
  flags-taken (item.Flag value) fits small f answer b a c' t = flag-taken value fits small f answer b a c' t

  -- ---- any item of its lanes

  module _ (e : Envelope) (enters : Enters c e.lane) (number : e.number ≡ kind_taken c e.lane.kind) (good : IsGood world e) where
    here : (k : Kind) → e.lane.kind ≡ k → e.number ≡ kind_taken c k
    here k is = number ∙ ap (λ k. kind_taken c k) is

    next-fits : e.lane.kind ≡ Data → Fits events c.taken e.item
    next-fits is = data-fits world e good c.channel c.hop enters.channel enters.hop events h.wired.own c.taken is (here Data is)

    pub next-limit : e.number < number_limit e.lane.kind
    next-limit = within-limit world e good c.channel c.hop enters.channel enters.hop events h.wired.own c.taken h.wired.few (here Data)

    pub next-few : e.lane.kind ≡ Data → c.standing ≡ standings.Open → MakesFew meaning stands_after c e.item
    next-few is live = few-open live e.item (next-fits is)

    pub context-taken : (b a : OutputsView) (c' : ContextView S) (answer : Took) → meaning c'.stage ≡ meaning c.stage
        → (e.lane.kind ≡ Data → c.standing ≡ standings.Open → TakesItem meaning stands_after is_spent (counted Data c) e.item b answer c' a)
        → (e.lane.kind ≡ Data → c.standing ≡ standings.Ended → (answer ≡ took.Ran) × (c' ≡ counted Data c) × (a ≡ b))
        → (e.lane.kind ≡ Flags → has_failed c.standing ≡ false → TakesFlag (counted Flags c) e.item b answer c' a)
        → (has_failed c.standing ≡ true → (answer ≡ took.Dropped) × (c' ≡ counted e.lane.kind c) × (a ≡ b))
        → Stepped b c' a
    context-taken b a c' answer meant item ended flag drops = by e.lane.kind refl c.standing refl
      where
        small : e.lane.kind ≡ Flags → c.flags_taken < 2 ^ 32
        small is = subst (λ n. n < 2 ^ 32) (here Flags is) good.small

        next : e.lane.kind ≡ Data → c.taken + 1 ≤ MAX_ITEMS
        next is = taken-few e.item (next-fits is)

        by : (k : Kind) → e.lane.kind ≡ k → (s : Standing) → c.standing ≡ s → Stepped b c' a
        by Data is standings.Open live = taken-open live e.item (next-fits is) (data-may world e good is) answer b a c' meant (item is live)
        by Data is standings.Ended over = let t = ended is over in counted-over (ap is_over over) (next is) b a c' t.1 t.2
        by Data is (standings.Failed cause) over = let t = drops (ap has_failed over) in dropped e.lane.kind (ap has_failed over) next small b a c' t.1 t.2
        by Flags is standings.Open live = flags-taken e.item (flag-fits world e good is c.flags_taken (here Flags is)) (small is) (ap has_failed live) answer b a c' (flag is (ap has_failed live))
        by Flags is standings.Ended live = flags-taken e.item (flag-fits world e good is c.flags_taken (here Flags is)) (small is) (ap has_failed live) answer b a c' (flag is (ap has_failed live))
        by Flags is (standings.Failed cause) over = let t = drops (ap has_failed over) in dropped e.lane.kind (ap has_failed over) next small b a c' t.1 t.2

  -- ---- it is made to fail

  pub context-failed : (cause : Cause) → may_fail world cause ≡ true → (b a : OutputsView) (c' : ContextView S)
      → (c.standing ≡ standings.Open → GivesLast (standings.Failed cause) (record c { failed_by_call = true }) b c' a)
      → (is_over c.standing ≡ true → (c' ≡ c) × (a ≡ b))
      → Stepped b c' a
  context-failed cause may b a c' closes over = by c.standing refl
    where
      same : (c' ≡ c) × (a ≡ b) → Stepped b c' a
      same t = subst (λ (y : ContextView S × OutputsView). Stepped b y.0 y.1) (λ i. (sym t.0 i, sym t.1 i))
          (h, makes-none world (context_writes (meaning c.stage).direction c) (context_came (meaning c.stage).direction c) b b refl refl)

      by : (s : Standing) → c.standing ≡ s → Stepped b c' a
      by standings.Open live = failing live cause may c.stage c.taken true h.few.taken refl (still-staged live cause) b a c' (closes live)
      by standings.Ended is = same (over (ap is_over is))
      by (standings.Failed other) is = same (over (ap is_over is))
