-- What a head took of its lane, when it has taken no more events.
use Rattle.std.proofs.Common.{◌≡◌, ℕ, ◌≤◌, Bool, false, [], List, length, take, refl, sym, ap, ◌∙◌, arith}
use Rattle.std.proofs.lemmas.Bool.{both_ways}
use Rattle.pl_event.specs.declared.events.Event.{Event}
use Rattle.pl_context.specs.declared.standing.Standing.TheVariants as standings
use Rattle.pl_context.specs.Standings.{is_over}
use Rattle.pl_head.specs.Marks.{Change}
use Rattle.pl_head.specs.Transports.{TransportState}
use Rattle.pl_head.specs.HeadStand.{HeadView, HeadStandsAfter, gone_of, lane_over}
use Rattle.pl_part.specs.HeadHolds.{HeadTook}

module _ {T : Type 0} (state : T → TransportState) (events : List Event) where
  module _ (h h' : HeadView T) (t : HeadTook state events h) (sizes : List Change) (after : HeadStandsAfter state h' t.ys t.zs sizes) (standing : h'.standing ≡ h.standing)
      (kept : gone_of h' ≡ gone_of h) where
    -- The same, of a lane that carries other events, of which those that it took are the first.
    pub took-from : (events' : List Event) → t.count ≤ length events' → take t.count events ≡ take t.count events' → t.count ≤ h'.taken → (lane_over h' ≡ false → h'.taken ≡ t.count)
        → (h.standing ≡ standings.Ended → t.count ≡ length events') → HeadTook state events' h'
    took-from events' within same most running ended = record {
      gone = t.gone;
      bytes = ap (λ (x : ℕ × Bool). x.0) kept ∙ t.bytes;
      flushed = t.flushed;
      never = λ none. t.never (ap (λ (x : ℕ × Bool). x.1) (sym kept) ∙ none);
      ys = t.ys;
      zs = t.zs;
      sizes = sizes;
      after = after;
      count = t.count;
      in_order = t.in_order ∙ same;
      within = within;
      most = most;
      running = running;
      ended = λ o. ended (sym standing ∙ o);
      none_late = λ o. t.none_late (ap is_over (sym standing) ∙ o);
    }

    pub took-again : t.count ≤ h'.taken → (lane_over h' ≡ false → h'.taken ≡ t.count) → HeadTook state events h'
    took-again most running = took-from events t.within refl most running t.ended

    -- nor any item
    pub took-same : h'.taken ≡ h.taken → lane_over h' ≡ lane_over h → HeadTook state events h'
    took-same taken over = took-again (let most = t.most in omega (arith, most, taken)) (λ o. taken ∙ t.running (sym over ∙ o))

  -- It has taken none yet.
  pub took-none : (h : HeadView T) → HeadStandsAfter state h [] [] [] → h.taken ≡ 0 → h.standing ≡ standings.Open → h.gone ≡ 0 → HeadTook state events h
  took-none h after none live gone = record {
    gone = [];
    bytes = gone;
    flushed = refl;
    never = λ o. refl;
    ys = [];
    zs = [];
    sizes = [];
    after = after;
    count = 0;
    within = omega arith;
    in_order = refl;
    most = omega arith;
    running = λ o. none;
    ended = λ o. absurd (both_ways false refl (ap is_over (sym live ∙ o)));
    none_late = λ o. refl;
  }
