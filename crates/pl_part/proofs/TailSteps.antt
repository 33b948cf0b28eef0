-- A tail takes the next item of one of its lanes: how it stands then.
use Rattle.std.proofs.Common.{◌≡◌, ℕ, suc, ◌+◌, ◌<◌, ◌≤◌, ◌^◌, Bool, true, false, List, [], ◌∷◌, ◌++◌, length, take, Some, refl, ap, sym, ◌∙◌, subst, ⊎_elim, arith, length-append, append_assoc}
use Rattle.std.specs.Prelude.{◌%◌, ◌==◌}
use Rattle.std.specs.List.{slice_get}
use Rattle.std.proofs.lemmas.List.{take_all}
use Rattle.std.proofs.lemmas.Option.{slice_get_within}
use Rattle.std.proofs.lemmas.Bool.{cases_Bool, both_ways}
use Rattle.pl_event.specs.declared.events.Event.{Event}
use Rattle.pl_event.specs.declared.outcomes.Cause.{Cause}
use Rattle.pl_event.specs.declared.outcomes.Cause.TheVariants.{Memory}
use Rattle.pl_event.specs.declared.envelopes.Kind.{Kind}
use Rattle.pl_event.specs.declared.envelopes.Kind.TheVariants.{Data, Flags}
use Rattle.pl_event.specs.declared.envelopes.Item.{Item}
use Rattle.pl_event.specs.declared.envelopes.Item.TheVariants as item
use Rattle.pl_event.specs.declared.envelopes.Envelope.{Envelope}
use Rattle.pl_event.specs.Fitting.{Fits, FitsAsFlag}
use Rattle.pl_context.specs.declared.standing.Standing.{Standing}
use Rattle.pl_context.specs.declared.standing.Standing.TheVariants as standings
use Rattle.pl_context.specs.declared.standing.Took.{Took}
use Rattle.pl_context.specs.declared.standing.Took.TheVariants as took
use Rattle.pl_context.specs.Standings.{is_over, has_failed}
use Rattle.pl_context.specs.ContextViews.{number_limit}
use Rattle.pl_context.specs.TailViews.{TailView, new_tail, EntersTail, kind_taken, counted, RecordsItem, AddsFlag, LosesFlag, RecordsFlag, RecordsFlagItem}
use Rattle.pl_event.specs.Worlds.{World, MayCome, content_of, may_fail}
use Rattle.pl_flow.specs.Flows.{IsGood}
use Rattle.pl_event.specs.Hops.{data_lane}
use Rattle.pl_part.specs.TailHolds.{TailHoldsWith, Alternate}
use Rattle.pl_part.proofs.EventLists.{split-at, fits-within}
use Rattle.pl_part.proofs.ItemFits.{data-fits, data-may, flag-fits, within-limit}
use Rattle.pl_event.specs.declared.limits.TheConstants.{MAX_ITEMS}

pub alternate-more : (n : ℕ) (bs : List Bool) (b : Bool) → Alternate n bs → b ≡ ((n + length bs) % 2 == 1) → Alternate n (bs ++ b ∷ [])
alternate-more n [] b h e = let same : n + 0 ≡ n = omega arith in (e ∙ ap (λ k. k % 2 == 1) same, tt)
alternate-more n (x ∷ xs) b h e =
    let same : n + length (x ∷ xs) ≡ n + 1 + length xs = omega arith in
    (h.0, alternate-more (n + 1) xs b h.1 (e ∙ ap (λ k. k % 2 == 1) same))

next-take : (n : ℕ) (events : List Event) → take (n + 1) events ≡ take (suc n) events
next-take n events = let same : n + 1 ≡ suc n = omega arith in ap (λ k. take k events) same

module _ (world : World) (events : List Event) (t : TailView) (h : TailHoldsWith world events t) where
  abbrev Held : TailView → Type 0
  Held z = TailHoldsWith world events z

  -- ---- its data lane

  -- one item more is few
  taken-few : (i : Item) → Fits events t.taken i → t.taken + 1 ≤ MAX_ITEMS
  taken-few i fits = let within = fits-within events t.taken i fits in let few = h.few in omega (arith, within, few)

  recorded : t.standing ≡ standings.Open → (x : Event) → slice_get events t.taken ≡ Some x → (room : ℕ) → Held (record t { taken = t.taken + 1; events = t.events ++ x ∷ []; room = room })
  recorded live x fits room =
      let s = split-at events t.taken x fits in
      let within = slice_get_within events t.taken x fits in record {
        own = h.own;
        few = h.few;
        gone = h.gone;
        handed = h.handed;
        taken = λ o. (omega (arith, within), sym (append_assoc h.gone t.events (x ∷ [])) ∙ ap (λ zs. zs ++ x ∷ []) (h.taken live).1 ∙ sym s.2 ∙ sym (next-take t.taken events));
        ended = λ o. absurd (both_ways (is_over t.standing) (ap is_over live) (ap is_over o));
        failed = λ o. absurd (both_ways (has_failed t.standing) (ap has_failed live) o);
        may = h.may;
        flags = h.flags;
        flags_most = h.flags_most;
        flags_all = h.flags_all;
        few_taken = taken-few (item.Event x) fits;
        few_flags = h.few_flags;
      }

  failing : t.standing ≡ standings.Open → (cause : Cause) → may_fail world cause ≡ true → (room : ℕ) → Held (record t { taken = t.taken + 1; standing = standings.Failed cause; room = room })
  failing live cause may room = record {
    own = h.own;
    few = h.few;
    gone = h.gone;
    handed = h.handed;
    taken = λ o. absurd (both_ways false refl (sym (ap is_over o)));
    ended = λ o. absurd (both_ways false refl (sym (ap has_failed o)));
    failed = λ o. (t.taken, (h.taken live).0, (h.taken live).1);
    may = may;
    flags = h.flags;
    flags_most = h.flags_most;
    flags_all = λ f. absurd (both_ways true f refl);
    few_taken = let most = (h.taken live).0 in let few = h.few in omega (arith, most, few);
    few_flags = h.few_flags;
  }

  ending : t.standing ≡ standings.Open → t.taken ≡ length events → Held (record t { taken = t.taken + 1; standing = standings.Ended })
  ending live last = record {
    own = h.own;
    few = h.few;
    gone = h.gone;
    handed = h.handed;
    taken = λ o. absurd (both_ways false refl (sym (ap is_over o)));
    ended = λ o. (h.taken live).1 ∙ take_all t.taken events (omega (arith, last));
    failed = λ o. absurd (both_ways false refl o);
    may = tt;
    flags = h.flags;
    flags_most = h.flags_most;
    flags_all = λ f. h.flags_all (ap has_failed live);
    few_taken = taken-few item.End last;
    few_flags = h.few_flags;
  }

  -- With its record and its standing as they were it holds after these counts, and with these flags.
  kept-with : (taken flags_taken : ℕ) (flags : List Bool) (stopped : Bool) (room : ℕ) → (t.standing ≡ standings.Open → (taken ≤ length events) × (h.gone ++ t.events ≡ take taken events)) → taken ≤ MAX_ITEMS
      → Alternate 0 flags → length flags ≤ flags_taken → (has_failed t.standing ≡ false → stopped ≡ false → length flags ≡ flags_taken) → flags_taken ≤ 2 ^ 32
      → Held (record t { taken = taken; flags_taken = flags_taken; flags = flags; flags_stopped = stopped; flags_room = room })
  kept-with taken flags_taken flags stopped room within few_taken alternate most all few_flags = record {
    own = h.own;
    few = h.few;
    gone = h.gone;
    handed = h.handed;
    taken = λ o. within o;
    ended = λ o. h.ended o;
    failed = λ f. h.failed f;
    may = h.may;
    flags = alternate;
    flags_most = most;
    flags_all = λ f s. all f s;
    few_taken = few_taken;
    few_flags = few_flags;
  }

  counted-over : is_over t.standing ≡ true → t.taken + 1 ≤ MAX_ITEMS → Held (counted Data t)
  counted-over over small =
      kept-with (t.taken + 1) t.flags_taken t.flags t.flags_stopped t.flags_room (λ o. absurd (both_ways (is_over t.standing) (ap is_over o) over)) small h.flags h.flags_most h.flags_all h.few_flags

  taken-open : t.standing ≡ standings.Open → (i : Item) → Fits events t.taken i → MayCome world i → (answer : Took) (t' : TailView) → RecordsItem (counted Data t) i answer t' → Held t'
  taken-open live (item.Event x) fits may took.Ran t' r = subst (λ (z : TailView). Held z) (sym r.0) (recorded live x fits t'.room)
  taken-open live (item.Event x) fits may (took.Failed cause) t' r = subst (λ (z : TailView). Held z) (sym r.2) (failing live Memory refl t'.room)
  taken-open live (item.Event x) fits may took.Ended t' r = absurd r
  taken-open live (item.Event x) fits may took.Dropped t' r = absurd r
  taken-open live item.End fits may answer t' r = subst (λ (z : TailView). Held z) (sym r.1) (ending live fits)
  taken-open live (item.Fail cause) fits may answer t' r = subst (λ (z : TailView). Held z) (sym r.1) (failing live cause may t.room)
  taken-open live (item.Flag value) fits may answer t' r = absurd fits

  -- ---- its flags lane

  -- a flag more was taken, and added or not
  flag-counted : t.flags_taken < 2 ^ 32 → (flags : List Bool) (stopped : Bool) (room : ℕ) → Alternate 0 flags → length flags ≤ t.flags_taken + 1
      → (has_failed t.standing ≡ false → stopped ≡ false → length flags ≡ t.flags_taken + 1) → Held (record (counted Flags t) { flags = flags; flags_stopped = stopped; flags_room = room })
  flag-counted small flags stopped room alternate most all = kept-with t.taken (t.flags_taken + 1) flags stopped room h.taken h.few_taken alternate most all (omega (arith, small))

  flag-lost : (has_failed t.standing ≡ false → t.flags_stopped ≡ false → ⊥) → t.flags_taken < 2 ^ 32 → Held (counted Flags t)
  flag-lost none small = flag-counted small t.flags t.flags_stopped t.flags_room h.flags (let most = h.flags_most in omega (arith, most)) (λ f s. absurd (none f s))

  flag-stops : t.flags_taken < 2 ^ 32 → (room : ℕ) → Held (record (counted Flags t) { flags_stopped = true; flags_room = room })
  flag-stops small room = flag-counted small t.flags true room h.flags (let most = h.flags_most in omega (arith, most)) (λ f s. absurd (both_ways true s refl))

  flag-added : t.flags_taken < 2 ^ 32 → (value : Bool) → value ≡ (t.flags_taken % 2 == 1) → has_failed t.standing ≡ false → t.flags_stopped ≡ false → (room : ℕ) → Held (record (counted Flags t) { flags = t.flags ++ value ∷ []; flags_room = room })
  flag-added small value fits f goes room =
      let all = h.flags_all f goes in
      let size = length-append t.flags (value ∷ []) in
      let at : t.flags_taken ≡ 0 + length t.flags = omega (arith, all) in
      flag-counted small (t.flags ++ value ∷ []) t.flags_stopped room (alternate-more 0 t.flags value h.flags (fits ∙ ap (λ k. k % 2 == 1) at)) (omega (arith, all, size)) (λ f s. omega (arith, all, size))

  flag-recorded : t.flags_taken < 2 ^ 32 → (value : Bool) → value ≡ (t.flags_taken % 2 == 1) → has_failed t.standing ≡ false → (t' : TailView) → RecordsFlag (counted Flags t) value t' → Held t'
  flag-recorded small value fits f t' r = ⊎_elim
      (λ (s : t.flags_stopped ≡ true). subst (λ (z : TailView). Held z) (sym (r.stopped s)) (flag-lost (λ f n. both_ways t.flags_stopped n s) small))
      (λ (s : t.flags_stopped ≡ false). ⊎_elim
      (λ (e : AddsFlag (counted Flags t) value t'). subst (λ (z : TailView). Held z) (sym e.same) (flag-added small value fits f s t'.flags_room))
      (λ (e : LosesFlag (counted Flags t) t'). subst (λ (z : TailView). Held z) (sym e.same) (flag-stops small t'.flags_room))
      (r.goes_on s))
      (cases_Bool t.flags_stopped)

  flags-taken : t.flags_taken < 2 ^ 32 → (i : Item) → FitsAsFlag t.flags_taken i → has_failed t.standing ≡ false → (t' : TailView) → RecordsFlagItem (counted Flags t) i t' → Held t'
  flags-taken small (item.Flag value) fits f t' r = flag-recorded small value fits f t' r
  flags-taken small (item.Event x) fits f t' r = absurd fits
  flags-taken small item.End fits f t' r = absurd fits
  flags-taken small (item.Fail cause) fits f t' r = absurd fits

  dropped : (k : Kind) → has_failed t.standing ≡ true → (k ≡ Data → t.taken + 1 ≤ MAX_ITEMS) → (k ≡ Flags → t.flags_taken < 2 ^ 32) → Held (counted k t)
  dropped Data f items flags = counted-over (failed-over t.standing f) (items refl)
    where
      failed-over : (s : Standing) → has_failed s ≡ true → is_over s ≡ true
      failed-over standings.Open e = e
      failed-over standings.Ended e = refl
      failed-over (standings.Failed cause) e = refl
  dropped Flags f items flags = flag-lost (λ n s. both_ways (has_failed t.standing) n f) (flags refl)

  -- ---- any item of its lanes

  module _ (e : Envelope) (enters : EntersTail t e.lane) (number : e.number ≡ kind_taken t e.lane.kind) (good : IsGood world e) where
    here : (k : Kind) → e.lane.kind ≡ k → e.number ≡ kind_taken t k
    here k is = number ∙ ap (λ k. kind_taken t k) is

    next-fits : e.lane.kind ≡ Data → Fits events t.taken e.item
    next-fits is = data-fits world e good t.channel t.hop enters.channel enters.hop events h.own t.taken is (here Data is)

    pub tail-limit : e.number < number_limit e.lane.kind
    tail-limit = within-limit world e good t.channel t.hop enters.channel enters.hop events h.own t.taken h.few (here Data)

    pub tail-taken : (t' : TailView) (answer : Took)
        → (e.lane.kind ≡ Data → t.standing ≡ standings.Open → RecordsItem (counted Data t) e.item answer t')
        → (e.lane.kind ≡ Data → t.standing ≡ standings.Ended → (answer ≡ took.Ran) × (t' ≡ counted Data t))
        → (e.lane.kind ≡ Flags → has_failed t.standing ≡ false → (answer ≡ took.Ran) × RecordsFlagItem (counted Flags t) e.item t')
        → (has_failed t.standing ≡ true → (answer ≡ took.Dropped) × (t' ≡ counted e.lane.kind t))
        → Held t'
    tail-taken t' answer item ended flag drops = by e.lane.kind refl t.standing refl
      where
        small : e.lane.kind ≡ Flags → t.flags_taken < 2 ^ 32
        small is = subst (λ n. n < 2 ^ 32) (here Flags is) good.small

        next : e.lane.kind ≡ Data → t.taken + 1 ≤ MAX_ITEMS
        next is = taken-few e.item (next-fits is)

        by : (k : Kind) → e.lane.kind ≡ k → (s : Standing) → t.standing ≡ s → Held t'
        by Data is standings.Open live = taken-open live e.item (next-fits is) (data-may world e good is) answer t' (item is live)
        by Data is standings.Ended over = subst (λ (z : TailView). Held z) (sym (ended is over).1) (counted-over (ap is_over over) (next is))
        by k is (standings.Failed cause) over = subst (λ (z : TailView). Held z) (sym (drops (ap has_failed over)).1) (dropped e.lane.kind (ap has_failed over) next small)
        by Flags is standings.Open live = flags-taken (small is) e.item (flag-fits world e good is t.flags_taken (here Flags is)) (ap has_failed live) t' (flag is (ap has_failed live)).1
        by Flags is standings.Ended live = flags-taken (small is) e.item (flag-fits world e good is t.flags_taken (here Flags is)) (ap has_failed live) t' (flag is (ap has_failed live)).1

-- ---- one that has taken nothing

pub new-holds : (world : World) (channel k : ℕ) (events : List Event) → content_of world (data_lane channel k) ≡ Some events → length events + 1 < MAX_ITEMS → TailHoldsWith world events (new_tail channel k)
new-holds world channel k events own few = record {
  own = own;
  few = few;
  gone = [];
  handed = refl;
  taken = λ o. (omega arith, refl);
  ended = λ o. absurd (both_ways false refl (sym (ap is_over (sym o))));
  failed = λ o. absurd (both_ways false refl o);
  may = tt;
  flags = tt;
  flags_most = omega arith;
  flags_all = λ f s. refl;
  few_taken = omega arith;
  few_flags = omega arith;
}
