-- A list in which one executor has changed.
use Rattle.std.proofs.Common.{◌≡◌, ◌≢◌, ℕ, Bool, true, false, ◌==◌, ◌&&◌, List, [], ◌∷◌, ◌++◌, length, map, set, slice_get, Option, Some, None, refl, ap, sym, ◌∙◌, ⊎_elim}
use Rattle.std.specs.List.{All}
use Rattle.std.specs.Option.{option_map_or}
use Rattle.std.proofs.lemmas.Bool.{cases_eq}
use Rattle.std.proofs.lemmas.List.{length-set, map-append}
use Rattle.std.proofs.lemmas.List.Elements.{All-nil, All-cons}
use Rattle.std.proofs.lemmas.Option.{slice_get_within}
use Rattle.pl_event.specs.declared.envelopes.Envelope.{Envelope}
use Rattle.pl_event.specs.declared.envelopes.Kind.{Kind}
use Rattle.pl_event.specs.declared.envelopes.Kind.TheVariants.{Data, Flags}
use Rattle.pl_event.specs.declared.envelopes.Lane.{Lane}
use Rattle.pl_context.specs.declared.added.Added.{Added}
use Rattle.pl_context.specs.declared.added.Added.TheVariants as added
use Rattle.pl_context.specs.OutputsViews.{added_items, stand_in}
use Rattle.pl_context.specs.Stops.{no_stops}
use Rattle.pl_context.specs.WaitingViews.{Entry, stops_for}
use Rattle.pl_context.proofs.WaitingCalls.{at-set_here, at-set_there}
use Rattle.pl_flow.proofs.ItemLemmas.{stand_in-data, stand_in-flags}
use Rattle.pl_net.specs.Nets.{StationView, queue_at, stops_at, envelopes}

pub record Replaces (es es' : List StationView) (x : ℕ) (e e' : StationView) : Type 0 where
  pub was : slice_get es x ≡ Some e
  pub is : slice_get es' x ≡ Some e'
  pub others : (y : ℕ) → y ≢ x → slice_get es' y ≡ slice_get es y
  pub count : length es' ≡ length es

pub replaces-set : (es : List StationView) (x : ℕ) (e e' : StationView) → slice_get es x ≡ Some e → Replaces es (set es x e') x e e'
replaces-set es x e e' at = record {
  was = at;
  is = at-set_here es x e' (slice_get_within es x e at);
  others = λ y other. at-set_there es x y e' other;
  count = length-set es x e';
}

module _ (es es' : List StationView) (x : ℕ) (e e' : StationView) (r : Replaces es es' x e e') where
  -- a function of one executor, or of none, that has not changed
  pub on-executor : {A : Type 0} (f : StationView → A) (d : A) → f e' ≡ f e → (y : ℕ) → option_map_or f (slice_get es' y) d ≡ option_map_or f (slice_get es y) d
  on-executor f d same y = ⊎_elim
      (λ (s : y ≡ x).
      ap (λ k. option_map_or f (slice_get es' k) d) s ∙ ap (λ o. option_map_or f o d) r.is ∙ same
      ∙ sym (ap (λ k. option_map_or f (slice_get es k) d) s ∙ ap (λ o. option_map_or f o d) r.was))
      (λ (s : y ≡ x → ⊥). ap (λ o. option_map_or f o d) (r.others y s))
      (cases_eq y x)

  pub queue-here : queue_at es' x ≡ e'.queue
  queue-here = ap (λ o. option_map_or (λ (z : StationView). z.queue) o []) r.is

  pub queue-was : queue_at es x ≡ e.queue
  queue-was = ap (λ o. option_map_or (λ (z : StationView). z.queue) o []) r.was

  pub queue-there : (y : ℕ) → y ≢ x → queue_at es' y ≡ queue_at es y
  queue-there y other = ap (λ o. option_map_or (λ (z : StationView). z.queue) o []) (r.others y other)

  pub stops-here : (z : ℕ) → stops_at es' x z ≡ stops_for e'.waiting z
  stops-here z = ap (λ o. option_map_or (λ (w : StationView). stops_for w.waiting z) o (no_stops 0)) r.is

  pub stops-was : (z : ℕ) → stops_at es x z ≡ stops_for e.waiting z
  stops-was z = ap (λ o. option_map_or (λ (w : StationView). stops_for w.waiting z) o (no_stops 0)) r.was

  pub stops-there : (y z : ℕ) → y ≢ x → stops_at es' y z ≡ stops_at es y z
  stops-there y z other = ap (λ o. option_map_or (λ (w : StationView). stops_for w.waiting z) o (no_stops 0)) (r.others y other)

-- ---- entries of a backlog

abbrev pub entry_for : ℕ → Envelope → Entry (Unit {0})
entry_for target x = record { target = target; envelope = x; token = tt }

envelopes-back : (target : ℕ) (xs : List Envelope) → envelopes (map (entry_for target) xs) ≡ xs
envelopes-back target [] = refl
envelopes-back target (x ∷ xs) = ap (λ zs. x ∷ zs) (envelopes-back target xs)

pub envelopes-more : (entries : List (Entry (Unit {0}))) (target : ℕ) (xs : List Envelope) → envelopes (entries ++ map (entry_for target) xs) ≡ envelopes entries ++ xs
envelopes-more entries target xs = map-append (λ (e : Entry (Unit {0})). e.envelope) entries (map (entry_for target) xs) ∙ ap (λ zs. envelopes entries ++ zs) (envelopes-back target xs)

-- what is added is of the envelope's lane
pub entries-on : (P : Lane → ℕ → Type 0) (answer : Added) (x : Envelope) (target : ℕ) → P x.lane target → All (λ (e : Entry (Unit {0})). P e.envelope.lane e.target) (map (entry_for target) (added_items answer x))
entries-on P added.Last x target p = All-cons (λ (e : Entry (Unit {0})). P e.envelope.lane e.target) (entry_for target x) [] p (All-nil (λ (e : Entry (Unit {0})). P e.envelope.lane e.target))
entries-on P added.Discarded x target p = All-nil (λ (e : Entry (Unit {0})). P e.envelope.lane e.target)
entries-on P added.Refused x target p = by x.lane.kind refl
  where
    by : (k : Kind) → x.lane.kind ≡ k → All (λ (e : Entry (Unit {0})). P e.envelope.lane e.target) (map (entry_for target) (stand_in x))
    by Data k = subst-in (stand_in-data x k)
        (All-cons (λ (e : Entry (Unit {0})). P e.envelope.lane e.target) (entry_for target _) [] p (All-nil (λ (e : Entry (Unit {0})). P e.envelope.lane e.target)))
      where
        subst-in : {xs ys : List Envelope} → xs ≡ ys → All (λ (e : Entry (Unit {0})). P e.envelope.lane e.target) (map (entry_for target) ys) → All (λ (e : Entry (Unit {0})). P e.envelope.lane e.target) (map (entry_for target) xs)
        subst-in {xs} {ys} same all = Rattle.std.proofs.Common.subst (λ (zs : List Envelope). All (λ (e : Entry (Unit {0})). P e.envelope.lane e.target) (map (entry_for target) zs)) (sym same) all
    by Flags k = Rattle.std.proofs.Common.subst (λ (zs : List Envelope). All (λ (e : Entry (Unit {0})). P e.envelope.lane e.target) (map (entry_for target) zs)) (sym (stand_in-flags x k)) (All-nil (λ (e : Entry (Unit {0})). P e.envelope.lane e.target))
