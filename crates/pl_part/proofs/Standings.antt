-- What the standing of several nodes together says of each.
use Rattle.std.proofs.Common.{◌≡◌, ℕ, zero, suc, true, false, List, [], ◌∷◌, get_or, Option, Some, None, refl, sym, ap, subst, ◌∙◌}
use Rattle.std.specs.Option.{option_map_or}
use Rattle.std.proofs.lemmas.Bool.{both_ways}
use Rattle.std.proofs.lemmas.Option.{none-some, same_Some}
use Rattle.pl_event.specs.declared.outcomes.Cause.{Cause}
use Rattle.pl_context.specs.declared.standing.Standing.{Standing}
use Rattle.pl_context.specs.declared.standing.Standing.TheVariants as standings
use Rattle.pl_context.specs.Standings.{has_failed, cause_of, together}
use Rattle.pl_context.specs.ContextViews.{ContextView}
use Rattle.pl_context.specs.TailViews.{TailView}
use Rattle.pl_head.specs.HeadStand.{HeadView, first_cause}
use Rattle.pl_part.specs.Paths.{context_at, path_standing, slots_stand}
use Rattle.pl_part.specs.Parts.{ChannelPartView, head_standing, part_standing}

-- all that holds of two nodes together: open where both are, and not failed where neither is
both-open : (a b : Standing) → together a b ≡ standings.Open → (a ≡ standings.Open) × (b ≡ standings.Open)
both-open standings.Open b e = (refl, e)
both-open standings.Ended standings.Open e = cc
both-open standings.Ended standings.Ended e = cc
both-open standings.Ended (standings.Failed cause) e = cc
both-open (standings.Failed cause) b e = cc

both-sound : (a b : Standing) → has_failed (together a b) ≡ false → (has_failed a ≡ false) × (has_failed b ≡ false)
both-sound standings.Open b e = (refl, e)
both-sound standings.Ended standings.Open e = (refl, refl)
both-sound standings.Ended standings.Ended e = (refl, refl)
both-sound standings.Ended (standings.Failed cause) e = absurd (both_ways true e refl)
both-sound (standings.Failed cause) b e = absurd (both_ways true e refl)

-- what holds of two nodes where it holds of both together holds of each of several
module _ {S : Type 0} (Holds : Standing → Type 0) (both : (a b : Standing) → Holds (together a b) → Holds a × Holds b) where
  slots-each : (standing : Standing) (slots : List (Option (ContextView S))) → Holds (slots_stand standing slots) → Holds standing × ((hop : ℕ) (c : ContextView S) → get_or slots hop None ≡ Some c → Holds c.standing)
  slots-each standing [] h = (h, λ hop c there. absurd (none-some c there))
  slots-each standing (None ∷ slots) h =
      let rest = slots-each standing slots h in (rest.0, λ hop c there. behind hop c there rest.1)
    where
      behind : (hop : ℕ) (c : ContextView S) → get_or (None ∷ slots) hop None ≡ Some c → ((at : ℕ) (d : ContextView S) → get_or slots at None ≡ Some d → Holds d.standing) → Holds c.standing
      behind zero c there rest = absurd (none-some c there)
      behind (suc hop) c there rest = rest hop c there
  slots-each standing (Some x ∷ slots) h =
      let rest = slots-each (together standing x.standing) slots h in
      let two = both standing x.standing rest.0 in (two.0, λ hop c there. behind hop c there two.1 rest.1)
    where
      behind : (hop : ℕ) (c : ContextView S) → get_or (Some x ∷ slots) hop None ≡ Some c → Holds x.standing → ((at : ℕ) (d : ContextView S) → get_or slots at None ≡ Some d → Holds d.standing) → Holds c.standing
      behind zero c there own rest = subst (λ (y : ContextView S). Holds y.standing) (same_Some x c there) own
      behind (suc hop) c there own rest = rest hop c there

module _ {S T : Type 0} (Holds : Standing → Type 0) (both : (a b : Standing) → Holds (together a b) → Holds a × Holds b) (p : ChannelPartView S T) (h : Holds (part_standing p)) where
  abbrev two : Holds (option_map_or (λ (x : HeadView T). head_standing x) p.head standings.Open) × Holds (path_standing p.path)
  two = both (option_map_or (λ (x : HeadView T). head_standing x) p.head standings.Open) (path_standing p.path) h

  abbrev others : Holds (option_map_or (λ (t : TailView). t.standing) p.path.tail standings.Open) × ((hop : ℕ) (c : ContextView S) → context_at p.path hop ≡ Some c → Holds c.standing)
  others = slots-each Holds both (option_map_or (λ (t : TailView). t.standing) p.path.tail standings.Open) p.path.contexts two.1

  pub each-context : (hop : ℕ) (c : ContextView S) → context_at p.path hop ≡ Some c → Holds c.standing
  each-context = others.1

  pub the-tail : (t : TailView) → p.path.tail ≡ Some t → Holds t.standing
  the-tail t there = subst (λ (o : Option TailView). Holds (option_map_or (λ (x : TailView). x.standing) o standings.Open)) there others.0

  pub the-head : (x : HeadView T) → p.head ≡ Some x → Holds (head_standing x)
  the-head x there = subst (λ (o : Option (HeadView T)). Holds (option_map_or (λ (y : HeadView T). head_standing y) o standings.Open)) there two.0

-- a head that has not failed by itself, and whose lane has not, stands as its lane
as-lane : (failure : Option Cause) (standing : Standing) → has_failed (option_map_or (λ (cause : Cause). standings.Failed cause) (first_cause failure (cause_of standing)) standing) ≡ false
    → (failure ≡ None) × (option_map_or (λ (cause : Cause). standings.Failed cause) (first_cause failure (cause_of standing)) standing ≡ standing)
as-lane None standings.Open e = (refl, refl)
as-lane None standings.Ended e = (refl, refl)
as-lane None (standings.Failed cause) e = absurd (both_ways true e refl)
as-lane (Some cause) standing e = absurd (both_ways true e refl)

pub head-sound : {T : Type 0} (h : HeadView T) → has_failed (head_standing h) ≡ false → (h.failure ≡ None) × (head_standing h ≡ h.standing)
head-sound h e = as-lane h.failure h.standing e

module _ {S T : Type 0} (p : ChannelPartView S T) where
  -- a part that is open is open at each node
  pub open-context : part_standing p ≡ standings.Open → (hop : ℕ) (c : ContextView S) → context_at p.path hop ≡ Some c → c.standing ≡ standings.Open
  open-context = each-context (λ s. s ≡ standings.Open) both-open p

  pub open-tail : part_standing p ≡ standings.Open → (t : TailView) → p.path.tail ≡ Some t → t.standing ≡ standings.Open
  open-tail = the-tail (λ s. s ≡ standings.Open) both-open p

  pub open-head : part_standing p ≡ standings.Open → (h : HeadView T) → p.head ≡ Some h → (h.failure ≡ None) × (h.standing ≡ standings.Open)
  open-head is h there =
      let own = the-head (λ s. s ≡ standings.Open) both-open p is h there in
      let sound = head-sound h (ap has_failed own) in (sound.0, sym sound.1 ∙ own)

  -- one of which no node has failed
  pub sound-context : has_failed (part_standing p) ≡ false → (hop : ℕ) (c : ContextView S) → context_at p.path hop ≡ Some c → has_failed c.standing ≡ false
  sound-context = each-context (λ s. has_failed s ≡ false) both-sound p

  pub sound-tail : has_failed (part_standing p) ≡ false → (t : TailView) → p.path.tail ≡ Some t → has_failed t.standing ≡ false
  sound-tail = the-tail (λ s. has_failed s ≡ false) both-sound p

  pub sound-head : has_failed (part_standing p) ≡ false → (h : HeadView T) → p.head ≡ Some h → (h.failure ≡ None) × (has_failed h.standing ≡ false)
  sound-head is h there =
      let own = the-head (λ s. has_failed s ≡ false) both-sound p is h there in
      let sound = head-sound h own in (sound.0, sym (ap has_failed sound.1) ∙ own)
