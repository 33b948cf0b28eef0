-- What a part takes refuses nothing: no context of it fails by a call.
use Rattle.std.proofs.Common.{◌≡◌, ℕ, Bool, true, false, List, refl, ap, sym, ◌∙◌, ⊎_elim, arith}
use Rattle.std.specs.Prelude.{◌==◌, is_some}
use Rattle.std.proofs.lemmas.Bool.{cases_Bool, eqb-true}
use Rattle.std.proofs.lemmas.Option.{same_Some}
use Rattle.pl_event.specs.declared.events.Event.{Event}
use Rattle.pl_event.specs.declared.envelopes.Envelope.{Envelope}
use Rattle.pl_event.specs.declared.envelopes.Item.{Item}
use Rattle.pl_event.specs.declared.envelopes.Item.TheVariants as item
use Rattle.pl_event.specs.declared.envelopes.Kind.{Kind}
use Rattle.pl_event.specs.declared.envelopes.Kind.TheVariants.{Data, Flags}
use Rattle.pl_event.specs.declared.stages.Direction.{Direction}
use Rattle.pl_event.specs.declared.stages.Direction.TheVariants.{Inbound, Outbound, Turn}
use Rattle.pl_event.specs.Meaning.{Meaning}
use Rattle.pl_event.specs.Worlds.{World}
use Rattle.pl_event.proofs.Lists.{some-of}
use Rattle.pl_context.specs.declared.standing.Standing.{Standing}
use Rattle.pl_context.specs.declared.standing.Standing.TheVariants as standings
use Rattle.pl_context.specs.declared.standing.Took.{Took}
use Rattle.pl_context.specs.declared.standing.Took.TheVariants as took
use Rattle.pl_context.specs.Standings.{has_failed}
use Rattle.pl_context.specs.ContextViews.{ContextView, IsHop}
use Rattle.pl_context.specs.Contexts.{TakesItem, TakesFlag, counted}
use Rattle.pl_context.specs.OutputsViews.{OutputsView}
use Rattle.pl_head.specs.Transports.{TransportState}
use Rattle.pl_part.specs.Paths.{PathTakes, context_at}
use Rattle.pl_part.specs.Parts.{ChannelPartView, PartHolds, PartTakes, SamePart, head_hop}
use Rattle.pl_part.specs.Taking.{ContextTakes}
use Rattle.pl_exec.specs.ExecutorNodes.{NoneRefused}
use Rattle.pl_exec.proofs.ExecutorNodeLemmas.{same-slot}

-- ---- a context

module _ {S : Type 0} (meaning : S → Meaning) (stands_after : S → List Event → Type 0) (is_spent : S → Bool) (b a : OutputsView) (c' : ContextView S) where
  by-item : (c : ContextView S) (i : Item) (answer : Took) → TakesItem meaning stands_after is_spent c i b answer c' a → c'.failed_by_call ≡ c.failed_by_call
  by-item c (item.Event x) took.Ran t = ap (λ (z : ContextView S). z.failed_by_call) t.same
  by-item c (item.Event x) (took.Failed cause) t = ap (λ (z : ContextView S). z.failed_by_call) t.1.closes.context
  by-item c (item.Event x) took.Ended t = absurd t
  by-item c (item.Event x) took.Dropped t = absurd t
  by-item c item.End answer t = ap (λ (z : ContextView S). z.failed_by_call) t.1.context
  by-item c (item.Fail cause) answer t = ap (λ (z : ContextView S). z.failed_by_call) t.1.context
  by-item c (item.Flag value) answer t = ap (λ (z : ContextView S). z.failed_by_call) t.1

  by-flag : (c : ContextView S) (i : Item) (answer : Took) → TakesFlag c i b answer c' a → c'.failed_by_call ≡ c.failed_by_call
  by-flag c (item.Flag value) answer t = ap (λ (z : ContextView S). z.failed_by_call) t.1
  by-flag c (item.Event x) answer t = ap (λ (z : ContextView S). z.failed_by_call) t.1
  by-flag c item.End answer t = ap (λ (z : ContextView S). z.failed_by_call) t.1
  by-flag c (item.Fail cause) answer t = ap (λ (z : ContextView S). z.failed_by_call) t.1

  counted-call : (k : Kind) (c : ContextView S) → (counted k c).failed_by_call ≡ c.failed_by_call
  counted-call Data c = refl
  counted-call Flags c = refl

  same-call : (c : ContextView S) (e : Envelope) (answer : Took) → ContextTakes meaning stands_after is_spent c e b answer c' a → c'.failed_by_call ≡ c.failed_by_call
  same-call c e answer t = by e.lane.kind refl c.standing refl
    where
      by : (k : Kind) → e.lane.kind ≡ k → (s : Standing) → c.standing ≡ s → c'.failed_by_call ≡ c.failed_by_call
      by Data kind standings.Open at = by-item (counted Data c) e.item answer (t.open_item kind at)
      by Data kind standings.Ended at = ap (λ (z : ContextView S). z.failed_by_call) (t.ended kind at).1
      by Data kind (standings.Failed cause) at = ap (λ (z : ContextView S). z.failed_by_call) (t.dropped (ap has_failed at)).1 ∙ counted-call e.lane.kind c
      by Flags kind standings.Open at = by-flag (counted Flags c) e.item answer (t.flags kind (ap has_failed at))
      by Flags kind standings.Ended at = by-flag (counted Flags c) e.item answer (t.flags kind (ap has_failed at))
      by Flags kind (standings.Failed cause) at = ap (λ (z : ContextView S). z.failed_by_call) (t.dropped (ap has_failed at)).1 ∙ counted-call e.lane.kind c

-- ---- a part

not-at-tail : (d : Direction) (hop k : ℕ) → IsHop d hop k → hop ≡ k → ⊥
not-at-tail Inbound hop k is e = let i = is.0 in omega (arith, i, e)
not-at-tail Turn hop k is e = let i = is.0 in omega (arith, i, e)
not-at-tail Outbound hop k is e = let i = is.0 in omega (arith, i, e)

module _ {S T : Type 0} (world : World) (meaning : S → Meaning) (stands_after : S → List Event → Type 0) (is_spent : S → Bool) (state : T → TransportState) (p p' : ChannelPartView S T)
    (e : Envelope) (b : OutputsView) (answer : Took) (a : OutputsView) (same : SamePart p p') (holds : PartHolds world meaning stands_after state p') (t : PartTakes meaning stands_after is_spent state p e b answer p' a) where
  -- where the head took it, there is one
  pub take-refuses-none : ((e.lane.hop == head_hop p) ≡ true → is_some p.head ≡ true) → NoneRefused p → NoneRefused p'
  take-refuses-none there none hop c' at = ⊎_elim
      (λ (h : (e.lane.hop == head_hop p) ≡ true).
      let one = some-of p.head (there h) in
      let path = (t.head one.0 h one.1).3 in
      none hop c' (sym (ap (λ q. context_at q hop) path) ∙ at))
      (λ (f : (e.lane.hop == head_hop p) ≡ false). on-path (t.path f).0)
      (cases_Bool (e.lane.hop == head_hop p))
    where
      on-path : PathTakes meaning stands_after is_spent p.path e b answer p'.path a → c'.failed_by_call ≡ false
      on-path takes = ⊎_elim
          (λ (here : (hop == e.lane.hop) ≡ true).
          let is = eqb-true hop e.lane.hop here in
          ⊎_elim
          (λ (tail : (e.lane.hop == p.path.tail_hop) ≡ true).
          let fits = (holds.path.contexts hop c' at).1.fits in
          let last = eqb-true e.lane.hop p.path.tail_hop tail in
          let moved = same.path.tail_hop in
          absurd (not-at-tail (meaning c'.stage).direction hop p'.path.tail_hop fits (omega (arith, is, last, moved))))
          (λ (other : (e.lane.hop == p.path.tail_hop) ≡ false).
          let was = some-of (context_at p.path e.lane.hop) (sym (same-slot p'.path.contexts p.path.contexts e.lane.hop same.path.contexts) ∙ ap (λ (h : ℕ). is_some (context_at p'.path h)) (sym is) ∙ ap is_some at) in
          let took = takes.context was.0 other was.1 in
          let own = same_Some c' took.0 (sym at ∙ ap (λ (h : ℕ). context_at p'.path h) is ∙ took.1) in
          ap (λ (z : ContextView S). z.failed_by_call) own ∙ same-call meaning stands_after is_spent b a took.0 was.0 e answer took.2 ∙ none e.lane.hop was.0 was.1)
          (cases_Bool (e.lane.hop == p.path.tail_hop)))
          (λ (there-not : (hop == e.lane.hop) ≡ false). none hop c' (sym (takes.others hop there-not) ∙ at))
          (cases_Bool (hop == e.lane.hop))
