-- A part whose nodes are new: nothing was taken, and each lane is at its start.
use Rattle.std.proofs.Common.{◌≡◌, ℕ, List, Bool, true, false, cond, ◌==◌, Option, Some, None, refl, sym, subst}
use Rattle.std.specs.Option.{option_map_or}
use Rattle.pl_event.specs.declared.events.Event.{Event}
use Rattle.pl_event.specs.declared.envelopes.Kind.{Kind}
use Rattle.pl_event.specs.declared.envelopes.Kind.TheVariants.{Data, Flags}
use Rattle.pl_event.specs.declared.envelopes.Lane.{Lane}
use Rattle.pl_event.specs.Hops.{same_hop}
use Rattle.pl_event.specs.Meaning.{Meaning}
use Rattle.pl_event.specs.Worlds.{World}
use Rattle.pl_context.specs.ContextViews.{ContextView, kind_taken, taken_of}
use Rattle.pl_context.specs.TailViews.{TailView, new_tail, taken_of as tail_taken_of, kind_taken as tail_taken}
use Rattle.pl_flow.specs.Flows.{point, nowhere}
use Rattle.pl_head.specs.HeadStand.{HeadView}
use Rattle.pl_part.specs.ContextHolds.{context_writes, context_came}
use Rattle.pl_part.specs.HeadHolds.{head_writes, head_came, head_taken}
use Rattle.pl_part.specs.NewParts.{AreNewSlots}
use Rattle.pl_part.specs.Parts.{ChannelPartView, head_hop}
use Rattle.pl_part.specs.Paths.{context_at, writer_hop, path_taken, path_writes, path_came}
use Rattle.pl_channel.specs.WholeParts.{IsAtStart}

tail-taken : (number k : ℕ) (l : Lane) → tail_taken_of (new_tail number k) l ≡ 0
tail-taken number k l = by (same_hop l (record { channel = number; kind = l.kind; hop = k }))
  where
    none : (kind : Kind) → tail_taken (new_tail number k) kind ≡ 0
    none Data = refl
    none Flags = refl

    by : (b : Bool) → cond b (tail_taken (new_tail number k) l.kind) 0 ≡ 0
    by true = none l.kind
    by false = refl

module _ {S T : Type 0} (meaning : S → Meaning) (stands_after : S → List Event → Type 0) (world : World) (number k turn : ℕ) (part : ChannelPartView S T)
    (are : AreNewSlots world meaning number k turn stands_after part.path.contexts) (tail : part.path.tail ≡ Some (new_tail number k))
    (h : HeadView T) (head : part.head ≡ Some h) (head_came_new : (l : Lane) → head_writes h l ≡ true → head_came h l ≡ point 0 false) (head_taken_none : (l : Lane) → head_taken h l ≡ 0) where
  path-came : (l : Lane) → path_writes meaning part.path l ≡ true → path_came meaning part.path l ≡ point 0 false
  path-came l writes = by (context_at part.path (writer_hop part.path l.hop)) refl writes
    where
      by : (o : Option (ContextView S)) → context_at part.path (writer_hop part.path l.hop) ≡ o → option_map_or (λ (c : ContextView S). context_writes (meaning c.stage).direction c l) o false ≡ true
          → option_map_or (λ (c : ContextView S). context_came (meaning c.stage).direction c l) o nowhere ≡ point 0 false
      by None is w = cc
      by (Some c) is w = (are (writer_hop part.path l.hop) c is).starts l w

  path-taken : (l : Lane) → path_taken part.path l ≡ 0
  path-taken l = by (l.hop == part.path.tail_hop)
    where
      at-tail : option_map_or (λ (t : TailView). tail_taken_of t l) part.path.tail 0 ≡ 0
      at-tail = subst (λ (o : Option TailView). option_map_or (λ (t : TailView). tail_taken_of t l) o 0 ≡ 0) (sym tail) (tail-taken number k l)

      at-context : (o : Option (ContextView S)) → context_at part.path l.hop ≡ o → option_map_or (λ (c : ContextView S). taken_of c l) o 0 ≡ 0
      at-context None is = refl
      at-context (Some c) is = there (same_hop l (record { channel = c.channel; kind = l.kind; hop = c.hop }))
        where
          there : (b : Bool) → cond b (kind_taken c l.kind) 0 ≡ 0
          there true = (are l.hop c is).none_taken l.kind
          there false = refl

      by : (b : Bool) → cond b (option_map_or (λ (t : TailView). tail_taken_of t l) part.path.tail 0) (option_map_or (λ (c : ContextView S). taken_of c l) (context_at part.path l.hop) 0) ≡ 0
      by true = at-tail
      by false = at-context (context_at part.path l.hop) refl

  pub new-unmoved : IsAtStart meaning part
  new-unmoved = record {
    taken = λ l. taken-by l (l.hop == head_hop part);
    came = λ l writes. came-by l (l.hop == 0) writes;
  }
    where
      taken-by : (l : Lane) (b : Bool) → cond b (option_map_or (λ (h : HeadView T). head_taken h l) part.head 0) (path_taken part.path l) ≡ 0
      taken-by l true = subst (λ (o : Option (HeadView T)). option_map_or (λ (h : HeadView T). head_taken h l) o 0 ≡ 0) (sym head) (head_taken_none l)
      taken-by l false = path-taken l

      came-by : (l : Lane) (b : Bool) → cond b (option_map_or (λ (h : HeadView T). head_writes h l) part.head false) (path_writes meaning part.path l) ≡ true
          → cond b (option_map_or (λ (h : HeadView T). head_came h l) part.head nowhere) (path_came meaning part.path l) ≡ point 0 false
      came-by l true = subst (λ (o : Option (HeadView T)). option_map_or (λ (h : HeadView T). head_writes h l) o false ≡ true → option_map_or (λ (h : HeadView T). head_came h l) o nowhere ≡ point 0 false) (sym head) (head_came_new l)
      came-by l false = path-came l
