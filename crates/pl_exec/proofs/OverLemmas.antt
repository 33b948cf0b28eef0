-- What a head has left, and what its steps answer, where it is on the executor or elsewhere.
use Rattle.std.proofs.Common.{◌≡◌, ℕ, Bool, true, false, List, Option, Some, None, slice_get, refl, ap, sym, ◌∙◌}
use Rattle.std.proofs.lemmas.Option.{same_Some}
use Rattle.pl_context.specs.OutputsViews.{OutputsView}
use Rattle.pl_flow.specs.declared.head_moves.HeadMove.{HeadMove}
use Rattle.pl_flow.specs.declared.head_moves.HeadMove.TheVariants as head
use Rattle.pl_head.specs.declared.heads.ReadStep.TheVariants as reading
use Rattle.pl_head.specs.Transports.{TransportState}
use Rattle.pl_head.specs.Marks.{Change}
use Rattle.pl_head.specs.HeadStand.{HeadView, HeadStandsAfter, is_idle}
use Rattle.pl_event.specs.declared.events.Event.{Event}
use Rattle.pl_event.specs.Meaning.{Meaning}
use Rattle.pl_event.specs.Worlds.{World}
use Rattle.pl_part.specs.Parts.{ChannelPartView, PartHolds, PartMoves}
use Rattle.pl_channel.proofs.HeadMoves.{may-move}
use Rattle.pl_exec.specs.ExecutorNodes.{MayMoveHere, IsPartOver}

done-gave : reading.Done ≡ reading.Gave → ⊥
done-gave e = cc

module _ {S T : Type 0} (state : T → TransportState) (may_refuse : T → ℕ → Type 0) (p : ChannelPartView S T) (b : OutputsView) (p' : ChannelPartView S T) (a : OutputsView) where
  -- where the head is elsewhere it makes no move
  none-moves : (by : HeadMove) (made : Bool) → PartMoves state may_refuse p by b made p' a → p.head ≡ None → made ≡ false
  none-moves by false m none = refl
  none-moves head.Read true m none = absurd (done-gave (sym (m.reads.none none).0 ∙ m.gave refl))
  none-moves head.Out true m none = absurd (m.wrote refl (m.writes.none none).0)

  pub may-move-here : (by : HeadMove) (made : Bool) → PartMoves state may_refuse p by b made p' a → (ps : List (ChannelPartView S T)) (c : ℕ) → slice_get ps c ≡ Some p → MayMoveHere state ps by c made
  may-move-here by made m ps c own = record {
    here = may-move state p b p' a may_refuse by made m ps c own;
    elsewhere = λ q at none. none-moves by made m (sym (ap (λ (x : ChannelPartView S T). x.head) (same_Some q p (sym at ∙ own))) ∙ none);
  }

-- where a part is over, its head is written out
pub written-over : {S T : Type 0} (world : World) (meaning : S → Meaning) (stands_after : S → List Event → Type 0) (state : T → TransportState) (p : ChannelPartView S T) → PartHolds world meaning stands_after state p → IsPartOver state p
    → (b : Bool) → ((h : HeadView T) (ys zs : List Event) (sizes : List Change) → p.head ≡ Some h → HeadStandsAfter state h ys zs sizes → b ≡ is_idle state h ys) → (p.head ≡ None → b ≡ true) → b ≡ true
written-over world meaning stands_after state p holds over b some none = by p.head refl
  where
    by : (o : Option (HeadView _)) → p.head ≡ o → b ≡ true
    by None at = none at
    by (Some h) at =
        let t = (holds.head h at).0.holds.took in
        some h t.ys t.zs t.sizes at t.after ∙ over.written h t.ys t.zs t.sizes at t.after
