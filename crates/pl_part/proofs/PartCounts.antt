-- Nodes that hold have done little.
use Rattle.std.proofs.Common.{◌≡◌, ℕ, ◌<◌, ◌≤◌, ◌^◌, List, get_or, Option, Some, None, refl, arith}
use Rattle.std.specs.Option.{option_map_or}
use Rattle.std.proofs.lemmas.List.Elements.{All-from_get_or}
use Rattle.std.proofs.lemmas.List.Sums.{sum_by-le}
use Rattle.pl_event.specs.declared.events.Event.{Event}
use Rattle.pl_event.specs.Meaning.{Meaning}
use Rattle.pl_event.specs.Worlds.{World}
use Rattle.pl_context.specs.ContextViews.{ContextView}
use Rattle.pl_context.specs.TailViews.{TailView}
use Rattle.pl_head.specs.Transports.{TransportState}
use Rattle.pl_head.specs.HeadStand.{HeadView}
use Rattle.pl_part.specs.ContextHolds.{ContextHolds}
use Rattle.pl_part.specs.TailHolds.{TailHolds}
use Rattle.pl_part.specs.Paths.{PathPartView, PathHolds}
use Rattle.pl_part.specs.Parts.{ChannelPartView, PartHolds}
use Rattle.pl_part.specs.Counts.{context_done, tail_done, head_done, slot_done, path_done, part_done}
use Rattle.pl_part.proofs.HeadMoves.{head-few}

module _ {S : Type 0} (world : World) (meaning : S → Meaning) (stands_after : S → List Event → Type 0) where
  context-few : (c : ContextView S) → ContextHolds world meaning stands_after c → context_done c ≤ 2 ^ 34
  context-few c h =
      let few = h.holds.few in
      let one = few.taken in
      let two = few.flags_taken in
      let three = few.up in
      let four = few.down in
      let five = few.flags in
      omega (arith, one, two, three, four, five)

  tail-few : (t : TailView) → TailHolds world t → tail_done t ≤ 2 ^ 34
  tail-few t h =
      let one = h.holds.few_taken in
      let two = h.holds.few_flags in
      omega (arith, one, two)

  path-few : (p : PathPartView S) → PathHolds world meaning stands_after p → path_done p < 2 ^ 49
  path-few p h =
      let each = All-from_get_or (λ (slot : Option (ContextView S)). slot_done slot ≤ 2 ^ 34) p.contexts None (λ i within. at i (get_or p.contexts i None) refl) in
      let sum = sum_by-le (λ (slot : Option (ContextView S)). slot_done slot) (2 ^ 34) p.contexts each in
      let few = h.few in
      let tail = ends p.tail refl in
      omega (arith, sum, few, tail)
    where
      at : (i : ℕ) (slot : Option (ContextView S)) → get_or p.contexts i None ≡ slot → slot_done slot ≤ 2 ^ 34
      at i None e = omega arith
      at i (Some c) e = context-few c (h.contexts i c e).0

      ends : (o : Option TailView) → p.tail ≡ o → option_map_or (λ (t : TailView). tail_done t) o 0 ≤ 2 ^ 34
      ends None e = omega arith
      ends (Some t) e = tail-few t (h.tail t e).0

module _ {S T : Type 0} (world : World) (meaning : S → Meaning) (stands_after : S → List Event → Type 0) (state : T → TransportState) where
  pub part-few : (p : ChannelPartView S T) → PartHolds world meaning stands_after state p → part_done p < 2 ^ 50
  part-few p h =
      let path = path-few world meaning stands_after p.path h.path in
      let head = end p.head refl in
      omega (arith, path, head)
    where
      end : (o : Option (HeadView T)) → p.head ≡ o → option_map_or (λ (x : HeadView T). head_done x) o 0 ≤ 2 ^ 34
      end None e = omega arith
      end (Some x) e =
          let held = (h.head x e).0 in
          let few = head-few state world held.plan held.events x held.holds in
          omega (arith, few)
