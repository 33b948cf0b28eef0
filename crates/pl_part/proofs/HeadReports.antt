-- What a head has written, by what its lane carries.
use Rattle.std.proofs.Common.{◌≡◌, ℕ, true, false, List, [], ◌∷◌, ◌++◌, length, drop, Option, Some, None, refl, sym, ap, ◌∙◌, ⊎_elim, append_assoc}
use Rattle.std.proofs.lemmas.List.{take-append-drop}
use Rattle.std.proofs.lemmas.Bool.{cases_Bool, cond-true}
use Rattle.pl_event.specs.declared.events.Event.{Event}
use Rattle.pl_event.specs.declared.outcomes.Cause.{Cause}
use Rattle.pl_event.specs.Hops.{data_lane}
use Rattle.pl_event.specs.Worlds.{World, content_of}
use Rattle.pl_context.specs.Standings.{is_over}
use Rattle.pl_head.specs.Marks.{Change}
use Rattle.pl_head.specs.Writes.{write_by, has_flush, flushed_writes, bytes_of, out}
use Rattle.pl_head.specs.Transports.{TransportState}
use Rattle.pl_head.specs.HeadStand.{HeadView, BufferAfter, HeadStandsAfter}
use Rattle.pl_head.proofs.Buffering.{bytes_of-append}
use Rattle.pl_head.proofs.Flushing.{flushed-none, has_flush-longer}
use Rattle.pl_head.proofs.Forgetting.{out-behind}
use Rattle.pl_part.specs.HeadHolds.{HeadHolds, HeadTook}

-- what is flushed of the first events begins what is flushed of all
flushed-prefix : (ys more : List Event) → (rest : List (Option (List ℕ))) × (flushed_writes ys ++ rest ≡ flushed_writes (ys ++ more))
flushed-prefix [] more = (flushed_writes more, refl)
flushed-prefix (y ∷ ys) more = ⊎_elim
    (λ (t : has_flush (y ∷ ys) ≡ true).
    let rest = flushed-prefix ys more in (
      rest.0,
      ap (λ (ws : List (Option (List ℕ))). (ws ++ flushed_writes ys) ++ rest.0) (cond-true (has_flush (y ∷ ys)) (write_by y) [] t)
          ∙ append_assoc (write_by y) (flushed_writes ys) rest.0
          ∙ ap (λ (ws : List (Option (List ℕ))). write_by y ++ ws) rest.1
          ∙ ap (λ (ws : List (Option (List ℕ))). ws ++ flushed_writes (ys ++ more)) (sym (cond-true (has_flush (y ∷ (ys ++ more))) (write_by y) [] (has_flush-longer (y ∷ ys) more t))),
    ))
    (λ (f : has_flush (y ∷ ys) ≡ false).
    (flushed_writes (y ∷ (ys ++ more)), ap (λ (ws : List (Option (List ℕ))). ws ++ flushed_writes (y ∷ (ys ++ more))) (flushed-none (y ∷ ys) f)))
    (cases_Bool (has_flush (y ∷ ys)))

pub out-prefix : (ys more : List Event) → (rest : List ℕ) × (out ys ++ rest ≡ out (ys ++ more))
out-prefix ys more =
    let p = flushed-prefix ys more in (
      bytes_of p.0,
      sym (bytes_of-append (flushed_writes ys) p.0) ∙ ap bytes_of p.1,
    )

module _ {T : Type 0} (state : T → TransportState) (h : HeadView T) where
  -- all that its lane carries, the forgotten first
  whole : (events : List Event) (t : HeadTook state events h) → t.gone ++ ((t.ys ++ t.zs) ++ drop t.count events) ≡ events
  whole events t =
      sym (append_assoc t.gone (t.ys ++ t.zs) (drop t.count events)) ∙ ap (λ (es : List Event). es ++ drop t.count events) (sym (append_assoc t.gone t.ys t.zs) ∙ t.in_order) ∙ take-append-drop t.count events

  accepted-prefix : (ys zs : List Event) (sizes : List Change) → HeadStandsAfter state h ys zs sizes → (rest : List ℕ) × ((state h.transport).accepted ++ rest ≡ out ys)
  accepted-prefix ys zs sizes after = by h.failure after
    where
      by : (f : Option Cause) → BufferAfter f (state h.transport).accepted h.buffer ys zs (is_over h.standing) sizes → (rest : List ℕ) × ((state h.transport).accepted ++ rest ≡ out ys)
      by None a = (a.1.left, a.1.output)
      by (Some c) a = (a.left, a.output)

  -- the bytes that were accepted begin, behind the output of what it has forgotten, that of all that its lane carries
  pub bytes-behind : (events : List Event) (t : HeadTook state events h) → (rest : List ℕ) × (out t.gone ++ (state h.transport).accepted ++ rest ≡ out events)
  bytes-behind events t =
      let first = accepted-prefix t.ys t.zs t.sizes t.after in
      let next = out-prefix t.ys (t.zs ++ drop t.count events) in (
        first.0 ++ next.0,
        append_assoc (out t.gone) (state h.transport).accepted (first.0 ++ next.0)
            ∙ ap (λ (bs : List ℕ). out t.gone ++ bs) (sym (append_assoc (state h.transport).accepted first.0 next.0) ∙ ap (λ (bs : List ℕ). bs ++ next.0) first.1 ∙ next.1)
            ∙ sym (out-behind t.gone (t.ys ++ (t.zs ++ drop t.count events)) t.flushed)
            ∙ ap (λ (es : List Event). out (t.gone ++ es)) (sym (append_assoc t.ys t.zs (drop t.count events)))
            ∙ ap out (whole events t),
      )

  pub bytes-begin : (world : World) → HeadHolds state world h
      → (events : List Event) × (content_of world (data_lane h.channel h.hop) ≡ Some events) × (gone rest : List ℕ) × (length gone ≡ h.gone) × (gone ++ (state h.transport).accepted ++ rest ≡ out events)
  bytes-begin world k =
      let t = k.holds.took in
      let b = bytes-behind k.events t in
      (k.events, k.holds.own, out t.gone, b.0, sym t.bytes, b.1)
