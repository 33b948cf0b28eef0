-- The head of a part makes a move, a read step or a write, or none.
use Rattle.std.proofs.Common.{◌≡◌, ◌≢◌, ℕ, Bool, true, false, not, ◌&&◌, List, Option, Some, None, slice_get, refl, ap, sym, ◌∙◌}
use Rattle.std.proofs.lemmas.Bool.{both_ways}
use Rattle.std.proofs.lemmas.Option.{same_Some}
use Rattle.pl_context.specs.OutputsViews.{OutputsView}
use Rattle.pl_flow.specs.declared.head_moves.HeadMove.{HeadMove}
use Rattle.pl_flow.specs.declared.head_moves.HeadMove.TheVariants as head
use Rattle.pl_head.specs.declared.heads.OutStep.{OutStep}
use Rattle.pl_head.specs.declared.heads.OutStep.TheVariants as step
use Rattle.pl_head.specs.declared.heads.ReadStep.{ReadStep}
use Rattle.pl_head.specs.declared.heads.ReadStep.TheVariants as reading
use Rattle.pl_head.specs.ReadSteps.{has_step}
use Rattle.pl_head.specs.Transports.{TransportState}
use Rattle.pl_head.specs.HeadStand.{HeadView, is_read_held, is_idle, read_answer}
use Rattle.pl_part.specs.Parts.{ChannelPartView, PartReads, PartWrites, PartMoves}
use Rattle.pl_channel.specs.Channels.{MayRead, MayWrite, MayMove}

-- ---- answers

-- whether a step gave, by what is left and held
gave : (left held : Bool) (answer : ReadStep) (r : Bool) → answer ≡ read_answer left held → (r ≡ false → answer ≢ reading.Gave) → (r ≡ true → answer ≡ reading.Gave) → r ≡ (left && not held)
gave true false answer true is other own = refl
gave true false answer false is other own = absurd (other refl is)
gave true true answer true is other own = absurd (apart (sym is ∙ own refl))
  where
    apart : reading.Held ≡ reading.Gave → ⊥
    apart e = cc
gave true true answer false is other own = refl
gave false held answer true is other own = absurd (apart (sym is ∙ own refl))
  where
    apart : reading.Done ≡ reading.Gave → ⊥
    apart e = cc
gave false held answer false is other own = refl

wrote : (idle : Bool) (answer : OutStep) (r : Bool) → (answer ≡ step.Idle → idle ≡ true) → (idle ≡ true → answer ≡ step.Idle) → (r ≡ false → answer ≡ step.Idle) → (r ≡ true → answer ≢ step.Idle) → r ≡ not idle
wrote true answer true is if own other = absurd (other refl (if refl))
wrote true answer false is if own other = refl
wrote false answer true is if own other = refl
wrote false answer false is if own other = absurd (both_ways false refl (is (own refl)))

-- ---- a head's part

-- it has not moved, where its head has not
same-part : {S T : Type 0} (p p' : ChannelPartView S T) (b a : OutputsView) → p'.path ≡ p.path → ((h : HeadView T) → p.head ≡ Some h → (h' : HeadView T) × (p'.head ≡ Some h') × (h' ≡ h) × (a ≡ b))
    → (p.head ≡ None → (p' ≡ p) × (a ≡ b)) → (p' ≡ p) × (a ≡ b)
same-part p p' b a path some none = by p.head refl
  where
    by : (o : Option (HeadView _)) → p.head ≡ o → (p' ≡ p) × (a ≡ b)
    by None at = none at
    by (Some h) at = let m = some h at in ((λ i. record { path = path i; head = (m.1 ∙ ap (λ (x : HeadView _). Some x) m.2 ∙ sym at) i }), m.3)

module _ {S T : Type 0} (state : T → TransportState) (p : ChannelPartView S T) (b : OutputsView) (p' : ChannelPartView S T) (a : OutputsView) where
  module _ (answer : ReadStep) (reads : PartReads state p b answer p' a) where
    pub read-idle : answer ≢ reading.Gave → (p' ≡ p) × (a ≡ b)
    read-idle other = same-part p p' b a reads.path (λ h at. let m = reads.head h at in let i = m.2.idle other in (m.0, m.1, i.0, i.1)) (λ at. let n = reads.none at in (n.1, n.2))

    pub may-read : (ps : List (ChannelPartView S T)) (c : ℕ) → slice_get ps c ≡ Some p → (r : Bool) → (r ≡ false → answer ≢ reading.Gave) → (r ≡ true → answer ≡ reading.Gave) → MayRead state ps c r
    may-read ps c own r other gives q h plan count failed ys zs sizes at head stood after =
        let same : q ≡ p = same_Some q p (sym at ∙ own) in
        let m = reads.head h (ap (λ (x : ChannelPartView S T). x.head) (sym same) ∙ head) in
        gave (has_step plan count failed) (is_read_held state plan count h ys) answer r (m.2.answers plan count failed ys zs sizes stood after) other gives

  module _ (may_refuse : T → ℕ → Type 0) (answer : OutStep) (writes : PartWrites state may_refuse p b answer p' a) where
    pub write-idle : answer ≡ step.Idle → (p' ≡ p) × (a ≡ b)
    write-idle idle = same-part p p' b a writes.path (λ h at. let m = writes.head h at in let i = m.2.idle idle in (m.0, m.1, i.0, i.1)) (λ at. let n = writes.none at in (n.1, n.2))

    pub may-write : (ps : List (ChannelPartView S T)) (c : ℕ) → slice_get ps c ≡ Some p → (r : Bool) → (r ≡ false → answer ≡ step.Idle) → (r ≡ true → answer ≢ step.Idle) → MayWrite state ps c r
    may-write ps c own r idle moves q h ys zs sizes at head after =
        let same : q ≡ p = same_Some q p (sym at ∙ own) in
        let m = writes.head h (ap (λ (x : ChannelPartView S T). x.head) (sym same) ∙ head) in
        let w = m.2.waits ys zs sizes after in
        wrote (is_idle state h ys) answer r w.0 w.1 idle moves

  -- ---- any move

  pub moves-idle : (may_refuse : T → ℕ → Type 0) (by : HeadMove) (made : Bool) → PartMoves state may_refuse p by b made p' a → made ≡ false → (p' ≡ p) × (a ≡ b)
  moves-idle may_refuse head.Read made m is = read-idle m.answer m.reads (m.other is)
  moves-idle may_refuse head.Out made m is = write-idle may_refuse m.answer m.writes (m.idle is)

  pub may-move : (may_refuse : T → ℕ → Type 0) (by : HeadMove) (made : Bool) → PartMoves state may_refuse p by b made p' a → (ps : List (ChannelPartView S T)) (c : ℕ) → slice_get ps c ≡ Some p → MayMove state ps by c made
  may-move may_refuse head.Read made m ps c own = may-read m.answer m.reads ps c own made m.other m.gave
  may-move may_refuse head.Out made m ps c own = may-write may_refuse m.answer m.writes ps c own made m.idle m.wrote
