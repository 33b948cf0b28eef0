-- A schedule, move by move.
use Rattle.std.proofs.Common.{◌≡◌, ℕ, zero, suc, ◌+◌, ◌<◌, Bool, ◌&&◌, List, [], ◌∷◌, ◌++◌, length, take, get_or, true, false, arith, refl, sym, ap, ◌∙◌, subst}
use Rattle.std.specs.List.{list_all}
use Rattle.std.proofs.lemmas.List.{take_more}
use Rattle.std.proofs.lemmas.List.Folds.{list_all_more}
use Rattle.std.proofs.Math.Bool.{and-false}
use Rattle.pl_world.specs.declared.moves.Move.{Move}
use Rattle.pl_world.specs.Plans.{Plan}
use Rattle.pl_replay.specs.MoveModel.{is_there}
use Rattle.pl_event.specs.declared.events.Event.{Event}
use Rattle.pl_event.specs.Meaning.{Meaning}
use Rattle.pl_head.specs.Transports.{TransportState}
use Rattle.pl_net.specs.Nets.{StationsView}
use Rattle.pl_replay.specs.Moves.{LeadsTo, Reaches}
use Rattle.pl_replay.specs.declared.channels.Channels.{Channels}

module _ {S T : Type 0} (meaning : S → Meaning) (stands_after : S → List Event → Type 0) (is_spent : S → Bool) (state : T → TransportState) (may_refuse : T → ℕ → Type 0) (capacity : ℕ) where
  pub reaches-push : (ms : List Move) (c mid : StationsView (Channels S T)) (m : Move) (made : Bool) (end : StationsView (Channels S T)) → Reaches meaning stands_after is_spent state may_refuse capacity ms c mid
      → LeadsTo meaning stands_after is_spent state may_refuse capacity m mid made end → Reaches meaning stands_after is_spent state may_refuse capacity (ms ++ m ∷ []) c end
  reaches-push [] c mid m made end reached leads = (made, end, subst (λ (t : StationsView (Channels S T)). LeadsTo meaning stands_after is_spent state may_refuse capacity m t made end) reached leads, refl)
  reaches-push (k ∷ ms) c mid m made end reached leads = (reached.0, reached.1, reached.2, reaches-push ms reached.1 mid m made end reached.3 leads)

  -- one move more
  pub reaches-more : (ms : List Move) (i : ℕ) (d : Move) → i < length ms → (c mid : StationsView (Channels S T)) (made : Bool) (end : StationsView (Channels S T)) → Reaches meaning stands_after is_spent state may_refuse capacity (take i ms) c mid
      → LeadsTo meaning stands_after is_spent state may_refuse capacity (get_or ms i d) mid made end → Reaches meaning stands_after is_spent state may_refuse capacity (take (i + 1) ms) c end
  reaches-more ms i d within c mid made end reached leads =
      subst (λ (t : List Move). Reaches meaning stands_after is_spent state may_refuse capacity t c end) (sym (take_more ms i d within)) (reaches-push (take i ms) c mid (get_or ms i d) made end reached leads)

-- the moves so far name what is there, and so does one more
pub there-next : (plan : Plan) (ms : List Move) (i : ℕ) (d : Move) → i < length ms → list_all (is_there plan) (take i ms) ≡ true → is_there plan (get_or ms i d) ≡ true → list_all (is_there plan) (take (i + 1) ms) ≡ true
there-next plan ms i d within so_far on = list_all_more (is_there plan) ms i d within ∙ rw (so_far, on) refl

-- one that is not there
pub there-stops : (plan : Plan) (ms : List Move) (i : ℕ) (d : Move) → i < length ms → is_there plan (get_or ms i d) ≡ false → list_all (is_there plan) ms ≡ false
there-stops plan [] i d within off = absurd (omega (arith, within))
there-stops plan (m ∷ ms) zero d within off = ap (λ (b : Bool). b && list_all (is_there plan) ms) off
there-stops plan (m ∷ ms) (suc i) d within off =
    ap (λ (b : Bool). is_there plan m && b) (there-stops plan ms i d (omega (arith, within)) off) ∙ and-false (is_there plan m)
