-- Lanes by their hop, and lanes of a longer input.
use Rattle.std.proofs.Common.{◌≡◌, ℕ, ◌+◌, ◌-◌, ◌<◌, ◌≤◌, Bool, true, false, cond, List, [], ◌∷◌, ◌++◌, length, take, drop, map, sym, ap, ◌∙◌, refl, arith, leb, append-nil}
use Rattle.std.specs.List.{flat_map, list_any}
use Rattle.std.proofs.lemmas.Bool.{le-leb, leb-true, or_parts}
use Rattle.std.proofs.lemmas.List.{take_all, take-append-drop}
use Rattle.std.proofs.lemmas.List.Folds.{flat_map-map}
use Rattle.std.proofs.lemmas.Grind.{flat_map-append}
use Rattle.pl_event.specs.declared.events.Event.{Event}
use Rattle.pl_event.specs.declared.events.Event.TheVariants.{Active}
use Rattle.pl_event.specs.declared.stages.Direction.{Direction}
use Rattle.pl_event.specs.declared.stages.Direction.TheVariants.{Inbound, Outbound, Turn}
use Rattle.pl_event.specs.Meaning.{Meaning, IsPrefixOf, up_of, down_of, made_after, made_after-append}
use Rattle.pl_event.specs.Inputs.{Bursts, burst_events, recorded_input, read_steps, input_after}
use Rattle.pl_event.specs.Lanes.{lane, tail_lane, head_lane, through_by, through, out_through, written, turn_ended}
use Rattle.pl_event.specs.Paths.{is_turn}

module _ (inbound out : List Meaning) (input : List Event) where
  -- up to the tail a lane is what the stages before it make
  pub lane-near : (hop : ℕ) → hop ≤ length inbound → lane inbound out input hop ≡ through (take hop inbound) input
  lane-near hop near =
      ap (λ (b : Bool). cond b (through (take hop inbound) input) (out_through (take (hop - length inbound - 1) out) (written inbound input))) (le-leb hop (length inbound) near)

  past : (b : Bool) → (b ≡ true → ⊥) → b ≡ false
  past true h = absurd (h refl)
  past false h = refl

  -- past the tail it is what the outbound stages make of what the turn writes
  pub lane-far : (hop : ℕ) → length inbound < hop → lane inbound out input hop ≡ out_through (take (hop - length inbound - 1) out) (written inbound input)
  lane-far hop far =
      ap (λ (b : Bool). cond b (through (take hop inbound) input) (out_through (take (hop - length inbound - 1) out) (written inbound input)))
      (past (leb hop (length inbound)) (λ e. absurd (omega (arith, leb-true hop (length inbound) e))))

  pub tail_lane-through : tail_lane inbound out input ≡ through inbound input
  tail_lane-through =
      lane-near (length inbound) (omega arith) ∙ ap (λ (ms : List Meaning). through ms input) (take_all (length inbound) inbound (omega arith))

  pub head_lane-through : head_lane inbound out input ≡ out_through out (written inbound input)
  head_lane-through =
      let count : length inbound + 1 + length out - length inbound - 1 ≡ length out = omega arith in
      lane-far (length inbound + 1 + length out) (omega arith)
      ∙ ap (λ (ms : List Meaning). out_through ms (written inbound input)) (ap (λ (n : ℕ). take n out) count ∙ take_all (length out) out (omega arith))

made-prefix : (f : List Event → Event → List Event) (xs ys : List Event) → IsPrefixOf xs ys → IsPrefixOf (made_after f [] xs) (made_after f [] ys)
made-prefix f xs ys p =
    (made_after f xs p.0, sym (made_after-append f [] xs p.0) ∙ ap (λ (t : List Event). made_after f [] t) p.1)

pub up_of-prefix : (m : Meaning) (xs ys : List Event) → IsPrefixOf xs ys → IsPrefixOf (up_of m xs) (up_of m ys)
up_of-prefix m xs ys p = made-prefix m.up xs ys p

pub down_of-prefix : (m : Meaning) (xs ys : List Event) → IsPrefixOf xs ys → IsPrefixOf (down_of m xs) (down_of m ys)
down_of-prefix m xs ys p = made-prefix m.down xs ys p

through_by-prefix : (makes : Meaning → List Event → List Event) → ((m : Meaning) (xs ys : List Event) → IsPrefixOf xs ys → IsPrefixOf (makes m xs) (makes m ys))
    → (ms : List Meaning) (xs ys : List Event) → IsPrefixOf xs ys → IsPrefixOf (through_by makes ms xs) (through_by makes ms ys)
through_by-prefix makes grows [] xs ys p = p
through_by-prefix makes grows (m ∷ ms) xs ys p = through_by-prefix makes grows ms (makes m xs) (makes m ys) (grows m xs ys p)

written-prefix : (ms : List Meaning) (xs ys : List Event) → IsPrefixOf xs ys → IsPrefixOf (written ms xs) (written ms ys)
written-prefix [] xs ys p = ([], refl)
written-prefix (m ∷ ms) xs ys p =
    let passed = written-prefix ms (up_of m xs) (up_of m ys) (up_of-prefix m xs ys p) in
    elim m.direction as (λ (d : Direction). IsPrefixOf
    (elim d [ Turn ↦ down_of m xs | Inbound ↦ written ms (up_of m xs) | Outbound ↦ written ms (up_of m xs) ])
    (elim d [ Turn ↦ down_of m ys | Inbound ↦ written ms (up_of m ys) | Outbound ↦ written ms (up_of m ys) ]))
    [ Inbound ↦ passed | Outbound ↦ passed | Turn ↦ down_of-prefix m xs ys p ]

-- what a longer input brings to a lane begins with what a shorter one brings
pub lane-prefix : (inbound out : List Meaning) (hop : ℕ) (xs ys : List Event) → IsPrefixOf xs ys → IsPrefixOf (lane inbound out xs hop) (lane inbound out ys hop)
lane-prefix inbound out hop xs ys p =
    elim (leb hop (length inbound)) as (λ (b : Bool). IsPrefixOf
    (cond b (through (take hop inbound) xs) (out_through (take (hop - length inbound - 1) out) (written inbound xs)))
    (cond b (through (take hop inbound) ys) (out_through (take (hop - length inbound - 1) out) (written inbound ys)))) [
      | true ↦ through_by-prefix up_of up_of-prefix (take hop inbound) xs ys p
      | false ↦ through_by-prefix down_of down_of-prefix (take (hop - length inbound - 1) out) (written inbound xs) (written inbound ys) (written-prefix inbound xs ys p)
    ]

-- ---- read steps

abbrev whole : List Event → List Event
whole step = step

-- all read steps bring the recorded input
pub read_steps-bring : (bursts : Bursts) → flat_map whole (read_steps bursts) ≡ recorded_input bursts
read_steps-bring bursts =
    ap (λ (t : List Event). Active ∷ t) (flat_map-append whole (map burst_events bursts) ([] ∷ []) ∙ append-nil (flat_map whole (map burst_events bursts)) ∙ flat_map-map whole burst_events bursts)

-- the first ones bring a prefix of it
pub input_after-prefix : (n : ℕ) (bursts : Bursts) → IsPrefixOf (input_after n bursts) (recorded_input bursts)
input_after-prefix n bursts = (
  flat_map whole (drop n (read_steps bursts)),
  sym (flat_map-append whole (take n (read_steps bursts)) (drop n (read_steps bursts)))
      ∙ ap (flat_map whole) (take-append-drop n (read_steps bursts))
      ∙ read_steps-bring bursts,
)

pub input_after-all : (n : ℕ) (bursts : Bursts) → length (read_steps bursts) ≤ n → input_after n bursts ≡ recorded_input bursts
input_after-all n bursts all = ap (flat_map whole) (take_all n (read_steps bursts) all) ∙ read_steps-bring bursts

-- ---- the turn

-- what a handler that is not the turn leaves to those after it
passes : (d : Direction) (m : Meaning) (ms : List Meaning) (xs : List Event) → is_turn d ≡ false
    → (elim d [ Turn ↦ down_of m xs | Inbound ↦ written ms (up_of m xs) | Outbound ↦ written ms (up_of m xs) ]) ≡ written ms (up_of m xs)
passes Inbound m ms xs h = refl
passes Outbound m ms xs h = refl
passes Turn m ms xs h = cc

passes_end : (d : Direction) (m : Meaning) (ms : List Meaning) (xs : List Event) → is_turn d ≡ false
    → (elim d [ Turn ↦ m.ended xs | Inbound ↦ turn_ended ms (up_of m xs) | Outbound ↦ turn_ended ms (up_of m xs) ]) ≡ turn_ended ms (up_of m xs)
passes_end Inbound m ms xs h = refl
passes_end Outbound m ms xs h = refl
passes_end Turn m ms xs h = cc

writes : (d : Direction) (m : Meaning) (ms : List Meaning) (xs : List Event) → is_turn d ≡ true
    → (elim d [ Turn ↦ down_of m xs | Inbound ↦ written ms (up_of m xs) | Outbound ↦ written ms (up_of m xs) ]) ≡ down_of m xs
writes Inbound m ms xs h = cc
writes Outbound m ms xs h = cc
writes Turn m ms xs h = refl

writes_end : (d : Direction) (m : Meaning) (ms : List Meaning) (xs : List Event) → is_turn d ≡ true
    → (elim d [ Turn ↦ m.ended xs | Inbound ↦ turn_ended ms (up_of m xs) | Outbound ↦ turn_ended ms (up_of m xs) ]) ≡ m.ended xs
writes_end Inbound m ms xs h = cc
writes_end Outbound m ms xs h = cc
writes_end Turn m ms xs h = refl

-- the first turn of a chain writes, and quits, as it does on its own lane
pub written-turn : (ms : List Meaning) (m : Meaning) (rest : List Meaning) (xs : List Event) → list_any (λ (n : Meaning). is_turn n.direction) ms ≡ false → is_turn m.direction ≡ true
    → (written (ms ++ m ∷ rest) xs ≡ down_of m (through ms xs)) × (turn_ended (ms ++ m ∷ rest) xs ≡ m.ended (through ms xs))
written-turn [] m rest xs none turn = (writes m.direction m rest xs turn, writes_end m.direction m rest xs turn)
written-turn (k ∷ ms) m rest xs none turn =
    let off = or_parts (is_turn k.direction) (list_any (λ (n : Meaning). is_turn n.direction) ms) none in
    let rest_of = written-turn ms m rest (up_of k xs) off.1 turn in
    (passes k.direction k (ms ++ m ∷ rest) xs off.0 ∙ rest_of.0, passes_end k.direction k (ms ++ m ∷ rest) xs off.0 ∙ rest_of.1)
