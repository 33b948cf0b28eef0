-- What the lanes of an inbound chain bring that is split at its turn.
use Rattle.std.proofs.Common.{◌≡◌, List, [], ◌∷◌, ◌++◌, false, true, refl, ap, ◌∙◌}
use Rattle.std.specs.List.{list_any}
use Rattle.pl_event.specs.declared.events.Event.{Event}
use Rattle.pl_event.specs.Meaning.{Meaning, up_of, down_of}
use Rattle.pl_event.specs.Paths.{is_turn}
use Rattle.pl_event.specs.Lanes.{tail_lane, head_lane, through_by, through, out_through}
use Rattle.pl_event.proofs.LaneLemmas.{tail_lane-through, head_lane-through, written-turn}

through_by-append : (makes : Meaning → List Event → List Event) (ms ns : List Meaning) (xs : List Event) → through_by makes (ms ++ ns) xs ≡ through_by makes ns (through_by makes ms xs)
through_by-append makes [] ns xs = refl
through_by-append makes (m ∷ ms) ns xs = through_by-append makes ms ns (makes m xs)

module _ (before : List Meaning) (turn : Meaning) (after outbound : List Meaning) (xs : List Event) where
  pub tail_is : tail_lane (before ++ turn ∷ after) outbound xs ≡ through after (up_of turn (through before xs))
  tail_is =
      tail_lane-through (before ++ turn ∷ after) outbound xs ∙ through_by-append up_of before (turn ∷ after) xs

  pub head_is : list_any (λ m. is_turn m.direction) before ≡ false → is_turn turn.direction ≡ true → head_lane (before ++ turn ∷ after) outbound xs ≡ out_through outbound (down_of turn (through before xs))
  head_is none first =
      head_lane-through (before ++ turn ∷ after) outbound xs
      ∙ ap (λ (ys : List Event). out_through outbound ys) (written-turn before turn after xs none first).0
