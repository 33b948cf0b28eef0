-- A world over memory, made of slices: its channels have what was handed in.
use Rattle.std.proofs.Common.{◌≡◌, ℕ, List, [], ◌∷◌, length, map, Result, Ok, Err, ap, sym, ◌∙◌, refl, subst, arith}
use Rattle.std.specs.Prelude.{All, IfOk}
use Rattle.pl_build.specs.Pipelines.{PlacedView}
use Rattle.pl_head.specs.declared.inputs.ReadPlan.{ReadPlan}
use Rattle.pl_world.specs.declared.session.Recorded.{Recorded}
use Rattle.pl_world.specs.declared.worlds.WorldRefusal.{WorldRefusal}
use Rattle.pl_world.specs.Worlds.{WorldView, AnswersWorld, recorded}
use Rattle.pl_world.proofs.WorldLimits.{all_any, all_recorded, within_parts}

module _ {S T : Type 0} where
  recorded-pipelines : (pipelines : List (PlacedView S)) (inputs : List ReadPlan) (transports : List T) → length pipelines ≡ length inputs → length pipelines ≡ length transports
      → map (λ (c : Recorded S T). c.pipeline) (recorded pipelines inputs transports) ≡ pipelines
  recorded-pipelines [] inputs transports same beside = refl
  recorded-pipelines (p ∷ pipelines) [] transports same beside = absurd (omega (arith, same))
  recorded-pipelines (p ∷ pipelines) (input ∷ inputs) [] same beside = absurd (omega (arith, beside))
  recorded-pipelines (p ∷ pipelines) (input ∷ inputs) (t ∷ transports) same beside =
      ap (λ (l : List (PlacedView S)). p ∷ l) (recorded-pipelines pipelines inputs transports (omega (arith, same)) (omega (arith, beside)))

  recorded-inputs : (pipelines : List (PlacedView S)) (inputs : List ReadPlan) (transports : List T) → length pipelines ≡ length inputs → length pipelines ≡ length transports
      → map (λ (c : Recorded S T). c.input) (recorded pipelines inputs transports) ≡ inputs
  recorded-inputs [] [] transports same beside = refl
  recorded-inputs [] (input ∷ inputs) transports same beside = absurd (omega (arith, same))
  recorded-inputs (p ∷ pipelines) [] transports same beside = absurd (omega (arith, same))
  recorded-inputs (p ∷ pipelines) (input ∷ inputs) [] same beside = absurd (omega (arith, beside))
  recorded-inputs (p ∷ pipelines) (input ∷ inputs) (t ∷ transports) same beside =
      ap (λ (l : List ReadPlan). input ∷ l) (recorded-inputs pipelines inputs transports (omega (arith, same)) (omega (arith, beside)))

  recorded-transports : (Holds : T → Type 0) (pipelines : List (PlacedView S)) (inputs : List ReadPlan) (transports : List T) → All Holds transports
      → All (λ (c : Recorded S T). Holds c.transport) (recorded pipelines inputs transports)
  recorded-transports Holds pipelines inputs transports all =
      all_recorded (λ (c : Recorded S T). Holds c.transport) (λ p. Unit {0}) (λ input. Unit {0}) Holds (λ p input t is fit holds. holds)
      pipelines inputs transports (all_any pipelines) (all_any inputs) all

-- what is answered of a world of these
module _ {S T : Type 0} (pipelines : List (PlacedView S)) (inputs : List ReadPlan) (transports : List T) (executors : ℕ) where
  -- of each channel it has what was given for that
  has_members : {X : Type 0} (of : Recorded S T → X) (all : List X) → (length pipelines ≡ length inputs → length pipelines ≡ length transports → map of (recorded pipelines inputs transports) ≡ all)
      → (made : Result (WorldView S T) WorldRefusal) → AnswersWorld pipelines inputs transports executors made → IfOk made (λ w. map of w.channels ≡ all)
  has_members of all each (Ok w) answers =
      let limits = within_parts pipelines inputs transports executors answers.allowed in
      ap (map of) answers.channels ∙ each limits.inputs_for_each limits.transports_for_each
  has_members of all each (Err e) answers = tt

  pub has_pipelines : (made : Result (WorldView S T) WorldRefusal) → AnswersWorld pipelines inputs transports executors made → IfOk made (λ w. map (λ (c : Recorded S T). c.pipeline) w.channels ≡ pipelines)
  has_pipelines = has_members (λ c. c.pipeline) pipelines (recorded-pipelines pipelines inputs transports)

  pub has_inputs : (made : Result (WorldView S T) WorldRefusal) → AnswersWorld pipelines inputs transports executors made → IfOk made (λ w. map (λ (c : Recorded S T). c.input) w.channels ≡ inputs)
  has_inputs = has_members (λ c. c.input) inputs (recorded-inputs pipelines inputs transports)

  pub has_transports : (Holds : T → Type 0) → All Holds transports → (made : Result (WorldView S T) WorldRefusal) → AnswersWorld pipelines inputs transports executors made
      → IfOk made (λ w. All (λ (c : Recorded S T). Holds c.transport) w.channels)
  has_transports Holds all (Ok w) answers =
      subst (All (λ (c : Recorded S T). Holds c.transport)) (sym answers.channels) (recorded-transports Holds pipelines inputs transports all)
  has_transports Holds all (Err e) answers = tt
