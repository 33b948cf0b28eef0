-- A stage that takes one event more, a chain with one stage more, and a loop that has pushed one result more.
use Rattle.std.proofs.Common.{◌≡◌, List, [], ◌∷◌, ◌++◌, map, sym, ap, ◌∙◌, append_assoc}
use Rattle.std.proofs.lemmas.List.{map_push}
use Rattle.pl_event.specs.declared.events.Event.{Event}
use Rattle.pl_event.specs.Meaning.{Meaning, made_after, made-push, up_of, down_of}
use Rattle.pl_event.specs.Lanes.{through_by, through_by-push}
use Rattle.pl_world.specs.Chains.{made_toward, part_toward}
use Rattle.pl_world.specs.declared.chains.Made.{Made}
use Rattle.pl_world.specs.declared.chains.Toward.{Toward}
use Rattle.pl_world.specs.declared.chains.Toward.TheVariants.{Head, Tail}

pub made_more : (f : List Event → Event → List Event) (xs : List Event) (e : Event) (made made' : List Event)
    → made ≡ made_after f [] xs → made' ≡ made ++ f xs e → made' ≡ made_after f [] (xs ++ e ∷ [])
made_more f xs e made made' so_far step =
    step ∙ ap (λ (t : List Event). t ++ f xs e) so_far ∙ sym (made-push f xs e)

pub through_more : {S : Type 0} (meaning : S → Meaning) (makes : Meaning → List Event → List Event) (stages : List S) (s : S) (xs made made' : List Event)
    → made ≡ through_by makes (map meaning stages) xs → made' ≡ makes (meaning s) made → made' ≡ through_by makes (map meaning (stages ++ s ∷ [])) xs
through_more meaning makes stages s xs made made' so_far step =
    step
    ∙ ap (makes (meaning s)) so_far
    ∙ sym (through_by-push makes (map meaning stages) (meaning s) xs)
    ∙ ap (λ (ms : List Meaning). through_by makes ms xs) (sym (map_push meaning stages s))

pub pushed_more : {A B : Type 0} (f : A → B) (before made made' : List B) (xs : List A) (x : A) → made ≡ before ++ map f xs → made' ≡ made ++ f x ∷ [] → made' ≡ before ++ map f (xs ++ x ∷ [])
pushed_more {B = B} f before made made' xs x so_far step =
    step
    ∙ ap (λ (t : List B). t ++ f x ∷ []) so_far
    ∙ append_assoc before (map f xs) (f x ∷ [])
    ∙ ap (λ (t : List B). before ++ t) (sym (map_push f xs x))

pub toward_is : (t : Toward) (m : Meaning) (xs : List Event) (made : Made)
    → made.up.items ≡ up_of m xs → made.down.items ≡ down_of m xs → (part_toward t made).items ≡ made_toward t m xs
toward_is Head m xs made up down = down
toward_is Tail m xs made up down = up
