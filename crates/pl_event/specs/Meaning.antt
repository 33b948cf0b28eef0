-- What a stage means: functions of the whole list of events, from which no stage's code is copied.
use Rattle.std.specs.Prelude.{◌≡◌, ◌≢◌, List, [], ◌∷◌, ◌++◌, Bool, true, false, if◌then◌else◌}
use Rattle.std.proofs.Common.{sym, ap, ◌∙◌, append_assoc, append-nil}
use Rattle.pl_event.specs.declared.events.Event.{Event}
use Rattle.pl_event.specs.declared.stages.Direction.{Direction}
use Rattle.pl_event.specs.declared.stages.Direction.TheVariants.{Inbound, Outbound, Turn}
use Rattle.pl_event.specs.declared.stages.Turned.{Turned}
use Rattle.pl_event.specs.declared.stages.Turned.TheVariants.{Open, Ended}

-- What a stage makes of events, and whether it quits (ChannelHandlerContext). Of an event x after the events xs it
-- makes m.up xs x and m.down xs x; m.ended xs says whether it has quit after xs.
pub record Meaning : Type 0 where
  pub direction : Direction
  pub up : List Event → Event → List Event
  pub down : List Event → Event → List Event
  pub ended : List Event → Bool

-- what is made of a list when f xs x is made of x after xs; before has come already
abbrev pub made_after : (List Event → Event → List Event) → List Event → List Event → List Event
made_after f before [] = []
made_after f before (x ∷ xs) = f before x ++ made_after f (before ++ x ∷ []) xs

-- what a stage makes upwards of a whole list
abbrev pub up_of : Meaning → List Event → List Event
up_of m xs = made_after m.up [] xs

-- what a stage makes downwards of a whole list
abbrev pub down_of : Meaning → List Event → List Event
down_of m xs = made_after m.down [] xs

-- what a stage answers to the last of these events
abbrev pub turned_after : Meaning → List Event → Turned
turned_after m xs = if m.ended xs then Ended else Open

-- The stage law (ChannelInboundHandler, ChannelOutboundHandler): once it has quit it has quit for good, and writes
-- nothing more. It starts open. Only a turn makes both lists, and quits.
pub record IsLawful (m : Meaning) : Type 0 where
  pub starts_open : m.ended [] ≡ false
  pub stays_ended : (xs : List Event) (x : Event) → m.ended xs ≡ true → m.ended (xs ++ x ∷ []) ≡ true
  pub quiet : (xs : List Event) (x : Event) → m.ended xs ≡ true → m.down xs x ≡ []
  pub inbound : m.direction ≡ Inbound → (xs : List Event) (x : Event) → m.down xs x ≡ []
  pub outbound : m.direction ≡ Outbound → (xs : List Event) (x : Event) → m.up xs x ≡ []
  pub turn_alone : m.direction ≢ Turn → (xs : List Event) → m.ended xs ≡ false

-- the first list is how the second begins
abbrev pub IsPrefixOf : {A : Type 0} → List A → List A → Type 0
IsPrefixOf {A = A} xs ys = (rest : List A) × (xs ++ rest ≡ ys)

-- more events: what is made grows at its end by what is made of those
pub made_after-append : (f : List Event → Event → List Event) (before xs ys : List Event) → made_after f before (xs ++ ys) ≡ made_after f before xs ++ made_after f (before ++ xs) ys
made_after-append f before [] ys = ap (λ (b : List Event). made_after f b ys) (sym (append-nil before))
made_after-append f before (x ∷ xs) ys =
    ap (λ (t : List Event). f before x ++ t) (made_after-append f (before ++ x ∷ []) xs ys ∙ ap (λ (b : List Event). made_after f (before ++ x ∷ []) xs ++ made_after f b ys) (append_assoc before (x ∷ []) xs))
    ∙ sym (append_assoc (f before x) (made_after f (before ++ x ∷ []) xs) (made_after f (before ++ x ∷ xs) ys))

-- one more event
pub made-push : (f : List Event → Event → List Event) (xs : List Event) (x : Event) → made_after f [] (xs ++ x ∷ []) ≡ made_after f [] xs ++ f xs x
made-push f xs x =
    made_after-append f [] xs (x ∷ []) ∙ ap (λ (t : List Event). made_after f [] xs ++ t) (append-nil (f xs x))

pub IsPrefixOf-trans : (xs ys zs : List Event) → IsPrefixOf xs ys → IsPrefixOf ys zs → IsPrefixOf xs zs
IsPrefixOf-trans xs ys zs p q =
    (p.0 ++ q.0, sym (append_assoc xs p.0 q.0) ∙ ap (λ (t : List Event). t ++ q.0) p.1 ∙ q.1)
