-- Flows: what is added at the end, and one item of one lane.
use Rattle.std.proofs.Common.{◌≡◌, true, false, List, [], ◌∷◌, ◌++◌, refl}
use Rattle.std.proofs.lemmas.Bool.{cond-true, cond-false}
use Rattle.std.proofs.lemmas.List.Elements.{filter-append}
use Rattle.pl_event.specs.declared.envelopes.Envelope.{Envelope}
use Rattle.pl_event.specs.declared.envelopes.Lane.{Lane}
use Rattle.pl_event.specs.Hops.{same_lane, is_on}
use Rattle.pl_event.specs.Worlds.{World}
use Rattle.pl_flow.specs.Flows.{Point, after, on, IsFlow, past}

pub on-append : (l : Lane) (xs ys : List Envelope) → on l (xs ++ ys) ≡ on l xs ++ on l ys
on-append l xs ys = filter-append (is_on l) xs ys

pub past-append : (p : Point) (xs ys : List Envelope) → past p (xs ++ ys) ≡ past (past p xs) ys
past-append p [] ys = refl
past-append p (x ∷ xs) ys = past-append (after x) xs ys

pub IsFlow-append : (world : World) (p : Point) (xs ys : List Envelope) → IsFlow world p xs → IsFlow world (past p xs) ys → IsFlow world p (xs ++ ys)
IsFlow-append world p [] ys f g = g
IsFlow-append world p (x ∷ xs) ys f g = (f.0, IsFlow-append world (after x) xs ys f.1 g)

-- one item in front, of this lane or of another one
pub on-own : (l : Lane) (x : Envelope) (xs : List Envelope) → same_lane l x.lane ≡ true → on l (x ∷ xs) ≡ x ∷ on l xs
on-own l x xs t = cond-true (same_lane l x.lane) _ _ t

pub on-other : (l : Lane) (x : Envelope) (xs : List Envelope) → same_lane l x.lane ≡ false → on l (x ∷ xs) ≡ on l xs
on-other l x xs t = cond-false (same_lane l x.lane) _ _ t
