-- What threads are to run, as they promise it and as a list of executors has it.
use Rattle.std.proofs.Common.{arith, ◌≡◌, ◌∷◌, [], List, map, subst}
use Rattle.std.specs.Prelude.{All}
use Rattle.std.specs.List.{AllZip}
use Rattle.std.proofs.lemmas.List.{get_or-map, length-map}
use Rattle.std.proofs.lemmas.List.Elements.{All-map}
use Rattle.pl_threads.specs.Turning.{Threaded}

zip-of-map : {T Y F : Type 0} (R : T → F → Type 0) (first : Y → T) (ys : List Y) (fs : List F) → AllZip R (map first ys) fs → AllZip (λ y f. R (first y) f) ys fs
zip-of-map R first [] [] h = tt
zip-of-map R first [] (f ∷ fs) h = absurd h
zip-of-map R first (y ∷ ys) [] h = absurd h
zip-of-map R first (y ∷ ys) (f ∷ fs) h = (h.0, zip-of-map R first ys fs h.1)

module _ {G X Y : Type 0} (promise : X → Threaded G) (first : Y → Threaded G) (xs : List X) (ys : List Y) (same : map promise xs ≡ map first ys) where
  pub promised-zip : {F : Type 0} (R : Threaded G → F → Type 0) (fs : List F) → AllZip R (map promise xs) fs → AllZip (λ y f. R (first y) f) ys fs
  promised-zip R fs h = zip-of-map R first ys fs (subst (λ (ts : List (Threaded G)). AllZip R ts fs) same h)

  pub promised-every : (P : Threaded G → Type 0) → All (λ x. P (promise x)) xs → All (λ y. P (first y)) ys
  promised-every P h k d lt =
      subst P (get_or-map first ys k d (first d) lt) (subst (All P) same (All-map P promise xs h) k (first d) (omega (arith, length-map ys first, lt)))
