-- What a thread did with the seat that it was given.
use Rattle.std.specs.Prelude.{◌≡◌, ℕ, ◌+◌, Option, IfSome}
use Rattle.pl_words.specs.declared.status.Status.TheVariants.{Closed}
use Rattle.pl_words.specs.Admissions.{SendSeatView, OwnerSeatView}

-- it sent so often
abbrev pub Fed : SendSeatView → ℕ → SendSeatView → Type 0
Fed s sent t = (t.name ≡ s.name) × (t.kept ≡ s.kept + sent) × (t.late ≡ s.late)

-- it closed with this count, if at all
abbrev pub Shut : OwnerSeatView → Option ℕ → OwnerSeatView → Type 0
Shut o run p = (p.name ≡ o.name) × IfSome run (λ count. (p.phase ≡ Closed) × (p.run ≡ count))
