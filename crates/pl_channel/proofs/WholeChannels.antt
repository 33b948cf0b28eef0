-- Recorded channels, of which one part after another is made.
use Rattle.std.proofs.Common.{◌≡◌, ℕ, ◌+◌, List, [], ◌∷◌, ◌++◌, length, slice_get, Some, refl, ap, sym, ◌∙◌, subst, inl, inr, arith}
use Rattle.std.proofs.lemmas.List.{length_push}
use Rattle.std.proofs.lemmas.Option.{slice_get_within}
use Rattle.pl_event.specs.declared.events.Event.{Event}
use Rattle.pl_event.specs.Meaning.{Meaning}
use Rattle.pl_event.proofs.Lists.{slice_get-push}
use Rattle.pl_head.specs.Transports.{TransportState}
use Rattle.pl_part.specs.Parts.{ChannelPartView}
use Rattle.pl_channel.specs.WholeParts.{IsWholePart, AreWholeParts}
use Rattle.pl_world.specs.declared.session.Recorded.{Recorded}

module _ {S T : Type 0} (meaning : S → Meaning) (stands_after : S → List Event → Type 0) (state : T → TransportState) where
  pub placed-none : AreWholeParts meaning stands_after state [] []
  placed-none = record { count = refl; each = λ n r part is at. cc }

  pub placed-push : (rs : List (Recorded S T)) (parts : List (ChannelPartView S T)) (r : Recorded S T) (part : ChannelPartView S T) → AreWholeParts meaning stands_after state rs parts
      → IsWholePart meaning stands_after state (length parts) r part → AreWholeParts meaning stands_after state (rs ++ r ∷ []) (parts ++ part ∷ [])
  placed-push rs parts r part so_far new = record {
    count = length_push parts part ∙ ap (λ (n : ℕ). n + 1) so_far.count ∙ sym (length_push rs r);
    each = each;
  }
    where
      each : (number : ℕ) (q : Recorded S T) (other : ChannelPartView S T) → slice_get (rs ++ r ∷ []) number ≡ Some q → slice_get (parts ++ part ∷ []) number ≡ Some other
          → IsWholePart meaning stands_after state number q other
      each number q other is at = elim (slice_get-push rs r q number is) [
        | inl old ↦ elim (slice_get-push parts part other number at) [
          | inl there ↦ so_far.each number q other old there
          | inr last ↦ absurd (let within = slice_get_within rs number q old in let size = so_far.count in omega (arith, within, size, last.0))
        ]
        | inr newest ↦ elim (slice_get-push parts part other number at) [
          | inl there ↦ absurd (let within = slice_get_within parts number other there in let size = so_far.count in omega (arith, within, size, newest.0))
          | inr last ↦
              subst (λ (n : ℕ). IsWholePart meaning stands_after state n q other) (sym last.0)
              (subst (λ (s : Recorded S T). IsWholePart meaning stands_after state (length parts) s other) (sym newest.1)
              (subst (λ (o : ChannelPartView S T). IsWholePart meaning stands_after state (length parts) r o) (sym last.1) new))
        ]
      ]
