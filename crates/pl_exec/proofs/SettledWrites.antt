-- The writes of a head that have ended, settled one after another.
use Rattle.std.proofs.Common.{◌≡◌, ℕ, List, [], ◌∷◌, ◌++◌, Option, Some, None, length, set, slice_get, refl, ap, sym, subst, ◌∙◌, arith, append_assoc}
use Rattle.std.specs.Option.{option_map, option_map_or}
use Rattle.std.specs.Prelude.{slice_set}
use Rattle.std.proofs.lemmas.List.{get_or-set_same, length-set}
use Rattle.std.proofs.lemmas.Option.{none-some, same_Some, slice_get_read, slice_get_within}
use Rattle.pl_event.specs.declared.outcomes.Outcome.{Outcome}
use Rattle.pl_head.specs.Buffers.{untold}
use Rattle.pl_head.specs.HeadStand.{HeadView}
use Rattle.pl_part.specs.Parts.{ChannelPartView}
use Rattle.pl_part.specs.Told.{IsTold, TellsNext, part_untold, told_head}
use Rattle.pl_words.specs.PromiseRule.{at}
use Rattle.pl_words.specs.PromiseViews.{SettleSeatView}
use Rattle.pl_exec.specs.SessionWords.{SeatsView, Tries, TriesEach}
use Rattle.pl_exec.specs.Telling.{SettlesAt, TellsAt, part_outcomes}

one-more : (outcomes : List (Option Outcome)) (done : List ℕ) (n : ℕ) (outcome : Outcome) (s t u : SettleSeatView) → at outcomes n ≡ Some outcome → TriesEach outcomes done s t → Tries t n outcome u → TriesEach outcomes (done ++ n ∷ []) s u
one-more outcomes [] n outcome s t u ended same tries = (outcome, u, ended, subst (λ (x : SettleSeatView). Tries x n outcome u) same tries, refl)
one-more outcomes (k ∷ done) n outcome s t u ended first tries = (first.0, first.1, first.2, first.3, one-more outcomes done n outcome first.1 t u ended first.4 tries)

module _ {S T : Type 0} (p q q' : ChannelPartView S T) where
  -- telling changes no outcome
  told-outcomes : IsTold p q → part_outcomes q ≡ part_outcomes p
  told-outcomes told = ap (λ (x : ChannelPartView S T). part_outcomes x) told.is ∙ by p.head
    where
      by : (o : Option (HeadView T)) → option_map_or (λ (h : HeadView T). h.buffer.outcomes) (option_map (told_head told.so_many) o) [] ≡ option_map_or (λ (h : HeadView T). h.buffer.outcomes) o []
      by None = refl
      by (Some h) = refl

  -- one more is settled
  pub next-settled : (n : ℕ) (outcome : Outcome) (s t u : SettleSeatView) → IsTold p q → TellsNext q n outcome q' → Tries t n outcome u
      → (done : List ℕ) × (done ++ part_untold q ≡ part_untold p) × TriesEach (part_outcomes p) done s t → (done : List ℕ) × (done ++ part_untold q' ≡ part_untold p) × TriesEach (part_outcomes p) done s u
  next-settled n outcome s t u told next tries so_far = (
    so_far.0 ++ n ∷ [],
    append_assoc so_far.0 (n ∷ []) (part_untold q') ∙ ap (λ (l : List ℕ). so_far.0 ++ l) (sym next.next) ∙ so_far.1,
    one-more (part_outcomes p) so_far.0 n outcome s t u ended so_far.2 tries,
  )
    where
      ended : at (part_outcomes p) n ≡ Some outcome
      ended =
          ap (λ (l : List (Option Outcome)). at l n)
          (sym (told-outcomes told) ∙ ap (λ (o : Option (HeadView T)). option_map_or (λ (h : HeadView T). h.buffer.outcomes) o []) next.has_head)
          ∙ next.ended

-- ---- by channel

module _ {S T : Type 0} (seats : List (Option SeatsView)) (ps : List (ChannelPartView S T)) (c : ℕ) where
  pub settles-at : (own own' : SeatsView) (p : ChannelPartView S T) → slice_get seats c ≡ Some (Some own) → slice_get ps c ≡ Some p → TriesEach (part_outcomes p) (part_untold p) own.settle own'.settle
      → SettlesAt seats ps c (slice_set seats c (Some own'))
  settles-at own own' p seat part tries s q at there =
      let within = slice_get_within seats c (Some own) seat in
      let same-seats : own ≡ s = same_Some own s (same_Some (Some own) (Some s) (sym seat ∙ at)) in
      let same-part : p ≡ q = same_Some p q (sym part ∙ there) in (
        own',
        slice_get_read (set seats c (Some own')) (length (set seats c (Some own'))) c (Some own') refl (let size = length-set seats c (Some own') in omega (arith, within, size)) (sym (get_or-set_same seats c (Some own') (Some own') within)),
        subst (λ (z : SeatsView × ChannelPartView S T). TriesEach (part_outcomes z.1) (part_untold z.1) z.0.settle own'.settle) (λ i. (same-seats i, same-part i)) tries,
      )

  -- there are no seats here
  pub none-settles : (after : List (Option SeatsView)) (slot : Option SeatsView) → slice_get seats c ≡ Some slot → slot ≡ None → SettlesAt seats ps c after
  none-settles after slot at none s q is there = absurd (none-some s (sym none ∙ same_Some slot (Some s) (sym at ∙ is)))

  -- its head has told of each
  pub told-settles : TellsAt seats ps c → SettlesAt seats ps c seats
  told-settles tells s p at there = (s, at, subst (λ (ns : List ℕ). TriesEach (part_outcomes p) ns s.settle s.settle) (sym (by p.head refl)) refl)
    where
      by : (o : Option (HeadView T)) → p.head ≡ o → part_untold p ≡ []
      by None is = ap (λ (o : Option (HeadView T)). option_map_or (λ (h : HeadView T). untold h.buffer) o []) is
      by (Some h) is = ap (λ (o : Option (HeadView T)). option_map_or (λ (x : HeadView T). untold x.buffer) o []) is ∙ (tells s p h at there is).all
