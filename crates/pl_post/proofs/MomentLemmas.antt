-- What holds of a post at every moment, and once it is closed.
use Rattle.std.proofs.Common.{◌≡◌, ◌≤◌, ◌+◌, ℕ, suc, Bool, true, false, List, [], ◌∷◌, ◌++◌, map, Option, Some, None, slice_index, refl, ap, sym, subst, ◌∙◌, ⊎_elim, arith}
use mathlib.Core.Option.{some}
use lib.ListN.{get_elem?}
use Rattle.std.proofs.lemmas.Bool.{cond-true, cond-false, cases_Bool}
use Rattle.std.proofs.lemmas.List.{map-append}
use Rattle.std.proofs.lemmas.Option.{none-some}
use Rattle.pl_event.specs.declared.envelopes.Envelope.{Envelope}
use Rattle.pl_event.specs.declared.envelopes.Lane.{Lane}
use Rattle.pl_event.specs.Hops.{same_lane}
use Rattle.pl_event.specs.Worlds.{World}
use Rattle.pl_event.proofs.SameLanes.{same_lane-equal, same_lane-self, same_lane-flip}
use Rattle.pl_event.proofs.Lists.{cons-none}
use Rattle.pl_queue.specs.declared.views.PassView.{PassView}
use Rattle.pl_queue.specs.declared.views.SendCount.{SendCount}
use Rattle.pl_queue.specs.declared.views.SenderView.{SenderView}
use Rattle.pl_queue.specs.declared.views.TakeCount.{TakeCount}
use Rattle.pl_queue.specs.Left.{Apart, send_counts_of}
use Rattle.pl_queue.specs.Room.{IsCounted, sent_on, all_pushes}
use Rattle.pl_queue.specs.Rule.{PassStands, IsRun, Each, numbers_of}
use Rattle.pl_queue.specs.Views.{sent_of, next_of, lanes_of_counts, lanes_of_send_counts}
use Rattle.pl_queue.proofs.Lists.{IsRun-le, Each-weaker}
use Rattle.pl_queue.proofs.RoomLemmas.{sent_on-append}
use Rattle.pl_words.specs.declared.admission_steps.AdmissionNotes.{AdmissionNotes}
use Rattle.pl_words.specs.declared.status.Status.{Status}
use Rattle.pl_words.specs.declared.status.Status.TheVariants.{Closed}
use Rattle.pl_words.specs.AdmissionRule.{total, run_given, tried}
use Rattle.pl_words.specs.Phases.{phase_in}
use Rattle.pl_words.proofs.AdmissionMoves.{finds}
use Rattle.pl_post.specs.Posts.{taken_on}
use Rattle.pl_post.specs.Moments.{Side, Moment, IsPost, TakenOrQueued, AllTaken}

-- ---- lists

each-append : {A : Type 0} (P : A → Type 0) (xs ys : List A) → Each P xs → Each P ys → Each P (xs ++ ys)
each-append P [] ys a b = b
each-append P (x ∷ xs) ys a b = (a.0, each-append P xs ys a.1 b)

each-front : {A : Type 0} (P : A → Type 0) (xs ys : List A) → Each P (xs ++ ys) → Each P xs
each-front P [] ys a = tt
each-front P (x ∷ xs) ys a = (a.0, each-front P xs ys a.1)

apart-front : (xs ys : List Lane) → Apart (xs ++ ys) → Apart xs
apart-front [] ys a = tt
apart-front (x ∷ xs) ys a = (each-front (λ m. same_lane x m ≡ false) xs ys a.0, apart-front xs ys a.1)

apart-back : (xs ys : List Lane) → Apart (xs ++ ys) → Apart ys
apart-back [] ys a = a
apart-back (x ∷ xs) ys a = apart-back xs ys a.1

-- f of each lane, added up
abbrev sum_of : (Lane → ℕ) → List Lane → ℕ
sum_of f [] = 0
sum_of f (l ∷ ls) = f l + sum_of f ls

sum_of-less : (f g : Lane → ℕ) (ls : List Lane) → ((l : Lane) → f l ≤ g l) → sum_of f ls ≤ sum_of g ls
sum_of-less f g [] less = omega arith
sum_of-less f g (l ∷ ls) less = omega (arith, less l, sum_of-less f g ls less)

-- where none is less and all together are no more, they are the same
sum_of-same : (f g : Lane → ℕ) (ls : List Lane) → ((l : Lane) → f l ≤ g l) → sum_of g ls ≤ sum_of f ls → Each (λ l. f l ≡ g l) ls
sum_of-same f g [] less most = tt
sum_of-same f g (l ∷ ls) less most =
    let rest = sum_of-less f g ls less in
    let here = less l in (omega (arith, rest, here, most), sum_of-same f g ls less (omega (arith, here, most)))

-- ---- each lane is found where it stands

found-sends : (cs : List SendCount) → Apart (lanes_of_send_counts cs) → Each (λ c. sent_of c.lane cs ≡ Some (c.next, c.ended)) cs
found-sends [] a = tt
found-sends (c ∷ cs) a = (
  cond-true (same_lane c.lane c.lane) (Some (c.next, c.ended)) (sent_of c.lane cs) (same_lane-self c.lane),
  behind cs cs a.0 (found-sends cs a.1),
)
  where
    behind : (ds es : List SendCount) → Each (λ m. same_lane c.lane m ≡ false) (lanes_of_send_counts ds) → Each (λ d. sent_of d.lane es ≡ Some (d.next, d.ended)) ds → Each (λ d. sent_of d.lane (c ∷ es) ≡ Some (d.next, d.ended)) ds
    behind [] es others found = tt
    behind (d ∷ ds) es others found = (
      cond-false (same_lane d.lane c.lane) (Some (c.next, c.ended)) (sent_of d.lane es) (same_lane-flip c.lane d.lane others.0) ∙ found.0,
      behind ds es others.1 found.1,
    )

found-takes : (cs : List TakeCount) → Apart (lanes_of_counts cs) → Each (λ c. next_of c.lane cs ≡ Some c.next) cs
found-takes [] a = tt
found-takes (c ∷ cs) a = (
  cond-true (same_lane c.lane c.lane) (Some c.next) (next_of c.lane cs) (same_lane-self c.lane),
  behind cs cs a.0 (found-takes cs a.1),
)
  where
    behind : (ds es : List TakeCount) → Each (λ m. same_lane c.lane m ≡ false) (lanes_of_counts ds) → Each (λ d. next_of d.lane es ≡ Some d.next) ds → Each (λ d. next_of d.lane (c ∷ es) ≡ Some d.next) ds
    behind [] es others found = tt
    behind (d ∷ ds) es others found = (
      cond-false (same_lane d.lane c.lane) (Some c.next) (next_of d.lane es) (same_lane-flip c.lane d.lane others.0) ∙ found.0,
      behind ds es others.1 found.1,
    )

sends-sum : (f : Lane → ℕ) (cs : List SendCount) → Each (λ c. f c.lane ≡ c.next) cs → sent_on cs ≡ sum_of f (lanes_of_send_counts cs)
sends-sum f [] a = refl
sends-sum f (c ∷ cs) a = omega (arith, a.0, sends-sum f cs a.1)

takes-sum : (f : Lane → ℕ) (cs : List TakeCount) → Each (λ c. f c.lane ≡ c.next) cs → taken_on cs ≡ sum_of f (lanes_of_counts cs)
takes-sum f [] a = refl
takes-sum f (c ∷ cs) a = omega (arith, a.0, takes-sum f cs a.1)

-- what holds of each lane of these holds of a lane that is found
of-found : (P : Lane → Type 0) (cs : List TakeCount) (l : Lane) (n : ℕ) → Each P (lanes_of_counts cs) → next_of l cs ≡ Some n → P l
of-found P [] l n all found = absurd (none-some n found)
of-found P (c ∷ cs) l n all found = ⊎_elim
    (λ (t : same_lane l c.lane ≡ true). subst P (sym (same_lane-equal l c.lane t)) all.0)
    (λ (t : same_lane l c.lane ≡ false). of-found P cs l n all.1 (sym (cond-false (same_lane l c.lane) (Some c.next) (next_of l cs) t) ∙ found))
    (cases_Bool (same_lane l c.lane))

-- a run that ends where it begins has nothing
run-none : (from : ℕ) (ns : List ℕ) (to : ℕ) → IsRun from ns to → from ≡ to → ns ≡ []
run-none from [] to run same = refl
run-none from (n ∷ ns) to run same = absurd (omega (arith, IsRun-le (from + 1) ns to run.1, same))

-- where no lane has a number there is no envelope
no-envelope : (items : List Envelope) → ((l : Lane) → numbers_of l items ≡ []) → items ≡ []
no-envelope [] none = refl
no-envelope (x ∷ xs) none =
    absurd (cons-none x.number (numbers_of x.lane xs) (sym (cond-true (same_lane x.lane x.lane) (x.number ∷ numbers_of x.lane xs) (numbers_of x.lane xs) (same_lane-self x.lane)) ∙ none x.lane))

-- ---- the seats

abbrev passes : List Side → List PassView
passes sides = map (λ s. s.pass) sides

abbrev notes : List Side → List AdmissionNotes
notes sides = map (λ s. s.notes) sides

abbrev sent_by : List Side → List SenderView
sent_by sides = map (λ s. s.pass.sends) sides

-- what holds of a side wherever its pass stands holds of each
by-place : (P : Side → Type 0) (sides : List Side) → ((i : ℕ) (s : Side) → get_elem? (passes sides) i ≡ some s.pass → P s) → Each P sides
by-place P [] all = tt
by-place P (s ∷ ss) all = (all 0 s refl, by-place P ss (λ i t at. all (suc i) t at))

-- by what each side knows, what was sent on each lane
sides-next : (f : Lane → ℕ) (sides : List Side) → Each (λ s. (l : Lane) (n : ℕ) (e : Bool) → sent_of l s.pass.sends.send_counts ≡ Some (n, e) → f l ≡ n) sides
    → Apart (lanes_of_send_counts (send_counts_of (sent_by sides))) → Each (λ c. f c.lane ≡ c.next) (send_counts_of (sent_by sides))
sides-next f [] knows apart = tt
sides-next f (s ∷ ss) knows apart =
    let mine = s.pass.sends.send_counts in
    let rest = send_counts_of (sent_by ss) in
    let lanes = subst Apart (map-append (λ (c : SendCount). c.lane) mine rest) apart in
    each-append (λ (c : SendCount). f c.lane ≡ c.next) mine rest
    (Each-weaker (λ (c : SendCount). sent_of c.lane mine ≡ Some (c.next, c.ended)) (λ (c : SendCount). f c.lane ≡ c.next) (λ c is. knows.0 c.lane c.next c.ended is) mine (found-sends mine (apart-front (lanes_of_send_counts mine) (lanes_of_send_counts rest) lanes)))
    (sides-next f ss knows.1 (apart-back (lanes_of_send_counts mine) (lanes_of_send_counts rest) lanes))

-- all pushes are what was sent on all lanes
pushes-sent : (sides : List Side) → Each (λ s. IsCounted s.pass.sends × (s.pass.sends.pushes ≤ s.notes.kept)) sides → all_pushes (sent_by sides) ≡ sent_on (send_counts_of (sent_by sides))
pushes-sent [] all = refl
pushes-sent (s ∷ ss) all = omega (arith, all.0.0.pushes, pushes-sent ss all.1, sent_on-append s.pass.sends.send_counts (send_counts_of (sent_by ss)))

-- and no more than was kept
pushes-kept : (sides : List Side) → Each (λ s. IsCounted s.pass.sends × (s.pass.sends.pushes ≤ s.notes.kept)) sides → all_pushes (sent_by sides) ≤ total run_given (notes sides)
pushes-kept [] all = omega arith
pushes-kept (s ∷ ss) all = omega (arith, all.0.1, pushes-kept ss all.1)

-- where no more was kept than pushed, none is late
pushes-same : (sides : List Side) → Each (λ s. IsCounted s.pass.sends × (s.pass.sends.pushes ≤ s.notes.kept)) sides → total run_given (notes sides) ≤ all_pushes (sent_by sides)
    → Each (λ s. (s.notes.kept ≡ s.pass.sends.pushes) × (s.notes.late ≡ 0)) sides
pushes-same [] all most = tt
pushes-same (s ∷ ss) all most =
    let rest = pushes-kept ss all.1 in
    let here = all.0.1 in ((omega (arith, rest, here, most), omega (arith, rest, here, most)), pushes-same ss all.1 (omega (arith, here, most)))

-- ---- a post

module _ (world : World) (senders : ℕ) (m : Moment) (p : IsPost world senders m) where
  owner-knows : PassStands p.queue.owner p.queue.next p.queue.ended p.queue.taker p.queue.taken 0 m.owner.pass
  owner-knows = p.queue.seats 0 m.owner.pass refl

  seats-know : Each (λ s. (l : Lane) (n : ℕ) (e : Bool) → sent_of l s.pass.sends.send_counts ≡ Some (n, e) → p.queue.next l ≡ n) m.seats
  seats-know = by-place (λ s. (l : Lane) (n : ℕ) (e : Bool) → sent_of l s.pass.sends.send_counts ≡ Some (n, e) → p.queue.next l ≡ n) m.seats
      (λ i s at l n e is. ((p.queue.seats (suc i) s.pass at).sends l n e is).1)

  -- what was sent is what was taken, and then what is queued
  pub in-turn : Each (λ s. TakenOrQueued m.items m.owner.pass.takes s.pass.sends) m.seats
  in-turn = Each-weaker (λ s. (l : Lane) (n : ℕ) (e : Bool) → sent_of l s.pass.sends.send_counts ≡ Some (n, e) → p.queue.next l ≡ n) (λ s. TakenOrQueued m.items m.owner.pass.takes s.pass.sends)
      (λ s knows l sent taken ended is there.
      subst (λ (k : ℕ × ℕ). IsRun k.0 (numbers_of l m.items) k.1) (λ i. (owner-knows.known p.takes l taken there i, knows l sent ended is i)) (p.queue.in_turn l))
      m.seats seats-know

  taken-less : (l : Lane) → p.queue.taken l ≤ p.queue.next l
  taken-less l = IsRun-le (p.queue.taken l) (numbers_of l m.items) (p.queue.next l) (p.queue.in_turn l)

  -- what was pushed, lane by lane
  pushed : all_pushes (sent_by m.seats) ≡ sum_of p.queue.next (lanes_of_counts m.owner.pass.takes.counts)
  pushed =
      let cs = send_counts_of (sent_by m.seats) in
      pushes-sent m.seats p.sent ∙ sends-sum p.queue.next cs (sides-next p.queue.next m.seats seats-know (subst Apart (sym p.lanes) p.apart)) ∙ ap (λ ls. sum_of p.queue.next ls) p.lanes

  -- what was popped, lane by lane
  popped : m.owner.pass.takes.pops ≡ sum_of p.queue.taken (lanes_of_counts m.owner.pass.takes.counts)
  popped =
      let cs = m.owner.pass.takes.counts in
      p.taken.pops
      ∙ takes-sum p.queue.taken cs
      (Each-weaker (λ (c : TakeCount). next_of c.lane cs ≡ Some c.next) (λ (c : TakeCount). p.queue.taken c.lane ≡ c.next) (λ c is. owner-knows.known p.takes c.lane c.next is) cs (found-takes cs p.apart))

  phase-is : m.owner.notes.phase ≡ p.word.phase
  phase-is = ((p.word.each 0 m.owner.notes refl).owns p.owns).1

  run-is : m.owner.notes.run ≡ p.word.run
  run-is = ((p.word.each 0 m.owner.notes refl).owns p.owns).2

  module _ (closed : m.owner.notes.phase ≡ Closed) where
    all-kept : run_given m.owner.notes + total run_given (notes m.seats) ≡ m.owner.notes.run
    all-kept = p.word.closed (sym phase-is ∙ closed) ∙ sym run-is

    none-less : sum_of p.queue.taken (lanes_of_counts m.owner.pass.takes.counts) ≤ sum_of p.queue.next (lanes_of_counts m.owner.pass.takes.counts)
    none-less = sum_of-less p.queue.taken p.queue.next (lanes_of_counts m.owner.pass.takes.counts) taken-less

    no-more : sum_of p.queue.next (lanes_of_counts m.owner.pass.takes.counts) ≤ sum_of p.queue.taken (lanes_of_counts m.owner.pass.takes.counts)
    no-more = omega (arith, pushes-kept m.seats p.sent, all-kept, p.run closed, pushed, popped)

    -- of every lane as many were taken as were sent
    same-at : (l : Lane) (o : Option ℕ) → next_of l m.owner.pass.takes.counts ≡ o → p.queue.taken l ≡ p.queue.next l
    same-at l (Some n) is =
        of-found (λ k. p.queue.taken k ≡ p.queue.next k) m.owner.pass.takes.counts l n (sum_of-same p.queue.taken p.queue.next (lanes_of_counts m.owner.pass.takes.counts) taken-less no-more) is
    same-at l None is = let rest = owner-knows.rest p.takes l is in rest.3 ∙ sym rest.1

    pub nothing-queued : m.items ≡ []
    nothing-queued = no-envelope m.items (λ l. run-none (p.queue.taken l) (numbers_of l m.items) (p.queue.next l) (p.queue.in_turn l) (same-at l (next_of l m.owner.pass.takes.counts) refl))

    pub run-taken : m.owner.notes.run ≡ m.owner.pass.takes.pops
    run-taken = omega (arith, pushes-kept m.seats p.sent, all-kept, p.run closed, pushed, popped, none-less)

    -- each lane of a seat's is the owner's
    taken-at : (i : ℕ) (s : Side) → get_elem? (passes m.seats) i ≡ some s.pass → (l : Lane) (sent : ℕ) (ended : Bool) → sent_of l s.pass.sends.send_counts ≡ Some (sent, ended)
        → (o : Option ℕ) → next_of l m.owner.pass.takes.counts ≡ o → next_of l m.owner.pass.takes.counts ≡ Some sent
    taken-at i s at l sent ended is (Some n) there =
        let next = ((p.queue.seats (suc i) s.pass at).sends l sent ended is).1 in
        there ∙ ap Some (sym (owner-knows.known p.takes l n there) ∙ same-at l (Some n) there ∙ next)
    taken-at i s at l sent ended is None none =
        let owns = ((p.queue.seats (suc i) s.pass at).sends l sent ended is).0 in
        absurd (none-some (suc i) (sym (owner-knows.rest p.takes l none).0 ∙ owns))

    both : (sides : List Side) → Each (λ s. (l : Lane) (sent : ℕ) (ended : Bool) → sent_of l s.pass.sends.send_counts ≡ Some (sent, ended) → next_of l m.owner.pass.takes.counts ≡ Some sent) sides
        → Each (λ s. (s.notes.kept ≡ s.pass.sends.pushes) × (s.notes.late ≡ 0)) sides → Each (AllTaken m.owner.pass.takes) sides
    both [] taken kept = tt
    both (s ∷ ss) taken kept = (record { taken = taken.0; kept = kept.0.0; late = kept.0.1 }, both ss taken.1 kept.1)

    pub all-taken : Each (AllTaken m.owner.pass.takes) m.seats
    all-taken = both m.seats
        (by-place (λ s. (l : Lane) (sent : ℕ) (ended : Bool) → sent_of l s.pass.sends.send_counts ≡ Some (sent, ended) → next_of l m.owner.pass.takes.counts ≡ Some sent) m.seats
        (λ i s at l sent ended is. taken-at i s at l sent ended is (next_of l m.owner.pass.takes.counts) refl))
        (pushes-same m.seats p.sent (omega (arith, all-kept, p.run closed, pushed, popped, none-less)))

    -- an addition to the word is a trial
    pub none-admitted : (seat : AdmissionNotes) → ((tried seat (phase_in (slice_index m.words 0))).seen ≡ Closed) × ((tried seat (phase_in (slice_index m.words 0))).kept ≡ seat.kept)
    none-admitted seat =
        let found : phase_in (slice_index m.words 0) ≡ Closed = finds p.word ∙ sym phase-is ∙ closed in (
          ap (λ (ph : Status). (tried seat ph).seen) found,
          ap (λ (ph : Status). (tried seat ph).kept) found,
        )
