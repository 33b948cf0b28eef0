use mathlib.Core.List.{map-map}
use Rattle.std.specs.Prelude.{All}
use Rattle.std.proofs.Common.{◌≡◌, map, ap, sym, subst, ◌∙◌}
use Rattle.pl_queue.specs.Rule.{Each}
use Rattle.pl_words.specs.Admissions.{new_send_seat}
use Rattle.pl_queue_bench.proofs.SeatPairs.{each-paired}
use Rattle.pl_queue_bench.proofs.posts.ByHandClosable.open.Goals as goal

pub returns-clause-seats : goal.returns-clause-seats
returns-clause-seats g c =
    let name = c.in-Ok-new.admission.name in
    let made = g.M.Mailbox.ends.is_sender c.in-Ok.mailbox in
    let sends = g.M.Mailbox.ends.sends_of in
    let pairs = c.in-Ok-paired.seats.items in
    let told = c.in-Ok-paired.ensures in (
      each-paired (λ p. p.sender) (λ p. p.seat) made name pairs (subst (λ ss. Each made ss) (sym told.senders) c.in-Ok.ensures.senders.0)
          (subst (λ ss. All (λ s. s ≡ new_send_seat name s.number) ss) (sym told.seats) c.in-Ok-new.ensures.seats.1),
      sym (map-map sends (λ p. p.sender) pairs) ∙ ap (λ ss. map sends ss) told.senders ∙ c.in-Ok.ensures.senders.1,
    )
