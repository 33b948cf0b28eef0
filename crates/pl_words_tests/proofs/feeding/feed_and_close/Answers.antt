use Rattle.std.proofs.Common.{rules, arith, ◌≡◌, ap}
use Rattle.pl_words.specs.Admissions.{new_send_seat}
use Rattle.pl_words_tests.proofs.feeding.feed_and_close.Goals as goal

-- a new seat has kept nothing
pub returns-clause-sent : goal.returns-clause-sent
returns-clause-sent g c =
    let seats = c.in-Some-Some-Some in
    let name = c.in_ok-admission.admission.name in
    let first : seats.first ≡ new_send_seat name seats.first.number = search rules in
    let second : seats.second ≡ new_send_seat name seats.second.number = search rules in
    let third : seats.third ≡ new_send_seat name seats.third.number = search rules in
    let none_first : seats.first.kept ≡ 0 = ap (λ s. s.kept) first in
    let none_second : seats.second.kept ≡ 0 = ap (λ s. s.kept) second in
    let none_third : seats.third.kept ≡ 0 = ap (λ s. s.kept) third in
    omega (arith, c.in_ok-counted.ensures.kept, c.feed_beside-fed_first.ensures.fed.1, c.feed_beside-fed_first.ensures.other.0.1, c.feed_beside-fed_first.ensures.other.1.1)
