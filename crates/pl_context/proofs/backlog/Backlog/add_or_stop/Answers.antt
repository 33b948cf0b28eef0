use Rattle.std.proofs.Common.{refl, arith, rules}
use Rattle.pl_context.specs.declared.added.Added.TheVariants.{Last, Refused, Discarded}
use Rattle.pl_context.proofs.backlog.Backlog.add_or_stop.Goals as goal

pub returns-in-Data : goal.returns-in-Data
returns-in-Data g c =
    rw (← c.self.view_is) record { answer = Refused; items = search rules; stopped = search rules; discarded = search rules; last = search rules; room = search rules; back = search rules }

pub returns-in-Flags : goal.returns-in-Flags
returns-in-Flags g c =
    rw (← c.self.view_is) record { answer = Refused; items = search rules; stopped = search rules; discarded = search rules; last = search rules; room = search rules; back = search rules }

pub returns-then-has : goal.returns-then-has
returns-then-has g c =
    rw (← c.self.view_is) record { answer = Discarded; items = search rules; stopped = refl; discarded = search rules; last = search rules; room = omega arith; back = refl }

pub returns-then-is_ok : goal.returns-then-is_ok
returns-then-is_ok g c =
    rw (← c.self.view_is) record { answer = Last; items = search rules; stopped = refl; discarded = search rules; last = λ goes_on room. refl; room = search rules; back = refl }
