use Rattle.std.proofs.Common.{◌<◌, ℕ, length, refl, sym, subst, ap, ◌∙◌}
use Rattle.std.proofs.lemmas.Option.{slice_get_read, same_Some}
use Rattle.pl_context.specs.WaitingViews.{Holds}
use Rattle.pl_net.specs.Nets.{StationView, has_room}
use Rattle.pl_net.proofs.station.oldest_target.Goals as goal

pub oldest-requires : goal.oldest-requires
oldest-requires c = λ target below.
    let es = c.args.stations.now in
    let at = slice_get_read es (length es) c.args.origin c.index-stations-origin.result refl c.requires.there c.index-stations-origin.is in
    subst (λ (n : ℕ). target < n) (ap (λ (e : StationView). length e.waiting.targets) c.station.view_is ∙ c.requires.targets c.index-stations-origin.result at) below

pub returns : goal.returns
returns c = λ e entries is holds.
    let es = c.args.stations.now in
    let at = slice_get_read es (length es) c.args.origin c.index-stations-origin.result refl c.requires.there c.index-stations-origin.is in
    let same = same_Some e c.index-stations-origin.result (sym is ∙ at) ∙ sym c.station.view_is in
    c.oldest.ensures (has_room es c.args.capacity) entries (λ target answer below said. said) (subst (λ (x : StationView). Holds x.waiting entries) same holds)
