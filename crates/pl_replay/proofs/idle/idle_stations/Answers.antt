use Rattle.std.specs.Global.{Vec}
use Rattle.std.specs.List.{range_with_len}
use Rattle.std.proofs.Common.{ℕ, List, length, map, ap, ◌∙◌, arith}
use Rattle.std.proofs.lemmas.List.{length-map}
use Rattle.std.proofs.lemmas.List.FromFn.{length-map-range_with_len}
use Rattle.pl_channel.specs.Ways.{lanes_between}
use Rattle.pl_replay.proofs.IdleStations.{idle-all, idle-made, idle-push}
use Rattle.pl_channel.proofs.PlaceTables.{items, row-is}
use Rattle.pl_replay.proofs.idle.idle_stations.Goals as goal

pub loop-places-preserved : goal.loop-places-preserved
loop-places-preserved g c =
    let so_far = c.loop-places in
    let ps = c.args.parts.now in
    let from = λ (x : ℕ). map (λ y. length (lanes_between ps x y)) (range_with_len 0 c.args.count) in
    let table = ap (λ (rows : List (Vec ℕ)). map items rows) c.deref-places-items.ensures.value ∙ c.in_ok-table.ensures in
    let places = c.as_slice.ensures.value ∙ row-is c.deref-places-items.result.now so_far.places-index c.places-item.result c.loop-places-test.true c.places-item.is from c.args.count table in
    let made = c.in_ok-new.ensures in
    record {
      size = omega (arith, c.in_ok-push.ensures.len, so_far.invariant.size);
      each =
          idle-push ps c.args.count so_far.places-index so_far.stations.items c.push.new.self.items c.in_ok-new.field-0 (omega (arith, so_far.invariant.size)) c.in_ok-push.ensures.items so_far.invariant.each
          (idle-made ps c.args.count so_far.places-index c.as_slice.result.now c.in_ok-new.field-0 places made.queue made.waiting made.places made.added);
    }

pub returns : goal.returns
returns g c =
    let rows = c.deref-places-items.result.now in
    let table = ap (λ (l : List (Vec ℕ)). length (map items l)) c.deref-places-items.ensures.value ∙ ap (λ (l : List (List ℕ)). length l) c.in_ok-table.ensures in
    let count = length-map-range_with_len (λ (x : ℕ). map (λ y. length (lanes_between c.args.parts.now x y)) (range_with_len 0 c.args.count)) 0 c.args.count in
    idle-all c.args.parts.now c.args.count c.loop-places.stations.items (omega (arith, c.loop-places.invariant.size, c.loop-places-test.false, table, count, length-map rows items)) c.loop-places.invariant.each
