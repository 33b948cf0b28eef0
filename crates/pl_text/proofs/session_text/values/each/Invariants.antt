use Rattle.std.proofs.Common.{◌≡◌, map}
use Rattle.std.specs.Vec.Iter.{into_iter_items}
use Rattle.serde_json.specs.View.{view}
use Rattle.pl_text.specs.SessionReading.{each}
use Rattle.pl_text.proofs.SessionElements.{and_then}
use Rattle.pl_text.proofs.session_text.values.each.Given as goal

abbrev pub invariant-loop-value : goal.invariant-loop-value
invariant-loop-value g l =
    each (g.T.FromData.meaning l.version) (map view l.fn.values.items) ≡ and_then l.read.items (each (g.T.FromData.meaning l.version) (map view (into_iter_items l.value-iterator)))
