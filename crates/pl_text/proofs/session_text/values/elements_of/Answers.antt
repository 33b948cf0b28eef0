use Rattle.std.proofs.Common.{Ok, List, map, ap, sym}
use Rattle.serde_json.specs.Data.{Data}
use Rattle.serde_json.specs.View.{view}
use Rattle.serde_json.proofs.Views.{view-Array}
use Rattle.pl_text.specs.SessionReading.{elements_of}
use Rattle.pl_text.proofs.SessionElements.{elements_items_of}
use Rattle.pl_text.proofs.session_text.values.elements_of.Goals as goal

pub returns-in-Array : goal.returns-in-Array
unfolding elements_of
returns-in-Array c = rw (c.in-Array.is, view-Array c.in-Array.values) (ap (λ (ds : List Data). Ok ds) (sym (elements_items_of (map view c.in-Array.values.items))))
