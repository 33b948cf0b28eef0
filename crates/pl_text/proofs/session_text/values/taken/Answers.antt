use Rattle.std.proofs.Common.{option_map, ap, ◌∙◌}
use Rattle.serde_json.specs.View.{view}
use Rattle.pl_text.proofs.SessionMembers.{no_members_in, found_in, left_in}
use Rattle.pl_text.proofs.session_text.values.taken.Goals as goal

pub returns-clause-value : goal.returns-clause-value
returns-clause-value c =
    ap (option_map view) c.remove.ensures.value ∙ found_in c.in_ok-as_object_mut.field-0.now (view c.args.object.now) c.args.name.now c.in_ok-as_object_mut.ensures.value

pub returns-clause-others : goal.returns-clause-others
returns-clause-others c = left_in c.in_ok-as_object_mut.field-0.now c.remove.new.self (view c.args.object.now) c.args.name.now c.in_ok-as_object_mut.ensures.value c.remove.ensures.entries

pub returns-in_err-as_object_mut-clause-value : goal.returns-in_err-as_object_mut-clause-value
returns-in_err-as_object_mut-clause-value c = rw c.from_residual.ensures (no_members_in (view c.args.object.now) c.args.name.now c.in_err-as_object_mut.ensures.value).0

pub returns-in_err-as_object_mut-clause-others : goal.returns-in_err-as_object_mut-clause-others
returns-in_err-as_object_mut-clause-others c = (no_members_in (view c.args.object.now) c.args.name.now c.in_err-as_object_mut.ensures.value).1
