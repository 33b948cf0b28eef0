use Rattle.std.proofs.Common.{◌≡◌, [], ◌∷◌, ◌++◌, false, not, sym, ap, subst, ◌∙◌}
use Rattle.std.proofs.lemmas.Bool.{and_parts}
use Rattle.pl_event.specs.Inputs.{Bursts}
use Rattle.pl_head.specs.InputStand.{InputView, InputStands, fed_plan, fed_input}
use Rattle.pl_head.proofs.FedPlans.{fed_stands}
use Rattle.pl_head.proofs.inputs.Input.feed.Goals as goal

pub returns-clause-feeds : goal.returns-clause-feeds
returns-clause-feeds c =
    let inside = c.self.inside in
    let fed : fed_input c.args.burst c.args.self.now ≡ record { port = inside.port; left = c.push_back.new.self.items; steps = inside.steps; aborts = inside.aborts } =
    ap (λ (r : InputView). fed_input c.args.burst r) (sym c.self.view_is)
    ∙ ap (λ (l : Bursts). record { port = inside.port; left = l; steps = inside.steps; aborts = inside.aborts }) (sym c.in_ok-push_back.ensures.items) in
    record {
      fed = sym fed;
      stands = λ bursts reads s.
          subst (λ (r : InputView). InputStands (fed_plan (bursts ++ c.args.burst ∷ [])) reads false r) fed
          (fed_stands bursts c.args.burst reads c.args.self.now (and_parts c.args.self.now.port.is_open (not c.args.self.now.aborts) c.requires.more).0 s);
    }
