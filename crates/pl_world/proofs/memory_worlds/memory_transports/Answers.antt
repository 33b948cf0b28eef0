use Rattle.std.proofs.Common.{◌≡◌, [], ◌∷◌, List, length, Some, None, ap, sym, ◌∙◌, subst, arith, length-append}
use Rattle.std.specs.Prelude.{All}
use Rattle.std.proofs.lemmas.List.Elements.{All-nil, All-push}
use Rattle.pl_head.specs.Transports.{MemoryTransportView, new_state}
use Rattle.pl_head.specs.contracts.transports.MemoryTransportTransport.TheImpl.{state-value}
use Rattle.pl_world.specs.declared.memory_worlds.TheConstants.{MEMORY_WINDOW}
use Rattle.pl_world.proofs.memory_worlds.memory_transports.Goals as goal

abbrev IsNew : MemoryTransportView → Type 0
IsNew transport = state-value.it transport ≡ new_state (Some MEMORY_WINDOW) None

pub loop-number-init : goal.loop-number-init
loop-number-init c =
    let none = c.in_ok-made.ensures.items in
    record {
      count = ap (λ (l : List MemoryTransportView). length l) none;
      each = subst (All IsNew) (sym none) (All-nil IsNew);
    }

pub loop-number-preserved : goal.loop-number-preserved
loop-number-preserved c =
    let inv = c.loop-number.invariant in
    let before = c.loop-number.made.items in
    let transport = c.new.result in
    let more = c.in_ok-push.ensures.items in
    let longer = ap (λ (l : List MemoryTransportView). length l) more in
    record {
      count = omega (arith, longer, inv.count, length-append before (transport ∷ []));
      each = subst (All IsNew) (sym more) (All-push IsNew before transport inv.each c.new.ensures.state);
    }

pub returns-clause-count : goal.returns-clause-count
returns-clause-count c =
    let all : c.loop-number._number ≡ c.args.count = omega arith in
    c.loop-number.invariant.count ∙ all

pub returns-clause-each : goal.returns-clause-each
returns-clause-each c = c.loop-number.invariant.each
