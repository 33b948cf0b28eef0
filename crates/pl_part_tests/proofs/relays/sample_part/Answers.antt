use Rattle.std.proofs.Common.{rules, length, ap, List}
use Rattle.pl_part_tests.specs.declared.relays.Relay.{Relay}
use Rattle.pl_part_tests.specs.SampleParts.{sample_world}
use Rattle.pl_part_tests.proofs.SampleLemmas.{sample-planned, made-sample, made-ready}
use Rattle.pl_part_tests.proofs.relays.sample_part.Goals as goal

pub whole-requires-clause-stages : goal.whole-requires-clause-stages
whole-requires-clause-stages c = record {
  new_inbound = search rules;
  new_outbound = search rules;
  planned = (
    sample_world,
    sample-planned c.in_ok-inbound.inbound.items c.in_ok-outbound.outbound.items _ _ _ c.in_ok-inbound.ensures.items c.in_ok-outbound.ensures.items
        c.new_relay.ensures c.new_relay-2.ensures c.new_relay-3.ensures,
  );
}

pub returns-clause-sample : goal.returns-clause-sample
returns-clause-sample c =
    let i = c.in_ok-inbound.inbound.items in
    let o = c.in_ok-outbound.outbound.items in
    let t = c.whole.ensures in
    made-sample c.whole.result i o (ap (λ (l : List Relay). length l) c.in_ok-inbound.ensures.items) t.tail c.new-head.result t.head c.in_ok-executors.executors.items (ap (λ (l : List Relay). length l) c.in_ok-outbound.ensures.items)
    c.in_ok-executors.ensures.items t.path t.filled

pub returns-clause-ready : goal.returns-clause-ready
returns-clause-ready c =
    let i = c.in_ok-inbound.inbound.items in
    let o = c.in_ok-outbound.outbound.items in
    let t = c.whole.ensures in
    let made = c.new-head.ensures in
    made-ready c.whole.result i o (ap (λ (l : List Relay). length l) c.in_ok-inbound.ensures.items) t.tail c.new-head.result t.head
    c.in_ok-plan.plan c.in_ok-plan.ensures
    (record { after = made.stands; reads = made.reads; entrance = made.entrance; at_hop = made.at_hop; flags = made.flags; taken = made.taken; standing = made.standing; failure = made.failure; few = made.few; gone = made.gone })
    (sample-planned i o _ _ _ c.in_ok-inbound.ensures.items c.in_ok-outbound.ensures.items c.new_relay.ensures c.new_relay-2.ensures c.new_relay-3.ensures)
    (returns-clause-sample c) t.new t.holds
