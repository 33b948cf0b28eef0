use Rattle.std.proofs.Common.{rules, ◌≡◌, ◌<◌, ◌^◌, ◌++◌, [], ◌∷◌, List, length, map, ap, refl, subst, sym, arith, length-append}
use Rattle.std.proofs.lemmas.List.Elements.{All-push, All-same}
use Rattle.pl_outbox.specs.declared.inbox.Inbox.{Inbox}
use Rattle.pl_exec.specs.Opening.{AreAllWays, CanOpen, IsColumn, IsOwn, Way, inbox_view, lanes_in, lanes_to, ways_in, ways_to}
use Rattle.pl_exec.proofs.Columns.{opened-next}
use Rattle.pl_exec.proofs.LaneTablesGrown.{table-rows}
use Rattle.pl_exec.proofs.ListSteps.{at-next, one-more}
use Rattle.pl_exec.proofs.Ways.{ways-lanes}
use Rattle.pl_exec.proofs.WaysMade.{ways-at, ways-mailbox, own-lanes}
use Rattle.pl_exec.proofs.opening.open_all.Goals as goal
use Rattle.pl_exec.proofs.opening.open_all.Goals.{In-Some}

pub ways_by_target-requires : goal.ways_by_target-requires
ways_by_target-requires g c = record { few = let size = table-rows c.args.lanes.items in omega (arith, size, c.requires.few) }

pub loop-ways-init : goal.loop-ways-init
loop-ways-init g c = record {
  table = subst (AreAllWays (lanes_in c.args.lanes.items)) (sym c.into_iter-ways-iterator.ensures.into_iter_gives.0) c.in_ok-ways-items.ensures;
  count = search rules;
  opened = search rules;
  capacity = search rules;
}

-- there are ways to the next target, for which a mailbox can be opened
mailbox : (g : _) (c : In-Some g) → (0 < length c.in-Some.ways.items) × (length c.in-Some.ways.items < 2 ^ 16) × CanOpen c.args.capacity (map (λ (w : Way). w.lanes) (ways_in c.in-Some.ways.items))
mailbox g c =
    let done = c.loop-ways.yielded in
    let left = c.loop-ways.ways-iterator.rest.items in
    ways-mailbox (lanes_in c.args.lanes.items) (done ++ left) c.args.capacity c.loop-ways.invariant.table c.requires (length done) c.in-Some.ways
    (at-next (done ++ left) done left c.next.new.self.rest.items c.in-Some.ways (length done) refl c.in-Some.ensures.steps.0 refl)

pub open-requires-clause-some : goal.open-requires-clause-some
open-requires-clause-some g c = (mailbox g (goal.at.open-requires-clause-some g c).In-Some).0

pub open-requires-clause-few : goal.open-requires-clause-few
open-requires-clause-few g c = (mailbox g (goal.at.open-requires-clause-few g c).In-Some).1

pub open-requires-clause-open : goal.open-requires-clause-open
open-requires-clause-open g c = (mailbox g (goal.at.open-requires-clause-open g c).In-Some).2

pub loop-ways-preserved : goal.loop-ways-preserved
loop-ways-preserved g c =
    let M = g.M.Mailbox in
    let inv = c.loop-ways.invariant in
    let lanes = lanes_in c.args.lanes.items in
    let left = c.loop-ways.ways-iterator.rest.items in
    let done = c.loop-ways.yielded in
    let ways = c.in-Some.ways in
    let inboxes = c.loop-ways.inboxes.items in
    let made = c.in_ok-inbox in
    let target = length inboxes in
    let at = at-next (done ++ left) done left c.next.new.self.rest.items ways target refl c.in-Some.ensures.steps.0 inv.count in
    let is = ways-at lanes (done ++ left) inv.table target ways at in
    let pushed = ap (λ (l : List (Inbox g.row.W.Denot g.row.M.Denot g.row.M-Sender.Denot g.row.M-Taker.Denot)). length l) c.in_ok-push.ensures.items in
    let holds = λ (i : Inbox g.row.W.Denot g.row.M.Denot g.row.M-Sender.Denot g.row.M-Taker.Denot). M.ends.capacity_of i.mailbox ≡ c.args.capacity in
    record {
      table = subst (AreAllWays lanes) (sym (one-more (done ++ left) done left c.next.new.self.rest.items ways c.in-Some.ensures.steps.0 refl)) inv.table;
      count = omega (arith, pushed, inv.count, length-append inboxes (made.inbox ∷ []), length-append done (ways ∷ []));
      opened =
          opened-next M.ends inbox_view lanes inboxes c.push.new.self.items c.loop-ways.ends.items c.push-in-loop-ways.new.self.items c.loop-ways.columns.items c.push-in-loop-ways-2.new.self.items
          made.inbox made.own_ends made.column (lanes_to lanes target) inv.opened is.0
          (own-lanes M.ends (inbox_view made.inbox) (map (λ (w : Way). w.lanes) (ways_to target (lanes_to lanes target))) (lanes_to lanes target) made.own_ends (ways-lanes target 0 (lanes_to lanes target))
          (subst (λ (ws : List Way). IsOwn M.ends (inbox_view made.inbox) (map (λ (w : Way). w.lanes) ws) made.own_ends) is.1 made.ensures.own))
          (subst (λ (ws : List Way). IsColumn M.ends (inbox_view made.inbox) ws made.column) is.1 made.ensures.column) c.in_ok-push.ensures.items c.in_ok-push-2.ensures.items c.in_ok-push-3.ensures.items;
      capacity = All-same holds c.push.new.self.items (inboxes ++ made.inbox ∷ []) c.in_ok-push.ensures.items (All-push holds inboxes made.inbox inv.capacity made.ensures.capacity);
    }

pub returns-clause-count : goal.returns-clause-count
returns-clause-count g c =
    let inv = c.loop-ways.invariant in
    let left = c.loop-ways.ways-iterator.rest in
    let size = inv.table.count in
    omega (arith, inv.count, size, length-append c.loop-ways.yielded left.items, c.in-None.ensures.steps.0, left.ok)
