use Rattle.std.proofs.Common.{arith, rules, ◌∷◌, [], ◌<◌, ℕ, inl, inr, refl, ap, sym, subst, ◌∙◌, length, false, ◌≡◌, List}
use Rattle.pl_event.specs.declared.envelopes.Envelope.{Envelope}
use Rattle.pl_event.specs.declared.envelopes.Lane.{Lane}
use Rattle.pl_context.specs.Stops.{HasPlaces, StopsView}
use Rattle.pl_context.specs.WaitingViews.{stops_for}
use Rattle.pl_flow.specs.Flows.{IsNext}
use Rattle.pl_flow.specs.LanesViews.{taken_with}
use Rattle.pl_outbox.specs.OutboxViews.{way_to, reached, is_cut, Adds, Comes, RefusedBy}
use Rattle.pl_outbox.proofs.AddSteps.{refused-some}
use Rattle.pl_outbox.proofs.AdmissionLemmas.{admits_on, admits_front, never-spent}
use Rattle.pl_words.specs.declared.admission.Refused.{Refused}
use Rattle.pl_words.specs.declared.admission.Refused.TheVariants.{Closed}
use Rattle.pl_threads.proofs.RunLemmas.{front-written, own-number, own-good, own-taken, front-taken, away-there, away-next, away-placed, away-added, holds-on}
use Rattle.pl_threads.proofs.TurnLemmas.{nothing-none}
use Rattle.pl_threads.proofs.cores.Core.step.Goals as goal

-- ---- the executor that it enters

pub target-target-requires-clause-written : goal.target-target-requires-clause-written
target-target-requires-clause-written g c = front-written c.next.new.self c.requires.holds.runs c.in-Some.ensures.front c.in-Some.ensures.stopped

-- ---- a direct call

pub take-requires-clause-number : goal.take-requires-clause-number
take-requires-clause-number g c = own-number c.next.new.self c.requires.holds.runs c.in-Some.ensures.front c.in-Some.ensures.stopped (sym c.target-target.ensures ∙ c.if-target-self.true)

pub take-requires-clause-good : goal.take-requires-clause-good
take-requires-clause-good g c = own-good c.next.new.self c.requires.holds.runs c.in-Some.ensures.front c.in-Some.ensures.stopped (sym c.target-target.ensures ∙ c.if-target-self.true)

pub returns-then-target-self-clause-holds : goal.returns-then-target-self-clause-holds
returns-then-target-self-clause-holds g c =
    let holds = c.requires.holds in
    let take = c.take.ensures in
    let front = c.in-Some.ensures.front in
    let stopped = c.in-Some.ensures.stopped in
    let nodes = c.args.self.now.nodes in
    let v = (g.N.OwnNodes.view_of nodes).lanes in
    holds-on nodes c.next.new.self (taken_with v.taken c.in-Some.front) holds.at (subst (λ (s : StopsView). HasPlaces s v.places) (sym stopped) holds.places)
    (own-taken c.next.new.self holds.runs front stopped (sym c.target-target.ensures ∙ c.if-target-self.true)) (admits_front c.args.self.now.outboxes c.next.new.self holds.admits front stopped (omega arith))
    take.stands take.keeps take.taken take.placed take.makes (λ e. holds.why (sym take.refused ∙ e))

-- ---- to another executor

pub add-requires-clause-there : goal.add-requires-clause-there
add-requires-clause-there g c =
    subst (λ (k : ℕ). way_to c.args.self.now.outboxes k < length c.args.self.now.outboxes.outboxes) (sym c.target-target.ensures)
    (away-there c.next.new.self c.requires.holds.runs c.in-Some.ensures.front c.in-Some.ensures.stopped (λ e. c.if-target-self.false (c.target-target.ensures ∙ e)))

pub add-requires-clause-place : goal.add-requires-clause-place
add-requires-clause-place g c =
    subst (λ (k : ℕ). HasPlaces (stops_for c.args.self.now.outboxes.waiting (way_to c.args.self.now.outboxes k)) (c.in-Some.front.lane ∷ [])) (sym c.target-target.ensures)
    (away-placed c.next.new.self c.requires.holds.runs c.in-Some.ensures.front c.in-Some.ensures.stopped (λ e. c.if-target-self.false (c.target-target.ensures ∙ e)))

pub add-requires-clause-next : goal.add-requires-clause-next
add-requires-clause-next g c =
    let o = c.args.self.now.outboxes in
    subst (λ (k : ℕ). is_cut o (way_to o k) c.in-Some.front.lane ≡ false → IsNext g.W.Named.world (reached o (way_to o k) c.in-Some.front.lane) c.in-Some.front) (sym c.target-target.ensures)
    (away-next c.next.new.self c.requires.holds.runs c.in-Some.ensures.front c.in-Some.ensures.stopped (λ e. c.if-target-self.false (c.target-target.ensures ∙ e)))

-- it is closed
pub refuse-requires-clause-written : goal.refuse-requires-clause-written
refuse-requires-clause-written g c = front-written c.next.new.self c.requires.holds.runs c.in-Some.ensures.front c.in-Some.ensures.stopped

pub returns-in-Err-Closed-clause-holds : goal.returns-in-Err-Closed-clause-holds
returns-in-Err-Closed-clause-holds g c =
    let o = c.args.self.now.outboxes in
    let holds = c.requires.holds in
    let refuse = c.refuse.ensures in
    let front = c.in-Some.ensures.front in
    let stopped = c.in-Some.ensures.stopped in
    let adds = subst (λ (k : ℕ). Adds o (way_to o k) c.in-Some.front c.add.new.self) c.target-target.ensures c.add.ensures.adds in
    let nodes = c.args.self.now.nodes in
    let v = (g.N.OwnNodes.view_of nodes).lanes in
    holds-on nodes c.next.new.self v.taken holds.at (subst (λ (s : StopsView). HasPlaces s v.places) (sym stopped) holds.places)
    (away-added c.next.new.self holds.runs front stopped c.add.new.self (λ e. c.if-target-self.false (c.target-target.ensures ∙ e)) adds) (admits_front c.add.new.self c.next.new.self holds.admits front stopped adds.made)
    refuse.stands refuse.keeps refuse.taken refuse.placed refuse.makes
    (λ e. refused-some o c.add.new.self (way_to o c.target-target.result) (subst (λ (r : Refused). RefusedBy o (way_to o c.target-target.result) r c.add.new.self) c.in-Err-Closed.field-0-is c.in-Err-Closed.ensures.refused))

-- it waits there
pub returns-in-Ok-clause-holds : goal.returns-in-Ok-clause-holds
returns-in-Ok-clause-holds g c =
    let holds = c.requires.holds in
    let front = c.in-Some.ensures.front in
    let stopped = c.in-Some.ensures.stopped in
    let adds = subst (λ (k : ℕ). Adds c.args.self.now.outboxes (way_to c.args.self.now.outboxes k) c.in-Some.front c.add.new.self) c.target-target.ensures c.add.ensures.adds in record {
      stood = holds.stood;
      at = holds.at;
      places = subst (λ (s : StopsView). HasPlaces s (g.N.OwnNodes.view_of c.args.self.now.nodes).lanes.places) (sym stopped) holds.places;
      runs = away-added c.next.new.self holds.runs front stopped c.add.new.self (λ e. c.if-target-self.false (c.target-target.ensures ∙ e)) adds;
      why = λ e. adds.closed (holds.why e);
      admits = admits_front c.add.new.self c.next.new.self holds.admits front stopped adds.made;
    }

-- ---- where the front goes

-- a direct call
pub returns-then-target-self-clause-front : goal.returns-then-target-self-clause-front
returns-then-target-self-clause-front g c = λ _. (
  c.in-Some.front,
  record {
    rest = c.next.new.self;
    is_front = record { items = c.in-Some.ensures.front; stopped = c.in-Some.ensures.stopped; room = c.in-Some.ensures.room };
    here = λ e. (c.take.ensures.takes, refl);
    away = λ other. absurd (other (sym c.target-target.ensures ∙ c.if-target-self.true));
  },
)

-- the other executor is closed
pub returns-in-Err-Closed-clause-front : goal.returns-in-Err-Closed-clause-front
returns-in-Err-Closed-clause-front g c = λ _.
    let o = c.args.self.now.outboxes in (
      c.in-Some.front,
      record {
        rest = c.next.new.self;
        is_front = record { items = c.in-Some.ensures.front; stopped = c.in-Some.ensures.stopped; room = c.in-Some.ensures.room };
        here = λ e. absurd (c.if-target-self.false (c.target-target.ensures ∙ e));
        away = λ _. inr (
          subst (λ (k : ℕ). RefusedBy o (way_to o k) Closed c.add.new.self) c.target-target.ensures
              (subst (λ (r : Refused). RefusedBy o (way_to o c.target-target.result) r c.add.new.self) c.in-Err-Closed.field-0-is c.in-Err-Closed.ensures.refused),
          c.refuse.ensures.gave_up,
          c.refuse.ensures.refuses,
        );
      },
    )

-- it waits there
pub returns-in-Ok-clause-front : goal.returns-in-Ok-clause-front
returns-in-Ok-clause-front g c = λ _. (
  c.in-Some.front,
  record {
    rest = c.next.new.self;
    is_front = record { items = c.in-Some.ensures.front; stopped = c.in-Some.ensures.stopped; room = c.in-Some.ensures.room };
    here = λ e. absurd (c.if-target-self.false (c.target-target.ensures ∙ e));
    away = λ _. inl (subst (λ (k : ℕ). Comes c.args.self.now.outboxes (way_to c.args.self.now.outboxes k) c.in-Some.front c.add.new.self) c.target-target.ensures c.in-Ok.ensures.comes, refl, refl);
  },
)

-- ---- its seat is not spent

pub unreachable-requires : goal.unreachable-requires
unreachable-requires g c = never-spent c.requires.holds.admits (subst (λ (r : Refused). RefusedBy c.args.self.now.outboxes (way_to c.args.self.now.outboxes c.target-target.result) r c.add.new.self) c.in-Err-SeatSpent.field-0-is c.in-Err-SeatSpent.ensures.refused)

pub returns-in_default-clause-holds : goal.returns-in_default-clause-holds
returns-in_default-clause-holds g c = record {
  stood = c.requires.holds.stood;
  at = c.requires.holds.at;
  places = search rules;
  runs = search rules;
  why = c.requires.holds.why;
  admits = let n = ap (λ (zs : List Envelope). length zs) c.in_default.ensures.front in admits_on c.args.self.now.outboxes c.next.new.self c.requires.holds.admits c.next.ensures.stopped (omega (arith, n));
}

-- ---- what stays

pub returns-then-target-self-clause-keeps : goal.returns-then-target-self-clause-keeps
returns-then-target-self-clause-keeps g c = record { number = refl; nodes = c.take.ensures.keeps; sends = nothing-none c.args.self.now.outboxes }

pub returns-then-target-self-clause-taken : goal.returns-then-target-self-clause-taken
returns-then-target-self-clause-taken g c = front-taken c.next.new.self c.requires.holds.runs c.in-Some.ensures.front c.in-Some.ensures.stopped (g.N.OwnNodes.view_of c.take.new.self).lanes c.take.ensures.taken

pub returns-in-Err-Closed-clause-keeps : goal.returns-in-Err-Closed-clause-keeps
returns-in-Err-Closed-clause-keeps g c =
    let adds = c.add.ensures.adds in
    record { number = refl; nodes = c.refuse.ensures.keeps; sends = record { sends = adds.sends; tried = adds.tried } }

pub returns-in-Err-Closed-clause-taken : goal.returns-in-Err-Closed-clause-taken
returns-in-Err-Closed-clause-taken g c = λ l w. ap (λ (n : Lane → ℕ). n l) c.refuse.ensures.taken

pub returns-in-Ok-clause-keeps : goal.returns-in-Ok-clause-keeps
returns-in-Ok-clause-keeps g c =
    let adds = c.add.ensures.adds in
    record { number = refl; nodes = record { executor = refl; routes = refl; heads = refl }; sends = record { sends = adds.sends; tried = adds.tried } }
