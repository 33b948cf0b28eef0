use Rattle.std.proofs.Common.{◌≡◌, inl, inr, true, false, Option, refl, sym, ap, subst, ◌∙◌, arith}
use Rattle.std.specs.Option.{option_map_or}
use Rattle.std.proofs.lemmas.Bool.{both_ways}
use Rattle.pl_head.specs.HeadStand.{HeadView}
use Rattle.pl_head.specs.InputStand.{steps_left}
use Rattle.pl_live.specs.LiveStand.{LiveView, LiveRests, left_in, open_in, parts_of}
use Rattle.pl_live.proofs.ReadMoves.{settles}
use Rattle.pl_live.proofs.live.Live.advance.Goals as goal

pub loop-init : goal.loop-init
loop-init g c =
    let left : left_in (parts_of c.args.self.now) ≡ steps_left c.head.result.now.input = ap (λ (o : Option (HeadView _)). option_map_or (λ (h : HeadView _). steps_left h.input) o 0) c.head.ensures in
    let count = c.steps_left-end.ensures in
    record {
      stands = λ p s. s;
      same = refl;
      left = inr (omega (arith, left, count));
      least = omega (arith, left, count);
    }

pub read-requires : goal.read-requires
read-requires g c = record {
  more = λ none.
      let same = c.write_out.ensures.reads.0 in
      let least = c.loop.invariant.least in
      let within = c.loop-test.true in
      absurd (omega (arith, none, same, least, within));
}

pub returns-then-is_laden-clause-rests : goal.returns-then-is_laden-clause-rests
returns-then-is_laden-clause-rests g c = λ p s. record {
  stands = c.write_out.ensures.stands p (c.loop.invariant.stands p s);
  settled = λ h w is consumed unfailed window. let laden = c.is_laden.ensures c.if-is_laden.true in absurd (omega (arith, laden, consumed));
}

pub returns-then-is_laden-clause-same : goal.returns-then-is_laden-clause-same
returns-then-is_laden-clause-same g c = c.write_out.ensures.same ∙ ap (λ (l : LiveView _ _). record l { stations = c.write_out.new.self.stations }) c.loop.invariant.same

pub returns-then-not-read-clause-rests : goal.returns-then-not-read-clause-rests
returns-then-not-read-clause-rests g c = λ p s.
    let loop = c.loop.invariant.stands p s in
    let stands = c.write_out.ensures.stands p loop in
    subst (LiveRests g.S.Stage.meaning g.S.Stage.stands_after g.T.Transport.state p) (sym (c.read.ensures.unmoved c.if-not-read.true)) (record {
      stands = stands;
      settled = λ h w is consumed unfailed window.
          let written = c.write_out.ensures.written p w h loop window is unfailed consumed in
          settles g.S.Stage.meaning g.S.Stage.stands_after g.S.Stage.is_spent g.T.Transport.state g.T.Transport.may_refuse p c.write_out.new.self stands h is unfailed written (elim (c.read.ensures.held c.if-not-read.true) [
            | inl closed ↦ inl closed
            | inr held ↦ absurd (held.1 h is written)
          ]);
    })

pub returns-then-not-read-clause-same : goal.returns-then-not-read-clause-same
returns-then-not-read-clause-same g c =
    c.read.ensures.same ∙ ap (λ (l : LiveView _ _). record l { stations = c.read.new.self.stations }) (c.write_out.ensures.same ∙ ap (λ (l : LiveView _ _). record l { stations = c.write_out.new.self.stations }) c.loop.invariant.same)

pub loop-preserved : goal.loop-preserved
loop-preserved g c =
    let i = c.loop.invariant in
    let w = c.write_out.ensures in
    let r = c.read.ensures in
    let same = w.reads.0 in
    let least = i.least in
    let one = r.least c.if-not-read.false in
    record {
      stands = λ p s. r.stands p (w.stands p (i.stands p s));
      same = r.same ∙ ap (λ (l : LiveView _ _). record l { stations = c.read.new.self.stations }) (w.same ∙ ap (λ (l : LiveView _ _). record l { stations = c.write_out.new.self.stations }) i.same);
      left = elim (r.read c.if-not-read.false) [
        | inl closed ↦ inl closed
        | inr less ↦ elim i.left [
          | inl closed ↦ absurd (both_ways (open_in (parts_of c.write_out.new.self)) (w.reads.1 ∙ closed) (r.open c.if-not-read.false))
          | inr all ↦ inr (omega (arith, less, same, all))
        ]
      ];
      least = omega (arith, least, one, same);
    }

pub returns-clause-rests : goal.returns-clause-rests
returns-clause-rests g c = λ p s.
    let i = c.loop.invariant in
    let e = c.read_end.ensures in
    let w = c.write_out-2.ensures in
    let before = e.stands p (i.stands p s) in
    let stands = w.stands p before in
    record {
      stands = stands;
      settled = λ h n is consumed unfailed window.
          settles g.S.Stage.meaning g.S.Stage.stands_after g.S.Stage.is_spent g.T.Transport.state g.T.Transport.may_refuse p c.write_out-2.new.self stands h is unfailed (w.written p n h before window is unfailed consumed) (elim i.left [
            | inl closed ↦ inl (w.reads.1 ∙ e.closed closed)
            | inr all ↦
                let over = c.loop-test.false in
                let within = c.loop.auto.counter-end in
                let none : left_in (parts_of c.loop.self) ≡ 0 = omega (arith, all, over, within) in
                inr (w.reads.0 ∙ e.left none, λ ends. w.reads.1 ∙ e.ended (sym (ap (λ (l : LiveView _ _). l.ends) (w.same ∙ ap (λ (l : LiveView _ _). record l { stations = c.write_out-2.new.self.stations }) e.same)) ∙ ends) none)
          ]);
    }

pub returns-clause-same : goal.returns-clause-same
returns-clause-same g c =
    c.write_out-2.ensures.same
    ∙ ap (λ (l : LiveView _ _). record l { stations = c.write_out-2.new.self.stations }) (c.read_end.ensures.same ∙ ap (λ (l : LiveView _ _). record l { stations = c.read_end.new.self.stations }) c.loop.invariant.same)
