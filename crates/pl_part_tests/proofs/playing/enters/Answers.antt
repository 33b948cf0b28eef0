use Rattle.std.proofs.lemmas.Bool.{eq-eqb, ne_eqb}
use Rattle.pl_part_tests.proofs.SampleLemmas.{entered-data, entered-flags, entered-elsewhere}
use Rattle.pl_part_tests.proofs.playing.enters.Goals as goal

pub returns-then-lane-eq7 : goal.returns-then-lane-eq7
returns-then-lane-eq7 c = λ p s. entered-data p s c.args.lane c.in-Data.is (eq-eqb c.args.lane.channel 7 c.if-lane-eq7.true)

pub returns-else-lane-eq7 : goal.returns-else-lane-eq7
returns-else-lane-eq7 c = λ p s. entered-elsewhere p s c.args.lane (ne_eqb c.args.lane.channel 7 c.if-lane-eq7.false)

pub returns-then-lane-eq7-2 : goal.returns-then-lane-eq7-2
returns-then-lane-eq7-2 c = λ p s. entered-flags p s c.args.lane c.in-Flags.is (eq-eqb c.args.lane.channel 7 c.if-lane-eq7-2.true)

pub returns-else-lane-eq7-2 : goal.returns-else-lane-eq7-2
returns-else-lane-eq7-2 c = λ p s. entered-elsewhere p s c.args.lane (ne_eqb c.args.lane.channel 7 c.if-lane-eq7-2.false)
