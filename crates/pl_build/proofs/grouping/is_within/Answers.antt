use Rattle.std.proofs.Common.{Bool, ◌&&◌, leb, arith, sym, ap, ◌∙◌, refl}
use Rattle.std.proofs.lemmas.Bool.{and_left, and_right, and_from, le-leb}
use Rattle.std.specs.List.{list_all}
use Rattle.pl_build.specs.declared.limits.TheConstants.{MAX_EXECUTORS}
use Rattle.pl_build.specs.Names.{is_name, names_and_sizes}
use Rattle.pl_build.specs.Refusals.{executor_count}
use Rattle.pl_build.proofs.GroupLemmas.{possible}
use Rattle.pl_build.proofs.grouping.is_within.Goals as goal

pub returns-then-loops-eq0 : goal.returns-then-loops-eq0
returns-then-loops-eq0 c = rw c.if-loops-eq0.true refl

pub returns-then-not-are_possible : goal.returns-then-not-are_possible
returns-then-not-are_possible c =
    sym (and_left _ _ (and_right (leb 1 c.args.loops) _ (possible c.args.groups.now ∙ sym c.are_possible.ensures ∙ c.if-not-are_possible.true)))

pub returns : goal.returns
returns c =
    let each = possible c.args.groups.now ∙ sym c.are_possible.ensures ∙ c.if-not-are_possible.false in
    let front = and_from (leb 1 c.args.loops) (list_all (λ group. is_name group.0 && leb 1 group.1) (names_and_sizes c.args.groups.now)) (le-leb 1 c.args.loops (omega arith)) each in
    c.are_few.ensures ∙ ap (λ (b : Bool). b && leb (executor_count c.args.loops (names_and_sizes c.args.groups.now)) MAX_EXECUTORS) (sym front)
