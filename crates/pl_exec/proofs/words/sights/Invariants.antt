use Rattle.std.proofs.Common.{◌≡◌, ◌++◌, length, map}
use Rattle.pl_exec.proofs.words.sights.Given as goal

abbrev pub invariant-loop-mark : goal.invariant-loop-mark
invariant-loop-mark l = record {
  marks : map (λ s. s.mark) l.sights.items ++ l.mark-iterator.a.rest.items ≡ l.fn.marks.items;
  promises : map (λ s. s.promises) l.sights.items ++ l.mark-iterator.b.rest.items ≡ l.fn.promises.items;
  left : length l.mark-iterator.b.rest.items ≡ length l.mark-iterator.a.rest.items;
}
