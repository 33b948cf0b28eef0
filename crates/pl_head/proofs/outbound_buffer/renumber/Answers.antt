use Rattle.std.proofs.Common.{◌≡◌, ℕ, ◌+◌, ◌-◌, ◌<◌, ◌≤◌, All, List, [], ◌∷◌, ◌++◌, length, take, drop, get_or, set, ap, sym, ◌∙◌, arith, refl}
use Rattle.std.proofs.lemmas.List.{length-map, length-set, get_or-map, map_more, take_all, take_more_set, drop-set-lt}
use Rattle.pl_head.specs.declared.outbound_buffer.Entry.{Entry}
use Rattle.pl_head.specs.WaitingMessages.{entry_numbers, renumbered}
use Rattle.pl_head.proofs.Renumbering.{same-at, same-behind}
use Rattle.pl_head.proofs.outbound_buffer.renumber.Goals as goal

-- the message at a place, of those before and of those that are left
module _ (first : ℕ) (old now : List Entry) (i : ℕ) (x : Entry) (within : i < length old) (left : drop i now ≡ drop i old) (is : x ≡ get_or now i x) where
  here : x ≡ get_or old i x
  here = is ∙ same-at now old i left x

  least-at : All (λ n. first ≤ n) (entry_numbers old) → first ≤ x.number
  least-at least =
      let number = get_or-map (λ (e : Entry). e.number) old i x 0 within in
      let own = ap (λ (e : Entry). e.number) here in
      omega (arith, least i 0 (omega (arith, within, length-map old (λ (e : Entry). e.number))), number, own)

  abbrev moved : Entry
  moved = record x { number = x.number - first }

  done-more : i < length now → take i now ≡ renumbered first (take i old) → take (i + 1) (set now i moved) ≡ renumbered first (take (i + 1) old)
  done-more there done =
      take_more_set now i moved there ∙ ap (λ (es : List Entry). es ++ moved ∷ []) done
      ∙ (λ k. renumbered first (take i old) ++ record (here k) { number = (here k).number - first } ∷ [])
      ∙ sym (map_more (λ (e : Entry). record e { number = e.number - first }) old i x within)

pub loop-i-init : goal.loop-i-init
loop-i-init c = record { length = refl; done = refl; left = refl; len = refl; capacity = refl }

pub index_mut-requires : goal.index_mut-requires
index_mut-requires c = omega (arith, c.loop-i-test.true, c.len-i-end.ensures, c.loop-i.invariant.len)

pub overflow_sub-index_mut : goal.overflow_sub-index_mut
overflow_sub-index_mut c =
    let old = c.args.entries.now.items in
    let within : c.loop-i.i < length old = omega (arith, c.loop-i-test.true, c.len-i-end.ensures, c.args.entries.now.ok.0) in
    least-at c.args.first old c.loop-i.entries.items c.loop-i.i c.index_mut.result.now within c.loop-i.invariant.left c.index_mut.ensures.value c.requires.least

pub loop-i-preserved : goal.loop-i-preserved
loop-i-preserved c =
    let old = c.args.entries.now.items in
    let now = c.loop-i.entries.items in
    let i = c.loop-i.i in
    let x = c.index_mut.result.now in
    let before = c.loop-i.invariant in
    let within : i < length old = omega (arith, c.loop-i-test.true, c.len-i-end.ensures, c.args.entries.now.ok.0) in
    let new = moved c.args.first old now i x within before.left c.index_mut.ensures.value in
    record {
      length = length-set now i new ∙ before.length;
      done = done-more c.args.first old now i x within before.left c.index_mut.ensures.value (omega (arith, within, before.length)) before.done;
      left = drop-set-lt (i + 1) now i new (omega arith) ∙ same-behind now old i before.left;
      len = before.len;
      capacity = before.capacity;
    }

pub returns-clause-items : goal.returns-clause-items
returns-clause-items c =
    let old = c.args.entries.now.items in
    let past : length old ≤ c.loop-i.i = omega (arith, c.loop-i-test.false, c.len-i-end.ensures, c.args.entries.now.ok.0) in
    sym (take_all c.loop-i.i c.loop-i.entries.items (omega (arith, past, c.loop-i.invariant.length))) ∙ c.loop-i.invariant.done ∙ ap (λ (es : List Entry). renumbered c.args.first es) (take_all c.loop-i.i old past)
