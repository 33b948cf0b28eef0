-- Each step of a watermark keeps the rule.
use Rattle.std.proofs.Common.{◌≡◌, ◌≢◌, ℕ, ◌+◌, ◌*◌, ◌%◌, ◌==◌, Bool, true, false, List, get_or, set, sym, refl, ap, ◌∙◌, subst, ⊎_elim, arith, length-set, get_or-set_same}
use mathlib.Core.Option.{none, some}
use lib.ListN.{get_elem?}
use mir.Val.{bool_byte}
use Rattle.atomic_table.specs.Table.{step, keeps, Allows, Splits}
use Rattle.atomic_table.proofs.Lists.{at_set, at_snoc}
use Rattle.pl_words.specs.declared.watermark_steps.WatermarkNotes.{WatermarkNotes}
use Rattle.pl_words.specs.WatermarkRule.{bit, version_in, flag_in, IsSeat, IsWatermark, Sits, Rule, head_notes, reader_notes, MarkSet, Looked}

flag_in-word : (k : ℕ) (b : Bool) → flag_in (2 * k + bit b) ≡ b
flag_in-word k false = let e : (2 * k + 0) % 2 ≡ 0 = omega arith in ap (λ (z : ℕ). z == 1) e
flag_in-word k true = let e : (2 * k + 1) % 2 ≡ 1 = omega arith in ap (λ (z : ℕ). z == 1) e

version_in-word : (k : ℕ) (b : Bool) → version_in (2 * k + bit b) ≡ k
version_in-word k false = omega arith
version_in-word k true = omega arith

-- the seat `by` makes a step, from the notes v to the notes w
moves : (words : List ℕ) (notes : List WatermarkNotes) (r : IsWatermark words notes) (by : ℕ) (v w : WatermarkNotes) (x sets : ℕ) (flag : Bool) → get_elem? notes by ≡ some v
    → IsSeat r.head sets flag by w → ((at : ℕ) (u : WatermarkNotes) → at ≢ by → IsSeat r.head r.sets r.flag at u → IsSeat r.head sets flag at u) → x ≡ 2 * sets + bit flag
    → IsWatermark (set words 0 x) (set notes by w)
moves words notes r by v w x sets flag at fits others is = record {
  head = r.head;
  sets = sets;
  flag = flag;
  one = length-set words 0 x ∙ r.one;
  word = (let one = r.one in get_or-set_same words 0 x 0 (omega arith)) ∙ is;
  each = λ j u e. ⊎_elim (λ t. subst (λ (z : ℕ × WatermarkNotes). IsSeat r.head sets flag z.0 z.1) (λ i. (sym t.0 i, t.1 i)) fits) (λ t. others j u t.0 (r.each j u t.1)) (at_set notes by j w u e);
}

-- the word that the head sets, from the number that a flag is in code
pub word-set : (k : ℕ) (b : Bool) (n : ℕ) → n ≡ bool_byte b → 2 * k + n ≡ 2 * k + bit b
word-set k false n e = omega arith
word-set k true n e = omega arith

-- the head sets the mark
pub sets : (slots id old x : ℕ) (b : Bool) (me : Sits) → me.0.is_head ≡ true → me.0.sets ≡ old → x ≡ 2 * (old + 1) + bit b
    → Allows (Rule tt) slots id me 0 (λ _. x) (λ _. MarkSet (step slots 0 x 0 none) me x)
sets slots id old x b me is_head count is s r _ at _ =
    let v : WatermarkNotes = me.0 in
    let f = r.each id v at in
    let mine = f.heads is_head in
    let e : flag_in x ≡ b = ap flag_in is ∙ flag_in-word (old + 1) b in
    let w : WatermarkNotes = record v { sets = v.sets + 1; flag = flag_in x; steps = v.steps + 1 } in
    let m = mine.1 in
    let low = f.version in
    let more : v.sets + 1 ≡ old + 1 = omega arith in
    let fits : IsSeat r.head (old + 1) b id w = record { heads = λ _. (mine.0, more, e); version = omega arith; same = λ h. absurd (omega arith) } in
    let others : (j : ℕ) (u : WatermarkNotes) → j ≢ id → IsSeat r.head r.sets r.flag j u → IsSeat r.head (old + 1) b j u = λ j u away h.
    (let below = h.version in record { heads = λ o. absurd (away ((h.heads o).0 ∙ sym mine.0)); version = omega arith; same = λ q. absurd (omega arith) }) in
    (w, keeps, tt, moves s.words s.views r id v w x (old + 1) b at fits others is, refl)

-- a reader looks
pub looks : (slots id : ℕ) (me : Sits) → Allows (Rule tt) slots id me 0 (λ n. n) (Looked (step slots 0 0 0 none) me)
looks slots id me s r _ at _ =
    let v : WatermarkNotes = me.0 in
    let n : ℕ = get_or s.words 0 0 in
    let f = r.each id v at in
    let version : version_in n ≡ r.sets = ap version_in r.word ∙ version_in-word r.sets r.flag in
    let flag : flag_in n ≡ r.flag = ap flag_in r.word ∙ flag_in-word r.sets r.flag in
    let below = f.version in
    let w : WatermarkNotes = record v { version = version_in n; unwritable = flag_in n; steps = v.steps + 1 } in
    let fits : IsSeat r.head r.sets r.flag id w = record { heads = f.heads; version = omega arith; same = λ _. flag } in
    (w, keeps, tt, moves s.words s.views r id v w n r.sets r.flag at fits (λ j u away h. h) r.word, (refl, omega arith, λ e. f.same (e ∙ version) ∙ sym flag))

-- the head deals a reader's seat, before it has set the mark
pub deals : (id : ℕ) (v : WatermarkNotes) → v ≡ head_notes 0 false → Splits (Rule tt) id v v reader_notes
deals id v is s r at =
    let f = r.each id v at in
    let mine = f.heads (ap (λ (u : WatermarkNotes). u.is_head) is) in
    let none_set : r.sets ≡ 0 = sym mine.1 ∙ ap (λ (u : WatermarkNotes). u.sets) is in
    let writable : false ≡ r.flag = sym (sym mine.2 ∙ ap (λ (u : WatermarkNotes). u.flag) is) in
    record {
      head = r.head;
      sets = r.sets;
      flag = r.flag;
      each = λ j u e. ⊎_elim
          (λ there. ⊎_elim (λ t. subst (λ (z : ℕ × WatermarkNotes). IsSeat r.head r.sets r.flag z.0 z.1) (λ i. (sym t.0 i, t.1 i)) f) (λ t. r.each j u t.1) (at_set s.views id j v u there))
          (λ new. subst (λ (z : WatermarkNotes). IsSeat r.head r.sets r.flag j z) new (record { heads = λ h. absurd (no_head h); version = omega arith; same = λ _. writable })) (at_snoc (set s.views id v) reader_notes u j e);
      one = r.one;
      word = r.word;
    }
  where
    no_head : false ≡ true → ⊥
    no_head e = cc
