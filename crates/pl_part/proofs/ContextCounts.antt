-- A context moves: its ports were given what came on the list.
use Rattle.std.proofs.Common.{◌≡◌, ◌+◌, ◌≤◌, Bool, true, false, cond, List, [], ◌∷◌, ◌++◌, length, refl, ap, ◌∙◌, ⊎_elim, arith, length-append}
use Rattle.std.proofs.lemmas.Bool.{cases_Bool}
use Rattle.pl_event.specs.declared.events.Event.{Event}
use Rattle.pl_event.specs.declared.outcomes.Cause.{Cause}
use Rattle.pl_event.specs.declared.outcomes.Cause.TheVariants.{Memory}
use Rattle.pl_event.specs.declared.envelopes.Kind.{Kind}
use Rattle.pl_event.specs.declared.envelopes.Kind.TheVariants.{Data, Flags}
use Rattle.pl_event.specs.declared.envelopes.Item.{Item}
use Rattle.pl_event.specs.declared.envelopes.Item.TheVariants as item
use Rattle.pl_event.specs.declared.envelopes.Envelope.{Envelope}
use Rattle.pl_event.specs.Meaning.{Meaning}
use Rattle.pl_context.specs.declared.added.Added.{Added}
use Rattle.pl_context.specs.declared.added.Added.TheVariants.{Last, Refused, Discarded}
use Rattle.pl_context.specs.declared.ports.Port.{Port}
use Rattle.pl_context.specs.declared.standing.Standing.{Standing}
use Rattle.pl_context.specs.declared.standing.Standing.TheVariants as standings
use Rattle.pl_context.specs.declared.standing.Took.{Took}
use Rattle.pl_context.specs.declared.standing.Took.TheVariants as took
use Rattle.pl_context.specs.Standings.{is_over, has_failed}
use Rattle.pl_context.specs.Stops.{StopsView, has_stopped}
use Rattle.pl_context.specs.OutputsViews.{OutputsView, PutsAll, added_items}
use Rattle.pl_context.specs.Ports.{FlagPasses, numbered, offered, put_out, port_after, flag_port_after}
use Rattle.pl_context.specs.ContextViews.{ContextView}
use Rattle.pl_context.specs.Contexts.{GivesLast, TakesItem, TakesFlag, counted, ups, downs, last_item, offers}
use Rattle.pl_context.proofs.PortLemmas.{length-numbered}
use Rattle.pl_context.proofs.WaitingCalls.{added-few}
use Rattle.pl_flow.proofs.ItemLemmas.{stand_in-flags}
use Rattle.pl_part.specs.Taking.{ContextTakes}
use Rattle.pl_part.specs.Counts.{context_done}

-- ---- what comes on a list

-- no more than was put
pub puts-length : (es : List Envelope) (b a : OutputsView) → PutsAll b es a → length a.items ≤ length b.items + length es
puts-length [] b a puts = let same = ap length puts.0 in omega (arith, same)
puts-length (e ∷ es) b a puts =
    let rest = puts-length es puts.1 a puts.3 in
    let more = ap length puts.2.items ∙ length-append b.items (added_items puts.0 e) in
    let one = added-few puts.0 e in
    omega (arith, rest, more, one)

-- what a port offers, it was given
pub offered-length : (p : Port) (is : List Item) → p.made + length (offered p is) ≡ (port_after is p).made
offered-length p is = by p.is_open
  where
    by : (o : Bool) → p.made + length (cond o (numbered p.lane p.made is) []) ≡ cond o (p.made + length is) p.made
    by true = let all = length-numbered p.lane p.made is in omega (arith, all)
    by false = omega arith

put-length : (s : StopsView) (p : Port) (is : List Item) → p.made + length (put_out s p is) ≤ (port_after is p).made
put-length s p is = by p.is_open (has_stopped s p.lane)
  where
    by : (o t : Bool) → p.made + length (cond o (cond t [] (numbered p.lane p.made is)) []) ≤ cond o (p.made + length is) p.made
    by true true = omega arith
    by true false = let all = length-numbered p.lane p.made is in omega (arith, all)
    by false t = omega arith

-- a flag that comes on the list was given to its port
pub flag-length : (p : Port) → p.lane.kind ≡ Flags → (value : Bool) (b a : OutputsView) (p' : Port) → FlagPasses p value b p' a → p.made + length a.items ≤ p'.made + length b.items
flag-length p kind value b a p' f = ⊎_elim
    (λ (o : p.is_open ≡ true).
    let put = f.put o in
    let more = ap length put.2.items ∙ length-append b.items (added_items put.0 (record { lane = p.lane; number = p.made; item = item.Flag value })) in
    let now = ap (λ (q : Port). q.made) put.1 in
    let one = by put.0 in
    omega (arith, more, now, one))
    (λ (o : p.is_open ≡ false).
    let none = f.closed o in
    let now = ap (λ (q : Port). q.made) none.0 in
    let same = ap (λ (y : OutputsView). length y.items) none.1 in
    omega (arith, now, same))
    (cases_Bool p.is_open)
  where
    by : (answer : Added) → p.made + length (added_items answer (record { lane = p.lane; number = p.made; item = item.Flag value })) ≤ (flag_port_after answer p).made
    by Last = omega arith
    by Refused = let none = ap length (stand_in-flags (record { lane = p.lane; number = p.made; item = item.Flag value }) kind) in omega (arith, none)
    by Discarded = omega arith

-- ---- a context

module _ {S : Type 0} (meaning : S → Meaning) (stands_after : S → List Event → Type 0) (is_spent : S → Bool) (c : ContextView S) (b a : OutputsView) (c' : ContextView S) where
  closes-more : (standing : Standing) (z : ContextView S) → GivesLast standing z b c' a → context_done z + length a.items ≤ context_done c' + length b.items
  closes-more standing z k =
      let last = last_item standing ∷ [] in
      let now = ap (λ (y : ContextView S). context_done y) k.context in
      let put = puts-length (offers z.up z.down last last) b a k.out in
      let both = length-append (offered z.up last) (offered z.down last) in
      let up = offered-length z.up last in
      let down = offered-length z.down last in
      omega (arith, now, put, both, up, down)

  -- nothing came on the list
  none-more : (z : ContextView S) → c' ≡ z → a ≡ b → context_done z + length a.items ≤ context_done c' + length b.items
  none-more z is none =
      let now = ap (λ (y : ContextView S). context_done y) is in
      let same = ap (λ (y : OutputsView). length y.items) none in
      omega (arith, now, same)

  item-more : (i : Item) (xs : List Event) → stands_after c.stage xs → (answer : Took) → TakesItem meaning stands_after is_spent (counted Data c) i b answer c' a
      → context_done (counted Data c) + length a.items ≤ context_done c' + length b.items
  item-more (item.Event x) xs at took.Ran t =
      let U = ups (meaning c.stage) xs x in
      let D = downs (meaning c.stage) xs x in
      let now = ap (λ (y : ContextView S). context_done y) t.same in
      let up_is = ap (λ (p : Port). p.made) (t.up xs at) in
      let down_is = ap (λ (p : Port). p.made) (t.down xs at) in
      let up = put-length b.stopped c.up U in
      let down = put-length b.stopped c.down D in
      let put = ap length (t.out xs at).items ∙ length-append b.items (put_out b.stopped c.up U ++ put_out b.stopped c.down D) in
      let both = length-append (put_out b.stopped c.up U) (put_out b.stopped c.down D) in
      omega (arith, now, up_is, down_is, up, down, put, both)
  item-more (item.Event x) xs at (took.Failed cause) t = closes-more (standings.Failed Memory) (record (counted Data c) { stage = c'.stage }) t.1.closes
  item-more (item.Event x) xs at took.Ended t = absurd t
  item-more (item.Event x) xs at took.Dropped t = absurd t
  item-more item.End xs at answer t = closes-more standings.Ended (counted Data c) t.1
  item-more (item.Fail cause) xs at answer t = closes-more (standings.Failed cause) (counted Data c) t.1
  item-more (item.Flag value) xs at answer t = none-more (counted Data c) t.1 t.2

  flag-more : c.flags.lane.kind ≡ Flags → (i : Item) (answer : Took) → TakesFlag (counted Flags c) i b answer c' a → context_done (counted Flags c) + length a.items ≤ context_done c' + length b.items
  flag-more kind (item.Flag value) answer t =
      let now = ap (λ (y : ContextView S). context_done y) t.1 in
      let put = flag-length c.flags kind value b a c'.flags t.2 in
      omega (arith, now, put)
  flag-more kind (item.Event x) answer t = none-more (counted Flags c) t.1 t.2
  flag-more kind item.End answer t = none-more (counted Flags c) t.1 t.2
  flag-more kind (item.Fail cause) answer t = none-more (counted Flags c) t.1 t.2

  -- it was given what came, and took an item more
  pub context-more : (e : Envelope) (answer : Took) → (c.standing ≡ standings.Open → (xs : List Event) × stands_after c.stage xs) → c.flags.lane.kind ≡ Flags
      → ContextTakes meaning stands_after is_spent c e b answer c' a → context_done c + length a.items + 1 ≤ context_done c' + length b.items
  context-more e answer some kind t = by e.lane.kind refl c.standing refl
    where
      one : (k : Kind) → context_done (counted k c) + length a.items ≤ context_done c' + length b.items → context_done c + length a.items + 1 ≤ context_done c' + length b.items
      one Data more = omega (arith, more)
      one Flags more = omega (arith, more)

      by : (k : Kind) → e.lane.kind ≡ k → (s : Standing) → c.standing ≡ s → context_done c + length a.items + 1 ≤ context_done c' + length b.items
      by Data is standings.Open live = let at = some live in one Data (item-more e.item at.0 at.1 answer (t.open_item is live))
      by Data is standings.Ended over = let n = t.ended is over in one Data (none-more (counted Data c) n.1 n.2)
      by k is (standings.Failed cause) over = let n = t.dropped (ap has_failed over) in one e.lane.kind (none-more (counted e.lane.kind c) n.1 n.2)
      by Flags is standings.Open live = one Flags (flag-more kind e.item answer (t.flags is (ap has_failed live)))
      by Flags is standings.Ended live = one Flags (flag-more kind e.item answer (t.flags is (ap has_failed live)))

  -- it was made to fail
  pub failed-more : (cause : Cause) → (c.standing ≡ standings.Open → GivesLast (standings.Failed cause) (record c { failed_by_call = true }) b c' a) → (is_over c.standing ≡ true → (c' ≡ c) × (a ≡ b))
      → context_done c + length a.items ≤ context_done c' + length b.items
  failed-more cause closes over = by c.standing refl
    where
      by : (s : Standing) → c.standing ≡ s → context_done c + length a.items ≤ context_done c' + length b.items
      by standings.Open live = closes-more (standings.Failed cause) (record c { failed_by_call = true }) (closes live)
      by standings.Ended is = let n = over (ap is_over is) in none-more c n.0 n.1
      by (standings.Failed other) is = let n = over (ap is_over is) in none-more c n.0 n.1
