-- What a turn sends, and what it leaves unsent.
use Rattle.std.proofs.Common.{◌≡◌, ◌⊎◌, ℕ, Bool, true, false, List, Option, Some, None, inl, inr, refl, ap, sym, subst, ◌∙◌}
use Rattle.std.specs.Prelude.{IfSome, IfNone}
use Rattle.pl_flow.specs.declared.head_moves.HeadMove.{HeadMove}
use Rattle.pl_flow.specs.declared.head_moves.HeadMove.TheVariants.{Read, Out}
use Rattle.pl_context.specs.WaitingViews.{Entry, Holds}
use Rattle.pl_words.specs.Admissions.{AdmittedView}
use Rattle.pl_outbox.specs.Tries.{is_tried}
use Rattle.pl_outbox.specs.OutboxViews.{OutboxesView, oldest_untried, SameFor, Sends, SendsNothing}
use Rattle.pl_outbox.proofs.HandSteps.{untried-same}
use Rattle.pl_threads.specs.NodesViews.{OwnNodesView, NodesActs}
use Rattle.pl_threads.specs.Running.{ExecutorView}
use Rattle.pl_threads.specs.Turning.{SendsAtMostOne, OnlyServes, Hands, TakesOne, Tasks, MovesHead, Moves, ServesOne, Turns}

pub nothing-none : (o : OutboxesView) → SendsNothing o o
nothing-none o = record { sends = λ y. refl; tried = refl }

pub nothing-then : (o p q : OutboxesView) → SendsNothing o p → SendsNothing p q → SendsNothing o q
nothing-then o p q f g = record { sends = λ y. g.sends y ∙ f.sends y; tried = g.tried ∙ f.tried }

-- ---- at most one is sent

pub hand-sends : (o p q : OutboxesView) (handed : Option ℕ) → IfSome handed (λ way. Sends o way p) → IfNone handed ((y : ℕ) → SameFor o p y)
    → ((entries : List (Entry AdmittedView)) → Holds o.waiting entries → handed ≡ oldest_untried p entries) → SendsNothing p q → SendsAtMostOne o q
hand-sends o p q None sent none oldest rest = inl (record {
  oldest = λ entries holds. untried-same p q entries (λ y. ap (λ ts. is_tried ts y) rest.tried) ∙ sym (oldest entries holds);
  sends = λ y. rest.sends y ∙ (none y).sends;
})
hand-sends o p q (Some way) sent none oldest rest = inr (record {
  way = way;
  oldest = λ entries holds. untried-same p q entries (λ y. ap (λ ts. is_tried ts y) rest.tried) ∙ sym (oldest entries holds);
  envelope = sent.envelope;
  behind = _;
  first = sent.waits;
  sends = rest.sends way ∙ sent.sends;
  others = λ y other. rest.sends y ∙ (sent.others y other).sends;
})

-- ---- what it does, one after another

one-or-none : {A B : Type 0} (b : Bool) → (b ≡ false → A) → (b ≡ true → B) → A ⊎ B
one-or-none false none one = inl (none refl)
one-or-none true none one = inr (one refl)

pub hands-one : {N : Type 0} (e e' : ExecutorView N) (handed : Option ℕ) → e' ≡ record e { outboxes = e'.outboxes } → IfSome handed (λ way. Sends e.outboxes way e'.outboxes)
    → IfNone handed ((y : ℕ) → SameFor e.outboxes e'.outboxes y) → Hands e e'
hands-one e e' None same sent none = record { same = same; sends = inl none }
hands-one e e' (Some way) same sent none = record { same = same; sends = inr (way, sent) }

only-none : {N : Type 0} (e : ExecutorView N) → OnlyServes e e
only-none e = record { number = refl; takes = refl; sends = nothing-none e.outboxes; owner = refl; turns = refl }

module _ {N : Type 0} (view_of : N → OwnNodesView) (acts : NodesActs N) where
  pub tasks-one : (e e' : ExecutorView N) (ran : Bool) → e'.number ≡ e.number → e'.owner ≡ e.owner → e'.turns ≡ e.turns → (ran ≡ false → e' ≡ e) → (ran ≡ true → TakesOne view_of acts e e')
      → Tasks view_of acts e e'
  tasks-one e e' ran number owner turns none one = record { number = number; owner = owner; turns = turns; takes = one-or-none ran none one }

  moves-none : (by : HeadMove) (at : ℕ) (e : ExecutorView N) → Moves view_of acts by at e e
  moves-none by at e = record { serves = only-none e; moves = inl refl }

  moves-one : (by : HeadMove) (at : ℕ) (e e' : ExecutorView N) (made : Bool) → OnlyServes e e' → (made ≡ false → e' ≡ e) → (made ≡ true → MovesHead view_of acts by at e e')
      → Moves view_of acts by at e e'
  moves-one by at e e' made serves none one = record { serves = serves; moves = one-or-none made none one }

  pub serves-none : (e : ExecutorView N) → ServesOne view_of acts e e
  serves-none e = record { at = 0; between = e; reads = moves-none Read 0 e; writes = moves-none Out 0 e }

  pub serves-write : (at : ℕ) (e e' : ExecutorView N) (made : Bool) → OnlyServes e e' → (made ≡ false → e' ≡ e) → (made ≡ true → MovesHead view_of acts Out at e e')
      → ServesOne view_of acts e e'
  serves-write at e e' made serves none one = record { at = at; between = e; reads = moves-none Read at e; writes = moves-one Out at e e' made serves none one }

  pub serves-both : (at : ℕ) (e b e' : ExecutorView N) (read written : Bool)
      → OnlyServes e b → (read ≡ false → b ≡ e) → (read ≡ true → MovesHead view_of acts Read at e b)
      → OnlyServes b e' → (written ≡ false → e' ≡ b) → (written ≡ true → MovesHead view_of acts Out at b e')
      → ServesOne view_of acts e e'
  serves-both at e b e' read written serves none one serves' none' one' =
      record { at = at; between = b; reads = moves-one Read at e b read serves none one; writes = moves-one Out at b e' written serves' none' one' }

  -- what changes its queue and the turn's number alone goes on with it
  pub turns-kept : (e m x : ExecutorView N) → Turns view_of acts e m → x ≡ m → m.owner ≡ e.owner → m.turns ≡ e.turns
      → Turns view_of acts e (record x { owner = e.owner; turns = e.turns })
  turns-kept e m x does same owner turns =
      let o = ap (λ (v : ExecutorView N). v.owner) same ∙ owner in
      let t = ap (λ (v : ExecutorView N). v.turns) same ∙ turns in
      let back : record x { owner = e.owner; turns = e.turns } ≡ x = λ i. record x { owner = sym o i; turns = sym t i } in
      subst (λ (v : ExecutorView N). Turns view_of acts e v) (sym (back ∙ same)) does

  pub turns-closed : (e m x y : ExecutorView N) (turn : ℕ) → Turns view_of acts e m → x ≡ m → m.owner ≡ e.owner → m.turns ≡ e.turns
      → y ≡ record x { owner = y.owner; turns = turn } → Turns view_of acts e (record y { owner = e.owner; turns = e.turns })
  turns-closed e m x y turn does same owner turns closed =
      subst (λ (v : ExecutorView N). Turns view_of acts e v) (sym (ap (λ (v : ExecutorView N). record v { owner = e.owner; turns = e.turns }) closed))
      (turns-kept e m x does same owner turns)
