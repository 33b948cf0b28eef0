-- What the calls of a transport accept, as a plan has them.
use Rattle.std.proofs.Common.{◌≡◌, ℕ, ◌+◌, ◌-◌, ◌<◌, ◌≤◌, ◌++◌, List, [], ◌∷◌, length, true, false, leb, Option, Some, None, sym, ap, ◌∙◌, ⊎_elim, arith, length-append}
use Rattle.std.proofs.lemmas.Bool.{cases_Bool, cond-true, cond-false, le-leb, leb-false, leb-true}
use Rattle.pl_event.specs.declared.events.Event.{Event}
use Rattle.pl_event.specs.Meaning.{IsPrefixOf}
use Rattle.pl_head.specs.Writes.{flushed_writes, bytes_of, bytes_offered, out}
use Rattle.pl_world.proofs.PlannedReports.{flushed-prefix}

-- ---- what a call offers

-- nothing more of a message that has left whole
offered-past : (start c : ℕ) (x : List ℕ) (ws : List (Option (List ℕ))) → leb (start + length x) c ≡ true → bytes_offered start c (Some x ∷ ws) ≡ bytes_offered (start + length x) c ws
offered-past start c x ws past = cond-true (leb (start + length x) c) (bytes_offered (start + length x) c ws) (start + length x - c) past

-- of a message that has not left whole the rest is offered
offered-here : (start c : ℕ) (x : List ℕ) (ws : List (Option (List ℕ))) → leb (start + length x) c ≡ false → c + bytes_offered start c (Some x ∷ ws) ≡ start + length x
offered-here start c x ws here =
    let left = leb-false (start + length x) c here in
    let is = cond-false (leb (start + length x) c) (bytes_offered (start + length x) c ws) (start + length x - c) here in
    omega (arith, left, is)

-- What is offered stays, however many writes come behind, as long as not all is accepted.
offered-more : (start accepted : ℕ) (ws vs : List (Option (List ℕ))) → start ≤ accepted → accepted < start + length (bytes_of ws) → bytes_offered start accepted (ws ++ vs) ≡ bytes_offered start accepted ws
offered-more start accepted [] vs from left = absurd (omega (arith, from, left))
offered-more start accepted (None ∷ ws) vs from left = offered-more start accepted ws vs from left
offered-more start accepted (Some b ∷ ws) vs from left = ⊎_elim
    (λ (past : leb (start + length b) accepted ≡ true).
    let size = length-append b (bytes_of ws) in
    let rest = offered-more (start + length b) accepted ws vs (leb-true (start + length b) accepted past) (omega (arith, left, size)) in
    offered-past start accepted b (ws ++ vs) past ∙ rest ∙ sym (offered-past start accepted b ws past))
    (λ (here : leb (start + length b) accepted ≡ false).
    cond-false (leb (start + length b) accepted) (bytes_offered (start + length b) accepted (ws ++ vs)) (start + length b - accepted) here
    ∙ sym (cond-false (leb (start + length b) accepted) (bytes_offered (start + length b) accepted ws) (start + length b - accepted) here))
    (cases_Bool (leb (start + length b) accepted))

-- A head that took the first events of its lane offers the same as one that took all of them.
pub offered-whole : (accepted : ℕ) (xs ys : List Event) → IsPrefixOf xs ys → accepted < length (out xs) → bytes_offered 0 accepted (flushed_writes ys) ≡ bytes_offered 0 accepted (flushed_writes xs)
offered-whole accepted xs ys p left =
    let longer = flushed-prefix xs p.0 in
    ap (λ (l : List Event). bytes_offered 0 accepted (flushed_writes l)) (sym p.1)
    ∙ ap (λ (ws : List (Option (List ℕ))). bytes_offered 0 accepted ws) (sym longer.1)
    ∙ offered-more 0 accepted (flushed_writes xs) longer.0 (omega arith) (omega (arith, left))

-- From a point further on the rest of one more message gets at least as far.
pub offered-further : (start a b : ℕ) (ws : List (Option (List ℕ))) → a ≤ b → a + bytes_offered start a ws ≤ b + bytes_offered start b ws
offered-further start a b [] least = omega (arith, least)
offered-further start a b (None ∷ ws) least = offered-further start a b ws least
offered-further start a b (Some x ∷ ws) least = ⊎_elim
    (λ (past : leb (start + length x) a ≡ true).
    let done = leb-true (start + length x) a past in
    let also = le-leb (start + length x) b (omega (arith, done, least)) in
    let is-a = offered-past start a x ws past in
    let is-b = offered-past start b x ws also in
    let rest = offered-further (start + length x) a b ws least in
    omega (arith, is-a, is-b, rest))
    (λ (here : leb (start + length x) a ≡ false).
    let is-a = offered-here start a x ws here in
    ⊎_elim
    (λ (past : leb (start + length x) b ≡ true). let done = leb-true (start + length x) b past in omega (arith, is-a, done))
    (λ (there : leb (start + length x) b ≡ false). let is-b = offered-here start b x ws there in omega (arith, is-a, is-b))
    (cases_Bool (leb (start + length x) b)))
    (cases_Bool (leb (start + length x) a))
