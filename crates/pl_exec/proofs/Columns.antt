-- The columns of all targets, as they are opened.
use Rattle.std.proofs.Common.{◌≡◌, ℕ, ◌<◌, List, [], ◌∷◌, ◌++◌, length, map, get_or, slice_get, Some, refl, ap, sym, ◌∙◌, subst, arith, length-append}
use Rattle.std.proofs.lemmas.List.{length-map, map-append}
use Rattle.std.proofs.lemmas.Option.{slice_get-get_or, slice_get_read, get_or_from_slice_get}
use Rattle.pl_event.proofs.Lists.{All-at, map-at}
use Rattle.pl_event.specs.declared.envelopes.Lane.{Lane}
use Rattle.pl_queue.specs.declared.views.SenderView.{SenderView}
use Rattle.pl_queue.specs.Ends.{MailboxEnds}
use Rattle.pl_queue.specs.Views.{fresh_sends}
use Rattle.pl_outbox.specs.declared.inbox.Inbox.{Inbox}
use Rattle.pl_exec.proofs.ListSteps.{both-push}
use Rattle.pl_exec.specs.Opening.{LaneTable, lanes_to, IsSquare, InboxView, OwnView, ColumnView, ways_to, inbox_view, IsOwn, IsColumn, AreOpened}

-- ---- the lanes to a target

pub sends-in : {A : Type 0} (f : A → List Lane) (xs : List A) → map (λ x. fresh_sends (f x)) xs ≡ map fresh_sends (map f xs)
sends-in f [] = refl
sends-in f (x ∷ xs) = ap (λ (l : List SenderView). fresh_sends (f x) ∷ l) (sends-in f xs)

-- each target has a list for each executor
pub square-at : (lanes : LaneTable) (target : ℕ) → IsSquare lanes → target < length lanes → length (lanes_to lanes target) ≡ length lanes
square-at lanes target square there =
    All-at (λ (senders : List (List Lane)). length senders ≡ length lanes) lanes target (lanes_to lanes target) square (slice_get-get_or lanes target [] there)

-- ---- one inbox more

module _ {M S T : Type 0} (ends : MailboxEnds M S T) where
  opened-push : (lanes : LaneTable) (inboxes : List (InboxView M)) (all : List (OwnView T)) (columns : List (ColumnView S)) (inbox : InboxView M) (own : OwnView T) (column : ColumnView S) (senders : List (List Lane))
      → AreOpened ends lanes inboxes all columns → lanes_to lanes (length inboxes) ≡ senders → IsOwn ends inbox senders own → IsColumn ends inbox (ways_to (length inboxes) senders) column
      → AreOpened ends lanes (inboxes ++ inbox ∷ []) (all ++ own ∷ []) (columns ++ column ∷ [])
  opened-push lanes inboxes all columns inbox own column senders are next is_own is_column = record {
    count = longer all own are.count;
    own = both-push (λ target i o. IsOwn ends i (lanes_to lanes target) o) inboxes all inbox own (sym are.count) are.own (subst (λ (l : List (List Lane)). IsOwn ends inbox l own) (sym next) is_own);
    whole = record {
      count = longer columns column are.whole.count;
      each = both-push (λ target i c. IsColumn ends i (ways_to target (lanes_to lanes target)) c) inboxes columns inbox column (sym are.whole.count) are.whole.each
          (subst (λ (l : List (List Lane)). IsColumn ends inbox (ways_to (length inboxes) l) column) (sym next) is_column);
    };
  }
    where
      longer : {A : Type 0} (xs : List A) (x : A) → length xs ≡ length inboxes → length (xs ++ x ∷ []) ≡ length (inboxes ++ inbox ∷ [])
      longer xs x same = omega (arith, same, length-append xs (x ∷ []), length-append inboxes (inbox ∷ []))

  -- the same of what a list of inboxes shows
  pub opened-next : {I : Type 0} (view : I → InboxView M) (lanes : LaneTable) (inboxes inboxes' : List I) (all all' : List (OwnView T)) (columns columns' : List (ColumnView S)) (inbox : I) (own : OwnView T) (column : ColumnView S) (senders : List (List Lane))
      → AreOpened ends lanes (map view inboxes) all columns → slice_get lanes (length inboxes) ≡ Some senders → IsOwn ends (view inbox) senders own → IsColumn ends (view inbox) (ways_to (length inboxes) senders) column
      → inboxes' ≡ inboxes ++ inbox ∷ [] → all' ≡ all ++ own ∷ [] → columns' ≡ columns ++ column ∷ [] → AreOpened ends lanes (map view inboxes') all' columns'
  opened-next {I = I} view lanes inboxes inboxes' all all' columns columns' inbox own column senders are there is_own is_column inboxes-are all-are columns-are =
      let shown : map view inboxes' ≡ map view inboxes ++ view inbox ∷ [] = ap (λ (l : List I). map view l) inboxes-are ∙ map-append view inboxes (inbox ∷ []) in
      subst (λ (z : List (InboxView M) × List (OwnView T) × List (ColumnView S)). AreOpened ends lanes z.0 z.1 z.2) (λ i. (sym shown i, sym all-are i, sym columns-are i))
      (opened-push lanes (map view inboxes) all columns (view inbox) own column senders are
      (ap (lanes_to lanes) (length-map inboxes view) ∙ get_or_from_slice_get lanes (length inboxes) senders [] there) is_own
      (subst (λ (n : ℕ). IsColumn ends (view inbox) (ways_to n senders) column) (sym (length-map inboxes view)) is_column))

-- ---- inboxes

pub inboxes-count : {W M S T : Type 0} (inboxes : List (Inbox W M S T)) → length (map inbox_view inboxes) ≡ length inboxes
inboxes-count inboxes = length-map inboxes inbox_view

pub inboxes-within : {W M S T : Type 0} (inboxes : List (Inbox W M S T)) (n : ℕ) → n < length inboxes → n < length (map inbox_view inboxes)
inboxes-within inboxes n within = omega (arith, within, inboxes-count inboxes)

-- an inbox at its index, as the others know it
pub shown-at : {I M : Type 0} (view : I → InboxView M) (inboxes : List I) (number : ℕ) (inbox : I) → number < length inboxes → inbox ≡ get_or inboxes number inbox → slice_get (map view inboxes) number ≡ Some (view inbox)
shown-at view inboxes number inbox within is = map-at view inboxes number inbox (slice_get_read inboxes (length inboxes) number inbox refl within is)

pub shown-there : {I M : Type 0} (view : I → InboxView M) (inboxes : List I) (number count : ℕ) (inbox : I) → number < count → length (map view inboxes) ≡ count → inbox ≡ get_or inboxes number inbox → slice_get (map view inboxes) number ≡ Some (view inbox)
shown-there view inboxes number count inbox within size is = shown-at view inboxes number inbox (omega (arith, within, size, length-map inboxes view)) is
