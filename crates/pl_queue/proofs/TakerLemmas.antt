-- A taker as `open` makes it, and as `finish` joins the senders to it.
use Rattle.std.specs.Global.{Vec}
use Rattle.std.proofs.Common.{◌≡◌, ◌<◌, ◌≤◌, ℕ, true, List, [], ◌∷◌, ◌++◌, length, map, take, ◌+◌, get_or, ap, ap₂, sym, subst, append_assoc, ◌∙◌}
use Rattle.std.proofs.lemmas.List.{length_push}
use Rattle.pl_event.specs.declared.envelopes.Lane.{Lane}
use Rattle.pl_queue.specs.declared.views.PassView.{PassView}
use Rattle.pl_queue.specs.declared.views.SendCount.{SendCount}
use Rattle.pl_queue.specs.declared.views.SenderView.{SenderView}
use Rattle.pl_queue.specs.declared.views.TakeCount.{TakeCount}
use Rattle.pl_queue.specs.Left.{Apart, KnowsPlaces, lanes_of_senders, send_counts_of}
use Rattle.pl_queue.specs.Limits.{is_mailbox_within}
use Rattle.pl_queue.specs.Positions.{ArePositions}
use Rattle.pl_queue.specs.Rule.{Each}
use Rattle.pl_queue.specs.Views.{view_of, no_sends, fresh_sends, fresh_takes, fresh_take_counts, lanes_of_counts}
use Rattle.pl_queue.proofs.LimitLemmas.{few-counts}
use Rattle.pl_queue.proofs.Lists.{Each-snoc, fresh_take_counts-lanes, map-append, map-more, send_counts_of-snoc}

pub counts-apart : (lanes : List Lane) (counts : List TakeCount) → counts ≡ fresh_take_counts lanes → Apart lanes → Apart (lanes_of_counts counts)
counts-apart lanes counts e apart = subst Apart (sym (ap lanes_of_counts e ∙ fresh_take_counts-lanes lanes)) apart

pub counts-few : (lanes : List (List Lane)) (capacity : ℕ) (counts : List TakeCount) → is_mailbox_within lanes capacity ≡ true → counts ≡ fresh_take_counts (lanes_of_senders lanes) → length counts ≤ 8192
counts-few lanes capacity counts within e = subst (λ ms. length ms ≤ 8192) (sym e) (few-counts lanes capacity within)

pub begins-taking : (v : PassView) (counts : List TakeCount) (rows : List (Vec ℕ)) (lanes : List Lane) → v ≡ view_of true no_sends (fresh_takes lanes)
    → counts ≡ fresh_take_counts lanes → Apart lanes → ArePositions rows 0 (lanes_of_counts counts) → KnowsPlaces v counts rows × (v.takes ≡ fresh_takes lanes)
begins-taking v counts rows lanes is made apart positions =
    let same : v.takes.counts ≡ fresh_take_counts lanes = ap (λ (w : PassView). w.takes.counts) is in (
      record {
        taker = ap (λ (w : PassView). w.taker) is;
        send_counts = ap (λ (w : PassView). w.sends.send_counts) is;
        counts_are = made ∙ sym same;
        apart = counts-apart lanes v.takes.counts same apart;
        positions = subst (λ ms. ArePositions rows 0 (lanes_of_counts ms)) (made ∙ sym same) positions;
      },
      ap (λ (w : PassView). w.takes) is,
    )

-- one sender more has been made
pub dealt-more : {S V : Type 0} (P : S → Type 0) (f : S → SenderView) (own : V → List Lane) (lanes : List V) (i : ℕ) (v : V) (before after : List S) (s : S) → i < length lanes → v ≡ get_or lanes i v
    → after ≡ before ++ s ∷ [] → Each P before → P s → map f before ≡ map (λ w. fresh_sends (own w)) (take i lanes) → f s ≡ fresh_sends (own v)
    → Each P after × (map f after ≡ map (λ w. fresh_sends (own w)) (take (i + 1) lanes))
dealt-more P f own lanes i v before after s h e is made this sent fresh = (
  subst (λ ss. Each P ss) (sym is) (Each-snoc P before s made this),
  ap (λ ss. map f ss) is ∙ map-append f before (s ∷ []) ∙ ap₂ (λ a b. a ++ b ∷ []) sent fresh ∙ sym (map-more (λ w. fresh_sends (own w)) lanes i v h e),
)

-- one sender more has been joined
pub joined-more : {S : Type 0} (f : S → SenderView) (senders done : List S) (x : S) (start now : List SendCount) → length done < length senders → x ≡ get_or senders (length done) x
    → now ≡ start ++ send_counts_of (map f (take (length done) senders)) → now ++ (f x).send_counts ≡ start ++ send_counts_of (map f (take (length (done ++ x ∷ [])) senders))
joined-more f senders done x start now h e is =
    let mine = (f x).send_counts in
    let before = send_counts_of (map f (take (length done) senders)) in
    let more : send_counts_of (map f (take (length (done ++ x ∷ [])) senders)) ≡ before ++ mine =
    ap (λ n. send_counts_of (map f (take n senders))) (length_push done x)
    ∙ ap send_counts_of (map-more f senders (length done) x h e)
    ∙ send_counts_of-snoc (map f (take (length done) senders)) (f x) in
    ap (λ l. l ++ mine) is ∙ append_assoc start before mine ∙ ap (λ l. start ++ l) (sym more)
