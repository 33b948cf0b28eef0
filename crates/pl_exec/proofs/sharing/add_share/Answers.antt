use Rattle.std.proofs.Common.{◌≡◌, ◌++◌, [], ◌∷◌, Bool, Option, Some, None, cond, length, not, refl, ap, sym, ◌∙◌, arith}
use Rattle.std.specs.Prelude.{IfNone, IfSome, is_some}
use Rattle.pl_part.specs.Shares.{only_if}
use Rattle.pl_exec.proofs.sharing.add_share.Goals as goal
use Rattle.pl_exec.proofs.sharing.add_share.Goals.{In_ok-push-2}

-- what was found is there where that is of which it was found
both-there : {A B : Type 0} (seen : A → B) (found : Option A) (there : Option B) → IfSome found (λ a. there ≡ Some (seen a)) → IfNone found (there ≡ None) → is_some found ≡ is_some there
both-there seen None there some none = ap is_some (sym none)
both-there seen (Some a) there some none = ap is_some (sym some)

has-head : (g : _) (c : In_ok-push-2 g) → c.is_some-has_head.result ≡ is_some c.args.share.head
has-head g c = c.is_some-has_head.ensures ∙ both-there (λ h. h.now) c.head.result c.args.share.head c.head.ensures.some c.head.ensures.none

pub returns-clause-got : goal.returns-clause-got
returns-clause-got g c =
    let n = c.args.nodes.now in
    let head = has-head g c in
    let size : c.len.result ≡ length n.parts.items = omega (arith, c.len.ensures, n.parts.ok.0) in
    let slot : c.take_where.result ≡ only_if (is_some c.args.share.head) c.args.seats.now = c.take_where.ensures.taken ∙ ap (λ (b : Bool). only_if b c.args.seats.now) head in
    record {
      same = refl;
      parts = c.in_ok-push-2.ensures.items;
      own = c.in_ok-note_if.ensures ∙ (λ i. n.heads.items ++ cond (head i) (size i ∷ []) []);
      seats = c.in_ok-push.ensures.items ∙ (λ i. n.seats.items ++ slot i ∷ []);
    }

pub returns-clause-left : goal.returns-clause-left
returns-clause-left g c = c.take_where.ensures.left ∙ ap (λ (b : Bool). only_if (not b) c.args.seats.now) (has-head g c)
