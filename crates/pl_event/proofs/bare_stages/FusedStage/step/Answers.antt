use Rattle.std.proofs.Common.{◌≡◌, ℕ, List, length, take, refl, sym, ap₂, ◌∙◌}
use Rattle.std.proofs.Math.Seq.{take-append_seam}
use Rattle.pl_event.specs.Meaning.{IsPrefixOf}
use Rattle.pl_event.proofs.bare_stages.FusedStage.step.Goals as goal

-- a list that was only added to, cut to its old length
cut_back : {A : Type 0} (before made left : List A) (n : ℕ) → IsPrefixOf before made → n ≡ length before → left ≡ take n made → left ≡ before
cut_back {A = A} before made left n begins same cut =
    cut ∙ ap₂ (λ (k : ℕ) (xs : List A). take k xs) same (sym begins.1) ∙ take-append_seam before begins.0

pub returns-in-Ok : goal.returns-in-Ok
returns-in-Ok g c =
    let h = c.in-Ok.ensures in
    record { same_meaning = h.same_meaning; stands = h.stands; up = h.up; down = h.down; turned = h.turned; unspent = c.if-self.false; fault = tt; spent = λ spent. sym c.if-self.false ∙ spent; up_kept = tt; down_kept = tt }

pub returns-in-Err : goal.returns-in-Err
returns-in-Err g c =
    let h = c.in-Err.ensures in
    let up = cut_back _ _ _ _ h.up_begins (c.len-up_before.ensures ∙ c.args.up.now.ok.0) c.truncate.ensures.items in
    let down = cut_back _ _ _ _ h.down_begins (c.len-down_before.ensures ∙ c.args.down.now.ok.0) c.truncate-in-Err.ensures.items in
    record { same_meaning = h.same_meaning; stands = tt; up = tt; down = tt; turned = tt; unspent = tt; fault = refl; spent = λ spent. refl; up_kept = up; down_kept = down }
