-- What the owner's seat stands for, while it takes the senders' seats in, one after another.
use Rattle.std.proofs.Common.{◌≡◌, ◌∙◌, ℕ, suc, ◌+◌, ◌/◌, true, All, List, [], ◌∷◌, length, get_or, sum_by, sym, arith}
use mathlib.Core.Option.{some, some-injective, some-ne-none}
use lib.ListN.{get_elem?}
use Rattle.std.proofs.lemmas.List.Sums.{sum_by-cons}
use Rattle.atomic_table.specs.Table.{Final, Seen}
use Rattle.pl_words.specs.declared.admission_steps.AdmissionNotes.{AdmissionNotes}
use Rattle.pl_words.specs.declared.status.Status.TheVariants.{Closed}
use Rattle.pl_words.specs.Names.{Name}
use Rattle.pl_words.specs.AdmissionRule.{Rule, gathered}
use Rattle.pl_words.specs.Admissions.{AdmissionView, SendSeatView, OwnerSeatView}
use Rattle.pl_words.proofs.AdmissionMoves.{ends}

-- of all seats, these are left; the owner's seat, with the notes v, has the rest
pub record Gathers (admission : AdmissionView) (o : OwnerSeatView) (all : List SendSeatView) (name : Name) (v : AdmissionNotes) (left : List SendSeatView) : Type 0 where
  pub same : name ≡ admission.name
  pub owns : v.owns ≡ true
  pub idle : v.trial ≡ 0
  pub phase : v.phase ≡ o.phase
  pub run : v.run ≡ o.run
  pub seats : v.seats + length left ≡ admission.senders
  pub kept : v.kept + sum_by (λ s. s.kept) left ≡ sum_by (λ s. s.kept) all
  pub late : v.late + sum_by (λ s. s.late) left ≡ sum_by (λ s. s.late) all
  pub each : All (λ s. s.name ≡ admission.name) left

pub gathers_one : {admission : AdmissionView} {o : OwnerSeatView} {all : List SendSeatView} {name : Name} {v : AdmissionNotes} {left : List SendSeatView} (x : SendSeatView) (w : AdmissionNotes)
    → Gathers admission o all name v (x ∷ left) → w.seats ≡ 1 → w.trial ≡ 0 → w.kept ≡ x.kept → w.late ≡ x.late → Gathers admission o all name (gathered v w) left
gathers_one {left = left} x w g one idle kept late = record {
  same = g.same;
  owns = g.owns;
  idle = (let h = g.idle in omega arith);
  phase = g.phase;
  run = g.run;
  seats = (let h = g.seats in omega arith);
  kept = (let h = g.kept in omega (arith, sum_by-cons (λ (s : SendSeatView). s.kept) x left));
  late = (let h = g.late in omega (arith, sum_by-cons (λ (s : SendSeatView). s.late) x left));
  each = λ k d h. g.each (suc k) d (omega arith);
}

gathers_all : {admission : AdmissionView} {o : OwnerSeatView} {all : List SendSeatView} {name : Name} {v : AdmissionNotes} {left : List SendSeatView} → Gathers admission o all name v left → length left ≡ 0
    → (v.seats ≡ admission.senders) × (v.kept ≡ sum_by (λ s. s.kept) all) × (v.late ≡ sum_by (λ s. s.late) all)
gathers_all {left = []} g e = ((let h = g.seats in omega arith), (let h = g.kept in omega arith), (let h = g.late in omega arith))
gathers_all {left = x ∷ xs} g e = absurd (omega arith)

-- a word that is read out
read_out : (words : List ℕ) (n : ℕ) → get_elem? words 0 ≡ some n → get_or words 0 0 ≡ n
read_out [] n e = absurd (some-ne-none n (sym e))
read_out (x ∷ xs) n e = some-injective x n e

-- where none is left, the count of the word is what all have kept; once closed, that and the late ones are the run count
pub counts_all : {admission : AdmissionView} {o : OwnerSeatView} {all : List SendSeatView} {name : Name} {v : AdmissionNotes} {left : List SendSeatView} (senders id n : ℕ) (words : List ℕ) (slots : List (Unit {0}))
    → Gathers admission o all name v left → length left ≡ 0 → senders ≡ admission.senders → Final (Seen (Rule senders) id v) words slots → get_elem? words 0 ≡ some n
    → (n / 4 ≡ sum_by (λ s. s.kept) all) × (o.phase ≡ Closed → n / 4 + sum_by (λ s. s.late) all ≡ o.run)
counts_all {v = v} senders id n words slots g none_left same final read =
    let whole = gathers_all g none_left in
    let e = ends senders id v words slots final (whole.0 ∙ sym same) g.owns g.idle in
    let word = read_out words n read in
    let x = e.0 in
    let y = whole.1 in
    let z = whole.2 in
    let r = g.run in
    (omega arith, λ closed. let q = e.1 (g.phase ∙ closed) in omega arith)
