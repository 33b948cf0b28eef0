-- The words of channels, their seats, and the readers of them.
use Rattle.std.proofs.Common.{◌≡◌, ℕ, zero, suc, ◌<◌, List, [], ◌∷◌, ◌++◌, length, map, replicate, set, get_or, slice_get, Some, refl, ap, sym, ◌∙◌, arith}
use Rattle.std.specs.Prelude.{All}
use Rattle.std.proofs.Math.Seq.{map-set_same}
use Rattle.std.proofs.lemmas.List.{length-map, map-append}
use Rattle.std.proofs.lemmas.List.Elements.{All-cons, All-head, All-nil, All-same, All-tail}
use Rattle.std.proofs.lemmas.Option.{slice_get_read}
use Rattle.pl_words.specs.PromiseViews.{ReadSeatView as PromiseSeatView}
use Rattle.pl_words.specs.Watermarks.{ReadSeatView as MarkSeatView}
use Rattle.pl_world.specs.declared.session.Recorded.{Recorded}
use Rattle.pl_exec.specs.SessionWords.{ChannelNames, SeatsView, SightView, sight_names, recorded_marks, AreHeadSeatsOf, AreUnused, IsUnused, HaveMarksOf, IsReaderOf, new_seats, new_head_seats, new_sight, new_sights, with_sights}

-- ---- one row of seats

-- readers that have the same seats still do
pub with_row-replicate : (n : ℕ) (reader : List SightView) (row : List SightView) (sight : SightView) → length row ≡ n → All (λ s. s ≡ sight) row → with_sights (replicate n reader) row ≡ replicate n (reader ++ sight ∷ [])
with_row-replicate zero reader row sight count same = refl
with_row-replicate (suc n) reader [] sight count same = absurd (omega (arith, count))
with_row-replicate (suc n) reader (s ∷ row) sight count same =
    let P = λ (s : SightView). s ≡ sight in
    (λ i. (reader ++ All-head P s row same i ∷ []) ∷ with_row-replicate n reader row sight (omega (arith, count)) (All-tail P s row same) i)

-- ---- new seats

-- each seat on a mark with one on promises, all of them new
pub sights-same : (sights : List SightView) (marks : List MarkSeatView) (promises : List PromiseSeatView) (m : MarkSeatView) (p : PromiseSeatView) → map (λ s. s.mark) sights ≡ marks → map (λ s. s.promises) sights ≡ promises
    → All (λ s. s ≡ m) marks → All (λ s. s ≡ p) promises → All (λ s. s ≡ record { mark = m; promises = p }) sights
sights-same [] marks promises m p are_marks are_promises ms ps = λ k d within. absurd (omega (arith, within))
sights-same (s ∷ sights) marks promises m p are_marks are_promises ms ps =
    let mark = λ (t : SightView). t.mark in
    let seen = λ (t : SightView). t.promises in
    let M = λ (t : MarkSeatView). t ≡ m in
    let P = λ (t : PromiseSeatView). t ≡ p in
    let all_m = All-same M (map mark (s ∷ sights)) marks are_marks ms in
    let all_p = All-same P (map seen (s ∷ sights)) promises are_promises ps in
    let first_m = All-head M s.mark (map mark sights) all_m in
    let first_p = All-head P s.promises (map seen sights) all_p in
    All-cons (λ t. t ≡ record { mark = m; promises = p }) s sights
    (λ i. record { mark = first_m i; promises = first_p i })
    (sights-same sights (map mark sights) (map seen sights) m p refl refl (All-tail M s.mark (map mark sights) all_m) (All-tail P s.promises (map seen sights) all_p))

-- one channel more
pub head_seats-push : {S T : Type 0} (words : List ChannelNames) (done : List (Recorded S T)) (names : ChannelNames) (c : Recorded S T) → length words ≡ length done
    → new_head_seats (words ++ names ∷ []) (done ++ c ∷ []) ≡ new_head_seats words done ++ new_seats names c.pipeline.low c.pipeline.high ∷ []
head_seats-push [] [] names c count = refl
head_seats-push [] (d ∷ done) names c count = absurd (omega (arith, count))
head_seats-push (w ∷ words) [] names c count = absurd (omega (arith, count))
head_seats-push (w ∷ words) (d ∷ done) names c count = ap (λ (rest : List SeatsView). new_seats w d.pipeline.low d.pipeline.high ∷ rest) (head_seats-push words done names c (omega (arith, count)))

pub heads-step : {S T : Type 0} (words : List ChannelNames) (done : List (Recorded S T)) (names : ChannelNames) (c : Recorded S T) (heads : List SeatsView) (seats : SeatsView) → length words ≡ length done
    → heads ≡ new_head_seats words done → seats ≡ new_seats names c.pipeline.low c.pipeline.high → heads ++ seats ∷ [] ≡ new_head_seats (words ++ names ∷ []) (done ++ c ∷ [])
heads-step words done names c heads seats count are is = (λ i. are i ++ is i ∷ []) ∙ sym (head_seats-push words done names c count)

-- new seats are those of their channels
pub head_seats-own : {S T : Type 0} (words : List ChannelNames) (channels : List (Recorded S T)) → length words ≡ length channels → AreHeadSeatsOf words (new_head_seats words channels)
head_seats-own [] channels count = refl
head_seats-own (w ∷ words) [] count = absurd (omega (arith, count))
head_seats-own (w ∷ words) (c ∷ channels) count = ap (λ (ws : List ChannelNames). w ∷ ws) (head_seats-own words channels (omega (arith, count)))

-- nobody has used them
pub head_seats-new : {S T : Type 0} (words : List ChannelNames) (channels : List (Recorded S T)) → AreUnused (new_head_seats words channels)
head_seats-new [] channels = All-nil IsUnused
head_seats-new (w ∷ words) [] = All-nil IsUnused
head_seats-new (w ∷ words) (c ∷ channels) = All-cons IsUnused (new_seats w c.pipeline.low c.pipeline.high) (new_head_seats words channels) refl (head_seats-new words channels)

-- and have their marks
pub head_seats-marks : {S T : Type 0} (words : List ChannelNames) (channels : List (Recorded S T)) → length words ≡ length channels → HaveMarksOf (new_head_seats words channels) channels
head_seats-marks [] [] count = refl
head_seats-marks [] (c ∷ channels) count = absurd (omega (arith, count))
head_seats-marks (w ∷ words) [] count = absurd (omega (arith, count))
head_seats-marks (w ∷ words) (c ∷ channels) count = ap (λ (ms : List (ℕ × ℕ)). recorded_marks c ∷ ms) (head_seats-marks words channels (omega (arith, count)))

-- all readers have their seats of one channel more
pub readers-step : (n : ℕ) (words : List ChannelNames) (names : ChannelNames) (all : List (List SightView)) (row : List SightView) → all ≡ replicate n (new_sights words) → length row ≡ n → All (λ s. s ≡ new_sight names) row
    → with_sights all row ≡ replicate n (new_sights (words ++ names ∷ []))
readers-step n words names all row are count new =
    ap (λ (l : List (List SightView)). with_sights l row) are ∙ with_row-replicate n (new_sights words) row (new_sight names) count new
    ∙ ap (λ (r : List SightView). replicate n r) (sym (map-append new_sight words (names ∷ [])))

-- a new reader is one of its words
pub new-reader-of : (words : List ChannelNames) → IsReaderOf words (new_sights words)
new-reader-of [] = refl
new-reader-of (w ∷ words) = ap (λ (ws : List ChannelNames). w ∷ ws) (new-reader-of words)

-- ---- a look

-- a reader whose seats of one channel have seen more is still one of its words
pub reader-kept : (words : List ChannelNames) (reader : List SightView) (channel : ℕ) (before after : SightView) → IsReaderOf words reader → before ≡ get_or reader channel before → sight_names after ≡ sight_names before
    → IsReaderOf words (set reader channel after)
reader-kept words reader channel before after own read same = map-set_same sight_names reader channel after before (same ∙ ap sight_names read) ∙ own

-- a reader has seats of each channel
pub reader-at : (words : List ChannelNames) (reader inside : List SightView) (channel : ℕ) (d sight : SightView) → inside ≡ reader → IsReaderOf words reader → channel < length words → d ≡ get_or inside channel d → d ≡ sight → slice_get reader channel ≡ Some sight
reader-at words reader inside channel d sight view own there read is =
    let count = ap (λ (l : List ChannelNames). length l) own in
    slice_get_read reader (length reader) channel d refl (omega (arith, there, count, length-map reader sight_names)) (read ∙ ap (λ (r : List SightView). get_or r channel d) view) ∙ ap (λ (s : SightView). Some s) is
