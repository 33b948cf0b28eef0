-- Lists that are made element by element, and the lanes of channels.
use Rattle.std.proofs.Common.{◌≡◌, ℕ, ◌+◌, ◌<◌, ◌≤◌, List, [], ◌∷◌, ◌++◌, length, take, get_or, ap, sym, subst, ◌∙◌, arith, append_assoc}
use Rattle.std.specs.List.{flat_map, range_with_len}
use Rattle.std.proofs.lemmas.List.{append-nil, length-take-le, map-id, take_more}
use Rattle.std.proofs.lemmas.List.Concat.{flat_map-append}
use Rattle.std.proofs.lemmas.List.FromFn.{map-range_with_len_more}
use Rattle.pl_event.specs.declared.envelopes.Lane.{Lane}
use Rattle.pl_part.specs.Parts.{ChannelPartView}
use Rattle.pl_build.specs.declared.limits.TheConstants.{MAX_HANDLERS}
use Rattle.pl_channel.specs.Ways.{HasExecutors}
use Rattle.pl_exec.specs.Lanes.{AreLaid, every_lane, lanes_at, lanes_from}

-- one number more
pub range-more : (n : ℕ) → range_with_len 0 (n + 1) ≡ range_with_len 0 n ++ n ∷ []
range-more n = sym (map-id (range_with_len 0 (n + 1))) ∙ map-range_with_len_more (λ k. k) 0 n n (omega arith) ∙ ap (λ ks. ks ++ n ∷ []) (map-id (range_with_len 0 n))

pub joined-more : {A : Type 0} (f : ℕ → List A) (start before after : List A) (n : ℕ) → before ≡ start ++ flat_map f (range_with_len 0 n) → after ≡ before ++ f n → after ≡ start ++ flat_map f (range_with_len 0 (n + 1))
joined-more f start before after n was grown =
    grown
    ∙ ap (λ l. l ++ f n) was
    ∙ append_assoc start (flat_map f (range_with_len 0 n)) (f n)
    ∙ ap (λ l. start ++ (flat_map f (range_with_len 0 n) ++ l)) (sym (append-nil (f n)))
    ∙ ap (λ l. start ++ l) (sym (flat_map-append f (range_with_len 0 n) (n ∷ [])) ∙ ap (flat_map f) (sym (range-more n)))

-- the lanes of a channel with so many hops
abbrev lanes-of : ℕ → ℕ → List Lane
lanes-of hops channel = flat_map (lanes_at channel hops) (range_with_len 0 hops)

-- those of the last channel come last
lanes_from-push : {S T : Type 0} (channel : ℕ) (ps : List (ChannelPartView S T)) (p : ChannelPartView S T) → lanes_from channel (ps ++ p ∷ []) ≡ lanes_from channel ps ++ lanes-of (length p.path.executors) (channel + length ps)
lanes_from-push channel [] p =
    let same : channel ≡ channel + 0 = omega arith in
    append-nil (lanes-of (length p.path.executors) channel) ∙ ap (lanes-of (length p.path.executors)) same
lanes_from-push channel (q ∷ ps) p =
    let first = lanes-of (length q.path.executors) channel in
    let same : channel + 1 + length ps ≡ channel + length (q ∷ ps) = omega arith in
    ap (λ (ls : List Lane). first ++ ls) (lanes_from-push (channel + 1) ps p)
    ∙ sym (append_assoc first (lanes_from (channel + 1) ps) (lanes-of (length p.path.executors) (channel + 1 + length ps)))
    ∙ ap (λ (c : ℕ). (first ++ lanes_from (channel + 1) ps) ++ lanes-of (length p.path.executors) c) same

module _ {S T : Type 0} (ps : List (ChannelPartView S T)) (i : ℕ) (p : ChannelPartView S T) (within : i < length ps) (here : p ≡ get_or ps i p) where
  -- the lanes of the first channels, with those of one channel more
  pub channel-more : every_lane (take i ps) ++ flat_map (lanes_at i (length p.path.executors)) (range_with_len 0 (length p.path.executors)) ≡ every_lane (take (i + 1) ps)
  channel-more =
      let size = length-take-le i ps (omega (arith, within)) in
      let place : i ≡ 0 + length (take i ps) = omega (arith, size) in
      ap (λ (c : ℕ). every_lane (take i ps) ++ lanes-of (length p.path.executors) c) place
      ∙ sym (lanes_from-push 0 (take i ps) p)
      ∙ ap (λ (q : ChannelPartView S T). every_lane (take i ps ++ q ∷ [])) here
      ∙ ap (λ (qs : List (ChannelPartView S T)). every_lane qs) (sym (take_more ps i p within))

  -- it has executors, and few
  pub channel-executors : AreLaid ps → HasExecutors p
  channel-executors laid = subst HasExecutors (sym here) (laid.hops i p within)

  pub channel-few : AreLaid ps → length p.path.executors ≤ MAX_HANDLERS + 2
  channel-few laid = subst (λ (q : ChannelPartView S T). length q.path.executors ≤ MAX_HANDLERS + 2) (sym here) (laid.few i p within)
