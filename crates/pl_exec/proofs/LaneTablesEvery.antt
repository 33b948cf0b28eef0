-- The lanes of all channels: each stands once among them, and nothing else does.
use Rattle.std.proofs.Common.{◌≡◌, ℕ, zero, suc, ◌+◌, ◌*◌, ◌<◌, ◌≤◌, ◌==◌, ◌&&◌, ◌||◌, nat_lt, Bool, true, false, cond, List, [], ◌∷◌, length, get_or, slice_get, sum_by, refl, ap, sym, ◌∙◌, subst, ⊎_elim, arith, length-append}
use Rattle.std.specs.Prelude.{All, if◌then◌else◌}
use Rattle.std.specs.List.{count_by, flat_map, list_any, range_with_len}
use Rattle.std.specs.Option.{option_map_or}
use Rattle.std.proofs.lemmas.Bool.{cases_eq, cases_lt, eq-eqb, ne_eqb, lt-ltb, le-ltb, false≢true}
use Rattle.std.proofs.lemmas.List.Concat.{length-flat_map}
use Rattle.std.proofs.lemmas.List.Elements.{All-head, All-tail}
use Rattle.std.proofs.lemmas.List.FromFn.{length-range_with_len}
use Rattle.std.proofs.lemmas.List.Sums.{sum_by-cons, sum_by-append, sum_by-le}
use Rattle.pl_build.specs.declared.limits.TheConstants.{MAX_HANDLERS}
use Rattle.pl_event.specs.declared.envelopes.Kind.{Kind}
use Rattle.pl_event.specs.declared.envelopes.Kind.TheVariants.{Data, Flags}
use Rattle.pl_event.specs.declared.envelopes.Lane.{Lane}
use Rattle.pl_event.specs.Hops.{data_lane, flags_lane, same_kind, same_lane}
use Rattle.pl_part.specs.Parts.{ChannelPartView}
use Rattle.pl_queue.specs.Views.{has_lane}
use Rattle.pl_channel.specs.Channels.{is_hop}
use Rattle.pl_exec.specs.Lanes.{lanes_at, lanes_from, every_lane, is_lane}
use Rattle.pl_exec.proofs.LaneTablesSums.{sum_by-flat_map, at-one, at-past}

-- how often a lane stands in a list
abbrev pub times : Lane → List Lane → ℕ
times l ls = count_by (same_lane l) ls

pub has-any : (l : Lane) (ls : List Lane) → has_lane l ls ≡ list_any (same_lane l) ls
has-any l [] = refl
has-any l (m ∷ ms) = elim (same_lane l m) as (λ b. cond b true (has_lane l ms) ≡ (b || list_any (same_lane l) ms)) [ true ↦ refl | false ↦ has-any l ms ]

pub has-times : (l : Lane) (ls : List Lane) → has_lane l ls ≡ nat_lt 0 (times l ls)
has-times l [] = refl
has-times l (m ∷ ms) =
    let rest = has-times l ms in
    let sum = sum_by-cons (λ z. cond (same_lane l z) 1 0) m ms in
    first (same_lane l m) (times l ms) (has_lane l ms) rest ∙ ap (nat_lt 0) (sym sum)
  where
    first : (b : Bool) (n : ℕ) (has : Bool) → has ≡ nat_lt 0 n → cond b true has ≡ nat_lt 0 (cond b 1 0 + n)
    first true n has same = sym (lt-ltb 0 (1 + n) (omega arith))
    first false n has same =
        let sum : n ≡ 0 + n = omega arith in
        same ∙ ap (nat_lt 0) sum

-- ---- one hop

-- how often a lane stands among those of its hop in a channel with so many hops
abbrev times_there : Lane → ℕ → ℕ → ℕ
times_there l channel hops = cond (l.channel == channel) (cond (l.hop + 1 == hops) (cond (same_kind l.kind Data) 1 0) 1) 0

one-test : (a b : Bool) (k : Kind) → b ≡ true → 0 + cond ((a && b) && same_kind k Data) 1 0 ≡ cond a (cond (same_kind k Data) 1 0) 0
one-test true true Data e = refl
one-test true true Flags e = refl
one-test false true k e = refl
one-test a false k e = absurd (false≢true e)

two-tests : (a b : Bool) (k : Kind) → b ≡ true → 0 + cond ((a && b) && same_kind k Data) 1 0 + cond ((a && b) && same_kind k Flags) 1 0 ≡ cond a 1 0
two-tests true true Data e = refl
two-tests true true Flags e = refl
two-tests false true k e = refl
two-tests a false k e = absurd (false≢true e)

no-test : (a b : Bool) (k m : Kind) → b ≡ false → ◌≡◌ {A = ℕ} (cond ((a && b) && same_kind k m) 1 0) 0
no-test true true k m e = absurd (false≢true (sym e))
no-test true false k m e = refl
no-test false b k m e = refl

at-own : (l : Lane) (channel hops : ℕ) → times l (lanes_at channel hops l.hop) ≡ times_there l channel hops
unfolding same_lane
at-own l channel hops =
    let same : (l.hop == l.hop) ≡ true = eq-eqb l.hop l.hop refl in
    elim (l.hop + 1 == hops)
    as (λ last. times l (if last then data_lane channel l.hop ∷ [] else data_lane channel l.hop ∷ flags_lane channel l.hop ∷ []) ≡ cond (l.channel == channel) (cond last (cond (same_kind l.kind Data) 1 0) 1) 0) [
      | true ↦ one-test (l.channel == channel) (l.hop == l.hop) l.kind same
      | false ↦ two-tests (l.channel == channel) (l.hop == l.hop) l.kind same
    ]

at-other : (l : Lane) (channel hops hop : ℕ) → (l.hop == hop) ≡ false → times l (lanes_at channel hops hop) ≡ 0
unfolding same_lane
at-other l channel hops hop other =
    let by_data = no-test (l.channel == channel) (l.hop == hop) l.kind Data other in
    let by_flags = no-test (l.channel == channel) (l.hop == hop) l.kind Flags other in
    elim (hop + 1 == hops) as (λ last. times l (if last then data_lane channel hop ∷ [] else data_lane channel hop ∷ flags_lane channel hop ∷ []) ≡ 0) [
      | true ↦ omega (arith, by_data)
      | false ↦ omega (arith, by_data, by_flags)
    ]

at-hop : (l : Lane) (channel hops hop : ℕ) → times l (lanes_at channel hops hop) ≡ cond (l.hop == hop) (times_there l channel hops) 0
at-hop l channel hops hop = ⊎_elim
    (λ (here : l.hop ≡ hop).
    subst (λ h. times l (lanes_at channel hops h) ≡ times_there l channel hops) here (at-own l channel hops) ∙ ap (λ b. cond b (times_there l channel hops) 0) (sym (eq-eqb l.hop hop here)))
    (λ (elsewhere : l.hop ≡ hop → ⊥).
    let other = ne_eqb l.hop hop elsewhere in
    at-other l channel hops hop other ∙ ap (λ b. cond b (times_there l channel hops) 0) (sym other))
    (cases_eq l.hop hop)

-- ---- one channel

-- the lane enters one of so many hops, the last with data alone
abbrev has_hop : ℕ → Lane → Bool
has_hop hops l = nat_lt (l.hop + 1) hops || ((l.hop + 1 == hops) && same_kind l.kind Data)

there-within : (l : Lane) (hops : ℕ) → l.hop < hops → ◌≡◌ {A = ℕ} (cond (l.hop + 1 == hops) (cond (same_kind l.kind Data) 1 0) 1) (cond (has_hop hops l) 1 0)
there-within l hops within = ⊎_elim
    (λ (last : l.hop + 1 ≡ hops).
    let is = eq-eqb (l.hop + 1) hops last in
    let behind : nat_lt (l.hop + 1) hops ≡ false = le-ltb (l.hop + 1) hops (omega (arith, last)) in
    ap (λ b. cond b (cond (same_kind l.kind Data) 1 0) 1) is ∙ sym (λ i. cond (behind i || (is i && same_kind l.kind Data)) 1 0))
    (λ (before : l.hop + 1 ≡ hops → ⊥).
    let is = ne_eqb (l.hop + 1) hops before in
    let below : nat_lt (l.hop + 1) hops ≡ true = lt-ltb (l.hop + 1) hops (omega (arith, within, before)) in
    ap (λ b. cond b (cond (same_kind l.kind Data) 1 0) 1) is ∙ ap (λ b. cond (b || ((l.hop + 1 == hops) && same_kind l.kind Data)) 1 0) (sym below))
    (cases_eq (l.hop + 1) hops)

-- none past the last
pub there-past : (l : Lane) (hops : ℕ) → hops ≤ l.hop → has_hop hops l ≡ false
there-past l hops past =
    let behind : nat_lt (l.hop + 1) hops ≡ false = le-ltb (l.hop + 1) hops (omega (arith, past)) in
    let not_last : (l.hop + 1 == hops) ≡ false = ne_eqb (l.hop + 1) hops (λ e. omega (arith, e, past)) in
    λ i. behind i || (not_last i && same_kind l.kind Data)

in-channel : (l : Lane) (channel hops : ℕ) → times l (flat_map (lanes_at channel hops) (range_with_len 0 hops)) ≡ cond (l.channel == channel) (cond (has_hop hops l) 1 0) 0
in-channel l channel hops =
    sum_by-flat_map (λ m. cond (same_lane l m) 1 0) (lanes_at channel hops) (range_with_len 0 hops)
    ∙ (λ i. sum_by (λ hop. at-hop l channel hops hop i) (range_with_len 0 hops))
    ∙ ⊎_elim
    (λ (within : l.hop < hops).
    at-one l.hop (times_there l channel hops) 0 hops (omega arith) (omega (arith, within)) ∙ ap (λ n. cond (l.channel == channel) n 0) (there-within l hops within))
    (λ (past : hops ≤ l.hop).
    at-past l.hop (times_there l channel hops) 0 hops (omega (arith, past))
    ∙ nothing (l.channel == channel)
    ∙ ap (λ b. cond (l.channel == channel) (cond b 1 0) 0) (sym (there-past l hops past)))
    (cases_lt l.hop hops)
  where
    nothing : (b : Bool) → ◌≡◌ {A = ℕ} 0 (cond b 0 0)
    nothing true = refl
    nothing false = refl

-- ---- all channels

module _ {S T : Type 0} (l : Lane) where
  before-all : (channel : ℕ) (ps : List (ChannelPartView S T)) → l.channel < channel → times l (lanes_from channel ps) ≡ 0
  before-all channel [] below = refl
  before-all channel (p ∷ ps) below =
      let hops = length p.path.executors in
      let first = in-channel l channel hops ∙ ap (λ b. cond b (cond (has_hop hops l) 1 0) 0) (ne_eqb l.channel channel (λ e. omega (arith, e, below))) in
      let rest = before-all (channel + 1) ps (omega (arith, below)) in
      omega (arith, first, rest, sum_by-append (λ m. cond (same_lane l m) 1 0) (flat_map (lanes_at channel hops) (range_with_len 0 hops)) (lanes_from (channel + 1) ps))

  from-all : (channel : ℕ) (ps : List (ChannelPartView S T)) (k : ℕ) → l.channel ≡ channel + k → times l (lanes_from channel ps) ≡ cond (option_map_or (λ (p : ChannelPartView S T). is_hop p l) (slice_get ps k) false) 1 0
  from-all channel [] k place = refl
  from-all channel (p ∷ ps) zero place =
      let hops = length p.path.executors in
      let first = in-channel l channel hops ∙ ap (λ b. cond b (cond (has_hop hops l) 1 0) 0) (eq-eqb l.channel channel (omega (arith, place))) in
      let rest = before-all (channel + 1) ps (omega (arith, place)) in
      omega (arith, first, rest, sum_by-append (λ m. cond (same_lane l m) 1 0) (flat_map (lanes_at channel hops) (range_with_len 0 hops)) (lanes_from (channel + 1) ps))
  from-all channel (p ∷ ps) (suc k) place =
      let hops = length p.path.executors in
      let first = in-channel l channel hops ∙ ap (λ b. cond b (cond (has_hop hops l) 1 0) 0) (ne_eqb l.channel channel (λ e. omega (arith, e, place))) in
      let rest = from-all (channel + 1) ps k (omega (arith, place)) in
      omega (arith, first, rest, sum_by-append (λ m. cond (same_lane l m) 1 0) (flat_map (lanes_at channel hops) (range_with_len 0 hops)) (lanes_from (channel + 1) ps))

module _ {S T : Type 0} (ps : List (ChannelPartView S T)) where
  -- each of them stands there once
  pub every-once : (l : Lane) → times l (every_lane ps) ≡ cond (is_lane ps l) 1 0
  every-once l = from-all l 0 ps l.channel (omega arith)

  pub every-has : (l : Lane) → has_lane l (every_lane ps) ≡ is_lane ps l
  every-has l = has-times l (every_lane ps) ∙ ap (nat_lt 0) (every-once l) ∙ elim (is_lane ps l) as (λ b. nat_lt 0 (cond b 1 0) ≡ b) [ true ↦ refl | false ↦ refl ]

-- ---- how many they are

length-lanes_at : (channel hops hop : ℕ) → length (lanes_at channel hops hop) ≤ 2
length-lanes_at channel hops hop = elim (hop + 1 == hops) as (λ last. length (if last then data_lane channel hop ∷ [] else data_lane channel hop ∷ flags_lane channel hop ∷ []) ≤ 2) [ true ↦ omega arith | false ↦ omega arith ]

length-channel : (channel hops : ℕ) → length (flat_map (lanes_at channel hops) (range_with_len 0 hops)) ≤ hops * 2
length-channel channel hops =
    let sum = length-flat_map (lanes_at channel hops) (range_with_len 0 hops) in
    let few = sum_by-le (λ hop. length (lanes_at channel hops hop)) 2 (range_with_len 0 hops) (λ k d within. length-lanes_at channel hops (get_or (range_with_len 0 hops) k d)) in
    let size = ap (λ n. n * 2) (length-range_with_len 0 hops) in
    omega (arith, sum, few, size)

pub every-few : {S T : Type 0} (channel : ℕ) (ps : List (ChannelPartView S T)) → All (λ p. length p.path.executors ≤ MAX_HANDLERS + 2) ps → length (lanes_from channel ps) ≤ length ps * ((MAX_HANDLERS + 2) * 2)
every-few channel [] few = omega arith
every-few {S = S} {T = T} channel (p ∷ ps) few =
    let hops = length p.path.executors in
    let here = All-head (λ (q : ChannelPartView S T). length q.path.executors ≤ MAX_HANDLERS + 2) p ps few in
    let rest = every-few (channel + 1) ps (All-tail (λ (q : ChannelPartView S T). length q.path.executors ≤ MAX_HANDLERS + 2) p ps few) in
    omega (arith, here, rest, length-channel channel hops, length-append (flat_map (lanes_at channel hops) (range_with_len 0 hops)) (lanes_from (channel + 1) ps))
