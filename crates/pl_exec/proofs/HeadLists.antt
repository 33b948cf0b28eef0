-- Numbers of those that are true, such as the positions of the parts that have their heads.
use Rattle.std.proofs.Common.{◌≡◌, ℕ, zero, suc, ◌+◌, ◌<◌, ◌≤◌, Bool, true, false, cond, List, [], ◌∷◌, ◌++◌, length, map, get_or, slice_get, Some, refl, ap, sym, ◌∙◌, subst, arith}
use Rattle.std.specs.Prelude.{is_some, if◌then◌else◌, All, Contains}
use Rattle.std.proofs.lemmas.Bool.{false≢true}
use Rattle.std.proofs.lemmas.List.{length-map, map-append}
use Rattle.std.proofs.lemmas.List.Elements.{All-nil, All-cons, All-get_or, All-weaker, Contains-append_right, Contains-get_or}
use Rattle.std.proofs.lemmas.Option.{get_or_from_slice_get, none-some, same_Some, slice_get_read}
use Rattle.std.proofs.Math.Seq.{map-set_same}
use Rattle.pl_event.proofs.Lists.{All-at}
use Rattle.pl_part.specs.Parts.{ChannelPartView, SamePart}
use Rattle.pl_channel.proofs.OneChannel.{changed}
use Rattle.pl_exec.specs.ExecutorNodes.{numbered_from, heads_of}

-- ---- one more

next-appended : (b : Bool) (n : ℕ) (xs ys : List ℕ) → (if b then n ∷ (xs ++ ys) else (xs ++ ys)) ≡ (if b then n ∷ xs else xs) ++ ys
next-appended true n xs ys = refl
next-appended false n xs ys = refl

first-added : (b : Bool) (n m : ℕ) → n ≡ m → (if b then n ∷ [] else []) ≡ cond b (m ∷ []) []
first-added true n m same = ap (λ (k : ℕ). k ∷ []) same
first-added false n m same = refl

pub numbered-more : (n : ℕ) (bs : List Bool) (b : Bool) (m : ℕ) → m ≡ n + length bs → numbered_from n (bs ++ b ∷ []) ≡ numbered_from n bs ++ cond b (m ∷ []) []
numbered-more n [] b m same = first-added b n m (omega (arith, same))
numbered-more n (a ∷ rest) b m same =
    ap (λ (l : List ℕ). if a then n ∷ l else l) (numbered-more (n + 1) rest b m (omega (arith, same)))
    ∙ next-appended a n (numbered_from (n + 1) rest) (cond b (m ∷ []) [])

-- ---- which they are

first-in-range : (b : Bool) (n k m : ℕ) (ns : List ℕ) → k ≤ n → n < m → All (λ c. (k ≤ c) × (c < m)) ns → All (λ c. (k ≤ c) × (c < m)) (if b then n ∷ ns else ns)
first-in-range true n k m ns low high later = All-cons (λ c. (k ≤ c) × (c < m)) n ns (low, high) later
first-in-range false n k m ns low high later = later

pub in-range : (n : ℕ) (bs : List Bool) (k : ℕ) → k ≤ n → All (λ c. (k ≤ c) × (c < n + length bs)) (numbered_from n bs)
in-range n [] k within = All-nil (λ c. (k ≤ c) × (c < n + 0))
in-range n (b ∷ bs) k within =
    let later : All (λ c. (k ≤ c) × (c < n + length (b ∷ bs))) (numbered_from (n + 1) bs) =
    subst (λ (m : ℕ). All (λ c. (k ≤ c) × (c < m)) (numbered_from (n + 1) bs)) (omega arith) (in-range (n + 1) bs k (omega (arith, within))) in
    first-in-range b n k (n + length (b ∷ bs)) (numbered_from (n + 1) bs) within (omega arith) later

-- a number that is true is one of them
numbered-first : (b : Bool) (n : ℕ) (rest : List ℕ) → b ≡ true → Contains (if b then n ∷ rest else rest) n
numbered-first true n rest e = Contains-get_or (n ∷ rest) 0 n (omega arith)
numbered-first false n rest e = absurd (false≢true e)

numbered-later : (b : Bool) (n c : ℕ) (rest : List ℕ) → Contains rest c → Contains (if b then n ∷ rest else rest) c
numbered-later true n c rest has = Contains-append_right (n ∷ []) rest c has
numbered-later false n c rest has = has

pub numbered-there : (n : ℕ) (bs : List Bool) (i c : ℕ) → slice_get bs i ≡ Some true → c ≡ n + i → Contains (numbered_from n bs) c
numbered-there n [] i c at is = absurd (none-some true at)
numbered-there n (b ∷ bs) zero c at is = subst (λ (k : ℕ). Contains (numbered_from n (b ∷ bs)) k) (omega (arith, is)) (numbered-first b n (numbered_from (n + 1) bs) (same_Some b true at))
numbered-there n (b ∷ bs) (suc i) c at is = numbered-later b n c (numbered_from (n + 1) bs) (numbered-there (n + 1) bs i c at (omega (arith, is)))

-- ---- they rise

-- each is below those behind it
abbrev pub IsRising : List ℕ → Type 0
IsRising ns = (j k : ℕ) → j < k → k < length ns → get_or ns j 0 < get_or ns k 0

rising-first : (b : Bool) (n : ℕ) (rest : List ℕ) → All (λ c. (n + 1 ≤ c)) rest → IsRising rest → IsRising (if b then n ∷ rest else rest)
rising-first false n rest above rises j k lt within = rises j k lt within
rising-first true n rest above rises j zero lt within = absurd (omega (arith, lt))
rising-first true n rest above rises zero (suc k) lt within = let more = All-get_or (λ c. n + 1 ≤ c) rest k 0 (omega (arith, within)) above in omega (arith, more)
rising-first true n rest above rises (suc j) (suc k) lt within = rises j k (omega (arith, lt)) (omega (arith, within))

pub rising : (n : ℕ) (bs : List Bool) → IsRising (numbered_from n bs)
rising n [] j k lt within = absurd (omega (arith, within))
rising n (b ∷ bs) j k lt within =
    rising-first b n (numbered_from (n + 1) bs)
    (All-weaker (λ c. (n + 1 ≤ c) × (c < n + 1 + length bs)) (λ c. n + 1 ≤ c) (λ c r. r.0) (numbered_from (n + 1) bs) (in-range (n + 1) bs (n + 1) (omega arith)))
    (rising (n + 1) bs) j k lt within

few-first : (b : Bool) (n : ℕ) (rest : List ℕ) (most : ℕ) → length rest ≤ most → length (if b then n ∷ rest else rest) ≤ most + 1
few-first true n rest most few = omega (arith, few)
few-first false n rest most few = omega (arith, few)

-- they are no more than there are
pub numbered-few : (n : ℕ) (bs : List Bool) → length (numbered_from n bs) ≤ length bs
numbered-few n [] = omega arith
numbered-few n (b ∷ bs) = let few = few-first b n (numbered_from (n + 1) bs) (length bs) (numbered-few (n + 1) bs) in omega (arith, few)

module _ {S T : Type 0} (ps : List (ChannelPartView S T)) where
  -- each is the position of one
  pub head-within : (own : List ℕ) (i c : ℕ) → own ≡ heads_of ps → slice_get own i ≡ Some c → c < length ps
  head-within own i c are at =
      let size = length-map ps (λ (p : ChannelPartView S T). is_some p.head) in
      let r = All-at (λ c. (0 ≤ c) × (c < 0 + length (map (λ (p : ChannelPartView S T). is_some p.head) ps))) own i c
      (subst (λ (l : List ℕ). All (λ c. (0 ≤ c) × (c < 0 + length (map (λ (p : ChannelPartView S T). is_some p.head) ps))) l) (sym are) (in-range 0 (map (λ (p : ChannelPartView S T). is_some p.head) ps) 0 (omega arith))) at in
      omega (arith, r.1, size)

  -- with the next channel's part
  pub heads-more : (p : ChannelPartView S T) → heads_of (ps ++ p ∷ []) ≡ heads_of ps ++ cond (is_some p.head) (length ps ∷ []) []
  heads-more p =
      let size = length-map ps (λ (q : ChannelPartView S T). is_some q.head) in
      ap (λ (bs : List Bool). numbered_from 0 bs) (map-append (λ (q : ChannelPartView S T). is_some q.head) ps (p ∷ []))
      ∙ numbered-more 0 (map (λ (q : ChannelPartView S T). is_some q.head) ps) (is_some p.head) (length ps) (omega (arith, size))

-- ---- one of all parts

module _ {S T : Type 0} (ps : List (ChannelPartView S T)) (c : ℕ) (p p' : ChannelPartView S T) (was : slice_get ps c ≡ Some p) where
  -- they stay where the same nodes are there
  pub heads-stay : SamePart p p' → heads_of (changed ps c p p' was) ≡ heads_of ps
  heads-stay same = ap (λ (bs : List Bool). numbered_from 0 bs) (map-set_same (λ (q : ChannelPartView S T). is_some q.head) ps c p' p (same.head ∙ ap (λ (q : ChannelPartView S T). is_some q.head) (sym (get_or_from_slice_get ps c p p was))))

-- ---- at a place of the list

pub own-channel : (own : List ℕ) (at c : ℕ) → at < length own → c ≡ get_or own at c → slice_get own at ≡ Some c
own-channel own at c there read = slice_get_read own (length own) at c refl there read

module _ {S T : Type 0} (ps : List (ChannelPartView S T)) (own : List ℕ) (at c : ℕ) (there : at < length own) (read : c ≡ get_or own at c) (are : own ≡ heads_of ps) where
  pub own-within : c < length ps
  own-within = head-within ps own at c are (own-channel own at c there read)

  pub own-part : (p : ChannelPartView S T) → p ≡ get_or ps c p → slice_get ps c ≡ Some p
  own-part p is = slice_get_read ps (length ps) c p refl own-within is
