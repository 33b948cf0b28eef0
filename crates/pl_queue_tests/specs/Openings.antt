-- Lanes that are apart.
use Rattle.std.specs.Global.{Vec}
use Rattle.std.specs.Prelude.{◌≡◌, ◌<◌, ℕ, zero, suc, List, [], ◌∷◌, ◌++◌, get_or}
use Rattle.pl_event.specs.declared.envelopes.Lane.{Lane}
use Rattle.pl_event.specs.Hops.{flags_lane}

-- the flags lanes of so many hops of a channel
abbrev pub hops_below : ℕ → ℕ → List Lane
hops_below channel zero = []
hops_below channel (suc n) = hops_below channel n ++ flags_lane channel n ∷ []

-- each of the first so many lists has the flags lanes of a channel's hops
abbrev pub HaveChannels : ℕ → ℕ → List (Vec Lane) → Type 0
HaveChannels hops channels lists = (i : ℕ) (v : Vec Lane) → i < channels → v ≡ get_or lists i v → v.items ≡ hops_below i hops
