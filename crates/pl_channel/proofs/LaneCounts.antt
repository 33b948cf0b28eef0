-- How many lanes there are, as sums over the parts.
use Rattle.std.proofs.Common.{◌≡◌, ℕ, ◌<◌, ◌≤◌, ◌^◌, List, length, map, ◌∙◌, arith}
use Rattle.std.specs.List.{sum_by, range_with_len}
use Rattle.std.proofs.lemmas.List.{length-map}
use Rattle.std.proofs.lemmas.List.Concat.{length-flat_map}
use Rattle.std.proofs.lemmas.List.FromFn.{length-range_with_len, length-map-range_with_len}
use Rattle.std.proofs.lemmas.List.Sums.{length-filter, count_by-le-length, sum_by-le-sum_by}
use Rattle.pl_event.specs.Hops.{data_lane}
use Rattle.pl_part.specs.Parts.{ChannelPartView, part_lanes}
use Rattle.pl_channel.specs.Channels.{data_lanes_of}
use Rattle.pl_channel.specs.Ways.{lanes_between, hops_between, goes_between}

module _ {S T : Type 0} (ps : List (ChannelPartView S T)) where
  pub length-data_lanes : length (data_lanes_of ps) ≡ sum_by (λ p. length p.path.executors) ps
  length-data_lanes =
      length-flat_map part_lanes ps
      ∙ (λ i. sum_by (λ (p : ChannelPartView S T). length-map-range_with_len (λ hop. data_lane p.path.channel hop) 0 (length p.path.executors) i) ps)

  module _ (x y : ℕ) where
    pub length-lanes_between : length (lanes_between ps x y) ≡ sum_by (λ p. length (hops_between x y p)) ps
    length-lanes_between =
        length-flat_map (λ (p : ChannelPartView S T). map (λ hop. data_lane p.path.channel hop) (hops_between x y p)) ps
        ∙ (λ i. sum_by (λ (p : ChannelPartView S T). length-map (hops_between x y p) (λ hop. data_lane p.path.channel hop) i) ps)

    hops-between-few : (p : ChannelPartView S T) → length (hops_between x y p) ≤ length p.path.executors
    hops-between-few p =
        let hops = range_with_len 0 (length p.path.executors) in
        omega (arith, length-filter (goes_between x y p) hops, count_by-le-length (goes_between x y p) hops, length-range_with_len 0 (length p.path.executors))

    pub lanes-between-few : length (data_lanes_of ps) < 2 ^ 16 → sum_by (λ p. length (hops_between x y p)) ps < 2 ^ 16
    lanes-between-few few =
        let fewer = sum_by-le-sum_by (λ (p : ChannelPartView S T). length (hops_between x y p)) (λ (p : ChannelPartView S T). length p.path.executors) ps hops-between-few in
        omega (arith, few, length-data_lanes, fewer)
