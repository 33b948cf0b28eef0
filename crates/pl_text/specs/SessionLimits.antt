-- The limits of a session (docs/FORMATS.md, "Session"): each session that is read is within them.
use Rattle.std.specs.Prelude.{◌≡◌, ◌≤◌, ◌+◌, length, true, MatchOption}
use Rattle.std.specs.List.{AllByRecursion}
use Rattle.pl_world.specs.Plans.{Plan, ChannelPlan}
use Rattle.pl_world.specs.PlanRules.{IsSmallChannel}
use Rattle.pl_world.specs.Limits.{fits, aborts_within}
use Rattle.pl_build.specs.declared.limits.TheConstants.{MAX_EXECUTORS, MAX_HANDLERS, MAX_MARK}
use Rattle.pl_world.specs.declared.limits.TheConstants.{MAX_CAPACITY, MAX_CHANNELS}
use Rattle.pl_text.specs.declared.session_text.limits.TheConstants.{MAX_WINDOW}
use Rattle.pl_text.specs.SessionOutlines.{IsCallWithin}

pub record IsChannelWithin (channel : ChannelPlan) : Type 0 where
  pub handlers_at_most : length channel.inbound + length channel.outbound ≤ MAX_HANDLERS
  pub order : channel.low ≤ channel.high
  pub high_at_most : channel.high ≤ MAX_MARK
  pub window : MatchOption channel.window ⊥ (λ window. (1 ≤ window) × (window ≤ MAX_WINDOW))
  pub fail_at : IsCallWithin channel.fail_at
  pub bursts : fits channel.bursts ≡ true
  pub abort_after : aborts_within channel.abort_after (length channel.bursts) ≡ true
  pub lanes : IsSmallChannel channel

-- A session is within its limits (FORMATS).
pub record IsWithinLimits (session : Plan) : Type 0 where
  pub capacity_at_least : 1 ≤ session.capacity
  pub capacity_at_most : session.capacity ≤ MAX_CAPACITY
  pub executors_at_least : 1 ≤ session.executors
  pub executors_at_most : session.executors ≤ MAX_EXECUTORS
  pub channels_at_most : length session.channels ≤ MAX_CHANNELS
  pub each_channel : AllByRecursion IsChannelWithin session.channels
