use Rattle.std.proofs.lemmas.Result.{on_ok_weaker, on_err_weaker}
use Rattle.pl_head.specs.HeadCalls.{HeadFeeds}
use Rattle.pl_part.specs.Parts.{ChannelPartView}
use Rattle.pl_part.proofs.Growing.{has-head, fed-of, kept-of, feeds-of}
use Rattle.pl_part.proofs.parts.ChannelPart.feed.Goals as goal

pub feed-requires-clause-more : goal.feed-requires-clause-more
feed-requires-clause-more g c = c.requires.more c.in-Some.head (has-head _ _ c.self.view_is c.in-Some.head c.in-Some.is)

pub feed-requires-clause-few : goal.feed-requires-clause-few
feed-requires-clause-few g c = c.requires.few c.in-Some.head (has-head _ _ c.self.view_is c.in-Some.head c.in-Some.is)

pub returns-clause-fed : goal.returns-clause-fed
returns-clause-fed g c =
    let v : ChannelPartView _ _ = record { path = c.self.inside.path; head = c.self.inside.head } in
    on_ok_weaker c.feed.result (λ (f : HeadFeeds c.args.burst c.in-Some.head c.feed.new.self). fed-of c.args.self.now v c.self.view_is c.in-Some.head c.in-Some.is c.args.burst c.feed.new.self f.fed) c.feed.ensures.feeds

pub returns-clause-kept : goal.returns-clause-kept
returns-clause-kept g c =
    let v : ChannelPartView _ _ = record { path = c.self.inside.path; head = c.self.inside.head } in
    on_err_weaker c.feed.result (kept-of c.args.self.now v c.self.view_is c.in-Some.head c.in-Some.is c.args.burst c.feed.new.self) c.feed.ensures.kept

pub returns-clause-feeds : goal.returns-clause-feeds
returns-clause-feeds g c =
    let v : ChannelPartView _ _ = record { path = c.self.inside.path; head = c.self.inside.head } in
    on_ok_weaker c.feed.result (feeds-of c.args.self.now v c.self.view_is c.in-Some.head c.in-Some.is c.args.burst c.feed.new.self) c.feed.ensures.feeds
