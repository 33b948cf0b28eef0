use Rattle.std.proofs.Common.{◌≡◌, ◌≢◌, ◌<◌, false}
use Rattle.pl_words.specs.declared.status.Status.TheVariants.{Closed}
use Rattle.pl_post.specs.Posts.{IsOwnerOf}
use Rattle.pl_post_tests.proofs.feeding.serve.Given as goal

abbrev pub invariant-loop : goal.invariant-loop
invariant-loop g l = record {
  owner : IsOwnerOf g.M.Mailbox.ends l.post l.owner;
  unclosed : l.owner.owner.phase ≢ Closed;
  open_ : l.served.closed ≡ false;
  tries : l.tries < 10000000;
}
