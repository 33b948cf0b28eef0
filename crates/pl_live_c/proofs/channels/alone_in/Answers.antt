use Rattle.std.proofs.Common.{rules, ◌≡◌, ◌≢◌, [], ◌∷◌, ◌++◌, length, false, true}
use Rattle.pl_live_c.proofs.Opened.{alone, is_alone, is_fed, is_last}
use Rattle.pl_live_c.proofs.channels.alone_in.Goals as goal
use Rattle.pl_live_c.proofs.channels.alone_in.Goals.{else-is_empty-via-then-is_empty+else-is_to_be_fed, else-is_empty-via-else-is_empty}

pub returns-then-is_to_be_fed : goal.returns-then-is_to_be_fed
returns-then-is_to_be_fed c =
    let session = c.args.session in let r = c.in_ok-recorded.recorded in let rest = c.pop.new.self.items in
    let one : session.world.executors ≡ 1 = search rules in
    let whole : session.world.channels ≡ rest ++ r ∷ [] = search rules in
    let none : length rest ≡ 0 = search rules in
    let fed = c.is_to_be_fed.ensures.0 c.if-is_to_be_fed.true in
    is_alone session r c.into_channels.ensures.is_world one (alone session.world.channels rest r whole none) fed.0 fed.1

pub returns : goal.returns
returns c p fed =
    let session = c.args.session in let r = c.in_ok-recorded.recorded in let rest = c.pop.new.self.items in
    let whole : session.world.channels ≡ rest ++ r ∷ [] = search rules in
    let none : length rest ≡ 0 = is_last session p rest r whole fed in
    elim c.else-is_empty.branch [
      | else-is_empty-via-then-is_empty+else-is_to_be_fed w ↦
          let is : w.is_to_be_fed.result ≡ true = w.is_to_be_fed.ensures.1 (is_fed session r p (alone session.world.channels rest r whole none) fed) in
          let isnt : w.is_to_be_fed.result ≡ false = w.if-is_to_be_fed.false in absurd (cc)
      | else-is_empty-via-else-is_empty w ↦
          let some : length rest ≢ 0 = search rules in some none
    ]
