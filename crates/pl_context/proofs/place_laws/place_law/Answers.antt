use Rattle.pl_context.proofs.Places.{places-start, places-for, places-put, places-puts_all}
use Rattle.pl_context.proofs.place_laws.place_law.Goals as goal

pub returns-clause-start : goal.returns-clause-start
returns-clause-start c = λ places lanes few. places-start places lanes few

pub returns-clause-some : goal.returns-clause-some
returns-clause-some c = λ s lanes few h among. places-for s lanes few h among

pub returns-clause-put : goal.returns-clause-put
returns-clause-put c = λ before after e answer lanes h own puts. places-put before after e answer lanes h own puts

pub returns-clause-all : goal.returns-clause-all
returns-clause-all c = λ before after es lanes h own puts. places-puts_all before after es lanes h own puts
