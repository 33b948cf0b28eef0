use Rattle.pl_threads.proofs.threads.fn.run_all.scope+FnOnce.call_once.Goals as goal

-- What the closure asks for is what its caller has.
pub scope-requires : goal.scope-requires
scope-requires g c =
    let given = c.requires.1.1.1.1.1.1.1 in
    let s = given.1 in
    (s.0, (s.1, (s.2, (s.3, (s.4, (s.5, (s.6, (s.7, (s.8, given.0)))))))))
