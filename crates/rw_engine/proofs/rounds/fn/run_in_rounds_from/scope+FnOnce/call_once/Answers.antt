use Rattle.rw_engine.proofs.rounds.fn.run_in_rounds_from.scope+FnOnce.call_once.Goals as goal

-- which of the types may move to a thread, or be shared by threads, is known of the whole call, as the clauses are
pub scope-requires : goal.scope-requires
scope-requires g c =
    let known = c.requires.1.1.1.1.1.1.1 in
    let types = known.1.1 in
    (types.0, (types.1, (types.2, (types.3, (types.4, (types.5, (known.0, known.1.0)))))))
