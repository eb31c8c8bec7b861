use Rattle.rw_rounds.proofs.running.fn.run.scope+FnOnce.call_once.Goals as goal

-- which of the types may move to a thread, or be shared by threads, is known of the whole call
pub scope-requires : goal.scope-requires
scope-requires g c =
    let known = c.requires.1.1.1.1.1.1 in
    (known.0, (known.1, (known.2, (known.3, (known.4, (known.5, known.6))))))
