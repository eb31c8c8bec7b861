use Rattle.rw_calls.proofs.cache_calls.execute_and_reverse.Goals as goal

pub reverse-requires-clause-linked : goal.reverse-requires-clause-linked
reverse-requires-clause-linked c = (c.args.edge.now, c.requires.well_formed, c.in_ok-undo.ensures.links)
