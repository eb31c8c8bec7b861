-- Workers that have done nothing yet: only contracts of private functions cite this.
use Rattle.std.specs.Prelude.{◌≡◌, [], IsPermutation, Option, Some, None, if◌then◌else◌, nat_lt, replicate}
use Rattle.rw_vt.specs.Words.{Count, Time, Worker}
use Rattle.rw_windows.specs.declared.running.Windows.{Windows}
use Rattle.rw_windows.specs.Batches.{BatchState}
use Rattle.rw_windows.specs.Working.{ShareState}

-- the first batch to worker v of n, which says how far all have come before they begin
abbrev pub first_batch_to : {M B : Type 0} → M → Count → Time → Worker → BatchState M B
first_batch_to m n bound v =
    record { events = []; bound = bound; model = m; workers = n; to = v }

-- the first batch from a worker to another of n, which there is for each of them
abbrev pub first_batch : {M B : Type 0} → M → Count → Time → Worker → Worker
    → Option (BatchState M B)
first_batch m n bound from to = if nat_lt to n then Some (first_batch_to m n bound to) else None

-- the worker has done nothing yet, in these windows; nothing is sent before the bound
pub record HasNotBegun {M S B : Type 0} (t : Windows) (bound : Time)
    (x : ShareState M S B) : Type 0 where
  pub is : x ≡ record x {
    workers = t.workers;
    end = t.end;
    lookahead = t.lookahead;
    reached = 0;
    outbox = replicate t.workers [];
    until = 0;
    bound_in = bound;
    bound_out = bound;
  }
  pub waiting : IsPermutation x.given x.waiting
