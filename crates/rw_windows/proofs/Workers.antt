-- The same worker before and after, a worker at other times, and one whose events stand in another order.
use Rattle.std.proofs.Common.{◌≡◌, ℕ, ◌+◌, ◌%◌, ◌≤◌, refl, sym, ◌∙◌, ap, subst, arith, All}
use Rattle.std.proofs.lemmas.List.Elements.{All-nil}
use Rattle.std.proofs.lemmas.List.Sorted.{All-permutation}
use Rattle.std.specs.declared.cmp.Ordering.{Ordering}
use Rattle.rw_vt.specs.declared.model.Model.{Ghosts}
use Rattle.rw_vt.specs.Order.{one_if_same}
use Rattle.rw_vt.specs.System.{rules}
use Rattle.rw_vt.proofs.Partway.{part_reordered}
use Rattle.rw_exchange.specs.Ports.{sent_to}
use Rattle.rw_windows.specs.Batches.{last_bound}
use Rattle.rw_windows.specs.Working.{HandedOver, HasWorked, IsAtWork, IsInTime, IsReordered, SameWorker, ShareState, outbox_to}
use Rattle.rw_windows.proofs.Ports.{same_port, same_port_then}
use Rattle.rw_windows.proofs.Sums.{weigh_permuted}

-- The same worker

module _ {M S B : Type 0} where
  pub same_itself : (x : ShareState M S B) → SameWorker x x
  same_itself x = record { number = refl; workers = refl; end = refl; lookahead = refl; starts = refl; given = refl; port = same_port x.port x.port refl }

  pub same_then : (x y z : ShareState M S B) → SameWorker x y → SameWorker y z → SameWorker x z
  same_then x y z f s = record {
    number = s.number ∙ f.number;
    workers = s.workers ∙ f.workers;
    end = s.end ∙ f.end;
    lookahead = s.lookahead ∙ f.lookahead;
    starts = s.starts ∙ f.starts;
    given = s.given ∙ f.given;
    port = same_port_then x.port y.port z.port f.port s.port;
  }

  pub same_sending : (w x : ShareState M S B) (t : ℕ) → x ≡ w → SameWorker w (record x { bound_out = t })
  same_sending w x t e = record {
    number = ap (λ z. z.number) e;
    workers = ap (λ z. z.workers) e;
    end = ap (λ z. z.end) e;
    lookahead = ap (λ z. z.lookahead) e;
    starts = ap (λ z. z.starts) e;
    given = ap (λ z. z.given) e;
    port = same_port w.port x.port (ap (λ z. z.port) e);
  }

  pub same_receiving : (w x : ShareState M S B) (t : ℕ) → SameWorker w x → SameWorker w (record x { bound_in = t })
  same_receiving w x t s = record {
    number = s.number;
    workers = s.workers;
    end = s.end;
    lookahead = s.lookahead;
    starts = s.starts;
    given = s.given;
    port = s.port;
  }

  -- with other events at hand
  pub same_reordered : (x x' : ShareState M S B) → IsReordered x x' → SameWorker x x'
  same_reordered x x' moved = record {
    number = ap (λ (w : ShareState M S B). w.number) moved.same;
    workers = ap (λ (w : ShareState M S B). w.workers) moved.same;
    end = ap (λ (w : ShareState M S B). w.end) moved.same;
    lookahead = ap (λ (w : ShareState M S B). w.lookahead) moved.same;
    starts = ap (λ (w : ShareState M S B). w.starts) moved.same;
    given = ap (λ (w : ShareState M S B). w.given) moved.same;
    port = same_port x.port x'.port (ap (λ (w : ShareState M S B). w.port) moved.same);
  }

  pub handed_over_too : (x x' : ShareState M S B) → IsReordered x x' → HandedOver x → HandedOver x'
  handed_over_too x x' moved none v = ap (λ (w : ShareState M S B). outbox_to w v) moved.same ∙ none v

-- A worker at work

module _ {M S B U : Type 0} {model : Ghosts M S B U} {order : B → B → Ordering} (m : M) (x : ShareState M S B) (at : IsAtWork model order m x) where
  -- it can work at other times, where they are in order
  pub at_times : (until bound_in bound_out : ℕ) → x.until ≤ until → IsInTime (record x { until = until; bound_in = bound_in; bound_out = bound_out })
      → IsAtWork model order m (record x { until = until; bound_in = bound_in; bound_out = bound_out })
  at_times until bound_in bound_out more times = record {
    seated = record {
      ready = at.seated.ready;
      ahead = at.seated.ahead;
      number = at.seated.number;
      port = at.seated.port;
      wide = at.seated.wide;
      lists = at.seated.lists;
      sends = at.seated.sends;
      hears = at.seated.hears;
    };
    done = record {
      journal = at.done.journal;
      partway = at.done.partway;
      own = at.done.own;
      ours = at.done.ours;
      theirs = at.done.theirs;
      none = at.done.none;
      states_are = at.done.states_are;
      before = λ q a h. let l = at.done.before q a h in omega (arith, l, more);
    };
    times = times;
  }

  -- where nothing is to be handed over, it may go on to what it heard and said
  pub further : HandedOver x → (u : ℕ) → x.until ≤ u → u ≤ x.bound_in → u ≤ x.bound_out → u ≤ x.end → IsAtWork model order m (record x { until = u })
  further none u more bound_in bound_out end =
      at_times u x.bound_in x.bound_out more (record {
        until = (bound_in, bound_out, end);
        reached = at.times.reached;
        bound_in = at.times.bound_in;
        told = at.times.told;
        far = at.times.far;
        hears = at.times.hears;
        outbox = λ v other. subst (All (λ a. (u ≤ a.time) × (last_bound (sent_to x.port v) ≤ a.time))) (sym (none v)) (All-nil (λ a. (u ≤ a.time) × (last_bound (sent_to x.port v) ≤ a.time)));
      })

  -- what waits is in another order
  pub reordered : (x' : ShareState M S B) → IsReordered x x' → IsAtWork model order m x'
  reordered x' moved = subst (IsAtWork model order m) (sym moved.same) (record {
    seated = record {
      ready = at.seated.ready;
      ahead = at.seated.ahead;
      number = at.seated.number;
      port = at.seated.port;
      wide = at.seated.wide;
      lists = at.seated.lists;
      sends = at.seated.sends;
      hears = at.seated.hears;
    };
    done = record {
      journal = at.done.journal;
      partway = part_reordered at.done.partway (λ e. weigh_permuted (one_if_same (rules model order m).order e) x.waiting x'.waiting moved.waiting) (λ e. refl);
      own = at.done.own;
      ours = All-permutation (λ a. a.to % x.workers ≡ x.number) x.waiting x'.waiting moved.waiting at.done.ours;
      theirs = at.done.theirs;
      none = at.done.none;
      states_are = at.done.states_are;
      before = at.done.before;
    };
    times = record {
      until = at.times.until;
      reached = let r = at.times.reached in omega (arith, r);
      bound_in = at.times.bound_in;
      told = at.times.told;
      far = All-permutation (λ a. x.bound_out ≤ a.time + x.lookahead) x.waiting x'.waiting moved.waiting at.times.far;
      hears = at.times.hears;
      outbox = at.times.outbox;
    };
  })

-- a worker that leaves its share
module _ {M S B U : Type 0} (model : Ghosts M S B U) (order : B → B → Ordering) (m : M) where
  pub worked : (first last share : ShareState M S B) → SameWorker first last → IsAtWork model order m last → IsReordered last share
      → (last.until ≡ last.end → All (λ a. last.end ≤ a.time) last.waiting) → HasWorked model order m first share
  worked first last share same at moved waits = record {
    at_work = reordered m last at share moved;
    same = same_then first last share same (same_reordered last share moved);
    waits = λ e.
        let until = ap (λ (w : ShareState M S B). w.until) moved.same in
        let end = ap (λ (w : ShareState M S B). w.end) moved.same in
        subst (λ t. All (λ a. t ≤ a.time) share.waiting) (sym end) (All-permutation (λ a. last.end ≤ a.time) last.waiting share.waiting moved.waiting (waits (sym until ∙ e ∙ end)));
  }
