-- What a worker did with its inbox at hand makes up a turn.
use Rattle.std.proofs.Common.{◌≡◌, ℕ, ◌+◌, ◌<◌, ◌≤◌, true, [], sym, subst, arith}
use Rattle.rw_vt.specs.Order.{Each}
use Rattle.rw_vt.specs.System.{Rules}
use Rattle.rw_lp.specs.Process.{ProcessState}
use Rattle.rw_rounds.specs.Bags.{Every}
use Rattle.rw_rounds.specs.Deeds.{Goes, way_of}
use Rattle.rw_rounds.specs.Turns.{WorkerState, is_own, process_at, TookTurn}
use Rattle.rw_rounds.specs.Working.{Works, HeldBack}
use Rattle.rw_rounds.proofs.ByPlace.{place_of}
use Rattle.rw_rounds.proofs.Adding.{all_own}

module _ {M S B : Type 0} (y : Rules S B) (a z : WorkerState M S B) (n : ℕ) where
  pub turn_taken : Every (λ l. is_own a.role l ≡ true) a.inbox → Works y a.role (record a { inbox = [] }) z a.inbox [] n → n ≤ a.role.plan.batch → (n < a.role.plan.batch → HeldBack y (z.seat.read + a.role.plan.window) z.processes) → TookTurn y a z n
  turn_taken own w within held = record {
    role = w.after;
    same_port = w.same_port;
    same_board = w.same_board;
    deeds = w.deeds;
    given = w.given;
    sent = w.sent;
    received = w.received;
    noted = w.noted;
    goes = subst (λ k. Goes y a.role.collected (way_of a.role.plan.lazy) w.deeds (process_at a.role a.processes) (process_at k z.processes) w.given) (sym w.after) w.goes;
    emptied = w.inbox;
    sent_more = w.sent_more;
    received_more = w.received_more;
    noted_more = w.noted_more;
    arrived = λ h. (let o = all_own a.role h a.inbox own in omega (arith, w.arrived h, o.0));
    set_aside = w.set_aside;
    passed_on = λ h. (let o = all_own a.role h a.inbox own in omega (arith, w.passed_on h, o.1));
    on_its_ring = w.on_its_ring;
    notes = w.notes;
    executed = w.executed;
    within = within;
    held_back = λ few q x at. (let f = place_of z.role z.processes q x at in subst (λ (u : ProcessState S B). Each y.order (λ e. z.seat.read + a.role.plan.window ≤ e.time) u.pending) f.2 (held few (Rattle.std.specs.Prelude.◌/◌ q z.role.plan.workers) f.0 f.1));
  }
