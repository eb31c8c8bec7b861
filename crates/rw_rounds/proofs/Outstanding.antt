-- What is outstanding after a round is not before what the board gave.
use Rattle.std.proofs.Common.{◌≡◌, ℕ, zero, suc, ◌+◌, ◌^◌, ◌<◌, ◌≤◌, List, [], ◌∷◌, ◌++◌, map, refl, sym, ap, ◌∙◌, subst, arith, Option, Some, None}
use Rattle.std.specs.Prelude.{◌/◌, ◌%◌, slice_get}
use Rattle.std.specs.List.{All}
use Rattle.std.specs.declared.cmp.Ordering.{Ordering}
use Rattle.std.proofs.lemmas.List.Elements.{All-head, All-tail}
use Rattle.rw_vt.specs.declared.event.Event.{Event}
use Rattle.rw_vt.specs.declared.event.Letter.{Letter}
use Rattle.rw_vt.specs.declared.model.Model.{Ghosts}
use Rattle.rw_vt.specs.Order.{event_cmp, Each}
use Rattle.rw_vt.specs.System.{Rules, rules}
use Rattle.rw_vt.proofs.EventOrder.{events_exact}
use Rattle.rw_vt.proofs.Sorting.{IsExactOrder}
use Rattle.rw_vt.proofs.Bags.{Each-cons, Each-append}
use Rattle.rw_vt.proofs.Laws.{Laws}
use Rattle.rw_lp.specs.declared.held.Held.{Held}
use Rattle.rw_lp.specs.HeldMessages.{held_messages}
use Rattle.rw_lp.specs.Process.{ProcessState}
use Rattle.rw_lp.specs.Sound.{IsHeldFor, SoundAt}
use Rattle.rw_world.specs.declared.parts.Parts.{Parts}
use Rattle.rw_world.specs.Calls.{system_of, simulation_of, world_of, IsWhole}
use Rattle.rw_world.specs.Sound.{IsQuiet, list_at, held_in}
use Rattle.rw_exchange.specs.Ports.{received_from}
use Rattle.rw_pool.specs.Sums.{sum_below}
use Rattle.rw_pool.proofs.Sums.{total_zero}
use Rattle.rw_rounds.specs.declared.plan.Plan.{Plan}
use Rattle.rw_rounds.specs.Plans.{IsInRanges}
use Rattle.rw_rounds.specs.Bags.{weigh, Every}
use Rattle.rw_rounds.specs.Turns.{WorkerState, process_at, closing_times}
use Rattle.rw_rounds.specs.Rounds.{role, Round, noted_below}
use Rattle.rw_rounds.proofs.Cited.{every_back, every_zero, place_of, weigh_zero}
use Rattle.rw_rounds.proofs.Least.{least_end, every_from_least, noted_each, none_before}
use Rattle.rw_rounds.proofs.Totals.{every_counted}
use Rattle.rw_rounds.proofs.Working.{early, early_none, none_early}
use Rattle.rw_rounds.proofs.Joining.{owned, closed, none_aside, is_at}

-- A held message is later than its event, which is pending

module _ {S B : Type 0} (y : Rules S B) (o : IsExactOrder y.order) (t : ℕ) where
  held_later : (pending : List (Event B)) (hs : List (Held B)) → Each y.order (λ e. t ≤ e.time) pending → All (λ h. IsHeldFor y pending h) hs → Each y.order (λ e. t ≤ e.time) (held_messages hs)
  held_later pending [] late all = λ e k. absurd (omega arith)
  held_later pending (h ∷ hs) late all =
      let here : IsHeldFor y pending h = All-head (λ h. IsHeldFor y pending h) h hs all in
      let from : t ≤ h.undone.time = late h.undone here.there in
      let later : h.undone.time < h.message.time = here.later in
      Each-cons o (λ e. t ≤ e.time) h.message (held_messages hs) (omega arith) (held_later pending hs late (All-tail (λ h. IsHeldFor y pending h) h hs all))

  pub all_held_later : (ps : List (ProcessState S B)) → ((q : ℕ) (u : ProcessState S B) → slice_get ps q ≡ Some u → Each y.order (λ e. t ≤ e.time) u.pending × All (λ h. IsHeldFor y u.pending h) u.held) → Each y.order (λ e. t ≤ e.time) (held_in ps)
  all_held_later [] late = λ e k. absurd (omega arith)
  all_held_later (u ∷ ps) late =
      let here = late zero u refl in
      Each-append o (λ e. t ≤ e.time) (held_messages u.held) (held_in ps) (held_later u.pending u.held here.0 here.1) (all_held_later ps (λ q v at. late (suc q) v at))

module _ {M S B U : Type 0} {model : Ghosts M S B U} {order : B → B → Ordering} (laws : Laws model order) (plan : Plan) (x z : Parts M S B U) (least : ℕ) (ranges : IsInRanges plan) (whole : IsWhole model order x) (round : Round model order plan x z least) where
  -- what the board gave is the least of all notes
  pub floor_end : least ≤ 2 ^ 40
  floor_end = let is = round.floor_is in omega (arith, least_end (noted_below plan.workers (λ i. (round.last i).seat)))

  least_noted : (i : ℕ) → i < plan.workers → Every (λ t. least ≤ t) (round.last i).seat.noted
  least_noted i below =
      let is = round.floor_is in
      noted_each (λ t. least ≤ t) plan.workers (λ i. (round.last i).seat) (every_from_least least (noted_below plan.workers (λ i. (round.last i).seat)) (omega arith)) i below

  -- among them those of each worker's closing
  closing_noted : (i : ℕ) (l : i < plan.workers) → Every (λ t. least ≤ t) ((round.works i l).between.seat.noted ++ closing_times (round.works i l).between)
  closing_noted i l = subst (Every (λ t. least ≤ t)) (ap (λ (u : WorkerState M S B). u.seat.noted) (round.works i l).closes) (least_noted i l)

  last_noted : (i : ℕ) (l : i < plan.workers) → Every (λ t. least ≤ t) (closing_times (round.works i l).between)
  last_noted i l = every_back (λ t. least ≤ t) (round.works i l).between.seat.noted (closing_times (round.works i l).between) (closing_noted i l)

  -- how many of these letters are before it
  abbrev early_in : List (Letter B) → ℕ
  early_in ls = weigh (λ l. early least l.event.time) ls

  none_left_early : (i k : ℕ) → i < plan.workers → k < plan.workers → early_in (round.left i k) ≡ 0
  none_left_early i k li lk =
      let sent = (closed laws plan x z least ranges whole round i li).0.noted least (least_noted i li) k lk in
      let all = subst (Every (λ l. least ≤ l.event.time)) (sym (round.settled i k li lk)) sent in
      weigh_zero (λ l. early least l.event.time) (round.left i k) (λ l h. early_none least l.event.time h) (every_back (λ l. least ≤ l.event.time) (received_from (round.last k).port i) (round.left i k) all)

  none_kept_early : (i : ℕ) → i < plan.workers → early_in (round.last i).kept ≡ 0
  none_kept_early i l = ap (λ (u : WorkerState M S B). early_in u.kept) (round.works i l).closes ∙ mapped (round.works i l).between.kept (last_noted i l).1
    where
      mapped : (ls : List (Letter B)) → Every (λ t. least ≤ t) (map (λ l. l.event.time) ls) → early_in ls ≡ 0
      mapped [] h = refl
      mapped (l ∷ ls) h = omega (arith, early_none least l.event.time h.0, mapped ls h.1)

  -- no letter on its way is before it
  letters_from : Every (λ l. least ≤ l.event.time) z.letters.items
  letters_from =
      every_zero (λ l. least ≤ l.event.time) (λ l. early least l.event.time) z.letters.items (λ l. none_early least l.event.time)
      (round.letters_are (λ l. early least l.event.time) ∙ sums)
    where
      sums : sum_below plan.workers (λ i. sum_below plan.workers (λ k. early_in (round.left i k))) + sum_below plan.workers (λ i. early_in (round.last i).kept + early_in (round.last i).aside) ≡ 0
      sums =
          let a = total_zero plan.workers (λ i. sum_below plan.workers (λ k. early_in (round.left i k))) (λ i li. total_zero plan.workers (λ k. early_in (round.left i k)) (λ k lk. none_left_early i k li lk)) in
          let b = total_zero plan.workers (λ i. early_in (round.last i).kept + early_in (round.last i).aside) (λ i li. let c = none_kept_early i li in let d = ap early_in (none_aside laws plan x z least ranges whole round i li) in omega arith) in
          omega arith

  -- nothing is pending or owed before it at any process, each of which is sound
  process_from : (q : ℕ) (u : ProcessState S B) → slice_get (world_of z).processes q ≡ Some u → Each (event_cmp order) (λ e. least ≤ e.time) u.pending × Each (event_cmp order) (λ e. least ≤ e.time) u.debts × All (λ h. IsHeldFor (rules model order x.model) u.pending h) u.held
  process_from q u at =
      let i : ℕ = q % plan.workers in
      let inside : q % plan.workers < plan.workers = owned laws plan x z least ranges whole round q in
      let w = round.works (q % plan.workers) inside in
      let here : process_at (role plan x.collected (q % plan.workers)) (round.last (q % plan.workers)).processes q ≡ Some u = is_at laws plan x z least ranges whole round q ∙ at in
      let sound : SoundAt (rules model order x.model) x.collected q u = (closed laws plan x z least ranges whole round (q % plan.workers) inside).0.well.sound q u here in
      let f = place_of (role plan x.collected (q % plan.workers)) (round.last (q % plan.workers)).processes q u here in
      let there : slice_get w.between.processes (q / plan.workers) ≡ Some f.0 = ap (λ (v : WorkerState M S B). slice_get v.processes (q / plan.workers)) (sym w.closes) ∙ f.1 in
      let exact : IsExactOrder (event_cmp order) = events_exact (record { total = laws.total; same = laws.same }) in
      let none = none_before exact least (2 ^ 40) w.between.processes (last_noted (q % plan.workers) inside).0 in (
        subst (λ (v : ProcessState S B). Each (event_cmp order) (λ e. least ≤ e.time) v.pending) f.2 (none.0 (q / plan.workers) f.0 there),
        subst (λ (v : ProcessState S B). Each (event_cmp order) (λ e. least ≤ e.time) v.debts) f.2 (none.1 (q / plan.workers) f.0 there),
        sound.held,
      )

  -- so nothing outstanding is before it
  pub quiet_after : IsQuiet (system_of model order (simulation_of x)) least (world_of z)
  quiet_after = record {
    pending = λ q. pending q (slice_get (world_of z).processes q) refl;
    debts = λ q. debts q (slice_get (world_of z).processes q) refl;
    letters = λ e k. every_counted (event_cmp order) exact (λ f. least ≤ f.time) e z.letters.items letters_from k;
    held = all_held_later (rules model order x.model) exact least (world_of z).processes (λ q u at. (let f = process_from q u at in (f.0, f.2)));
  }
    where
      exact : IsExactOrder (event_cmp order)
      exact = events_exact (record { total = laws.total; same = laws.same })

      pending : (q : ℕ) (o : Option (ProcessState S B)) → slice_get (world_of z).processes q ≡ o → Each (event_cmp order) (λ e. least ≤ e.time) (list_at (λ u. u.pending) o)
      pending q None at = λ e k. absurd (omega arith)
      pending q (Some u) at = (process_from q u at).0

      debts : (q : ℕ) (o : Option (ProcessState S B)) → slice_get (world_of z).processes q ≡ o → Each (event_cmp order) (λ e. least ≤ e.time) (list_at (λ u. u.debts) o)
      debts q None at = λ e k. absurd (omega arith)
      debts q (Some u) at = (process_from q u at).1
