-- A worker that is fit for a turn stays so.
use Rattle.std.proofs.Common.{◌≡◌, ℕ, zero, suc, ◌+◌, ◌*◌, ◌<◌, ◌≤◌, Bool, true, false, cond, List, [], ◌∷◌, length, refl, sym, ap, ◌∙◌, subst, arith, Some}
use Rattle.std.specs.Prelude.{not, ◌/◌, ◌%◌, slice_get, slice_set}
use Rattle.std.specs.declared.cmp.Ordering.{Ordering}
use Rattle.std.proofs.lemmas.Bool.{eqb-true, eq-eqb}
use Rattle.rw_vt.specs.declared.event.Letter.{Letter}
use Rattle.rw_vt.specs.declared.model.Model.{Ghosts}
use Rattle.rw_vt.specs.Order.{event_cmp}
use Rattle.rw_vt.specs.System.{rules}
use Rattle.rw_vt.proofs.Laws.{Laws}
use Rattle.rw_lp.specs.Process.{ProcessState}
use Rattle.rw_lp.specs.Calls.{LogicalProcess}
use Rattle.rw_lp.specs.Sound.{SoundAt, HasCollected, IsSoundOnceCollected, StartsWell}
use Rattle.rw_exchange.specs.Ports.{PortState, SamePort, IsWide}
use Rattle.rw_board.specs.Seats.{SeatState}
use Rattle.rw_pool.proofs.Dealing.{number_place}
use Rattle.rw_rounds.specs.Bags.{weigh, only, Every}
use Rattle.rw_rounds.specs.Deeds.{IsFair, arrivals, way_of}
use Rattle.rw_rounds.specs.Turns.{Role, WorkerState, owner, is_own, process_at, IsInPlace, IsFit}
use Rattle.rw_rounds.specs.Working.{IsFitAndSound, Works}
use Rattle.rw_rounds.proofs.ByPlace.{get_within, at_place, place_of}
use Rattle.rw_rounds.proofs.Governing.{Governs, StartsIn, governs}
use Rattle.rw_rounds.proofs.Going.{Well, Gone, goes_gone, well_after}
use Rattle.rw_rounds.proofs.Sums.{weigh_zero, every_zero}

pub there_is : {A : Type 0} (xs : List A) (q : ℕ) → q < length xs → (x : A) × (slice_get xs q ≡ Some x)
there_is [] q h = absurd (omega arith)
there_is (x ∷ xs) zero h = (x, refl)
there_is (x ∷ xs) (suc q) h = there_is xs q (omega arith)

module _ {B : Type 0} (r : Role) where
  -- 1 where the letter is the worker's own
  abbrev own_one : Letter B → ℕ
  own_one l = cond (is_own r l) 1 0

  others_zero : (l : Letter B) → (owner r l ≡ r.number → ⊥) → own_one l ≡ 0
  others_zero l h = go (is_own r l) refl
    where
      go : (b : Bool) → is_own r l ≡ b → cond {A = ℕ} b 1 0 ≡ 0
      go true q = absurd (h (eqb-true (owner r l) r.number q))
      go false q = refl

  zero_other : (l : Letter B) → own_one l ≡ 0 → owner r l ≡ r.number → ⊥
  zero_other l h q = let one : own_one l ≡ 1 = ap (λ b. cond {A = ℕ} b 1 0) (eq-eqb (owner r l) r.number q) in omega arith

  never_both : (ls : List (Letter B)) → weigh (only (λ l. not (is_own r l)) own_one) ls ≡ 0
  never_both [] = refl
  never_both (l ∷ ls) = go (is_own r l) (never_both ls)
    where
      go : (b : Bool) → weigh (only (λ l. not (is_own r l)) own_one) ls ≡ 0 → cond (not b) (cond {A = ℕ} b 1 0) 0 + weigh (only (λ l. not (is_own r l)) own_one) ls ≡ 0
      go true k = omega arith
      go false k = omega arith

-- what is sound has collected
pub collected_of : {M S B U : Type 0} (model : Ghosts M S B U) (order : B → B → Ordering) (m : M) (g p : ℕ) (x : ProcessState S B) → SoundAt (rules model order m) g p x → HasCollected (event_cmp order) g x
collected_of model order m g p x s = record { committed = s.committed_below; processed = s.processed_from; pending = s.pending_from; debts = s.debts_from }

-- as every process starts well and is sound once it has collected, so do and are those of a worker that is fit
pub fit_and_sound : {M S B U : Type 0} (model : Ghosts M S B U) (order : B → B → Ordering) (m : M) (a : WorkerState M S B) → IsFit model order m a
    → ((place : ℕ) (l : LogicalProcess M S B) → slice_get a.processes place ≡ Some l → StartsWell model l)
    → ((place : ℕ) (l : LogicalProcess M S B) → slice_get a.processes place ≡ Some l → IsSoundOnceCollected model order l) → IsFitAndSound model order m a
fit_and_sound model order m a fit starts every = record {
  fit = fit;
  starts = starts;
  sound = λ place l there. (let here = fit.in_place place l there in subst (λ k. SoundAt (rules model order k) a.role.collected l.number l.process) here.model_is (every place l there a.role.collected here.collected));
}

-- where a process of the model m starts, and that it starts there well
pub starts_in : {M S B U : Type 0} {model : Ghosts M S B U} (m : M) (l : LogicalProcess M S B) → l.model ≡ m → StartsWell model l → StartsIn model m l.number l.process.start
starts_in {model = model} m l is w = subst (λ k. StartsIn model k l.number l.process.start) is (w.number, w.start)

module _ {M S B U : Type 0} {model : Ghosts M S B U} {order : B → B → Ordering} (laws : Laws model order) (m : M) where
  -- the processes of a worker that is fit are sound, each at its number
  pub well_of : (a : WorkerState M S B) (up : IsFitAndSound model order m a) → Well (rules model order m) (StartsIn model m) a.role.collected (process_at a.role a.processes)
  well_of a up = record { sound = λ q x h. (go q x (place_of a.role a.processes q x h)).0; started = λ q x h. (go q x (place_of a.role a.processes q x h)).1 }
    where
      go : (q : ℕ) (x : ProcessState S B) → (l : LogicalProcess M S B) × (slice_get a.processes (q / a.role.plan.workers) ≡ Some l) × (l.process ≡ x) × (q % a.role.plan.workers ≡ a.role.number) → SoundAt (rules model order m) a.role.collected q x × StartsIn model m q x.start
      go q x f =
          let s = up.fit.in_place (q / a.role.plan.workers) f.0 f.1 in
          let n : a.role.plan.workers * (q / a.role.plan.workers) + q % a.role.plan.workers ≡ q = (let z : a.role.number < a.role.plan.workers = up.fit.number in omega arith) in
          let number : f.0.number ≡ q = (let own : q % a.role.plan.workers ≡ a.role.number = f.3 in let is = s.number in omega arith) in (
            subst (λ u. SoundAt (rules model order m) a.role.collected q u) f.2 (subst (λ p. SoundAt (rules model order m) a.role.collected p f.0.process) number (up.sound (q / a.role.plan.workers) f.0 f.1)),
            subst (λ (u : ProcessState S B). StartsIn model m q u.start) f.2 (subst (λ p. StartsIn model m p f.0.process.start) number (starts_in m f.0 s.model_is (up.starts (q / a.role.plan.workers) f.0 f.1))),
          )

  module _ (r : Role) (a b : WorkerState M S B) (u v : List (Letter B)) (n : ℕ) (up : IsFitAndSound model order m a) (w : Works (rules model order m) r a b u v n) where
    well_before : Well (rules model order m) (StartsIn model m) r.collected (process_at r a.processes)
    well_before = subst (λ k. Well (rules model order m) (StartsIn model m) k.collected (process_at k a.processes)) w.before (well_of a up)

    rule_of : Governs (rules model order m) (StartsIn model m) r.collected (model.process_count m)
    rule_of = governs model order m laws r.collected

    pub gone_by : Gone (rules model order m) r.collected (model.process_count m) (process_at r a.processes) (process_at r b.processes) (arrivals w.deeds) w.given
    gone_by = goes_gone (rules model order m) r.collected (model.process_count m) rule_of (way_of r.plan.lazy) w.deeds (process_at r a.processes) (process_at r b.processes) w.given well_before w.goes

    well_then : Well (rules model order m) (StartsIn model m) r.collected (process_at r b.processes)
    well_then = well_after (rules model order m) r.collected (model.process_count m) rule_of (process_at r a.processes) (process_at r b.processes) (arrivals w.deeds) w.given well_before gone_by

    number_is : r.number < r.plan.workers
    number_is = subst (λ k. k.number < k.plan.workers) w.before up.fit.number

    -- what stands at a place after
    stands_then : (place : ℕ) (l : LogicalProcess M S B) → slice_get b.processes place ≡ Some l → IsInPlace order m r place l × StartsWell model l × SoundAt (rules model order m) r.collected l.number l.process
    stands_then place l there =
        let within : place < length a.processes = (let k = get_within b.processes place l there in omega (arith, w.as_many)) in
        let old = there_is a.processes place within in
        let was = subst (λ k. IsInPlace order m k place old.0) w.before (up.fit.in_place place old.0 old.1) in
        let name = w.named place old.0 l old.1 there in
        let number : l.number ≡ r.number + place * r.plan.workers = name.1 ∙ was.number in
        let at = number_place r.plan.workers r.number place number_is in
        let here : process_at r b.processes (r.number + place * r.plan.workers) ≡ Some l.process = at_place r b.processes (r.number + place * r.plan.workers) place l at.1 at.0 there in
        let sound = well_then.sound (r.number + place * r.plan.workers) l.process here in (
          record {
            model_is = name.0 ∙ was.model_is;
            number = number;
            collected = collected_of model order m r.collected (r.number + place * r.plan.workers) l.process sound;
          },
          starts_well l (name.0 ∙ was.model_is) (subst (λ p. StartsIn model m p l.process.start) (sym number) (well_then.started (r.number + place * r.plan.workers) l.process here)),
          subst (λ p. SoundAt (rules model order m) r.collected p l.process) (sym number) sound,
        )
      where
        starts_well : (l : LogicalProcess M S B) → l.model ≡ m → StartsIn model m l.number l.process.start → StartsWell model l
        starts_well l is w = let k = subst (λ k. StartsIn model k l.number l.process.start) (sym is) w in record { number = k.0; start = k.1 }

    kept_then : Every (λ l. owner r l ≡ r.number → ⊥) b.kept
    kept_then =
        let was : Every (λ l. owner r l ≡ r.number → ⊥) a.kept = subst (λ k. Every (λ l. owner k l ≡ k.number → ⊥) a.kept) w.before up.fit.kept in
        let z : weigh (own_one r) a.kept ≡ 0 = weigh_zero (own_one r) a.kept (others_zero r) was in
        every_zero (λ l. owner r l ≡ r.number → ⊥) (own_one r) b.kept (zero_other r) (omega (arith, w.passed_on (own_one r), never_both r u, never_both r w.given, z))

    still_fit : IsFit model order m b
    still_fit =
        let role : r ≡ b.role = sym w.after in
        let was : a.role ≡ r = w.before in
        record {
          number = subst (λ k. k.number < k.plan.workers) role number_is;
          window = subst (λ (k : Role). k.plan.window ≤ Rattle.std.specs.Prelude.◌^◌ 2 40) (was ∙ role) up.fit.window;
          in_place = subst (λ k. (place : ℕ) (l : LogicalProcess M S B) → slice_get b.processes place ≡ Some l → IsInPlace order m k place l) role (λ place l there. (stands_then place l there).0);
          complete = λ q inside own. subst (λ k. q / b.role.plan.workers < k) (sym w.as_many) (subst (λ (k : Role). q % k.plan.workers ≡ k.number → q / k.plan.workers < length a.processes) (was ∙ role) (up.fit.complete q inside) own);
          inbox_fair = subst (λ ls. Every (IsFair (rules model order m) b.role.collected) ls) (sym w.inbox) (subst (λ k. Every (IsFair (rules model order m) k.collected) a.inbox) (was ∙ role) up.fit.inbox_fair);
          inbox_own = subst (λ ls. Every (λ l. is_own b.role l ≡ true) ls) (sym w.inbox) (subst (λ k. Every (λ l. is_own k l ≡ true) a.inbox) (was ∙ role) up.fit.inbox_own);
          kept = subst (λ k. Every (λ l. owner k l ≡ k.number → ⊥) b.kept) role kept_then;
          port = w.same_port.worker ∙ up.fit.port ∙ ap (λ k. k.number) (was ∙ role);
          wide = wide_then;
        }
      where
        wide_then : IsWide b.role.plan.workers b.port
        wide_then =
            let was : IsWide b.role.plan.workers a.port = subst (λ k. IsWide k.plan.workers a.port) (w.before ∙ sym w.after) up.fit.wide in
            (ap length w.same_port.out ∙ was.0, ap length w.same_port.into ∙ was.1, w.same_port.sent ∙ was.2, w.same_port.received ∙ was.3)

    pub fit_after : IsFitAndSound model order m b
    fit_after = record {
      fit = still_fit;
      starts = λ place l there. (stands_then place l there).1;
      sound = subst (λ (k : Role). (place : ℕ) (l : LogicalProcess M S B) → slice_get b.processes place ≡ Some l → SoundAt (rules model order m) k.collected l.number l.process) (sym w.after) (λ place l there. (stands_then place l there).2);
    }

  -- kept letters and letters that are to arrive may be taken away
  pub fit_without_kept : (a : WorkerState M S B) → IsFitAndSound model order m a → IsFitAndSound model order m (record a { kept = [] })
  fit_without_kept a up = record {
    fit = record { number = up.fit.number; window = up.fit.window; in_place = up.fit.in_place; complete = up.fit.complete; inbox_fair = up.fit.inbox_fair; inbox_own = up.fit.inbox_own; kept = tt; port = up.fit.port; wide = up.fit.wide };
    starts = up.starts;
    sound = up.sound;
  }

  -- what its seat read or noted does not matter
  pub fit_with_seat : (a : WorkerState M S B) (seat : SeatState) → IsFitAndSound model order m a → IsFitAndSound model order m (record a { seat = seat })
  fit_with_seat a seat up = record {
    fit = record { number = up.fit.number; window = up.fit.window; in_place = up.fit.in_place; complete = up.fit.complete; inbox_fair = up.fit.inbox_fair; inbox_own = up.fit.inbox_own; kept = up.fit.kept; port = up.fit.port; wide = up.fit.wide };
    starts = up.starts;
    sound = up.sound;
  }

  -- nor what it received, and what it set aside
  pub fit_with_port : (a : WorkerState M S B) (port : PortState (Letter B)) (aside : List (Letter B)) → SamePort a.port port → IsFitAndSound model order m a → IsFitAndSound model order m (record a { port = port; aside = aside })
  fit_with_port a port aside same up = record {
    fit = record {
      number = up.fit.number;
      window = up.fit.window;
      in_place = up.fit.in_place;
      complete = up.fit.complete;
      inbox_fair = up.fit.inbox_fair;
      inbox_own = up.fit.inbox_own;
      kept = up.fit.kept;
      port = same.worker ∙ up.fit.port;
      wide = (ap length same.out ∙ up.fit.wide.0, ap length same.into ∙ up.fit.wide.1, same.sent ∙ up.fit.wide.2, same.received ∙ up.fit.wide.3);
    };
    starts = up.starts;
    sound = up.sound;
  }

  pub fit_without_inbox : (a : WorkerState M S B) → IsFit model order m a → IsFit model order m (record a { inbox = [] })
  fit_without_inbox a fit = record { number = fit.number; window = fit.window; in_place = fit.in_place; complete = fit.complete; inbox_fair = tt; inbox_own = tt; kept = fit.kept; port = fit.port; wide = fit.wide }
