-- What the turns of a worker keep, and that they lose and make up no letter.
use Rattle.std.proofs.Common.{◌≡◌, ℕ, zero, suc, ◌+◌, ◌<◌, ◌≤◌, Bool, true, false, cond, List, [], ◌++◌, refl, sym, ap, ◌∙◌, subst, arith, inl, inr}
use Rattle.std.specs.Prelude.{◌⊎◌, not, nat_lt}
use Rattle.std.proofs.lemmas.Bool.{cases_lt, lt-ltb, le-ltb}
use Rattle.rw_vt.specs.declared.event.Letter.{Letter}
use Rattle.rw_vt.specs.System.{Rules}
use Rattle.rw_exchange.specs.Ports.{sent_to, received_from}
use Rattle.rw_pool.specs.Sums.{sum_below}
use Rattle.rw_pool.proofs.Sums.{total_none}
use Rattle.rw_rounds.specs.Bags.{weigh, only, Every}
use Rattle.rw_rounds.specs.Deeds.{IsFair, Goes, arrivals, way_of}
use Rattle.rw_rounds.specs.Turns.{Role, WorkerState, owner, is_own, is_accepted, process_at, TookTurn, TookTurns, Closes, closing_times}
use Rattle.rw_rounds.proofs.Cited.{Gone, Governs, Well, every_append, every_back, every_front, every_zero, goes_gone, gone_more, gone_none, weigh-append, weigh_zero, well_after}
use Rattle.rw_rounds.proofs.Totals.{total_more, total_split, weigh_split}

-- 1 where the time is before f
abbrev pub early : ℕ → ℕ → ℕ
early f t = cond (nat_lt t f) 1 0

pub early_none : (f t : ℕ) → f ≤ t → early f t ≡ 0
early_none f t h = ap (λ b. cond {A = ℕ} b 1 0) (le-ltb t f h)

pub none_early : (f t : ℕ) → early f t ≡ 0 → f ≤ t
none_early f t h = go (cases_lt t f)
  where
    go : (t < f) ⊎ (f ≤ t) → f ≤ t
    go (inl k) = let a : early f t ≡ 1 = ap (λ b. cond {A = ℕ} b 1 0) (lt-ltb t f k) in absurd (omega arith)
    go (inr k) = k

module _ {S B : Type 0} (y : Rules S B) where
  -- 1 where the letter is not fair
  abbrev unfair : ℕ → Letter B → ℕ
  unfair g l = cond (y.valid l.event) (early g l.event.time) 1

  fair_zero : (g : ℕ) (l : Letter B) → IsFair y g l → unfair g l ≡ 0
  fair_zero g l k = ap (λ b. cond b (early g l.event.time) 1) k.valid ∙ early_none g l.event.time k.from

  zero_fair : (g : ℕ) (l : Letter B) → unfair g l ≡ 0 → IsFair y g l
  zero_fair g l h = go (y.valid l.event) refl h
    where
      go : (b : Bool) → y.valid l.event ≡ b → cond b (early g l.event.time) 1 ≡ 0 → IsFair y g l
      go true q k = record { valid = q; from = none_early g l.event.time k }
      go false q k = cc

  -- what turns keep of the worker r: sound processes, fair letters, each on the ring to its owner, no letter sent that is before all times noted, and set aside just what failed the test
  pub record IsConsistent {M : Type 0} (Started : ℕ → S → Type 0) (r : Role) (x : WorkerState M S B) : Type 0 where
    pub role : x.role ≡ r
    pub well : Well y Started r.collected (process_at r x.processes)
    pub kept_fair : Every (IsFair y r.collected) x.kept
    pub sent_fair : (k : ℕ) → k < r.plan.workers → Every (IsFair y r.collected) (sent_to x.port k)
    pub sent_there : (k : ℕ) → Every (λ l. owner r l ≡ k) (sent_to x.port k)
    pub noted : (f : ℕ) → Every (λ t. f ≤ t) x.seat.noted → (k : ℕ) → k < r.plan.workers → Every (λ l. f ≤ l.event.time) (sent_to x.port k)
    pub aside_is : (h : Letter B → ℕ) → weigh h x.aside ≡ sum_below r.plan.workers (λ k. weigh (only (λ l. not (is_accepted y r l)) h) (received_from x.port k))

  -- from a to b the worker r, in a model of n processes, lost no letter and made none up
  pub record Worked {M : Type 0} (n : ℕ) (r : Role) (a b : WorkerState M S B) : Type 0 where
    pub arrived : List (Letter B)
    pub given : List (Letter B)
    pub gone : Gone y r.collected n (process_at r a.processes) (process_at r b.processes) arrived given
    pub balance : (h : Letter B → ℕ) →
        weigh h arrived + weigh h b.inbox + weigh h b.kept + weigh h b.aside + sum_below r.plan.workers (λ k. weigh h (sent_to b.port k)) + sum_below r.plan.workers (λ k. weigh h (received_from a.port k))
        ≡ weigh h given + weigh h a.inbox + weigh h a.kept + weigh h a.aside + sum_below r.plan.workers (λ k. weigh h (sent_to a.port k)) + sum_below r.plan.workers (λ k. weigh h (received_from b.port k))

  module _ {M : Type 0} {Started : ℕ → S → Type 0} (n : ℕ) (rule : (g : ℕ) → Governs y Started g n) where
    module _ (a b : WorkerState M S B) (executed : ℕ) (up : IsConsistent Started a.role a) (t : TookTurn y a b executed) where
      gone : Gone y a.role.collected n (process_at a.role a.processes) (process_at a.role b.processes) (arrivals t.deeds) t.given
      gone =
          goes_gone y a.role.collected n (rule a.role.collected) (way_of a.role.plan.lazy) t.deeds (process_at a.role a.processes) (process_at a.role b.processes) t.given up.well
          (subst (λ k. Goes y a.role.collected (way_of a.role.plan.lazy) t.deeds (process_at a.role a.processes) (process_at k b.processes) t.given) t.role t.goes)

      own_worked : Worked n a.role a b
      own_worked = record {
        arrived = arrivals t.deeds;
        given = t.given;
        gone = gone;
        balance = λ h.
            let empty : weigh h b.inbox ≡ 0 = ap (weigh h) t.emptied in
            let own = weigh_split (is_own a.role) h t.given in
            let tests = total_split (is_accepted y a.role) h a.role.plan.workers t.received in
            let sends = total_more h a.role.plan.workers (sent_to a.port) t.sent (sent_to b.port) t.sent_more in
            let receives = total_more h a.role.plan.workers (received_from a.port) t.received (received_from b.port) t.received_more in
            omega (arith, t.arrived h, t.set_aside h, t.passed_on h);
      }

      -- nothing unfair was given out or kept, so nothing unfair is sent or kept
      unfair_none : weigh (unfair a.role.collected) a.kept + weigh (only (λ l. not (is_own a.role l)) (unfair a.role.collected)) t.given ≡ 0
      unfair_none =
          let h : Letter B → ℕ = unfair a.role.collected in
          let k : weigh h a.kept ≡ 0 = weigh_zero h a.kept (fair_zero a.role.collected) up.kept_fair in
          let given : weigh h t.given ≡ 0 = weigh_zero h t.given (fair_zero a.role.collected) gone.fair in
          omega (arith, weigh_split (is_own a.role) h t.given)

      kept_stay_fair : Every (IsFair y a.role.collected) b.kept
      kept_stay_fair = every_zero (IsFair y a.role.collected) (unfair a.role.collected) b.kept (zero_fair a.role.collected) (let e = t.passed_on (unfair a.role.collected) in omega (arith, unfair_none))

      sends_fair : (k : ℕ) → k < a.role.plan.workers → Every (IsFair y a.role.collected) (t.sent k)
      sends_fair k l =
          every_zero (IsFair y a.role.collected) (unfair a.role.collected) (t.sent k) (zero_fair a.role.collected)
          (total_none a.role.plan.workers (λ k. weigh (unfair a.role.collected) (t.sent k)) (let e = t.passed_on (unfair a.role.collected) in omega (arith, unfair_none)) k l)

      -- no letter that was sent is before all that was noted for it
      sends_noted : (f : ℕ) → Every (λ m. f ≤ m) t.noted → (k : ℕ) → k < a.role.plan.workers → Every (λ l. f ≤ l.event.time) (t.sent k)
      sends_noted f all k l =
          let none : weigh (early f) t.noted ≡ 0 = weigh_zero (early f) t.noted (early_none f) all in
          every_zero (λ l. f ≤ l.event.time) (λ l. early f l.event.time) (t.sent k) (λ l. none_early f l.event.time)
          (total_none a.role.plan.workers (λ k. weigh (λ l. early f l.event.time) (t.sent k)) (sym (t.notes (early f)) ∙ none) k l)

      own_consistent : IsConsistent Started a.role b
      own_consistent = record {
        role = t.role;
        well = well_after y a.role.collected n (rule a.role.collected) (process_at a.role a.processes) (process_at a.role b.processes) (arrivals t.deeds) t.given up.well gone;
        kept_fair = kept_stay_fair;
        sent_fair = λ k l. subst (Every (IsFair y a.role.collected)) (sym (t.sent_more k)) (every_append (IsFair y a.role.collected) (sent_to a.port k) (t.sent k) (up.sent_fair k l) (sends_fair k l));
        sent_there = λ k. subst (Every (λ l. owner a.role l ≡ k)) (sym (t.sent_more k)) (every_append (λ l. owner a.role l ≡ k) (sent_to a.port k) (t.sent k) (up.sent_there k) (t.on_its_ring k));
        noted = λ f all k l.
            let both : Every (λ m. f ≤ m) (a.seat.noted ++ t.noted) = subst (Every (λ m. f ≤ m)) t.noted_more all in
            subst (Every (λ l. f ≤ l.event.time)) (sym (t.sent_more k))
            (every_append (λ l. f ≤ l.event.time) (sent_to a.port k) (t.sent k)
            (up.noted f (every_front (λ m. f ≤ m) a.seat.noted t.noted both) k l)
            (sends_noted f (every_back (λ m. f ≤ m) a.seat.noted t.noted both) k l));
        aside_is = λ h. omega (arith, t.set_aside h, up.aside_is h, total_more (only (λ l. not (is_accepted y a.role l)) h) a.role.plan.workers (received_from a.port) t.received (received_from b.port) t.received_more);
      }

    -- one turn
    turn_keeps : (r : Role) (a b : WorkerState M S B) (executed : ℕ) → IsConsistent Started r a → TookTurn y a b executed → IsConsistent Started r b × Worked n r a b
    turn_keeps r a b executed up t =
        subst (λ k. IsConsistent Started k a → IsConsistent Started k b × Worked n k a b) up.role
        (λ own. (own_consistent a b executed own t, own_worked a b executed own t)) up

    worked_none : (r : Role) (a : WorkerState M S B) → IsConsistent Started r a → Worked n r a a
    worked_none r a up = record { arrived = []; given = []; gone = gone_none y r.collected n (rule r.collected) (process_at r a.processes) up.well; balance = λ h. refl }

    worked_more : (r : Role) (a b c : WorkerState M S B) → Worked n r a b → Worked n r b c → Worked n r a c
    worked_more r a b c u v = record {
      arrived = u.arrived ++ v.arrived;
      given = u.given ++ v.given;
      gone = gone_more y r.collected n (rule r.collected) (process_at r a.processes) (process_at r b.processes) (process_at r c.processes) u.arrived u.given v.arrived v.given u.gone v.gone;
      balance = λ h. omega (arith, u.balance h, v.balance h, weigh-append h u.arrived v.arrived, weigh-append h u.given v.given);
    }

    -- however many turns
    pub turns_keep : (turns : ℕ) (r : Role) (a b : WorkerState M S B) → IsConsistent Started r a → TookTurns y turns a b → IsConsistent Started r b × Worked n r a b
    turns_keep zero r a b up t = subst (λ c. IsConsistent Started r c × Worked n r a c) (sym t) (up, worked_none r a up)
    turns_keep (suc turns) r a b up t =
        let c = t.0 in
        let first = turn_keeps r a c t.1 up t.2 in
        let rest = turns_keep turns r c b first.0 t.3 in
        (rest.0, worked_more r a c b first.1 rest.1)

    -- and the closing
    pub closing_keeps : (r : Role) (a b c : WorkerState M S B) → IsConsistent Started r b × Worked n r a b → Closes b c → IsConsistent Started r c × Worked n r a c
    closing_keeps r a b c k closes =
        let up = k.0 in
        let worked = k.1 in
        let all : List ℕ = closing_times b in
        subst (λ u. IsConsistent Started r u × Worked n r a u) (sym closes) (
          record {
            role = up.role;
            well = up.well;
            kept_fair = up.kept_fair;
            sent_fair = up.sent_fair;
            sent_there = up.sent_there;
            noted = λ f every. up.noted f (every_front (λ t. f ≤ t) b.seat.noted all every);
            aside_is = up.aside_is;
          },
          record { arrived = worked.arrived; given = worked.given; gone = worked.gone; balance = worked.balance },
        )

  -- what was to arrive at the beginning arrives in the first turn
  inbox_stays : {M : Type 0} (turns : ℕ) (a b : WorkerState M S B) → TookTurns y turns a b → a.inbox ≡ [] → b.inbox ≡ []
  inbox_stays zero a b t h = ap (λ u. u.inbox) t ∙ h
  inbox_stays (suc turns) a b t h = inbox_stays turns t.0 b t.3 t.2.emptied

  pub inbox_empties : {M : Type 0} (turns : ℕ) (a b : WorkerState M S B) → 1 ≤ turns → TookTurns y turns a b → b.inbox ≡ []
  inbox_empties zero a b h t = absurd (omega arith)
  inbox_empties (suc turns) a b h t = inbox_stays turns t.0 b t.3 t.2.emptied
