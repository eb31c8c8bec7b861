-- All workers of a round together: what one did is what the others take up, and their processes make up a sound world.
use Rattle.std.proofs.Common.{◌≡◌, ℕ, zero, suc, ◌+◌, ◌*◌, ◌<◌, ◌≤◌, true, cond, List, [], ◌++◌, refl, sym, ap, ◌∙◌, subst, arith, inl, inr, None}
use Rattle.std.specs.Prelude.{◌⊎◌, not, nat_le, filter, ◌/◌, ◌%◌, ◌==◌, ◌&&◌, slice_get}
use Rattle.std.specs.Option.{option_map}
use Rattle.std.specs.declared.cmp.Ordering.{Ordering}
use Rattle.std.proofs.lemmas.Bool.{cases_eq, eq-eqb, ne_eqb, le-leb, and_from}
use Rattle.std.proofs.lemmas.Option.{slice_get-map}
use Rattle.rw_vt.specs.declared.event.Letter.{Letter}
use Rattle.rw_vt.specs.declared.model.Model.{Ghosts}
use Rattle.rw_vt.specs.Order.{event_cmp}
use Rattle.rw_vt.specs.System.{Rules, rules}
use Rattle.rw_vt.proofs.Laws.{Laws}
use Rattle.rw_lp.specs.Calls.{LogicalProcess}
use Rattle.rw_lp.specs.Sound.{KeptAt}
use Rattle.rw_world.specs.declared.parts.Parts.{Parts}
use Rattle.rw_world.specs.Calls.{system_of, simulation_of, world_of, IsWhole}
use Rattle.rw_world.specs.Rounds.{all_letters, Exchanged}
use Rattle.rw_exchange.specs.Ports.{sent_to, received_from}
use Rattle.rw_pool.specs.Sums.{sum_below}
use Rattle.rw_pool.proofs.Sums.{total_same, total_add, total_zero, total_one, total_swap}
use Rattle.rw_rounds.specs.declared.plan.Plan.{Plan}
use Rattle.rw_rounds.specs.Plans.{IsInRanges}
use Rattle.rw_rounds.specs.Bags.{weigh, only, Every}
use Rattle.rw_rounds.specs.Deeds.{IsFair}
use Rattle.rw_rounds.specs.Turns.{Role, WorkerState, owner, is_own, is_accepted, process_at}
use Rattle.rw_rounds.specs.Rounds.{role, Round}
use Rattle.rw_rounds.proofs.Cited.{Governs, StartsIn, every_front, governs, number_of, weigh-append, weigh_zero}
use Rattle.rw_rounds.proofs.Totals.{weigh_by, weigh_joined, weightless, every_both, message, anti, messages_weigh, antis_weigh, every_counted}
use Rattle.rw_rounds.proofs.Working.{IsConsistent, Worked, turns_keep, closing_keeps, inbox_empties}
use Rattle.rw_rounds.proofs.Beginning.{in_world, begun_well}

-- one function in place of a choice for each number below n
pub choose : {A : Type 0} (P : ℕ → A → Type 0) → A → (n : ℕ) → ((i : ℕ) → i < n → (x : A) × P i x) → (f : ℕ → A) × ((i : ℕ) → i < n → P i (f i))
choose {A} P d zero c = ((λ i. d), λ i l. absurd (omega arith))
choose {A} P d (suc n) c =
    let r = choose P d n (λ i l. c i (omega arith)) in
    let last = c n (omega arith) in
    ((λ i. cond (i == n) last.0 (r.0 i)), λ i l. go n r.0 last.0 i l (cases_eq i n) r.1 last.1)
  where
    go : (n : ℕ) (f : ℕ → A) (x : A) (i : ℕ) → i < suc n → (i ≡ n) ⊎ (i ≡ n → ⊥) → ((i : ℕ) → i < n → P i (f i)) → P n x → P i (cond (i == n) x (f i))
    go n f x i l (inl q) all here = subst (λ k. P k (cond (k == n) x (f k))) (sym q) (subst (P n) (sym (ap (λ b. cond b x (f n)) (eq-eqb n n refl))) here)
    go n f x i l (inr q) all here = subst (P i) (sym (ap (λ b. cond b x (f i)) (ne_eqb i n q))) (all i (omega arith))

-- what a worker's processes took and gave out in all, and by process
pub record Mail (B : Type 0) : Type 0 where
  pub came : ℕ → List (Letter B)
  pub out : ℕ → List (Letter B)
  pub arrived : List (Letter B)
  pub given : List (Letter B)

module _ {M S B U : Type 0} {model : Ghosts M S B U} {order : B → B → Ordering} (laws : Laws model order) (plan : Plan) (x z : Parts M S B U) (least : ℕ) (ranges : IsInRanges plan) (whole : IsWhole model order x) (round : Round model order plan x z least) where
  abbrev y : Rules S B
  y = rules model order x.model

  abbrev n : ℕ
  n = plan.workers

  abbrev r : ℕ → Role
  r i = role plan x.collected i

  abbrev count : ℕ
  count = model.process_count x.model

  rule : (g : ℕ) → Governs (rules model order x.model) (StartsIn model x.model) g (model.process_count x.model)
  rule g = governs model order x.model laws g

  pub owned : (q : ℕ) → q % plan.workers < plan.workers
  owned q = let some = ranges.workers.0 in omega arith

  begun_consistent : (i : ℕ) → i < plan.workers → IsConsistent y (StartsIn model x.model) (r i) (round.first i)
  begun_consistent i l =
      let b = round.begins i l in
      record {
        role = b.role;
        well = begun_well x whole plan i l (round.first i) b;
        kept_fair = subst (Every (IsFair y x.collected)) (sym b.none_kept) tt;
        sent_fair = λ k lt. subst (Every (IsFair y x.collected)) (sym (b.new.0 k)) tt;
        sent_there = λ k. subst (Every (λ l. owner (r i) l ≡ k)) (sym (b.new.0 k)) tt;
        noted = λ f all k lt. subst (Every (λ l. f ≤ l.event.time)) (sym (b.new.0 k)) tt;
        aside_is = λ h.
            ap (weigh h) b.none_aside
            ∙ sym (total_zero n (λ k. weigh (only (λ l. not (is_accepted y (r i) l)) h) (received_from (round.first i).port k)) (λ k lt. ap (weigh (only (λ l. not (is_accepted y (r i) l)) h)) (b.new.1 k)));
      }

  -- what holds of each worker after its closing
  pub closed : (i : ℕ) → i < plan.workers → IsConsistent y (StartsIn model x.model) (r i) (round.last i) × Worked y (model.process_count x.model) (r i) (round.first i) (round.last i)
  closed i l =
      let w = round.works i l in
      closing_keeps y count rule (r i) (round.first i) w.between (round.last i)
      (turns_keep y count rule plan.turns (r i) (round.first i) w.between (begun_consistent i l) w.turns_are) w.closes

  -- of one worker: what came and what was given out by process, nothing at processes that it does not have, and the balance of letters
  record Mailed (i : ℕ) (m : Mail B) : Type 0 where
    pub kept : (q : ℕ) → KeptAt y x.collected q (process_at (r i) (round.first i).processes q) (process_at (r i) (round.last i).processes q) (m.came q) (m.out q)
    pub idle : (q : ℕ) → process_at (r i) (round.first i).processes q ≡ None → (m.came q ≡ []) × (m.out q ≡ [])
    pub arrived_are : (h : Letter B → ℕ) → sum_below count (λ q. weigh h (m.came q)) ≡ weigh h m.arrived
    pub given_are : (h : Letter B → ℕ) → sum_below count (λ q. weigh h (m.out q)) ≡ weigh h m.given
    pub come_here : (q : ℕ) → Every (λ l. l.event.to ≡ q) (m.came q)
    pub balance : (h : Letter B → ℕ) →
        weigh h m.arrived + weigh h (round.last i).kept + weigh h (round.last i).aside + sum_below n (λ k. weigh h (sent_to (round.last i).port k))
        ≡ weigh h m.given + weigh h (round.first i).inbox + sum_below n (λ k. weigh h (received_from (round.last i).port k))

  mailed : (i : ℕ) → i < plan.workers → (m : Mail B) × Mailed i m
  mailed i l =
      let wk = (closed i l).1 in
      let w = round.works i l in
      let b = round.begins i l in (
        record { came = wk.gone.came; out = wk.gone.out; arrived = wk.arrived; given = wk.given },
        record {
          kept = wk.gone.kept;
          idle = wk.gone.idle;
          arrived_are = wk.gone.arrived_are;
          given_are = wk.gone.given_are;
          come_here = wk.gone.come_here;
          balance = λ h.
              let b1 : weigh h (round.last i).inbox ≡ 0 = ap (λ (u : WorkerState M S B). weigh h u.inbox) w.closes ∙ ap (weigh h) (inbox_empties y plan.turns (round.first i) w.between ranges.turns.0 w.turns_are) in
              let b2 : weigh h (round.first i).kept ≡ 0 = ap (weigh h) b.none_kept in
              let b3 : weigh h (round.first i).aside ≡ 0 = ap (weigh h) b.none_aside in
              let b4 : sum_below n (λ k. weigh h (sent_to (round.first i).port k)) ≡ 0 = total_zero n (λ k. weigh h (sent_to (round.first i).port k)) (λ k lt. ap (weigh h) (b.new.0 k)) in
              let b5 : sum_below n (λ k. weigh h (received_from (round.first i).port k)) ≡ 0 = total_zero n (λ k. weigh h (received_from (round.first i).port k)) (λ k lt. ap (weigh h) (b.new.1 k)) in
              omega (arith, wk.balance h);
        },
      )

  -- no letter was set aside
  pub none_aside : (k : ℕ) → k < plan.workers → (round.last k).aside ≡ []
  none_aside k lk =
      weightless (round.last k).aside
      ((closed k lk).0.aside_is (λ _. 1)
      ∙ total_zero n (λ i. weigh (only (λ l. not (is_accepted y (r k) l)) (λ _. 1)) (received_from (round.last k).port i))
      (λ i li.
      let fair = subst (Every (IsFair y x.collected)) (sym (round.settled i k li lk)) ((closed i li).0.sent_fair k lk) in
      let here = subst (Every (λ l. owner (r i) l ≡ k)) (sym (round.settled i k li lk)) ((closed i li).0.sent_there k) in
      weigh_zero (only (λ l. not (is_accepted y (r k) l)) (λ _. 1)) (received_from (round.last k).port i) (λ l p. ap (λ b. cond {A = ℕ} (not b) 1 0) (test l p.0 p.1))
      (every_both (IsFair y x.collected) (λ l. owner (r i) l ≡ k) (received_from (round.last k).port i) (every_front (IsFair y x.collected) (received_from (round.last k).port i) (round.left i k) fair) (every_front (λ l. owner (r i) l ≡ k) (received_from (round.last k).port i) (round.left i k) here))))
    where
      test : (l : Letter B) → IsFair y x.collected l → l.event.to % plan.workers ≡ k → is_accepted y (r k) l ≡ true
      test l a b =
          and_from (y.valid l.event) (is_own (r k) l && nat_le x.collected l.event.time) a.valid
          (and_from (is_own (r k) l) (nat_le x.collected l.event.time) (eq-eqb (l.event.to % plan.workers) k b) (le-leb x.collected l.event.time a.from))

  -- a worker's process of this number
  at_owner : (xs : List (LogicalProcess M S B)) (q : ℕ) → process_at (r (q % plan.workers)) xs q ≡ option_map (λ l. l.process) (slice_get xs (q / plan.workers))
  at_owner xs q = ap (λ b. cond b (option_map (λ l. l.process) (slice_get xs (q / plan.workers))) None) (eq-eqb (q % plan.workers) (q % plan.workers) refl)

  was_at : (q : ℕ) → process_at (r (q % plan.workers)) (round.first (q % plan.workers)).processes q ≡ slice_get (world_of x).processes q
  was_at q =
      let i : ℕ = q % plan.workers in
      let number : i + (q / plan.workers) * plan.workers ≡ q = number_of (r i) q (owned q) refl in
      at_owner (round.first i).processes q
      ∙ ap (option_map (λ l. l.process)) ((round.begins i (owned q)).processes_are (q / plan.workers) ∙ ap (slice_get x.processes.items) number)
      ∙ sym (in_world x whole q)

  pub is_at : (q : ℕ) → process_at (r (q % plan.workers)) (round.last (q % plan.workers)).processes q ≡ slice_get (world_of z).processes q
  is_at q =
      at_owner (round.last (q % plan.workers)).processes q
      ∙ ap (option_map (λ l. l.process)) (sym (round.processes_are q))
      ∙ sym (slice_get-map (λ l. l.process) z.processes.items q)

  module _ (mail : ℕ → Mail B) (by : (i : ℕ) → i < plan.workers → Mailed i (mail i)) where
    -- what came to process q, and what it gave out
    abbrev came_to : ℕ → List (Letter B)
    came_to q = (mail (q % plan.workers)).came q

    abbrev out_of : ℕ → List (Letter B)
    out_of q = (mail (q % plan.workers)).out q

    -- a worker does nothing at the processes of others
    elsewhere : (q i : ℕ) → i < plan.workers → (i ≡ q % plan.workers → ⊥) → ((mail i).came q ≡ []) × ((mail i).out q ≡ [])
    elsewhere q i l k = (by i l).idle q (ap (λ b. cond b (option_map (λ l. l.process) (slice_get (round.first i).processes (q / plan.workers))) None) (ne_eqb (q % plan.workers) i (λ e. k (sym e))))

    came_all : (h : Letter B → ℕ) → sum_below count (λ q. weigh h (came_to q)) ≡ sum_below n (λ i. weigh h (mail i).arrived)
    came_all h =
        total_same count (λ q. weigh h (came_to q)) (λ q. sum_below n (λ i. weigh h ((mail i).came q)))
        (λ q lt. sym (total_one n (q % plan.workers) (λ i. weigh h ((mail i).came q)) (owned q) (λ i l k. ap (weigh h) (elsewhere q i l k).0)))
        ∙ total_swap count n (λ q i. weigh h ((mail i).came q))
        ∙ total_same n (λ i. sum_below count (λ q. weigh h ((mail i).came q))) (λ i. weigh h (mail i).arrived) (λ i l. (by i l).arrived_are h)

    out_all : (h : Letter B → ℕ) → sum_below count (λ q. weigh h (out_of q)) ≡ sum_below n (λ i. weigh h (mail i).given)
    out_all h =
        total_same count (λ q. weigh h (out_of q)) (λ q. sum_below n (λ i. weigh h ((mail i).out q)))
        (λ q lt. sym (total_one n (q % plan.workers) (λ i. weigh h ((mail i).out q)) (owned q) (λ i l k. ap (weigh h) (elsewhere q i l k).1)))
        ∙ total_swap count n (λ q i. weigh h ((mail i).out q))
        ∙ total_same n (λ i. sum_below count (λ q. weigh h ((mail i).out q))) (λ i. weigh h (mail i).given) (λ i l. (by i l).given_are h)

    inboxes_all : (h : Letter B → ℕ) → sum_below n (λ i. weigh h (round.first i).inbox) ≡ weigh h x.letters.items
    inboxes_all h =
        total_same n (λ i. weigh h (round.first i).inbox) (λ i. weigh h (filter (λ l. l.event.to % plan.workers == i) x.letters.items)) (λ i l. ap (weigh h) (round.begins i l).inbox)
        ∙ weigh_by h n (λ l. l.event.to % plan.workers) (λ l. owned l.event.to) x.letters.items

    -- what was sent in all was received, or is left
    rings_all : (h : Letter B → ℕ) → sum_below n (λ i. sum_below n (λ k. weigh h (sent_to (round.last i).port k))) ≡ sum_below n (λ i. sum_below n (λ k. weigh h (received_from (round.last i).port k))) + sum_below n (λ i. sum_below n (λ k. weigh h (round.left i k)))
    rings_all h =
        total_same n (λ i. sum_below n (λ k. weigh h (sent_to (round.last i).port k))) (λ i. sum_below n (λ k. weigh h (received_from (round.last k).port i)) + sum_below n (λ k. weigh h (round.left i k)))
        (λ i li.
        total_same n (λ k. weigh h (sent_to (round.last i).port k)) (λ k. weigh h (received_from (round.last k).port i) + weigh h (round.left i k)) (λ k lk. ap (weigh h) (sym (round.settled i k li lk)) ∙ weigh-append h (received_from (round.last k).port i) (round.left i k))
        ∙ total_add n (λ k. weigh h (received_from (round.last k).port i)) (λ k. weigh h (round.left i k)))
        ∙ total_add n (λ i. sum_below n (λ k. weigh h (received_from (round.last k).port i))) (λ i. sum_below n (λ k. weigh h (round.left i k)))
        ∙ ap (λ s. s + sum_below n (λ i. sum_below n (λ k. weigh h (round.left i k)))) (total_swap n n (λ i k. weigh h (received_from (round.last k).port i)))

    -- the letters of both worlds
    letters_same : (h : Letter B → ℕ) → weigh h x.letters.items + sum_below count (λ q. weigh h (out_of q)) ≡ sum_below count (λ q. weigh h (came_to q)) + weigh h z.letters.items
    letters_same h =
        let A : ℕ → ℕ = λ i. weigh h (mail i).arrived in
        let K : ℕ → ℕ = λ i. weigh h (round.last i).kept in
        let D : ℕ → ℕ = λ i. weigh h (round.last i).aside in
        let T : ℕ → ℕ = λ i. sum_below n (λ k. weigh h (sent_to (round.last i).port k)) in
        let G : ℕ → ℕ = λ i. weigh h (mail i).given in
        let I : ℕ → ℕ = λ i. weigh h (round.first i).inbox in
        let C : ℕ → ℕ = λ i. sum_below n (λ k. weigh h (received_from (round.last i).port k)) in
        let each : sum_below n (λ i. A i + K i + D i + T i) ≡ sum_below n (λ i. G i + I i + C i) = total_same n (λ i. A i + K i + D i + T i) (λ i. G i + I i + C i) (λ i l. (by i l).balance h) in
        let l1 : sum_below n (λ i. A i + K i + D i + T i) ≡ sum_below n (λ i. A i + K i + D i) + sum_below n T = total_add n (λ i. A i + K i + D i) T in
        let l2 : sum_below n (λ i. A i + K i + D i) ≡ sum_below n (λ i. A i + K i) + sum_below n D = total_add n (λ i. A i + K i) D in
        let l3 : sum_below n (λ i. A i + K i) ≡ sum_below n A + sum_below n K = total_add n A K in
        let r1 : sum_below n (λ i. G i + I i + C i) ≡ sum_below n (λ i. G i + I i) + sum_below n C = total_add n (λ i. G i + I i) C in
        let r2 : sum_below n (λ i. G i + I i) ≡ sum_below n G + sum_below n I = total_add n G I in
        let k1 : sum_below n (λ i. K i + D i) ≡ sum_below n K + sum_below n D = total_add n K D in
        let a : sum_below count (λ q. weigh h (came_to q)) ≡ sum_below n A = came_all h in
        let g : sum_below count (λ q. weigh h (out_of q)) ≡ sum_below n G = out_all h in
        let i : sum_below n I ≡ weigh h x.letters.items = inboxes_all h in
        let rings : sum_below n T ≡ sum_below n C + sum_below n (λ i. sum_below n (λ k. weigh h (round.left i k))) = rings_all h in
        let joined : weigh h z.letters.items ≡ sum_below n (λ i. sum_below n (λ k. weigh h (round.left i k))) + sum_below n (λ i. K i + D i) = round.letters_are h in
        omega arith

    -- the letters of all processes, one process after another
    joined_all : (h : Letter B → ℕ) (f : ℕ → List (Letter B)) → weigh h (all_letters (system_of model order (simulation_of x)) f) ≡ sum_below count (λ q. weigh h (f q))
    joined_all h f = weigh_joined h f x.starts.value.items ∙ ap (λ k. sum_below k (λ q. weigh h (f q))) whole.ready.enough

    lists_same : (h : Letter B → ℕ) → weigh h (x.letters.items ++ all_letters (system_of model order (simulation_of x)) out_of) ≡ weigh h (all_letters (system_of model order (simulation_of x)) came_to ++ z.letters.items)
    lists_same h =
        let out = joined_all h out_of in
        let came = joined_all h came_to in
        omega (arith, letters_same h, weigh-append h x.letters.items (all_letters (system_of model order (simulation_of x)) out_of), weigh-append h (all_letters (system_of model order (simulation_of x)) came_to) z.letters.items)

    exchanged : Exchanged (system_of model order (simulation_of x)) (world_of x) (world_of z) came_to out_of
    exchanged = record {
      collected = round.collected_is;
      kept = kept;
      messages_are = λ e.
          messages_weigh (event_cmp order) e (x.letters.items ++ all_letters (system_of model order (simulation_of x)) out_of)
          ∙ lists_same (message (event_cmp order) e)
          ∙ sym (messages_weigh (event_cmp order) e (all_letters (system_of model order (simulation_of x)) came_to ++ z.letters.items));
      antis_are = λ e.
          antis_weigh (event_cmp order) e (x.letters.items ++ all_letters (system_of model order (simulation_of x)) out_of)
          ∙ lists_same (anti (event_cmp order) e)
          ∙ sym (antis_weigh (event_cmp order) e (all_letters (system_of model order (simulation_of x)) came_to ++ z.letters.items));
      come_here = λ q e k. every_counted (event_cmp order) (rule x.collected).exact (λ f. f.to ≡ q) e (came_to q) ((by (q % plan.workers) (owned q)).come_here q) k;
    }
      where
        kept : (q : ℕ) → KeptAt y x.collected q (slice_get (world_of x).processes q) (slice_get (world_of z).processes q) (came_to q) (out_of q)
        kept q =
            subst (λ o. KeptAt y x.collected q o (slice_get (world_of z).processes q) (came_to q) (out_of q)) (was_at q)
            (subst (λ o. KeptAt y x.collected q (process_at (r (q % plan.workers)) (round.first (q % plan.workers)).processes q) o (came_to q) (out_of q)) (is_at q) ((by (q % plan.workers) (owned q)).kept q))

  -- the workers' processes exchanged letters with one another, and what is left of them is on its way
  pub workers_exchanged : (came out : ℕ → List (Letter B)) × Exchanged (system_of model order (simulation_of x)) (world_of x) (world_of z) came out
  workers_exchanged =
      let all = choose Mailed (record { came = λ q. []; out = λ q. []; arrived = []; given = [] }) plan.workers mailed in
      ((λ q. (all.0 (q % plan.workers)).came q), (λ q. (all.0 (q % plan.workers)).out q), exchanged all.0 all.1)
