-- A round's floor is not before what was outstanding at its beginning: nothing comes up in a round that is earlier.
use Rattle.std.proofs.Common.{◌≡◌, ℕ, zero, suc, ◌+◌, ◌*◌, ◌^◌, ◌<◌, ◌≤◌, List, [], ◌∷◌, ◌++◌, map, refl, sym, ap, ◌∙◌, subst, arith, append_assoc, inl, inr, Option, Some, None}
use Rattle.std.specs.Prelude.{◌⊎◌, slice_get}
use Rattle.std.specs.Option.{option_map}
use Rattle.std.specs.List.{All}
use Rattle.std.specs.declared.cmp.Ordering.{Ordering}
use Rattle.std.proofs.lemmas.Bool.{cases_eq}
use Rattle.std.proofs.lemmas.Option.{slice_get-map}
use Rattle.rw_vt.specs.declared.event.Event.{Event}
use Rattle.rw_vt.specs.declared.event.Letter.{Letter}
use Rattle.rw_vt.specs.declared.model.Model.{Ghosts}
use Rattle.rw_vt.specs.Order.{event_cmp, Each}
use Rattle.rw_vt.specs.Letters.{messages, antis}
use Rattle.rw_vt.specs.System.{Setting, Rules, IsReady, rules}
use Rattle.rw_vt.proofs.EventOrder.{events_exact}
use Rattle.rw_vt.proofs.Sorting.{IsExactOrder}
use Rattle.rw_vt.proofs.Bags.{one_if-itself}
use Rattle.rw_vt.proofs.Letters.{count-letter}
use Rattle.rw_vt.proofs.Laws.{Laws}
use Rattle.rw_lp.specs.Process.{ProcessState}
use Rattle.rw_lp.specs.declared.way.Way.{Way}
use Rattle.rw_lp.specs.Calls.{LogicalProcess}
use Rattle.rw_lp.specs.Sound.{IsHeldFor}
use Rattle.rw_world.specs.declared.parts.Parts.{Parts}
use Rattle.rw_world.specs.Calls.{system_of, simulation_of, world_of, IsWhole}
use Rattle.rw_world.specs.WorldState.{WorldState, floor}
use Rattle.rw_world.specs.Sound.{IsQuiet, list_at}
use Rattle.rw_world.specs.Laws.{FloorIsGreatest}
use Rattle.rw_exchange.specs.Ports.{sent_to, received_from}
use Rattle.rw_pool.specs.Sums.{sum_below}
use Rattle.rw_pool.proofs.Dealing.{number_place}
use Rattle.rw_pool.proofs.Sums.{total_zero, total_none}
use Rattle.rw_rounds.specs.declared.plan.Plan.{Plan}
use Rattle.rw_rounds.specs.Plans.{IsInRanges}
use Rattle.rw_rounds.specs.Bags.{weigh, Every}
use Rattle.rw_rounds.specs.Deeds.{Deed, Arrival, Undoing, Execution, Owned, Stepped, Did, Goes, arrivals, way_of}
use Rattle.rw_rounds.specs.Turns.{Role, WorkerState, is_own, is_accepted, process_at, weigh_all, if_own, if_other, if_passes, TookTurn, TookTurns, closing_times}
use Rattle.rw_rounds.specs.Rounds.{role, Round, noted_below}
use Rattle.rw_rounds.proofs.Cited.{StartsIn, Well, arrivals_more, at_place, did_gone, every_append, every_back, every_front, every_zero, governs, weigh-append, weigh_zero, well_after}
use Rattle.rw_rounds.proofs.Later.{IsLate, executed_late, undone_late, arrived_late}
use Rattle.rw_rounds.proofs.Least.{least_from, noted_all}
use Rattle.rw_rounds.proofs.Totals.{total_more, weigh_split, every_filter}
use Rattle.rw_rounds.proofs.Working.{early, early_none, none_early}
use Rattle.rw_rounds.proofs.Beginning.{begun_there, begun_well}
use Rattle.rw_rounds.proofs.Joining.{closed}
use Rattle.rw_rounds.proofs.Outstanding.{all_held_later}

-- The deeds of a worker

module _ {M S B U : Type 0} {model : Ghosts M S B U} {order : B → B → Ordering} (laws : Laws model order) (m : M) (g t : ℕ) where
  -- nothing is pending or owed before t at any of the processes
  abbrev pub AllLate : Owned S B → Type 0
  AllLate a = (q : ℕ) (x : ProcessState S B) → a q ≡ Some x → IsLate (event_cmp order) t x

  stepped_late : (p : ℕ) (By : ProcessState S B → ProcessState S B → List (Letter B) → Type 0) (a b : Owned S B) (x z : ProcessState S B) (out : List (Letter B)) → Stepped p By a b x z out → AllLate a → IsLate (event_cmp order) t z → AllLate b
  stepped_late p By a b x z out s late here q u at = go (cases_eq q p)
    where
      go : (q ≡ p) ⊎ (q ≡ p → ⊥) → IsLate (event_cmp order) t u
      go (inl is) = let e : Some u ≡ Some z = sym at ∙ ap b is ∙ s.is in let same : z ≡ u = cc in subst (IsLate (event_cmp order) t) same here
      go (inr other) = late q u (sym (s.others q other) ∙ at)

  did_late : (way : Way) (d : Deed B) (a b : Owned S B) (out : List (Letter B)) → Well (rules model order m) (StartsIn model m) g a → AllLate a → Every (λ l. t ≤ l.event.time) (arrivals (d ∷ [])) → Did (rules model order m) g way d a b out → AllLate b × Every (λ l. t < l.event.time) out
  did_late way (Arrival l) a b out well late from d =
      let x = d.0 in let z = d.1 in let s = d.2 in
      let k = arrived_late laws m g t l.event.to way l x z out from.0 (well.started l.event.to x s.was) (well.sound l.event.to x s.was) (late l.event.to x s.was) s.by in
      (stepped_late l.event.to _ a b x z out s late k.0, k.1)
  did_late way (Undoing p) a b out well late from d =
      let x = d.0 in let z = d.1 in let s = d.2 in
      let k = undone_late laws m g t p way x z out (well.started p x s.was) (well.sound p x s.was) (late p x s.was) d.3 s.by in
      (stepped_late p _ a b x z out s late k.0, k.1)
  did_late way (Execution p) a b out well late from d =
      let x = d.0 in let z = d.1 in let s = d.2 in
      let k = executed_late laws m g t p x z out (well.started p x s.was) (well.sound p x s.was) (late p x s.was) s.by in
      (stepped_late p _ a b x z out s late k.0, k.1)

  -- where all that arrives is not before t, all that is given out is later
  pub goes_late : (way : Way) (ds : List (Deed B)) (a b : Owned S B) (given : List (Letter B)) → Well (rules model order m) (StartsIn model m) g a → AllLate a → Every (λ l. t ≤ l.event.time) (arrivals ds) → Goes (rules model order m) g way ds a b given → AllLate b × Every (λ l. t < l.event.time) given
  goes_late way [] a b given well late from go = (subst AllLate (sym go.0) late, subst (Every (λ l. t < l.event.time)) (sym go.1) tt)
  goes_late way (d ∷ ds) a b given well late from go =
      let c = go.0 in
      let n : ℕ = model.process_count m in
      let rule = governs model order m laws g in
      let all = subst (Every (λ l. t ≤ l.event.time)) (sym (arrivals_more (rules model order m) g n rule d ds)) from in
      let one = did_late way d a c go.1 well late (every_front (λ l. t ≤ l.event.time) (arrivals (d ∷ [])) (arrivals ds) all) go.3 in
      let then_well = well_after (rules model order m) g n rule a c (arrivals (d ∷ [])) go.1 well (did_gone (rules model order m) g n rule way d a c go.1 well go.3) in
      let rest = goes_late way ds c b go.2 then_well one.0 (every_back (λ l. t ≤ l.event.time) (arrivals (d ∷ [])) (arrivals ds) all) go.4 in
      (rest.0, subst (Every (λ l. t < l.event.time)) (sym go.5) (every_append (λ l. t < l.event.time) go.1 go.2 one.1 rest.1))

-- The turns of a worker, as one list of deeds

module _ {S B : Type 0} (y : Rules S B) where
  goes_more : (g : ℕ) (way : Way) (ds es : List (Deed B)) (a b c : Owned S B) (given more : List (Letter B)) → Goes y g way ds a b given → Goes y g way es b c more → Goes y g way (ds ++ es) a c (given ++ more)
  goes_more g way [] es a b c given more u v = subst (λ ls. Goes y g way es a c (ls ++ more)) (sym u.1) (subst (λ k. Goes y g way es k c more) u.0 v)
  goes_more g way (d ∷ ds) es a b c given more u v =
      (u.0, u.1, u.2 ++ more, u.3, goes_more g way ds es u.0 b c u.2 more u.4 v, ap (λ ls. ls ++ more) u.5 ∙ append_assoc u.1 u.2 more)

  arrivals_append : (ds es : List (Deed B)) → arrivals (ds ++ es) ≡ arrivals ds ++ arrivals es
  arrivals_append [] es = refl
  arrivals_append (Arrival l ∷ ds) es = ap (λ ls. l ∷ ls) (arrivals_append ds es)
  arrivals_append (Undoing p ∷ ds) es = arrivals_append ds es
  arrivals_append (Execution p ∷ ds) es = arrivals_append ds es

  -- from a to b the worker r did these deeds: what arrived came or was given out, what was given out to others was sent or is kept, and the times of what was sent were noted
  pub record WentOn {M : Type 0} (r : Role) (a b : WorkerState M S B) : Type 0 where
    pub deeds : List (Deed B)
    pub given : List (Letter B)
    pub goes : Goes y r.collected (way_of r.plan.lazy) deeds (process_at r a.processes) (process_at r b.processes) given
    pub arrived : (h : Letter B → ℕ) →
        weigh h (arrivals deeds) + weigh h b.inbox + weigh_all r (if_passes y r h) (received_from a.port)
        ≡ weigh h a.inbox + weigh_all r (if_passes y r h) (received_from b.port) + weigh (if_own r h) given
    pub passed : (h : Letter B → ℕ) → weigh h a.kept + weigh (if_other r h) given + weigh_all r h (sent_to a.port) ≡ weigh_all r h (sent_to b.port) + weigh h b.kept
    pub notes : (h : ℕ → ℕ) → weigh h b.seat.noted + weigh_all r (λ l. h l.event.time) (sent_to a.port) ≡ weigh h a.seat.noted + weigh_all r (λ l. h l.event.time) (sent_to b.port)

  module _ {M : Type 0} where
    turn_went : (a c : WorkerState M S B) (n : ℕ) → TookTurn y a c n → WentOn a.role a c
    turn_went a c n t = record {
      deeds = t.deeds;
      given = t.given;
      goes = subst (λ k. Goes y a.role.collected (way_of a.role.plan.lazy) t.deeds (process_at a.role a.processes) (process_at k c.processes) t.given) t.role t.goes;
      arrived = λ h.
          let empty : weigh h c.inbox ≡ 0 = ap (weigh h) t.emptied in
          omega (arith, t.arrived h, total_more (if_passes y a.role h) a.role.plan.workers (received_from a.port) t.received (received_from c.port) t.received_more);
      passed = λ h. omega (arith, t.passed_on h, total_more h a.role.plan.workers (sent_to a.port) t.sent (sent_to c.port) t.sent_more);
      notes = λ h.
          let more : weigh h c.seat.noted ≡ weigh h a.seat.noted + weigh h t.noted = ap (weigh h) t.noted_more ∙ weigh-append h a.seat.noted t.noted in
          omega (arith, more, t.notes h, total_more (λ l. h l.event.time) a.role.plan.workers (sent_to a.port) t.sent (sent_to c.port) t.sent_more);
    }

    went_none : (r : Role) (a : WorkerState M S B) → WentOn r a a
    went_none r a = record { deeds = []; given = []; goes = (refl, refl); arrived = λ h. omega arith; passed = λ h. omega arith; notes = λ h. refl }

    went_more : (r : Role) (a c b : WorkerState M S B) → WentOn r a c → WentOn r c b → WentOn r a b
    went_more r a c b u v = record {
      deeds = u.deeds ++ v.deeds;
      given = u.given ++ v.given;
      goes = goes_more r.collected (way_of r.plan.lazy) u.deeds v.deeds (process_at r a.processes) (process_at r c.processes) (process_at r b.processes) u.given v.given u.goes v.goes;
      arrived = λ h.
          let all : weigh h (arrivals (u.deeds ++ v.deeds)) ≡ weigh h (arrivals u.deeds) + weigh h (arrivals v.deeds) = ap (weigh h) (arrivals_append u.deeds v.deeds) ∙ weigh-append h (arrivals u.deeds) (arrivals v.deeds) in
          omega (arith, all, u.arrived h, v.arrived h, weigh-append (if_own r h) u.given v.given);
      passed = λ h. omega (arith, u.passed h, v.passed h, weigh-append (if_other r h) u.given v.given);
      notes = λ h. omega (arith, u.notes h, v.notes h);
    }

    pub turns_went : (turns : ℕ) (r : Role) (a b : WorkerState M S B) → a.role ≡ r → TookTurns y turns a b → WentOn r a b
    turns_went zero r a b is t = subst (WentOn r a) (sym t) (went_none r a)
    turns_went (suc turns) r a b is t =
        let c = t.0 in
        went_more r a c b (subst (λ k. WentOn k a c) is (turn_went a c t.1 t.2)) (turns_went turns r c b (t.2.role ∙ is) t.3)

-- Letters, one by one

letters_of_count : {B : Type 0} (cmp : Event B → Event B → Ordering) (o : IsExactOrder cmp) (f : ℕ) (ls : List (Letter B)) → ((e : Event B) → 0 < messages cmp e ls + antis cmp e ls → f ≤ e.time) → Every (λ l. f ≤ l.event.time) ls
letters_of_count cmp o f [] each = tt
letters_of_count cmp o f (l ∷ ls) each =
    let first = count-letter cmp l.event l ls in
    let one = one_if-itself o l.event in
    (each l.event (omega arith), letters_of_count cmp o f ls (λ e k. each e (let c = count-letter cmp e l ls in omega arith)))

from_earlier : {B : Type 0} (s t : ℕ) → s ≤ t → (ls : List (Letter B)) → Every (λ l. t ≤ l.event.time) ls → Every (λ l. s ≤ l.event.time) ls
from_earlier s t le [] all = tt
from_earlier s t le (l ∷ ls) all = (let from : t ≤ l.event.time = all.0 in omega arith, from_earlier s t le ls all.1)

from_start : {B : Type 0} (ls : List (Letter B)) → Every (λ l. 0 ≤ l.event.time) ls
from_start [] = tt
from_start (l ∷ ls) = (omega arith, from_start ls)

times_from : {B : Type 0} (t : ℕ) (ls : List (Letter B)) → Every (λ l. t ≤ l.event.time) ls → Every (λ k. t ≤ k) (map (λ l. l.event.time) ls)
times_from t [] all = tt
times_from t (l ∷ ls) all = (all.0, times_from t ls all.1)

-- what the parts are set up with
abbrev pub setting_of : {M S B U : Type 0} {model : Ghosts M S B U} (x : Parts M S B U) → IsReady model x.model x.starts.value.items x.initial.value.items → Setting model
setting_of x ready = record { its_model = x.model; starts = x.starts.value.items; initial = x.initial.value.items; ready = ready }

-- A round

module _ {M S B U : Type 0} {model : Ghosts M S B U} {order : B → B → Ordering} (laws : Laws model order) (floors : FloorIsGreatest model order) (plan : Plan) (x z : Parts M S B U) (least : ℕ) (ranges : IsInRanges plan) (whole : IsWhole model order x) (round : Round model order plan x z least) where
  abbrev f : ℕ
  f = floor (world_of x)

  abbrev r : ℕ → Role
  r i = role plan x.collected i

  abbrev n : ℕ
  n = plan.workers

  exact : IsExactOrder (event_cmp order)
  exact = events_exact (record { total = laws.total; same = laws.same })

  -- nothing is outstanding before its floor
  quiet : (f ≤ 2 ^ 40) × IsQuiet (system_of model order (simulation_of x)) f (world_of x)
  quiet = (floors (setting_of x whole.ready) (world_of x) f).0 (omega arith)

  letters_from : Every (λ l. f ≤ l.event.time) x.letters.items
  letters_from = letters_of_count (event_cmp order) exact f x.letters.items quiet.1.letters

  -- by worker, before and after its turns
  abbrev between : (i : ℕ) → i < n → WorkerState M S B
  between i l = (round.works i l).between

  went : (i : ℕ) (l : i < n) → WentOn (rules model order x.model) (r i) (round.first i) (between i l)
  went i l = turns_went (rules model order x.model) plan.turns (r i) (round.first i) (between i l) (round.begins i l).role (round.works i l).turns_are

  first_late : (t : ℕ) → t ≤ f → (i : ℕ) → i < n → AllLate {model = model} laws x.model x.collected t (process_at (r i) (round.first i).processes)
  first_late t le i l q u at =
      let there = begun_there x whole plan i l (round.first i) (round.begins i l) q u at in
      let pending : Each (event_cmp order) (λ e. f ≤ e.time) u.pending = subst (λ o. Each (event_cmp order) (λ e. f ≤ e.time) (list_at (λ v. v.pending) o)) there (quiet.1.pending q) in
      let debts : Each (event_cmp order) (λ e. f ≤ e.time) u.debts = subst (λ o. Each (event_cmp order) (λ e. f ≤ e.time) (list_at (λ v. v.debts) o)) there (quiet.1.debts q) in
      record { pending = λ e k. (let from : f ≤ e.time = pending e k in omega arith); debts = λ e k. (let from : f ≤ e.time = debts e k in omega arith) }

  -- all that arrives in the round is not before t
  abbrev AllFrom : ℕ → Type 0
  AllFrom t = (i : ℕ) (l : i < n) → Every (λ l. t ≤ l.event.time) (arrivals (went i l).deeds)

  module _ (t : ℕ) (le : t ≤ f) (all : AllFrom t) (i : ℕ) (l : i < n) where
    given_later : AllLate {model = model} laws x.model x.collected t (process_at (r i) (between i l).processes) × Every (λ l. t < l.event.time) (went i l).given
    given_later =
        goes_late laws x.model x.collected t (way_of plan.lazy) (went i l).deeds (process_at (r i) (round.first i).processes) (process_at (r i) (between i l).processes) (went i l).given
        (begun_well x whole plan i l (round.first i) (round.begins i l)) (first_late t le i l) (all i l) (went i l).goes

    abbrev h : Letter B → ℕ
    h l = early (suc t) l.event.time

    none_given : weigh h (went i l).given ≡ 0
    none_given = weigh_zero h (went i l).given (λ l k. early_none (suc t) l.event.time (let later : t < l.event.time = k in omega arith)) given_later.1

    none_passed : weigh_all (r i) h (sent_to (between i l).port) + weigh h (between i l).kept ≡ 0
    none_passed =
        let b = round.begins i l in
        let k : weigh h (round.first i).kept ≡ 0 = ap (weigh h) b.none_kept in
        let s : sum_below n (λ k. weigh h (sent_to (round.first i).port k)) ≡ 0 = total_zero n (λ k. weigh h (sent_to (round.first i).port k)) (λ k lt. ap (weigh h) (b.new.0 k)) in
        omega (arith, (went i l).passed h, none_given, weigh_split (is_own (r i)) h (went i l).given, k, s)

    sent_later : (k : ℕ) → k < n → Every (λ l. suc t ≤ l.event.time) (sent_to (between i l).port k)
    sent_later k lk =
        every_zero (λ l. suc t ≤ l.event.time) h (sent_to (between i l).port k) (λ l. none_early (suc t) l.event.time)
        (total_none n (λ k. weigh h (sent_to (between i l).port k)) (let none = none_passed in omega arith) k lk)

    kept_later : Every (λ l. suc t ≤ l.event.time) (between i l).kept
    kept_later = every_zero (λ l. suc t ≤ l.event.time) h (between i l).kept (λ l. none_early (suc t) l.event.time) (let none = none_passed in omega arith)

  received_later : (t : ℕ) → t ≤ f → AllFrom t → (i : ℕ) (l : i < n) (k : ℕ) → k < n → Every (λ l. suc t ≤ l.event.time) (received_from (between i l).port k)
  received_later t le all i l k lk =
      let sent : Every (λ l. suc t ≤ l.event.time) (sent_to (round.last k).port i) = subst (λ (u : WorkerState M S B). Every (λ l. suc t ≤ l.event.time) (sent_to u.port i)) (sym (round.works k lk).closes) (sent_later t le all k lk i l) in
      let received : Every (λ l. suc t ≤ l.event.time) (received_from (round.last i).port k) = every_front (λ l. suc t ≤ l.event.time) (received_from (round.last i).port k) (round.left k i) (subst (Every (λ l. suc t ≤ l.event.time)) (sym (round.settled k i lk l)) sent) in
      subst (λ (u : WorkerState M S B). Every (λ l. suc t ≤ l.event.time) (received_from u.port k)) (round.works i l).closes received

  -- what arrives came, or was given out: so it is later still
  still_later : (t : ℕ) → suc t ≤ f → AllFrom t → AllFrom (suc t)
  still_later t le all i l =
      let b = round.begins i l in
      let h : Letter B → ℕ = λ l. early (suc t) l.event.time in
      let inbox : Every (λ l. suc t ≤ l.event.time) (round.first i).inbox = subst (Every (λ l. suc t ≤ l.event.time)) (sym b.inbox) (every_filter (λ l. suc t ≤ l.event.time) (is_own (r i)) x.letters.items (from_earlier (suc t) f le x.letters.items letters_from)) in
      let none_there : weigh h (round.first i).inbox ≡ 0 = weigh_zero h (round.first i).inbox (λ l k. early_none (suc t) l.event.time k) inbox in
      let none_came : sum_below n (λ k. weigh (if_passes (rules model order x.model) (r i) h) (received_from (between i l).port k)) ≡ 0 =
      total_zero n (λ k. weigh (if_passes (rules model order x.model) (r i) h) (received_from (between i l).port k))
      (λ k lk. (let none : weigh h (received_from (between i l).port k) ≡ 0 = weigh_zero h (received_from (between i l).port k) (λ l j. early_none (suc t) l.event.time j) (received_later t (omega arith) all i l k lk) in omega (arith, weigh_split (is_accepted (rules model order x.model) (r i)) h (received_from (between i l).port k)))) in
      every_zero (λ l. suc t ≤ l.event.time) h (arrivals (went i l).deeds) (λ l. none_early (suc t) l.event.time)
      (omega (arith, (went i l).arrived h, none_there, none_came, none_given t (omega arith) all i l, weigh_split (is_own (r i)) h (went i l).given))

  all_from : (t : ℕ) → t ≤ f → AllFrom t
  all_from zero le i l = from_start (arrivals (went i l).deeds)
  all_from (suc t) le i l = still_later t le (all_from t (omega arith)) i l

  -- what a worker notes
  module _ (i : ℕ) (l : i < n) where
    went_late : AllLate {model = model} laws x.model x.collected f (process_at (r i) (between i l).processes)
    went_late = (given_later f (omega arith) (all_from f (omega arith)) i l).0

    notes_from : Every (λ t. f ≤ t) (between i l).seat.noted
    notes_from =
        let b = round.begins i l in
        let s : sum_below n (λ k. weigh (λ l. early f l.event.time) (sent_to (round.first i).port k)) ≡ 0 = total_zero n (λ k. weigh (λ l. early f l.event.time) (sent_to (round.first i).port k)) (λ k lt. ap (weigh (λ l. early f l.event.time)) (b.new.0 k)) in
        let sent : sum_below n (λ k. weigh (λ l. early f l.event.time) (sent_to (between i l).port k)) ≡ 0 =
        total_zero n (λ k. weigh (λ l. early f l.event.time) (sent_to (between i l).port k))
        (λ k lk. weigh_zero (λ l. early f l.event.time) (sent_to (between i l).port k) (λ l j. early_none f l.event.time (let later : suc f ≤ l.event.time = j in omega arith)) (sent_later f (omega arith) (all_from f (omega arith)) i l k lk)) in
        let first : weigh (early f) (round.first i).seat.noted ≡ 0 = ap (weigh (early f)) b.none_noted in
        every_zero (λ t. f ≤ t) (early f) (between i l).seat.noted (none_early f) (omega (arith, (went i l).notes (early f), s, sent, first))

    -- each of its processes, by place, is late, and what it holds is later than what is pending
    there_late : (place : ℕ) (u : ProcessState S B) → slice_get (map (λ k. k.process) (between i l).processes) place ≡ Some u → IsLate (event_cmp order) f u × All (λ h. IsHeldFor (rules model order x.model) u.pending h) u.held
    there_late place u at = go (slice_get (between i l).processes place) refl (sym (slice_get-map (λ k. k.process) (between i l).processes place) ∙ at)
      where
        go : (o : Option (LogicalProcess M S B)) → slice_get (between i l).processes place ≡ o → option_map (λ k. k.process) o ≡ Some u → IsLate (event_cmp order) f u × All (λ h. IsHeldFor (rules model order x.model) u.pending h) u.held
        go None there is = cc
        go (Some k) there is =
            let e = number_place n i place l in
            let here : process_at (r i) (between i l).processes (i + place * plan.workers) ≡ Some u = at_place (r i) (between i l).processes (i + place * plan.workers) place k e.1 e.0 there ∙ is in
            let last : process_at (r i) (round.last i).processes (i + place * plan.workers) ≡ Some u = ap (λ (w : WorkerState M S B). process_at (r i) w.processes (i + place * plan.workers)) (round.works i l).closes ∙ here in
            (went_late (i + place * plan.workers) u here, ((closed laws plan x z least ranges whole round i l).0.well.sound (i + place * plan.workers) u last).held)

    abbrev own_world : WorldState S B
    own_world = record { processes = map (λ k. k.process) (between i l).processes; letters = []; collected = 0 }

    own_quiet : IsQuiet (system_of model order (simulation_of x)) f own_world
    own_quiet = record {
      pending = λ q. pending q (slice_get (map (λ k. k.process) (between i l).processes) q) refl;
      debts = λ q. debts q (slice_get (map (λ k. k.process) (between i l).processes) q) refl;
      letters = λ e k. absurd (omega arith);
      held = all_held_later (rules model order x.model) exact f (map (λ k. k.process) (between i l).processes) (λ q u at. (let k = there_late q u at in (k.0.pending, k.1)));
    }
      where
        pending : (q : ℕ) (o : Option (ProcessState S B)) → slice_get (map (λ k. k.process) (between i l).processes) q ≡ o → Each (event_cmp order) (λ e. f ≤ e.time) (list_at (λ u. u.pending) o)
        pending q None at = λ e k. absurd (omega arith)
        pending q (Some u) at = (there_late q u at).0.pending

        debts : (q : ℕ) (o : Option (ProcessState S B)) → slice_get (map (λ k. k.process) (between i l).processes) q ≡ o → Each (event_cmp order) (λ e. f ≤ e.time) (list_at (λ u. u.debts) o)
        debts q None at = λ e k. absurd (omega arith)
        debts q (Some u) at = (there_late q u at).0.debts

    closing_from : Every (λ t. f ≤ t) (closing_times (between i l))
    closing_from = (
      (floors (setting_of x whole.ready) own_world f).1 (quiet.0, own_quiet),
      times_from f (between i l).kept (from_earlier f (suc f) (omega arith) (between i l).kept (kept_later f (omega arith) (all_from f (omega arith)) i l)),
    )

    noted_from : Every (λ t. f ≤ t) (round.last i).seat.noted
    noted_from =
        subst (λ (u : WorkerState M S B). Every (λ t. f ≤ t) u.seat.noted) (sym (round.works i l).closes)
        (every_append (λ t. f ≤ t) (between i l).seat.noted (closing_times (between i l)) notes_from closing_from)

  -- so the floor does not go back
  pub floor_rises : floor (world_of x) ≤ least
  floor_rises =
      let all = least_from f (noted_below plan.workers (λ i. (round.last i).seat)) quiet.0 (noted_all (λ t. f ≤ t) plan.workers (λ i. (round.last i).seat) noted_from) in
      let is = round.floor_is in
      omega arith
