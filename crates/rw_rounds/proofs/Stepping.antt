-- One process of a worker steps: a letter arrives at it, it executes what is next, or it undoes its last event.
use Rattle.std.proofs.Common.{◌≡◌, ℕ, ◌+◌, ◌*◌, ◌<◌, ◌≤◌, Bool, true, false, cond, List, [], ◌∷◌, ◌++◌, length, refl, sym, ap, ◌∙◌, subst, arith, inl, inr, Some}
use Rattle.std.specs.Prelude.{◌⊎◌, ◌/◌, ◌%◌, slice_get, slice_set}
use Rattle.std.specs.declared.cmp.Ordering.{Ordering}
use Rattle.std.proofs.lemmas.Bool.{cases_eq, eqb-true}
use Rattle.rw_vt.specs.declared.event.Letter.{Letter}
use Rattle.rw_vt.specs.declared.model.Model.{Ghosts}
use Rattle.rw_vt.specs.Order.{event_cmp, Each, AtMost}
use Rattle.rw_vt.specs.System.{rules}
use Rattle.rw_vt.proofs.Laws.{Laws}
use Rattle.rw_lp.specs.Process.{ProcessState, Turned, Stays, execute_next}
use Rattle.rw_lp.specs.Calls.{LogicalProcess}
use Rattle.rw_lp.specs.declared.way.Way.{Way}
use Rattle.rw_lp.specs.Arrival.{undo_by, ArrivedBy}
use Rattle.rw_lp.specs.Sound.{SoundAt, HasCollected, Kept}
use Rattle.rw_pool.proofs.Dealing.{number_place}
use Rattle.rw_rounds.specs.Bags.{Every}
use Rattle.rw_rounds.specs.Deeds.{Arrival, Undoing, Execution, Stepped, IsFair, IsLeast, way_of}
use Rattle.rw_rounds.specs.Turns.{Role, WorkerState, is_own, process_at, IsInPlace, IsFit}
use Rattle.rw_rounds.specs.Working.{IsFitAndSound, Works, Moved, IsNext, size, sizes, dones}
use Rattle.rw_rounds.proofs.ByPlace.{get_set-same, get_set-other, length_set, at_place, place_of, set_here, set_elsewhere}
use Rattle.rw_rounds.proofs.Governing.{Governs, StartsIn, governs}
use Rattle.rw_rounds.proofs.Fits.{starts_in}
use Rattle.rw_rounds.proofs.Keeping.{kept_of, arrival_keeps}
use Rattle.rw_rounds.proofs.Going.{fair_letters}
use Rattle.rw_rounds.proofs.Falling.{arrival_falls, execute_counts, undo_counts, sizes_set, dones_set}
use Rattle.rw_rounds.proofs.Adding.{works_deed}

-- the number of the process at the place of q
pub number_of : (r : Role) (q : ℕ) → r.number < r.plan.workers → q % r.plan.workers ≡ r.number → r.number + (q / r.plan.workers) * r.plan.workers ≡ q
number_of r q h own = let n : r.plan.workers * (q / r.plan.workers) + q % r.plan.workers ≡ q = omega arith in omega arith

module _ {M S B : Type 0} (r : Role) (h : r.number < r.plan.workers) (xs zs : List (LogicalProcess M S B)) (place : ℕ) (l z : LogicalProcess M S B) (there : slice_get xs place ≡ Some l) (set : zs ≡ slice_set xs place z) where
  -- seen by numbers, one process changed
  pub stepped : (p : ℕ) (By : ProcessState S B → ProcessState S B → List (Letter B) → Type 0) (out : List (Letter B)) → p ≡ r.number + place * r.plan.workers → By l.process z.process out → Stepped p By (process_at r xs) (process_at r zs) l.process z.process out
  stepped p By out number by =
      let at = number_place r.plan.workers r.number place h in
      let own : p % r.plan.workers ≡ r.number = ap (λ q. q % r.plan.workers) number ∙ at.1 in
      let here : p / r.plan.workers ≡ place = ap (λ q. q / r.plan.workers) number ∙ at.0 in
      let found : slice_get xs (p / r.plan.workers) ≡ Some l = ap (slice_get xs) here ∙ there in
      let now : zs ≡ slice_set xs (p / r.plan.workers) z = set ∙ ap (λ i. slice_set xs i z) (sym here) in
      record {
        was = at_place r xs p place l own here there;
        is = ap (λ us. process_at r us p) now ∙ set_here r xs (omega arith) p own l z found;
        by = by;
        others = λ q other. ap (λ us. process_at r us q) now ∙ set_elsewhere r xs (omega arith) p own l z found q other;
      }

  -- each is still that of its model and its number
  pub named_set : (z.model ≡ l.model) × (z.number ≡ l.number) → (i : ℕ) (u w : LogicalProcess M S B) → slice_get xs i ≡ Some u → slice_get zs i ≡ Some w → (w.model ≡ u.model) × (w.number ≡ u.number)
  named_set same i u w was is = go (cases_eq i place)
    where
      go : (i ≡ place) ⊎ (i ≡ place → ⊥) → (w.model ≡ u.model) × (w.number ≡ u.number)
      go (inl e) =
          let a : Some u ≡ Some l = sym was ∙ ap (slice_get xs) e ∙ there in
          let b : Some w ≡ Some z = sym is ∙ ap (λ us. slice_get us i) set ∙ ap (slice_get (slice_set xs place z)) e ∙ get_set-same xs place l z there in
          let a1 : u ≡ l = cc in
          let b1 : w ≡ z = cc in
          (ap (λ v. v.model) b1 ∙ same.0 ∙ ap (λ v. v.model) (sym a1), ap (λ v. v.number) b1 ∙ same.1 ∙ ap (λ v. v.number) (sym a1))
      go (inr n) =
          let a : Some w ≡ Some u = sym is ∙ ap (λ us. slice_get us i) set ∙ get_set-other xs place i z n ∙ was in
          let a1 : w ≡ u = cc in
          (ap (λ v. v.model) a1, ap (λ v. v.number) a1)

module _ {M S B U : Type 0} {model : Ghosts M S B U} {order : B → B → Ordering} (laws : Laws model order) (m : M) (a b : WorkerState M S B) (up : IsFitAndSound model order m a)
    (same_role : b.role ≡ a.role) (inbox : b.inbox ≡ a.inbox) (kept : b.kept ≡ a.kept) (aside : b.aside ≡ a.aside) (port : b.port ≡ a.port) (seat : b.seat ≡ a.seat)
    (place : ℕ) (l z : LogicalProcess M S B) (there : slice_get a.processes place ≡ Some l) (set : b.processes ≡ slice_set a.processes place z) (same : (z.model ≡ l.model) × (z.number ≡ l.number)) where
  stands : IsInPlace order m a.role place l
  stands = up.fit.in_place place l there

  starts : StartsIn model m l.number l.process.start
  starts = starts_in m l stands.model_is (up.starts place l there)

  sound_here : SoundAt (rules model order m) a.role.collected l.number l.process
  sound_here = up.sound place l there

  rule_here : Governs (rules model order m) (StartsIn model m) a.role.collected (model.process_count m)
  rule_here = governs model order m laws a.role.collected

  as_many : length b.processes ≡ length a.processes
  as_many = ap length set ∙ length_set a.processes place z

  module _ (letter : Letter B) (fair : IsFair (rules model order m) a.role.collected letter) (own : is_own a.role letter ≡ true) (at : place ≡ letter.event.to / a.role.plan.workers) (way : Way) (way_is : way ≡ way_of a.role.plan.lazy) (given : List (Letter B)) (arrived : ArrivedBy way (rules model order l.model) l.number letter l.process z.process given) where
    owned : letter.event.to % a.role.plan.workers ≡ a.role.number
    owned = eqb-true (letter.event.to % a.role.plan.workers) a.role.number own

    to_is : letter.event.to ≡ a.role.number + place * a.role.plan.workers
    to_is = sym (number_of a.role letter.event.to up.fit.number owned) ∙ ap (λ i. a.role.number + i * a.role.plan.workers) (sym at)

    number_is : l.number ≡ letter.event.to
    number_is = stands.number ∙ sym to_is

    by_model : ArrivedBy (way_of a.role.plan.lazy) (rules model order m) l.number letter l.process z.process given
    by_model = subst (λ w. ArrivedBy w (rules model order m) l.number letter l.process z.process given) way_is (subst (λ k. ArrivedBy way (rules model order k) l.number letter l.process z.process given) stands.model_is arrived)

    pub works_arrival : (old new : List (Letter B)) → new ≡ old ++ given → Works (rules model order m) a.role a b (old ++ letter ∷ []) new 0
    works_arrival old new is =
        subst (λ ls. Works (rules model order m) a.role a b (old ++ letter ∷ []) ls 0) (sym is)
        (works_deed (rules model order m) a.role a b refl same_role inbox (Arrival letter) given old as_many
        (l.process, z.process, stepped a.role up.fit.number a.processes b.processes place l z there set letter.event.to _ given to_is (subst (λ p. ArrivedBy (way_of a.role.plan.lazy) (rules model order m) p letter l.process z.process given) number_is by_model), fair)
        (own, tt) kept aside port seat (named_set a.role up.fit.number a.processes b.processes place l z there set same))

    pub arrival_fair : Every (IsFair (rules model order m) a.role.collected) given
    arrival_fair =
        let kept_here = arrival_keeps (rules model order m) a.role.collected l.number rule_here (way_of a.role.plan.lazy) l.process z.process letter given starts sound_here (record { valid = fair.valid; here = sym number_is }) fair.from by_model in
        fair_letters (rules model order m) a.role.collected (model.process_count m) rule_here given kept_here.letters

    pub arrival_sizes : sizes (rules model order m) b.processes + length given ≤ sizes (rules model order m) a.processes
    arrival_sizes =
        let f = arrival_falls (rules model order m) l.number (way_of a.role.plan.lazy) letter l.process z.process given by_model in
        let s = sizes_set (rules model order m) place a.processes l z there in
        let now : size (rules model order m) z ≡ size (rules model order m) (record z { number = l.number }) = ap (λ p. size (rules model order m) (record z { number = p })) same.1 in
        omega (arith, f.0, ap (sizes (rules model order m)) set)

    pub arrival_dones : dones b.processes ≤ dones a.processes
    arrival_dones =
        let f = arrival_falls (rules model order m) l.number (way_of a.role.plan.lazy) letter l.process z.process given by_model in
        omega (arith, f.1, dones_set a.processes place l z there, ap dones set)

  -- what is next is the least of all
  next_is_least : (bound : ℕ) → IsNext (rules model order m) bound a.processes place → IsLeast (rules model order m) (process_at a.role a.processes) l.process
  next_is_least bound next e rest pending q x at =
      let f = place_of a.role a.processes q x at in
      let e1 : Some next.process ≡ Some l = sym next.there ∙ there in
      let is : next.process ≡ l = cc in
      let head : next.event ∷ next.rest ≡ e ∷ rest = sym next.pending ∙ ap (λ u. u.process.pending) is ∙ pending in
      let same_event : next.event ≡ e = cc in
      subst (λ (u : ProcessState S B). Each (rules model order m).order (λ g. AtMost (rules model order m).order e g) u.pending) f.2
      (subst (λ d. Each (rules model order m).order (λ g. AtMost (rules model order m).order d g) f.0.process.pending) same_event (next.least (q / a.role.plan.workers) f.0 f.1))

  module _ (bound : ℕ) (next : IsNext (rules model order m) bound a.processes place) (way : Way) (way_is : way ≡ way_of a.role.plan.lazy) (given : List (Letter B)) where
    executed_by : Moved (rules model order l.model) way l.number l.process z.process true given → execute_next (rules model order m) l.number l.process ≡ Turned z.process given
    executed_by moved = subst (λ k. execute_next (rules model order k) l.number l.process ≡ Turned z.process given) stands.model_is moved

    undone_by : Moved (rules model order l.model) way l.number l.process z.process false given → (undo_by (way_of a.role.plan.lazy) (rules model order m) l.number l.process ≡ Turned z.process given) × (execute_next (rules model order m) l.number l.process ≡ Stays Rattle.rw_lp.specs.declared.answer.StepFault.TheVariants.Straggler)
    undone_by moved = subst (λ w. Moved (rules model order m) w l.number l.process z.process false given) way_is (subst (λ k. Moved (rules model order k) way l.number l.process z.process false given) stands.model_is moved)

    pub works_moved : (executed : Bool) → Moved (rules model order l.model) way l.number l.process z.process executed given → Works (rules model order m) a.role a b [] given (cond executed 1 0)
    works_moved true moved =
        works_deed (rules model order m) a.role a b refl same_role inbox (Execution l.number) given [] as_many
        (l.process, z.process, stepped a.role up.fit.number a.processes b.processes place l z there set l.number _ given stands.number (executed_by moved), next_is_least bound next)
        tt kept aside port seat (named_set a.role up.fit.number a.processes b.processes place l z there set same)
    works_moved false moved =
        works_deed (rules model order m) a.role a b refl same_role inbox (Undoing l.number) given [] as_many
        (l.process, z.process, stepped a.role up.fit.number a.processes b.processes place l z there set l.number _ given stands.number (undone_by moved).0, (undone_by moved).1)
        tt kept aside port seat (named_set a.role up.fit.number a.processes b.processes place l z there set same)

    pub moved_fair : (executed : Bool) → Moved (rules model order l.model) way l.number l.process z.process executed given → Every (IsFair (rules model order m) a.role.collected) given
    moved_fair true moved =
        let k : Kept (rules model order m) a.role.collected l.number l.process z.process [] given = kept_of (rules model order m) a.role.collected l.number l.process z.process [] given (execute_next (rules model order m) l.number l.process) (executed_by moved) (rule_here.executes l.number l.process starts sound_here) in
        fair_letters (rules model order m) a.role.collected (model.process_count m) rule_here given k.letters
    moved_fair false moved =
        let k : Kept (rules model order m) a.role.collected l.number l.process z.process [] given = kept_of (rules model order m) a.role.collected l.number l.process z.process [] given (undo_by (way_of a.role.plan.lazy) (rules model order m) l.number l.process) (undone_by moved).0 (rule_here.undoes (way_of a.role.plan.lazy) l.number l.process starts sound_here) in
        fair_letters (rules model order m) a.role.collected (model.process_count m) rule_here given k.letters

    pub executed_dones : Moved (rules model order l.model) way l.number l.process z.process true given → dones b.processes ≡ dones a.processes + 1
    executed_dones moved = omega (arith, execute_counts (rules model order m) l.number l.process z.process given (executed_by moved), dones_set a.processes place l z there, ap dones set)

    pub undone_dones : Moved (rules model order l.model) way l.number l.process z.process false given → dones b.processes + 1 ≡ dones a.processes
    undone_dones moved = omega (arith, undo_counts (rules model order m) l.number (way_of a.role.plan.lazy) l.process z.process given (undone_by moved).0, dones_set a.processes place l z there, ap dones set)

-- where an own letter goes
module _ {M S B U : Type 0} {model : Ghosts M S B U} {order : B → B → Ordering} (laws : Laws model order) (m : M) (a : WorkerState M S B) (fit : IsFit model order m a) (letter : Letter B) (fair : IsFair (rules model order m) a.role.collected letter) (own : is_own a.role letter ≡ true) where
  pub place_within : letter.event.to / a.role.plan.workers < length a.processes
  place_within = fit.complete letter.event.to (laws.ranges m letter.event fair.valid).to (eqb-true (letter.event.to % a.role.plan.workers) a.role.number own)

  pub its_process : (l : LogicalProcess M S B) → slice_get a.processes (letter.event.to / a.role.plan.workers) ≡ Some l → (l.model ≡ m) × (letter.event.to ≡ l.number)
  its_process l there =
      let s = fit.in_place (letter.event.to / a.role.plan.workers) l there in
      (s.model_is, sym (number_of a.role letter.event.to fit.number (eqb-true (letter.event.to % a.role.plan.workers) a.role.number own)) ∙ sym s.number)

-- the process of what is next
module _ {M S B U : Type 0} {model : Ghosts M S B U} {order : B → B → Ordering} (m : M) (a : WorkerState M S B) (fit : IsFit model order m a) (place : ℕ) (l : LogicalProcess M S B) (there : slice_get a.processes place ≡ Some l) where
  pub there_model : l.model ≡ m
  there_model = (fit.in_place place l there).model_is

  pub there_collected : (g : ℕ) × HasCollected (event_cmp order) g l.process
  there_collected = (a.role.collected, (fit.in_place place l there).collected)

  pub next_pending : (bound : ℕ) → IsNext (rules model order m) bound a.processes place → l.process.pending ≡ [] → ⊥
  next_pending bound next none =
      let e : Some next.process ≡ Some l = sym next.there ∙ there in
      let is : next.process ≡ l = cc in
      let never : next.event ∷ next.rest ≡ [] = sym next.pending ∙ ap (λ u. u.process.pending) is ∙ none in
      cc
