-- A run that takes rows in as they come: what it is once it has taken more in, and once it has gone on.
use Rattle.std.proofs.Common.{◌≡◌, ℕ, ◌+◌, ◌<◌, ◌≤◌, List, [], ◌∷◌, ◌++◌, ◌⊎◌, inl, inr, true, refl, sym, ◌∙◌, ap, subst, arith, length, length-append, append_assoc, append-nil, zero-add, IsPermutation}
use Rattle.std.specs.Prelude.{All}
use Rattle.std.proofs.lemmas.List.Sorted.{All-permutation, IsPermutation-append_comm, IsPermutation-append_left, IsPermutation-append_right, IsPermutation-refl, IsPermutation-trans}
use Rattle.std.proofs.lemmas.List.Elements.{All-append, All-cons, All-head, All-nil, All-tail, All-weaker}
use Rattle.rw_vt.specs.declared.event.Event.{Event}
use Rattle.rw_vt.specs.Moments.{HasReached}
use Rattle.rw_vt.specs.Rest.{MayCome}
use Rattle.rw_vt.specs.System.{System, IsReady, Meets, map_from, system}
use Rattle.rw_vt.proofs.Laws.{Laws, lawful}
use Rattle.rw_vt.proofs.Moments.{reached_at_start, reached_further, reached_meets, reached_with_more}
use Rattle.rw_vt.proofs.Runs.{IsLawful}
use Rattle.rw_pending.proofs.Cited.{copies-IsPermutation}
use Rattle.rw_serial.proofs.Permuted.{ready_permuted}
use Rattle.rw_trace.specs.Pieces.{RiseFrom}
use Rattle.rw_trace.specs.declared.Row.{Row}
use Rattle.rw_photo.specs.declared.body.Body.{Body}
use Rattle.rw_photo.specs.declared.config.Config.{Config}
use Rattle.rw_photo.specs.declared.photo.Photo.{Photo}
use Rattle.rw_photo.specs.contracts.body.BodyOrd.TheImpl as order
use Rattle.rw_photo.specs.contracts.body.BodyOrd.TheImpl.Laws.{total-law}
use Rattle.rw_photo.specs.contracts.photo.PhotoVtModel.TheImpl as model
use Rattle.rw_photo.specs.Cache.{Cache, is_exhausted}
use Rattle.rw_photo.specs.Events.{event_of, is_valid}
use Rattle.rw_photo.specs.Laws.{bodies_same, step_future, step_keeps, valid_ranges}
use Rattle.rw_photo.specs.Rows.{AreInOrderFrom}
use Rattle.rw_photo.specs.Simulation.{simulation, starts_of}
use Rattle.rw_report.specs.Run.{AreApart, IsRunOn, RunState}

-- the caches at work
abbrev pub caches : Photo → List Cache → List (Event Body) → System Cache Body
caches m starts initial = system model.ghosts order.ghosts.cmp m starts initial

pub photo_laws : Laws model.ghosts order.ghosts.cmp
photo_laws = record {
  total = total-law;
  same = bodies_same;
  keeps = λ m. step_keeps m.config;
  future = λ m. step_future m.config;
  ranges = λ m. valid_ranges m.config;
}

-- the events of a run are lawful
pub law_of : (c : Config) (rows : List Row) → IsReady model.ghosts (record { config = c }) (starts_of c) (map_from 0 event_of rows) → IsLawful (simulation c rows) (model.ghosts.IsWellFormed (record { config = c }))
law_of c rows ready = lawful photo_laws (record { config = c }) (starts_of c) (map_from 0 event_of rows) ready

-- Events of rows

pub may_come : (c : Config) (rows : List Row) (t n : ℕ) (rs : List Row) → All (λ row. t ≤ row.time) rs → All (λ e. is_valid c e ≡ true) (map_from n event_of rs) → All (MayCome (simulation c rows).rules t) (map_from n event_of rs)
may_come c rows t n [] late valid = All-nil (MayCome (simulation c rows).rules t)
may_come c rows t n (r ∷ rs) late valid =
    All-cons (MayCome (simulation c rows).rules t) (event_of n r) (map_from (n + 1) event_of rs)
    (record { valid = All-head (λ e. is_valid c e ≡ true) (event_of n r) (map_from (n + 1) event_of rs) valid; from = All-head (λ row. t ≤ row.time) r rs late })
    (may_come c rows t (n + 1) rs (All-tail (λ row. t ≤ row.time) r rs late) (All-tail (λ e. is_valid c e ≡ true) (event_of n r) (map_from (n + 1) event_of rs) valid))

pub events-append : (k : ℕ) (rs ps : List Row) → map_from k event_of (rs ++ ps) ≡ map_from k event_of rs ++ map_from (k + length rs) event_of ps
events-append k [] ps = let at : k ≡ k + length (let e : List Row = [] in e) = omega arith in ap (λ n. map_from n event_of ps) at
events-append k (r ∷ rs) ps =
    let at : (k + 1) + length rs ≡ k + length (r ∷ rs) = omega arith in
    ap (λ l. event_of k r ∷ l) (events-append (k + 1) rs ps ∙ ap (λ n. map_from (k + 1) event_of rs ++ map_from n event_of ps) at)

-- the events of some rows, and those of a piece behind them
pub events_joined : (rows piece : List Row) (n : ℕ) → n ≡ length rows → map_from 0 event_of rows ++ map_from n event_of piece ≡ map_from 0 event_of (rows ++ piece)
events_joined rows piece n is = sym (events-append 0 rows piece ∙ ap (λ k. map_from 0 event_of rows ++ map_from k event_of piece) (zero-add (length rows) ∙ sym is))

-- More rows

-- these may wait in any order
pub reached_permuted : (y : System Cache Body) (t : ℕ) (ss : List Cache) (P Q : List (Event Body)) → IsPermutation P Q → HasReached y t ss P → HasReached y t ss Q
reached_permuted y t ss P Q moved reached = record { states_are = reached.states_are; waiting_are = λ e. sym (copies-IsPermutation y.rules.order e P Q moved) ∙ reached.waiting_are e }

-- more that is valid is ready too
pub ready_more : (m : Photo) (ss : List Cache) (P more Q : List (Event Body)) → IsReady model.ghosts m ss P → All (λ e. is_valid m.config e ≡ true) more → IsPermutation (P ++ more) Q → IsReady model.ghosts m ss Q
ready_more m ss P more Q ready valid moved =
    ready_permuted model.ghosts m ss (P ++ more) Q moved (record { enough = ready.enough; well_formed = ready.well_formed; valid = All-append (λ e. is_valid m.config e ≡ true) P more ready.valid valid })

pub ready_joined : (c : Config) (rows piece : List Row) (n : ℕ) → n ≡ length rows → All (λ e. is_valid c e ≡ true) (map_from n event_of piece) → IsReady model.ghosts (record { config = c }) (starts_of c) (map_from 0 event_of rows)
    → IsReady model.ghosts (record { config = c }) (starts_of c) (map_from 0 event_of (rows ++ piece))
ready_joined c rows piece n is valid ready =
    subst (IsReady model.ghosts (record { config = c }) (starts_of c)) (events_joined rows piece n is)
    (record { enough = ready.enough; well_formed = ready.well_formed; valid = All-append (λ e. is_valid c e ≡ true) (map_from 0 event_of rows) (map_from n event_of piece) ready.valid valid })

pub takes : (r : RunState) (rows piece : List Row) (events waiting : List (Event Body)) → IsRunOn rows r → events ≡ map_from r.taken event_of piece → All (λ e. is_valid r.config e ≡ true) events → All (λ row. r.time ≤ row.time) piece
    → IsPermutation (r.waiting ++ events) waiting → IsRunOn (rows ++ piece) (record { config = r.config; time = r.time; taken = r.taken + length piece; states = r.states; waiting = waiting })
takes r rows piece events waiting run are valid late moved =
    let c = r.config in
    let more = map_from r.taken event_of piece in
    let valid' : All (λ e. is_valid c e ≡ true) more = subst (All (λ e. is_valid c e ≡ true)) are valid in
    let moved' : IsPermutation (r.waiting ++ more) waiting = subst (λ es. IsPermutation (r.waiting ++ es) waiting) are moved in
    let with_more = reached_with_more (simulation c rows) (law_of c rows run.ready) r.time r.states r.waiting more (may_come c rows r.time r.taken piece late valid') run.reached in
    let joined = events_joined rows piece r.taken run.taken in
    let long = length-append rows piece in record {
      taken = omega (arith, long, run.taken);
      ready = ready_joined c rows piece r.taken run.taken valid' run.ready;
      reached = reached_permuted (simulation c (rows ++ piece)) r.time r.states (r.waiting ++ more) waiting moved' (subst (λ initial. HasReached (caches (record { config = c }) (starts_of c) initial) r.time r.states (r.waiting ++ more)) joined with_more);
    }

-- A later time

-- what waits, in another order, and what a run from there reaches
pub goes_on : (r : RunState) (rows : List Row) (before waiting : List (Event Body)) (states : List Cache) (until : ℕ) → IsRunOn rows r → IsPermutation r.waiting before → r.time ≤ until
    → HasReached (caches (record { config = r.config }) r.states before) until states waiting → IsRunOn rows (record { config = r.config; time = until; taken = r.taken; states = states; waiting = waiting })
goes_on r rows before waiting states until run moved later reached = record {
  taken = run.taken;
  ready = run.ready;
  reached = reached_further (simulation r.config rows) (law_of r.config rows run.ready) r.time until r.states states before waiting later (reached_permuted (simulation r.config rows) r.time r.states r.waiting before moved run.reached) reached;
}

pub meets_on : (r : RunState) (rows : List Row) (before : List (Event Body)) (until : ℕ) → IsRunOn rows r → IsPermutation r.waiting before → r.time ≤ until
    → Meets (caches (record { config = r.config }) r.states before) until is_exhausted → Meets (simulation r.config rows) until is_exhausted
meets_on r rows before until run moved later met =
    reached_meets (simulation r.config rows) (law_of r.config rows run.ready) r.time until r.states before is_exhausted later (reached_permuted (simulation r.config rows) r.time r.states r.waiting before moved run.reached) met

-- before the first row
pub begins : (c : Config) (starts : List Cache) (waiting : List (Event Body)) → starts ≡ starts_of c → waiting ≡ [] → IsReady model.ghosts (record { config = c }) starts []
    → IsRunOn [] (record { config = c; time = 0; taken = 0; states = starts; waiting = waiting })
begins c starts waiting are none ready =
    let ready' : IsReady model.ghosts (record { config = c }) (starts_of c) [] = subst (λ s. IsReady model.ghosts (record { config = c }) s []) are ready in
    let at_start = reached_at_start (simulation c []) (law_of c [] ready') in record {
      taken = refl;
      ready = ready';
      reached = subst (λ s. HasReached (simulation c []) 0 s waiting) (sym are) (subst (HasReached (simulation c []) 0 (starts_of c)) (sym none) at_start);
    }

-- two lists of nothing
pub both-none : {A : Type 0} {xs ys : List A} → xs ≡ [] → ys ≡ [] → xs ++ ys ≡ []
both-none {xs} {ys} h k = ap (λ l. l ++ ys) h ∙ k

-- events that are kept apart behind others
pub added_apart : (P F E : List (Event Body)) → IsPermutation ((P ++ F) ++ E) (P ++ (F ++ E))
added_apart P F E = subst (IsPermutation ((P ++ F) ++ E)) (append_assoc P F E) (IsPermutation-refl ((P ++ F) ++ E))

-- and where none is
pub added_behind : (P Q F E : List (Event Body)) → F ≡ [] → IsPermutation (P ++ E) Q → IsPermutation ((P ++ F) ++ E) (Q ++ F)
added_behind P Q F E none moved =
    let before : P ++ F ≡ P = ap (λ l. P ++ l) none ∙ append-nil P in
    let after : Q ++ F ≡ Q = ap (λ l. Q ++ l) none ∙ append-nil Q in
    subst (λ l. IsPermutation (l ++ E) (Q ++ F)) (sym before) (subst (IsPermutation (P ++ E)) (sym after) moved)

pub none_apart : (P F : List (Event Body)) → F ≡ [] → IsPermutation (P ++ F) P
none_apart P F none = subst (IsPermutation (P ++ F)) (ap (λ l. P ++ l) none ∙ append-nil P) (IsPermutation-refl (P ++ F))

-- events of rows that are not before a time are not either
pub late_events : (t n : ℕ) (rs : List Row) → All (λ row. t ≤ row.time) rs → All (λ e. t ≤ e.time) (map_from n event_of rs)
late_events t n [] late = All-nil (λ (e : Event Body). t ≤ e.time)
late_events t n (r ∷ rs) late =
    All-cons (λ (e : Event Body). t ≤ e.time) (event_of n r) (map_from (n + 1) event_of rs) (All-head (λ row. t ≤ row.time) r rs late) (late_events t (n + 1) rs (All-tail (λ row. t ≤ row.time) r rs late))

-- so is what waits in another order
pub late_moved : (t : ℕ) (P E Q : List (Event Body)) → All (λ e. t ≤ e.time) P → All (λ e. t ≤ e.time) E → IsPermutation (P ++ E) Q → All (λ e. t ≤ e.time) Q
late_moved t P E Q late more moved = All-permutation (λ e. t ≤ e.time) (P ++ E) Q moved (All-append (λ e. t ≤ e.time) P E late more)

-- Rows in order of time, which come from a source

pub in_order : (s t : ℕ) (rs : List Row) → s ≤ t → RiseFrom t rs → AreInOrderFrom s rs
in_order s t [] l up = tt
in_order s t (r ∷ rs) l up = let here = up.0 in (omega (arith, l, here), in_order r.time r.time rs (omega arith) up.1)

-- all that waits is later than the time at which it was last taken
pub all_later : (time last : ℕ) (P F : List (Event Body)) → AreApart time last F → All (λ e. time ≤ e.time) (P ++ F) → (P ++ F ≡ []) ⊎ (0 < time) → All (λ e. last < e.time) P
all_later time last [] F apart late some = All-nil (λ (e : Event Body). last < e.time)
all_later time last (e ∷ P) F apart late (inl none) = cc
all_later time last (e ∷ P) F (inl start) late (inr some) = absurd (omega (arith, start, some))
all_later time last (e ∷ P) F (inr past) late (inr some) =
    let before = past.0 in
    let same : (e ∷ P) ++ F ≡ e ∷ P = ap (λ l. (e ∷ P) ++ l) past.1 ∙ append-nil (e ∷ P) in
    All-weaker (λ f. time ≤ f.time) (λ f. last < f.time) (λ f m. omega (arith, before, m)) (e ∷ P) (subst (All (λ f. time ≤ f.time)) same late)

pub apart_after : (time last new : ℕ) (F : List (Event Body)) → AreApart time last F → new ≡ 0 → AreApart time new F
apart_after time last new F (inl start) is = inl start
apart_after time last new F (inr past) is = let before = past.0 in inr (omega (arith, before, is), past.1)

-- events that are added in front of those that are kept apart
pub added_in_front : (P Q F E : List (Event Body)) → IsPermutation (P ++ E) Q → IsPermutation ((P ++ F) ++ E) (Q ++ F)
added_in_front P Q F E moved =
    IsPermutation-trans ((P ++ F) ++ E) ((P ++ E) ++ F) (Q ++ F)
    (subst (λ l. IsPermutation l ((P ++ E) ++ F)) (sym (append_assoc P F E)) (subst (IsPermutation (P ++ (F ++ E))) (sym (append_assoc P E F)) (IsPermutation-append_right P (F ++ E) (E ++ F) (IsPermutation-append_comm F E))))
    (IsPermutation-append_left F (P ++ E) Q moved)

-- where nothing waits, none is kept apart
pub none_behind : (P F : List (Event Body)) → P ++ F ≡ [] → F ≡ []
none_behind [] F none = none
none_behind (e ∷ P) F none = cc
