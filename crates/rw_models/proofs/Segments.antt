-- Segments of a run: what one adds to the events that were executed before it.
use Rattle.std.proofs.Common.{◌≡◌, ℕ, ◌≤◌, Bool, List, [], ◌∷◌, ◌++◌, refl, sym, ◌∙◌, ap, subst, arith, append-nil, append_assoc}
use Rattle.std.specs.declared.cmp.Ordering.{Ordering}
use Rattle.std.proofs.lemmas.List.Elements.{All-nil}
use Rattle.rw_vt.specs.Limits.{end_of_time}
use Rattle.rw_vt.specs.declared.event.Event.{Event}
use Rattle.rw_vt.specs.declared.model.Model.{Ghosts}
use Rattle.rw_vt.specs.Order.{AtMost, Each, Has, IsAscending, copies, event_cmp, in_order}
use Rattle.rw_vt.specs.System.{IsOutcome, IsReady, System, flatten, journal_below, map_from, rules, state_after, system}
use Rattle.rw_vt.specs.Rest.{AreLastStates, EndsAs, MayCome}
use Rattle.rw_vt.specs.Moments.{HasReached}
use Rattle.rw_vt.proofs.Sorting.{IsExactOrder, at_most_chain, ascending_settled, IsAscending-append, IsAscending-in_order, copies-append, copies-in_order}
use Rattle.rw_vt.proofs.Laws.{Laws, lawful}
use Rattle.rw_vt.proofs.Runs.{IsLawful}
use Rattle.rw_vt.proofs.Rest.{copies_in_parts, done_below}
use Rattle.rw_vt.proofs.Moments.{reached_further, reached_rest}
use Rattle.rw_models.specs.declared.recorded.Record.{Record}
use Rattle.rw_models.specs.Committed.{HasCommitted, RunsOnAfter, executed_below}
use Rattle.rw_models.specs.Recorded.{CommitsInOrder, executed_of, new_records, states_of, step_recorded}
use Rattle.rw_models.proofs.Between.{executed_on, in_one}
use Rattle.rw_models.proofs.Recording.{inside, keeps_records, made_over, made_plain, recorded}

pub states_new : {S : Type 0} (B : Type 0) (states : List S) → states_of {B = B} (new_records states) ≡ states
states_new B [] = refl
states_new B (s ∷ ss) = ap (λ l. s ∷ l) (states_new B ss)

module _ {M S B U : Type 0} {model : Ghosts M S B U} (order : B → B → Ordering) (laws : Laws model order) (m : M) (starts : List S) (initial : List (Event B)) (begins : IsReady model m starts initial) where
  -- a run of the model from these states, with these events
  abbrev from : List S → List (Event B) → System S B
  from states waiting = record (system model order m starts initial) { starts = states; initial = waiting }

  law : IsLawful (system model order m starts initial) (model.IsWellFormed m)
  law = lawful laws m starts initial begins

  -- new records hold at the end what was executed
  held : (t : ℕ) (valid : Event B → Bool) (states : List S) (waiting : List (Event B)) (journals : List (List (Event B))) (records : List (Record S B))
      → IsOutcome (recorded (rules model order m) valid (new_records states) waiting) t journals records
      → executed_of records ≡ map_from 0 (λ q _. journal_below (from states waiting) t q) states
  held t valid states waiting journals records h =
      let y = system model order m starts initial in
      let kept = keeps_records y.rules valid (new_records states) waiting in
      kept.executed t journals records h
      ∙ made_over 0 (λ s. let r : Record S B = record { state = s; executed = [] } in r) (λ q r. r.executed ++ journal_below (inside y.rules (new_records states) waiting) t q) states
      ∙ ap (λ s. map_from 0 (λ q _. journal_below (record y { starts = s; initial = waiting }) t q) states) (states_new B states)

  module _ (valid : Event B → Bool) (records : List (Record S B)) (events : List (Event B))
      (are : events ≡ in_order (event_cmp order) (flatten (executed_of records))) where
    -- and one that keeps records
    abbrev run : List (Record S B) → List (Event B) → System (Record S B) B
    run rs waiting = recorded (rules model order m) valid rs waiting

    between : (t u : ℕ) (states : List S) (waiting left committed : List (Event B)) → t ≤ u
        → HasCommitted (system model order m starts initial) t states waiting committed
        → HasReached (run (new_records states) waiting) u records left
        → HasCommitted (system model order m starts initial) u (states_of records) left (committed ++ events)
    between t u states waiting left committed l before came =
        let y = system model order m starts initial in
        let kept = keeps_records y.rules valid (new_records states) waiting in
        let reached : HasReached (from states waiting) u (states_of records) left =
        subst (λ s. HasReached (from s waiting) u (states_of records) left) (states_new B states) (kept.reached u records left came) in
        let is : events ≡ executed_below (from states waiting) u =
        are ∙ ap (λ l. in_order (event_cmp order) (flatten l)) (held u valid states waiting came.states_are.0 records came.states_are.1) in
        record {
          reached = reached_further y law t u states (states_of records) waiting left l before.reached reached;
          committed_are = ap (λ l. l ++ events) before.committed_are ∙ ap (λ l. executed_below y t ++ l) is ∙ executed_on y law t u states waiting l before.reached;
        }

    last : (states : List S) (waiting committed : List (Event B))
        → RunsOnAfter (system model order m starts initial) committed states waiting
        → AreLastStates (run (new_records states) waiting) records
        → AreLastStates (system model order m starts initial) (states_of records) × (committed ++ events ≡ executed_below (system model order m starts initial) end_of_time)
    last states waiting committed before ran =
        let y = system model order m starts initial in
        let kept = keeps_records y.rules valid (new_records states) waiting in
        let ended : AreLastStates (from states waiting) (states_of records) =
        subst (λ s. AreLastStates (from s waiting) (states_of records)) (states_new B states) (ran.0, kept.outcome end_of_time ran.0 records ran.1) in
        let is : events ≡ executed_below (from states waiting) end_of_time =
        are ∙ ap (λ l. in_order (event_cmp order) (flatten l)) (held end_of_time valid states waiting ran.0 records ran.1) in
        (before.ends (states_of records) ended, ap (λ l. committed ++ l) is ∙ before.others)

    module _ (states : List S) (waiting left : List (Event B))
        (ends : EndsAs (run records left) (run (new_records states) waiting))
        (ready : IsReady model m (states_of records) left)
        (first : Each (event_cmp order) (λ e. Each (event_cmp order) (AtMost (event_cmp order) e) left) events) where
      -- what is left ends with these records
      abbrev final : List (Record S B)
      final = map_from 0 (λ q r. state_after (step_recorded (model.step m q)) r (journal_below (run records left) end_of_time q)) records

      outcome : IsOutcome (run records left) end_of_time (map_from 0 (λ q _. journal_below (run records left) end_of_time q) records) final
      outcome = record { journals_are = refl; states_are = refl }

      whole : AreLastStates (run (new_records states) waiting) final
      whole = ends final (map_from 0 (λ q _. journal_below (run records left) end_of_time q) records, outcome)

      abbrev beyond : ℕ → List (Event B)
      beyond q = journal_below (from (states_of records) left) end_of_time q

      -- each journal falls into the record and what is left
      in_two : map_from 0 (λ q _. journal_below (from states waiting) end_of_time q) states ≡ map_from 0 (λ q r. r.executed ++ beyond q) records
      in_two = sym (held end_of_time valid states waiting whole.0 final whole.1)
          ∙ (keeps_records (rules model order m) valid records left).executed end_of_time (map_from 0 (λ q _. journal_below (run records left) end_of_time q) records) final outcome

      exact : IsExactOrder (event_cmp order)
      exact = law.rules.exact

      counts : (e : Event B) → copies (event_cmp order) e (events ++ executed_below (from (states_of records) left) end_of_time)
          ≡ copies (event_cmp order) e (executed_below (from states waiting) end_of_time)
      counts e =
          let held_now = ap (copies (event_cmp order) e) are ∙ copies-in_order exact e (flatten (executed_of records)) in
          let parts = copies_in_parts exact e 0 (λ q r. r.executed ++ beyond q) (λ q r. r.executed) (λ q _. beyond q) records (λ q r. refl) in
          let plain = ap (λ l. copies (event_cmp order) e (flatten l)) (made_plain 0 (λ (r : Record S B). r.executed) records) in
          let over = ap (λ l. copies (event_cmp order) e (flatten l)) (made_over 0 (λ (r : Record S B). r.state) (λ q _. beyond q) records) in
          let two = ap (λ l. copies (event_cmp order) e (flatten l)) in_two in
          copies-append exact e events (executed_below (from (states_of records) left) end_of_time)
          ∙ omega (
            arith,
            held_now,
            parts,
            plain,
            over,
            two,
            copies-in_order exact e (flatten (map_from 0 (λ q _. beyond q) (states_of records))),
            copies-in_order exact e (flatten (map_from 0 (λ q _. journal_below (from states waiting) end_of_time q) states)),
          )

      apart : (a b : Event B) → Has (event_cmp order) events a → Has (event_cmp order) (executed_below (from (states_of records) left) end_of_time) b → AtMost (event_cmp order) a b
      apart a b h l =
          let later = lawful laws m (states_of records) left ready in
          let i = in_one (from (states_of records) left) later beyond (states_of records) b l in
          let c = (done_below (from (states_of records) left) later end_of_time).after i.0 b i.1 in
          at_most_chain exact a c.0 b (first a h c.0 c.1) c.2

      divided : events ++ executed_below (from (states_of records) left) end_of_time ≡ executed_below (from states waiting) end_of_time
      divided =
          ascending_settled exact (events ++ executed_below (from (states_of records) left) end_of_time) (executed_below (from states waiting) end_of_time)
          (IsAscending-append exact events (executed_below (from (states_of records) left) end_of_time)
          (subst (IsAscending (event_cmp order)) (sym are) (IsAscending-in_order exact (flatten (executed_of records))))
          (IsAscending-in_order exact (flatten (map_from 0 (λ q _. beyond q) (states_of records))))
          apart)
          (IsAscending-in_order exact (flatten (map_from 0 (λ q _. journal_below (from states waiting) end_of_time q) states)))
          counts

      -- what is left ends as the segment's own run
      ends_inside : EndsAs (from (states_of records) left) (from states waiting)
      ends_inside last h =
          let y = system model order m starts initial in
          let here = (keeps_records y.rules valid records left).outcome end_of_time (map_from 0 (λ q _. journal_below (run records left) end_of_time q) records) final outcome in
          let there : AreLastStates (from states waiting) (states_of final) =
          subst (λ s. AreLastStates (from s waiting) (states_of final)) (states_new B states)
          (whole.0, (keeps_records y.rules valid (new_records states) waiting).outcome end_of_time whole.0 final whole.1) in
          subst (AreLastStates (from states waiting)) (here.states_are ∙ sym h.1.states_are) there

      part : (committed : List (Event B)) → RunsOnAfter (system model order m starts initial) committed states waiting → RunsOnAfter (system model order m starts initial) (committed ++ events) (states_of records) left
      part committed before = record {
        others = append_assoc committed events (executed_below (from (states_of records) left) end_of_time)
            ∙ ap (λ l. committed ++ l) divided ∙ before.others;
        ends = λ last h. before.ends last (ends_inside last h);
      }

    -- and so it does where it has reached a time
    reaching : (u : ℕ) (states : List S) (waiting left committed : List (Event B)) → u ≤ end_of_time
        → RunsOnAfter (system model order m starts initial) committed states waiting
        → IsReady model m states waiting
        → HasReached (run (new_records states) waiting) u records left
        → RunsOnAfter (system model order m starts initial) (committed ++ events) (states_of records) left
    reaching u states waiting left committed l before ready came =
        let here = lawful laws m states waiting ready in
        let kept = keeps_records (rules model order m) valid (new_records states) waiting in
        let reached : HasReached (from states waiting) u (states_of records) left =
        subst (λ s. HasReached (from s waiting) u (states_of records) left) (states_new B states) (kept.reached u records left came) in
        let is : events ≡ executed_below (from states waiting) u =
        are ∙ ap (λ l. in_order (event_cmp order) (flatten l)) (held u valid states waiting came.states_are.0 records came.states_are.1) in
        let parts : events ++ executed_below (from (states_of records) left) end_of_time ≡ executed_below (from states waiting) end_of_time =
        ap (λ l. l ++ executed_below (from (states_of records) left) end_of_time) is
        ∙ executed_on (from states waiting) here u end_of_time (states_of records) left l reached in
        let rest : EndsAs (from (states_of records) (left ++ [])) (from states (waiting ++ [])) =
        reached_rest (from states waiting) here u (states_of records) left reached [] (All-nil (MayCome (rules model order m) u)) in
        let ends : EndsAs (from (states_of records) left) (from states waiting) =
        subst (λ l. EndsAs (from (states_of records) left) (from states l)) (append-nil waiting)
        (subst (λ l. EndsAs (from (states_of records) l) (from states (waiting ++ []))) (append-nil left) rest) in
        record {
          others = append_assoc committed events (executed_below (from (states_of records) left) end_of_time)
              ∙ ap (λ l. committed ++ l) parts ∙ before.others;
          ends = λ last h. before.ends last (ends last h);
        }

    pub commits_in_order : CommitsInOrder model order m starts initial (recorded (rules model order m) valid [] []).rules records events
    commits_in_order = record {
      between = between;
      reaching = reaching;
      part = λ states waiting left committed before ends ready first. part states waiting left ends ready first committed before;
      last = last;
    }
