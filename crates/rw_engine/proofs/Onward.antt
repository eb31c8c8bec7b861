-- A run that is taken on by one engine after another ends as from its start.
use Rattle.std.proofs.Common.{◌≡◌, ℕ, ◌≤◌, true, Option, Some, None, List, [], ◌∷◌, ◌++◌, refl, sym, ◌∙◌, ap, subst, arith, All, IsPermutation}
use contract.Forks.{Like}
use prog.How.{How}
use seplogic.Ra.Ura.{Ura}
use Rattle.std.specs.Option.{unwrap_or}
use Rattle.std.specs.declared.cmp.Ordering.{Ordering}
use Rattle.std.proofs.lemmas.List.Elements.{All-append, All-cons, All-head, All-nil, All-tail}
use Rattle.std.proofs.lemmas.List.Sorted.{All-permutation, IsPermutation-append_comm, IsPermutation-trans}
use Rattle.rw_vt.specs.Words.{Time}
use Rattle.rw_vt.specs.declared.event.Event.{Event}
use Rattle.rw_vt.specs.declared.model.Model.{Ghosts}
use Rattle.rw_vt.specs.Rest.{AreLastStates, EndsAs, IsRestOf, MayCome}
use Rattle.rw_vt.specs.System.{IsReady, rules, system}
use Rattle.rw_vt.proofs.Laws.{Laws, lawful, rules_lawful}
use Rattle.rw_vt.proofs.Rest.{ends_chain, ends_itself, rest_empty}
use Rattle.rw_pending.specs.Later.{IsLeastTime}
use Rattle.rw_pending.proofs.Cited.{All-back, All-front}
use Rattle.rw_serial.specs.Counts.{events_below}
use Rattle.rw_serial.proofs.Onward.{rest_permuted}
use Rattle.rw_serial.proofs.Permuted.{same_events}
use Rattle.rw_world.specs.Calls.{Simulation, system_of}
use Rattle.rw_rounds.specs.Segments.{IsSameSystem}
use Rattle.rw_engine.specs.Segments.{GoesOn}

-- a thread's world is like itself: what a bound gives in every world like it, it gives in this one
pub like_itself : {M : Type 1} {𝓤 : Ura M} (ok : ℕ → Type 0) (how : How 𝓤) → Like 𝓤 ok how ok how
like_itself ok how = (λ s o. o, λ p. p, λ f. f, λ x. x)

-- what both of two give of each element
pub All-both : {E : Type 0} (P Q R : E → Type 0) → ((e : E) → P e → Q e → R e) → (xs : List E) → All P xs → All Q xs → All R xs
All-both P Q R f [] h k = All-nil R
All-both P Q R f (x ∷ xs) h k = All-cons R x xs (f x (All-head P x xs h) (All-head Q x xs k)) (All-both P Q R f xs (All-tail P x xs h) (All-tail Q x xs k))

-- no event is before the least time, or, where there is none, before any time
pub late_from : {B : Type 0} (events : List (Event B)) (least : Option Time) (end until : Time) → IsLeastTime events least → until ≡ unwrap_or least end → All (λ e. until ≤ e.time) events
late_from events None end until none is = subst (All (λ e. until ≤ e.time)) (sym none) (All-nil (λ e. until ≤ e.time))
late_from events (Some t) end until least is = subst (λ u. All (λ e. u ≤ e.time) events) (sym is) least.0

module _ {M S B U : Type 0} (model : Ghosts M S B U) (order : B → B → Ordering) where
  -- where a run begins
  pub goes_itself : (m : M) (states : List S) (events events' : List (Event B)) → IsReady model m states events → events' ≡ events → GoesOn model order m states events m states events'
  goes_itself m states events events' ready is =
      subst (GoesOn model order m states events m states) (sym is) (record { same = refl; ready = ready; ends = ends_itself (system model order m states events) })

  pub goes_further : {m m' m'' : M} {states states' states'' : List S} {events events' events'' : List (Event B)} → GoesOn model order m states events m' states' events' → GoesOn model order m' states' events' m'' states'' events''
      → GoesOn model order m states events m'' states'' events''
  goes_further {m} {m'} {m''} {states} {states'} {states''} {events} {events'} {events''} f g = record {
    same = g.same ∙ f.same;
    ready = g.ready;
    ends = ends_chain (system model order m'' states'' events'') (system model order m' states' events') (system model order m states events) g.ends f.ends;
  }

  -- where nothing waits, it has come to its last states
  pub goes_to_end : {m m' : M} {states states' : List S} {events events' : List (Event B)} → GoesOn model order m states events m' states' events' → events' ≡ [] → AreLastStates (system model order m states events) states'
  goes_to_end {m'} {states'} f none =
      f.ends states' (subst (λ es. AreLastStates (system model order m' states' es) states') (sym none) (rest_empty (system model order m' states' [])))

  pub same_model : {m : M} {w : Simulation M S B} (x z : Simulation M S B) → x ≡ w → w.model ≡ m → IsSameSystem x z → z.model ≡ m
  same_model x z opened is same = same.model ∙ ap (λ v. v.model) opened ∙ is

  -- the system stays the same where rounds are made
  pub same_rest : {m : M} {states : List S} {events : List (Event B)} {w : Simulation M S B} (x z : Simulation M S B) (t : Time) (left : List S) (rest : List (Event B)) → x ≡ w → w.model ≡ m → w.starts ≡ states → w.initial ≡ events → IsSameSystem x z
      → IsRestOf (system_of model order z) t left rest → IsRestOf (system model order m states events) t left rest
  same_rest {m} {states} {events} {w} x z t left rest opened model_is starts_is initial_is same h =
      let a = same_model x z opened model_is same in
      let b : z.starts ≡ states = same.starts ∙ ap (λ v. v.starts) opened ∙ starts_is in
      let c : z.initial ≡ events = same.initial ∙ ap (λ v. v.initial) opened ∙ initial_is in
      subst (λ v. IsRestOf (system model order v states events) t left rest) a
      (subst (λ v. IsRestOf (system model order z.model v events) t left rest) b
      (subst (λ v. IsRestOf (system model order z.model z.starts v) t left rest) c h))

  pub taken_ready : {m : M} {states : List S} {events taken : List (Event B)} (kept : List (Event B)) → IsReady model m states events → IsPermutation events (taken ++ kept) → IsReady model m states taken
  taken_ready {m} {events} {taken} kept ready parts = record {
    enough = ready.enough;
    well_formed = ready.well_formed;
    valid = All-front (λ e. model.is_valid m e ≡ true) taken kept (All-permutation (λ e. model.is_valid m e ≡ true) events (taken ++ kept) parts ready.valid);
  }

  -- the initial events may be in any order
  pub moved_ready : {m : M} {states : List S} {events moved : List (Event B)} → IsReady model m states events → IsPermutation events moved → IsReady model m states moved
  moved_ready {m} {events} {moved} ready parts =
      record { enough = ready.enough; well_formed = ready.well_formed; valid = All-permutation (λ e. model.is_valid m e ≡ true) events moved parts ready.valid }

  module _ (laws : Laws model order) where
    pub moved_ends : {m : M} {states last : List S} {events moved : List (Event B)} → IsReady model m states events → IsPermutation events moved → AreLastStates (system model order m states moved) last → AreLastStates (system model order m states events) last
    moved_ends {m} {states} {last} {events} {moved} ready parts = rest_permuted (system model order m states events) (lawful laws m states events ready) moved parts last

    pub moved_counts : (m : M) (states : List S) {events moved : List (Event B)} → IsPermutation events moved → (t : Time) → events_below (system model order m states moved) t ≡ events_below (system model order m states events) t
    moved_counts m states {events} {moved} parts t = sym (same_events (rules model order m) (rules_lawful laws m).exact states events moved parts t)

    -- a stretch takes some of the events that wait; the others, none of them before all that is final, wait with what it leaves
    pub goes_by_rest : {m m' : M} {states left : List S} {events rest events' : List (Event B)} {t until : Time} (taken kept : List (Event B)) → IsReady model m states events → IsPermutation events (taken ++ kept) → All (λ e. until ≤ e.time) kept → t ≤ until
        → IsRestOf (system model order m states taken) t left rest → m' ≡ m → IsReady model m' left rest → IsPermutation (kept ++ rest) events' → GoesOn model order m states events m' left events'
    goes_by_rest {m} {m'} {states} {left} {events} {rest} {events'} {t} {until} taken kept ready parts late before is_rest same leaves put =
        record { same = same; ready = ready_there; ends = subst (λ v. EndsAs (system model order v left events') (system model order m states events)) (sym same) ends }
      where
        valid : All (λ e. model.is_valid m e ≡ true) kept
        valid = All-back (λ e. model.is_valid m e ≡ true) taken kept (All-permutation (λ e. model.is_valid m e ≡ true) events (taken ++ kept) parts ready.valid)

        may_come : (es : List (Event B)) → All (λ e. model.is_valid m e ≡ true) es → All (λ e. until ≤ e.time) es → All (MayCome (rules model order m) t) es
        may_come es v l = All-both (λ e. model.is_valid m e ≡ true) (λ e. until ≤ e.time) (MayCome (rules model order m) t) (λ e x y. record { valid = x; from = omega arith }) es v l

        leaves_here : IsReady model m left rest
        leaves_here = subst (λ v. IsReady model v left rest) same leaves

        ready_with : IsReady model m left (rest ++ kept)
        ready_with = record { enough = leaves_here.enough; well_formed = leaves_here.well_formed; valid = All-append (λ e. model.is_valid m e ≡ true) rest kept leaves_here.valid valid }

        moved : IsPermutation (rest ++ kept) events'
        moved = IsPermutation-trans (rest ++ kept) (kept ++ rest) events' (IsPermutation-append_comm rest kept) put

        ready_there : IsReady model m' left events'
        ready_there =
            subst (λ v. IsReady model v left events') (sym same)
            (record { enough = leaves_here.enough; well_formed = leaves_here.well_formed; valid = All-permutation (λ e. model.is_valid m e ≡ true) (rest ++ kept) events' moved ready_with.valid })

        ends : EndsAs (system model order m left events') (system model order m states events)
        ends =
            ends_chain (system model order m left events') (system model order m left (rest ++ kept)) (system model order m states events)
            (rest_permuted (system model order m left (rest ++ kept)) (lawful laws m left (rest ++ kept) ready_with) events' moved)
            (ends_chain (system model order m left (rest ++ kept)) (system model order m states (taken ++ kept)) (system model order m states events)
            (is_rest kept (may_come kept valid late))
            (rest_permuted (system model order m states events) (lawful laws m states events ready) (taken ++ kept) parts))
