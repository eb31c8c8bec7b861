-- What a run executes from one time to another.
use Rattle.std.proofs.Common.{◌≡◌, ℕ, ◌+◌, ◌<◌, ◌≤◌, List, [], ◌++◌, refl, sym, ◌∙◌, ap, subst, arith}
use Rattle.rw_vt.specs.declared.event.Event.{Event}
use Rattle.rw_vt.specs.Order.{AtMost, Has, copies, in_order}
use Rattle.rw_vt.specs.System.{System, flatten, journal_below, map_from, state_after}
use Rattle.rw_vt.specs.Moments.{HasReached}
use Rattle.rw_vt.proofs.Sorting.{ascending_settled, IsAscending-append, IsAscending-in_order, copies-append, copies-in_order}
use Rattle.rw_vt.proofs.Runs.{IsLawful, earlier_at_most}
use Rattle.rw_vt.proofs.Rest.{states_by, made_twice, none_joined, Has-joined, copies_in_parts, done_below, ends_itself, rest_follows_at}
use Rattle.rw_vt.proofs.Moments.{reached_at_start, reached_states, reached_midway, reached_late, reached_lawful}
use Rattle.rw_models.specs.Committed.{HasCommitted, RunsOnAfter, executed_below}

module _ {S B : Type 0} (y : System S B) {WellFormed : ℕ → S → Type 0} (law : IsLawful y WellFormed) where
  -- what stands in the joined journals stands in one of them
  pub in_one : {A : Type 0} (J : ℕ → List (Event B)) (ss : List A) (e : Event B) → Has y.rules.order (in_order y.rules.order (flatten (map_from 0 (λ q _. J q) ss))) e
      → (q : ℕ) × Has y.rules.order (J q) e
  in_one J ss e h =
      let o = law.rules.exact in
      let found = Has-joined o 0 (λ q _. J q) ss e (subst (λ n. 0 < n) (copies-in_order o e (flatten (map_from 0 (λ q _. J q) ss))) h) in
      (0 + found.0, found.3)

  module _ (t u : ℕ) (ordered : t ≤ u) (P : List (Event B)) (come : HasReached y t (states_by y (λ q. journal_below y t q)) P) where
    -- what is executed by t, what is left then, and what is executed of that
    abbrev before : ℕ → List (Event B)
    before q = journal_below y t q

    abbrev z : System S B
    z = record y { starts = states_by y before; initial = P }

    abbrev beyond : ℕ → List (Event B)
    beyond q = journal_below z u q

    early : (q : ℕ) (a : Event B) → Has y.rules.order (before q) a → a.time < t
    early = (done_below y law t).early

    late : (q : ℕ) (a : Event B) → Has y.rules.order (beyond q) a → t ≤ a.time
    late q a h =
        let c = (done_below z (reached_lawful y law t (states_by y before) P come) u).after q a h in
        let first = reached_late y law t (states_by y before) P come c.0 c.1 in
        let l = law.rules.by_time c.0 a c.2 in
        omega arith

    apart : (a b : Event B) → Has y.rules.order (executed_below y t) a → Has y.rules.order (executed_below z u) b → AtMost y.rules.order a b
    apart a b h k =
        let i = in_one before y.starts a h in
        let j = in_one beyond z.starts b k in
        let l = early i.0 a i.1 in
        let m = late j.0 b j.1 in
        earlier_at_most law.rules a b (omega arith)

    counts : (e : Event B) → copies y.rules.order e (executed_below y t ++ executed_below z u) ≡ copies y.rules.order e (executed_below y u)
    counts e =
        let o = law.rules.exact in
        let all : ℕ → List (Event B) = λ q. journal_below y u q in
        let mid = reached_midway y law t (states_by y before) P come in
        let follows : (q : ℕ) → before q ++ beyond q ≡ all q = λ q. rest_follows_at y law before P mid u (λ q a h. let l = early q a h in omega arith) q in
        let parts = copies_in_parts o e 0 (λ q _. all q) (λ q _. before q) (λ q _. beyond q) y.starts (λ q _. sym (follows q)) in
        let same = ap (λ l. copies y.rules.order e (flatten l)) (made_twice 0 (λ q s. state_after (y.rules.step q) s (before q)) (λ q _. beyond q) y.starts) in
        copies-append o e (executed_below y t) (executed_below z u)
        ∙ omega (
          arith,
          parts,
          same,
          copies-in_order o e (flatten (map_from 0 (λ q _. before q) y.starts)),
          copies-in_order o e (flatten (map_from 0 (λ q _. beyond q) z.starts)),
          copies-in_order o e (flatten (map_from 0 (λ q _. all q) y.starts)),
        )

    -- the events of the segment from t to u are those between
    added : executed_below y t ++ executed_below z u ≡ executed_below y u
    added =
        let o = law.rules.exact in
        ascending_settled o (executed_below y t ++ executed_below z u) (executed_below y u)
        (IsAscending-append o (executed_below y t) (executed_below z u)
        (IsAscending-in_order o (flatten (map_from 0 (λ q _. before q) y.starts)))
        (IsAscending-in_order o (flatten (map_from 0 (λ q _. beyond q) z.starts)))
        apart)
        (IsAscending-in_order o (flatten (map_from 0 (λ q _. journal_below y u q) y.starts)))
        counts

  pub executed_on : (t u : ℕ) (states : List S) (P : List (Event B)) → t ≤ u → HasReached y t states P
      → executed_below y t ++ executed_below (record y { starts = states; initial = P }) u ≡ executed_below y u
  executed_on t u states P l come =
      let is = reached_states y law t states P come in
      subst (λ s. executed_below y t ++ executed_below (record y { starts = s; initial = P }) u ≡ executed_below y u) (sym is)
      (added t u l P (subst (λ s. HasReached y t s P) is come))

  -- at the beginning nothing is executed
  pub committed_at_start : HasCommitted y 0 y.starts y.initial []
  unfolding journal_below
  committed_at_start = record {
    reached = reached_at_start y law;
    committed_are = sym (ap (in_order y.rules.order) (none_joined 0 (λ q _. journal_below y 0 q) y.starts (λ q _. refl)));
  }

-- at the beginning all is left
pub left_at_start : {S B : Type 0} (y : System S B) → RunsOnAfter y [] y.starts y.initial
left_at_start y = record { others = refl; ends = ends_itself y }
