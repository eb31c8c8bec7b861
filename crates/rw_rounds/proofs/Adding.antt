-- A worker's steps, and how they add up.
use Rattle.std.proofs.Common.{◌≡◌, ℕ, zero, suc, ◌+◌, ◌<◌, true, false, cond, List, [], ◌∷◌, ◌++◌, length, refl, sym, ap, ◌∙◌, subst, arith, append_assoc, append-nil, ⊎_elim, inl, inr, Option, Some}
use Rattle.std.specs.Prelude.{◌⊎◌, not, slice_get, slice_set, slice_index_or}
use Rattle.std.proofs.lemmas.Bool.{cases_eq, ne_eqb}
use Rattle.std.proofs.lemmas.List.{get_or-set_same, get_or-set_other}
use Rattle.rw_vt.specs.declared.event.Letter.{Letter}
use Rattle.rw_vt.specs.System.{Rules}
use Rattle.rw_lp.specs.Process.{ProcessState}
use Rattle.rw_lp.specs.declared.way.Way.{Way}
use Rattle.rw_lp.specs.Calls.{LogicalProcess}
use Rattle.rw_exchange.specs.Ports.{PortState, SamePort, sent_to, free_to, received_from, after_sending, after_receiving}
use Rattle.rw_board.specs.Seats.{after_note}
use Rattle.rw_pool.specs.Sums.{sum_below}
use Rattle.rw_pool.proofs.Sums.{total_same, total_add, total_zero}
use Rattle.rw_rounds.specs.Bags.{weigh, only, Every}
use Rattle.rw_rounds.specs.Deeds.{Deed, Arrival, Undoing, Execution, Did, Goes, arrivals, executions, way_of}
use Rattle.rw_rounds.specs.Turns.{Role, WorkerState, owner, is_own, is_accepted, process_at}
use Rattle.rw_rounds.specs.Working.{Works}
use Rattle.rw_rounds.proofs.Sums.{weigh-append, every_append, at_only, at_here, at_other, weigh_at}

module _ {S B : Type 0} (y : Rules S B) (g : ℕ) (way : Way) where
  pub goes_append : (ds es : List (Deed B)) (a b c : ℕ → Option (ProcessState S B)) (given more : List (Letter B)) → Goes y g way ds a b given → Goes y g way es b c more → Goes y g way (ds ++ es) a c (given ++ more)
  goes_append [] es a b c given more x z = subst (λ u. Goes y g way es u c (given ++ more)) x.0 (subst (λ ls. Goes y g way es b c ls) (sym (ap (λ l. l ++ more) x.1)) z)
  goes_append (d ∷ ds) es a b c given more x z = (x.0, x.1, x.2 ++ more, x.3, goes_append ds es x.0 b c x.2 more x.4 z, ap (λ l. l ++ more) x.5 ∙ append_assoc x.1 x.2 more)

pub arrivals_append : {B : Type 0} (ds es : List (Deed B)) → arrivals (ds ++ es) ≡ arrivals ds ++ arrivals es
arrivals_append [] es = refl
arrivals_append (Arrival l ∷ ds) es = ap (λ z. l ∷ z) (arrivals_append ds es)
arrivals_append (Undoing p ∷ ds) es = arrivals_append ds es
arrivals_append (Execution p ∷ ds) es = arrivals_append ds es

pub executions_append : {B : Type 0} (ds es : List (Deed B)) → executions (ds ++ es) ≡ executions ds + executions es
executions_append [] es = omega arith
executions_append (Arrival l ∷ ds) es = executions_append ds es
executions_append (Undoing p ∷ ds) es = executions_append ds es
executions_append (Execution p ∷ ds) es = omega (arith, executions_append ds es)

module _ {T : Type 0} where
  pub same_itself : (p : PortState T) → SamePort p p
  same_itself p = record { worker = refl; capacity = refl; out = refl; into = refl; sent = refl; received = refl }

  pub same_more : (p q r : PortState T) → SamePort p q → SamePort q r → SamePort p r
  same_more p q r a b = record { worker = b.worker ∙ a.worker; capacity = b.capacity ∙ a.capacity; out = b.out ∙ a.out; into = b.into ∙ a.into; sent = b.sent ∙ a.sent; received = b.received ∙ a.received }

  put_at : (rows : List (List T)) (k j : ℕ) (x : T) → k < length rows → slice_index_or (slice_set rows k (slice_index_or rows k [] ++ x ∷ [])) j [] ≡ slice_index_or rows j [] ++ at_only k (x ∷ []) j
  put_at rows k j x h = go (cases_eq j k)
    where
      go : (j ≡ k) ⊎ (j ≡ k → ⊥) → slice_index_or (slice_set rows k (slice_index_or rows k [] ++ x ∷ [])) j [] ≡ slice_index_or rows j [] ++ at_only k (x ∷ []) j
      go (inl e) =
          ap (λ i. slice_index_or (slice_set rows k (slice_index_or rows k [] ++ x ∷ [])) i []) e
          ∙ get_or-set_same rows k (slice_index_or rows k [] ++ x ∷ []) [] h
          ∙ ap (λ l. slice_index_or rows k [] ++ l) (sym (at_here k (x ∷ [])))
          ∙ ap (λ i. slice_index_or rows i [] ++ at_only k (x ∷ []) i) (sym e)
      go (inr n) =
          get_or-set_other rows k j (slice_index_or rows k [] ++ x ∷ []) [] n
          ∙ sym (append-nil (slice_index_or rows j []))
          ∙ ap (λ l. slice_index_or rows j [] ++ l) (sym (at_other k j (x ∷ []) n))

  pub sent_at : (p : PortState T) (k j : ℕ) (x : T) (free : ℕ) → k < length p.sent → sent_to (after_sending p k x free) j ≡ sent_to p j ++ at_only k (x ∷ []) j
  sent_at p k j x free h = put_at p.sent k j x h

  pub received_at : (p : PortState T) (k j : ℕ) (x : T) → k < length p.received → received_from (after_receiving p k x) j ≡ received_from p j ++ at_only k (x ∷ []) j
  received_at p k j x h = put_at p.received k j x h

none_at : (r : Role) → sum_below r.plan.workers (λ k. 0) ≡ 0
none_at r = total_zero r.plan.workers (λ k. 0) (λ i l. refl)

module _ {B : Type 0} (r : Role) where
  total_both : (h : Letter B → ℕ) (f k : ℕ → List (Letter B)) → sum_below r.plan.workers (λ i. weigh h (f i ++ k i)) ≡ sum_below r.plan.workers (λ i. weigh h (f i)) + sum_below r.plan.workers (λ i. weigh h (k i))
  total_both h f k = total_same r.plan.workers (λ i. weigh h (f i ++ k i)) (λ i. weigh h (f i) + weigh h (k i)) (λ i l. weigh-append h (f i) (k i)) ∙ total_add r.plan.workers (λ i. weigh h (f i)) (λ i. weigh h (k i))

  only_own : (h : Letter B → ℕ) (l : Letter B) → is_own r l ≡ true → (only (is_own r) h l ≡ h l) × (only (λ m. not (is_own r m)) h l ≡ 0)
  only_own h l q = (ap (λ b. cond b (h l) 0) q, ap (λ b. cond (not b) (h l) 0) q)

  only_other : (h : Letter B → ℕ) (l : Letter B) → is_own r l ≡ false → (only (is_own r) h l ≡ 0) × (only (λ m. not (is_own r m)) h l ≡ h l)
  only_other h l q = (ap (λ b. cond b (h l) 0) q, ap (λ b. cond (not b) (h l) 0) q)

  pub all_own : (h : Letter B → ℕ) (ls : List (Letter B)) → Every (λ l. is_own r l ≡ true) ls → (weigh (only (is_own r) h) ls ≡ weigh h ls) × (weigh (only (λ l. not (is_own r l)) h) ls ≡ 0)
  all_own h [] all = (refl, refl)
  all_own h (l ∷ ls) all =
      let rest = all_own h ls all.1 in
      let o = only_own h l all.0 in
      ((omega (arith, rest.0, o.0)), (omega (arith, rest.1, o.1)))

  pub all_others : (h : Letter B → ℕ) (ls : List (Letter B)) → Every (λ l. owner r l ≡ r.number → ⊥) ls → (weigh (only (is_own r) h) ls ≡ 0) × (weigh (only (λ l. not (is_own r l)) h) ls ≡ weigh h ls)
  all_others h [] all = (refl, refl)
  all_others h (l ∷ ls) all =
      let rest = all_others h ls all.1 in
      let o = only_other h l (ne_eqb (owner r l) r.number all.0) in
      ((omega (arith, rest.0, o.0)), (omega (arith, rest.1, o.1)))

module _ {M S B : Type 0} (y : Rules S B) (r : Role) where
  -- the same processes are there
  pub named_itself : (xs zs : List (LogicalProcess M S B)) → zs ≡ xs → (place : ℕ) (l z : LogicalProcess M S B) → slice_get xs place ≡ Some l → slice_get zs place ≡ Some z → (z.model ≡ l.model) × (z.number ≡ l.number)
  named_itself xs zs same place l z at there =
      let e : Some z ≡ Some l = sym there ∙ ap (λ us. slice_get us place) same ∙ at in
      let is : z ≡ l = cc in
      (ap (λ u. u.model) is, ap (λ u. u.number) is)

  -- nothing is done, and what is at hand is put into another order
  pub works_reordered : (a : WorkerState M S B) (at_hand rest : List (Letter B)) → a.role ≡ r → ((h : Letter B → ℕ) → weigh h rest ≡ weigh h at_hand) → Works y r a a at_hand rest 0
  works_reordered a at_hand rest is same = record {
    before = is;
    after = is;
    inbox = refl;
    as_many = refl;
    same_port = same_itself a.port;
    same_board = refl;
    deeds = [];
    given = [];
    sent = λ k. [];
    received = λ k. [];
    noted = [];
    goes = (refl, refl);
    sent_more = λ k. sym (append-nil (sent_to a.port k));
    received_more = λ k. sym (append-nil (received_from a.port k));
    noted_more = sym (append-nil a.seat.noted);
    arrived = λ h. omega (arith, same (only (is_own r) h), none_at r);
    set_aside = λ h. omega (arith, none_at r);
    passed_on = λ h. omega (arith, same (only (λ l. not (is_own r l)) h), none_at r);
    on_its_ring = λ k. tt;
    notes = λ h. sym (none_at r);
    executed = refl;
    named = named_itself a.processes a.processes refl;
  }

  pub works_none : (a : WorkerState M S B) (at_hand : List (Letter B)) → a.role ≡ r → Works y r a a at_hand at_hand 0
  works_none a at_hand is = works_reordered a at_hand at_hand is (λ h. refl)

  -- one step after another
  pub works_join : (a b c : WorkerState M S B) (u v w : List (Letter B)) (n m : ℕ) → Works y r a b u v n → Works y r b c v w m → Works y r a c u w (n + m)
  works_join a b c u v w n m x z = record {
    before = x.before;
    after = z.after;
    inbox = z.inbox ∙ x.inbox;
    as_many = z.as_many ∙ x.as_many;
    same_port = same_more a.port b.port c.port x.same_port z.same_port;
    same_board = z.same_board ∙ x.same_board;
    deeds = x.deeds ++ z.deeds;
    given = x.given ++ z.given;
    sent = λ k. x.sent k ++ z.sent k;
    received = λ k. x.received k ++ z.received k;
    noted = x.noted ++ z.noted;
    goes = goes_append y r.collected (way_of r.plan.lazy) x.deeds z.deeds (process_at r a.processes) (process_at r b.processes) (process_at r c.processes) x.given z.given x.goes z.goes;
    sent_more = λ k. z.sent_more k ∙ ap (λ l. l ++ z.sent k) (x.sent_more k) ∙ append_assoc (sent_to a.port k) (x.sent k) (z.sent k);
    received_more = λ k. z.received_more k ∙ ap (λ l. l ++ z.received k) (x.received_more k) ∙ append_assoc (received_from a.port k) (x.received k) (z.received k);
    noted_more = z.noted_more ∙ ap (λ l. l ++ z.noted) x.noted_more ∙ append_assoc a.seat.noted x.noted z.noted;
    arrived = λ h. omega (arith, x.arrived h, z.arrived h, ap (weigh h) (arrivals_append x.deeds z.deeds), weigh-append h (arrivals x.deeds) (arrivals z.deeds), weigh-append (only (is_own r) h) x.given z.given, total_both r (only (is_accepted y r) h) x.received z.received);
    set_aside = λ h. omega (arith, x.set_aside h, z.set_aside h, total_both r (only (λ l. not (is_accepted y r l)) h) x.received z.received);
    passed_on = λ h. omega (arith, x.passed_on h, z.passed_on h, weigh-append (only (λ l. not (is_own r l)) h) x.given z.given, total_both r h x.sent z.sent);
    on_its_ring = λ k. every_append (λ l. owner r l ≡ k) (x.sent k) (z.sent k) (x.on_its_ring k) (z.on_its_ring k);
    notes = λ h. omega (arith, x.notes h, z.notes h, weigh-append h x.noted z.noted, total_both r (λ l. h l.event.time) x.sent z.sent);
    executed = omega (arith, x.executed, z.executed, executions_append x.deeds z.deeds);
    named = named_on x z;
  }
    where
      some_at : {A : Type 0} (xs : List A) (q : ℕ) → q < length xs → (x : A) × (slice_get xs q ≡ Some x)
      some_at [] q h = absurd (omega arith)
      some_at (x ∷ xs) zero h = (x, refl)
      some_at (x ∷ xs) (suc q) h = some_at xs q (omega arith)

      within : {A : Type 0} (xs : List A) (q : ℕ) (x : A) → slice_get xs q ≡ Some x → q < length xs
      within [] q x h = cc
      within (u ∷ xs) zero x h = omega arith
      within (u ∷ xs) (suc q) x h = let k = within xs q x h in omega arith

      named_on : (x : Works y r a b u v n) (z : Works y r b c v w m) (place : ℕ) (l e : LogicalProcess M S B) → slice_get a.processes place ≡ Some l → slice_get c.processes place ≡ Some e → (e.model ≡ l.model) × (e.number ≡ l.number)
      named_on x z place l e at there =
          let k : place < length a.processes = within a.processes place l at in
          let mid = some_at b.processes place (omega (arith, x.as_many)) in
          let one = x.named place l mid.0 at mid.1 in
          let two = z.named place mid.0 e mid.1 there in
          (two.0 ∙ one.0, two.1 ∙ one.1)

  pub works_then : (a b c : WorkerState M S B) (u v w : List (Letter B)) (n m : ℕ) → Works y r a b u v n → Works y b.role b c v w m → Works y r a c u w (n + m)
  works_then a b c u v w n m x z = works_join a b c u v w n m x (subst (λ k. Works y k b c v w m) x.after z)

  pub works_beside : (a b : WorkerState M S B) (more u v : List (Letter B)) (n : ℕ) → Works y r a b u v n → Works y r a b (u ++ more) (v ++ more) n
  works_beside a b more u v n x = record {
    before = x.before;
    after = x.after;
    inbox = x.inbox;
    as_many = x.as_many;
    same_port = x.same_port;
    same_board = x.same_board;
    deeds = x.deeds;
    given = x.given;
    sent = x.sent;
    received = x.received;
    noted = x.noted;
    goes = x.goes;
    sent_more = x.sent_more;
    received_more = x.received_more;
    noted_more = x.noted_more;
    arrived = λ h. omega (arith, x.arrived h, weigh-append (only (is_own r) h) u more, weigh-append (only (is_own r) h) v more);
    set_aside = x.set_aside;
    passed_on = λ h. omega (arith, x.passed_on h, weigh-append (only (λ l. not (is_own r l)) h) u more, weigh-append (only (λ l. not (is_own r l)) h) v more);
    on_its_ring = x.on_its_ring;
    notes = x.notes;
    executed = x.executed;
    named = x.named;
  }

  -- kept letters, which are all to others, were at hand
  pub works_offered : (a b : WorkerState M S B) → Every (λ l. owner r l ≡ r.number → ⊥) a.kept → Works y r (record a { kept = [] }) b a.kept [] 0 → Works y r a b [] [] 0
  works_offered a b others x = record {
    before = x.before;
    after = x.after;
    inbox = x.inbox;
    as_many = x.as_many;
    same_port = x.same_port;
    same_board = x.same_board;
    deeds = x.deeds;
    given = x.given;
    sent = x.sent;
    received = x.received;
    noted = x.noted;
    goes = x.goes;
    sent_more = x.sent_more;
    received_more = x.received_more;
    noted_more = x.noted_more;
    arrived = λ h. (let o = all_others r h a.kept others in omega (arith, x.arrived h, o.0));
    set_aside = x.set_aside;
    passed_on = λ h. (let o = all_others r h a.kept others in omega (arith, x.passed_on h, o.1));
    on_its_ring = x.on_its_ring;
    notes = x.notes;
    executed = x.executed;
    named = x.named;
  }

  -- the seat read the board
  pub works_read : (a b : WorkerState M S B) → a.role ≡ r → b.role ≡ r → b.inbox ≡ a.inbox → b.processes ≡ a.processes → b.kept ≡ a.kept → b.aside ≡ a.aside → b.port ≡ a.port → b.seat.board ≡ a.seat.board → b.seat.noted ≡ a.seat.noted → Works y r a b [] [] 0
  works_read a b before after inbox processes kept aside port board noted = record {
    before = before;
    after = after;
    inbox = inbox;
    as_many = ap length processes;
    same_port = subst (SamePort a.port) (sym port) (same_itself a.port);
    same_board = board;
    deeds = [];
    given = [];
    sent = λ k. [];
    received = λ k. [];
    noted = [];
    goes = (ap (process_at r) processes, refl);
    sent_more = λ k. ap (λ p. sent_to p k) port ∙ sym (append-nil (sent_to a.port k));
    received_more = λ k. ap (λ p. received_from p k) port ∙ sym (append-nil (received_from a.port k));
    noted_more = noted ∙ sym (append-nil a.seat.noted);
    arrived = λ h. omega (arith, none_at r);
    set_aside = λ h. omega (arith, none_at r, ap (weigh h) aside);
    passed_on = λ h. omega (arith, none_at r, ap (weigh h) kept);
    on_its_ring = λ k. tt;
    notes = λ h. sym (none_at r);
    executed = refl;
    named = named_itself a.processes b.processes processes;
  }

  -- other letters stay at hand
  pub works_more : (a b : WorkerState M S B) (more u v : List (Letter B)) (n : ℕ) → Works y r a b u v n → Works y r a b (more ++ u) (more ++ v) n
  works_more a b more u v n x = record {
    before = x.before;
    after = x.after;
    inbox = x.inbox;
    as_many = x.as_many;
    same_port = x.same_port;
    same_board = x.same_board;
    deeds = x.deeds;
    given = x.given;
    sent = x.sent;
    received = x.received;
    noted = x.noted;
    goes = x.goes;
    sent_more = x.sent_more;
    received_more = x.received_more;
    noted_more = x.noted_more;
    arrived = λ h. omega (arith, x.arrived h, weigh-append (only (is_own r) h) more u, weigh-append (only (is_own r) h) more v);
    set_aside = x.set_aside;
    passed_on = λ h. omega (arith, x.passed_on h, weigh-append (only (λ l. not (is_own r l)) h) more u, weigh-append (only (λ l. not (is_own r l)) h) more v);
    on_its_ring = x.on_its_ring;
    notes = x.notes;
    executed = x.executed;
    named = x.named;
  }

  module _ (a b : WorkerState M S B) (before : a.role ≡ r) (after : b.role ≡ r) (inbox : b.inbox ≡ a.inbox) where
    module _ (l : Letter B) (other : is_own r l ≡ false) (processes : b.processes ≡ a.processes) (aside : b.aside ≡ a.aside) where
      -- the letter was pushed, and its time was noted
      pub works_sent : (within : owner r l < r.plan.workers) (wide : length a.port.sent ≡ r.plan.workers) → b.kept ≡ a.kept → b.port ≡ after_sending a.port (owner r l) l (free_to b.port (owner r l)) → SamePort a.port b.port → b.seat ≡ after_note a.seat l.event.time → Works y r a b (l ∷ []) [] 0
      works_sent within wide kept port same_port seat = record {
        before = before;
        after = after;
        inbox = inbox;
        as_many = ap length processes;
        same_port = same_port;
        same_board = ap (λ s. s.board) seat;
        deeds = [];
        given = [];
        sent = at_only (owner r l) (l ∷ []);
        received = λ k. [];
        noted = l.event.time ∷ [];
        goes = (ap (process_at r) processes, refl);
        sent_more = λ k. ap (λ p. sent_to p k) port ∙ sent_at a.port (owner r l) k l (free_to b.port (owner r l)) (omega arith);
        received_more = λ k. ap (λ p. received_from p k) port ∙ sym (append-nil (received_from a.port k));
        noted_more = ap (λ s. s.noted) seat;
        arrived = λ h. (let o = only_other r h l other in omega (arith, none_at r, o.0));
        set_aside = λ h. omega (arith, none_at r, ap (weigh h) aside);
        passed_on = λ h. (let o = only_other r h l other in omega (arith, o.1, weigh_at r.plan.workers (owner r l) h (l ∷ []) within, ap (weigh h) kept));
        on_its_ring = λ k. ⊎_elim (here k) (elsewhere k) (cases_eq k (owner r l));
        notes = λ h. sym (weigh_at r.plan.workers (owner r l) (λ m. h m.event.time) (l ∷ []) within);
        executed = refl;
        named = named_itself a.processes b.processes processes;
      }
        where
          here : (k : ℕ) → k ≡ owner r l → Every (λ m. owner r m ≡ k) (at_only (owner r l) (l ∷ []) k)
          here k e = subst (λ i. Every (λ m. owner r m ≡ i) (at_only (owner r l) (l ∷ []) i)) (sym e) (subst (λ ls. Every (λ m. owner r m ≡ owner r l) ls) (sym (at_here (owner r l) (l ∷ []))) (refl, tt))

          elsewhere : (k : ℕ) → (k ≡ owner r l → ⊥) → Every (λ m. owner r m ≡ k) (at_only (owner r l) (l ∷ []) k)
          elsewhere k n = subst (λ ls. Every (λ m. owner r m ≡ k) ls) (sym (at_other (owner r l) k (l ∷ []) n)) tt

      -- the letter is kept
      pub works_kept : b.kept ≡ a.kept ++ l ∷ [] → b.port ≡ a.port → b.seat ≡ a.seat → Works y r a b (l ∷ []) [] 0
      works_kept kept port seat = record {
        before = before;
        after = after;
        inbox = inbox;
        as_many = ap length processes;
        same_port = subst (SamePort a.port) (sym port) (same_itself a.port);
        same_board = ap (λ s. s.board) seat;
        deeds = [];
        given = [];
        sent = λ k. [];
        received = λ k. [];
        noted = [];
        goes = (ap (process_at r) processes, refl);
        sent_more = λ k. ap (λ p. sent_to p k) port ∙ sym (append-nil (sent_to a.port k));
        received_more = λ k. ap (λ p. received_from p k) port ∙ sym (append-nil (received_from a.port k));
        noted_more = ap (λ s. s.noted) seat ∙ sym (append-nil a.seat.noted);
        arrived = λ h. (let o = only_other r h l other in omega (arith, none_at r, o.0));
        set_aside = λ h. omega (arith, none_at r, ap (weigh h) aside);
        passed_on = λ h. (let o = only_other r h l other in omega (arith, none_at r, o.1, ap (weigh h) kept, weigh-append h a.kept (l ∷ [])));
        on_its_ring = λ k. tt;
        notes = λ h. sym (none_at r);
        executed = refl;
        named = named_itself a.processes b.processes processes;
      }

    module _ (l : Letter B) (from : ℕ) (within : from < r.plan.workers) (wide : length a.port.received ≡ r.plan.workers) (processes : b.processes ≡ a.processes) (kept : b.kept ≡ a.kept) (port : b.port ≡ after_receiving a.port from l) (same : SamePort a.port b.port) (seat : b.seat ≡ a.seat) where
      -- a letter was received that passes
      pub works_received : is_accepted y r l ≡ true → is_own r l ≡ true → b.aside ≡ a.aside → Works y r a b [] (l ∷ []) 0
      works_received pass own aside = record {
        before = before;
        after = after;
        inbox = inbox;
        as_many = ap length processes;
        same_port = same;
        same_board = ap (λ s. s.board) seat;
        deeds = [];
        given = [];
        sent = λ k. [];
        received = at_only from (l ∷ []);
        noted = [];
        goes = (ap (process_at r) processes, refl);
        sent_more = λ k. ap (λ p. sent_to p k) port ∙ sym (append-nil (sent_to a.port k));
        received_more = λ k. ap (λ p. received_from p k) port ∙ received_at a.port from k l (omega arith);
        noted_more = ap (λ s. s.noted) seat ∙ sym (append-nil a.seat.noted);
        arrived = λ h. (let o = only_own r h l own in let t : only (is_accepted y r) h l ≡ h l = ap (λ b. cond b (h l) 0) pass in omega (arith, o.0, weigh_at r.plan.workers from (only (is_accepted y r) h) (l ∷ []) within));
        set_aside = λ h. (let t : only (λ m. not (is_accepted y r m)) h l ≡ 0 = ap (λ b. cond (not b) (h l) 0) pass in omega (arith, ap (weigh h) aside, weigh_at r.plan.workers from (only (λ m. not (is_accepted y r m)) h) (l ∷ []) within));
        passed_on = λ h. (let o = only_own r h l own in omega (arith, none_at r, o.1, ap (weigh h) kept));
        on_its_ring = λ k. tt;
        notes = λ h. sym (none_at r);
        executed = refl;
        named = named_itself a.processes b.processes processes;
      }

      -- a letter was received that does not
      pub works_set_aside : is_accepted y r l ≡ false → b.aside ≡ a.aside ++ l ∷ [] → Works y r a b [] [] 0
      works_set_aside fails aside = record {
        before = before;
        after = after;
        inbox = inbox;
        as_many = ap length processes;
        same_port = same;
        same_board = ap (λ s. s.board) seat;
        deeds = [];
        given = [];
        sent = λ k. [];
        received = at_only from (l ∷ []);
        noted = [];
        goes = (ap (process_at r) processes, refl);
        sent_more = λ k. ap (λ p. sent_to p k) port ∙ sym (append-nil (sent_to a.port k));
        received_more = λ k. ap (λ p. received_from p k) port ∙ received_at a.port from k l (omega arith);
        noted_more = ap (λ s. s.noted) seat ∙ sym (append-nil a.seat.noted);
        arrived = λ h. (let t : only (is_accepted y r) h l ≡ 0 = ap (λ b. cond b (h l) 0) fails in omega (arith, weigh_at r.plan.workers from (only (is_accepted y r) h) (l ∷ []) within));
        set_aside = λ h. (let t : only (λ m. not (is_accepted y r m)) h l ≡ h l = ap (λ b. cond (not b) (h l) 0) fails in omega (arith, ap (weigh h) aside, weigh-append h a.aside (l ∷ []), weigh_at r.plan.workers from (only (λ m. not (is_accepted y r m)) h) (l ∷ []) within));
        passed_on = λ h. omega (arith, none_at r, ap (weigh h) kept);
        on_its_ring = λ k. tt;
        notes = λ h. sym (none_at r);
        executed = refl;
        named = named_itself a.processes b.processes processes;
      }

    -- a deed was done: what arrived was at hand, and what it gave out is at hand
    pub works_deed : (d : Deed B) (out rest : List (Letter B)) → length b.processes ≡ length a.processes → Did y r.collected (way_of r.plan.lazy) d (process_at r a.processes) (process_at r b.processes) out → Every (λ l. is_own r l ≡ true) (arrivals (d ∷ [])) → b.kept ≡ a.kept → b.aside ≡ a.aside → b.port ≡ a.port → b.seat ≡ a.seat →
        ((place : ℕ) (l z : LogicalProcess M S B) → slice_get a.processes place ≡ Some l → slice_get b.processes place ≡ Some z → (z.model ≡ l.model) × (z.number ≡ l.number)) →
        Works y r a b (rest ++ arrivals (d ∷ [])) (rest ++ out) (executions (d ∷ []))
    works_deed d out rest many did own kept aside port seat named = record {
      before = before;
      after = after;
      inbox = inbox;
      as_many = many;
      same_port = subst (SamePort a.port) (sym port) (same_itself a.port);
      same_board = ap (λ s. s.board) seat;
      deeds = d ∷ [];
      given = out;
      sent = λ k. [];
      received = λ k. [];
      noted = [];
      goes = (process_at r b.processes, out, [], did, (refl, refl), sym (append-nil out));
      sent_more = λ k. ap (λ p. sent_to p k) port ∙ sym (append-nil (sent_to a.port k));
      received_more = λ k. ap (λ p. received_from p k) port ∙ sym (append-nil (received_from a.port k));
      noted_more = ap (λ s. s.noted) seat ∙ sym (append-nil a.seat.noted);
      arrived = λ h. (let o = all_own r h (arrivals (d ∷ [])) own in omega (arith, none_at r, o.0, weigh-append (only (is_own r) h) rest (arrivals (d ∷ [])), weigh-append (only (is_own r) h) rest out));
      set_aside = λ h. omega (arith, none_at r, ap (weigh h) aside);
      passed_on = λ h. (let o = all_own r h (arrivals (d ∷ [])) own in omega (arith, none_at r, o.1, ap (weigh h) kept, weigh-append (only (λ l. not (is_own r l)) h) rest (arrivals (d ∷ [])), weigh-append (only (λ l. not (is_own r l)) h) rest out));
      on_its_ring = λ k. tt;
      notes = λ h. sym (none_at r);
      executed = refl;
      named = named;
    }
