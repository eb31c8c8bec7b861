use Rattle.std.proofs.Common.{refl, ◌≡◌, ◌<◌, ◌≤◌, List, [], ◌∷◌, ◌++◌, length, take, get_or, sym, ap, ◌∙◌, subst, arith}
use Rattle.std.proofs.lemmas.List.{append_assoc, append-nil, length-append, get_or_push, get_or_append_left, take-append-le}
use Rattle.std.proofs.Math.Seq.{take-append_seam}
use native.Mathlib.Decide.{ℕ_discrete}
use Rattle.rtrb.specs.Fifo.{EachAllowed}
use Rattle.rtrb.specs.Ring.{received, known_items}
use Rattle.rw_exchange.proofs.Crossing.{at_or_before}
use Rattle.rw_exchange.proofs.settling.drain.Goals as goal

-- one more item that is allowed behind the others
each_more : {T : Type 0} (allows : List T → T → Type 0) (before xs : List T) (x : T) → EachAllowed allows before xs → allows (before ++ xs) x → EachAllowed allows before (xs ++ x ∷ [])
each_more allows before xs x old new i d lt =
    at_or_before (λ i. allows (before ++ take i (xs ++ x ∷ [])) (get_or (xs ++ x ∷ []) i d)) (length xs) i (subst (λ z. i < z) (length-append xs (x ∷ [])) lt)
    (λ l.
    let le : i ≤ length xs = omega arith in
    let front : take i (xs ++ x ∷ []) ≡ take i xs = rw take-append-le refl in
    subst (λ z. allows (before ++ z) (get_or (xs ++ x ∷ []) i d)) (sym front) (subst (λ z. allows (before ++ take i xs) z) (sym (get_or_append_left xs (x ∷ []) d i l)) (old i d l)))
    (subst (λ z. allows (before ++ z) (get_or (xs ++ x ∷ []) (length xs) d)) (sym (take-append_seam xs (x ∷ []))) (subst (λ z. allows (before ++ xs) z) (sym (get_or_push xs x d (length xs) refl)) new))
    (ℕ_discrete i (length xs))

pub loop-init : goal.loop-init
loop-init g c =
    let none : c.in_ok-left.left.items ≡ [] = c.in_ok-left.ensures.items in
    let was = received c.slots_beside-count.new.self in
    record {
      same = ((refl, refl, refl, refl), refl);
      room = c.in_ok-left.ensures.exact;
      many = c.in_ok-left.ensures.len;
      known = omega (arith, c.slots_beside-count.ensures.value);
      taken = sym (ap (λ xs. was ++ xs) none ∙ append-nil was);
      allowed = λ i d lt. absurd (omega (arith, ap length none, lt));
      fifo = refl;
    }

pub loop-preserved : goal.loop-preserved
loop-preserved g c =
    let inv = c.loop.invariant in
    let ring = c.pop_known.ensures.ring in
    let x = c.pop_known.result in
    let was = received c.slots_beside-count.new.self in
    let now = received c.loop.consumer in
    let known = known_items c.pop_known.new.self in
    let left = c.loop.left.items in
    let more : c.push_reserved.new.self.items ≡ left ++ x ∷ [] = c.push_reserved.ensures.items in
    record {
      same = ((ring.0.0 ∙ inv.same.0.0, ring.0.1 ∙ inv.same.0.1, ring.0.2 ∙ inv.same.0.2, ring.0.3 ∙ inv.same.0.3), ring.1 ∙ inv.same.1);
      room = c.push_reserved.ensures.capacity ∙ inv.room;
      many = omega (arith, c.push_reserved.ensures.len, inv.many);
      known = omega (arith, ap length c.pop_known.ensures.received.1, inv.known);
      taken = c.pop_known.ensures.received.0 ∙ (ap (λ z. z ++ x ∷ []) inv.taken ∙ (append_assoc was left (x ∷ []) ∙ ap (λ z. was ++ z) (sym more)));
      allowed = subst (EachAllowed g.P.Protocol.allows was) (sym more) (each_more g.P.Protocol.allows was left x inv.allowed (subst (λ z. g.P.Protocol.allows z x) inv.taken c.pop_known.ensures.allowed));
      fifo = ap (λ z. z ++ known) c.pop_known.ensures.received.0 ∙ (append_assoc now (x ∷ []) known ∙ (ap (λ z. now ++ z) (sym c.pop_known.ensures.received.1) ∙ inv.fifo));
    }
