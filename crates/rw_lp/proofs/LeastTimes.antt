-- The least time at several processes, found by a loop.
use Rattle.std.proofs.Common.{◌≡◌, ℕ, ◌≤◌, min, List, [], ◌∷◌, refl, sym, ap, ◌∙◌, arith}
use Rattle.rw_vt.specs.declared.event.Event.{Event}
use Rattle.rw_bag.specs.Bags.{least_time}
use Rattle.rw_lp.specs.HeldMessages.{held_messages}
use Rattle.rw_lp.specs.Process.{ProcessState}
use Rattle.rw_lp.specs.Calls.{least_of_processes}

least_min : {B : Type 0} (a b : ℕ) (es : List (Event B)) → least_time (min a b) es ≡ min a (least_time b es)
least_min a b [] = refl
least_min a b (e ∷ es) = omega (arith, least_min a b es)

processes_min : {S B : Type 0} (a b : ℕ) (ps : List (ProcessState S B)) → least_of_processes (min a b) ps ≡ min a (least_of_processes b ps)
processes_min a b [] = refl
processes_min a b (x ∷ ps) =
    ap (λ n. least_time (least_time (least_time n (held_messages x.held)) x.debts) x.pending) (processes_min a b ps)
    ∙ ap (λ n. least_time (least_time n x.debts) x.pending) (least_min a (least_of_processes b ps) (held_messages x.held))
    ∙ ap (λ n. least_time n x.pending) (least_min a (least_time (least_of_processes b ps) (held_messages x.held)) x.debts)
    ∙ least_min a (least_time (least_time (least_of_processes b ps) (held_messages x.held)) x.debts) x.pending

pub processes_below : {S B : Type 0} (a : ℕ) (ps : List (ProcessState S B)) → least_of_processes a ps ≤ a
processes_below a ps = let e : a ≡ min a a = omega arith in let h = ap (λ n. least_of_processes n ps) e ∙ processes_min a a ps in omega arith

-- the least of one process more
pub processes_more : {S B : Type 0} (end now : ℕ) (x : ProcessState S B) (ps : List (ProcessState S B)) → now ≤ end → least_of_processes (min now (least_time (least_time (least_time end (held_messages x.held)) x.debts) x.pending)) ps ≡ least_of_processes now (x ∷ ps)
processes_more end now x ps h =
    let mine = least_time (least_time (least_time end (held_messages x.held)) x.debts) x.pending in
    let rest = least_of_processes now ps in
    let low : rest ≤ now = processes_below now ps in
    let same : min now mine ≡ min mine now = omega arith in
    let swapped : min mine rest ≡ min rest mine = omega arith in
    let inner : min rest end ≡ rest = omega arith in
    ap (λ n. least_of_processes n ps) same
    ∙ processes_min mine now ps
    ∙ swapped
    ∙ sym (least_min rest (least_time (least_time end (held_messages x.held)) x.debts) x.pending)
    ∙ ap (λ n. least_time n x.pending) (sym (least_min rest (least_time end (held_messages x.held)) x.debts))
    ∙ ap (λ n. least_time (least_time n x.debts) x.pending) (sym (least_min rest end (held_messages x.held)))
    ∙ ap (λ n. least_time (least_time (least_time n (held_messages x.held)) x.debts) x.pending) inner
