-- The floor is the greatest time, up to the end, before which nothing is outstanding.
use Rattle.std.proofs.Common.{ℕ, zero, suc, ◌+◌, ◌^◌, ◌<◌, ◌≤◌, List, [], ◌∷◌, arith}
use Rattle.std.specs.Prelude.{◌↔◌}
use Rattle.rw_vt.specs.declared.event.Event.{Event}
use Rattle.rw_vt.specs.declared.event.Letter.{Letter}
use Rattle.rw_vt.specs.Order.{Each}
use Rattle.rw_vt.specs.Letters.{messages, antis}
use Rattle.rw_vt.specs.System.{System}
use Rattle.rw_vt.proofs.Sorting.{Has-head, copies-append}
use Rattle.rw_vt.proofs.Bags.{one_if-itself}
use Rattle.rw_vt.proofs.Letters.{count-letter}
use Rattle.rw_vt.proofs.Runs.{IsLawful}
use Rattle.rw_lp.specs.HeldMessages.{held_messages}
use Rattle.rw_lp.specs.Process.{ProcessState}
use Rattle.rw_lp.specs.Calls.{least_of_processes}
use Rattle.rw_bag.specs.Bags.{least_time}
use Rattle.rw_world.specs.WorldState.{WorldState, least_of_letters, floor}
use Rattle.rw_world.specs.Sound.{IsQuiet, pending_of, debts_of, held_in}
use Rattle.rw_world.proofs.Outstanding.{quiet_to_floor}
use Rattle.rw_lp.proofs.Cited.{processes_below}

letters_below : {B : Type 0} (m : ℕ) (ls : List (Letter B)) → least_of_letters m ls ≤ m
letters_below m [] = omega arith
letters_below m (l ∷ ls) = omega (arith, letters_below m ls)

module _ {S B : Type 0} (y : System S B) {WellFormed : ℕ → S → Type 0} (law : IsLawful y WellFormed) (t : ℕ) where
  least_from : (m : ℕ) (es : List (Event B)) → t ≤ m → Each y.rules.order (λ e. t ≤ e.time) es → t ≤ least_time m es
  least_from m [] h k = h
  least_from m (e ∷ es) h k =
      let here : t ≤ e.time = k e (Has-head law.rules.exact e es) in
      let rest : t ≤ least_time m es = least_from m es h (λ a there. k a (omega arith)) in
      omega arith

  processes_from : (m : ℕ) (ps : List (ProcessState S B)) → t ≤ m → ((q : ℕ) → Each y.rules.order (λ e. t ≤ e.time) (pending_of ps q)) → ((q : ℕ) → Each y.rules.order (λ e. t ≤ e.time) (debts_of ps q)) → Each y.rules.order (λ e. t ≤ e.time) (held_in ps) → t ≤ least_of_processes m ps
  processes_from m [] h pending debts held = h
  processes_from m (x ∷ ps) h pending debts held =
      let both = λ (a : Event B). copies-append law.rules.exact a (held_messages x.held) (held_in ps) in
      let rest : t ≤ least_of_processes m ps = processes_from m ps h (λ q. pending (suc q)) (λ q. debts (suc q)) (λ a there. held a (omega (arith, both a))) in
      let with_held : t ≤ least_time (least_of_processes m ps) (held_messages x.held) = least_from (least_of_processes m ps) (held_messages x.held) rest (λ a there. held a (omega (arith, both a))) in
      least_from (least_time (least_time (least_of_processes m ps) (held_messages x.held)) x.debts) x.pending (least_from (least_time (least_of_processes m ps) (held_messages x.held)) x.debts with_held (debts zero)) (pending zero)

  letters_from : (m : ℕ) (ls : List (Letter B)) → t ≤ m → ((e : Event B) → 0 < messages y.rules.order e ls + antis y.rules.order e ls → t ≤ e.time) → t ≤ least_of_letters m ls
  letters_from m [] h k = h
  letters_from m (l ∷ ls) h k =
      let here : t ≤ l.event.time = k l.event (omega (arith, count-letter y.rules.order l.event l ls, one_if-itself law.rules.exact l.event)) in
      let rest : t ≤ least_of_letters m ls = letters_from m ls h (λ a there. k a (omega (arith, count-letter y.rules.order a l ls))) in
      omega arith

  pub quiet_is : (w : WorldState S B) → (t ≤ floor w) ↔ ((t ≤ 2 ^ 40) × IsQuiet y t w)
  quiet_is w = (
    λ h. (omega (arith, letters_below (least_of_processes (2 ^ 40) w.processes) w.letters, processes_below (2 ^ 40) w.processes), quiet_to_floor y law t w h),
    λ h. letters_from (least_of_processes (2 ^ 40) w.processes) w.letters (processes_from (2 ^ 40) w.processes h.0 h.1.pending h.1.debts h.1.held) h.1.letters,
  )
