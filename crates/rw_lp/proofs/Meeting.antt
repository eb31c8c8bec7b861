-- The turn that a delivery takes, by what it found.
use Rattle.std.proofs.Common.{◌≡◌, Bool, true, false, cond, List, [], refl, sym, ap, ◌∙◌, subst}
use Rattle.std.specs.declared.cmp.Ordering.{Ordering}
use Rattle.rw_vt.specs.declared.event.Event.{Event}
use Rattle.rw_vt.specs.declared.event.Letter.{Letter}
use Rattle.rw_vt.specs.Letters.{letters_of}
use Rattle.rw_vt.specs.Order.{insert_in_order, has, without}
use Rattle.rw_lp.specs.declared.held.Held.{Held}
use Rattle.rw_lp.specs.declared.answer.StepFault.TheVariants.{StillDone}
use Rattle.rw_lp.specs.declared.answer.Answer.TheVariants.{Done, Refused}
use Rattle.rw_lp.specs.HeldMessages.{held_with, held_without}
use Rattle.rw_lp.specs.HeldBack.{antis_unless, held_unless}
use Rattle.rw_lp.specs.Process.{ProcessState, Turn, Turned, Stays, annihilate, deliver_anti, deliver_message, deliver}
use Rattle.rw_lp.specs.Calls.{Took}
use Rattle.rw_lp.proofs.WithBags.{with_bags}

module _ {S B : Type 0} (cmp : Event B → Event B → Ordering) (x : ProcessState S B) (l : Letter B) where
  -- what an anti finds
  abbrev anti_turn : Bool → Bool → Turn S B
  anti_turn b c = cond b (annihilate cmp l.event x) (cond c (Stays StillDone) (Turned (with_bags x x.pending (insert_in_order cmp l.event x.debts) x.held) []))

  is_anti : (b c : Bool) → l.anti ≡ true → has cmp l.event x.pending ≡ b → has cmp l.event x.processed ≡ c → deliver cmp l x ≡ anti_turn b c
  is_anti b c kind p q = ap (λ k. cond k (deliver_anti cmp l.event x) (deliver_message cmp l.event x)) kind ∙ ap (λ k. anti_turn k (has cmp l.event x.processed)) p ∙ ap (anti_turn b) q

  -- what a message finds
  abbrev message_turn : Bool → Turn S B
  message_turn b = cond b (Turned (with_bags x x.pending (without cmp l.event x.debts) x.held) []) (Turned (with_bags x (insert_in_order cmp l.event x.pending) x.debts x.held) [])

  is_message : (b : Bool) → l.anti ≡ false → has cmp l.event x.debts ≡ b → deliver cmp l x ≡ message_turn b
  is_message b kind p = ap (λ k. cond k (deliver_anti cmp l.event x) (deliver_message cmp l.event x)) kind ∙ ap message_turn p

  pub meets : (pending : List (Event B)) (held : List (Held B)) → l.anti ≡ true → has cmp l.event x.pending ≡ true → pending ≡ without cmp l.event x.pending → held ≡ held_unless (has cmp l.event pending) cmp l.event x.held
      → Took x (with_bags x pending x.debts held) Done (antis_unless (has cmp l.event pending) cmp l.event x.held) (deliver cmp l x)
  meets pending held kind there is left =
      subst (λ ps. Took x (with_bags x ps x.debts held) Done (antis_unless (has cmp l.event ps) cmp l.event x.held) (deliver cmp l x)) (sym is)
      (subst (Took x (with_bags x rest x.debts held) Done (antis_unless (has cmp l.event rest) cmp l.event x.held)) (sym (is_anti true (has cmp l.event x.processed) kind there refl))
      (go (has cmp l.event rest) (left ∙ ap (λ ps. held_unless (has cmp l.event ps) cmp l.event x.held) is)))
    where
      rest : List (Event B)
      rest = without cmp l.event x.pending

      go : (b : Bool) → held ≡ held_unless b cmp l.event x.held → Took x (with_bags x rest x.debts held) Done (antis_unless b cmp l.event x.held) (cond b (Turned (with_bags x rest x.debts x.held) []) (Turned (with_bags x rest x.debts (held_without cmp l.event x.held)) (letters_of true (held_with cmp l.event x.held))))
      go true h = (ap (with_bags x rest x.debts) h, refl, refl)
      go false h = (ap (with_bags x rest x.debts) h, refl, refl)

  pub refuses : (pending : List (Event B)) → l.anti ≡ true → has cmp l.event x.pending ≡ false → has cmp l.event x.processed ≡ true → pending ≡ x.pending → Took x (with_bags x pending x.debts x.held) (Refused StillDone) [] (deliver cmp l x)
  refuses pending kind none there same = subst (Took x (with_bags x pending x.debts x.held) (Refused StillDone) []) (sym (is_anti false true kind none there)) (ap (λ ps. with_bags x ps x.debts x.held) same, refl, refl)

  pub owes : (pending debts : List (Event B)) → l.anti ≡ true → has cmp l.event x.pending ≡ false → has cmp l.event x.processed ≡ false → pending ≡ x.pending → debts ≡ insert_in_order cmp l.event x.debts → Took x (with_bags x pending debts x.held) Done [] (deliver cmp l x)
  owes pending debts kind none free same is = subst (Took x (with_bags x pending debts x.held) Done []) (sym (is_anti false false kind none free)) (ap (λ ps. with_bags x ps debts x.held) same ∙ ap (λ ds. with_bags x x.pending ds x.held) is, refl, refl)

  pub met : (debts : List (Event B)) → l.anti ≡ false → has cmp l.event x.debts ≡ true → debts ≡ without cmp l.event x.debts → Took x (with_bags x x.pending debts x.held) Done [] (deliver cmp l x)
  met debts kind there is = subst (Took x (with_bags x x.pending debts x.held) Done []) (sym (is_message true kind there)) (ap (λ ds. with_bags x x.pending ds x.held) is, refl, refl)

  pub put : (pending debts : List (Event B)) → l.anti ≡ false → has cmp l.event x.debts ≡ false → debts ≡ x.debts → pending ≡ insert_in_order cmp l.event x.pending → Took x (with_bags x pending debts x.held) Done [] (deliver cmp l x)
  put pending debts kind none same is = subst (Took x (with_bags x pending debts x.held) Done []) (sym (is_message false kind none)) (ap (λ ds. with_bags x pending ds x.held) same ∙ ap (λ ps. with_bags x ps x.debts x.held) is, refl, refl)
