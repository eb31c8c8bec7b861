-- Letters on their way when one of them is taken out.
use Rattle.std.proofs.Common.{◌≡◌, ℕ, zero, suc, ◌+◌, ◌<◌, cond, List, [], ◌∷◌, ap, ◌∙◌, arith, Some}
use Rattle.std.specs.Prelude.{slice_get}
use Rattle.rw_vt.specs.declared.event.Event.{Event}
use Rattle.rw_vt.specs.declared.event.Letter.{Letter}
use Rattle.rw_vt.specs.Order.{one_if_same}
use Rattle.rw_vt.specs.Letters.{messages, antis}
use Rattle.rw_vt.specs.System.{System}
use Rattle.rw_vt.proofs.Bags.{one_if-itself}
use Rattle.rw_vt.proofs.Letters.{count-letter}
use Rattle.rw_vt.proofs.Runs.{IsLawful}
use Rattle.rw_lp.specs.Sound.{SoundLetters}
use Rattle.rw_world.specs.Steps.{remove_at}

module _ {S B : Type 0} (y : System S B) where
  pub messages-remove_at : (e : Event B) (ls : List (Letter B)) (i : ℕ) (l : Letter B) → slice_get ls i ≡ Some l → messages y.rules.order e ls ≡ cond l.anti 0 (one_if_same y.rules.order e l.event) + messages y.rules.order e (remove_at ls i)
  messages-remove_at e [] i l h = cc
  messages-remove_at e (m ∷ ls) zero l h = let q : m ≡ l = cc in ap (λ k. cond k.anti 0 (one_if_same y.rules.order e k.event) + messages y.rules.order e ls) q
  messages-remove_at e (m ∷ ls) (suc i) l h = omega (arith, messages-remove_at e ls i l h)

  pub antis-remove_at : (e : Event B) (ls : List (Letter B)) (i : ℕ) (l : Letter B) → slice_get ls i ≡ Some l → antis y.rules.order e ls ≡ cond l.anti (one_if_same y.rules.order e l.event) 0 + antis y.rules.order e (remove_at ls i)
  antis-remove_at e [] i l h = cc
  antis-remove_at e (m ∷ ls) zero l h = let q : m ≡ l = cc in ap (λ k. cond k.anti (one_if_same y.rules.order e k.event) 0 + antis y.rules.order e ls) q
  antis-remove_at e (m ∷ ls) (suc i) l h = omega (arith, antis-remove_at e ls i l h)

  pub letters_fewer : (g : ℕ) (ls : List (Letter B)) (i : ℕ) (l : Letter B) → slice_get ls i ≡ Some l → SoundLetters y.rules g ls → SoundLetters y.rules g (remove_at ls i)
  letters_fewer g ls i l h s = record {
    valid = λ e k. s.valid e (omega (arith, messages-remove_at e ls i l h, antis-remove_at e ls i l h));
    from = λ e k. s.from e (omega (arith, messages-remove_at e ls i l h, antis-remove_at e ls i l h));
  }

  module _ {WellFormed : ℕ → S → Type 0} (law : IsLawful y WellFormed) where
    -- the event of a letter that is there
    pub letter_counts : (ls : List (Letter B)) (i : ℕ) (l : Letter B) → slice_get ls i ≡ Some l → 0 < messages y.rules.order l.event ls + antis y.rules.order l.event ls
    letter_counts [] i l h = cc
    letter_counts (m ∷ ls) zero l h =
        let q : m ≡ l = cc in
        let one : one_if_same y.rules.order l.event m.event ≡ 1 = ap (λ k. one_if_same y.rules.order l.event k.event) q ∙ one_if-itself law.rules.exact l.event in
        omega (arith, count-letter y.rules.order l.event m ls)
    letter_counts (m ∷ ls) (suc i) l h = omega (arith, letter_counts ls i l h, count-letter y.rules.order l.event m ls)
