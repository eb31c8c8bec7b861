-- An arrival, with the undoings that it needs, keeps a process sound.
use Rattle.std.proofs.Common.{◌≡◌, ℕ, zero, suc, ◌≤◌, List, [], ◌∷◌, refl, sym, subst}
use Rattle.rw_vt.specs.declared.event.Letter.{Letter}
use Rattle.rw_vt.specs.System.{Rules}
use Rattle.rw_lp.specs.Process.{ProcessState, Turn, Turned, Stays, deliver}
use Rattle.rw_lp.specs.declared.way.Way.{Way}
use Rattle.rw_lp.specs.Arrival.{undo_by, with_out, and_undo, undo_times, ArrivedBy}
use Rattle.rw_lp.specs.Sound.{Stands, SoundAt, Kept, Keeps}
use Rattle.rw_lp.proofs.Cited.{kept_more, no_letters}
use Rattle.rw_rounds.proofs.Governing.{Governs}

module _ {S B : Type 0} (y : Rules S B) (g p : ℕ) where
  pub kept_none : (x : ProcessState S B) → SoundAt y g p x → Kept y g p x x [] []
  kept_none x sound = record { sound = sound; change = record { start = refl; kept = λ e. refl; sent = λ e. refl }; letters = no_letters y g }

  pub kept_of : (x z : ProcessState S B) (came out : List (Letter B)) (t : Turn S B) → t ≡ Turned z out → Keeps y g p x came t → Kept y g p x z came out
  kept_of x z came out t q k = subst (Keeps y g p x came) q k

  module _ {Started : ℕ → S → Type 0} {n : ℕ} (rule : Governs y Started g n) where
    then_keeps : (x z : ProcessState S B) (out : List (Letter B)) → Kept y g p x z [] out → (t : Turn S B) → Keeps y g p z [] t → Keeps y g p x [] (with_out out t)
    then_keeps x z out a (Stays fault) k = tt
    then_keeps x z out a (Turned u more) k = kept_more y g p x z u [] out [] more a k

    and_keeps : (way : Way) (x : ProcessState S B) → Started p x.start → (t : Turn S B) → Keeps y g p x [] t → Keeps y g p x [] (and_undo (undo_by way y p) t)
    and_keeps way x started (Stays fault) k = tt
    and_keeps way x started (Turned z out) k = then_keeps x z out k (undo_by way y p z) (rule.undoes way p z (subst (Started p) (sym k.change.start) started) k.sound)

    pub undoings_keep : (way : Way) (k : ℕ) (x : ProcessState S B) → Started p x.start → SoundAt y g p x → Keeps y g p x [] (undo_times (undo_by way y p) k x)
    undoings_keep way zero x started sound = kept_none x sound
    undoings_keep way (suc k) x started sound = and_keeps way x started (undo_times (undo_by way y p) k x) (undoings_keep way k x started sound)

    pub arrival_keeps : (way : Way) (x z : ProcessState S B) (l : Letter B) (given : List (Letter B)) → Started p x.start → SoundAt y g p x → Stands y p l.event → g ≤ l.event.time → ArrivedBy way y p l x z given → Kept y g p x z (l ∷ []) given
    arrival_keeps way x z l given started sound stands from a =
        let first : Kept y g p x a.between [] a.unsent = kept_of x a.between [] a.unsent (undo_times (undo_by way y p) a.count x) a.undone (undoings_keep way a.count x started sound) in
        let then_ : Kept y g p a.between z (l ∷ []) a.rest = kept_of a.between z (l ∷ []) a.rest (deliver y.order l a.between) a.delivered (rule.delivers p a.between l (subst (Started p) (sym first.change.start) started) first.sound stands from) in
        subst (Kept y g p x z (l ∷ [])) (sym a.all) (kept_more y g p x a.between z [] a.unsent (l ∷ []) a.rest first then_)
