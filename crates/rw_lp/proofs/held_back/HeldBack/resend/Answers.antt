use Rattle.std.proofs.Common.{arith, [], refl, append-nil, append_assoc, length-drop, ap, sym, ◌∙◌, ◌++◌, ◌≡◌, ◌∷◌, false, true, drop, suc, ◌+◌, subst}
use Rattle.std.proofs.Math.Seq.{drop-cons}
use Rattle.std.specs.Global.{Vec}
use Rattle.rw_vt.specs.declared.event.Letter.{Letter}
use Rattle.rw_vt.specs.Letters.{letters_of}
use Rattle.rw_vt.specs.Order.{event_cmp}
use Rattle.rw_lp.specs.HeldMessages.{holds, unheld_sends, held_with, held_without}
use Rattle.std.proofs.lemmas.Result.{on_ok_weaker}
use Rattle.std.proofs.lemmas.List.{nil_from_length}
use Rattle.rw_lp.proofs.HeldRuns.{none_held, more_sent, more_released}
use Rattle.rw_lp.proofs.held_back.HeldBack.resend.Goals.{then-not-release+in_ok-push, else-not-release}
use Rattle.rw_lp.proofs.held_back.HeldBack.resend.Goals as goal

pub returns-then-is_empty-clause-out : goal.returns-then-is_empty-clause-out
returns-then-is_empty-clause-out g c = on_ok_weaker c.give.result (λ is. is ∙ ap (λ l. c.args.out.now.items ++ l) (none_held (event_cmp g.M.Body.Ord.cmp) c.args.event c.args.sends.now c.args.self.now (c.is_empty.ensures c.if-is_empty.true)).0) c.give.ensures.given

pub returns-then-is_empty-clause-left : goal.returns-then-is_empty-clause-left
returns-then-is_empty-clause-left g c = on_ok_weaker c.give.result (λ is. (none_held (event_cmp g.M.Body.Ord.cmp) c.args.event c.args.sends.now c.args.self.now (c.is_empty.ensures c.if-is_empty.true)).1) c.give.ensures.given

pub loop-send-preserved : goal.loop-send-preserved
loop-send-preserved g c =
    let cmp = event_cmp g.M.Body.Ord.cmp in
    let all = c.args.sends.now in
    let i = c.loop-send.send-index in
    let s = c.send-item.result in
    let first = drop-cons all i s (omega (arith, c.loop-send-test.true)) in
    let more : i + 1 ≡ suc i = omega arith in
    let next : drop i all ≡ s ∷ drop (i + 1) all = first ∙ ap (λ e. e ∷ drop (suc i) all) (sym c.send-item.is) ∙ ap (λ n. s ∷ drop n all) (sym more) in
    let left = (unheld_sends cmp all c.args.self.now).1 in
    let total = c.args.out.now.items ++ letters_of false (unheld_sends cmp all c.args.self.now).0 in
    elim c.if-not-release.branch [
      | then-not-release+in_ok-push w ↦
          let none : holds cmp s c.loop-send.self ≡ false = sym c.release.ensures.there ∙ w.if-not-release.true in
          subst (λ h. (c.if-not-release.out.items ++ letters_of false (unheld_sends cmp (drop (i + 1) all) h).0 ≡ total) × ((unheld_sends cmp (drop (i + 1) all) h).1 ≡ left)) (sym (c.release.ensures.kept w.if-not-release.true))
          (more_sent cmp all i s c.loop-send.self left c.loop-send.out.items c.if-not-release.out.items total next none (ap (λ (v : Vec (Letter g.row.M-Body.Denot)). v.items) w.out-is ∙ w.in_ok-push.ensures.items) c.loop-send.invariant)
      | else-not-release w ↦
          let there : holds cmp s c.loop-send.self ≡ true = sym c.release.ensures.there ∙ w.if-not-release.false in
          subst (λ (v : Vec (Letter g.row.M-Body.Denot)). (v.items ++ letters_of false (unheld_sends cmp (drop (i + 1) all) c.release.new.self).0 ≡ total) × ((unheld_sends cmp (drop (i + 1) all) c.release.new.self).1 ≡ left)) (sym w.out-is)
          (more_released cmp all i s c.loop-send.self c.release.new.self left c.loop-send.out.items total next there (c.release.ensures.rest w.if-not-release.false) c.loop-send.invariant)
    ]

pub loop-send-init : goal.loop-send-init
loop-send-init g c = (refl, refl)

pub returns-clause-out : goal.returns-clause-out
returns-clause-out g c =
    let cmp = event_cmp g.M.Body.Ord.cmp in
    let all = c.args.sends.now in
    let h = c.loop-send.self in
    let none : drop c.loop-send.send-index all ≡ [] = nil_from_length (drop c.loop-send.send-index all) (omega (arith, length-drop c.loop-send.send-index all, c.loop-send-test.false)) in
    let left : h ≡ (unheld_sends cmp all c.args.self.now).1 = ap (λ l. (unheld_sends cmp l h).1) (sym none) ∙ c.loop-send.invariant.1 in
    let first = letters_of false (unheld_sends cmp all c.args.self.now).0 in
    let given : c.loop-send.out.items ≡ c.args.out.now.items ++ first = sym (append-nil c.loop-send.out.items) ∙ ap (λ l. c.loop-send.out.items ++ letters_of false (unheld_sends cmp l h).0) (sym none) ∙ c.loop-send.invariant.0 in
    on_ok_weaker c.cancel.result
    (λ is. is ∙ ap (λ l. l ++ letters_of true (held_with cmp c.args.event h)) given ∙ ap (λ k. (c.args.out.now.items ++ first) ++ letters_of true (held_with cmp c.args.event k)) left
    ∙ append_assoc c.args.out.now.items first (letters_of true (held_with cmp c.args.event (unheld_sends cmp all c.args.self.now).1)))
    c.cancel.ensures.out

pub returns-clause-left : goal.returns-clause-left
returns-clause-left g c =
    let cmp = event_cmp g.M.Body.Ord.cmp in
    let all = c.args.sends.now in
    let h = c.loop-send.self in
    let none : drop c.loop-send.send-index all ≡ [] = nil_from_length (drop c.loop-send.send-index all) (omega (arith, length-drop c.loop-send.send-index all, c.loop-send-test.false)) in
    let left : h ≡ (unheld_sends cmp all c.args.self.now).1 = ap (λ l. (unheld_sends cmp l h).1) (sym none) ∙ c.loop-send.invariant.1 in
    on_ok_weaker c.cancel.result (λ is. is ∙ ap (held_without cmp c.args.event) left) c.cancel.ensures.left
