use Rattle.std.proofs.Common.{arith, sym, ap, ◌≡◌, ◌∙◌, ℕ, refl}
use Rattle.std.specs.Prelude.{Some}
use Rattle.rw_blocks.specs.declared.Place.{Place}
use Rattle.rw_blocks.specs.State.{QueueState, row_at, section_at}
use Rattle.rw_blocks.specs.Primitives.{with_row, after_rehome}
use Rattle.rw_blocks.specs.Sums.{total}
use Rattle.rw_blocks.specs.Loose.{IsSized}
use Rattle.rw_blocks.proofs.Laws.{Undoes-after_rehome}
use Rattle.rw_blocks.proofs.Kept.{IsLoose-after_rehome, of_row}
use Rattle.rw_blocks.proofs.Moving.{moved, gone-row, room-again}
use Rattle.rw_blocks.proofs.Errors.{if_error, on_error}
use Rattle.rw_blocks.proofs.queue.Queue.rehome.Goals as goal

pub put_row-requires-clause-new : goal.put_row-requires-clause-new
put_row-requires-clause-new c = ap (λ (q : QueueState). row_at q c.args.object) c.take_row-size.ensures.rest ∙ gone-row c.args.self.now c.args.object c.requires.loose

pub put_row-requires-clause-sized : goal.put_row-requires-clause-sized
put_row-requires-clause-sized c =
    (of_row c.args.self.now c.args.object c.take_row-size.result (IsSized c.args.self.now) c.requires.loose.sizes c.take_row-size.ensures.row).0

pub put_row-requires-clause-room : goal.put_row-requires-clause-room
put_row-requires-clause-room c =
    let r : Place = c.take_row-size.result in
    let room = room-again c.args.self.now c.args.object r c.requires.loose c.take_row-size.ensures.row in
    omega (arith, room, ap (λ (q : QueueState). total q) c.take_row-size.ensures.rest)

pub returns-clause-effect : goal.returns-clause-effect
returns-clause-effect c =
    let q : QueueState = c.args.self.now in
    let o : ℕ = c.args.object in
    let r : Place = c.take_row-size.result in
    let d : ℕ = (section_at q c.args.section).active_device in
    let active : c.active-active.result ≡ d = c.active-active.ensures.active ∙ ap (λ (z : QueueState). (section_at z c.args.section).active_device) c.self.view_is in
    let at : ℕ → Place = λ d. record { size = r.size; home = d; place = d } in
    let is : after_rehome q o c.args.section ≡ with_row q o (at d) = rw c.take_row-size.ensures.row refl in
    c.in_ok-put_row.ensures.put
    ∙ (ap (λ (z : QueueState). with_row z o (at c.active-active.result)) c.take_row-size.ensures.rest
    ∙ (moved q o r (at c.active-active.result) c.requires.loose c.take_row-size.ensures.row
    ∙ (ap (λ (e : ℕ). with_row q o (at e)) active ∙ sym is)))

pub returns-clause-undoes : goal.returns-clause-undoes
returns-clause-undoes c =
    let is : row_at c.args.self.now c.args.object ≡ Some c.take_row-size.result = c.take_row-size.ensures.row in
    rw (returns-clause-effect c)
    (Undoes-after_rehome _ _ _ c.take_row-size.result c.requires.loose is
    (IsLoose-after_rehome _ _ _ c.take_row-size.result c.requires.loose c.requires.there is (rw is at c.requires.fits)))

pub returns-clause-kept : goal.returns-clause-kept
returns-clause-kept c =
    let is : row_at c.args.self.now c.args.object ≡ Some c.take_row-size.result = c.take_row-size.ensures.row in
    rw (returns-clause-effect c) (IsLoose-after_rehome _ _ _ c.take_row-size.result c.requires.loose c.requires.there is (rw is at c.requires.fits))

pub returns-in_err-put_row-clause-effect : goal.returns-in_err-put_row-clause-effect
returns-in_err-put_row-clause-effect c = on_error _ _ c.from_residual.result c.from_residual.ensures.1

pub returns-in_err-put_row-clause-undoes : goal.returns-in_err-put_row-clause-undoes
returns-in_err-put_row-clause-undoes c = if_error _ _ c.from_residual.result c.from_residual.ensures.1

pub returns-in_err-put_row-clause-kept : goal.returns-in_err-put_row-clause-kept
returns-in_err-put_row-clause-kept c = on_error _ _ c.from_residual.result c.from_residual.ensures.1
