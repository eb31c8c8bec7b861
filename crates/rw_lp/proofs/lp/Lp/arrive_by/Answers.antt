use Rattle.std.proofs.Common.{◌≡◌, true, false, [], ◌++◌, refl, sym, ap, ◌∙◌, subst, append-nil, append_assoc}
use Rattle.std.proofs.lemmas.List.{append_cancel_left}
use Rattle.rw_vt.specs.Order.{event_cmp}
use Rattle.rw_vt.proofs.EventOrder.{events_exact}
use Rattle.rw_vt.proofs.Sorting.{IsExactOrder}
use Rattle.rw_vt.specs.System.{rules}
use Rattle.rw_lp.specs.Process.{Turned}
use Rattle.rw_lp.specs.Arrival.{undo_by, is_barred}
use Rattle.rw_lp.proofs.Arriving.{barred_refuses, open_accepts, barred_some, undo_taken, going_start, going_more, arrived}
use Rattle.rw_lp.specs.Sound.{Balance}
use Rattle.rw_lp.specs.Calls.{letters_taken}
use Rattle.rw_lp.proofs.Balance.{arrival_balanced}
use Rattle.rw_lp.proofs.lp.Lp.arrive_by.Goals as goal

pub undoing-init : goal.undoing-init
undoing-init g c =
    record { model = refl; number = refl; given = []; out = sym (append-nil c.args.out.now.items); going = going_start (undo_by c.args.way (rules g.M.Model g.M.Body.Ord.cmp c.args.self.model) c.args.self.number) (event_cmp g.M.Body.Ord.cmp) c.args.letter c.args.self.process }

pub undoing-smaller : goal.undoing-smaller
undoing-smaller g c =
    let o : IsExactOrder (event_cmp g.M.Body.Ord.cmp) = events_exact (record { total = g.met.M.Body.Ord.total; same = g.met.M.Model.same }) in
    let x = c.undoing.lp in
    let turn = c.in_ok-undone.ensures.turn in
    let barred : is_barred (event_cmp g.M.Body.Ord.cmp) c.args.letter x.process ≡ true = sym c.is_barred.ensures.is ∙ c.undoing-test.true in
    (undo_taken (rules g.M.Model g.M.Body.Ord.cmp x.model) x.number c.args.way x.process c.in_ok-undone.undone.process c.in_ok-undone._answer turn.0 (barred_some o c.args.letter x.process barred) turn.2).1

pub undoing-preserved : goal.undoing-preserved
undoing-preserved g c =
    let o : IsExactOrder (event_cmp g.M.Body.Ord.cmp) = events_exact (record { total = g.met.M.Body.Ord.total; same = g.met.M.Model.same }) in
    let x = c.undoing.lp in
    let z = c.in_ok-undone.undone in
    let known = c.undoing.invariant in
    let turn = c.in_ok-undone.ensures.turn in
    let barred : is_barred (event_cmp g.M.Body.Ord.cmp) c.args.letter x.process ≡ true = sym c.is_barred.ensures.is ∙ c.undoing-test.true in
    let taken : undo_by c.args.way (rules g.M.Model g.M.Body.Ord.cmp x.model) x.number x.process ≡ Turned z.process turn.0 = (undo_taken (rules g.M.Model g.M.Body.Ord.cmp x.model) x.number c.args.way x.process z.process c.in_ok-undone._answer turn.0 (barred_some o c.args.letter x.process barred) turn.2).0 in
    let one : undo_by c.args.way (rules g.M.Model g.M.Body.Ord.cmp c.args.self.model) c.args.self.number x.process ≡ Turned z.process turn.0 =
    subst (λ m. undo_by c.args.way (rules g.M.Model g.M.Body.Ord.cmp m) c.args.self.number x.process ≡ Turned z.process turn.0) known.model
    (subst (λ n. undo_by c.args.way (rules g.M.Model g.M.Body.Ord.cmp x.model) n x.process ≡ Turned z.process turn.0) known.number taken) in
    record {
      model = c.in_ok-undone.ensures.same.0 ∙ known.model;
      number = c.in_ok-undone.ensures.same.1 ∙ known.number;
      given = known.given ++ turn.0;
      out = turn.1 ∙ ap (λ l. l ++ turn.0) known.out ∙ append_assoc c.args.out.now.items known.given turn.0;
      going = going_more (undo_by c.args.way (rules g.M.Model g.M.Body.Ord.cmp c.args.self.model) c.args.self.number) (event_cmp g.M.Body.Ord.cmp) c.args.letter c.args.self.process x.process z.process known.given turn.0 known.going (barred_refuses o c.args.letter x.process barred) one;
    }

pub returns-clause-arrived : goal.returns-clause-arrived
returns-clause-arrived g c =
    let o : IsExactOrder (event_cmp g.M.Body.Ord.cmp) = events_exact (record { total = g.met.M.Body.Ord.total; same = g.met.M.Model.same }) in
    let x = c.undoing.lp in
    let known = c.undoing.invariant in
    let turn = c.in_ok-lp.ensures.turn in
    let free : is_barred (event_cmp g.M.Body.Ord.cmp) c.args.letter x.process ≡ false = sym c.is_barred.ensures.is ∙ c.undoing-test.false in (
      known.given ++ turn.0,
      turn.1 ∙ ap (λ l. l ++ turn.0) known.out ∙ append_assoc c.args.out.now.items known.given turn.0,
      arrived c.args.way (rules g.M.Model g.M.Body.Ord.cmp c.args.self.model) c.args.self.number c.args.letter c.args.self.process x.process c.in_ok-lp.lp.process c.in_ok-lp._answer known.given turn.0 known.going (open_accepts o c.args.letter x.process c.is_barred.ensures.order free) turn.2,
    )

pub returns-clause-balance : goal.returns-clause-balance
returns-clause-balance g c =
    let o : IsExactOrder (event_cmp g.M.Body.Ord.cmp) = events_exact (record { total = g.met.M.Body.Ord.total; same = g.met.M.Model.same }) in
    let x = c.undoing.lp in
    let z = c.in_ok-lp.lp in
    let known = c.undoing.invariant in
    let turn = c.in_ok-lp.ensures.turn in
    let change = c.in_ok-lp.ensures.balance in
    let free : is_barred (event_cmp g.M.Body.Ord.cmp) c.args.letter x.process ≡ false = sym c.is_barred.ensures.is ∙ c.undoing-test.false in
    let both : turn.0 ≡ change.0 = append_cancel_left c.undoing.out.items turn.0 change.0 (sym turn.1 ∙ change.1) in
    let last : Balance (rules g.M.Model g.M.Body.Ord.cmp c.args.self.model) c.args.self.number x.process z.process (letters_taken c.in_ok-lp._answer c.args.letter) turn.0 =
    subst (λ m. Balance (rules g.M.Model g.M.Body.Ord.cmp m) c.args.self.number x.process z.process (letters_taken c.in_ok-lp._answer c.args.letter) turn.0) known.model
    (subst (λ n. Balance (rules g.M.Model g.M.Body.Ord.cmp x.model) n x.process z.process (letters_taken c.in_ok-lp._answer c.args.letter) turn.0) known.number
    (subst (λ l. Balance (rules g.M.Model g.M.Body.Ord.cmp x.model) x.number x.process z.process (letters_taken c.in_ok-lp._answer c.args.letter) l) (sym both) change.2)) in (
      known.given ++ turn.0,
      turn.1 ∙ ap (λ l. l ++ turn.0) known.out ∙ append_assoc c.args.out.now.items known.given turn.0,
      arrival_balanced (rules g.M.Model g.M.Body.Ord.cmp c.args.self.model) o c.args.self.number c.args.way c.args.self.process x.process z.process c.in_ok-lp._answer c.args.letter known.given turn.0 known.going.count known.going.undone (open_accepts o c.args.letter x.process c.is_barred.ensures.order free).taken turn.2 last,
    )

pub undo_by-requires : goal.undo_by-requires
undo_by-requires g c = record { model = c.requires.model ∙ sym c.undoing.invariant.model }

pub deliver-requires-clause-valid : goal.deliver-requires-clause-valid
deliver-requires-clause-valid g c = subst (λ m. g.M.Model.is_valid m c.args.letter.event ≡ true) (sym c.undoing.invariant.model) c.requires.valid
