use Rattle.std.proofs.Common.{◌≡◌, [], refl, sym, subst, ◌∙◌, append-nil}
use Rattle.rw_vt.specs.Order.{event_cmp, has}
use Rattle.rw_vt.proofs.EventOrder.{events_exact}
use Rattle.rw_vt.proofs.Sorting.{IsExactOrder}
use Rattle.rw_vt.specs.System.{rules}
use Rattle.rw_lp.specs.HeldBack.{antis_unless}
use Rattle.rw_lp.specs.Cut.{seen_of}
use Rattle.rw_lp.specs.Own.{AreFor}
use Rattle.rw_lp.specs.Calls.{process_of}
use Rattle.rw_lp.proofs.Meeting.{meets, refuses, owes, met, put}
use Rattle.rw_lp.proofs.Own.{pending_less, pending_more, debts_less, debts_more}
use Rattle.rw_lp.proofs.Balance.{anti_meets, anti_owed, anti_refused, message_meets, message_put}
use Rattle.rw_lp.proofs.lp.meet.Goals as goal

pub returns-then-take-clause-own : goal.returns-then-take-clause-own
returns-then-take-clause-own g c =
    let o : IsExactOrder (event_cmp g.M.Body.Ord.cmp) = events_exact (record { total = g.met.M.Body.Ord.total; same = g.met.M.Model.same }) in
    let there = sym c.take.ensures.there ∙ c.if-take.true in
    pending_less g.M.Model (seen_of c.args.history.now) c.args.pending.now c.args.debts.now c.args.held.now c.requires.own o c.args.letter.event c.take.new.self c.annihilate.new.held there c.take.ensures.rest c.in_ok-annihilate.ensures.left

pub returns-then-take-clause-turn : goal.returns-then-take-clause-turn
returns-then-take-clause-turn g c =
    let o : IsExactOrder (event_cmp g.M.Body.Ord.cmp) = events_exact (record { total = g.met.M.Body.Ord.total; same = g.met.M.Model.same }) in
    let x = process_of (seen_of c.args.history.now) c.args.pending.now c.args.debts.now c.args.held.now in
    let y = rules g.M.Model g.M.Body.Ord.cmp x.model in
    let there = sym c.take.ensures.there ∙ c.if-take.true in
    (antis_unless (has y.order c.args.letter.event c.take.new.self) y.order c.args.letter.event c.args.held.now, c.in_ok-annihilate.ensures.out, meets y.order x.process c.args.letter c.take.new.self c.annihilate.new.held c.if-letter.true there c.take.ensures.rest c.in_ok-annihilate.ensures.left)

pub returns-then-take-clause-balance : goal.returns-then-take-clause-balance
returns-then-take-clause-balance g c =
    let o : IsExactOrder (event_cmp g.M.Body.Ord.cmp) = events_exact (record { total = g.met.M.Body.Ord.total; same = g.met.M.Model.same }) in
    let x = process_of (seen_of c.args.history.now) c.args.pending.now c.args.debts.now c.args.held.now in
    let y = rules g.M.Model g.M.Body.Ord.cmp x.model in
    let there = sym c.take.ensures.there ∙ c.if-take.true in
    (antis_unless (has y.order c.args.letter.event c.take.new.self) y.order c.args.letter.event c.args.held.now, c.in_ok-annihilate.ensures.out, anti_meets y o x.number x.process c.args.letter c.take.new.self c.annihilate.new.held (antis_unless (has y.order c.args.letter.event c.take.new.self) y.order c.args.letter.event c.args.held.now) c.if-letter.true there c.take.ensures.rest c.in_ok-annihilate.ensures.left refl)

pub returns-then-holds-clause-own : goal.returns-then-holds-clause-own
returns-then-holds-clause-own g c =
    let same : c.take.new.self ≡ c.args.pending.now = c.take.ensures.kept c.if-take.false in
    let none = sym c.take.ensures.there ∙ c.if-take.false in
    let own : AreFor g.M.Model g.M.Body.Ord.cmp (seen_of c.args.history.now) c.take.new.self c.args.debts.now c.args.held.now = subst (λ l. AreFor g.M.Model g.M.Body.Ord.cmp (seen_of c.args.history.now) l c.args.debts.now c.args.held.now) (sym same) c.requires.own in
    own

pub returns-then-holds-clause-turn : goal.returns-then-holds-clause-turn
returns-then-holds-clause-turn g c =
    let x = process_of (seen_of c.args.history.now) c.args.pending.now c.args.debts.now c.args.held.now in
    let y = rules g.M.Model g.M.Body.Ord.cmp x.model in
    let same : c.take.new.self ≡ c.args.pending.now = c.take.ensures.kept c.if-take.false in
    let none = sym c.take.ensures.there ∙ c.if-take.false in
    ([], sym (append-nil c.args.out.now.items), refuses y.order x.process c.args.letter c.take.new.self c.if-letter.true none (sym c.holds.ensures ∙ c.if-holds.true) same)

pub returns-then-holds-clause-balance : goal.returns-then-holds-clause-balance
returns-then-holds-clause-balance g c =
    let o : IsExactOrder (event_cmp g.M.Body.Ord.cmp) = events_exact (record { total = g.met.M.Body.Ord.total; same = g.met.M.Model.same }) in
    let x = process_of (seen_of c.args.history.now) c.args.pending.now c.args.debts.now c.args.held.now in
    let y = rules g.M.Model g.M.Body.Ord.cmp x.model in
    let same : c.take.new.self ≡ c.args.pending.now = c.take.ensures.kept c.if-take.false in
    let none = sym c.take.ensures.there ∙ c.if-take.false in
    ([], sym (append-nil c.args.out.now.items), anti_refused y o x.number x.process c.take.new.self same)

pub returns-then-letter-clause-own : goal.returns-then-letter-clause-own
returns-then-letter-clause-own g c =
    let o : IsExactOrder (event_cmp g.M.Body.Ord.cmp) = events_exact (record { total = g.met.M.Body.Ord.total; same = g.met.M.Model.same }) in
    let same : c.take.new.self ≡ c.args.pending.now = c.take.ensures.kept c.if-take.false in
    let none = sym c.take.ensures.there ∙ c.if-take.false in
    let own : AreFor g.M.Model g.M.Body.Ord.cmp (seen_of c.args.history.now) c.take.new.self c.args.debts.now c.args.held.now = subst (λ l. AreFor g.M.Model g.M.Body.Ord.cmp (seen_of c.args.history.now) l c.args.debts.now c.args.held.now) (sym same) c.requires.own in
    debts_more g.M.Model (seen_of c.args.history.now) c.take.new.self c.args.debts.now c.args.held.now own o c.args.letter.event c.put.new.self c.requires.here c.in_ok-put.ensures.ok

pub returns-then-letter-clause-turn : goal.returns-then-letter-clause-turn
returns-then-letter-clause-turn g c =
    let x = process_of (seen_of c.args.history.now) c.args.pending.now c.args.debts.now c.args.held.now in
    let y = rules g.M.Model g.M.Body.Ord.cmp x.model in
    let same : c.take.new.self ≡ c.args.pending.now = c.take.ensures.kept c.if-take.false in
    let none = sym c.take.ensures.there ∙ c.if-take.false in
    ([], sym (append-nil c.args.out.now.items), owes y.order x.process c.args.letter c.take.new.self c.put.new.self c.if-letter.true none (sym c.holds.ensures ∙ c.if-holds.false) same c.in_ok-put.ensures.ok)

pub returns-then-letter-clause-balance : goal.returns-then-letter-clause-balance
returns-then-letter-clause-balance g c =
    let o : IsExactOrder (event_cmp g.M.Body.Ord.cmp) = events_exact (record { total = g.met.M.Body.Ord.total; same = g.met.M.Model.same }) in
    let x = process_of (seen_of c.args.history.now) c.args.pending.now c.args.debts.now c.args.held.now in
    let y = rules g.M.Model g.M.Body.Ord.cmp x.model in
    let same : c.take.new.self ≡ c.args.pending.now = c.take.ensures.kept c.if-take.false in
    let none = sym c.take.ensures.there ∙ c.if-take.false in
    ([], sym (append-nil c.args.out.now.items), anti_owed y o x.number x.process c.args.letter c.take.new.self c.put.new.self c.if-letter.true same c.in_ok-put.ensures.ok)

pub returns-then-take-2-clause-own : goal.returns-then-take-2-clause-own
returns-then-take-2-clause-own g c =
    let o : IsExactOrder (event_cmp g.M.Body.Ord.cmp) = events_exact (record { total = g.met.M.Body.Ord.total; same = g.met.M.Model.same }) in
    debts_less g.M.Model (seen_of c.args.history.now) c.args.pending.now c.args.debts.now c.args.held.now c.requires.own o c.args.letter.event c.take-2.new.self c.take-2.ensures.rest

pub returns-then-take-2-clause-turn : goal.returns-then-take-2-clause-turn
returns-then-take-2-clause-turn g c =
    let x = process_of (seen_of c.args.history.now) c.args.pending.now c.args.debts.now c.args.held.now in
    let y = rules g.M.Model g.M.Body.Ord.cmp x.model in
    let there = sym c.take-2.ensures.there ∙ c.if-take-2.true in
    ([], sym (append-nil c.args.out.now.items), met y.order x.process c.args.letter c.take-2.new.self c.if-letter.false there c.take-2.ensures.rest)

pub returns-then-take-2-clause-balance : goal.returns-then-take-2-clause-balance
returns-then-take-2-clause-balance g c =
    let o : IsExactOrder (event_cmp g.M.Body.Ord.cmp) = events_exact (record { total = g.met.M.Body.Ord.total; same = g.met.M.Model.same }) in
    let x = process_of (seen_of c.args.history.now) c.args.pending.now c.args.debts.now c.args.held.now in
    let y = rules g.M.Model g.M.Body.Ord.cmp x.model in
    let there = sym c.take-2.ensures.there ∙ c.if-take-2.true in
    ([], sym (append-nil c.args.out.now.items), message_meets y o x.number x.process c.args.letter c.take-2.new.self c.if-letter.false there c.take-2.ensures.rest)

pub returns-clause-own : goal.returns-clause-own
returns-clause-own g c =
    let o : IsExactOrder (event_cmp g.M.Body.Ord.cmp) = events_exact (record { total = g.met.M.Body.Ord.total; same = g.met.M.Model.same }) in
    let same : c.take-2.new.self ≡ c.args.debts.now = c.take-2.ensures.kept c.if-take-2.false in
    let none = sym c.take-2.ensures.there ∙ c.if-take-2.false in
    let own : AreFor g.M.Model g.M.Body.Ord.cmp (seen_of c.args.history.now) c.args.pending.now c.take-2.new.self c.args.held.now = subst (λ l. AreFor g.M.Model g.M.Body.Ord.cmp (seen_of c.args.history.now) c.args.pending.now l c.args.held.now) (sym same) c.requires.own in
    pending_more g.M.Model (seen_of c.args.history.now) c.args.pending.now c.take-2.new.self c.args.held.now own o c.args.letter.event c.put-2.new.self c.requires.here c.in_ok-put-2.ensures.ok

pub returns-clause-turn : goal.returns-clause-turn
returns-clause-turn g c =
    let x = process_of (seen_of c.args.history.now) c.args.pending.now c.args.debts.now c.args.held.now in
    let y = rules g.M.Model g.M.Body.Ord.cmp x.model in
    let same : c.take-2.new.self ≡ c.args.debts.now = c.take-2.ensures.kept c.if-take-2.false in
    let none = sym c.take-2.ensures.there ∙ c.if-take-2.false in
    ([], sym (append-nil c.args.out.now.items), put y.order x.process c.args.letter c.put-2.new.self c.take-2.new.self c.if-letter.false none same c.in_ok-put-2.ensures.ok)

pub returns-clause-balance : goal.returns-clause-balance
returns-clause-balance g c =
    let o : IsExactOrder (event_cmp g.M.Body.Ord.cmp) = events_exact (record { total = g.met.M.Body.Ord.total; same = g.met.M.Model.same }) in
    let x = process_of (seen_of c.args.history.now) c.args.pending.now c.args.debts.now c.args.held.now in
    let y = rules g.M.Model g.M.Body.Ord.cmp x.model in
    let same : c.take-2.new.self ≡ c.args.debts.now = c.take-2.ensures.kept c.if-take-2.false in
    let none = sym c.take-2.ensures.there ∙ c.if-take-2.false in
    ([], sym (append-nil c.args.out.now.items), message_put y o x.number x.process c.args.letter c.put-2.new.self c.take-2.new.self c.if-letter.false same c.in_ok-put-2.ensures.ok)
