use Rattle.std.proofs.Common.{◌≡◌, ◌++◌, ◌∷◌, [], length, take, arith, sym, ap, ◌∙◌, subst}
use Rattle.std.proofs.lemmas.List.{take-append-le, take_all}
use Rattle.std.specs.Prelude.{All}
use Rattle.rw_vt.specs.Order.{event_cmp, copies, AtMost}
use Rattle.rw_vt.proofs.EventOrder.{events_exact}
use Rattle.rw_vt.proofs.Sorting.{IsExactOrder}
use Rattle.rw_lp.specs.declared.held.Held.{Held}
use Rattle.rw_lp.specs.HeldMessages.{held_messages}
use Rattle.rw_lp.specs.HeldBack.{AreFalling}
use Rattle.rw_lp.proofs.HeldRuns.{counted_put, falling_more}
use Rattle.rw_lp.proofs.held_back.HeldBack.hold_one.Goals as goal

pub invariant_of-self-in-Err : goal.invariant_of-self-in-Err
invariant_of-self-in-Err g c =
    let cmp = event_cmp g.M.Body.Ord.cmp in
    let hs = c.self.inside.pairs.items in
    let one : Held g.row.M-Body.Denot = record { undone = c.args.event; message = c.args.message } in
    let all : c.len-count.result ≡ length hs = omega (arith, c.len-count.ensures, c.self.inside.pairs.ok) in
    let left : c.truncate.new.self.items ≡ hs =
    c.truncate.ensures.items ∙ ap (λ n. take n c.push.new.self.items) all ∙ ap (take (length hs)) c.in_ok-push.ensures.items ∙ take-append-le (length hs) hs (one ∷ []) (omega arith) ∙ take_all (length hs) hs (omega arith) in (
      subst (AreFalling cmp) (sym left) c.self.invariant.0,
      λ m. ap (copies cmp m) c.in-Err.ensures.err ∙ c.self.invariant.1 m ∙ ap (λ l. copies cmp m (held_messages l)) (sym left),
    )

pub invariant_of-self-in_default : goal.invariant_of-self-in_default
invariant_of-self-in_default g c =
    let o : IsExactOrder (event_cmp g.M.Body.Ord.cmp) = events_exact (record { total = g.met.M.Body.Ord.total; same = g.met.M.Model.same }) in
    let cmp = event_cmp g.M.Body.Ord.cmp in
    let hs = c.self.inside.pairs.items in
    let last : All (λ (h : Held g.row.M-Body.Denot). AtMost cmp c.args.event h.undone) hs = subst (All (λ (h : Held g.row.M-Body.Denot). AtMost cmp c.args.event h.undone)) (sym c.self.view_is) c.requires.last in (
      subst (AreFalling cmp) (sym c.in_ok-push.ensures.items) (falling_more o c.args.event (c.args.message ∷ []) hs c.self.invariant.0 last),
      counted_put o c.self.inside.messages c.put.new.self hs c.push.new.self.items (record { undone = c.args.event; message = c.args.message }) c.self.invariant.1 c.in_default.ensures.ok c.in_ok-push.ensures.items,
    )

pub invariant_of-self : goal.invariant_of-self
invariant_of-self g c =
    let cmp = event_cmp g.M.Body.Ord.cmp in
    let same = sym c.in_err-push.ensures.items in
    (subst (AreFalling cmp) same c.self.invariant.0, λ m. c.self.invariant.1 m ∙ ap (λ l. copies cmp m (held_messages l)) same)

pub returns : goal.returns
returns g c =
    let one : Held g.row.M-Body.Denot = record { undone = c.args.event; message = c.args.message } in
    record { held = c.in_ok-push.ensures.items ∙ ap (λ l. l ++ one ∷ []) c.self.view_is }
