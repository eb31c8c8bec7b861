use Rattle.std.proofs.Common.{rules, ◌≡◌, ◌+◌, ◌≤◌, [], ◌∷◌, ◌++◌, length, All, sym, ap, ◌∙◌, subst, append_assoc, append-nil, min, arith}
use Rattle.std.proofs.lemmas.List.Elements.{All-cons, All-nil, All-head, All-tail, All-same}
use Rattle.std.proofs.lemmas.List.{nil_from_length}
use Rattle.rw_board.specs.Least.{least}
use Rattle.rw_board.specs.Seats.{all_notes}
use Rattle.rw_board.proofs.Keeps.{joins, ends, least-END, least_within}
use Rattle.rw_board.proofs.board.close.Goals as goal

pub loop-seat-init : goal.loop-seat-init
loop-seat-init c =
    let items : c.args.seats.items ≡ c.in-Some.first ∷ c.into_iter-seat-iterator.result.rest.items = cc in
    let mine : c.in-Some.first.board ≡ c.args.board.board = All-head (λ p. p.board ≡ c.args.board.board) c.in-Some.first c.into_iter-seat-iterator.result.rest.items (All-same (λ p. p.board ≡ c.args.board.board) _ _ (sym items) c.requires.board) in
    let theirs : All (λ p. p.board ≡ c.args.board.board) c.into_iter-seat-iterator.result.rest.items = All-tail (λ p. p.board ≡ c.args.board.board) c.in-Some.first c.into_iter-seat-iterator.result.rest.items (All-same (λ p. p.board ≡ c.args.board.board) _ _ (sym items) c.requires.board) in
    let id : c.board.inside.table.shared.table_id ≡ c.args.board.board = ap (λ b. b.board) c.board.view_is in
    let key : c.board.inside.table.shared.key ≡ c.args.board.seats = ap (λ b. b.seats) c.board.view_is in
    let own : c.first.inside.inner.table_id ≡ c.in-Some.first.board = ap (λ p. p.board) c.first.view_is in
    let own_noted : c.first.inside.inner.me.0.noted ≡ c.in-Some.first.noted = ap (λ p. p.noted) c.first.view_is in
    let own_read : c.first.inside.inner.me.0.read ≡ c.in-Some.first.read = ap (λ p. p.read) c.first.view_is in
    let len : length c.args.seats.items ≡ length c.into_iter-seat-iterator.result.rest.items + 1 = rw items (search rules) in
    record {
      same = cc;
      empty = c.first.invariant.0;
      heavy = omega arith;
      weight = omega arith;
      theirs = subst (λ z. All (λ p. p.board ≡ z) c.into_iter-seat-iterator.result.rest.items) (sym id) theirs;
      noted = rw (items, own_noted);
      read = λ n h k. All-same (λ p. n ≤ p.read) _ _ items (All-cons (λ p. n ≤ p.read) _ _ (omega arith) k);
    }

pub join_seat-requires : goal.join_seat-requires
join_seat-requires c =
    let inv = c.loop-seat.invariant in
    let items : c.loop-seat.seat-iterator.rest.items ≡ c.in-Some-seat.seat ∷ c.next-in-loop-seat.new.self.rest.items = c.in-Some-seat.ensures.steps.0 in
    let mine : c.in-Some-seat.seat.board ≡ c.board.inside.table.shared.table_id = All-head (λ p. p.board ≡ c.board.inside.table.shared.table_id) _ _ (All-same (λ p. p.board ≡ c.board.inside.table.shared.table_id) _ _ (sym items) inv.theirs) in
    let own : c.seat.inside.inner.table_id ≡ c.in-Some-seat.seat.board = ap (λ p. p.board) c.seat.view_is in (
      inv.same,
      cc,
      c.seat.invariant.0,
      omega arith,
      joins _ _ _ _ _ (omega arith) (omega arith),
    )

pub loop-seat-preserved : goal.loop-seat-preserved
loop-seat-preserved c =
    let inv = c.loop-seat.invariant in
    let items : c.loop-seat.seat-iterator.rest.items ≡ c.in-Some-seat.seat ∷ c.next-in-loop-seat.new.self.rest.items = c.in-Some-seat.ensures.steps.0 in
    let me = c.join_seat.ensures.2 in
    let own_noted : c.seat.inside.inner.me.0.noted ≡ c.in-Some-seat.seat.noted = ap (λ p. p.noted) c.seat.view_is in
    let own_read : c.seat.inside.inner.me.0.read ≡ c.in-Some-seat.seat.read = ap (λ p. p.read) c.seat.view_is in
    let weight : c.join_seat.new.seat.me.0.weight ≡ c.loop-seat.all.me.0.weight + c.seat.inside.inner.me.0.weight = ap (λ m. m.0.weight) me in
    let read : c.join_seat.new.seat.me.0.read ≡ min c.loop-seat.all.me.0.read c.seat.inside.inner.me.0.read = ap (λ m. m.0.read) me in
    let noted : c.join_seat.new.seat.me.0.noted ≡ c.loop-seat.all.me.0.noted ++ c.seat.inside.inner.me.0.noted = ap (λ m. m.0.noted) me in
    let len : length c.loop-seat.seat-iterator.rest.items ≡ length c.next-in-loop-seat.new.self.rest.items + 1 = rw items (search rules) in
    record {
      same = c.join_seat.ensures.0 ∙ inv.same;
      empty = ap (λ m. m.1) me ∙ inv.empty;
      heavy = omega arith;
      weight = omega (arith, c.seat.invariant.1, inv.weight);
      theirs = All-tail (λ p. p.board ≡ c.board.inside.table.shared.table_id) _ _ (All-same (λ p. p.board ≡ c.board.inside.table.shared.table_id) _ _ (sym items) inv.theirs);
      noted = inv.noted ∙ (ap (λ ps. c.loop-seat.all.me.0.noted ++ all_notes ps) items
          ∙ (ap (λ xs. c.loop-seat.all.me.0.noted ++ (xs ++ all_notes c.next-in-loop-seat.new.self.rest.items)) (sym own_noted)
          ∙ (sym (append_assoc c.loop-seat.all.me.0.noted c.seat.inside.inner.me.0.noted (all_notes c.next-in-loop-seat.new.self.rest.items))
          ∙ ap (λ xs. xs ++ all_notes c.next-in-loop-seat.new.self.rest.items) (sym noted))));
      read = λ n h k. inv.read n (omega arith) (All-same (λ p. n ≤ p.read) _ _ items (All-cons (λ p. n ≤ p.read) _ _ (omega arith) k));
    }

pub returns-clause-least : goal.returns-clause-least
returns-clause-least c =
    let inv = c.loop-seat.invariant in
    let none : c.loop-seat.seat-iterator.rest.items ≡ [] = nil_from_length c.loop-seat.seat-iterator.rest.items (sym c.loop-seat.seat-iterator.rest.ok.0 ∙ c.in-None.ensures.steps.0) in
    let all : all_notes c.args.seats.items ≡ c.loop-seat.all.me.0.noted = inv.noted ∙ (ap (λ ps. c.loop-seat.all.me.0.noted ++ all_notes ps) none ∙ append-nil c.loop-seat.all.me.0.noted) in
    let len : length c.loop-seat.seat-iterator.rest.items ≡ 0 = ap length none in
    let e = ends _ _ _ _ _ _ c.close_with-closed.ensures.values.2 c.word-word.ensures (omega (arith, inv.weight)) (omega (arith, inv.weight)) in
    e.0 ∙ ap least (sym all)

pub returns-clause-end : goal.returns-clause-end
returns-clause-end c = omega (arith, returns-clause-least c, least-END (all_notes c.args.seats.items))

pub returns-clause-noted : goal.returns-clause-noted
returns-clause-noted c k d lt = omega (arith, returns-clause-least c, least_within c.args.seats.items k d lt)

pub returns-clause-read : goal.returns-clause-read
returns-clause-read c =
    let inv = c.loop-seat.invariant in
    let none : c.loop-seat.seat-iterator.rest.items ≡ [] = nil_from_length c.loop-seat.seat-iterator.rest.items (sym c.loop-seat.seat-iterator.rest.ok.0 ∙ c.in-None.ensures.steps.0) in
    let len : length c.loop-seat.seat-iterator.rest.items ≡ 0 = ap length none in
    let e = ends _ _ _ _ _ _ c.close_with-closed.ensures.values.2 c.word-word.ensures (omega (arith, inv.weight)) (omega (arith, inv.weight)) in
    inv.read _ e.1 (All-same (λ p. c.word-word.result ≤ p.read) _ _ none (All-nil (λ p. c.word-word.result ≤ p.read)))
