use Rattle.std.proofs.Common.{rules, ◌≡◌, All, ap}
use Rattle.std.proofs.lemmas.List.Elements.{All-set, All-weaker}
use Rattle.rw_board.specs.Seats.{new_seat}
use Rattle.rw_round_tests.proofs.board_of_two_seats.closed_at.Goals as goal

pub close-requires-clause-board : goal.close-requires-clause-board
close-requires-clause-board c =
    let b = c.in_ok-board.board.board in
    let start : All (λ s. s.board ≡ b) c.in_ok-board.seats.items = All-weaker (λ s. s ≡ new_seat b) (λ s. s.board ≡ b) (λ s e. ap (λ z. z.board) e) _ c.in_ok-board.ensures.new in
    All-set (λ s. s.board ≡ b) _ 1 _ (search rules) (All-set (λ s. s.board ≡ b) _ 0 _ (search rules) (All-set (λ s. s.board ≡ b) _ 0 _ (search rules) start))
