-- A worker may move to a thread of its own, where what it consists of may.
use mathlib.Core.List.{[], ◌∷◌}
use denote.RattleType.{RattleType}
use denote.Struct.Field.{u32-field, u64-field}
use denote.Struct.Struct.{Struct}
use denote.Struct.Declared.{shape}
use denote.Param.Send.{IsSend, AllSend, struct_send, recorded_send, view_send, sendable}
use Rattle.std.proofs.Common.{rules}
use Rattle.std.proofs.Crossing.{crosses, send, frees}
use Rattle.std_collections.proofs.Crosses.{BTreeMap-send}
use Rattle.std.specs.declared.cmp.Ord as ord
use Rattle.std.specs.declared.cmp.Eq as whole
use Rattle.std.specs.declared.cmp.PartialEq as eq
use Rattle.std.specs.declared.cmp.PartialOrd as partial
use Rattle.std.specs.contracts.alloc.Global as Global
use Rattle.std.specs.contracts.impls.GlobalAllocator.TheImpl as global
use Rattle.std.specs.contracts.vec.Vec as Vec
use Rattle.rw_vt.specs.declared.model.Model.{Ghosts}
use Rattle.rw_vt.specs.contracts.event.Event as Event
use Rattle.rw_vt.specs.contracts.event.EventPartialEq.TheImpl as EventPartialEq
use Rattle.rw_vt.specs.contracts.event.EventPartialOrd.TheImpl as EventPartialOrd
use Rattle.rw_vt.specs.contracts.event.Letter as Letter
use Rattle.rw_board.specs.contracts.board.Seat as Seat
use Rattle.rw_exchange.specs.contracts.AnyItems as AnyItems
use Rattle.rw_exchange.specs.contracts.port.Port as Port
use Rattle.rw_bag.specs.contracts.counted.CountedBag as CountedBag
use Rattle.rw_bag.specs.contracts.counted.CountedBag.TheInside as CountedInside
use Rattle.rw_lp.specs.contracts.lp.Lp as Lp
use Rattle.rw_rounds.specs.contracts.plan.Plan as Plan
use Rattle.rw_rounds.specs.contracts.traffic.Traffic as Traffic
use Rattle.rw_rounds.specs.contracts.tournament.Tournament as Tournament
use Rattle.rw_rounds.specs.contracts.processes.Processes as Processes
use Rattle.rw_rounds.specs.contracts.inner.Inner as Inner
use Rattle.rw_rounds.specs.contracts.worker.Worker as Worker
use Rattle.rw_rounds.specs.contracts.worker.Worker.TheInside as Inside

seat_may_move : IsSend Seat.the_row
unfolding types.Keyed.entry denote.Memory.part_of
seat_may_move = search rules

number_may_move : IsSend u32-field.row
number_may_move = search sendable

time_may_move : IsSend u64-field.row
time_may_move = search sendable

plan_may_move : IsSend Plan.the_field.row
plan_may_move = search (sendable, crosses) depth 40

traffic_may_move : IsSend Traffic.the_field.row
traffic_may_move = search (sendable, crosses) depth 40

module _ (B : RattleType) where
  abbrev Letters : RattleType
  Letters = (Vec.the_field (Letter.the_row B) Global.the_row global.ghosts).row

  letters_may_move : IsSend B → IsSend Letters
  letters_may_move s = search (sendable, crosses) depth 40

-- a port of letters with these bodies, whose rings allow every letter
abbrev Ends : RattleType → RattleType
Ends B = Port.the_row (Letter.the_row B) AnyItems.the_row (record { allows = λ before letter. Unit {0} })

module _ (M S B U : RattleType) (g : Ghosts M.Denot S.Denot B.Denot U.Denot) (o : ord.Ghosts B.Denot) (w : whole.Ghosts B.Denot) (e : eq.Ghosts B.Denot) (p : partial.Ghosts B.Denot) where
  event_may_move : IsSend B → IsSend (Event.the_row B)
  event_may_move b = search sendable depth 40

  tournament_may_move : IsSend B → IsSend (Tournament.the_row M S B U g o e p)
  tournament_may_move b =
      let event = event_may_move b in
      search (sendable, crosses) depth 60 fits 20000

  processes_may_move : IsSend B → IsSend (Lp.the_row M S B U g o w e p) → IsSend (Processes.the_row M S B U g o w e p)
  processes_may_move b lp =
      let next = tournament_may_move b in
      search (sendable, crosses) depth 60 fits 20000

  inner_may_move : IsSend B → IsSend (Lp.the_row M S B U g o w e p) → IsSend (Ends B) → IsSend Seat.the_row → IsSend (Inner.the_field M S B U g o w e p).row
  inner_may_move b lp port seat =
      let letters = letters_may_move B b in
      let all : AllSend (u32-field.row ∷ Plan.the_field.row ∷ u64-field.row ∷ (Processes.the_field M S B U g o w e p).row ∷ Letters B ∷ Letters B ∷ Ends B ∷ Seat.the_field.row ∷ Traffic.the_field.row ∷ []) = (number_may_move, (plan_may_move, (time_may_move, (processes_may_move b lp, (letters, (letters, (port, (seat, (traffic_may_move, tt))))))))) in
      struct_send (shape (Inner.the_type M S B U g o w e p)) all

  counted_may_move : IsSend B → IsSend (CountedBag.the_row M S B U g o w e p)
  counted_may_move b =
      let T = CountedInside.the_type M S B U g o w e p in
      view_send _ _ _ _ _ (recorded_send (Struct (shape T)) T.D T.to T.to_one (struct_send (shape T) (BTreeMap-send _ _ _ _ (EventPartialEq.ghosts B e EventPartialEq.no_dict) (EventPartialOrd.ghosts B p EventPartialOrd.no_dict e EventPartialOrd.no_dict) _ (event_may_move b) time_may_move send frees, tt)))

  process_may_move : IsSend S → IsSend B → IsSend U → IsSend (Lp.the_row M S B U g o w e p)
  process_may_move s b u =
      let counted = counted_may_move b in
      search (sendable, crosses) depth 60 fits 20000

  pub worker_may_move : IsSend S → IsSend B → IsSend U → IsSend (Ends B) → IsSend (Worker.the_row M S B U g o w e p)
  worker_may_move s b u port =
      let T = Inside.the_type M S B U g o w e p in
      let all : AllSend ((Inner.the_field M S B U g o w e p).row ∷ Letters B ∷ []) = (inner_may_move b (process_may_move s b u) port seat_may_move, (letters_may_move B b, tt)) in
      view_send _ _ _ _ _ (recorded_send (Struct (shape T)) T.D T.to T.to_one (struct_send (shape T) all))
