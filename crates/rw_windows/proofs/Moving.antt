-- A worker's share may move to a thread of its own, where what it consists of may.
use denote.RattleType.{RattleType}
use denote.Struct.Field.{u32-field, u64-field}
use denote.Struct.Struct.{Struct}
use denote.Struct.Declared.{shape}
use denote.Param.Send.{IsSend, AllSend, struct_send, recorded_send, view_send, sendable}
use Rattle.std.proofs.Crossing.{crosses}
use Rattle.std.specs.declared.cmp.Ord as ord
use Rattle.std.specs.declared.cmp.Eq as whole
use Rattle.std.specs.declared.cmp.PartialEq as eq
use Rattle.std.specs.declared.cmp.PartialOrd as partial
use Rattle.std.specs.declared.clone.Clone as clone
use Rattle.std.specs.contracts.alloc.Global as Global
use Rattle.std.specs.contracts.impls.GlobalAllocator.TheImpl as global
use Rattle.std.specs.contracts.vec.Vec as Vec
use Rattle.std.specs.contracts.snapshot.Snapshot as Snapshot
use Rattle.rw_vt.specs.declared.model.Model.{Ghosts}
use Rattle.rw_vt.specs.contracts.event.Event as Event
use Rattle.rw_exchange.specs.contracts.port.Port as Port
use Rattle.rw_exchange.proofs.port.Port.TheSendSync.{the_send as sends}
use Rattle.rw_windows.specs.Batches.{MayFollow}
use Rattle.rw_windows.specs.contracts.batch.Batch as Batch
use Rattle.rw_windows.specs.contracts.batch.Batch.TheInside as BatchInside
use Rattle.rw_windows.specs.contracts.batch.InTime as InTime
use Rattle.rw_windows.specs.contracts.parkers.Parkers as Parkers
use Rattle.crossbeam_channel.proofs.channel.Receiver.TheSendSync.{the_send as receiver_may_move}
use Rattle.rw_windows.specs.contracts.domain.Domain as Domain
use Rattle.rw_windows.specs.contracts.share.Share as Share
use Rattle.rw_windows.specs.contracts.share.Share.TheInside as ShareInside

module _ (B : RattleType) where
  abbrev Events : RattleType
  Events = (Vec.the_field (Event.the_row B) Global.the_row global.ghosts).row

  events_may_move : IsSend B → IsSend Events
  events_may_move s = search (sendable, crosses) depth 40

number_may_move : IsSend u32-field.row
number_may_move = search sendable

shot_may_move : (T : RattleType) → IsSend (Snapshot.the_row T)
shot_may_move T = search (sendable, crosses) depth 20

time_may_move : IsSend u64-field.row
time_may_move = search sendable

parkers_may_move : IsSend (Parkers.the_field).row
parkers_may_move =
    let S = shape Parkers.the_type in
    let all : AllSend S.fields = (search (sendable, crosses) depth 40, (search (sendable, crosses, receiver_may_move) depth 40, tt)) in
    struct_send S all

module _ (M S B U : RattleType) (g : Ghosts M.Denot S.Denot B.Denot U.Denot) (o : ord.Ghosts B.Denot) (w : whole.Ghosts B.Denot) (e : eq.Ghosts B.Denot) (p : partial.Ghosts B.Denot) (c : clone.Ghosts B.Denot) where
  -- a port of batches, whose rings keep to the workers' promise
  abbrev Ends : RattleType
  Ends = Port.the_row (Batch.the_row M S B U g o e p) InTime.the_row (record { allows = MayFollow g })

  batch_may_move : IsSend B → IsSend (Batch.the_row M S B U g o e p)
  batch_may_move b =
      let T = BatchInside.the_type M S B U g o e p in
      let t = time_may_move in
      let all : AllSend (shape T).fields = (events_may_move B b, (t, (shot_may_move M, (shot_may_move u32-field.row, (shot_may_move u32-field.row, tt))))) in
      view_send _ _ _ _ _ (recorded_send (Struct (shape T)) T.D T.to T.to_one (struct_send (shape T) all))

  ends_may_move : IsSend B → IsSend Ends
  ends_may_move b = sends (Batch.the_row M S B U g o e p) InTime.the_row (record { allows = MayFollow g }) (batch_may_move b)

  states_may_move : IsSend S → IsSend (Vec.the_row S Global.the_row global.ghosts)
  states_may_move s = search (sendable, crosses) depth 40

  lists_may_move : IsSend B → IsSend (Vec.the_row (Vec.the_row (Event.the_row B) Global.the_row global.ghosts) Global.the_row global.ghosts)
  lists_may_move b = let events = events_may_move B b in search (sendable, crosses) depth 40

  seat_may_move : IsSend S → IsSend B → IsSend U → IsSend (Domain.the_field M S B U g o w e p c).row
  seat_may_move s b u =
      let T = Domain.the_type M S B U g o w e p c in
      let n = number_may_move in
      let t = time_may_move in
      let starts = shot_may_move (Snapshot.the_row (Vec.the_row S Global.the_row global.ghosts)) in
      let given = shot_may_move (Vec.the_row (Event.the_row B) Global.the_row global.ghosts) in
      let all : AllSend (shape T).fields = (n, (n, (t, (t, (states_may_move s, (ends_may_move b, (parkers_may_move, (lists_may_move b, (t, (t, (t, (t, (t, (starts, (given, tt))))))))))))))) in
      struct_send (shape T) all

  pub share_may_move : IsSend S → IsSend B → IsSend U → IsSend (Share.the_row M S B U g o w e p c)
  share_may_move s b u =
      let T = ShareInside.the_type M S B U g o w e p c in
      let all : AllSend (shape T).fields = (seat_may_move s b u, (events_may_move B b, tt)) in
      view_send _ _ _ _ _ (recorded_send (Struct (shape T)) T.D T.to T.to_one (struct_send (shape T) all))
