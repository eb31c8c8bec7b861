-- What rounds of one worker come to.
use Rattle.std.specs.Prelude.{◌≡◌, ◌≤◌, ◌*◌}
use Rattle.rw_vt.specs.Words.{Count}
use Rattle.rw_vt.specs.Limits.{end_of_time}
use Rattle.rw_vt.specs.System.{System}
use Rattle.rw_serial.specs.Counts.{events_below}
use Rattle.rw_rounds.specs.declared.plan.Plan.{Plan}
use Rattle.rw_rounds.specs.declared.traffic.Traffic.{Traffic}
use Rattle.rw_rounds.specs.declared.stop.Stop.{Stop}
use Rattle.rw_rounds.specs.declared.stop.Stop.TheVariants as stop
use Rattle.rw_rounds.specs.Plans.{IsInRanges}

-- so many rounds of one worker execute these events: one at least, and no more than have room for them
pub record AreRoundsOf (plan : Plan) (events rounds : Count) : Type 0 where
  pub one : 1 ≤ rounds
  pub enough : events ≤ rounds * (plan.turns * plan.batch)
  pub fewest : (fewer : Count) → 1 ≤ fewer → events ≤ fewer * (plan.turns * plan.batch)
      → rounds ≤ fewer

-- what rounds of one worker did: each event was executed once, none was undone, and no letter left the worker
pub record IsTrafficAlone (plan : Plan) (events : Count) (traffic : Traffic) : Type 0 where
  pub rounds : AreRoundsOf plan events traffic.rounds
  pub executed : traffic.executed ≡ events
  pub undone : traffic.undone ≡ 0
  pub letters : (traffic.ring ≡ 0) × (traffic.kept ≡ 0)

-- what rounds of one worker did that made the whole run of y
abbrev pub IsTrafficOfRun : {S B : Type 0} → Plan → System S B → Traffic → Type 0
IsTrafficOfRun plan y traffic = IsTrafficAlone plan (events_below y end_of_time) traffic

-- what rounds of one worker may stop for: that rounds are used up or that there is no thread is no reason, and want of
-- memory may come anywhere
abbrev pub MayStopAlone : Plan → Stop → Type 0
MayStopAlone plan stop.Memory = Unit {0}
MayStopAlone plan stop.BadPlan = IsInRanges plan → ⊥
MayStopAlone plan stop.NoThread = ⊥
MayStopAlone plan stop.RoundsUsed = ⊥
MayStopAlone plan _ = IsInRanges plan
