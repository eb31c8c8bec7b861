-- What a sweep leaves behind that fails.
use Rattle.std.proofs.Common.{◌≡◌, Result, refl, inl, inr}
use Rattle.std.specs.Prelude.{◌≢◌, ◌⊎◌, IfErr, IsErrAnd, None, Option, Some}
use Rattle.rw_trace.specs.Words.{Text}
use Rattle.rw_trace.specs.declared.TraceFault.{TraceFault}
use Rattle.rw_report.specs.declared.sim_fault.SimFault.{SimFault}
use Rattle.rw_report.specs.declared.sim_fault.SimFault.TheVariants as run
use Rattle.rw_report.specs.declared.intervals.Outlook.{Outlook}
use Rattle.rw_sweep.specs.declared.axes.Axes.{Axes}
use Rattle.rw_sweep.specs.declared.part.Part.{Part}
use Rattle.rw_sweep.specs.InMemory.{HasSweptFirstUnder, IsFaultUnder}
use Rattle.rw_sweep.specs.OverTime.{IsOverTimeFault}
use Rattle.rw_sweep.specs.Parts.{IsPartSweepFault}
use Rattle.rw_sweep.specs.Sweep.{IsSweepFault}
use Rattle.rw_command.specs.declared.fault.Fault.{Fault}
use Rattle.rw_command.specs.declared.fault.Fault.TheVariants as fault
use Rattle.rw_command.specs.Left.{LeavesLines}
use Rattle.rw_command.specs.Status.{status_of, status_of_run}
use Rattle.rw_command.proofs.Statuses.{handed-on-as}

-- nothing, or the lines that a sweep has written: so many as have this status
left-over : {Same Lines Left : Type 0} → (Lines → Left) → Same ⊎ Lines → Same ⊎ Left
left-over f (inl s) = inl s
left-over f (inr l) = inr (f l)

-- faults that no sweep has
no-fault : (a : Axes) (part : Option Part) (o : Outlook) (bytes : Text) (e : SimFault) → (IsSweepFault a bytes e → ⊥) → ((p : Part) → IsPartSweepFault a p.index p.count bytes e → ⊥) → (IsOverTimeFault a part o bytes e → ⊥) → IsFaultUnder a part o bytes e → ⊥
no-fault a None o bytes e whole of_part over_time (inl (asks, h)) = whole h
no-fault a (Some p) o bytes e whole of_part over_time (inl (asks, h)) = of_part p h
no-fault a part o bytes e whole of_part over_time (inr (more, h)) = over_time h

pub left-by-sweep : {Same : Type 0} (a : Axes) (part : Option Part) (o : Outlook) (bytes : Text) (before after : Option Text) (e : SimFault) → IsFaultUnder a part o bytes e → ((f : TraceFault) → e ≡ run.Trace f → Same) → (e ≡ run.Plan → Same) → (e ≢ run.Output → Same ⊎ HasSweptFirstUnder a part o bytes before after) → status_of_run e ≢ 8 → Same ⊎ LeavesLines (status_of_run e) before after
left-by-sweep a part o bytes before after (run.Trace f) is refused early lines other = inl (refused f refl)
left-by-sweep a part o bytes before after run.Exhausted is refused early lines other = left-over (λ h. (inr refl, (a, part, o, bytes, h))) (lines (λ same. cc))
left-by-sweep a part o bytes before after run.Memory is refused early lines other = left-over (λ h. (inl refl, (a, part, o, bytes, h))) (lines (λ same. cc))
left-by-sweep a part o bytes before after run.Plan is refused early lines other = inl (early refl)
left-by-sweep a part o bytes before after run.Output is refused early lines other = absurd (other refl)
left-by-sweep a part o bytes before after run.Read is refused early lines other = absurd (no-fault a part o bytes run.Read (λ h. h) (λ p h. h) (λ h. h) is)
left-by-sweep a part o bytes before after run.Rounds is refused early lines other = absurd (no-fault a part o bytes run.Rounds (λ h. h) (λ p h. h) (λ h. h) is)
left-by-sweep a part o bytes before after run.NoThread is refused early lines other = absurd (no-fault a part o bytes run.NoThread (λ h. h) (λ p h. h) (λ h. h) is)

-- the same, where a `?` hands the fault on
pub handed-left : {T Same : Type 0} (r : Result T Fault) (e : SimFault) (before after : Option Text) → IsErrAnd r (λ y. y ≡ fault.Run e) → (status_of_run e ≢ 8 → Same ⊎ LeavesLines (status_of_run e) before after) → IfErr r (λ f. status_of f ≢ 8 → Same ⊎ LeavesLines (status_of f) before after)
handed-left {Same = Same} r e before after is left = handed-on-as r (fault.Run e) (λ f. status_of f ≢ 8 → Same ⊎ LeavesLines (status_of f) before after) is left
