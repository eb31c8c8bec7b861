-- Laws of faults and their statuses.
use Rattle.std.proofs.Common.{◌≡◌, ℕ, Result, Ok, Err, refl, sym, subst, inl, inr, arith}
use Rattle.std.specs.Prelude.{◌≢◌, ◌≤◌, ◌↔◌, ◌⊎◌, IfErr, IsErrAnd}
use Rattle.rw_report.specs.declared.sim_fault.SimFault.{SimFault}
use Rattle.rw_report.specs.declared.sim_fault.SimFault.TheVariants as run
use Rattle.rw_report.specs.declared.schedule_text.ScheduleFault.{ScheduleFault}
use Rattle.rw_report.specs.declared.schedule_text.ScheduleFault.TheVariants as schedule
use Rattle.rw_import.specs.declared.fault.ImportFault.{ImportFault}
use Rattle.rw_import.specs.declared.fault.ImportFault.TheVariants as log
use Rattle.rw_sweep.specs.declared.joiner.join_fault.JoinFault.{JoinFault}
use Rattle.rw_sweep.specs.declared.joiner.join_fault.JoinFault.TheVariants as parts
use Rattle.rw_plot.specs.declared.plot_fault.PlotFault.{PlotFault}
use Rattle.rw_plot.specs.declared.plot_fault.PlotFault.TheVariants as table
use Rattle.rw_command.specs.declared.fault.Fault.{Fault}
use Rattle.rw_command.specs.declared.fault.Fault.TheVariants as fault
use Rattle.rw_command.specs.declared.source.SourceFault.{SourceFault}
use Rattle.rw_command.specs.declared.source.SourceFault.TheVariants as source
use Rattle.rw_command.specs.Status.{status_of, status_of_log, status_of_parts, status_of_run, status_of_schedule, status_of_source, status_of_table}

-- the one fault of a run whose status is 8 is the writer's
pub run-of-8 : (f : SimFault) → status_of_run f ≡ 8 → f ≡ run.Output
run-of-8 run.Plan is = absurd (omega (arith, is))
run-of-8 (run.Trace f) is = absurd (omega (arith, is))
run-of-8 run.Read is = absurd (omega (arith, is))
run-of-8 run.Memory is = absurd (omega (arith, is))
run-of-8 run.Rounds is = absurd (omega (arith, is))
run-of-8 run.NoThread is = absurd (omega (arith, is))
run-of-8 run.Exhausted is = absurd (omega (arith, is))
run-of-8 run.Output is = refl

-- the fault of a log whose status is 8 is the writer's
pub log-of-8 : (f : ImportFault) → status_of_log f ≡ 8 → f ≡ log.Output
log-of-8 log.Output is = refl
log-of-8 log.Read is = absurd (omega (arith, is))
log-of-8 log.Memory is = absurd (omega (arith, is))
log-of-8 f is = absurd (omega (arith, is))

-- no table and no part fails by the writer
pub table-not-8 : (f : PlotFault) → status_of_table f ≢ 8
table-not-8 table.Memory = λ is. omega (arith, is)
table-not-8 f = λ is. omega (arith, is)

pub parts-not-8 : (f : JoinFault) → status_of_parts f ≢ 8
parts-not-8 parts.Memory = λ is. omega (arith, is)
parts-not-8 f = λ is. omega (arith, is)

-- and no file that is read
pub source-not-8 : (f : SourceFault) → status_of_source f ≢ 8
source-not-8 source.Read = λ is. omega (arith, is)
source-not-8 source.Memory = λ is. omega (arith, is)

-- and no schedule
pub schedule-not-8 : (f : ScheduleFault) → status_of_schedule f ≢ 8
schedule-not-8 (schedule.Word n) = λ is. omega (arith, is)
schedule-not-8 schedule.Memory = λ is. omega (arith, is)

-- a call failed by the writer exactly where P; so did what hands its fault on
pub by-run : {T U : Type 0} (l : Result U SimFault) (r : Result T Fault) (e : SimFault) (P : Type 0) → l ≡ Err e → IsErrAnd r (λ y. y ≡ fault.Run e) → ((l ≡ Err run.Output) ↔ P) → (IsErrAnd r (λ f. status_of f ≡ 8) ↔ P)
by-run l (Ok t) e P was is same = absurd is
by-run l (Err y) e P was is same = (
  λ of8. let at : status_of_run e ≡ 8 = subst (λ f. status_of f ≡ 8) is of8 in let out = run-of-8 e at in same.0 cc,
  λ p. let failed = same.1 p in let out : e ≡ run.Output = cc in subst (λ f. status_of f ≡ 8) (sym is) (subst (λ e. status_of_run e ≡ 8) (sym out) refl),
)

pub by-log : {T U : Type 0} (l : Result U ImportFault) (r : Result T Fault) (e : ImportFault) (P : Type 0) → l ≡ Err e → IsErrAnd r (λ y. y ≡ fault.Import e) → ((l ≡ Err log.Output) ↔ P) → (IsErrAnd r (λ f. status_of f ≡ 8) ↔ P)
by-log l (Ok t) e P was is same = absurd is
by-log l (Err y) e P was is same = (
  λ of8. let at : status_of_log e ≡ 8 = subst (λ f. status_of f ≡ 8) is of8 in let out = log-of-8 e at in same.0 cc,
  λ p. let failed = same.1 p in let out : e ≡ log.Output = cc in subst (λ f. status_of f ≡ 8) (sym is) (subst (λ e. status_of_log e ≡ 8) (sym out) refl),
)

-- a call did not fail, and so no writer did
pub by-none : {T U E : Type 0} (l : Result U E) (t : T) (u : U) (o : E) (Q : Fault → Type 0) (P : Type 0) → l ≡ Ok u → ((l ≡ Err o) ↔ P) → (P → ⊥)
by-none l t u o Q P was same = λ p. let failed = same.1 p in absurd cc

-- an error that is not the writer's, and no failure
pub not-of-writer : {T : Type 0} (r : Result T Fault) (e : Fault) (n : ℕ) → IsErrAnd r (λ y. y ≡ e) → status_of e ≢ 8 → (IsErrAnd r (λ f. status_of f ≡ 8) ↔ (n ≢ n))
not-of-writer (Ok t) e n is other = absurd is
not-of-writer (Err y) e n is other = (λ of8. absurd (other (subst (λ f. status_of f ≡ 8) is of8)), λ more. absurd (more refl))

-- what holds where the writer did not fail holds where the status is another one
pub quiet-run : {T : Type 0} (r : Result T Fault) (e : SimFault) (P : Type 0) → IsErrAnd r (λ y. y ≡ fault.Run e) → (e ≢ run.Output → P) → IfErr r (λ f. status_of f ≢ 8 → P)
quiet-run (Ok t) e P is quiet = tt
quiet-run (Err y) e P is quiet = λ other. quiet (λ out. other (subst (λ f. status_of f ≡ 8) (sym is) (subst (λ e. status_of_run e ≡ 8) (sym out) refl)))

-- what is said of a call in fewer words holds in more
pub or-left : {T : Type 0} (Same : Type 0) (r : Result T Fault) (Left : ℕ → Type 0) → IfErr r (λ f. status_of f ≢ 8 → Same) → IfErr r (λ f. status_of f ≢ 8 → Same ⊎ Left (status_of f))
or-left Same (Ok t) Left quiet = tt
or-left Same (Err f) Left quiet = λ other. inl (quiet other)

into-more : {Same Less More : Type 0} → (Less → More) → Same ⊎ Less → Same ⊎ More
into-more into (inl same) = inl same
into-more into (inr less) = inr (into less)

pub more-left : {T : Type 0} (Same : Type 0) (r : Result T Fault) (Less More : ℕ → Type 0) → ((n : ℕ) → Less n → More n) → IfErr r (λ f. status_of f ≢ 8 → Same ⊎ Less (status_of f)) → IfErr r (λ f. status_of f ≢ 8 → Same ⊎ More (status_of f))
more-left Same (Ok t) Less More into quiet = tt
more-left Same (Err f) Less More into quiet = λ other. into-more (into (status_of f)) (quiet other)

-- each fault has a status from 2 to 8
pub log-in-range : (f : ImportFault) → (2 ≤ status_of_log f) × (status_of_log f ≤ 8)
log-in-range log.Output = (omega arith, omega arith)
log-in-range log.Read = (omega arith, omega arith)
log-in-range log.Memory = (omega arith, omega arith)
log-in-range f = (omega arith, omega arith)

pub table-in-range : (f : PlotFault) → (2 ≤ status_of_table f) × (status_of_table f ≤ 8)
table-in-range table.Memory = (omega arith, omega arith)
table-in-range f = (omega arith, omega arith)

pub parts-in-range : (f : JoinFault) → (2 ≤ status_of_parts f) × (status_of_parts f ≤ 8)
parts-in-range parts.Memory = (omega arith, omega arith)
parts-in-range f = (omega arith, omega arith)

pub run-in-range : (f : SimFault) → (2 ≤ status_of_run f) × (status_of_run f ≤ 8)
run-in-range run.Plan = (omega arith, omega arith)
run-in-range (run.Trace f) = (omega arith, omega arith)
run-in-range run.Read = (omega arith, omega arith)
run-in-range run.Memory = (omega arith, omega arith)
run-in-range run.Rounds = (omega arith, omega arith)
run-in-range run.NoThread = (omega arith, omega arith)
run-in-range run.Exhausted = (omega arith, omega arith)
run-in-range run.Output = (omega arith, omega arith)

pub fault-in-range : (f : Fault) → (2 ≤ status_of f) × (status_of f ≤ 8)
fault-in-range (fault.Source source.Read) = (omega arith, omega arith)
fault-in-range (fault.Source source.Memory) = (omega arith, omega arith)
fault-in-range (fault.Run f) = run-in-range f
fault-in-range (fault.Schedule (schedule.Word n)) = (omega arith, omega arith)
fault-in-range (fault.Schedule schedule.Memory) = (omega arith, omega arith)
fault-in-range (fault.Import f) = log-in-range f
fault-in-range (fault.Plot f) = table-in-range f
fault-in-range (fault.Join f) = parts-in-range f
fault-in-range f = (omega arith, omega arith)

-- what holds of an error in other words holds where that one was handed on in these
pub handed-on-as : {T E : Type 0} (r : Result T E) (e : E) (P : E → Type 0) → IsErrAnd r (λ y. y ≡ e) → P e → IfErr r P
handed-on-as (Ok t) e P is p = tt
handed-on-as (Err y) e P is p = subst P (sym is) p

-- what a `?` hands on
pub ruleset handing_on = (by-run, by-log, not-of-writer, quiet-run, table-not-8, parts-not-8, schedule-not-8, source-not-8)
