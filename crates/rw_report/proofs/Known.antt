-- Rows that a trace gives: what holds of all that was to come holds of the trace, where its bytes are known.
use Rattle.std.proofs.Common.{◌≡◌, ◌^◌, ℕ, List, inl, inr, Option, Some, None, Ok, ap, ◌∙◌, subst}
use Rattle.std.specs.Prelude.{IfSome}
use Rattle.rw_trace.specs.declared.Row.{Row}
use Rattle.rw_trace.specs.Words.{Text}
use Rattle.rw_trace.specs.Trace.{trace_of}
use Rattle.rw_trace.specs.Unread.{records_of}
use Rattle.rw_trace.specs.Pieces.{Ahead, AreAll, ordered_trace_of}
use Rattle.rw_trace.proofs.Ordered.{ordered_accepted}
use Rattle.rw_report.specs.declared.sim_fault.SimFault.{SimFault}
use Rattle.rw_report.specs.declared.sim_fault.SimFault.TheVariants as sim
use Rattle.rw_photo.specs.declared.config.Config.{Config}
use Rattle.rw_report.specs.declared.format.Format.TheVariants as format
use Rattle.rw_report.specs.declared.intervals.Outlook.{Outlook}
use Rattle.rw_report.specs.Replay.{HasBegunToStream, HasBegunToTellOfRows, HasStreamed, HasToldOfRows, IsReportOf, IsRowsTellingFault, IsStreamingFault, TellsOfRows, TellsOfStream}
use Rattle.rw_report.specs.Streams.{IsExhaustingFirst}

-- what a reader has to give is what its bytes say, where they are known
abbrev pub Opened : Config → Option Text → Ahead → Type 0
Opened c known ahead = IfSome known (λ xs. ahead ≡ Some (ordered_trace_of c.edges (2 ^ 40) (records_of xs)))

pub opened : (c : Config) (edges : ℕ) (known : Option Text) (ahead : Ahead) → edges ≡ c.edges → IfSome known (λ xs. ahead ≡ Some (ordered_trace_of edges (2 ^ 40) (records_of xs))) → Opened c known ahead
opened c edges None ahead same is = tt
opened c edges (Some xs) ahead same is = is ∙ ap (λ n. Some (ordered_trace_of n (2 ^ 40) (records_of xs))) same

unknown : (c : Config) (ahead : Ahead) → IsExhaustingFirst c ahead → IsExhaustingFirst c None
unknown c ahead h = record {
  rows = h.rows;
  rest = None;
  until = h.until;
  first = inl tt;
  rising = h.rising;
  soon = elim h.soon [ inl l ↦ inl l | inr r ↦ inr (tt, r.1) ];
  met = h.met;
}

-- a fault of the rows is one of the trace
pub fault_known : (c : Config) (o : Outlook) (ahead : Ahead) (e : SimFault) → IsRowsTellingFault c o ahead e → (known : Option Text) → Opened c known ahead → IsStreamingFault c o known e
fault_known c o ahead (sim.Trace f) h None is = tt
fault_known c o ahead (sim.Trace f) h (Some xs) is = subst (λ a. IsRowsTellingFault c o a (sim.Trace f)) is h
fault_known c o ahead sim.Read h known is = tt
fault_known c o ahead sim.Memory h known is = tt
fault_known c o ahead sim.Rounds h known is = absurd h
fault_known c o ahead sim.NoThread h known is = absurd h
fault_known c o ahead sim.Exhausted h None is = unknown c ahead h
fault_known c o ahead sim.Exhausted h (Some xs) is = subst (IsExhaustingFirst c) is h
fault_known c o ahead sim.Plan h known is = h
fault_known c o ahead sim.Output h known is = tt

accepted : (c : Config) (ahead : Ahead) (rows : List Row) → AreAll ahead rows → (known : Option Text) → Opened c known ahead → IfSome known (λ xs. trace_of c.edges (2 ^ 40) (records_of xs) ≡ Ok rows)
accepted c ahead rows all None is = tt
accepted c ahead rows all (Some xs) is = (ordered_accepted c.edges (2 ^ 40) (records_of xs) rows (subst (λ a. AreAll a rows) is all)).0

tells_known : (c : Config) (o : Outlook) (ahead : Ahead) (known : Option Text) → Opened c known ahead → (text : Text) → TellsOfRows c o ahead text → TellsOfStream c o known text
tells_known c o ahead known is text h = record {
  rows = h.rows;
  streamed = record { accepted = accepted c ahead h.rows h.given known is; rising = h.rising };
  tells = h.tells;
}

-- what is told of the rows is told of the trace
pub told_known : (c : Config) (o : Outlook) (ahead : Ahead) (known : Option Text) → Opened c known ahead → (before after : Option Text) → HasToldOfRows c o ahead before after → HasStreamed c o known before after
told_known c o ahead known is before after h = (h.0, tells_known c o ahead known is h.0 h.1, h.2)

pub begun_known : (c : Config) (o : Outlook) (ahead : Ahead) (known : Option Text) → Opened c known ahead → (before after : Option Text) → HasBegunToTellOfRows c o ahead before after → HasBegunToStream c o known before after
begun_known c o ahead known is before after h = (h.0, tells_known c o ahead known is h.0 h.1, h.2)

-- what is told of the rows of a trace in memory, where nothing else is asked for, is its report
pub report_known : (c : Config) (o : Outlook) (edges : ℕ) (ahead : Ahead) (bytes : Text) → o.warm_up ≡ None → o.every ≡ None → o.format ≡ format.Text → edges ≡ c.edges → ahead ≡ Some (ordered_trace_of edges (2 ^ 24) (records_of bytes))
    → (text : Text) → TellsOfRows c o ahead text → IsReportOf c bytes text
report_known c o edges ahead bytes no_warm_up no_every as_text same is text h =
    let run = h.tells.report no_warm_up no_every as_text in
    let known = is ∙ ap (λ n. Some (ordered_trace_of n (2 ^ 24) (records_of bytes))) same in
    record {
      rows = h.rows;
      journals = run.journals;
      states = run.states;
      accepted = (ordered_accepted c.edges (2 ^ 24) (records_of bytes) h.rows (subst (λ a. AreAll a h.rows) known h.given)).0;
      outcome = run.outcome;
      told = run.told;
    }
