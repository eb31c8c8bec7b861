use Rattle.std.proofs.Common.{[], ◌∷◌, ◌++◌, drop, take, sym, ap, ◌∙◌, subst}
use Rattle.std.proofs.lemmas.List.{take-append-le, drop-append-le}
use Rattle.rw_vt.specs.Order.{event_cmp}
use Rattle.rw_vt.proofs.EventOrder.{events_exact}
use Rattle.rw_vt.proofs.Sorting.{IsExactOrder}
use Rattle.rw_lp.specs.Past.{IsRecordOf, history_of}
use Rattle.rw_lp.specs.HeldBack.{letters_given, held_after}
use Rattle.rw_lp.specs.declared.undo_record.UndoRecord.{UndoRecord}
use Rattle.rw_lp.proofs.Chains.{linked_well_formed}
use Rattle.rw_lp.specs.Cut.{seen_of, IsKept}
use Rattle.rw_lp.proofs.Pasts.{past_push}
use Rattle.rw_lp.proofs.history.Past.execute.Goals as goal

pub execute-requires-clause-well_formed : goal.execute-requires-clause-well_formed
execute-requires-clause-well_formed g c =
    let o : IsExactOrder (event_cmp g.M.Body.Ord.cmp) = events_exact (record { total = g.met.M.Body.Ord.total; same = g.met.M.Model.same }) in
    let p = c.args.self.now in
    subst (λ m. g.M.Model.IsWellFormed m p.number p.state) (sym c.requires.model) (linked_well_formed g.M.Model o (seen_of p) p.records (g.met.M.Model.keeps p.model.value) c.requires.kept.linked)

pub returns-clause-kept : goal.returns-clause-kept
returns-clause-kept g c =
    let o : IsExactOrder (event_cmp g.M.Body.Ord.cmp) = events_exact (record { total = g.met.M.Body.Ord.total; same = g.met.M.Model.same }) in
    let p = c.args.self.now in
    let e = c.args.event in
    let m = c.args.model.now in
    let r : UndoRecord g.row.M-Body.Denot g.row.M-Undo.Denot = record { sends = c.execute.new.out.items; undo = c.in_ok-undo.undo } in
    let known : IsRecordOf g.M.Model m p.number p.state e r =
    record {
      valid = c.requires.valid;
      here = c.requires.here;
      sends = c.in_ok-undo.ensures.sends ∙ ap (λ l. l ++ (g.M.Model.step m p.number p.state e).1) c.requires.kept.nothing_waits;
      links = subst (λ w. g.M.Model.Links m p.number p.state e c.in_ok-undo.undo w) c.in_ok-undo.ensures.state c.in_ok-undo.ensures.links;
    } in
    subst (IsKept g.M.Model (event_cmp g.M.Body.Ord.cmp)) (sym c.in_ok-note.ensures.others)
    (past_push g.M.Model o p c.requires.kept c.note.new.self.done c.note.new.self.records c.note.new.self.sends c.execute.new.state e r
    (subst (λ m. IsRecordOf g.M.Model m p.number p.state e r) c.requires.model known)
    c.in_ok-note.ensures.records c.in_ok-note.ensures.done
    (c.in_ok-undo.ensures.state ∙ ap (λ m. (g.M.Model.step m p.number p.state e).0) c.requires.model) c.in_ok-note.ensures.nothing_waits c.requires.late)

pub returns-clause-sent : goal.returns-clause-sent
returns-clause-sent g c =
    let p = c.args.self.now in
    let e = c.args.event in
    let steps = (g.M.Model.step c.args.model.now p.number p.state e).1 in
    let sends = c.as_slice.ensures.value ∙ c.in_ok-undo.ensures.sends ∙ ap (λ l. l ++ steps) c.requires.kept.nothing_waits in
    c.in_ok-resend.ensures.out ∙ ap (λ l. c.args.out.now.items ++ letters_given (event_cmp g.M.Body.Ord.cmp) e l c.args.held.now) sends

pub returns-clause-held : goal.returns-clause-held
returns-clause-held g c =
    let p = c.args.self.now in
    let e = c.args.event in
    let steps = (g.M.Model.step c.args.model.now p.number p.state e).1 in
    let sends = c.as_slice.ensures.value ∙ c.in_ok-undo.ensures.sends ∙ ap (λ l. l ++ steps) c.requires.kept.nothing_waits in
    c.in_ok-resend.ensures.left ∙ ap (λ l. held_after (event_cmp g.M.Body.Ord.cmp) e l c.args.held.now) sends

pub returns-clause-after : goal.returns-clause-after
returns-clause-after g c =
    let p = c.args.self.now in
    let e = c.args.event in
    let now = c.execute.new.state in
    ap seen_of c.in_ok-note.ensures.others
    ∙ ap (λ es. history_of p.model.value p.number p.start.value (take p.cut es) (drop p.cut es) now) c.in_ok-note.ensures.done
    ∙ ap (λ es. history_of p.model.value p.number p.start.value es (drop p.cut (p.done.items ++ e ∷ [])) now) (take-append-le p.cut p.done.items (e ∷ []) c.requires.kept.within)
    ∙ ap (λ es. history_of p.model.value p.number p.start.value (take p.cut p.done.items) es now) (drop-append-le p.cut p.done.items (e ∷ []) c.requires.kept.within)
    ∙ ap (history_of p.model.value p.number p.start.value (take p.cut p.done.items) (drop p.cut p.done.items ++ e ∷ [])) c.in_ok-undo.ensures.state
