use Rattle.std.proofs.Common.{sym, ap, ◌∙◌}
use Rattle.std.proofs.lemmas.List.{take-append-drop}
use Rattle.rw_vt.specs.Order.{event_cmp}
use Rattle.rw_lp.specs.Process.{is_less_than_last, split_last}
use Rattle.rw_lp.proofs.history.Past.is_past.Goals as goal

pub returns : goal.returns
returns g c =
    let p = c.args.self.now in
    c.ends_after.ensures ∙ ap (λ l. is_less_than_last (event_cmp g.M.Body.Ord.cmp) c.args.event.now (split_last l)) (c.deref.ensures.value ∙ sym (take-append-drop p.cut p.done.items))
