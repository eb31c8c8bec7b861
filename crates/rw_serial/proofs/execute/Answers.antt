use Rattle.std.proofs.Common.{◌≡◌, ◌++◌, ◌∙◌, IfErr, Result, Ok, Err, true, ap, subst, refl, arith}
use Rattle.std.specs.List.{slice_set}
use Rattle.std.proofs.lemmas.Result.{on_ok_weaker}
use Rattle.rw_serial.proofs.Lists.{read_there}
use Rattle.rw_serial.proofs.execute.Goals as goal

where_err : {T E P : Type 0} (r : Result T E) (e : E) → (r ≡ Err e → P) → IfErr r (λ x. x ≡ e → P)
where_err (Ok x) e h = tt
where_err (Err x) e h = λ is. h (ap (λ y. Err y) is)

pub returns : goal.returns
returns g c =
    let states = c.args.states.now.items in
    let event = c.args.event.now in
    let step = g.M.Model.step c.args.model.now event.to in
    let state = c.index_mut.result.now in
    let read = c.index_mut.ensures.value in
    record {
      states = on_ok_weaker c.advance.result (λ is s there. ap (slice_set states event.to) (is ∙ ap (λ w. (step w event).0) (read_there states event.to state s read there))) c.advance.ensures.state;
      sends = on_ok_weaker c.advance.result (λ is s there. is ∙ ap (λ l. l ++ (step state event).1) c.clear.ensures.items ∙ ap (λ w. (step w event).1) (read_there states event.to state s read there)) c.advance.ensures.sends;
      exhausted = where_err c.advance.result _ (λ is s there. subst (λ w. g.M.Model.is_exhausted c.args.model.now w ≡ true) (read_there states event.to state s read there) (c.advance.ensures.exhausted.0 is));
    }

pub index_mut-requires : goal.index_mut-requires
index_mut-requires g c = omega (arith, c.requires.process, c.requires.enough, c.args.states.now.ok.0)

pub advance-requires-clause-process : goal.advance-requires-clause-process
advance-requires-clause-process g c = c.requires.process

pub advance-requires-clause-valid : goal.advance-requires-clause-valid
advance-requires-clause-valid g c = c.requires.valid

pub advance-requires-clause-here : goal.advance-requires-clause-here
advance-requires-clause-here g c = refl
