use Rattle.std.proofs.Common.{◌+◌, refl, sym, ap, ◌∙◌, subst, arith, length, None}
use Rattle.std.proofs.lemmas.List.{length-replicate, length-set}
use Rattle.std.proofs.lemmas.Option.{slice_get_read}
use Rattle.rw_vt.specs.Order.{event_cmp}
use Rattle.rw_rounds.proofs.Looking.{TellsBefore, tells_more}
use Rattle.rw_rounds.proofs.processes.look_at_each.Goals as goal

pub loop-place-init : goal.loop-place-init
loop-place-init g c = record {
  all = ap length c.in_ok-anew.ensures ∙ length-replicate (length c.args.processes.now) None;
  tells = λ place l below there. absurd (omega arith);
}

pub loop-place-preserved : goal.loop-place-preserved
loop-place-preserved g c =
    let xs = c.args.processes.now in
    let k = c.loop-place.place in
    let known = c.loop-place.invariant in
    let x = c.index-processes-place.result in
    record {
      all = ap length c.set.ensures ∙ length-set c.loop-place.anew k c.next_of.result ∙ known.all;
      tells = subst (λ next. TellsBefore (event_cmp g.M.Body.Ord.cmp) xs next (k + 1)) (sym c.set.ensures)
          (tells_more (event_cmp g.M.Body.Ord.cmp) xs c.loop-place.anew k x c.next_of.result (slice_get_read xs (length xs) k x refl c.loop-place-test.true c.index-processes-place.is) (omega (arith, known.all, c.loop-place-test.true)) c.next_of.ensures known.tells);
    }

pub returns-clause-all : goal.returns-clause-all
returns-clause-all g c = c.loop-place.invariant.all

pub returns-clause-tells : goal.returns-clause-tells
returns-clause-tells g c = record { at = λ place l within there. c.loop-place.invariant.tells place l (omega (arith, within, c.loop-place.invariant.all, c.loop-place-test.false)) there }
