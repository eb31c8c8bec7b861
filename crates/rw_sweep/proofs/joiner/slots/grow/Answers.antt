use Rattle.std.proofs.Common.{◌≡◌, ◌≤◌, ◌+◌, ◌++◌, ◌∷◌, ◌∙◌, [], List, ap, arith, length, length-append, refl, rules, subst, sym, true}
use Rattle.std.specs.Result.{is_ok}
use Rattle.rw_sweep.specs.declared.joiner.slots.Slot.{Slot}
use Rattle.rw_sweep.specs.JoinSlots.{HaveGained}
use Rattle.rw_sweep.proofs.Gaining.{empty-more, gained-nothing, gained-then}
use Rattle.rw_sweep.proofs.joiner.slots.grow.Goals as goal

pub loop-alloc-init : goal.loop-alloc-init
loop-alloc-init c =
    let old : List Slot = c.args.slots.now.items in
    record { gained = gained-nothing old; more = omega arith; most = omega arith }

pub loop-alloc-preserved : goal.loop-alloc-preserved
loop-alloc-preserved c =
    let old : List Slot = c.args.slots.now.items in
    let mid : List Slot = c.loop-alloc.slots.items in
    let slot : Slot = record { count = 0; text = c.new.result } in
    let good : is_ok c.push.result ≡ true = search rules in
    let pushed : c.push.new.self.items ≡ mid ++ slot ∷ [] = rw good at c.push.ensures.items in
    let more : HaveGained [] mid (mid ++ slot ∷ []) = empty-more mid slot refl c.new.ensures.items in
    let long : length c.push.new.self.items ≡ length mid + 1 = ap length pushed ∙ length-append mid (slot ∷ []) in
    let short : length mid ≤ c.args.index = omega (arith, c.loop-alloc-test.true, c.len.ensures, c.loop-alloc.slots.ok.0) in
    let was_more : length old ≤ length mid = c.loop-alloc.invariant.more in
    record {
      gained = subst (λ new. HaveGained [] old new) (sym pushed) (gained-then [] [] old mid (mid ++ slot ∷ []) c.loop-alloc.invariant.gained more);
      more = omega (arith, long, was_more);
      most = omega (arith, long, short);
    }
