use Rattle.std.proofs.Common.{◌≡◌, sym, ap, ◌∙◌, ℕ, List, Option}
use Rattle.std.specs.Prelude.{Some}
use Rattle.std.specs.Ordering.{nat_cmp}
use Rattle.std.specs.BTreeMap.{insert_entry}
use Rattle.rw_blocks.proofs.Entries.{insert_entry-insert_entry}
use Rattle.rw_photo.specs.Counts.{plus}
use Rattle.rw_photo.specs.Cache.{waiting_more, waiting_in}
use Rattle.rw_photo.proofs.awaited.Awaited.join.Goals as goal

pub returns-in_ok-put-clause-joined : goal.returns-in_ok-put-clause-joined
returns-in_ok-put-clause-joined c =
    let m = c.args.self.now in
    let o = c.args.object in
    let n = c.in-Some.others in
    let waits : waiting_in m o ≡ Some n = sym c.in_ok-before.ensures.before ∙ c.in-Some.is in
    c.in_ok-put.ensures.put
    ∙ (ap (λ (es : List (ℕ × ℕ)). insert_entry nat_cmp es o (plus n 1)) c.in_ok-before.ensures.put
    ∙ (insert_entry-insert_entry m o 1 (plus n 1)
    ∙ ap (λ (w : Option ℕ). insert_entry nat_cmp m o (waiting_more w)) (sym waits)))
