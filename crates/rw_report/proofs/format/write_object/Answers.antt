use Rattle.std.proofs.Common.{◌++◌, eqb, List, ℕ, rules, tests, refl, sym, ◌∙◌, ap, map, codes, append_assoc}
use Rattle.std.specs.List.{join_with_byte}
use Rattle.std.proofs.lemmas.Iterator.{YieldsList-from_zip}
use Rattle.std.proofs.lemmas.Iterator.Consumers.{YieldsList-at, YieldsList-end}
use Rattle.std.proofs.lemmas.Iterator.Splits.{YieldsList-from_slice_split}
use Rattle.rw_report.specs.Formats.{json_member}
use Rattle.rw_report.proofs.Pieces.{comma-more, comma_after, members, members-more, object-more}
use Rattle.rw_report.proofs.format.write_object.Goals as goal

pub loop-name-init : goal.loop-name-init
loop-name-init c = record { text = c.in_ok-push.ensures.items; comma = refl }

pub loop-name-preserved : goal.loop-name-preserved
loop-name-preserved c =
    let old : List ℕ = c.args.text.now.items in
    let so_far = members (λ p. (p.0.now, p.1.now)) c.loop-name.yielded in
    let member : List ℕ = json_member (c.in-Some.name.now, c.in-Some.field.now) in
    let more = members-more (λ p. (p.0.now, p.1.now)) c.loop-name.yielded (c.in-Some.name, c.in-Some.field) in
    record {
      text =
          object-more old c.loop-name.text.items c.extend_from_slice.new.self.items c.write_member.new.text.items c.loop-name.comma.now so_far member
          c.loop-name.invariant.text c.loop-name.invariant.comma c.in_ok-extend_from_slice.ensures.items c.in_ok-write_member.ensures
          ∙ ap (λ ms. old ++ (codes "{" ++ join_with_byte 44 ms)) (sym more);
      comma = comma-more so_far member ∙ ap comma_after (sym more);
    }

pub returns : goal.returns
returns c =
    let old : List ℕ = c.args.text.now.items in
    let end : List ℕ = codes "}\n" in
    let all = YieldsList-end
    (YieldsList-at c.into_iter-name-iterator.ensures.into_iter_gives (YieldsList-from_zip
    (YieldsList-at c.zip-name-items.ensures.first (YieldsList-from_slice_split _ (λ b. eqb b 44) c.args.names.now c.split.ensures.rest c.split.ensures.done c.split.ensures.closure (λ x r q k. search (rules, tests))))
    (YieldsList-at c.zip-name-items.ensures.second (YieldsList-from_slice_split _ (λ b. eqb b 44) c.args.line.now c.split-2.ensures.rest c.split-2.ensures.done c.split-2.ensures.closure (λ x r q k. search (rules, tests))))))
    c.loop-name.yielded c.loop-name.name-iterator c.loop-name.yielded_by c.next.result c.next.new.self c.in-None.is c.next.ensures.steps in
    let so_far = members (λ p. (p.0.now, p.1.now)) c.loop-name.yielded in
    c.in_ok-extend_from_slice-2.ensures.items
    ∙ ap (λ l. l ++ end) c.loop-name.invariant.text
    ∙ append_assoc old (codes "{" ++ join_with_byte 44 so_far) end
    ∙ ap (λ ps. old ++ (codes "{" ++ join_with_byte 44 (map json_member ps) ++ end)) all.0
