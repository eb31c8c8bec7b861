use Rattle.std.proofs.Common.{◌≡◌, ◌+◌, ◌-◌, ◌∷◌, [], ◌++◌, length, ap, ◌∙◌, subst, arith}
use Rattle.std.specs.List.{SwappedAt, swap_remove}
use Rattle.std.proofs.lemmas.List.Edits.{length-swap}
use Rattle.std.proofs.lemmas.List.{length_push}
use Rattle.rw_lp.proofs.PutBack.{rest_length, put_back}
use Rattle.rw_lp.proofs.places.put_back.Goals as goal

pub returns : goal.returns
returns g c = record {
  back = λ before taken within was.
      let left : length c.args.items.now.items + 1 ≡ length before = ap (λ l. length l + 1) was ∙ rest_length before c.args.place taken c.args.item within in
      let pushed : c.push.new.self.items ≡ swap_remove before c.args.place taken ++ c.args.item ∷ [] = c.in_ok-push.ensures.items ∙ ap (λ l. l ++ c.args.item ∷ []) was in
      let last : c.len-last.result ≡ length before - 1 = omega arith in
      let swapped = subst (λ l. SwappedAt l c.swap.new.self.items c.args.place c.len-last.result) pushed c.swap.ensures.by_index in
      let long : length c.swap.new.self.items ≡ length before =
      ap length c.swap.ensures.items ∙ length-swap c.push.new.self.items c.args.place c.len-last.result ∙ ap length c.in_ok-push.ensures.items ∙ length_push c.args.items.now.items c.args.item ∙ left in
      put_back before c.args.place taken c.args.item within c.swap.new.self.items (subst (SwappedAt (swap_remove before c.args.place taken ++ c.args.item ∷ []) c.swap.new.self.items c.args.place) last swapped) long;
}
