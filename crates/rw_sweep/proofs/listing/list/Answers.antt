use Rattle.std.proofs.Common.{◌≡◌, ◌++◌, ℕ, List, true, false, append_assoc, sym, ap, ◌∙◌, take, take_all}
use Rattle.std.specs.List.{flat_map}
use Rattle.rw_vt.specs.Words.{Position}
use Rattle.rw_sweep.specs.declared.choice.Choice.{Choice}
use Rattle.rw_sweep.specs.declared.point.Point.{Point}
use Rattle.rw_sweep.specs.Lists.{list_header, listed_line}
use Rattle.rw_sweep.specs.Parts.{dealt, is_in_part}
use Rattle.rw_sweep.proofs.Dealt.{dealt-out, text-in, texts-dealt}
use Rattle.rw_sweep.proofs.listing.list.Goals as goal
use Rattle.rw_sweep.proofs.listing.list.Goals.{then-has+in_ok-write_listed, else-has}

abbrev told : Position × Point → List ℕ
told at = listed_line (at.0, at.1.choice)

pub loop-place-preserved : goal.loop-place-preserved
loop-place-preserved c =
    let index : ℕ = c.args.part.index in
    let count : ℕ = c.args.part.count in
    let n : ℕ = c.loop-place.place in
    let points : List Point = c.points-point-items.result.now in
    let p : Point = c.point-item.result in
    let before : List ℕ = flat_map told (dealt index count (take n points)) in
    elim c.if-has.branch [
      | then-has+in_ok-write_listed w ↦
          let is : is_in_part index count n ≡ true = sym c.has.ensures ∙ w.if-has.true in
          let grown : w.write_listed.new.text.items ≡ c.loop-place.text.items ++ told (n, p) = w.in_ok-write_listed.ensures in
          ap (λ o. o.items) w.text-is ∙ (grown ∙ (ap (λ t. t ++ told (n, p)) c.loop-place.invariant ∙ (append_assoc list_header before (told (n, p))
          ∙ ap (λ t. list_header ++ t) (ap (λ (q : Point). before ++ told (n, q)) c.point-item.is ∙ sym (text-in told index count n points p c.loop-place-test.true is)))))
      | else-has w ↦
          let is : is_in_part index count n ≡ false = sym c.has.ensures ∙ w.if-has.false in
          ap (λ o. o.items) w.text-is ∙ (c.loop-place.invariant ∙ ap (λ ats. list_header ++ flat_map told ats) (sym (dealt-out index count n points p c.loop-place-test.true is)))
    ]

pub returns : goal.returns
returns c =
    let index : ℕ = c.args.part.index in
    let count : ℕ = c.args.part.count in
    let points : List Point = c.points-point-items.result.now in
    let chosen : Point → Choice = λ q. q.choice in
    c.loop-place.invariant
    ∙ ap (λ t. list_header ++ t) (ap (λ ps. flat_map told (dealt index count ps)) (take_all c.loop-place.place points c.loop-place-test.false)
    ∙ (texts-dealt chosen listed_line index count points ∙ ap (λ xs. flat_map listed_line (dealt index count xs)) c.points-point-items.ensures.choices))
