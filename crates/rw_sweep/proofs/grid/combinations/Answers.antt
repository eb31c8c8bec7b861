use Rattle.std.proofs.Common.{ap, ◌∙◌, map}
use Rattle.rw_sweep.specs.Widening.{first_choice, widened}
use Rattle.rw_sweep.specs.declared.axes.Axes.{Axes}
use Rattle.rw_sweep.specs.declared.axes.Axis.TheVariants.{Sections, Block, EdgeBlocks, OriginBlocks, Edges, Origins, Up, Down, Back}
use Rattle.rw_sweep.proofs.Widened.{all-widened, last-widened}
use Rattle.rw_sweep.proofs.grid.combinations.Goals as goal

pub returns : goal.returns
returns c =
    let a : Axes = c.args.axes.now in
    last-widened c.widened-9.result _ _ c.widened-9.ensures (ap (λ ns. widened Back ns c.in_ok-all-9.all.items) c.as_slice-10.ensures.value
    ∙ all-widened a c.in_ok-all.all.items c.in_ok-all-2.all.items c.in_ok-all-3.all.items c.in_ok-all-4.all.items c.in_ok-all-5.all.items c.in_ok-all-6.all.items c.in_ok-all-7.all.items c.in_ok-all-8.all.items c.in_ok-all-9.all.items
    (c.in_ok-all.ensures ∙ ap (map first_choice) c.as_slice.ensures.value)
    (c.in_ok-all-2.ensures ∙ ap (λ ns. widened Sections ns c.in_ok-all.all.items) c.as_slice-2.ensures.value)
    (c.in_ok-all-3.ensures ∙ ap (λ ns. widened Block ns c.in_ok-all-2.all.items) c.as_slice-3.ensures.value)
    (c.in_ok-all-4.ensures ∙ ap (λ ns. widened EdgeBlocks ns c.in_ok-all-3.all.items) c.as_slice-4.ensures.value)
    (c.in_ok-all-5.ensures ∙ ap (λ ns. widened OriginBlocks ns c.in_ok-all-4.all.items) c.as_slice-5.ensures.value)
    (c.in_ok-all-6.ensures ∙ ap (λ ns. widened Edges ns c.in_ok-all-5.all.items) c.as_slice-6.ensures.value)
    (c.in_ok-all-7.ensures ∙ ap (λ ns. widened Origins ns c.in_ok-all-6.all.items) c.as_slice-7.ensures.value)
    (c.in_ok-all-8.ensures ∙ ap (λ ns. widened Up ns c.in_ok-all-7.all.items) c.as_slice-8.ensures.value)
    (c.in_ok-all-9.ensures ∙ ap (λ ns. widened Down ns c.in_ok-all-8.all.items) c.as_slice-9.ensures.value))
