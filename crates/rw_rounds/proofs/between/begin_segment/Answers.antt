use Rattle.std.proofs.Common.{length, refl, sym, ap, ◌∙◌, get_or, []}
use Rattle.std.specs.Prelude.{slice_get}
use Rattle.std.proofs.lemmas.List.{length-map}
use Rattle.rw_rounds.proofs.between.begin_segment.Goals as goal

pub returns : goal.returns
returns g c =
    let dealt = c.in_ok-dealt.dealt.items in
    let shares = c.in_ok-shares.shares.items in
    let same = c.in_ok-shares.ensures in
    record {
      stands = record {
        model_is = refl;
        many = sym (length-map shares (λ h. h.items)) ∙ (ap length same ∙ (length-map dealt (λ v. v.items) ∙ c.in_ok-dealt.ensures.count));
        dealt = λ i place below. ap (λ hs. slice_get (get_or hs i []) place) same ∙ c.in_ok-dealt.ensures.each i place below;
        letters_are = refl;
        count_is = c.len.ensures ∙ c.args.parts.processes.ok.0;
        collected_is = refl;
        starts_are = refl;
        initial_are = refl;
      };
    }
