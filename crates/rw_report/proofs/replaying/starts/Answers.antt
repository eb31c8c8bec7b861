use Rattle.std.proofs.Common.{◌≡◌, ℕ, List, ◌++◌, ◌∷◌, [], Some, sym, ◌∙◌, ap, subst, arith, length, map}
use Rattle.std.specs.Prelude.{slice_get}
use Rattle.std.specs.List.{range_with_len}
use Rattle.std.proofs.lemmas.List.FromFn.{length-map-range_with_len, map-range_with_len_more}
use Rattle.rw_photo.specs.declared.config.Config.{Config}
use Rattle.rw_photo.specs.Cache.{Cache, IsWellFormed, start}
use Rattle.rw_report.proofs.Runs.{pushed}
use Rattle.rw_report.proofs.replaying.starts.Goals as goal

pub loop-process-preserved : goal.loop-process-preserved
loop-process-preserved c =
    let config : Config = c.args.photo.now.config in
    let n : ℕ = c.loop-process.process in
    let states : List Cache = c.loop-process.states.items in
    let next : Cache = c.in_ok-start.field-0 in
    let items : c.push.new.self.items ≡ states ++ next ∷ [] = c.in_ok-push.ensures.items in
    let long : length states ≡ n = ap length c.loop-process.invariant.states ∙ length-map-range_with_len (start config) 0 n in
    record {
      states = items ∙ (ap (λ l. l ++ next ∷ []) c.loop-process.invariant.states
          ∙ (ap (λ s. map (start config) (range_with_len 0 n) ++ s ∷ []) c.in_ok-start.ensures.state ∙ sym (map-range_with_len_more (start config) 0 n n (omega arith))));
      well_formed = λ p s there. pushed (IsWellFormed config) states next c.loop-process.invariant.well_formed
          (subst (λ k. IsWellFormed config k next) (sym long) c.in_ok-start.ensures.well_formed) p s (subst (λ l. slice_get l p ≡ Some s) items there);
    }
