-- The lines of a configuration.
use Rattle.std.proofs.Common.{◌≡◌, List, [], ◌∷◌, ◌++◌, append_assoc, append-nil, take, drop, sym, ap, ◌∙◌, ℕ, Result, Ok, Err}
use Rattle.std.specs.Prelude.{OnOk}
use Rattle.std.specs.List.{flat_map}
use Rattle.rw_photo.specs.declared.config.Config.{Config}
use Rattle.rw_photo.specs.declared.counters.Counters.{Counters}
use Rattle.rw_report.specs.Report.{totals}
use Rattle.rw_sweep.specs.declared.choice.Choice.{Choice}
use Rattle.rw_report.specs.declared.columns.Caches.TheVariants.{Edges, Origins, All}
use Rattle.rw_sweep.specs.Table.{Conditions, line_with, sweep_lines}

-- three texts one after another
pub three-pieces : {E : Type 0} (r : Result (Unit {0}) E) (text a b d t₁ t₂ t₃ : List ℕ) → t₁ ≡ text ++ a → t₂ ≡ t₁ ++ b → OnOk r (t₃ ≡ t₂ ++ d) → OnOk r (t₃ ≡ text ++ ((a ++ b) ++ d))
three-pieces (Err e) text a b d t₁ t₂ t₃ h₁ h₂ h₃ = tt
three-pieces (Ok u) text a b d t₁ t₂ t₃ h₁ h₂ h₃ =
    h₃ ∙ (ap (λ t. t ++ d) (h₂ ∙ ap (λ t. t ++ b) h₁) ∙ (append_assoc (text ++ a) b d ∙ (append_assoc text a (b ++ d) ∙ ap (λ t. text ++ t) (sym (append_assoc a b d)))))

-- three lines one after another, each behind the same
behind-each : (f e o a t₁ t₂ t₃ : List ℕ) → t₁ ≡ f ++ e → t₂ ≡ t₁ ++ (f ++ o) → t₃ ≡ t₂ ++ (f ++ a) → t₃ ≡ flat_map (λ line. f ++ line) (e ∷ o ∷ a ∷ [])
behind-each f e o a t₁ t₂ t₃ h₁ h₂ h₃ =
    h₃ ∙ (ap (λ t. t ++ (f ++ a)) (h₂ ∙ ap (λ t. t ++ (f ++ o)) h₁)
    ∙ (append_assoc (f ++ e) (f ++ o) (f ++ a) ∙ ap (λ t. (f ++ e) ++ ((f ++ o) ++ t)) (sym (append-nil (f ++ a)))))

-- the three lines, from what the edges, the origins and all have counted
pub three-lines : (f : List ℕ) (c : Config) (x : Choice) (n : Conditions) (ks : List Counters) (e o a : Counters) (t t₁ t₂ t₃ : List ℕ) → t ≡ []
    → e ≡ totals (take c.edges ks) → o ≡ totals (drop c.edges ks) → a ≡ totals ks
    → t₁ ≡ t ++ (f ++ line_with c x n Edges e o) → t₂ ≡ t₁ ++ (f ++ line_with c x n Origins o o) → t₃ ≡ t₂ ++ (f ++ line_with c x n All a o)
    → t₃ ≡ flat_map (λ line. f ++ line) (sweep_lines c x n ks)
three-lines f c x n ks e o a t t₁ t₂ t₃ h edges origins all h₁ h₂ h₃ =
    behind-each f (line_with c x n Edges e o) (line_with c x n Origins o o) (line_with c x n All a o) t₁ t₂ t₃ (h₁ ∙ ap (λ l. l ++ (f ++ line_with c x n Edges e o)) h) h₂ h₃
    ∙ (λ i. flat_map (λ line. f ++ line) (line_with c x n Edges (edges i) (origins i) ∷ line_with c x n Origins (origins i) (origins i) ∷ line_with c x n All (all i) (origins i) ∷ []))
