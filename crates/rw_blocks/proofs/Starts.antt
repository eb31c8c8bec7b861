-- The start state is well formed.
use Rattle.std.proofs.Common.{◌≡◌, ℕ, zero, suc, ◌+◌, ◌<◌, [], ◌∷◌, get_or, refl, arith, inl, inr}
use Rattle.std.proofs.lemmas.Bool.{cases_eq}
use Rattle.std.specs.List.Sorted.{IsStrictlySortedBy}
use Rattle.rw_blocks.specs.declared.Kind.{Kind}
use Rattle.rw_blocks.specs.declared.Kind.TheVariants.{Device, Virtual}
use Rattle.rw_blocks.specs.Sections.{new_section, section_in}
use Rattle.rw_blocks.specs.State.{ShapeState, IsShape, start_of}
use Rattle.rw_blocks.specs.Sums.{bytes_held}
use Rattle.rw_blocks.specs.Loose.{IsLoose, IsWellFormedQueue, count}
use Rattle.rw_blocks.specs.Weights.{weight_in, IsWeighed}
use Rattle.rw_blocks.proofs.Grown.{one, one-other, one-both}

start-count : (l : ShapeState) (kind : Kind) (b : ℕ) → count kind (start_of l) b ≡ one Device 0 kind b + one Virtual 1 kind b
start-count l kind b = omega arith

start-bytes_held : (l : ShapeState) (kind : Kind) (b : ℕ) → bytes_held kind (start_of l) b ≡ 0
start-bytes_held l Device b = refl
start-bytes_held l Virtual b = refl

pub IsLoose-start : (l : ShapeState) → IsShape l.sections l.block l.blocks → IsLoose (start_of l)
unfolding IsStrictlySortedBy
IsLoose-start l shaped =
    record {
      shaped = shaped;
      some_section = omega arith;
      few_sections = shaped.0;
      distinct = λ b. elim (cases_eq 0 b) [
        | inl e ↦ omega (arith, start-count l Device b, start-count l Virtual b, one-both Device 0 b, one-other Virtual 1 Device b (λ f. omega arith), one-other Virtual 1 Virtual b (λ f. omega arith))
        | inr n ↦ omega (arith, start-count l Device b, start-count l Virtual b, one-both Virtual 1 b, one-other Device 0 Device b n, one-other Device 0 Virtual b n)
      ];
      below = λ b ge. omega (arith, start-count l Device b, start-count l Virtual b, one-other Device 0 Device b (λ e. omega arith), one-other Device 0 Virtual b (λ e. omega arith), one-other Virtual 1 Device b (λ e. omega arith), one-other Virtual 1 Virtual b (λ e. omega arith));
      homes = λ k d lt. absurd (omega arith);
      places = λ k d lt. absurd (omega arith);
      sizes = λ k d lt. absurd (omega arith);
      fills = λ kind b once. omega (arith, start-bytes_held l kind b);
      within = omega arith;
      ordered = tt;
    }

pub IsWellFormed-start : (l : ShapeState) → IsShape l.sections l.block l.blocks → IsWellFormedQueue (start_of l)
IsWellFormed-start l shaped =
    record {
      loose = IsLoose-start l shaped;
      used = λ b is. absurd (cc);
      few_devices = omega arith;
    }

-- no bytes are in the one section that is there at the start
pub IsWeighed-start : IsWeighed [] (new_section 0 1 ∷ []) (0 ∷ [])
IsWeighed-start = record { long = refl; each = at }
  where
    at : (i : ℕ) → i < 1 → get_or (0 ∷ []) i 0 ≡ weight_in [] (section_in (new_section 0 1 ∷ []) i)
    at zero lt = refl
    at (suc i) lt = absurd (omega arith)
