-- How the count of device blocks follows a list of sealed blocks.
use Rattle.std.proofs.Common.{◌≡◌, ℕ, ◌+◌, ◌<◌, List, ◌∷◌, ◌++◌, cond, length, get_or}
use Rattle.std.specs.Prelude.{insert, remove}
use Rattle.std.proofs.lemmas.List.Sums.{sum_by-cons, sum_by-append, sum_by-insert, sum_by-remove}
use Rattle.rw_blocks.specs.declared.Kind.{Kind}
use Rattle.rw_blocks.specs.declared.Kind.TheVariants.{Device}
use Rattle.rw_blocks.specs.Sections.{is_kind, device_count_of}

pub devices-cons : (e : ℕ × Kind) (es : List (ℕ × Kind)) → device_count_of (e ∷ es) ≡ cond (is_kind Device e.1) 1 0 + device_count_of es
devices-cons e es = sum_by-cons (λ (x : ℕ × Kind). cond {A = ℕ} (is_kind Device x.1) 1 0) e es

pub devices-append : (es fs : List (ℕ × Kind)) → device_count_of (es ++ fs) ≡ device_count_of es + device_count_of fs
devices-append es fs = sum_by-append (λ (x : ℕ × Kind). cond {A = ℕ} (is_kind Device x.1) 1 0) es fs

pub devices-insert : (es : List (ℕ × Kind)) (i : ℕ) (e : ℕ × Kind) → device_count_of (insert es i e) ≡ device_count_of es + cond (is_kind Device e.1) 1 0
devices-insert es i e = sum_by-insert (λ (x : ℕ × Kind). cond {A = ℕ} (is_kind Device x.1) 1 0) es i e

pub devices-remove : (es : List (ℕ × Kind)) (i : ℕ) (d : ℕ × Kind) → i < length es
    → device_count_of (remove es i) + cond (is_kind Device (get_or es i d).1) 1 0 ≡ device_count_of es
devices-remove es i d within = sum_by-remove (λ (x : ℕ × Kind). cond {A = ℕ} (is_kind Device x.1) 1 0) es i d within
