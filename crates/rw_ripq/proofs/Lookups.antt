-- What a row's change leaves of the other rows.
use Rattle.std.proofs.Common.{◌≡◌, ℕ, List, [], ◌∷◌, refl, sym, ◌∙◌}
use Rattle.std.specs.Ordering.{nat_cmp}
use Rattle.std.specs.declared.cmp.Ordering.TheVariants.{Equal}
use Rattle.std.specs.FinMap.{nat_cmp-IsAntisymmetric}
use Rattle.std.specs.Map.{lookup, remove_entry}
use Rattle.std.specs.BTreeMap.{insert_entry, is_at}
use Rattle.rw_blocks.proofs.Entries.{by_cases}

apart : (o k : ℕ) → (k ≡ o → ⊥) → nat_cmp o k ≡ Equal → ⊥
apart o k ne h = ne (sym (nat_cmp-IsAntisymmetric o k h))

module _ {X : Type 0} where
  pub lookup-insert_other : (es : List (ℕ × X)) (k o : ℕ) (v : X) → (k ≡ o → ⊥) → lookup (is_at (nat_cmp o)) (insert_entry nat_cmp es k v) ≡ lookup (is_at (nat_cmp o)) es
  lookup-insert_other [] k o v ne =
      by_cases (nat_cmp o k)
      (λ h. rw h refl)
      (λ h. absurd (apart o k ne h))
      (λ h. rw h refl)
  lookup-insert_other (e ∷ es) k o v ne =
      by_cases (nat_cmp k e.0)
      (λ h. rw h (by_cases (nat_cmp o k) (λ g. rw g refl) (λ g. absurd (apart o k ne g)) (λ g. rw g refl)))
      (λ h. rw h (by_cases (nat_cmp o e.0) (λ g. rw g refl) (λ g. absurd (ne (nat_cmp-IsAntisymmetric k e.0 h ∙ sym (nat_cmp-IsAntisymmetric o e.0 g)))) (λ g. rw g refl)))
      (λ h. rw h (by_cases (nat_cmp o e.0) (λ g. rw g (lookup-insert_other es k o v ne)) (λ g. rw g refl) (λ g. rw g (lookup-insert_other es k o v ne))))

  pub lookup-remove_other : (es : List (ℕ × X)) (k o : ℕ) → (k ≡ o → ⊥) → lookup (is_at (nat_cmp o)) (remove_entry (is_at (nat_cmp k)) es) ≡ lookup (is_at (nat_cmp o)) es
  lookup-remove_other [] k o ne = refl
  lookup-remove_other (e ∷ es) k o ne =
      by_cases (nat_cmp k e.0)
      (λ h. rw h (by_cases (nat_cmp o e.0) (λ g. rw g (lookup-remove_other es k o ne)) (λ g. rw g refl) (λ g. rw g (lookup-remove_other es k o ne))))
      (λ h. rw h (by_cases (nat_cmp o e.0) (λ g. rw g refl) (λ g. absurd (ne (nat_cmp-IsAntisymmetric k e.0 h ∙ sym (nat_cmp-IsAntisymmetric o e.0 g)))) (λ g. rw g refl)))
      (λ h. rw h (by_cases (nat_cmp o e.0) (λ g. rw g (lookup-remove_other es k o ne)) (λ g. rw g refl) (λ g. rw g (lookup-remove_other es k o ne))))
