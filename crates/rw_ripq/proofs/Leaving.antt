-- A row leaves only where the block of its home or that of its place goes.
use Rattle.std.proofs.Common.{◌≡◌, ℕ, ◌+◌, ◌≤◌, ◌<◌, refl, sym, subst, ◌∙◌, arith, true, cond, length, get_or, ◌⊎◌, inl, inr}
use Rattle.std.specs.Prelude.{Some, None}
use Rattle.std.specs.List.{position_or_len}
use Rattle.std.proofs.lemmas.Bool.{cases_lt, le-ltb}
use Rattle.std.proofs.lemmas.List.Sums.{passes_at_first, get_or-le-sum_by}
use Rattle.rw_blocks.proofs.Cited.{at_block}
use Rattle.rw_blocks.specs.Loose.{IsLoose, count, count_in}
use Rattle.rw_blocks.specs.Questions.{section_of}
use Rattle.rw_blocks.specs.Sections.{SectionState, blocks_of, no_section, has_block, has_serial}
use Rattle.rw_blocks.specs.State.{QueueState, row_at}
use Rattle.rw_blocks.specs.declared.Kind.TheVariants.{Device, Virtual}
use Rattle.rw_blocks.specs.declared.Place.{Place}
use Rattle.rw_ripq.proofs.Adjusts.{KeepsAll, insert-good, put_row, rows-put_new, start, written}
use Rattle.rw_ripq.specs.Record.{IsInsertable}
use Rattle.rw_ripq.proofs.Basics.{none_some, some_is}
use Rattle.rw_ripq.proofs.Costs.{look-out, look-put}
use Rattle.rw_ripq.proofs.Folds.{reinsert-row}
use Rattle.rw_ripq.proofs.Measures.{any-counts, sealed-there}
use Rattle.rw_ripq.proofs.Orders.{Gone, after_take_out-gone, gone-after_merge, gone-after_split, gone-without_block}
use Rattle.rw_ripq.proofs.Tails.{reputs-of}
use Rattle.rw_ripq.proofs.Turns.{either-kind, sealed_count-there, sum-above}
use Rattle.rw_ripq.proofs.Walks.{KeepsBy, left_one}
use Rattle.rw_ripq.specs.Adjust.{merge, split}
use Rattle.rw_ripq.specs.Evict.{reinsert, take_out}
use Rattle.rw_ripq.specs.Insert.{insert_at}
use Rattle.rw_ripq.specs.Laws.{LeavesWithBlock}
use Rattle.rw_ripq.specs.Put.{put_new, with_room}
use Rattle.rw_ripq.specs.Sealed.{is_sealed, sealed_position, sealed_section, without_block}
use Rattle.rw_ripq.specs.Work.{Work}

-- ---- no section has a block that is gone
block-counts : (q : QueueState) (b : ℕ) → position_or_len (has_block b) q.sections < length q.sections → 1 ≤ count Device q b + count Virtual q b
block-counts q b lt =
    let i : ℕ = position_or_len (has_block b) q.sections in
    let s : SectionState = get_or q.sections i no_section in
    omega (
      arith,
      any-counts (has_serial b) (blocks_of s) (passes_at_first (has_block b) q.sections no_section lt),
      sum-above (at_block Device b) (at_block Virtual b) (λ e. cond (has_serial b e) 1 0) (blocks_of s) (λ e. either-kind (has_serial b e) e.1),
      get_or-le-sum_by (count_in Device b) q.sections i no_section lt,
      get_or-le-sum_by (count_in Virtual b) q.sections i no_section lt,
    )

pub gone-nowhere : (q : QueueState) (b : ℕ) → Gone b q → section_of q b ≡ None
gone-nowhere q b g = elim (cases_lt (position_or_len (has_block b) q.sections) (length q.sections)) [
  | inl lt ↦ absurd (omega (arith, g.0, block-counts q b lt))
  | inr le ↦ rw (le-ltb (position_or_len (has_block b) q.sections) (length q.sections) le) refl
]

pub without_block-gone : (q : QueueState) (b : ℕ) → IsLoose q → is_sealed q b ≡ true → Gone b (without_block q b)
without_block-gone q b loose there =
    let s = sealed-there q b there in
    subst (λ n. Gone n (without_block q b)) s.2 (after_take_out-gone q (sealed_section q b) (sealed_position q b) loose s.0 s.1)

-- ---- the row r of the old state at the object o
abbrev IsHere : ℕ → Place → Work → Type 0
IsHere o r w = Gone r.home w.queue ⊎ (Gone r.place w.queue ⊎ (row_at w.queue o ≡ Some r))

-- while a block is the victim, the row may be one of its rows
abbrev IsHalfHere : ℕ → Place → ℕ → Work → Type 0
IsHalfHere o r b w = IsHere o r w ⊎ ((r.home ≡ b) ⊎ (r.place ≡ b))

-- what is gone stays gone, and the row is written or not
here-kept : (o : ℕ) (r : Place) (w v : Work) → ((b : ℕ) → Gone b w.queue → Gone b v.queue) → row_at v.queue o ≡ row_at w.queue o → IsHere o r w → IsHere o r v
here-kept o r w v gone same g = elim g [
  | inl h ↦ inl (gone r.home h)
  | inr m ↦ elim m [
    | inl h ↦ inr (inl (gone r.place h))
    | inr is ↦ inr (inr (same ∙ is))
  ]
]

-- another row is written, or the row itself, which is the victim's
touched : (o k : ℕ) (r s : Place) (b : ℕ) (w v : Work) → ((c : ℕ) → Gone c w.queue → Gone c v.queue) → row_at w.queue k ≡ Some s → ((s.home ≡ b) ⊎ (s.place ≡ b))
    → ((k ≡ o) ⊎ (row_at v.queue o ≡ row_at w.queue o)) → IsHere o r w → IsHalfHere o r b v
touched o k r s b w v gone is at look g = elim g [
  | inl h ↦ inl (inl (gone r.home h))
  | inr m ↦ elim m [
    | inl h ↦ inl (inr (inl (gone r.place h)))
    | inr row ↦ elim look [
      | inr same ↦ inl (inr (inr (same ∙ row)))
      | inl e ↦ (
          let same : s ≡ r = some_is (sym is ∙ subst (λ y. row_at w.queue y ≡ Some r) (sym e) row) in
          inr (subst (λ (p : Place). (p.home ≡ b) ⊎ (p.place ≡ b)) same at))
    ]
  ]
]

keeps-here : (o : ℕ) (r : Place) → KeepsBy (IsHere o r) (IsHalfHere o r)
keeps-here o r =
    record {
      begins = λ w e loose last g. inl g;
      leaves = λ w e k s loose last is at g. elim g [
        | inr h ↦ inr h
        | inl h ↦ touched o k r s e.0 w (left_one w k) (λ c x. x) is (inr at) (elim (look-out w.queue k loose o) [ inl f ↦ inl f.0 | inr f ↦ inr f.1 ]) h
      ];
      reputs = λ w b k s os v homed is home g. elim g [
        | inr h ↦ inr h
        | inl h ↦ (
            let c = reinsert-row w.queue b k s os v homed is home in
            touched o k r s b w (reinsert w k) (reputs-of w.queue k s v.loose is c.apart).gone is (inl home)
            (elim (look-put w.queue (reinsert w k).queue k c.new c.rows o) [ inl f ↦ inl f.0 | inr f ↦ inr f.1 ]) h)
      ];
      outs = λ w b loose some free g.
          let there : is_sealed w.queue b ≡ true = sealed_count-there w.queue b some in
          elim g [
            | inl h ↦ here-kept o r w (take_out w b) (λ c x. gone-without_block w.queue b c there x) refl h
            | inr h ↦ elim h [
              | inl e ↦ inl (subst (λ y. Gone y (without_block w.queue b)) (sym e) (without_block-gone w.queue b loose there))
              | inr e ↦ inr (inl (subst (λ y. Gone y (without_block w.queue b)) (sym e) (without_block-gone w.queue b loose there)))
            ]
          ];
    }

all-here : (o : ℕ) (r : Place) → KeepsAll (IsHere o r) (IsHalfHere o r)
all-here o r =
    record {
      small = keeps-here o r;
      writes = λ w g. here-kept o r w (written w) (λ c x. x) refl g;
      merges = λ w i loose there g. here-kept o r w (merge w i) (λ c x. gone-after_merge w.queue i c there x) refl g;
      splits = λ w i loose there few g. here-kept o r w (split w i) (λ c x. gone-after_split w.queue i _ c there x) refl g;
    }

-- ---- the law
start-here : (q : QueueState) (o z i k : ℕ) (r : Place) → IsInsertable q o z → row_at q k ≡ Some r → IsHere k r (start q o z i)
start-here q o z i k r c is =
    elim (look-put q (put_new q o z i) o (put_row (with_room q Device i z) z i) (rows-put_new q o z i) k) [
      | inl e ↦ absurd (none_some (sym c.new ∙ subst (λ y. row_at q y ≡ Some r) (sym e.0) is))
      | inr e ↦ inr (inr (e.1 ∙ is))
    ]

pub insert-leaves : (q : QueueState) (o z i : ℕ) → IsInsertable q o z → i < length q.sections → LeavesWithBlock q (insert_at q o z i).queue
insert-leaves q o z i c within k r is none =
    let w : Work = insert_at q o z i in
    elim ((insert-good (all-here k r) q o z i c within (start-here q o z i k r c is)).good) [
      | inl g ↦ inl (gone-nowhere w.queue r.home g)
      | inr m ↦ elim m [
        | inl g ↦ inr (gone-nowhere w.queue r.place g)
        | inr there ↦ absurd (none_some (sym none ∙ there))
      ]
    ]
