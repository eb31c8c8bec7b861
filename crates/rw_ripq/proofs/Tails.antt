-- The laws of an insertion: the old blocks keep their order, and rows leave from the tail.
use Rattle.std.proofs.Common.{◌≡◌, ℕ, ◌+◌, ◌/◌, ◌≤◌, ◌<◌, sym, ap, subst, ◌∙◌, arith, true, false, length, get_or, ◌⊎◌, inl, inr}
use Rattle.std.specs.Prelude.{Some, None, unwrap_or}
use Rattle.std.specs.List.{list_any}
use Rattle.std.specs.Ordering.{nat_cmp}
use Rattle.std.specs.Map.{lookup}
use Rattle.std.specs.BTreeMap.{insert_entry, is_at as is_key}
use Rattle.rw_blocks.proofs.Cited.{IsLoose-after_merge, IsLoose-after_split, of_row}
use Rattle.rw_blocks.specs.Loose.{IsFree, IsHomed, IsLoose, IsPlaced, count}
use Rattle.rw_blocks.specs.Primitives.{after_merge, after_split}
use Rattle.rw_blocks.specs.Questions.{last_block}
use Rattle.rw_blocks.specs.Sections.{no_section, has_block}
use Rattle.rw_blocks.specs.State.{QueueState, no_place, row_at, row_or, section_at}
use Rattle.rw_blocks.specs.declared.Kind.{Kind}
use Rattle.rw_blocks.specs.declared.Kind.TheVariants.{Device, Virtual}
use Rattle.rw_blocks.specs.declared.Place.{Place}
use Rattle.rw_blocks.proofs.Entries.{lookup-insert_entry}
use Rattle.rw_ripq.proofs.Cases.{reinserted}
use Rattle.rw_ripq.proofs.Adjusts.{IsLoose-put_new, KeepsAll, insert-good, put_row, rows-put_new, start}
use Rattle.rw_ripq.specs.Record.{IsInsertable}
use Rattle.rw_ripq.proofs.Basics.{none_some, some_is}
use Rattle.rw_ripq.proofs.Costs.{look-out, look-put}
use Rattle.rw_ripq.proofs.Falls.{block-goes_out}
use Rattle.rw_ripq.proofs.Folds.{reinsert-row}
use Rattle.rw_ripq.proofs.Joins.{all-once, last-twice}
use Rattle.rw_ripq.proofs.Orders.{Gone, Kept, gone-after_merge, gone-after_split, gone-cleared, gone-with_room, gone-without_block, kept-after_merge, kept-after_split, kept-cleared, kept-with_room, kept-without_block, own-if, sealed-counts}
use Rattle.rw_ripq.proofs.Reputs.{IsLoose-cleared, IsLoose-put_again, rows-cleared, section-first, section-there}
use Rattle.rw_ripq.proofs.Turns.{sealed_count-there}
use Rattle.rw_ripq.proofs.Walks.{Keeps, Throughout, left_one, throughout}
use Rattle.rw_ripq.specs.Insert.{insert_at}
use Rattle.rw_ripq.specs.Order.{Behind, KeepsOrder, LeavesFromTail}
use Rattle.rw_ripq.specs.Put.{is_room, put_again, put_new, with_room}
use Rattle.rw_ripq.specs.Sealed.{without_if_emptied, has_sealed, without_block, section_with}
use Rattle.rw_ripq.specs.Victim.{sealed_count}
use Rattle.rw_ripq.specs.Work.{Work}

-- a row's place is there
pub place-there : (q : QueueState) (o : ℕ) (r : Place) → IsLoose q → row_at q o ≡ Some r → 1 ≤ count Device q r.place + count Virtual q r.place
place-there q o r loose is =
    let home : count Device q r.home ≡ 1 = of_row q o r (IsHomed q) loose.homes is in
    elim (of_row q o r (IsPlaced q) loose.places is) [
      | inl e ↦ (let same : count Device q r.place ≡ count Device q r.home = ap (count Device q) e in omega (arith, home, same))
      | inr c ↦ omega (arith, c)
    ]

-- ---- one row put again
pub record Reputs (q : QueueState) (o : ℕ) (r : Place) : Type 0 where
  pub loose : IsLoose (reinserted q o)
  pub gone : (c : ℕ) → Gone c q → Gone c (reinserted q o)
  pub kept : (x c : ℕ) → Kept x c q → Kept x c (reinserted q o)
  pub own : (c : ℕ) (new : Place) → row_at (reinserted q o) o ≡ Some new → Behind r.place c q.sections → Gone c (reinserted q o) ⊎ Behind new.place c (reinserted q o).sections

abbrev at_place : QueueState → ℕ → ℕ → QueueState
at_place q o p = without_if_emptied (put_again q o (section_with q p)) p

record ReputsAt (q : QueueState) (o : ℕ) (r : Place) (p : ℕ) : Type 0 where
  pub loose : IsLoose (at_place q o p)
  pub gone : (c : ℕ) → Gone c q → Gone c (at_place q o p)
  pub kept : (x c : ℕ) → Kept x c q → Kept x c (at_place q o p)
  pub own : (c : ℕ) (new : Place) → row_at (at_place q o p) o ≡ Some new → Behind r.place c q.sections → Gone c (at_place q o p) ⊎ Behind new.place c (at_place q o p).sections

reputs-at : (q : QueueState) (o : ℕ) (r : Place) → IsLoose q → row_at q o ≡ Some r → (r.place ≡ r.home → ⊥) → ReputsAt q o r r.place
reputs-at q o r loose row apart =
    let there : count Virtual q r.place ≡ 1 = elim (of_row q o r (IsPlaced q) loose.places row) [ inl e ↦ absurd (apart e) | inr c ↦ c ] in
    let i : ℕ = section_with q r.place in
    let within : i < length q.sections = section-there Virtual q r.place there in
    let z : ℕ = (row_or q o).size in
    let w : QueueState = with_room q Device i z in
    let q1 : QueueState = put_again q o i in
    let q2 : QueueState = without_if_emptied q1 r.place in
    let d : ℕ = (section_at w i).active_device in
    let mine : Place = record { size = (row_or w o).size; home = d; place = d } in
    let loose1 : IsLoose q1 = IsLoose-put_again q o i r loose within row in
    let loose2 : IsLoose q2 = IsLoose-cleared q1 r.place loose1 in
    let row1 : row_at q1 o ≡ Some mine = lookup-insert_entry w.rows o mine in
    let row2 : row_at q2 o ≡ Some mine = ap (lookup (is_key (nat_cmp o))) (rows-cleared q1 r.place) ∙ row1 in
    let none : (j : ℕ) → j < i → has_block r.place (get_or q.sections j no_section) ≡ false = section-first Virtual q r.place there in
    record {
      loose = loose2;
      gone = λ c g. gone-cleared q1 r.place c (gone-with_room q Device i z c within g);
      kept = λ x c k. kept-cleared q1 r.place x c loose1 (kept-with_room q Device i z x c within k);
      own = λ c new is b.
          let same : mine ≡ new = some_is (sym row2 ∙ is) in
          let k1 : Kept d c q1 = inr (inr (own-if (is_room q Device i z) q i r.place c within none b)) in
          let k2 : Kept d c q2 = kept-cleared q1 r.place d c loose1 k1 in
          elim k2 [
            | inl g ↦ absurd (omega (arith, g.0, place-there q2 o mine loose2 row2))
            | inr m ↦ elim m [
              | inl g ↦ inl g
              | inr h ↦ inr (subst (λ (y : Place). Behind y.place c q2.sections) same h)
            ]
          ];
    }

pub reputs-of : (q : QueueState) (o : ℕ) (r : Place) → IsLoose q → row_at q o ≡ Some r → (r.place ≡ r.home → ⊥) → Reputs q o r
reputs-of q o r loose row apart =
    let is-p : (row_or q o).place ≡ r.place = ap (λ m. (unwrap_or m no_place).place) row in
    let a : ReputsAt q o r (row_or q o).place = subst (λ p. ReputsAt q o r p) (sym is-p) (reputs-at q o r loose row apart) in
    record { loose = a.loose; gone = a.gone; kept = a.kept; own = a.own }

-- ---- two blocks keep their order
abbrev pub IsKept : ℕ → ℕ → Work → Type 0
IsKept x c w = Kept x c w.queue

keeps-order : (x c : ℕ) → Keeps (IsKept x c)
keeps-order x c =
    record {
      leaves = λ w e o r loose last is at g. g;
      reputs = λ w b o r os v homed is home g. (reputs-of w.queue o r v.loose is (reinsert-row w.queue b o r os v homed is home).apart).kept x c g;
      outs = λ w b loose some free g. kept-without_block w.queue b x c loose (sealed_count-there w.queue b some) g;
    }

pub all-order : (x c : ℕ) → KeepsAll (IsKept x c) (Throughout (IsKept x c))
all-order x c =
    record {
      small = throughout (keeps-order x c);
      writes = λ w g. g;
      merges = λ w i loose there g. kept-after_merge w.queue i x c loose there g;
      splits = λ w i loose there few g. kept-after_split w.queue i ((length (section_at w.queue i).sealed + 1) / 2) x c there g;
    }

-- ---- a row leaves only from the tail
abbrev pub IsStill : ℕ → ℕ → QueueState → Type 0
IsStill o c q = Gone c q ⊎ ((r : Place) × (row_at q o ≡ Some r) × Behind r.place c q.sections)

-- a place that is kept, of a row that is there
still-kept : (q : QueueState) (o c : ℕ) (r : Place) → IsLoose q → row_at q o ≡ Some r → Kept r.place c q → IsStill o c q
still-kept q o c r loose is k = elim k [
  | inl g ↦ absurd (omega (arith, g.0, place-there q o r loose is))
  | inr m ↦ elim m [
    | inl g ↦ inl g
    | inr b ↦ inr (r, is, b)
  ]
]

leaves-still : (o c : ℕ) (w : Work) (e : ℕ × Kind) (k : ℕ) (s : Place) → IsLoose w.queue → last_block w.queue ≡ Some e → row_at w.queue k ≡ Some s → s.place ≡ e.0 → IsStill o c w.queue → IsStill o c (left_one w k).queue
leaves-still o c w e k s loose last is at g = elim g [
  | inl h ↦ inl h
  | inr h ↦ elim (look-out w.queue k loose o) [
    | inr f ↦ inr (h.0, f.1 ∙ h.1, h.2)
    | inl f ↦ (
        let same : s ≡ h.0 = some_is (sym is ∙ subst (λ y. row_at w.queue y ≡ Some h.0) (sym f.0) h.1) in
        let b : Behind e.0 c w.queue.sections = subst (λ y. Behind y c w.queue.sections) (sym (ap (λ (y : Place). y.place) same) ∙ at) h.2 in
        absurd (omega (arith, last-twice None w.queue.sections e c b last, all-once w.queue e.0 loose)))
  ]
]

reputs-still : (o c : ℕ) (q : QueueState) (k : ℕ) (s new : Place) → IsLoose q → row_at q k ≡ Some s → (s.place ≡ s.home → ⊥) → (reinserted q k).rows ≡ insert_entry nat_cmp q.rows k new → IsStill o c q → IsStill o c (reinserted q k)
reputs-still o c q k s new loose is apart rows g =
    let a : Reputs q k s = reputs-of q k s loose is apart in
    elim g [
      | inl h ↦ inl (a.gone c h)
      | inr h ↦ elim (look-put q (reinserted q k) k new rows o) [
        | inr f ↦ still-kept (reinserted q k) o c h.0 a.loose (f.1 ∙ h.1) (a.kept h.0.place c (inr (inr h.2)))
        | inl f ↦ (
            let row : row_at (reinserted q k) k ≡ Some new = subst (λ y. row_at (reinserted q k) y ≡ Some new) (sym f.0) f.1 in
            let same : s ≡ h.0 = some_is (sym is ∙ subst (λ y. row_at q y ≡ Some h.0) (sym f.0) h.1) in
            let b : Behind s.place c q.sections = subst (λ (y : Place). Behind y.place c q.sections) (sym same) h.2 in
            elim (a.own c new row b) [
              | inl d ↦ inl d
              | inr d ↦ inr (new, f.1, d)
            ])
      ]
    ]

outs-still : (o c b : ℕ) (q : QueueState) → IsLoose q → 1 ≤ sealed_count b q → IsFree q b → IsStill o c q → IsStill o c (without_block q b)
outs-still o c b q loose some free g =
    let there : list_any (has_sealed b) q.sections ≡ true = sealed_count-there q b some in
    elim g [
      | inl h ↦ inl (gone-without_block q b c there h)
      | inr h ↦ still-kept (without_block q b) o c h.0 (block-goes_out q b loose some free).loose h.1 (kept-without_block q b h.0.place c loose there (inr (inr h.2)))
    ]

merges-still : (o c i : ℕ) (q : QueueState) → IsLoose q → i + 1 < length q.sections → IsStill o c q → IsStill o c (after_merge q i)
merges-still o c i q loose within g = elim g [
  | inl h ↦ inl (gone-after_merge q i c within h)
  | inr h ↦ still-kept (after_merge q i) o c h.0 (IsLoose-after_merge q i loose within) h.1 (kept-after_merge q i h.0.place c loose within (inr (inr h.2)))
]

splits-still : (o c i n : ℕ) (q : QueueState) → IsLoose q → i < length q.sections → length q.sections < q.shape.sections → IsStill o c q → IsStill o c (after_split q i n)
splits-still o c i n q loose within few g = elim g [
  | inl h ↦ inl (gone-after_split q i n c within h)
  | inr h ↦ still-kept (after_split q i n) o c h.0 (IsLoose-after_split q i n loose within few) h.1 (kept-after_split q i n h.0.place c within (inr (inr h.2)))
]

abbrev pub IsStillAt : ℕ → ℕ → Work → Type 0
IsStillAt o c w = IsStill o c w.queue

pub all-still : (o c : ℕ) → KeepsAll (IsStillAt o c) (Throughout (IsStillAt o c))
all-still o c =
    record {
      small = throughout (record {
        leaves = λ w e k s loose last is at g. leaves-still o c w e k s loose last is at g;
        reputs = λ w b k s os v homed is home g.
            (let f = reinsert-row w.queue b k s os v homed is home in
            reputs-still o c w.queue k s f.new v.loose is f.apart f.rows g);
        outs = λ w b loose some free g. outs-still o c b w.queue loose some free g;
      });
      writes = λ w g. g;
      merges = λ w i loose there g. merges-still o c i w.queue loose there g;
      splits = λ w i loose there few g. splits-still o c i ((length (section_at w.queue i).sealed + 1) / 2) w.queue loose there few g;
    }

-- ---- the laws of an insertion
start-kept : (q : QueueState) (o z i x c : ℕ) → IsLoose q → i < length q.sections → Behind x c q.sections → Kept x c (start q o z i).queue
start-kept q o z i x c loose within b = kept-with_room q Device i z x c within (inr (inr b))

pub insert-order : (q : QueueState) (o z i : ℕ) → IsInsertable q o z → i < length q.sections → KeepsOrder q (insert_at q o z i).queue
insert-order q o z i c within x y was b now-x now-y =
    let w : Work = insert_at q o z i in
    let k : Kept x y w.queue = (insert-good (all-order x y) q o z i c within (start-kept q o z i x y c.loose within b)).good in
    elim k [
      | inl g ↦ absurd (omega (arith, g.0, sealed-counts w.queue x now-x))
      | inr m ↦ elim m [
        | inl g ↦ absurd (omega (arith, g.0, sealed-counts w.queue y now-y))
        | inr h ↦ h
      ]
    ]

start-still : (q : QueueState) (o z i k y : ℕ) (r : Place) → IsInsertable q o z → i < length q.sections → row_at q k ≡ Some r → Behind r.place y q.sections → IsStill k y (start q o z i).queue
start-still q o z i k y r c within is b =
    elim (look-put q (put_new q o z i) o (put_row (with_room q Device i z) z i) (rows-put_new q o z i) k) [
      | inl e ↦ absurd (none_some (sym c.new ∙ subst (λ y. row_at q y ≡ Some r) (sym e.0) is))
      | inr e ↦ still-kept (put_new q o z i) k y r (IsLoose-put_new q o z i c within) (e.1 ∙ is) (start-kept q o z i r.place y c.loose within b)
    ]

pub insert-tail : (q : QueueState) (o z i : ℕ) → IsInsertable q o z → i < length q.sections → LeavesFromTail q (insert_at q o z i).queue
insert-tail q o z i c within k y r is was b none now =
    let w : Work = insert_at q o z i in
    let s : IsStill k y w.queue = (insert-good (all-still k y) q o z i c within (start-still q o z i k y r c within is b)).good in
    elim s [
      | inl g ↦ omega (arith, g.0, sealed-counts w.queue y now)
      | inr h ↦ none_some (sym none ∙ h.1)
    ]
