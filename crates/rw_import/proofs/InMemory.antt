-- A reader of bytes in memory: what is known of any reader tells all of it.
use Rattle.std.proofs.Common.{◌≡◌, ◌≢◌, List, Bool, true, false, Option, Some, None, Ok, refl, sym, ap, subst, ◌∙◌}
use Rattle.std.specs.Prelude.{IfSome}
use Rattle.csv.specs.Reading.{has_failed}
use Rattle.rw_trace.specs.Pieces.{MayRead, ReadsEach, records_ahead}
use Rattle.rw_trace.specs.Unread.{Bytes, Steady, source, unread}
use Rattle.rw_trace.specs.Words.{Fields, Text}
use Rattle.rw_import.specs.Csv.{columns_found, have_their_lines, rows_under}
use Rattle.rw_import.specs.CsvStream.{FindsColumns}
use Rattle.rw_import.specs.Streamed.{IsOfLog}
use Rattle.rw_import.specs.declared.fault.ImportFault.{ImportFault}
use Rattle.rw_import.specs.declared.fault.ImportFault.TheVariants as fault
use Rattle.rw_import.specs.declared.layout.Layout.{Layout}
use Rattle.rw_import.specs.declared.layout.Places.{Places}
use Rattle.rw_import.proofs.Columns.{of-log}

-- the records that it has still to give
abbrev pub ahead : Bytes → Option (List Fields)
ahead r = records_ahead (λ s. Some s.now) r

-- where they are known it is steady
pub known-steady : (r : Bytes) (rs : List Fields) → MayRead r → ahead r ≡ Some rs → Steady r × (unread r ≡ rs)
unfolding unread
known-steady r rs may e = by (source r) refl
  where
    alive : (xs : Text) → source r ≡ Some xs → has_failed r ≡ false
    alive xs is = go (has_failed r) refl
      where
        go : (x : Bool) → has_failed r ≡ x → x ≡ false
        go true h = let none = rw h at is in cc
        go false h = refl

    by : (o : Option Text) → source r ≡ o → Steady r × (unread r ≡ rs)
    by None is = let none = rw is at e in absurd (cc none)
    by (Some xs) is =
        let each : ReadsEach r = may (alive xs is) in
        let all = rw is at e in (
          record { plain = each.plain; ready = each.ready; flexible = each.flexible; known = rw is refl },
          rw is (cc all),
        )

-- and where it is steady they are known
pub steady-may : (r : Bytes) → Steady r → MayRead r
steady-may r steady = λ _. record { plain = steady.plain; ready = steady.ready; flexible = steady.flexible }

pub steady-known : (r : Bytes) → Steady r → ahead r ≡ Some (unread r)
unfolding unread
steady-known r steady = by (source r) refl
  where
    by : (o : Option Text) → source r ≡ o → ahead r ≡ Some (unread r)
    by None is = let none = rw is at steady.known in absurd (cc none)
    by (Some xs) is = rw is refl

-- the columns that are found among known records
record IsFound (l : Layout) (records : List Fields) (p : Places) (after : Option (List Fields)) : Type 0 where
  rows : List Fields
  rest : after ≡ Some rows
  places : columns_found l records ≡ Ok p
  under : rows_under l records ≡ rows
  lines : have_their_lines l.quotes records ≡ have_their_lines l.quotes rows

found : (l : Layout) (records : List Fields) (p : Places) (after : Option (List Fields)) → FindsColumns l (Some records) p after → IsFound l records p after
found l records p None h = absurd h
found l records p (Some rows) h = record { rows = rows; rest = refl; places = h.0; under = h.1; lines = h.2 }

-- a reader in memory behind the header
pub record IsBehindHeader (l : Layout) (a b : Bytes) (p : Places) : Type 0 where
  pub steady : Steady b
  pub places : columns_found l (unread a) ≡ Ok p
  pub rows : rows_under l (unread a) ≡ unread b
  pub lines : have_their_lines l.quotes (unread a) ≡ have_their_lines l.quotes (unread b)

pub behind-header : (l : Layout) (a b : Bytes) (p : Places) → Steady a → MayRead b → FindsColumns l (ahead a) p (ahead b) → IsBehindHeader l a b p
behind-header l a b p steady may h =
    let f = found l (unread a) p (ahead b) (subst (λ (o : Option (List Fields)). FindsColumns l o p (ahead b)) (steady-known a steady) h) in
    let k = known-steady b f.rows may f.rest in
    record { steady = k.0; places = f.places; rows = f.under ∙ sym k.1; lines = f.lines ∙ ap (λ (rs : List Fields). have_their_lines l.quotes rs) (sym k.1) }

-- a fault that a reader in memory answers is of the log, or of memory
pub refused-in-memory : (P : List Fields → ImportFault → Type 0) (a : Bytes) (e f : ImportFault) → Steady a → (IsOfLog e → IfSome (ahead a) (λ rs. P rs e)) → e ≢ fault.Output → (e ≢ fault.Read → f ≡ e) → (e ≡ fault.Read → f ≡ fault.Memory)
    → f ≢ fault.Memory → P (unread a) f
refused-in-memory P a e f steady of written other read some =
    let not_read : e ≢ fault.Read = λ is. some (read is) in
    let same : f ≡ e = other not_read in
    let log : IsOfLog e = of-log e (λ is. some (same ∙ is)) not_read written in
    subst (λ (x : ImportFault). P (unread a) x) (sym same) (subst (λ (o : Option (List Fields)). IfSome o (λ rs. P rs e)) (steady-known a steady) (of log))
