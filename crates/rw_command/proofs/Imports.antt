-- No fault of a log itself is the writer's.
use Rattle.std.proofs.Common.{Bool, true, false, List, [], ◌∷◌, Result, Ok, Err, inl, inr, sym}
use Rattle.std.specs.Prelude.{◌≢◌, IfErr, Option, Some, None, if◌then◌else◌}
use Rattle.std.specs.Option.{ok_or}
use Rattle.rw_trace.specs.Words.{Fields, Text}
use Rattle.rw_import.specs.Csv.{◌>>=◌, IsCsvFault, IsTableFault, columns_found, csv_told, has_header, log_records, place_if, place_in, places_in, places_under}
use Rattle.rw_import.specs.Log.{IsRowsFault, Saying}
use Rattle.rw_import.specs.declared.fault.ImportFault.{ImportFault}
use Rattle.rw_import.specs.declared.fault.ImportFault.TheVariants as log
use Rattle.rw_import.specs.declared.fault.Part.{Part}
use Rattle.rw_import.specs.declared.fault.Part.TheVariants as part
use Rattle.rw_import.specs.declared.layout.Column.{Column}
use Rattle.rw_import.specs.declared.layout.Column.TheVariants.{At, Named}
use Rattle.rw_import.specs.declared.layout.Layout.{Layout}
use Rattle.rw_import.specs.declared.layout.Places.{Places}
use Rattle.rw_import.specs.declared.options.Options.{Options}

-- an answer is not the fault of the writer
abbrev IsQuiet : {T : Type 0} → Result T ImportFault → Type 0
IsQuiet r = IfErr r (λ e. e ≢ log.Output)

ok_or-quiet : {T : Type 0} (o : Option T) (e : ImportFault) → e ≢ log.Output → IsQuiet (ok_or o e)
ok_or-quiet (Some x) e other = tt
ok_or-quiet None e other = other

bind-quiet : {A B : Type 0} (r : Result A ImportFault) (f : A → Result B ImportFault) → IsQuiet r → ((x : A) → IsQuiet (f x)) → IsQuiet (r >>= f)
bind-quiet (Ok x) f first rest = rest x
bind-quiet (Err e) f first rest = first

if-quiet : {T : Type 0} (b : Bool) (r s : Result T ImportFault) → IsQuiet r → IsQuiet s → IsQuiet (if b then r else s)
if-quiet true r s first second = first
if-quiet false r s first second = second

place_in-quiet : (header : Fields) (p : Part) (column : Column) → IsQuiet (place_in header p column)
place_in-quiet header p (At n) = tt
place_in-quiet header p (Named name) = ok_or-quiet _ (log.NoColumn p) (λ is. cc)

place_if-quiet : (header : Fields) (p : Part) (column : Option Column) → IsQuiet (place_if header p column)
place_if-quiet header p None = tt
place_if-quiet header p (Some column) = bind-quiet (place_in header p column) (λ n. Ok (Some n)) (place_in-quiet header p column) (λ n. tt)

places_in-quiet : (header : Fields) (l : Layout) → IsQuiet (places_in header l)
unfolding places_in
places_in-quiet header l =
    bind-quiet (place_in header part.Time l.time) _ (place_in-quiet header part.Time l.time)
    (λ time. bind-quiet (place_if header part.Edge l.edge) _ (place_if-quiet header part.Edge l.edge)
    (λ edge. bind-quiet (place_in header part.Object l.object) _ (place_in-quiet header part.Object l.object)
    (λ object. bind-quiet (place_in header part.Size l.size) _ (place_in-quiet header part.Size l.size)
    (λ size. bind-quiet (place_if header part.Kind l.kind) _ (place_if-quiet header part.Kind l.kind)
    (λ kind. tt)))))

places_under-quiet : (l : Layout) (records : List Fields) → IsQuiet (places_under l records)
places_under-quiet l [] = λ is. cc
places_under-quiet l (header ∷ rows) = places_in-quiet header l

-- columns are never missing because of the writer
pub columns-quiet : (l : Layout) (records : List Fields) → IfErr (columns_found l records) (λ e. e ≢ log.Output)
unfolding columns_found
columns-quiet l records = if-quiet (has_header l) (places_under l records) (places_in [] l) (places_under-quiet l records) (places_in-quiet [] l)

-- and rows are never refused because of it
pub rows-quiet : {O : Type 0} (o : Options) (said : List (Saying O)) (e : ImportFault) → (e ≢ log.Memory → IsRowsFault o said e) → e ≢ log.Output
rows-quiet o said log.Output why = absurd (why (λ is. cc))
rows-quiet o said e why = λ is. cc

-- and so no log of fields is
table-quiet : (o : Options) (told : List (Saying Text)) (found : Result Places ImportFault) → IfErr found (λ f. f ≢ log.Output) → IsTableFault o told found log.Output → ⊥
table-quiet o told (Ok p) quiet h = h
table-quiet o told (Err f) quiet h = quiet (sym h)

pub csv-quiet : (l : Layout) (o : Options) (bytes : Text) (e : ImportFault) → (e ≢ log.Memory → IsCsvFault l o bytes e) → e ≢ log.Output
csv-quiet l o bytes log.Output why = λ _.
    elim (why (λ is. cc)) [
      | inl unclosed ↦ absurd (cc (unclosed.1))
      | inr table ↦ table-quiet o (csv_told l o bytes) (columns_found l (log_records l bytes)) (columns-quiet l (log_records l bytes)) table
    ]
csv-quiet l o bytes e why = λ is. cc
