-- Where columns stand, and what is known of them.
use Rattle.std.proofs.Common.{◌≡◌, ◌≢◌, ℕ, Bool, List, Option, Some, None, Result, Ok, Err, true, inr, refl, sym, ap, ◌∙◌}
use Rattle.std.specs.Prelude.{IfErr, IfSome, false, is_some, option_map}
use Rattle.std.specs.List.{position}
use Rattle.std.specs.Option.{ok_or}
use Rattle.rw_trace.specs.Pieces.{GivesNone}
use Rattle.rw_trace.specs.Words.{Fields, Text}
use Rattle.rw_import.specs.Csv.{◌>>=◌, columns_found, edges_named, edges_of, has_header, is_same_text, log_records, place_if, place_in, places_in}
use Rattle.rw_import.specs.CsvStream.{IsColumnsFault}
use Rattle.rw_import.specs.Streamed.{IsOfLog}
use Rattle.rw_import.specs.declared.fault.ImportFault.{ImportFault}
use Rattle.rw_import.specs.declared.fault.ImportFault.TheVariants as fault
use Rattle.rw_import.specs.declared.fault.Part.{Part}
use Rattle.rw_import.specs.declared.fault.Part.TheVariants as part
use Rattle.rw_import.specs.declared.layout.Column.{Column}
use Rattle.rw_import.specs.declared.layout.Column.TheVariants.{At, Named}
use Rattle.rw_import.specs.declared.layout.Layout.{Layout}
use Rattle.rw_import.specs.declared.layout.Places.{Places}
use Rattle.rw_import.specs.declared.options.Options.{Options}

-- a step that came out had a value before it
bind-ok : {A B E : Type 0} (r : Result A E) (f : A → Result B E) (y : B) → (r >>= f) ≡ Ok y → (x : A) × (r ≡ Ok x) × (f x ≡ Ok y)
bind-ok (Ok x) f y e = (x, refl, e)
bind-ok (Err e) f y h = absurd (cc)

-- a column of edges that was asked for has a place
edge-asked : (header : Fields) (column : Option Column) → place_if header part.Edge column ≡ Ok None → column ≡ None
edge-asked header None e = refl
edge-asked header (Some column) e =
    let (n, _, both) = bind-ok (place_in header part.Edge column) (λ n. Ok (Some n)) None e in
    absurd (cc both)

pub edge-found : (header : Fields) (l : Layout) (p : Places) → places_in header l ≡ Ok p → p.edge ≡ None → l.edge ≡ None
unfolding places_in
edge-found header l p e none =
    let (time, _, e1) = bind-ok (place_in header part.Time l.time) _ p e in
    let (edge, is, e2) = bind-ok (place_if header part.Edge l.edge) _ p e1 in
    let (object, _, e3) = bind-ok (place_in header part.Object l.object) _ p e2 in
    let (size, _, e4) = bind-ok (place_in header part.Size l.size) _ p e3 in
    let (kind, _, e5) = bind-ok (place_if header part.Kind l.kind) _ p e4 in
    let same : edge ≡ p.edge = ap edge_of_result e5 in
    edge-asked header l.edge (is ∙ ap (λ (x : Option ℕ). Ok x) (same ∙ none))
  where
    edge_of_result : Result Places ImportFault → Option ℕ
    edge_of_result (Ok q) = q.edge
    edge_of_result (Err f) = None

-- whether times have to be whole is as the layout says
pub whole-found : (header : Fields) (l : Layout) (p : Places) → places_in header l ≡ Ok p → p.whole_times ≡ l.whole_times
unfolding places_in
whole-found header l p e =
    let (time, _, e1) = bind-ok (place_in header part.Time l.time) _ p e in
    let (edge, _, e2) = bind-ok (place_if header part.Edge l.edge) _ p e1 in
    let (object, _, e3) = bind-ok (place_in header part.Object l.object) _ p e2 in
    let (size, _, e4) = bind-ok (place_in header part.Size l.size) _ p e3 in
    let (kind, _, e5) = bind-ok (place_if header part.Kind l.kind) _ p e4 in
    sym (ap whole_of_result e5)
  where
    whole_of_result : Result Places ImportFault → Bool
    whole_of_result (Ok q) = q.whole_times
    whole_of_result (Err f) = false

kind-asked : (header : Fields) (column : Option Column) (p : Option ℕ) → place_if header part.Kind column ≡ Ok p → column ≡ None → p ≡ None
kind-asked header None p e none = cc
kind-asked header (Some column) p e none = absurd (cc)

-- there is no place for kinds where no column of kinds was asked for
pub kind-found : (header : Fields) (l : Layout) (p : Places) → places_in header l ≡ Ok p → l.kind ≡ None → p.kind ≡ None
unfolding places_in
kind-found header l p e none =
    let (time, _, e1) = bind-ok (place_in header part.Time l.time) _ p e in
    let (edge, _, e2) = bind-ok (place_if header part.Edge l.edge) _ p e1 in
    let (object, _, e3) = bind-ok (place_in header part.Object l.object) _ p e2 in
    let (size, _, e4) = bind-ok (place_in header part.Size l.size) _ p e3 in
    let (kind, is, e5) = bind-ok (place_if header part.Kind l.kind) _ p e4 in
    let same : kind ≡ p.kind = ap kind_of_result e5 in
    sym same ∙ kind-asked header l.kind kind is none
  where
    kind_of_result : Result Places ImportFault → Option ℕ
    kind_of_result (Ok q) = q.kind
    kind_of_result (Err f) = None

-- columns that are not found are no failure of a writer
abbrev IsNoOutput : {A : Type 0} → Result A ImportFault → Type 0
IsNoOutput r = IfErr r (λ e. e ≢ fault.Output)

bind-not : {A B : Type 0} (r : Result A ImportFault) (f : A → Result B ImportFault) → IsNoOutput r → ((x : A) → IsNoOutput (f x)) → IsNoOutput (r >>= f)
bind-not (Ok x) f h k = k x
bind-not (Err e) f h k = h

ok-or-not : (o : Option ℕ) (p : Part) → IsNoOutput (ok_or o (fault.NoColumn p))
ok-or-not (Some n) p = tt
ok-or-not None p = λ e. cc

place-not : (header : Fields) (p : Part) (column : Column) → IsNoOutput (place_in header p column)
place-not header p (At n) = tt
place-not header p (Named name) = ok-or-not (position (λ field. is_same_text field name.items) header) p

place-if-not : (header : Fields) (p : Part) (column : Option Column) → IsNoOutput (place_if header p column)
place-if-not header p None = tt
place-if-not header p (Some column) = bind-not (place_in header p column) (λ n. Ok (Some n)) (place-not header p column) (λ n. tt)

pub places-not-output : (header : Fields) (l : Layout) → IfErr (places_in header l) (λ e. e ≢ fault.Output)
unfolding places_in
places-not-output header l =
    bind-not (place_in header part.Time l.time) _ (place-not header part.Time l.time) (λ time.
    bind-not (place_if header part.Edge l.edge) _ (place-if-not header part.Edge l.edge) (λ edge.
    bind-not (place_in header part.Object l.object) _ (place-not header part.Object l.object) (λ object.
    bind-not (place_in header part.Size l.size) _ (place-not header part.Size l.size) (λ size.
    bind-not (place_if header part.Kind l.kind) _ (place-if-not header part.Kind l.kind) (λ kind. tt)))))

-- what is neither of memory nor of the reader or the writer is of the log
pub of-log : (e : ImportFault) → e ≢ fault.Memory → e ≢ fault.Read → e ≢ fault.Output → IsOfLog e
of-log fault.Header a b c = tt
of-log (fault.NoColumn p) a b c = tt
of-log (fault.RowLength n) a b c = tt
of-log (fault.Row n k p) a b c = tt
of-log fault.TooManyRows a b c = tt
of-log (fault.Order n) a b c = tt
of-log fault.Memory a b c = absurd (a refl)
of-log fault.Read a b c = absurd (b refl)
of-log fault.Output a b c = absurd (c refl)
of-log (fault.OpenQuote n) a b c = tt
of-log (fault.TooFewKept t) a b c = tt
of-log (fault.Format f) a b c = tt

-- the edges of a log that names none are those that are asked for
pub edges-behind : (header : Fields) (l : Layout) (o : Options) (p : Places) (edges : ℕ) → places_in header l ≡ Ok p → edges ≡ edges_of l o → p.edge ≡ None → o.edges ≡ edges
edges-behind header l o p edges is all none = sym (all ∙ ap (λ (c : Option Column). edges_named c o.edges) (edge-found header l p is none))

-- a trace that names no kinds is of a log without a column of them
kind-missing : (column : Option Column) → is_some column ≡ false → column ≡ None
kind-missing None e = refl
kind-missing (Some column) e = absurd (cc e)

pub kinds-behind : (header : Fields) (l : Layout) (p : Places) → places_in header l ≡ Ok p → is_some l.kind ≡ false → p.kind ≡ None
kinds-behind header l p is off = kind-found header l p is (kind-missing l.kind off)

-- where the header has to name columns, a log with no record has none
pub header-missing : (l : Layout) (ahead : Option (List Fields)) → GivesNone ahead → has_header l ≡ true → IfSome ahead (λ records. IsColumnsFault l records fault.Header)
unfolding columns_found
header-missing l None none named = tt
header-missing l (Some records) none named = inr (rw (none, named) refl)

-- a fault of the records is one of the bytes that they are read from
pub fault-of-bytes : (l : Layout) (known : Option Text) (e : ImportFault) → IfSome (option_map (log_records l) known) (λ records. IsColumnsFault l records e)
    → IfSome known (λ bytes. IsColumnsFault l (log_records l bytes) e)
fault-of-bytes l None e h = tt
fault-of-bytes l (Some bytes) e h = h
