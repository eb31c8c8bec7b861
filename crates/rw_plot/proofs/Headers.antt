-- No fault of a row is that of the header, nor is that of a measure or an axis that a table lacks.
use Rattle.std.proofs.Common.{◌≡◌, ◌+◌, ◌==◌, ◌↔◌, ◌∙◌, ℕ, List, [], ◌∷◌, Bool, true, false, Option, Some, None, Result, Ok, Err, refl, sym, subst, if◌then◌else◌}
use Rattle.std.specs.Prelude.{◌≢◌, nat_lt}
use Rattle.std.specs.Result.{IfErr, IsErrAnd}
use Rattle.rw_plot.specs.Layouts.{is_layout, layout_at, table_places}
use Rattle.rw_plot.specs.Tables.{DrawnRow, OrPlotFault, backend_bytes_of, caches_of_column, configuration_of, count_if, count_of_column, drawn_before, drawn_caches, drawn_of, drawn_row, figures_of, flash_of_column, has_table_header, interval_of, is_drawn, lacks_flash_axis, lacks_measure, most_lines, or_plot_fault, policy_of_fields, ratio_of_column, rows_drawn, sample_of, sizes_of, some_rows, some_value, table_of, ticks_of, ◌>>=◌}
use Rattle.rw_plot.specs.declared.measure.Caches.{Caches}
use Rattle.rw_plot.specs.declared.measure.Drawing.{Drawing}
use Rattle.rw_plot.specs.declared.places.ConfigurationPlaces.{ConfigurationPlaces}
use Rattle.rw_plot.specs.declared.places.FigurePlaces.{FigurePlaces}
use Rattle.rw_plot.specs.declared.places.IntervalPlaces.{IntervalPlaces}
use Rattle.rw_plot.specs.declared.places.Places.{Places}
use Rattle.rw_plot.specs.declared.plot_fault.PlotFault.{PlotFault}
use Rattle.rw_plot.specs.declared.plot_fault.PlotFault.TheVariants as fault

abbrev NotHeader : {A : Type 0} → OrPlotFault A → Type 0
NotHeader {A} r = r ≡ Err fault.Header → ⊥

ok-other : {A : Type 0} (x : A) → NotHeader (let r : OrPlotFault A = Ok x in r)
ok-other x e = cc

err-other : {A : Type 0} (e : PlotFault) → (e ≡ fault.Header → ⊥) → NotHeader (let r : OrPlotFault A = Err e in r)
err-other e h q = h cc

bind-other : {A B : Type 0} (r : OrPlotFault A) (f : A → OrPlotFault B) → NotHeader r → ((x : A) → NotHeader (f x)) → NotHeader (r >>= f)
bind-other (Ok x) f h k = k x
bind-other (Err e) f h k = λ q. h (let same : e ≡ fault.Header = cc in rw same refl)

or-other : {A : Type 0} (e : PlotFault) (o : Option A) → (e ≡ fault.Header → ⊥) → NotHeader (or_plot_fault e o)
or-other e None h q = h cc
or-other e (Some x) h q = cc

if-other : {A : Type 0} (t : Bool) (x y : OrPlotFault A) → NotHeader x → NotHeader y → NotHeader (if t then x else y)
if-other true x y h k = h
if-other false x y h k = k

-- ---- the parts of a row
count-other : (row column : ℕ) (fields : List (List ℕ)) → NotHeader (count_of_column row column fields)
unfolding count_of_column
count-other row column fields = or-other (fault.Number row column) _ (λ q. cc)

ratio-other : (row column : ℕ) (fields : List (List ℕ)) → NotHeader (ratio_of_column row column fields)
unfolding ratio_of_column
ratio-other row column fields = or-other (fault.Number row column) _ (λ q. cc)

flash-other : (row column : ℕ) (fields : List (List ℕ)) → NotHeader (flash_of_column row column fields)
unfolding flash_of_column
flash-other row column fields = bind-other (count_of_column row column fields) _ (count-other row column fields) (λ n. if-other (n == 0) _ _ (λ q. cc) (λ q. cc))

if-there-other : (row : ℕ) (column : Option ℕ) (fields : List (List ℕ)) → NotHeader (count_if row column fields)
if-there-other row None fields = ok-other 0
if-there-other row (Some column) fields = count-other row column fields

sizes-other : (places : ConfigurationPlaces) (row : ℕ) (fields : List (List ℕ)) → NotHeader (sizes_of places row fields)
unfolding sizes_of
sizes-other places row fields =
    bind-other (count_of_column row places.sections fields) _ (count-other row places.sections fields)
    (λ a. bind-other (count_of_column row places.block fields) _ (count-other row places.block fields)
    (λ b. bind-other (count_of_column row places.edge_blocks fields) _ (count-other row places.edge_blocks fields)
    (λ c. bind-other (count_of_column row places.origin_blocks fields) _ (count-other row places.origin_blocks fields)
    (λ d. bind-other (count_if row places.edges fields) _ (if-there-other row places.edges fields)
    (λ e. bind-other (count_if row places.origins fields) _ (if-there-other row places.origins fields)
    (λ f. bind-other (count_if row places.up fields) _ (if-there-other row places.up fields)
    (λ g. bind-other (count_if row places.down fields) _ (if-there-other row places.down fields)
    (λ h. bind-other (count_if row places.back fields) _ (if-there-other row places.back fields)
    (λ i. ok-other _)))))))))

configuration-other : (places : Option ConfigurationPlaces) (row : ℕ) (fields : List (List ℕ)) → NotHeader (configuration_of places row fields)
unfolding configuration_of
configuration-other None row fields = ok-other _
configuration-other (Some places) row fields = bind-other (sizes_of places row fields) some_value (sizes-other places row fields) (λ n. ok-other _)

ticks-other : (places : IntervalPlaces) (row : ℕ) (fields : List (List ℕ)) → NotHeader (ticks_of places row fields)
unfolding ticks_of
ticks-other places row fields =
    bind-other (count_of_column row places.from fields) _ (count-other row places.from fields)
    (λ a. bind-other (count_of_column row places.to fields) _ (count-other row places.to fields)
    (λ b. if-other (nat_lt a b) _ _ (ok-other _) (err-other (fault.Number row places.to) (λ q. cc))))

interval-other : (places : Option IntervalPlaces) (row : ℕ) (fields : List (List ℕ)) → NotHeader (interval_of places row fields)
unfolding interval_of
interval-other None row fields = ok-other _
interval-other (Some places) row fields = bind-other (ticks_of places row fields) some_value (ticks-other places row fields) (λ n. ok-other _)

figures-other : (places : FigurePlaces) (row : ℕ) (fields : List (List ℕ)) → NotHeader (figures_of places row fields)
unfolding figures_of
figures-other places row fields =
    bind-other (ratio_of_column row places.hit_ratio fields) _ (ratio-other row places.hit_ratio fields)
    (λ a. bind-other (ratio_of_column row places.byte_hit_ratio fields) _ (ratio-other row places.byte_hit_ratio fields)
    (λ b. bind-other (flash_of_column row places.flash_bytes fields) _ (flash-other row places.flash_bytes fields)
    (λ c. bind-other (count_of_column row places.written_bytes fields) _ (count-other row places.written_bytes fields)
    (λ d. bind-other (count_of_column row places.backend_requests fields) _ (count-other row places.backend_requests fields)
    (λ e. ok-other _)))))

backend-other : (place : Option ℕ) (row : ℕ) (fields : List (List ℕ)) → NotHeader (backend_bytes_of place row fields)
unfolding backend_bytes_of
backend-other None row fields = ok-other _
backend-other (Some column) row fields = bind-other (count_of_column row column fields) some_value (count-other row column fields) (λ n. ok-other _)

-- ---- a row, and all of them
sample-other : (places : Places) (row : ℕ) (fields : List (List ℕ)) → NotHeader (sample_of places row fields)
unfolding sample_of
sample-other places row fields =
    if-other _ _ _
    (bind-other (configuration_of places.configuration row fields) _ (configuration-other places.configuration row fields)
    (λ a. bind-other (interval_of places.interval row fields) _ (interval-other places.interval row fields)
    (λ b. bind-other (or_plot_fault (fault.Caches row) (caches_of_column places.caches fields)) _ (or-other (fault.Caches row) (caches_of_column places.caches fields) (λ q. cc))
    (λ c. bind-other (figures_of places.figures row fields) _ (figures-other places.figures row fields)
    (λ d. bind-other (backend_bytes_of places.backend_bytes row fields) _ (backend-other places.backend_bytes row fields)
    (λ e. ok-other _))))))
    (err-other (fault.RowLength row) (λ q. cc))

before-other : (b : Bool) (d : DrawnRow) (r : OrPlotFault (List DrawnRow)) → NotHeader r → NotHeader (drawn_before b d r)
before-other true d (Ok ds) h = λ q. cc
before-other false d (Ok ds) h = λ q. cc
before-other true d (Err e) h = h
before-other false d (Err e) h = h

rows-left-other : (places : Places) (drawn : Option Caches) (most n : ℕ) (rs : List (List (List ℕ))) → NotHeader (drawn_of places drawn most n rs)
unfolding drawn_of
rows-left-other places drawn most n [] = λ q. cc
rows-left-other places drawn most n (r ∷ rs) =
    if-other (n == most) _ _ (err-other fault.TooManyRows (λ q. cc))
    (bind-other (sample_of places n r) _ (sample-other places n r)
    (λ s. before-other (is_drawn drawn s.caches) (drawn_row (policy_of_fields places.configuration r) s) (drawn_of places drawn most (n + 1) rs) (rows-left-other places drawn most (n + 1) rs)))

some-other : (ds : List DrawnRow) → NotHeader (some_rows ds)
some-other [] q = cc
some-other (d ∷ ds) q = cc

rows-other : (drawing : Drawing) (rs : List (List (List ℕ))) (places : Places) → NotHeader (rows_drawn drawing rs places)
unfolding rows_drawn
rows-other drawing rs places =
    let drawn = drawn_caches places.layout drawing.caches in
    if-other (lacks_measure places.backend_bytes drawing.measure) _ _ (err-other fault.NoBackendBytes (λ q. cc))
    (if-other (lacks_flash_axis places.layout drawing.x) _ _ (err-other fault.NoFlashAxis (λ q. cc))
    (bind-other (drawn_of places drawn most_lines 0 rs) some_rows (rows-left-other places drawn most_lines 0 rs) some-other))

pub header-told : (drawing : Drawing) (recs : List (List (List ℕ))) → (table_of drawing recs ≡ Err fault.Header) ↔ (has_table_header recs ≡ false)
unfolding table_of
header-told drawing [] = (λ q. refl, λ q. refl)
header-told drawing (h ∷ rs) = by (table_places h)
  where
    by : (o : Option Places) → ((or_plot_fault fault.Header o >>= rows_drawn drawing rs) ≡ Err fault.Header) ↔ (is_layout (layout_at o) ≡ false)
    by None = (λ q. refl, λ q. refl)
    by (Some places) = (λ q. absurd (rows-other drawing rs places q), λ q. cc)

-- a fault of the header that is passed on
pub header-passed : {T : Type 0} (drawing : Drawing) (recs : List (List (List ℕ))) (r : Result T PlotFault) (e : PlotFault) → IsErrAnd r (λ f. f ≡ e) → (e ≢ fault.Memory → table_of drawing recs ≡ Err e)
    → IfErr r (λ f. f ≡ fault.Header → has_table_header recs ≡ false)
header-passed drawing recs (Ok v) e is h = tt
header-passed drawing recs (Err f) e is h = λ same.
    let header : e ≡ fault.Header = sym is ∙ same in
    (header-told drawing recs).0 (subst (λ x. table_of drawing recs ≡ Err x) header (h (λ memory. let no : fault.Header ≡ fault.Memory = sym header ∙ memory in cc)))
